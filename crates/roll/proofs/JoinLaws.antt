-- Parts of a roll, played one after the other, are one roll played.
use mathlib.Core.Path.{◌≡◌, refl, sym, ap, ◌∙◌}
use mathlib.Core.List.{List, [], ◌∷◌, ◌++◌, append_assoc, append-nil}
use Prim.Native.Nat.{ℕ, zero, suc, ◌+◌, ◌*◌, ◌≤◌}
use native.Mathlib.Omega.{arith}
use native.Mathlib.Nat.{add-zero, add-suc}
use lib.ListN.{length, take, drop, length-append, length-drop}
use lib.Seq.{take_at, drop-nil, drop-append-le, drop-append-add, take-append-le}
use Rattle.lines.specs.Lines.{line_at, lines_of}
use Rattle.state.specs.World.{World}
use Rattle.roll.specs.Play.{lines_in, replies, printed, Played}
use Rattle.roll.specs.Join.{WholeLines, Joins, CountsOn}
use Rattle.roll.proofs.PlayLaws.{run-append, run_length, requests-append, replies-append, printed-append, printed-length, fits-append, a-reply-each}

-- ---- lines

module _ (whole rest : List ℕ) where
  line_before : (k : ℕ) → suc k * 43 ≤ length whole → line_at (whole ++ rest) k ≡ line_at whole k
  unfolding line_at
  line_before k h =
      rw (drop-append-le (k * 43) whole rest (omega arith), take-append-le 43 (drop (k * 43) whole) rest (rw (length-drop (k * 43) whole) (omega arith)))

  lines-before : (n : ℕ) → n * 43 ≤ length whole → lines_in (whole ++ rest) n ≡ lines_in whole n
  unfolding lines_in
  lines-before zero h = refl
  lines-before (suc n) h = rw (lines-before n (omega arith), line_before n h)

  module _ (n : ℕ) (all : WholeLines n whole) where
    line-behind : (k : ℕ) → line_at (whole ++ rest) (n + k) ≡ line_at rest k
    unfolding line_at
    line-behind k =
        let place : (n + k) * 43 ≡ length whole + k * 43 = omega arith in
        rw (place, drop-append-add whole rest (k * 43))

    lines-joined : (k : ℕ) → lines_in (whole ++ rest) (n + k) ≡ lines_in whole n ++ lines_in rest k
    unfolding lines_in
    lines-joined zero = rw add-zero (lines-before n (omega arith) ∙ sym (append-nil (lines_in whole n)))
    lines-joined (suc k) = rw (add-suc, lines-joined k, line-behind k) (append_assoc (lines_in whole n) (lines_in rest k) (line_at rest k ∷ []))

pub counts-on : CountsOn
unfolding lines_of
counts-on whole rest n all few = rw (length-append whole rest) (omega (arith, all, few))

-- ---- played

-- what is printed, apart from what stands behind it
pub played-alone : (image roll out₀ out : List ℕ) (n first : ℕ) (w v : World)
    → Played image w roll n first out₀ out v → Played image w roll n first [] (take (n * 19) out) v
played-alone image roll out₀ out n first w v p =
    let front : List ℕ = printed first (replies (lines_in roll n) p.answers) in
    let count : length (replies (lines_in roll n) p.answers) ≡ n = a-reply-each image w roll n first out₀ out v p in
    let big : length front ≡ n * 19 = printed-length first (replies (lines_in roll n) p.answers) ∙ ap (λ k. k * 19) count in
    record {
      answers = p.answers;
      run = p.run;
      fits = p.fits;
      prints =
          ap (take (n * 19)) p.prints ∙ take_at front (drop (n * 19) out₀) (n * 19) big
          ∙ sym (append-nil front) ∙ ap (λ l. front ++ l) (sym (drop-nil (n * 19)));
    }

pub joins : Joins
joins image whole rest out₁ out₂ n k first w v u all p q =
    let ls = lines_in whole n in
    let ms = lines_in rest k in
    let as' = p.answers in
    let bs = q.answers in
    let lines : lines_in (whole ++ rest) (n + k) ≡ ls ++ ms = lines-joined whole rest n all k in
    let told : replies (ls ++ ms) (as' ++ bs) ≡ replies ls as' ++ replies ms bs = replies-append ls ms as' bs (run_length p.run) in
    let count : length (replies ls as') ≡ n = a-reply-each image w whole n first [] out₁ v p in
    let front : out₁ ≡ printed first (replies ls as') = p.prints ∙ ap (λ l. printed first (replies ls as') ++ l) (drop-nil (n * 19)) ∙ append-nil _ in
    let back : out₂ ≡ printed (first + n) (replies ms bs) = q.prints ∙ ap (λ l. printed (first + n) (replies ms bs) ++ l) (drop-nil (k * 19)) ∙ append-nil _ in
    record {
      answers = as' ++ bs;
      run = rw (lines, requests-append ls ms) (run-append p.run q.run);
      fits = rw (lines, told) (fits-append first (replies ls as') (replies ms bs) p.fits (rw count q.fits));
      prints =
          rw (front, back)
          (sym (rw (lines, told, drop-nil ((n + k) * 19), append-nil, printed-append first (replies ls as') (replies ms bs), count) refl));
    }
