-- Lines read and played one after the other are one roll played.
use mathlib.Core.Path.{◌≡◌, refl, sym, ap, subst, ◌∙◌}
use mathlib.Core.Bool.{Bool, true, false, not}
use mathlib.Core.List.{List, [], ◌++◌, append_assoc, append-nil}
use Prim.Native.Nat.{ℕ, ◌+◌, ◌*◌, ◌≤◌, ◌<◌}
use native.Mathlib.Omega.{arith}
use lib.ListN.{length, take, length-append}
use lib.Dec.{eqb}
use borrow.Author.Tests.{eqb-true, eqb-false, not-true, not-false}
use Rattle.lines.specs.Lines.{lines_of}
use Rattle.state.specs.World.{World}
use Rattle.roll.specs.Known.{Known}
use Rattle.roll.specs.Play.{Played}
use Rattle.playing.proofs.AheadLaws.{few-lines}
use Rattle.roll.specs.Join.{WholeLines}
use Rattle.roll.proofs.PlayLaws.{played-none}
use Rattle.roll.proofs.KnownLaws.{known-played}
use Rattle.roll.proofs.JoinLaws.{joins, counts-on, played-alone}
use Rattle.roll.specs.Input.{LinesRead, full as all, last, next, RollPlayed}

-- the lines before this number, each of 43 bytes, are played; whatever is read from it on is read behind them
pub record SoFar (image : List ℕ) (w : World) (number : ℕ) (v : World) : Type 0 where
  pub roll : List ℕ
  pub replies : List ℕ
  pub lines : ℕ
  pub numbered : number ≡ 1 + lines
  pub whole : WholeLines lines roll
  pub behind : (rest : List ℕ) → LinesRead number rest → LinesRead 1 (roll ++ rest)
  pub played : Played image w roll lines 1 [] replies v

pub none_so_far : (image : List ℕ) (w : World) → SoFar image w 1 w
none_so_far image w = record {
  roll = [];
  replies = [];
  lines = 0;
  numbered = refl;
  whole = refl;
  behind = λ rest r. r;
  played = played-none image [] [] w 1;
}

-- at most 43 bytes are a whole line where the test says so, and fewer where it does not
pub short-line : (bytes : ℕ) (whole : Bool) → whole ≡ eqb bytes 43 → bytes ≤ 43 → not whole ≡ true → bytes < 43
short-line bytes whole is few e = let other = eqb-false bytes 43 (sym is ∙ not-true whole e) in omega (arith, few, other)

pub whole-line : (bytes : ℕ) (whole : Bool) → whole ≡ eqb bytes 43 → not whole ≡ false → bytes ≡ 43
whole-line bytes whole is e = eqb-true bytes 43 (sym is ∙ not-false whole e)

a-line : (bytes : ℕ) → bytes ≡ 43 → lines_of bytes ≡ 1
unfolding lines_of
a-line bytes h = rw h refl

all_lines : (bytes : ℕ) → bytes ≡ 65535 * 43 → lines_of bytes ≡ 65535
unfolding lines_of
all_lines bytes h = rw h refl

module _ (image : List ℕ) (w : World) (number : ℕ) (v : World) (so : SoFar image w number v) where
  -- whether the state is sound is known after it, as it was before
  pub known-so-far : (s : Bool) → Known s image w → Known s image v
  known-so-far s k = known-played s image w so.roll so.lines 1 [] so.replies v k so.played

  -- what follows is joined to it
  joined : (rest out₀ out : List ℕ) (u : World) → Played image v rest (lines_of (length rest)) number out₀ out u
      → Played image w (so.roll ++ rest) (so.lines + lines_of (length rest)) 1 [] (so.replies ++ take (lines_of (length rest) * 19) out) u
  joined rest out₀ out u p =
      let n = lines_of (length rest) in
      let alone = played-alone image rest out₀ out n number v u p in
      joins image so.roll rest so.replies (take (n * 19) out) so.lines n 1 w v u so.whole so.played
      (subst (λ k. Played image v rest n k [] (take (n * 19) out) u) so.numbered alone)

  -- a short last line, or none
  pub ended : number ≤ 65535 → (rest out₀ out : List ℕ) (u : World) → length rest < 43 → Played image v rest (lines_of (length rest)) number out₀ out u
      → RollPlayed image w u
  ended low rest out₀ out u few p =
      let one = few-lines (length rest) (omega (arith, few)) in
      let count = counts-on so.roll rest so.lines so.whole (omega (arith, one, low, so.numbered)) in
      record {
        roll = so.roll ++ rest;
        read = so.behind rest (last rest low few);
        replies = so.replies ++ take (lines_of (length rest) * 19) out;
        played = rw count (joined rest out₀ out u p);
      }

  -- another whole line
  pub one_more : number ≤ 65535 → (rest out₀ out : List ℕ) (u : World) → length rest ≡ 43 → Played image v rest (lines_of (length rest)) number out₀ out u
      → SoFar image w (number + 1) u
  one_more low rest out₀ out u long p = record {
    roll = so.roll ++ rest;
    replies = so.replies ++ take (lines_of (length rest) * 19) out;
    lines = so.lines + 1;
    numbered = omega (arith, so.numbered);
    whole = rw (length-append so.roll rest) (omega (arith, so.whole, long));
    behind = λ more r. rw (append_assoc so.roll rest more) (so.behind (rest ++ more) (next rest more low long r));
    played = subst (λ n. Played image w (so.roll ++ rest) (so.lines + n) 1 [] (so.replies ++ take (lines_of (length rest) * 19) out) u)
        (a-line (length rest) long) (joined rest out₀ out u p);
  }

  -- "Lines after the 65,535th are not read."
  pub full : number ≡ 65536 → RollPlayed image w v
  full e =
      let count : so.lines ≡ 65535 = omega (arith, e, so.numbered) in
      let n = all_lines (length so.roll) (so.whole ∙ ap (λ k. k * 43) count) in
      let read : LinesRead 1 (so.roll ++ []) = so.behind [] (subst (λ k. LinesRead k []) (sym e) all) in
      record { roll = so.roll; read = rw (append-nil so.roll) at read; replies = so.replies; played = rw (n, ← count) so.played }
