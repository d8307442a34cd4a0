-- A roll that is played up to a line, and then the lines read ahead from there, is played up to behind them.
use mathlib.Core.Path.{◌≡◌, refl, ap, subst, ◌∙◌}
use mathlib.Core.List.{List, ◌++◌}
use Prim.Native.Nat.{ℕ, zero, suc, ◌+◌, ◌-◌, ◌*◌, ◌≤◌, ◌<◌}
use native.Mathlib.Omega.{arith}
use native.Mathlib.Nat.{add-zero, add-suc}
use native.Mathlib.Numerals.{add-one}
use lib.ListN.{length, take, drop, length-drop}
use lib.Seq.{take_all, take_at, drop-drop}
use Rattle.lines.specs.declared.Line.{Line}
use Rattle.lines.specs.Lines.{line_at, lines_of}
use Rattle.line_numbers.specs.Numbers.{line_in}
use Rattle.read_ahead.specs.ReadAhead.{numbers_in}
use Rattle.read_ahead.proofs.AheadLaws.{line-ahead}
use Rattle.state.specs.World.{World}
use Rattle.roll.specs.Play.{Replied, Played}
use Rattle.roll.proofs.PlayLaws.{played-on}
use Rattle.replying.specs.Playing.{RepliedTo}

-- the lines behind the first k of a roll
line-behind : (roll : List ℕ) (k i : ℕ) → line_at (drop (k * 43) roll) i ≡ line_at roll (k + i)
unfolding line_at
line-behind roll k i =
    let place : k * 43 + i * 43 ≡ (k + i) * 43 = omega arith in
    rw (drop-drop, place) refl

-- what was read ahead of a roll from its line k on, and stands at the start of the numbers
pub lines-ahead : (roll last rest more : List ℕ) (k n e : ℕ) → last ≡ numbers_in (take (length roll - k * 43) (drop (k * 43) roll)) n ++ rest
    → length last ≡ e → (i : ℕ) → i < n → line_in (take e (last ++ more)) i ≡ line_at roll (k + i)
lines-ahead roll last rest more k n e is long i less =
    let behind = drop (k * 43) roll in
    let all : take (length roll - k * 43) behind ≡ behind = take_all (length roll - k * 43) behind (rw (length-drop (k * 43) roll) (omega arith)) in
    ap (λ ns. line_in ns i) (take_at last more e long ∙ is) ∙ line-ahead (take (length roll - k * 43) behind) rest n i less
    ∙ ap (λ part. line_at part i) all ∙ line-behind roll k i

module _ (image numbers roll out₀ out : List ℕ) (first k : ℕ) (w₀ w : World) (p : Played image w₀ roll k first out₀ out w) where
  pub played-ahead : (n : ℕ) → ((i : ℕ) → i < n → line_in numbers i ≡ line_at roll (k + i)) → (out' : List ℕ) (v : World)
      → RepliedTo image numbers first k w out n out' v → Played image w₀ roll (k + n) first out₀ out' v
  unfolding RepliedTo
  played-ahead zero ahead out' v r = rw (add-zero, r.0, r.1) p
  played-ahead (suc n) ahead out' v r =
      let before = played-ahead n (λ i l. ahead i (omega (arith, l))) r.out_then r.world_then r.so in
      let here = subst (λ (l : Line). Replied image r.world_then l (first + (k + n)) ((k + n) * 19) r.out_then out' v) (ahead n (omega arith))
      r.replied in
      rw add-suc (rw add-one at (played-on image roll out₀ r.out_then out' w₀ r.world_then v (k + n) first before here))

-- the same where their number and their first line are said otherwise
pub played-then : (image numbers roll out₀ out out' : List ℕ) (first f k n a : ℕ) (w₀ w v : World) → Played image w₀ roll k first out₀ out w
    → ((i : ℕ) → i < n → line_in numbers i ≡ line_at roll (k + i)) → RepliedTo image numbers f k w out n out' v → f ≡ first → a ≡ k + n
    → Played image w₀ roll a first out₀ out' v
played-then image numbers roll out₀ out out' first f k n a w₀ w v p ahead r e h =
    rw h (played-ahead image numbers roll out₀ out first k w₀ w p n ahead out' v (rw (← e) r))

-- a line of the roll starts within it
pub starts : (bytes k : ℕ) → k < lines_of bytes → k * 43 ≤ bytes
unfolding lines_of
starts bytes k h = omega (arith, h)

-- a line at the most has at most one reply
pub few-lines : (bytes : ℕ) → bytes ≤ 43 → lines_of bytes ≤ 1
unfolding lines_of
few-lines bytes h = omega arith
