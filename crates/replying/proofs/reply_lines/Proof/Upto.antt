-- What holds before each line of `reply_lines`: those before it have their replies, and what does not change is as it was.
use mathlib.Core.Path.{◌≡◌, refl, subst}
use mathlib.Core.List.{List}
use Prim.Native.Nat.{ℕ, ◌+◌, ◌-◌, ◌*◌, ◌≤◌, ◌<◌}
use native.Mathlib.Omega.{arith}
use native.Mathlib.Numerals.{add-one}
use lib.ListN.{length, get_or}
use Rattle.lines.specs.declared.Line.{Line}
use Rattle.line_numbers.specs.Numbers.{line_in}
use Rattle.state.specs.World.{World}
use Rattle.roll.specs.Known.{Known}
use Rattle.roll.specs.Play.{Replied}
use Rattle.replying.specs.declared.Playing.{Playing}
use Rattle.replying.specs.Playing.{played_by, RepliedTo}
use Rattle.replying.proofs.reply_lines.Tie as tie

pub record SoFar (image numbers : List ℕ) (pool₀ table₀ out₀ : List ℕ) (p₀ : Playing) (i : ℕ) (pool table out : List ℕ) (p : Playing) : Type 0 where
  pub pool_kept : length pool ≡ length pool₀
  pub table_kept : length table ≡ length table₀
  pub out_kept : length out ≡ length out₀
  pub first : p.first ≡ p₀.first
  pub answered : p.answered ≡ p₀.answered + i
  pub sound : p.sound ≡ p₀.sound
  pub four : length p.sandboxes ≡ 4
  pub bytes : (j : ℕ) → get_or pool j 0 < 256
  pub known : Known p.sound image (played_by p pool table)
  pub replied : RepliedTo image numbers p₀.first p₀.answered (played_by p₀ pool₀ table₀) out₀ i out (played_by p pool table)

abbrev pub Inv-loop : tie.invariant-loop-i
Inv-loop pool₀ table₀ image numbers out₀ playing₀ n i₀ pool table out playing i =
    (i ≤ n) × SoFar image numbers pool₀ table₀ out₀ playing₀ i pool table out playing

abbrev pub μ-loop : tie.decreases-loop-i
μ-loop pool₀ table₀ image numbers out₀ playing₀ n i₀ pool table out playing i = n - i

-- ---- lines replied to

module _ (image numbers : List ℕ) (first k : ℕ) (w : World) (out₀ : List ℕ) where
  pub replied-none : RepliedTo image numbers first k w out₀ 0 out₀ w
  unfolding RepliedTo
  replied-none = (refl, refl)

  -- one more, under its number and at its place
  pub replied-more : (i : ℕ) (out out' : List ℕ) (v u : World) (line : Line) (f at : ℕ) → RepliedTo image numbers first k w out₀ i out v
      → line ≡ line_in numbers i → f ≡ first → at ≡ k + i → Replied image v line (f + at) (at * 19) out out' u
      → RepliedTo image numbers first k w out₀ (i + 1) out' u
  unfolding RepliedTo
  replied-more i out out' v u line f at so e g h r =
      rw add-one (record { out_then = out; world_then = v; so = so; replied = rw (← e, ← h, ← g) r })

  -- as many as there are
  pub replied-all : (i n : ℕ) (out : List ℕ) (v : World) → i ≡ n → RepliedTo image numbers first k w out₀ i out v
      → RepliedTo image numbers first k w out₀ n out v
  replied-all i n out v e so = subst (λ m. RepliedTo image numbers first k w out₀ m out v) e so

-- the reply of the next line has room, and its number
pub room : (k n i at len len' : ℕ) → (k + n) * 19 ≤ len → at ≡ k + i → i < n → len' ≡ len → at * 19 + 19 ≤ len'
room k n i at len len' l e m s = omega (arith, l, e, m, s)

pub numbered : (first f k n i at : ℕ) → first + (k + n) ≤ 1000000 → f ≡ first → at ≡ k + i → i < n → f + at ≤ 999999
numbered first f k n i at l e h m = omega (arith, l, e, h, m)
