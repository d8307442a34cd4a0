-- The test of a state, by each of its ways out.
use Prim.Native.Nat.{ℕ}
use mathlib.Core.Path.{◌≡◌, sym, ◌∙◌}
use mathlib.Core.Bool.{Bool, true, false, ◌&&◌}
use mathlib.Core.List.{List}
use lib.Dec.{leb}
use lib.ListN.{length}
use Rattle.basics.specs.Ranges.{every}
use Rattle.basics.proofs.TestLaws.{by_cases, both_ways, and_left, and_right, and_both, and-of, and-not-right}
use Rattle.basics.proofs.LoopLaws.{every-at, every_of}
use Rattle.interface.specs.Numbers.{pages_in}
use Rattle.marks.specs.Marks.{marksb}
use Rattle.kept.specs.Test.{spareb}
use Rattle.state.specs.World.{World, sandbox_at, shares_of, frames_of, lengths_ok, rows_of}
use Rattle.soundness.specs.Test.{sandbox_ok, sandboxes_ok, runs_ok_at, kept_ok, soundb}

-- two tests in one pass
every-both : (P Q : ℕ → Bool) (n : ℕ) → every (λ i. P i && Q i) 0 n ≡ (every P 0 n && every Q 0 n)
every-both P Q n =
    both_ways _ _
    (λ h. and-of (every_of P 0 n (λ i a b. and_left (P i) (Q i) (every-at (λ i. P i && Q i) 0 n h i a b)))
    (every_of Q 0 n (λ i a b. and_right (P i) (Q i) (every-at (λ i. P i && Q i) 0 n h i a b))))
    (λ h. let e = and_both (every P 0 n) (every Q 0 n) h in
    every_of (λ i. P i && Q i) 0 n (λ i a b. and-of (every-at P 0 n e.0 i a b) (every-at Q 0 n e.1 i a b)))

module _ (image : List ℕ) (w : World) where
  pub lengths-fail : lengths_ok (length w.store.pool) (length w.store.table) (length image) ≡ false → false ≡ soundb image w
  unfolding soundb
  lengths-fail e = rw e

  -- sandbox s and its runs
  abbrev passes : ℕ → Bool
  passes s = sandbox_ok (pages_in (length image)) w.store s (sandbox_at w s) && runs_ok_at w s

  both : every passes 0 4 ≡ (sandboxes_ok (pages_in (length image)) w && every (runs_ok_at w) 0 4)
  unfolding sandboxes_ok
  both = every-both (λ s. sandbox_ok (pages_in (length image)) w.store s (sandbox_at w s)) (runs_ok_at w) 4

  module _ (lengths : lengths_ok (length w.store.pool) (length w.store.table) (length image) ≡ true) where
    pub marks-fail : marksb (frames_of w) w.store.marks w.store.table ≡ false → false ≡ soundb image w
    unfolding soundb
    marks-fail e = rw (lengths, e)

    module _ (marks : marksb (frames_of w) w.store.marks w.store.table ≡ true) (t : Bool) (is : t ≡ every passes 0 4) where
      pub sandboxes-fail : t ≡ false → false ≡ soundb image w
      unfolding soundb kept_ok
      sandboxes-fail e =
          let all : Bool = sandboxes_ok (pages_in (length image)) w in
          by_cases all (λ h. rw (lengths, marks, h, and-not-right all (every (runs_ok_at w) 0 4) (sym both ∙ sym is ∙ e) h)) (λ h. rw (lengths, marks, h))

      module _ (passed : t ≡ true) (q : Bool) (clean : q ≡ spareb (frames_of w) w.store (rows_of w)) where
        each : (sandboxes_ok (pages_in (length image)) w ≡ true) × (every (runs_ok_at w) 0 4 ≡ true)
        each = and_both (sandboxes_ok (pages_in (length image)) w) (every (runs_ok_at w) 0 4) (sym both ∙ sym is ∙ passed)

        pub spare-fails : q ≡ false → false ≡ soundb image w
        unfolding soundb kept_ok
        spare-fails d = rw (lengths, marks, each.0, each.1, ← clean, d)

        pub shares-decide : q ≡ true → leb (shares_of w) (frames_of w) ≡ soundb image w
        unfolding soundb kept_ok
        shares-decide d = rw (lengths, marks, each.0, each.1, ← clean, d)
