-- The test of all pages is that of the snapshot's marks, of the backing of committed pages, of the fronts and of the backs, each of all pages.
use Prim.Native.Nat.{ℕ, ◌+◌, ◌*◌}
use mathlib.Core.Path.{◌≡◌, sym, ap, ◌∙◌}
use mathlib.Core.Bool.{Bool, true, false, ◌&&◌}
use mathlib.Core.List.{List}
use native.Mathlib.Omega.{arith}
use lib.ListN.{get_or}
use Rattle.basics.specs.Choice.{implies}
use Rattle.basics.specs.Ranges.{every}
use Rattle.frames.specs.declared.Held.{Held}
use Rattle.interface.specs.declared.page.Slot.{Slot}
use Rattle.interface.specs.Slots.{is_mapped, is_committed, backing_at, follows}
use Rattle.table.specs.Store.{kept, front_of, back_of}
use Rattle.areas.specs.declared.area.Areas.{Areas}
use Rattle.areas.specs.Areas.{slots}
use Rattle.page_test.specs.Pages.{page_ok, pages_ok}
use Rattle.committed_pages.specs.Parts.{mark_ok, backing_ok}
use Rattle.committed_pages.proofs.RestLaws.{every-alike, every-and, and_assoc}
use Rattle.page_soundness.specs.Entries.{entry_ok}

page-split : (p c : Slot) (front back : ℕ) → page_ok p c front back ≡ (mark_ok c && (backing_ok p c && (entry_ok p front && entry_ok c back)))
unfolding page_ok
page-split p c front back =
    ap (λ (x : Bool). mark_ok c && x)
    (and_assoc (implies (is_committed p) (is_mapped c)) (implies (is_committed p) (follows (backing_at p) 0 (backing_at c))) (entry_ok p front && entry_ok c back))

module _ (present snapshot : Areas) (t : List ℕ) (s : ℕ) where
  -- of each page
  abbrev marked : ℕ → Bool
  marked i = mark_ok (slots snapshot i)

  abbrev backed : ℕ → Bool
  backed i = backing_ok (slots present i) (slots snapshot i)

  abbrev front : ℕ → Bool
  front i = entry_ok (slots present i) (get_or t (s * 128 + i) 0)

  abbrev back : ℕ → Bool
  back i = entry_ok (slots snapshot i) (get_or t (s * 128 + 64 + i) 0)

  module _ (h : Held) (pool : List ℕ) where
    split : pages_ok (kept h pool t) s present snapshot ≡ (every marked 0 64 && (every backed 0 64 && (every front 0 64 && every back 0 64)))
    unfolding pages_ok
    split =
        every-alike _ (λ i. marked i && (backed i && (front i && back i))) 0 64
        (λ i l u. page-split (slots present i) (slots snapshot i) (get_or t (front_of s i) 0) (get_or t (back_of s i) 0)
        ∙ ap (λ (k : ℕ). marked i && (backed i && (front i && entry_ok (slots snapshot i) (get_or t k 0)))) (omega arith))
        ∙ every-and marked (λ i. backed i && (front i && back i)) 0 64
        ∙ ap (λ (x : Bool). every marked 0 64 && x) (every-and backed (λ i. front i && back i) 0 64
        ∙ ap (λ (x : Bool). every backed 0 64 && x) (every-and front back 0 64))

    -- a law for each way out
    pub marks-fail : every marked 0 64 ≡ false → false ≡ pages_ok (kept h pool t) s present snapshot
    marks-fail f = sym (split ∙ rw f)

    module _ (m : every marked 0 64 ≡ true) where
      pub backing-fails : every backed 0 64 ≡ false → false ≡ pages_ok (kept h pool t) s present snapshot
      backing-fails f = sym (split ∙ rw (m, f))

      module _ (b : every backed 0 64 ≡ true) where
        pub fronts-fail : every front 0 64 ≡ false → false ≡ pages_ok (kept h pool t) s present snapshot
        fronts-fail f = sym (split ∙ rw (m, b, f))

        pub backs-decide : every front 0 64 ≡ true → every back 0 64 ≡ pages_ok (kept h pool t) s present snapshot
        backs-decide f = sym (split ∙ rw (m, b, f))
