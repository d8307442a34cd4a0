-- The definition that there was before the cases, and that the one by cases makes the same of every store, whether it is sound or not. What a front holds then
-- is said in its words too: the laws of a run and of the plain machine's marks go by front, back and backing.
use mathlib.Core.Path.{◌≡◌, refl, sym, ap, ◌∙◌}
use mathlib.Core.Bool.{Bool, true, false}
use mathlib.Core.Option.{Option, none}
use mathlib.Core.List.{List}
use Prim.Native.Nat.{ℕ, zero, suc, ◌+◌, ◌-◌}
use native.Mathlib.Omega.{arith}
use Rattle.basics.specs.Choice.{◌when◌else◌}
use Rattle.interface.specs.declared.page.Backing.{Backing}
use Rattle.interface.specs.declared.page.Backing.TheVariants.{Anonymous, Image}
use Rattle.table.specs.Store.{Store, entry, contents, over_page, page_from, free, fill}
use Rattle.table.specs.Backing.{backing_page}
use Rattle.table.proofs.StoreLaws.{contents-none, contents-some, fill_none}
use Rattle.table.proofs.PageLaws.{page-there}
use Rattle.rewind_cases.specs.Rewind.{case_of, restore_page, rewind_page, rewind_to}
use Rattle.rewind_cases.specs.Cases.{front_then}

-- ---- the definition of before, over pages of size bytes

-- the front entry k of a page with the back entry j is rewound: it 'keeps its front, whose bytes become the snapshot's', or gives it up
abbrev pub page_before : ℕ → ℕ → ℕ → Bool → List ℕ → Store → Store
page_before size k j keep bytes s = fill size k (page_from bytes (contents size s j)) s when keep else free size k s

-- what a rewound front then holds, of what front and back held before
abbrev pub front_before : Bool → List ℕ → Option (List ℕ) → Option (List ℕ) → Option (List ℕ)
front_before keep bytes back front = over_page (λ page. page_from bytes back) front when keep else none

-- the first n pages of the sandbox whose entries start at first; which keep their fronts, and the bytes of those without a back
unfoldable pub rewound_before : ℕ → ℕ → (ℕ → Bool) → (ℕ → List ℕ) → Store → ℕ → Store
rewound_before size first keep bytes s zero = s
rewound_before size first keep bytes s (suc n) =
    page_before size (first + n) (first + n + 64) (keep n) (bytes n) (rewound_before size first keep bytes s n)

-- ---- it is the one by cases

module _ (image : List ℕ) (k j : ℕ) (s : Store) where
  -- by the front entry, the back entry and the backing
  filled : (front back : ℕ) (backing : Backing) → entry s k ≡ front → entry s j ≡ back
      → restore_page image k j (case_of front back backing) s ≡ fill 256 k (page_from (backing_page image backing) (contents 256 s j)) s
  unfolding restore_page contents
  filled zero back backing e d = sym (fill_none 256 k _ s e)
  filled (suc f) (suc b) backing e d =
      ap (λ (page : List ℕ). fill 256 k page s) (page-there 256 s.pool (backing_page image backing) (entry s j) (λ z. omega (arith, d, z)))
  filled (suc f) zero Anonymous e d = rw (contents-none 256 s j d)
  filled (suc f) zero (Image page) e d = rw (contents-none 256 s j d)

  pub page-before : (keep : Bool) (backing : Backing) → rewind_page image k j keep backing s ≡ page_before 256 k j keep (backing_page image backing) s
  unfolding rewind_page
  page-before true backing = filled (entry s k) (entry s j) backing refl refl
  page-before false backing = refl

  -- what a front then holds
  front-filled : (front back : ℕ) (backing : Backing) → entry s k ≡ front → entry s j ≡ back
      → front_then image (contents 256 s j) (case_of front back backing) ≡ front_before true (backing_page image backing) (contents 256 s j) (contents 256 s k)
  front-filled zero back backing e d = rw (contents-none 256 s k e)
  front-filled (suc f) (suc b) backing e d = rw (contents-some 256 s k f e, contents-some 256 s j b d)
  front-filled (suc f) zero Anonymous e d = rw (contents-some 256 s k f e, contents-none 256 s j d)
  front-filled (suc f) zero (Image page) e d = rw (contents-some 256 s k f e, contents-none 256 s j d)

  pub front-before : (backing : Backing) → front_then image (contents 256 s j) (case_of (entry s k) (entry s j) backing)
      ≡ front_before true (backing_page image backing) (contents 256 s j) (contents 256 s k)
  front-before backing = front-filled (entry s k) (entry s j) backing refl refl

pub to-before : (image : List ℕ) (first : ℕ) (keep : ℕ → Bool) (backing : ℕ → Backing) (s : Store) (n : ℕ)
    → rewind_to image first keep backing s n ≡ rewound_before 256 first keep (λ i. backing_page image (backing i)) s n
unfolding rewind_to rewound_before
to-before image first keep backing s zero = refl
to-before image first keep backing s (suc n) =
    page-before image (first + n) (first + n + 64) (rewind_to image first keep backing s n) (keep n) (backing n)
    ∙ ap (page_before 256 (first + n) (first + n + 64) (keep n) (backing_page image (backing n))) (to-before image first keep backing s n)
