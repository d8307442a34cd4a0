-- What is done in each case leaves the page rewound, and tells whether it differed.
use mathlib.Core.Path.{◌≡◌, refl, sym, ap, ◌∙◌}
use mathlib.Core.Bool.{Bool, true, false}
use mathlib.Core.List.{List}
use Prim.Native.Nat.{ℕ, zero, suc, ◌-◌, ◌<◌}
use native.Mathlib.Omega.{arith}
use Rattle.interface.specs.declared.page.Backing.{Backing}
use Rattle.interface.specs.declared.page.ImagePageNo.{ImagePageNo}
use Rattle.pages.specs.Parts.{frame, set_frame, zeros, differs}
use Rattle.table.specs.Store.{Store, kept, entry, page_in, contents, page_from, fill}
use Rattle.table.specs.Backing.{backing_page}
use Rattle.table.proofs.StoreLaws.{contents-none}
use Rattle.table.proofs.PageLaws.{page-there, fill-some}
use Rattle.rewind_cases.specs.declared.RewindCase.{RewindCase}
use Rattle.rewind_cases.specs.declared.RewindCase.TheVariants.{Shared, Copied, Zeroed, ImagePage}
use Rattle.rewind_cases.specs.Rewind.{case_of, restore_page, rewind_page}
use Rattle.rewind_cases.proofs.CaseLaws.{met}
use Rattle.page_restore.specs.Differs.{front_differs, page_differs}

-- ---- whether a page differs

-- a page without a front
pub none-differs : (size k j : ℕ) (bytes : List ℕ) (s : Store) → entry s k ≡ 0 → page_differs size k j bytes s ≡ false
none-differs size k j bytes s e = rw (contents-none size s k e)

-- a page with one, as the code finds it
front-differs : (size k j : ℕ) (bytes : List ℕ) (s : Store) (d : Bool) → 0 < entry s k
    → d ≡ differs size (frame size s.pool (entry s k - 1)) (page_from bytes (page_in size s.pool (entry s j))) → d ≡ page_differs size k j bytes s
unfolding contents
front-differs size k j bytes s d some e = e ∙ go (entry s k) some
  where
    go : (front : ℕ) → 0 < front → differs size (frame size s.pool (front - 1)) (page_from bytes (page_in size s.pool (entry s j)))
        ≡ front_differs size (page_from bytes (page_in size s.pool (entry s j))) (page_in size s.pool front)
    go zero l = absurd (omega arith)
    go (suc f) l = let m : suc f - 1 ≡ f = omega arith in rw m

-- ---- the cases, of the front entry k and the back entry j

module _ (image : List ℕ) (k j : ℕ) (b : Backing) (s : Store) where
  -- what is left, and what is told
  abbrev pub Restored : List ℕ → Bool → Type 0
  Restored pool d =
      (kept s.marks pool s.table ≡ rewind_page image k j true b s) × (d ≡ page_differs 256 k j (backing_page image b) s)

  module _ (c : RewindCase) (is : c ≡ case_of (entry s k) (entry s j) b) where
    by-case : (r : Store) → r ≡ restore_page image k j c s → r ≡ rewind_page image k j true b s
    unfolding rewind_page
    by-case r e = e ∙ ap (λ (x : RewindCase). restore_page image k j x s) is

  pub shared-left : Shared ≡ case_of (entry s k) (entry s j) b → Restored s.pool false
  unfolding restore_page
  shared-left is = (by-case Shared is _ refl, sym (none-differs 256 k j (backing_page image b) s (met (entry s k) (entry s j) b Shared is)))

  module _ (pool : List ℕ) (d : Bool) where
    -- its front got these bytes, and was compared with them
    abbrev pub Filled : List ℕ → Type 0
    Filled got = (pool ≡ set_frame 256 s.pool (entry s k - 1) got) × (d ≡ differs 256 (frame 256 s.pool (entry s k - 1)) got)

    filled : (c : RewindCase) → c ≡ case_of (entry s k) (entry s j) b → (got : List ℕ) → fill 256 k got s ≡ restore_page image k j c s → 0 < entry s k
        → got ≡ page_from (backing_page image b) (page_in 256 s.pool (entry s j)) → Filled got → Restored pool d
    filled c is got told some same f = (
      by-case c is _ (fill-some 256 k got s (entry s k) pool refl some f.0 ∙ told),
      front-differs 256 k j (backing_page image b) s d some (rw same at f.1),
    )

    pub copied-left : Copied ≡ case_of (entry s k) (entry s j) b → Filled (frame 256 s.pool (entry s j - 1)) → Restored pool d
    unfolding restore_page
    copied-left is f =
        let m = met (entry s k) (entry s j) b Copied is in
        filled Copied is _ refl m.0 (page-there 256 s.pool (backing_page image b) (entry s j) (λ z. omega (arith, m.1, z))) f

    pub zeroed-left : Zeroed ≡ case_of (entry s k) (entry s j) b → Filled (zeros 256) → Restored pool d
    unfolding restore_page
    zeroed-left is f = let m = met (entry s k) (entry s j) b Zeroed is in filled Zeroed is _ refl m.0 (rw (m.1, m.2)) f

    pub image-left : (page : ImagePageNo) → ImagePage page ≡ case_of (entry s k) (entry s j) b → Filled (frame 256 image page.0) → Restored pool d
    unfolding restore_page
    image-left page is f = let m = met (entry s k) (entry s j) b (ImagePage page) is in filled (ImagePage page) is _ refl m.0 (rw (m.1, m.2)) f
