-- The pages of a sandbox are rewound: what its fronts and what every other entry holds then.
use mathlib.Core.Path.{◌≡◌, refl, ap₂, ◌∙◌}
use mathlib.Core.Logic.{◌⊎◌, inl, inr, ⊎_elim}
use mathlib.Core.Bool.{Bool, true, false}
use mathlib.Core.List.{List}
use Prim.Native.Nat.{ℕ, zero, suc, ◌+◌, ◌*◌, ◌≤◌, ◌<◌}
use native.Mathlib.Omega.{arith}
use lib.ListN.{length}
use Rattle.interface.specs.declared.page.Backing.{Backing}
use Rattle.marks.proofs.NamedLaws.{same_or}
use Rattle.table.specs.Store.{Store, contents, page_from, Tidy}
use Rattle.table.specs.Backing.{backing_page, backing_end}
use Rattle.table.proofs.StoreLaws.{page-whole, free-tidy, free-same, free_other, fill-tidy, fill-same, fill-other}
use Rattle.table.proofs.TouchLaws.{backing-whole}
use Rattle.rewind_cases.specs.Rewind.{rewind_page, rewind_to}
use Rattle.rewind_cases.proofs.BeforeLaws.{front_before, page-before}

-- ---- one page

module _ {C : ℕ → Type 0} (n : ℕ) (image : List ℕ) (s : Store) (t : Tidy C 256 n s) (k j : ℕ) (b : Backing) (fits : backing_end b * 256 ≤ length image) where
  -- the bytes that its front gets
  abbrev got : List ℕ
  got = page_from (backing_page image b) (contents 256 s j)

  whole : length got ≡ 256
  whole = page-whole 256 n s t j (backing_page image b) (backing-whole image b fits)

  pub rewind_page-tidy : (keep : Bool) → Tidy C 256 n (rewind_page image k j keep b s)
  rewind_page-tidy true = rw (page-before image k j s true b) (fill-tidy 256 n s t k got (λ f e. whole))
  rewind_page-tidy false = rw (page-before image k j s false b) (free-tidy 256 n s t k)

  pub rewind_page-same : (keep : Bool)
      → contents 256 (rewind_page image k j keep b s) k ≡ front_before keep (backing_page image b) (contents 256 s j) (contents 256 s k)
  rewind_page-same true = rw (page-before image k j s true b) (fill-same 256 n s t k got (λ f e. whole))
  rewind_page-same false = rw (page-before image k j s false b) (free-same 256 n s t k)

  pub rewind_page-other : (keep : Bool) (i : ℕ) → (i ≡ k → ⊥) → contents 256 (rewind_page image k j keep b s) i ≡ contents 256 s i
  rewind_page-other true i m = rw (page-before image k j s true b) (fill-other 256 n s t k got (λ f e. whole) i m)
  rewind_page-other false i m = rw (page-before image k j s false b) (free_other 256 n s t k i m)

-- ---- the pages of a sandbox

module _ {C : ℕ → Type 0} (n : ℕ) (image : List ℕ) (first : ℕ) (keep : ℕ → Bool) (backing : ℕ → Backing)
    (fit : (i : ℕ) → backing_end (backing i) * 256 ≤ length image) (s : Store) (t : Tidy C 256 n s) where
  -- the first i pages are rewound
  abbrev up_to : ℕ → Store
  up_to i = rewind_to image first keep backing s i

  pub rewind_to-tidy : (i : ℕ) → Tidy C 256 n (up_to i)
  unfolding rewind_to
  rewind_to-tidy zero = t
  rewind_to-tidy (suc i) = rewind_page-tidy n image (up_to i) (rewind_to-tidy i) (first + i) (first + i + 64) (backing i) (fit i) (keep i)

  pub rewind_to-out : (i k : ℕ) → (k < first) ⊎ (first + i ≤ k) → contents 256 (up_to i) k ≡ contents 256 s k
  unfolding rewind_to
  rewind_to-out zero k o = refl
  rewind_to-out (suc i) k o =
      rewind_page-other n image (up_to i) (rewind_to-tidy i) (first + i) (first + i + 64) (backing i) (fit i) (keep i) k
      (⊎_elim (λ l m. omega arith) (λ l m. omega arith) o)
      ∙ rewind_to-out i k (⊎_elim (λ l. inl l) (λ l. inr (omega arith)) o)

  -- the backs are as before, so each front is rewound to the back of the store before
  pub rewind_to-in : (i k : ℕ) → i ≤ 64 → k < i
      → contents 256 (up_to i) (first + k)
      ≡ front_before (keep k) (backing_page image (backing k)) (contents 256 s (first + k + 64)) (contents 256 s (first + k))
  unfolding rewind_to
  rewind_to-in zero k a b = absurd (omega arith)
  rewind_to-in (suc i) k a b =
      ⊎_elim
      (λ m. rw m
      (rewind_page-same n image (up_to i) (rewind_to-tidy i) (first + i) (first + i + 64) (backing i) (fit i) (keep i)
      ∙ ap₂ (front_before (keep i) (backing_page image (backing i))) (rewind_to-out i (first + i + 64) (inr (omega arith)))
      (rewind_to-out i (first + i) (inr (omega arith)))))
      (λ m. rewind_page-other n image (up_to i) (rewind_to-tidy i) (first + i) (first + i + 64) (backing i) (fit i) (keep i)
      (first + k) (λ r. m (omega arith))
      ∙ rewind_to-in i k (omega arith) (omega arith)) (same_or k i)
