-- What a rewind leaves: every entry but its own, and the bytes and the mark of every frame that its own entries do not name.
use mathlib.Core.Path.{◌≡◌, refl, sym, ◌∙◌}
use mathlib.Core.Logic.{◌⊎◌, inl, inr, ⊎_elim}
use mathlib.Core.Bool.{Bool, true, false}
use mathlib.Core.List.{List}
use Prim.Native.Nat.{ℕ, zero, suc, ◌+◌, ◌*◌, ◌≤◌, ◌<◌}
use native.Mathlib.Omega.{arith}
use lib.ListN.{length}
use Rattle.interface.specs.declared.page.Backing.{Backing}
use Rattle.marks.proofs.NamedLaws.{same_or}
use Rattle.table.specs.Store.{Store, entry, Tidy}
use Rattle.table.specs.Backing.{backing_page, backing_end}
use Rattle.table.proofs.StoreLaws.{page-whole}
use Rattle.table.proofs.TouchLaws.{backing-whole}
use Rattle.table.proofs.LeftLaws.{Left, left-same, left-then, free-entry, fill-entry, free-left, fill-left}
use Rattle.rewind_cases.specs.Rewind.{rewind_page, rewind_to}
use Rattle.rewind_cases.proofs.BeforeLaws.{page-before}
use Rattle.rewound_store.proofs.RewindLaws.{rewind_to-tidy}

-- ---- entries

-- a page that keeps its front leaves all of them
pub kept_entry : (image : List ℕ) (k j : ℕ) (b : Backing) (s : Store) (i : ℕ) → entry (rewind_page image k j true b s) i ≡ entry s i
kept_entry image k j b s i = rw (page-before image k j s true b) (fill-entry 256 k s i _)

rewind-entry : (image : List ℕ) (k j : ℕ) (keep : Bool) (b : Backing) (s : Store) (i : ℕ) → (i ≡ k → ⊥) → entry (rewind_page image k j keep b s) i ≡ entry s i
rewind-entry image k j true b s i d = kept_entry image k j b s i
rewind-entry image k j false b s i d = rw (page-before image k j s false b) (free-entry 256 k s i d)

module _ (image : List ℕ) (first : ℕ) (keep : ℕ → Bool) (backing : ℕ → Backing) (s : Store) where
  pub rewind_to-entry : (j n : ℕ) → (j < first) ⊎ (first + n ≤ j) → entry (rewind_to image first keep backing s n) j ≡ entry s j
  unfolding rewind_to
  rewind_to-entry j zero o = refl
  rewind_to-entry j (suc n) o =
      rewind-entry image (first + n) (first + n + 64) (keep n) (backing n) (rewind_to image first keep backing s n) j
      (⊎_elim (λ l e. omega arith) (λ l e. omega arith) o)
      ∙ rewind_to-entry j n (⊎_elim (λ l. inl l) (λ l. inr (omega arith)) o)

  -- a page that keeps its front has the frame that it had
  pub rewind_to-kept-entry : (n i : ℕ) → keep i ≡ true → entry (rewind_to image first keep backing s n) (first + i) ≡ entry s (first + i)
  unfolding rewind_to
  rewind_to-kept-entry zero i k = refl
  rewind_to-kept-entry (suc n) i k =
      let r : Store = rewind_to image first keep backing s n in
      ⊎_elim
      (λ m. let here : keep n ≡ true = rw m at k in rw here (kept_entry image (first + n) (first + n + 64) (backing n) r (first + i)))
      (λ m. rewind-entry image (first + n) (first + n + 64) (keep n) (backing n) r (first + i) (λ e. m (omega arith)))
      (same_or i n)
      ∙ rewind_to-kept-entry n i k

-- ---- frames

module _ {C : ℕ → Type 0} (n : ℕ) (image : List ℕ) (s : Store) (t : Tidy C 256 n s) (f k : ℕ) (apart : entry s k ≡ suc f → ⊥) where
  rewind-left : (j : ℕ) (keep : Bool) (b : Backing) → backing_end b * 256 ≤ length image → Left 256 f s (rewind_page image k j keep b s)
  rewind-left j true b fits =
      rw (page-before image k j s true b)
      (fill-left 256 n s t f k apart _ (λ g e. page-whole 256 n s t j (backing_page image b) (backing-whole image b fits)))
  rewind-left j false b fits = rw (page-before image k j s false b) (free-left 256 n s t f k apart)

module _ {C : ℕ → Type 0} (n : ℕ) (image : List ℕ) (first : ℕ) (keep : ℕ → Bool) (backing : ℕ → Backing)
    (fit : (i : ℕ) → backing_end (backing i) * 256 ≤ length image) (s : Store) (t : Tidy C 256 n s) where
  pub rewind_to-left : (f i : ℕ) → ((x : ℕ) → x < i → entry s (first + x) ≡ suc f → ⊥) → Left 256 f s (rewind_to image first keep backing s i)
  unfolding rewind_to
  rewind_to-left f zero d = left-same 256 f s
  rewind_to-left f (suc i) d =
      let r : Store = rewind_to image first keep backing s i in
      left-then 256 f s r _ (rewind_to-left f i (λ x l. d x (omega arith)))
      (rewind-left n image r (rewind_to-tidy n image first keep backing fit s t i) f (first + i)
      (λ e. d i (omega arith) (sym (rewind_to-entry image first keep backing s (first + i) i (inr (omega arith))) ∙ e))
      (first + i + 64) (keep i) (backing i) (fit i))
