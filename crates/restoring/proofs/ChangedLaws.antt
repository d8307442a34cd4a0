-- How many pages are found changed: page by page, run by run, and of a store in which no frame is named twice all at once.
use mathlib.Core.Path.{◌≡◌, refl}
use mathlib.Core.Logic.{inr}
use mathlib.Core.Bool.{Bool, true, false, ◌&&◌}
use mathlib.Core.List.{List}
use Prim.Native.Nat.{ℕ, zero, suc, ◌+◌, ◌*◌, ◌≤◌, ◌<◌}
use native.Mathlib.Nat.{add-zero, add-suc}
use native.Mathlib.Numerals.{add-one}
use native.Mathlib.Omega.{arith}
use lib.ListN.{length}
use Rattle.std.specs.Int.{from_bool}
use Rattle.basics.specs.Ranges.{one, count}
use Rattle.basics.proofs.TestLaws.{by_cases}
use Rattle.interface.specs.declared.page.Backing.{Backing}
use Rattle.table.specs.Store.{Store, entry, Tidy}
use Rattle.table.specs.Backing.{backing_page, backing_end}
use Rattle.rewind_cases.specs.Rewind.{rewind_to}
use Rattle.rewound_store.proofs.RewindLaws.{rewind_to-out}
use Rattle.rewound_store.proofs.RunLaws.{rewind_to-join, rewind_to-same, rewind_to-none}
use Rattle.page_restore.specs.Differs.{page_differs}
use Rattle.page_restore.proofs.CaseLaws.{none-differs}
use Rattle.restoring.specs.Changed.{changed_to}

-- 1 for true, as the code has it
pub byte-one : (b : Bool) → from_bool b ≡ one b
byte-one true = refl
byte-one false = refl

pub one-small : (b : Bool) → one b ≤ 1
one-small true = omega arith
one-small false = omega arith

module _ (image : List ℕ) (first : ℕ) (keep : ℕ → Bool) (backing : ℕ → Backing) (s : Store) where
  -- whether page n differs, of a store
  abbrev differs_in : Store → ℕ → Bool
  differs_in r n = page_differs 256 (first + n) (first + n + 64) (backing_page image (backing n)) r

  -- no more than there are
  pub changed-few : (n : ℕ) → changed_to image first keep backing s n ≤ n
  unfolding changed_to
  changed-few zero = omega arith
  changed-few (suc n) = omega (arith, changed-few n, one-small (keep n && differs_in (rewind_to image first keep backing s n) n))

  -- a turn of a loop
  pub changed-more : (i : ℕ) (r : Store) (c : ℕ) (d : Bool) → keep i ≡ true → r ≡ rewind_to image first keep backing s i
      → c ≡ changed_to image first keep backing s i → d ≡ differs_in r i → c + one d ≡ changed_to image first keep backing s (i + 1)
  unfolding changed_to
  changed-more i r c d k a b e = rw (b, e, a, add-one i, k)

  -- a run, and then the one behind it
  pub changed-join : (n m : ℕ)
      → changed_to image first keep backing s n
      + changed_to image (first + n) (λ i. keep (n + i)) (λ i. backing (n + i)) (rewind_to image first keep backing s n) m
      ≡ changed_to image first keep backing s (n + m)
  unfolding changed_to
  changed-join n zero = rw (add-zero n) (omega arith)
  changed-join n (suc m) =
      let place : first + n + m ≡ first + (n + m) = omega arith in
      let more = changed-join n m in
      rw (add-suc n m, rewind_to-join image first keep backing s n m, place) (omega (arith, more))

  -- it goes by which of its own pages keep their fronts, and by what those start with
  pub changed-alike : (keep' : ℕ → Bool) (backing' : ℕ → Backing) (n : ℕ)
      → ((i : ℕ) → i < n → (keep i ≡ keep' i) × (keep i ≡ true → backing i ≡ backing' i))
      → changed_to image first keep backing s n ≡ changed_to image first keep' backing' s n
  unfolding changed_to
  changed-alike keep' backing' zero h = refl
  changed-alike keep' backing' (suc n) h =
      let here = h n (omega arith) in
      let before : (i : ℕ) → i < n → (keep i ≡ keep' i) × (keep i ≡ true → backing i ≡ backing' i) = λ i l. h i (omega arith) in
      let store = rewind_to-same image first keep backing s keep' backing' n before in
      let count = changed-alike keep' backing' n before in
      by_cases (keep n) (λ e. rw (← here.0, e, here.1 e, store, count)) (λ e. rw (← here.0, e, count))

  -- pages without a front
  pub changed-frontless : (n : ℕ) → ((i : ℕ) → i < n → entry s (first + i) ≡ 0) → changed_to image first keep backing s n ≡ 0
  unfolding changed_to
  changed-frontless zero h = refl
  changed-frontless (suc n) h =
      let before : (i : ℕ) → i < n → entry s (first + i) ≡ 0 = λ i l. h i (omega arith) in
      let none = none-differs 256 (first + n) (first + n + 64) (backing_page image (backing n)) s (h n (omega arith)) in
      rw (changed-frontless n before, rewind_to-none image first keep backing s n before, none) (by_cases (keep n) (λ e. rw e) (λ e. rw e))

  -- pages that give up their fronts
  pub changed-freed : (n : ℕ) → ((i : ℕ) → i < n → keep i ≡ false) → changed_to image first keep backing s n ≡ 0
  unfolding changed_to
  changed-freed zero h = refl
  changed-freed (suc n) h = rw (h n (omega arith), changed-freed n (λ i l. h i (omega arith)))

  -- ---- where no frame is named twice, each page is found as it was before

  pub changed-counted : {C : ℕ → Type 0} (n : ℕ) → ((i : ℕ) → backing_end (backing i) * 256 ≤ length image) → Tidy C 256 n s → (m : ℕ) → m ≤ 64
      → changed_to image first keep backing s m ≡ count (λ i. keep i && differs_in s i) m
  unfolding changed_to count
  changed-counted n fit t zero l = refl
  changed-counted n fit t (suc m) l =
      let front = rewind_to-out n image first keep backing fit s t m (first + m) (inr (omega arith)) in
      let back = rewind_to-out n image first keep backing fit s t m (first + m + 64) (inr (omega arith)) in
      rw (changed-counted n fit t m (omega arith), front, back)
