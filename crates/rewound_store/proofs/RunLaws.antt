-- Runs of pages that are rewound: what a loop over one carries along, a turn of it, one run behind another, and pages with nothing to restore.
use mathlib.Core.Path.{◌≡◌, refl, sym, ap, ◌∙◌}
use mathlib.Core.Bool.{Bool, true, false}
use mathlib.Core.List.{List}
use Prim.Native.Nat.{ℕ, zero, suc, ◌+◌, ◌-◌, ◌*◌, ◌≤◌, ◌<◌}
use native.Mathlib.Nat.{add-zero, add-suc}
use native.Mathlib.Numerals.{add-one}
use native.Mathlib.Omega.{arith}
use borrow.Author.Tests.{eq-eqb, ne_eqb}
use lib.ListN.{length}
use Rattle.basics.proofs.TestLaws.{by_cases}
use Rattle.interface.specs.declared.page.Backing.{Backing}
use Rattle.pages.specs.Parts.{set_frame}
use Rattle.pages.proofs.PartLaws.{length-frame, length-set_frame}
use Rattle.marks.proofs.NamedLaws.{by-entry}
use Rattle.table.specs.Store.{Store, entry, contents, page_from, Ranged, free, fill, free_to}
use Rattle.table.specs.Backing.{backing_page, backing_end}
use Rattle.table.proofs.StoreLaws.{contents-none, contents-some, free-none, fill_none}
use Rattle.table.proofs.FreeLaws.{Kept, unchanged-kept, kept-twice, room_of, free-kept}
use Rattle.table.proofs.TouchLaws.{backing-whole}
use Rattle.rewind_cases.specs.Rewind.{rewind_page, rewind_to}
use Rattle.rewind_cases.proofs.BeforeLaws.{page-before}

-- ---- what a loop carries along

fill-kept : (size k : ℕ) (ys : List ℕ) (s : Store) → Ranged size s.pool s.table → length ys ≡ size → Kept size s (fill size k ys s)
unfolding fill
fill-kept size k ys s g w =
    by-entry (Kept size s (fill size k ys s)) (entry s k)
    (λ e. rw (eq-eqb (entry s k) 0 e) (unchanged-kept size s g))
    (λ f e. let m : entry s k - 1 ≡ f = omega arith in
    let same : length (set_frame size s.pool f ys) ≡ length s.pool = length-set_frame size s.pool f ys w (room_of size s g k f e) in
    rw (ne_eqb (entry s k) 0 (omega arith), m)
    (record { pool = same; table = refl; ranged = record { entries = g.entries; few = g.few; room = λ i. rw same (g.room i) } }))

module _ (image : List ℕ) (k j : ℕ) (b : Backing) (s : Store) where
  pub rewind-kept : (keep : Bool) → Ranged 256 s.pool s.table → backing_end b * 256 ≤ length image → Kept 256 s (rewind_page image k j keep b s)
  rewind-kept true g fits =
      let got : List ℕ = page_from (backing_page image b) (contents 256 s j) in
      rw (page-before image k j s true b)
      (fill-kept 256 k got s g
      (by-entry (length got ≡ 256) (entry s j)
      (λ e. rw (contents-none 256 s j e) (backing-whole image b fits))
      (λ f e. rw (contents-some 256 s j f e) (length-frame 256 s.pool f (room_of 256 s g j f e)))))
  rewind-kept false g fits = rw (page-before image k j s false b) (free-kept 256 k s g)

  pub rewind-kept-as : (keep : Bool) (r : Store) → r ≡ rewind_page image k j keep b s → Ranged 256 s.pool s.table
      → backing_end b * 256 ≤ length image → Kept 256 s r
  rewind-kept-as keep r e g fits = rw e (rewind-kept keep g fits)

  -- a page without a front stays as it is
  pub rewind-none : (keep : Bool) → entry s k ≡ 0 → rewind_page image k j keep b s ≡ s
  rewind-none true e = page-before image k j s true b ∙ fill_none 256 k _ s e
  rewind-none false e = page-before image k j s false b ∙ free-none 256 k s e

-- ---- runs of pages

module _ (image : List ℕ) (first : ℕ) (keep : ℕ → Bool) (backing : ℕ → Backing) (s : Store) where
  -- the first i pages are rewound
  abbrev up_to : ℕ → Store
  up_to i = rewind_to image first keep backing s i

  -- a turn of the loop
  pub rewind-more : (i : ℕ) (r q : Store) → r ≡ up_to i → q ≡ rewind_page image (first + i) (first + i + 64) (keep i) (backing i) r → q ≡ up_to (i + 1)
  unfolding rewind_to
  rewind-more i r q a b = b ∙ rw (add-one i) (ap (rewind_page image (first + i) (first + i + 64) (keep i) (backing i)) a)

  -- what the run carries along
  pub rewind_to-kept : Ranged 256 s.pool s.table → (n : ℕ) → ((i : ℕ) → i < n → backing_end (backing i) * 256 ≤ length image) → Kept 256 s (up_to n)
  unfolding rewind_to
  rewind_to-kept g zero fit = unchanged-kept 256 s g
  rewind_to-kept g (suc n) fit =
      let before = rewind_to-kept g n (λ i l. fit i (omega arith)) in
      kept-twice 256 s (up_to n) _ before
      (rewind-kept image (first + n) (first + n + 64) (backing n) (up_to n) (keep n) before.ranged (fit n (omega arith)))

  pub rewind_to-kept-as : (r : Store) (n : ℕ) → r ≡ up_to n → Ranged 256 s.pool s.table
      → ((i : ℕ) → i < n → backing_end (backing i) * 256 ≤ length image) → Kept 256 s r
  rewind_to-kept-as r n e g fit = rw e (rewind_to-kept g n fit)

  -- a run, and then the one behind it
  pub rewind_to-join : (n m : ℕ) → rewind_to image (first + n) (λ i. keep (n + i)) (λ i. backing (n + i)) (up_to n) m ≡ up_to (n + m)
  unfolding rewind_to
  rewind_to-join n zero = ap up_to (sym (add-zero n))
  rewind_to-join n (suc m) =
      let place : first + n + m ≡ first + (n + m) = omega arith in
      rw (add-suc n m, place)
      (ap (rewind_page image (first + (n + m)) (first + (n + m) + 64) (keep (n + m)) (backing (n + m))) (rewind_to-join n m))

  -- what a run becomes goes by which of its own pages keep their fronts, and by what those start with
  pub rewind_to-same : (keep' : ℕ → Bool) (backing' : ℕ → Backing) (n : ℕ)
      → ((i : ℕ) → i < n → (keep i ≡ keep' i) × (keep i ≡ true → backing i ≡ backing' i)) → up_to n ≡ rewind_to image first keep' backing' s n
  unfolding rewind_to rewind_page
  rewind_to-same keep' backing' zero h = refl
  rewind_to-same keep' backing' (suc n) h =
      let here = h n (omega arith) in
      let before = rewind_to-same keep' backing' n (λ i l. h i (omega arith)) in
      by_cases (keep n) (λ e. rw (← here.0, e, here.1 e, before)) (λ e. rw (← here.0, e, before))

  -- pages without a front stay as they are
  pub rewind_to-none : (n : ℕ) → ((i : ℕ) → i < n → entry s (first + i) ≡ 0) → up_to n ≡ s
  unfolding rewind_to
  rewind_to-none zero h = refl
  rewind_to-none (suc n) h =
      ap (rewind_page image (first + n) (first + n + 64) (keep n) (backing n)) (rewind_to-none n (λ i l. h i (omega arith)))
      ∙ rewind-none image (first + n) (first + n + 64) (backing n) s (keep n) (h n (omega arith))

  -- pages that keep no front give them up
  pub rewind_to-free : (n : ℕ) → ((i : ℕ) → i < n → keep i ≡ false) → up_to n ≡ free_to 256 first s n
  unfolding rewind_to rewind_page free_to
  rewind_to-free zero h = refl
  rewind_to-free (suc n) h = rw (h n (omega arith)) (ap (free 256 (first + n)) (rewind_to-free n (λ i l. h i (omega arith))))
