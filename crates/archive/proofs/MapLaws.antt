-- The maps of an archive roll, played.
use Prim.Native.Nat.{ℕ, zero, suc, ◌+◌, ◌-◌, ◌/◌, ◌≤◌, ◌<◌}
use mathlib.Core.Path.{◌≡◌, refl, sym, ap, ap₂, ◌∙◌, fun_ext}
use mathlib.Core.Bool.{true, false, not}
use mathlib.Core.List.{[], ◌∷◌}
use mathlib.Core.Option.{none}
use native.Mathlib.Omega.{arith}
use native.Mathlib.Numerals.{add-one}
use lib.Dec.{ltb, eqb}
use lib.ListN.{length}
use borrow.Author.Tests.{eqb-true, eq-eqb, ne_eqb, le-leb, ltb-true, ltb-false, not-false, not-true}
use Rattle.basics.specs.Choice.{◌when◌else◌, same}
use Rattle.basics.proofs.TestLaws.{by_cases, never, and_left, and_right, and-of, and-not-right}
use Rattle.basics.proofs.LoopLaws.{every_of}
use Rattle.basics.proofs.CountLaws.{count-le}
use Rattle.interface.specs.declared.page.Backing.{Backing}
use Rattle.interface.specs.declared.page.Backing.TheVariants.{Anonymous, Image}
use Rattle.interface.specs.declared.page.Slot.{Slot}
use Rattle.interface.specs.declared.page.Slot.TheVariants.{Unmapped, Mapped}
use Rattle.interface.specs.declared.request.Request.{Request}
use Rattle.interface.specs.Requests.{request_of, map_code}
use Rattle.interface.specs.Slots.{Slots, is_mapped, backing_at, advance, joins, previous, starts_area, areas, mapped_pages, charge_of, all_are, kind_of, start_of}
use Rattle.interface.specs.Limits.{backing_ok}
use Rattle.interface.specs.Outcome.{page_on, new_page, first_of, slots_after, copy_after}
use Rattle.interface.specs.Refusals.{refusal}
use Rattle.interface.proofs.SlotLaws.{unmapped, beyond}
use Rattle.plain.specs.Machine.{Given, Pages, Core, view_of, backing_byte, new_bytes, bytes_after, core_after}
use Rattle.archive.specs.Archive.{only, end_from, pages_from, map_at, maps}
use Rattle.archive.proofs.IsSnapshot.{HasImage, IsSnapshot}
use Rattle.archive.specs.Segments.{Goes, built, remade, writable, unmarked}
use Rattle.archive.specs.Segments.{blank as blankOf}
use Rattle.archive.proofs.SegmentLaws.{goes_one, goes-only, goes-joined}
use Rattle.archive.proofs.TakenLaws.{map-taken}
use Rattle.archive.proofs.RunLaws.{cut, cut_below, cut-from, cut-split, cut-none, cut_all, cut_on, over-cut, end-past, end_on, end-here}
use Rattle.archive.proofs.RunLaws.{end-least, end-most, end-unmapped, attributes_at, area-page, areas-le, starts-of}

pub mapped-remade : (r : ℕ → ℕ) (x : Slot) → is_mapped (remade r x) ≡ is_mapped x
mapped-remade r Unmapped = refl
mapped-remade r (Mapped t) = refl

pub remade-none : (r : ℕ → ℕ) (x : Slot) → is_mapped x ≡ false → remade r x ≡ Unmapped
remade-none r Unmapped h = refl
remade-none r (Mapped t) h = never true refl h

pub joins-remade : (r : ℕ → ℕ) (x y : Slot) → joins x y ≡ true → joins (remade r x) (remade r y) ≡ true
unfolding joins
joins-remade r Unmapped y h = h
joins-remade r (Mapped t) Unmapped h = h
joins-remade r (Mapped t) (Mapped u) h =
    let same-rights : t.rights ≡ u.rights = eqb-true t.rights u.rights (and_left (eqb t.rights u.rights) _ h) in
    let rest = and_right (eqb t.rights u.rights) _ h in
    and-of (eq-eqb (r t.rights) (r u.rights) (ap r same-rights)) (and_right (same t.committed u.committed) _ rest)

pub previous-remade : (r : ℕ → ℕ) (f : Slots) (i : ℕ) → previous (λ j. remade r (f j)) i ≡ remade r (previous f i)
previous-remade r f zero = refl
previous-remade r f (suc i) = refl

-- p3 and p4 of a map tell the backing
pub backing-told : (b : Backing) → (Anonymous when eqb (kind_of b) 0 else Image (record { 0 = start_of b })) ≡ b
backing-told Anonymous = refl
backing-told (Image p) = refl

pub backing-ok : (s i n images : ℕ) (b : Backing) → 1 ≤ n → HasImage images (advance b (n - 1))
    → backing_ok images (request_of map_code s i n (kind_of b) (start_of b) 3) ≡ true
backing-ok s i n images Anonymous m there = refl
backing-ok s i n images (Image p) m there = le-leb (p.0 + n) images (omega arith)

-- a picture cut at b, the page before included
pub previous-below : (b : ℕ) (f g : Slots) (i : ℕ) → i < b → previous (cut b f g) i ≡ previous f i
previous-below b f g zero h = refl
previous-below b f g (suc i) h = cut_below b f g i (omega arith)

pub starts-below : (b : ℕ) (f g : Slots) (i : ℕ) → i < b → starts_area (cut b f g) i ≡ starts_area f i
starts-below b f g i h = rw (previous-below b f g i h, cut_below b f g i h)

pub starts-remade : (r : ℕ → ℕ) (f : Slots) (i : ℕ) → starts_area (λ j. remade r (f j)) i ≡ true → starts_area f i ≡ true
starts-remade r f i =
    starts-of (λ j. remade r (f j)) f i (rw (mapped-remade r (f i)) (λ m. m)) (λ e. rw (previous-remade r f i) (joins-remade r (previous f i) (f i) e))

-- an area starts at page i: its end, and what stands at its pages
module _ (f : Slots) (i : ℕ) (l : i < 64) (starts : starts_area f i ≡ true) where
  pub start-mapped : is_mapped (f i) ≡ true
  start-mapped = and_left (is_mapped (f i)) _ starts

  pub start-end : end_from f i ≡ i
  start-end = end-here f i l (not-true _ (and_right (is_mapped (f i)) (not (joins (previous f i) (f i))) starts))

  pub start-pages : i + pages_from f i ≡ end_from f (i + 1)
  start-pages = omega (arith, end-least f (i + 1))

  pub start-next : i + pages_from f i ≡ end_from f (suc i)
  start-next = start-pages ∙ ap (end_from f) (add-one i)

  pub start-some : 1 ≤ pages_from f i
  start-some = omega (arith, end-least f (i + 1))

  pub start-inside : i + pages_from f i ≤ 64
  start-inside = omega (arith, start-pages, end-most f (i + 1) (omega arith))

  pub start-page : (j : ℕ) → i ≤ j → j < i + pages_from f i → f j ≡ page_on (attributes_at (f i)) (j - i)
  start-page j a b = area-page f i j start-mapped a (omega (arith, start-pages))

-- where no area starts, an end stays, or the page is unmapped: cut pictures that agree at unmapped pages stay
pub cut-stays {ℓ} : {A : Type ℓ} (f : Slots) (i : ℕ) (x y : ℕ → A) → i < 64 → (is_mapped (f i) ≡ false → x i ≡ y i) → starts_area f i ≡ false
    → cut (end_from f i) x y ≡ cut (end_from f (suc i)) x y
cut-stays f i x y h e n =
    by_cases (is_mapped (f i))
    (λ m. let on : joins (previous f i) (f i) ≡ true = not-false _ (and-not-right (is_mapped (f i)) _ n m) in
    ap (λ b. cut b x y) (end_on f i h on ∙ ap (end_from f) (add-one i)))
    (λ m. let here = end-unmapped f i h m in
    rw (here.0, here.1) (cut_on i (suc i) x y (omega arith) (λ j l k. let is : j ≡ i = omega arith in rw is (e m))))

module _ (g : Given) (s share : ℕ) (row : s < 4) (d : Pages) (h : IsSnapshot g.image share d) where
  abbrev f : Slots
  f = d.slots

  -- what the maps make, up to a page
  abbrev pub mapped_to : ℕ → Slots
  mapped_to b = cut b (λ i. writable (f i)) (λ i. Unmapped)

  abbrev pub blank : ℕ → ℕ → ℕ
  blank = blankOf g.image f

  abbrev pub blank_to : ℕ → ℕ → ℕ → ℕ
  blank_to b = cut b blank (λ i j. 0)

  abbrev pub map_stage : ℕ → Core
  map_stage i = built share (mapped_to (end_from f i)) (blank_to (end_from f i))

  -- its limits
  mapped-charge : (b : ℕ) → charge_of (mapped_to b) none ≤ share
  unfolding charge_of mapped_pages
  mapped-charge b =
      omega (
        arith,
        h.charged,
        count-le (λ i. is_mapped (mapped_to b i)) (λ i. is_mapped (f i)) 64
            (λ i. cut-split (λ x. is_mapped x ≡ true → is_mapped (f i) ≡ true) b (λ i. writable (f i)) (λ i. Unmapped) i (λ _. rw mapped-remade (λ m. m))
            (λ _ m. cc)),
      )

  mapped-areas : (b : ℕ) → areas (mapped_to b) ≤ 8
  mapped-areas b =
      omega (
        arith,
        h.few,
        areas-le (mapped_to b) f λ i.
            by_cases (ltb i b)
            (λ l. rw (starts-below b (λ i. writable (f i)) (λ i. Unmapped) i (ltb-true i b l)) (starts-remade (λ r. 3) f i))
            (λ l. rw (cut-from b (λ i. writable (f i)) (λ i. Unmapped) i (ltb-false i b l)) (λ e. cc)),
      )

  -- one map
  module _ (i : ℕ) (l : i < 64) (starts : starts_area f i ≡ true) where
    abbrev q : Request
    q = map_at s f i

    page-new : (j : ℕ) → i ≤ j → j < i + pages_from f i → page_on (new_page q) (j - i) ≡ writable (f j)
    page-new j a b = rw (start-page f i l starts j a b, backing-told (backing_at (f i)))

    bytes-new : (j : ℕ) → i ≤ j → j < i + pages_from f i → new_bytes g q i j ≡ blank j
    bytes-new j a b = fun_ext λ o. rw (start-page f i l starts j a b, backing-told (backing_at (f i)))

    map-slots : slots_after q (mapped_to i) none ≡ mapped_to (i + pages_from f i)
    unfolding slots_after first_of
    map-slots = rw (ne_eqb i 64 (λ e. omega arith)) (over-cut i (pages_from f i) (λ j. page_on (new_page q) (j - i)) (λ j. writable (f j))
        (λ j. Unmapped) page-new)

    map-bytes : bytes_after g q (built share (mapped_to i) (blank_to i)) ≡ blank_to (i + pages_from f i)
    unfolding bytes_after first_of
    map-bytes = rw (ne_eqb i 64 (λ e. omega arith)) (over-cut i (pages_from f i) (new_bytes g q i) blank (λ i j. 0) bytes-new)

    -- the image pages of the area exist
    last-image : HasImage (length g.image / 256) (advance (backing_at (f i)) (pages_from f i - 1))
    last-image =
        let least = start-some f i l starts in
        let last : i + pages_from f i - 1 - i ≡ pages_from f i - 1 = omega arith in
        let is : f (i + pages_from f i - 1) ≡ page_on (attributes_at (f i)) (i + pages_from f i - 1 - i) = start-page f i l starts (i + pages_from f i - 1)
        (omega arith) (omega arith) in
        let there = h.order.backing (i + pages_from f i - 1) (rw is) in
        rw (is, last) at there

    map-free : all_are false (mapped_to i) i (pages_from f i) ≡ true
    map-free = every_of (λ j. same false (is_mapped (mapped_to i j))) i (pages_from f i) (λ j a b. rw (cut-from i (λ j. writable (f j)) (λ j. Unmapped) j a))

    map-accepted : refusal (view_of g 0 (built share (mapped_to i) (blank_to i))) q ≡ 0
    unfolding copy_after
    map-accepted =
        map-taken (view_of g 0 (built share (mapped_to i) (blank_to i))) refl s row refl i (pages_from f i)
        (kind_of (backing_at (f i))) (start_of (backing_at (f i)))
        l (start-some f i l starts) (start-inside f i l starts)
        (backing-ok s i (pages_from f i) (length g.image / 256) (backing_at (f i)) (start-some f i l starts) last-image) map-free
        (rw map-slots (mapped-charge (i + pages_from f i))) (rw map-slots (mapped-areas (i + pages_from f i)))

    map-leaves : core_after g q (built share (mapped_to i) (blank_to i)) ≡ built share (mapped_to (i + pages_from f i)) (blank_to (i + pages_from f i))
    unfolding copy_after
    map-leaves = ap₂ (built share) map-slots map-bytes

    map-goes : Goes g s (q ∷ []) (map_stage i) (map_stage (suc i))
    map-goes =
        rw (start-end f i l starts, ← start-next f i l starts)
        (goes_one g s q (built share (mapped_to i) (blank_to i))
        (built share (mapped_to (i + pages_from f i)) (blank_to (i + pages_from f i))) refl refl map-accepted map-leaves)

  map-stays : (i : ℕ) → i < 64 → starts_area f i ≡ false → map_stage i ≡ map_stage (suc i)
  map-stays i l n =
      ap₂ (built share) (cut-stays f i (λ i. writable (f i)) (λ i. Unmapped) l (remade-none (λ r. 3) (f i)) n)
      (cut-stays f i blank (λ i j. 0) l (λ u. rw (unmapped (f i) u)) n)

  pub maps-go : Goes g s (maps s f) (map_stage 0) (map_stage 64)
  unfolding maps
  maps-go =
      goes-joined g s (λ i. only (starts_area f i) (map_at s f i)) map_stage 64
      (λ i l. goes-only g s (starts_area f i) (map_at s f i) (map_stage i) (map_stage (suc i)) (map-goes i l) (map-stays i l))

  -- before the first and after the last
  pub map-start : built share (λ i. Unmapped) (λ i j. 0) ≡ map_stage 0
  unfolding joins
  map-start =
      rw (end-here f 0 (omega arith) refl)
      (ap₂ (built share) (sym (cut-none (λ i. writable (f i)) (λ i. Unmapped))) (sym (cut-none blank (λ i j. 0))))

  pub nothing-past : (i : ℕ) → 64 ≤ i → f i ≡ Unmapped
  nothing-past i l = beyond f h.inside i l

  pub map-end : map_stage 64 ≡ built share (λ i. writable (f i)) blank
  map-end =
      rw (end-past f 64 (omega arith))
      (ap₂ (built share) (cut_all 64 (λ i. writable (f i)) (λ i. Unmapped) (λ i l. rw (nothing-past i l)))
      (cut_all 64 blank (λ i j. 0) (λ i l. rw (nothing-past i l))))
