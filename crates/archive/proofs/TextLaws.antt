-- The lines of an archive roll: every number fits its field, and there are not more lines than are read.
use Prim.Native.Nat.{ℕ, zero, suc, ◌+◌, ◌*◌, ◌/◌, ◌%◌, ◌≤◌, ◌<◌}
use mathlib.Core.Path.{◌≡◌, refl, sym, ap, ap₂, ◌∙◌}
use mathlib.Core.Bool.{Bool, true, ◌&&◌}
use mathlib.Core.List.{List, [], ◌∷◌, ◌++◌, append_assoc}
use native.Mathlib.Omega.{arith}
use lib.Dec.{eqb}
use lib.ListN.{length, length-append}
use borrow.Author.Tests.{not-true}
use Rattle.basics.specs.Ranges.{count}
use Rattle.basics.proofs.TestLaws.{by_cases, when-cases, and_left, and_right}
use Rattle.basics.proofs.CountLaws.{count_small, count-le}
use Rattle.interface.specs.declared.page.Backing.{Backing}
use Rattle.interface.specs.declared.page.Backing.TheVariants.{Anonymous, Image}
use Rattle.interface.specs.declared.request.Request.{Request}
use Rattle.interface.specs.Slots.{is_mapped, rights_at, backing_at, starts_area, areas, kind_of, start_of}
use Rattle.columns.specs.Prints.{UpTo, numbers_of, printed_request}
use Rattle.lines.specs.Lines.{lines_of}
use Rattle.columns.proofs.PrintLaws.{length-request}
use Rattle.plain.specs.Machine.{Given, Pages}
use Rattle.archive.specs.Archive.{joined, only, map_at, maps, differs, write_at, writes}
use Rattle.archive.specs.Archive.{read_only_start, protect_at, protects, closing, archive}
use Rattle.archive.specs.Text.{printed_roll, Sayable}
use Rattle.archive.specs.Claims.{LinesCounted, Longest}
use Rattle.archive.proofs.IsSnapshot.{HasImage, IsSnapshot}
use Rattle.archive.proofs.MapLaws.{start-inside, start-mapped}
use Rattle.archive.proofs.Replay.{is-snapshot}

-- ---- the text

pub length-roll : (l : List Request) → length (printed_roll l) ≡ length l * 43
unfolding printed_roll
length-roll [] = refl
length-roll (q ∷ l) = length-append (printed_request q) (printed_roll l) ∙ omega (arith, length-request q, length-roll l)

pub lines-of-roll : (l : List Request) → length l ≤ 65535 → lines_of (length (printed_roll l)) ≡ length l
unfolding lines_of
lines-of-roll l h = rw (length-roll l) (omega arith)

pub printed-append : (l m : List Request) → printed_roll (l ++ m) ≡ printed_roll l ++ printed_roll m
unfolding printed_roll
printed-append [] m = refl
printed-append (q ∷ l) m = ap (λ x. printed_request q ++ x) (printed-append l m) ∙ sym (append_assoc (printed_request q) (printed_roll l) (printed_roll m))

-- ---- every number fits

sayable-append : (l m : List Request) → Sayable l → Sayable m → Sayable (l ++ m)
sayable-append [] m h k = k
sayable-append (q ∷ l) m h k = (h.0, sayable-append l m h.1 k)

sayable-joined : (f : ℕ → List Request) (n : ℕ) → ((i : ℕ) → i < n → Sayable (f i)) → Sayable (joined f n)
unfolding joined
sayable-joined f zero h = tt
sayable-joined f (suc n) h = sayable-append (joined f n) (f n) (sayable-joined f n (λ i l. h i (omega arith))) (h n (omega arith))

sayable-only : (b : Bool) (q : Request) → (b ≡ true → UpTo 65535 (numbers_of q)) → Sayable (only b q)
sayable-only b q h = when-cases Sayable b (λ t. (h t, tt)) (λ _. tt)

seven : {a b c d e f g : ℕ} → a ≤ 65535 → b ≤ 65535 → c ≤ 65535 → d ≤ 65535 → e ≤ 65535 → f ≤ 65535 → g ≤ 65535
    → UpTo 65535 (a ∷ b ∷ c ∷ d ∷ e ∷ f ∷ g ∷ [])
seven a b c d e f g = (a, (b, (c, (d, (e, (f, (g, tt)))))))

kind-small : (b : Backing) → kind_of b ≤ 1
kind-small Anonymous = omega arith
kind-small (Image p) = omega arith

image-small : (images : ℕ) (b : Backing) → images ≤ 64 → HasImage images b → start_of b ≤ 64
image-small images Anonymous h k = omega arith
image-small images (Image p) h k = omega arith

module _ (s share : ℕ) (d : Pages) (image : List ℕ) (row : s < 4) (h : IsSnapshot image share d) where
  module _ (images : length image / 256 ≤ 64) where
    maps-sayable : Sayable (maps s d.slots)
    unfolding maps
    maps-sayable =
        sayable-joined (λ i. only (starts_area d.slots i) (map_at s d.slots i)) 64
        (λ i l. sayable-only (starts_area d.slots i) (map_at s d.slots i) (λ t.
        let inside = start-inside d.slots i l t in
        let kind = kind-small (backing_at (d.slots i)) in
        let first = image-small (length image / 256) (backing_at (d.slots i)) images (h.order.backing i (start-mapped d.slots i l t)) in
        seven (omega arith) (omega arith) (omega arith) (omega arith) (omega arith) (omega arith) (omega arith)))

  writes-sayable : Sayable (writes s image d)
  unfolding writes
  writes-sayable =
      sayable-joined (λ a. only (differs image d (a / 256) (a % 256)) (write_at s d a)) 16384
      (λ a l. sayable-only (differs image d (a / 256) (a % 256)) (write_at s d a) (λ t.
      let byte = h.order.bytes (a / 256) (a % 256) (and_left (is_mapped (d.slots (a / 256))) _ t)
      (not-true _ (and_right (is_mapped (d.slots (a / 256))) _ t)) in
      seven (omega arith) (omega arith) (omega arith) (omega arith) (omega arith) (omega arith) (omega arith)))

  protects-sayable : Sayable (protects s d.slots)
  unfolding protects
  protects-sayable =
      sayable-joined (λ i. only (starts_area d.slots i && eqb (rights_at (d.slots i)) 1) (protect_at s d.slots i)) 64
      (λ i l. sayable-only (starts_area d.slots i && eqb (rights_at (d.slots i)) 1) (protect_at s d.slots i) (λ t.
      let inside = start-inside d.slots i l (and_left (starts_area d.slots i) _ t) in
      seven (omega arith) (omega arith) (omega arith) (omega arith) (omega arith) (omega arith) (omega arith)))

  pub archive-sayable : length image / 256 ≤ 64 → Sayable (archive s share d image)
  unfolding archive
  archive-sayable images =
      let most = h.most in (
        seven (omega arith) (omega arith) (omega arith) (omega arith) (omega arith) (omega arith) (omega arith),
        sayable-append (maps s d.slots) _ (maps-sayable images)
            (sayable-append (writes s image d) _ writes-sayable
            (sayable-append (protects s d.slots) (closing s) protects-sayable
            (seven (omega arith) (omega arith) (omega arith) (omega arith) (omega arith) (omega arith) (omega arith), tt))),
      )

-- ---- how many lines

pub only-length : {A : Type 0} (b : Bool) (x : A) → length (only b x) ≤ 1
only-length b x = when-cases (λ l. length l ≤ 1) b (λ _. omega arith) (λ _. omega arith)

pub joined_length : {A : Type 0} (f : ℕ → List A) (n : ℕ) → ((i : ℕ) → length (f i) ≤ 1) → length (joined f n) ≤ n
unfolding joined
joined_length f zero h = omega arith
joined_length f (suc n) h = rw (length-append (joined f n) (f n)) (omega (arith, h n, joined_length f n h))

-- as many as the tests that hold
lines-there : {A : Type 0} (there : ℕ → Bool) (x : ℕ → A) (n : ℕ) → length (joined (λ i. only (there i) (x i)) n) ≡ count there n
unfolding joined count
lines-there there x zero = refl
lines-there there x (suc n) =
    length-append (joined (λ i. only (there i) (x i)) n) (only (there n) (x n))
    ∙ ap₂ ◌+◌ (lines-there there x n) (by_cases (there n) (λ e. rw e) (λ e. rw e))

pub counted : LinesCounted
unfolding archive maps writes protects areas
counted s share d image =
    let m = lines-there (starts_area d.slots) (map_at s d.slots) 64 in
    let w = lines-there (λ a. differs image d (a / 256) (a % 256)) (write_at s d) 16384 in
    let p = lines-there (read_only_start d.slots) (protect_at s d.slots) 64 in
    simp length-append (omega (arith, m, w, p))

-- fewer than are read, whatever the pages
pub archive-length : (s share : ℕ) (d : Pages) (image : List ℕ) → length (archive s share d image) ≤ 16514
unfolding areas
archive-length s share d image =
    omega (
      arith,
      counted s share d image,
      count_small (starts_area d.slots) 64,
      count_small (λ a. differs image d (a / 256) (a % 256)) 16384,
      count_small (read_only_start d.slots) 64,
    )

-- and of a snapshot
pub archive-longest : (s share : ℕ) (d : Pages) (image : List ℕ) → areas d.slots ≤ 8 → length (archive s share d image) ≤ 16402
unfolding areas
archive-longest s share d image few =
    omega (
      arith,
      few,
      counted s share d image,
      count_small (λ a. differs image d (a / 256) (a % 256)) 16384,
      count-le (read_only_start d.slots) (starts_area d.slots) 64 (λ i e. and_left (starts_area d.slots i) _ e),
    )

pub longest : (g : Given) → Longest g
longest g s share d o = archive-longest s share d g.image (is-snapshot g s share d o).few
