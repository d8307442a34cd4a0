-- The lines of a page as the code finds them, and how many there are.
use Prim.Native.Nat.{ℕ, zero, suc, ◌+◌, ◌-◌, ◌*◌, ◌≤◌, ◌<◌}
use mathlib.Core.Path.{◌≡◌, refl, sym, ap, ◌∙◌}
use mathlib.Core.Bool.{true, false, not}
use mathlib.Core.List.{List, []}
use native.Mathlib.Omega.{arith}
use lib.Dec.{eqb}
use lib.ListN.{length, get_or}
use borrow.Author.Tests.{eq-eqb}
use Rattle.basics.proofs.TestLaws.{when-cases}
use Rattle.interface.specs.declared.page.Backing.{Backing}
use Rattle.interface.specs.declared.page.Backing.TheVariants.{Anonymous, Image}
use Rattle.interface.specs.declared.page.Slot.{Slot}
use Rattle.interface.specs.declared.request.Request.{Request}
use Rattle.interface.specs.Requests.{request_of, write_code}
use Rattle.interface.specs.Slots.{is_mapped, backing_at}
use Rattle.pages.specs.Parts.{frame}
use Rattle.pages.proofs.PartLaws.{frame_at, get_or-zeros}
use Rattle.table.specs.Store.{back_of}
use Rattle.table.specs.Backing.{backing_page}
use Rattle.plain.specs.Machine.{backing_byte}
use Rattle.archive.specs.Archive.{joined, only}
use Rattle.archive.proofs.TextLaws.{only-length, joined_length}
use Rattle.page_writes.specs.PageLines.{byte_line, bytes_of, back_page, page_lines}

-- ---- a byte

-- the line of a byte, from the byte and its backing's as the code reads them
pub byte-line : (image : List ℕ) (s i : ℕ) (x : Slot) (bytes : List ℕ) (j byte old : ℕ) (backing : Backing) (q : Request)
    → backing ≡ backing_at x → byte ≡ get_or bytes j 0 → old ≡ backing_byte image backing j → q ≡ request_of write_code s (i * 256 + j) byte 0 0 0
    → only (not (eqb byte old)) q ≡ byte_line image s i x bytes j
byte-line image s i x bytes j byte old backing q b e o is = rw (is, o, e, b)

-- ---- a page

pub joined-none : {A : Type 0} (f : ℕ → List A) (n : ℕ) → ((j : ℕ) → j < n → f j ≡ []) → joined f n ≡ []
unfolding joined
joined-none f zero h = refl
joined-none f (suc n) h = rw (joined-none f n (λ j l. h j (omega arith)), h n (omega arith))

module _ (image pool table : List ℕ) (s i : ℕ) (x : Slot) where
  backing-byte : (b : Backing) (j : ℕ) → j < 256 → get_or (backing_page image b) j 0 ≡ backing_byte image b j
  backing-byte Anonymous j l = get_or-zeros 256 j
  backing-byte (Image p) j l = frame_at 256 image p.0 j l ∙ ap (λ (x : ℕ). get_or image x 0) (omega arith)

  -- a page that has its backing's bytes has no line
  pub unbacked-none : get_or table (back_of s i) 0 ≡ 0 → page_lines image pool table s i x ≡ []
  unbacked-none e =
      when-cases (λ (l : List Request). l ≡ []) (is_mapped x)
      (λ _. joined-none (byte_line image s i x (back_page image pool table s i x)) 256
      (λ j l. let old = backing_byte image (backing_at x) j in
      let same : get_or (back_page image pool table s i x) j 0 ≡ old = rw e (backing-byte (backing_at x) j l) in
      rw (same, eq-eqb old old refl))) (λ _. refl)

  pub unmapped-none : is_mapped x ≡ false → page_lines image pool table s i x ≡ []
  unmapped-none e = rw e

  -- any other has those of its back frame
  pub backed-lines : (back f : ℕ) → is_mapped x ≡ true → back ≡ get_or table (back_of s i) 0 → 0 < back → f ≡ back - 1
      → bytes_of image s i x (frame 256 pool f) ≡ page_lines image pool table s i x
  backed-lines back f m e some is =
      let names : get_or table (back_of s i) 0 ≡ suc f = sym e ∙ omega arith in
      rw (m, names)

  bytes_most : (bytes : List ℕ) → length (bytes_of image s i x bytes) ≤ 256
  bytes_most bytes =
      joined_length (byte_line image s i x bytes) 256
      (λ j. only-length (not (eqb (get_or bytes j 0) (backing_byte image (backing_at x) j))) (request_of write_code s (i * 256 + j) (get_or bytes j 0) 0 0 0))

  pub page-most : length (page_lines image pool table s i x) ≤ 256
  page-most = when-cases (λ (l : List Request). length l ≤ 256) (is_mapped x) (λ _. bytes_most (back_page image pool table s i x)) (λ _. omega arith)
