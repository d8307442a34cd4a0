-- What a page reads in the machine is what it has in the plain machine.
use mathlib.Core.Path.{◌≡◌, refl, sym, ap, ◌∙◌}
use mathlib.Core.Bool.{Bool, true, false, false≢true}
use mathlib.Core.Option.{some, none}
use mathlib.Core.List.{List}
use Prim.Native.Nat.{ℕ, suc, ◌+◌, ◌*◌, ◌<◌, ◌≤◌}
use native.Mathlib.Omega.{arith}
use lib.ListN.{length, get_or}
use Rattle.basics.proofs.TestLaws.{by_cases}
use Rattle.interface.specs.declared.page.Backing.{Backing}
use Rattle.interface.specs.declared.page.Backing.TheVariants.{Anonymous, Image}
use Rattle.interface.specs.declared.page.Slot.{Slot}
use Rattle.interface.specs.Slots.{Slots, is_mapped, is_committed, backing_at, copied}
use Rattle.interface.proofs.SlotLaws.{uncommitted-of}
use Rattle.interface.specs.Numbers.{pages_in}
use Rattle.pages.specs.Parts.{listed, frame}
use Rattle.pages.proofs.PartLaws.{length-zeros, length-frame}
use Rattle.pages.proofs.ListedLaws.{listed_same, zeros-listed, frame-listed}
use Rattle.marks.proofs.NamedLaws.{by-entry}
use Rattle.table.specs.Store.{Store, entry, contents}
use Rattle.table.proofs.StoreLaws.{contents-none, contents-some}
use Rattle.areas.specs.Areas.{slots}
use Rattle.areas.specs.Formed.{ImagesExist}
use Rattle.state.specs.declared.sandbox.Sandbox.{Sandbox}
use Rattle.table.specs.Backing.{backing_page, backing_end}
use Rattle.content.specs.Content.{page_under, page_read, copy_backing, copy_page, copy_read}
use Rattle.content.proofs.ReadingLaws.{backing-there}
use Rattle.plain.specs.Machine.{Given, Kept, copy_slots, copy_bytes, backing_byte}
use Rattle.plain_claims.specs.Claims.{Keeps, Reads}
use Rattle.simulation.specs.Lent.{Lent}
use Rattle.simulation.specs.Agrees.{page_if, AgreesAt}
use Rattle.simulation.proofs.AreaSteps.{image-at}

-- ---- a page that was never written

module _ (image : List ℕ) (whole : length image ≡ pages_in (length image) * 256) where
  pub backing-whole : (b : Backing) → ImagesExist (pages_in (length image)) b 1 → length (backing_page image b) ≡ 256
  backing-whole Anonymous h = length-zeros 256
  backing-whole (Image page) h = length-frame 256 image page.0 (omega arith)

  backing-listed : (b : Backing) → ImagesExist (pages_in (length image)) b 1 → backing_page image b ≡ listed 256 (backing_byte image b)
  backing-listed Anonymous h = zeros-listed 256
  backing-listed (Image page) h =
      frame-listed 256 image page.0 (omega arith)
      ∙ listed_same 256 _ (λ j. get_or image (256 * page.0 + j) 0) (λ o l. ap (λ (x : ℕ). get_or image x 0) (omega arith))

-- ---- a page where it is marked

pub some-none : {A : Type 0} {P : Type 0} (x : A) → some x ≡ none → P
some-none x e = absurd (let z : ◌≡◌ {A = ℕ} 0 1 = cc in omega arith)

pub if_none : (m : Bool) (f : ℕ → ℕ) → page_if m f ≡ none → m ≡ false
if_none true f e = some-none _ e
if_none false f e = refl

pub if_some : (m : Bool) (f : ℕ → ℕ) (x : List ℕ) → page_if m f ≡ some x → (m ≡ true) × (x ≡ listed 256 f)
if_some true f x e = (refl, cc)
if_some false f x e = some-none x (sym e)

module _ (st : Store) (k : ℕ) (m : Bool) (h : ℕ → ℕ) (c : contents 256 st k ≡ page_if m h) where
  pub frame_is : (f : ℕ) → entry st k ≡ suc f → (m ≡ true) × (frame 256 st.pool f ≡ listed 256 h)
  frame_is f e = if_some m h (frame 256 st.pool f) (sym c ∙ contents-some 256 st k f e)

  pub mark-none : entry st k ≡ 0 → m ≡ false
  mark-none e = if_none m h (sym c ∙ contents-none 256 st k e)

  pub some-entry : m ≡ true → (f : ℕ) × (entry st k ≡ suc f)
  some-entry e = by-entry ((f : ℕ) × (entry st k ≡ suc f)) (entry st k) (λ z. absurd (false≢true (sym (mark-none z) ∙ e))) (λ f z. (f, z))

-- ---- the pages of sandbox s

module _ (g : Given) (L : Lent g) (st : Store) (s : ℕ) (b : Sandbox) (k : Kept) (h : Keeps k) (r : Reads g k) (A : AgreesAt g st s b k) where
  pub at : (i : ℕ) → slots b.rec.present i ≡ k.core.pages.slots i
  at i = ap (λ (f : Slots). f i) A.present

  pub copy_at : (i : ℕ) → slots b.rec.snapshot i ≡ copied (copy_slots k.core) i
  copy_at i = ap (λ (f : Slots). f i) A.copy

  backing-page : (i : ℕ)
      → backing_page g.image (backing_at (slots b.rec.present i)) ≡ listed 256 (backing_byte g.image (backing_at (k.core.pages.slots i)))
  backing-page i =
      backing-listed g.image L.image (backing_at (slots b.rec.present i)) (image-at _ b.rec.present A.formed i)
      ∙ ap (λ (x : Slot). listed 256 (backing_byte g.image (backing_at x))) (at i)

  -- the image has what the snapshot's pages start with
  pub copy-there : (i : ℕ) → backing_end (copy_backing b.rec i) * 256 ≤ length g.image
  copy-there = backing-there g.image b.rec.snapshot A.formed_copy

  pub copy-page : (i : ℕ) → copy_page g.image b.rec i ≡ listed 256 (backing_byte g.image (backing_at (copied (copy_slots k.core) i)))
  copy-page i =
      backing-listed g.image L.image (backing_at (slots b.rec.snapshot i)) (image-at _ b.rec.snapshot A.formed_copy i)
      ∙ ap (λ (x : Slot). listed 256 (backing_byte g.image (backing_at x))) (copy_at i)

  pub no_front : (i : ℕ) → is_mapped (k.core.pages.slots i) ≡ false → k.traces.front i ≡ false
  no_front i m = by_cases (k.traces.front i) (λ f. absurd (false≢true (sym m ∙ h.front_mapped i f))) (λ f. f)

  pub no-back : (i : ℕ) → is_mapped (copied (copy_slots k.core) i) ≡ false → k.traces.back i ≡ false
  no-back i m = by_cases (k.traces.back i) (λ f. absurd (false≢true (sym m ∙ h.back_in i f))) (λ f. f)

  -- but for its front
  pub under : (i : ℕ) → i < 64 → is_mapped (k.core.pages.slots i) ≡ true → k.traces.front i ≡ false
      → page_under g.image st b.rec s i ≡ listed 256 (k.core.pages.bytes i)
  unfolding page_under
  under i l m f =
      by_cases (is_committed (k.core.pages.slots i))
      (λ c. rw (backing-page i, A.backs i l, at i, c)
      (by_cases (k.traces.back i)
      (λ e. rw e (ap (listed 256) (sym (r.old i c f))))
      (λ e. rw e (ap (listed 256) (ap (backing_byte g.image) (r.backing i c) ∙ sym (r.unbacked i (h.committed_in i c) e) ∙ sym (r.old i c f))))))
      (λ c. rw (backing-page i, at i, c) (ap (listed 256) (sym (r.new i (uncommitted-of (k.core.pages.slots i) m c) f))))

  -- a mapped page
  pub page-read : (i : ℕ) → i < 64 → is_mapped (k.core.pages.slots i) ≡ true → page_read g.image st b.rec s i ≡ listed 256 (k.core.pages.bytes i)
  unfolding page_read
  page-read i l m = rw (A.fronts i l) (by_cases (k.traces.front i) (λ f. rw f) (λ f. rw f (under i l m f)))

  -- a page of the snapshot
  pub copy-read : (i : ℕ) → i < 64 → is_mapped (copied (copy_slots k.core) i) ≡ true
      → copy_read g.image st b.rec s i ≡ listed 256 (copy_bytes k.core.copy i)
  unfolding copy_read
  copy-read i l m =
      rw (copy-page i, A.backs i l) (by_cases (k.traces.back i) (λ e. rw e) (λ e. rw e (ap (listed 256) (sym (r.unbacked i m e)))))
