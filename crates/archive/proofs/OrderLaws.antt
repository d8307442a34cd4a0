-- After every list, a sandbox's pages and its copy are in order.
use Prim.Native.Nat.{ℕ, ◌+◌, ◌-◌, ◌/◌, ◌<◌}
use mathlib.Core.Path.{◌≡◌, refl}
use mathlib.Core.Bool.{true, false, ◌&&◌, false≢true}
use mathlib.Core.List.{List, [], ◌∷◌}
use mathlib.Core.Option.{Option, some, none, map}
use native.Mathlib.Omega.{arith}
use lib.Dec.{leb, ltb, eqb}
use lib.ListN.{length}
use borrow.Author.Tests.{eqb-true, eq-eqb, ltb-true, leb-true}
use Rattle.basics.specs.Choice.{◌when◌else◌}
use Rattle.basics.specs.Ranges.{inside, over}
use Rattle.basics.proofs.TestLaws.{by_cases, when-cases, never, and_left, and_right}
use Rattle.basics.proofs.RangeLaws.{inside-first, inside-end, over-cases}
use Rattle.interface.specs.declared.page.Backing.TheVariants.{Anonymous, Image}
use Rattle.interface.specs.declared.page.Slot.{Slot}
use Rattle.interface.specs.declared.page.Slot.TheVariants.{Unmapped, Mapped}
use Rattle.interface.specs.declared.request.Request.{Request}
use Rattle.interface.specs.Requests.{◌is◌, map_code, protect_code, write_code, snapshot_code, page_of, offset_of}
use Rattle.interface.specs.Slots.{is_mapped, rights_at, backing_at, advance, with_rights, with_committed, copied}
use Rattle.interface.specs.Limits.{rights_ok, within, backing_ok, place_ok, pages_ok}
use Rattle.interface.specs.Outcome.{page_on, new_page, slots_after, copy_after}
use Rattle.interface.specs.Accepted.{Accepted}
use Rattle.interface.proofs.KindLaws.{Kind, kind, is_map, is_unmap, is_protect, is_write, is_snapshot, is_rewind, is_other}
use Rattle.interface.proofs.AcceptedLaws.{accepted}
use Rattle.plain.specs.Machine.{Given, Pages, Core, Kept, Plain, fresh, copy_bytes, backing_byte, new_bytes, stored, bytes_after, pages_after, core_after}
use Rattle.plain.specs.Machine.{view_of, shares, number_at, after, after_all}
use Rattle.plain_claims.specs.Lists.{up_to}
use Rattle.archive.proofs.IsSnapshot.{HasImage, InOrder}

-- one page with its bytes
pub record PageOk (image : List ℕ) (x : Slot) (bytes : ℕ → ℕ) : Type 0 where
  pub rights : is_mapped x ≡ true → rights_ok (rights_at x) ≡ true
  pub backing : is_mapped x ≡ true → HasImage (length image / 256) (backing_at x)
  pub small : (j : ℕ) → is_mapped x ≡ true → eqb (bytes j) (backing_byte image (backing_at x) j) ≡ false → bytes j < 256

abbrev pub PagesOk : List ℕ → Pages → Type 0
PagesOk image d = (i : ℕ) → PageOk image (d.slots i) (d.bytes i)

abbrev pub CopyOk : List ℕ → Option Pages → Type 0
CopyOk image none = Unit {0}
CopyOk image (some d) = PagesOk image d

pub record CoreOk (image : List ℕ) (c : Core) : Type 0 where
  pub present : PagesOk image c.pages
  pub copied : CopyOk image c.copy

none-ok : (image : List ℕ) (bytes : ℕ → ℕ) → PageOk image Unmapped bytes
none-ok image bytes = record { rights = λ m. absurd (false≢true m); backing = λ m. absurd (false≢true m); small = λ j m e. absurd (false≢true m) }

-- the same page with other rights, or committed
rights-ok : (image : List ℕ) (x : Slot) (bytes : ℕ → ℕ) (r : ℕ) → rights_ok r ≡ true → PageOk image x bytes → PageOk image (with_rights r x) bytes
rights-ok image Unmapped bytes r h k = k
rights-ok image (Mapped t) bytes r h k = record { rights = λ _. h; backing = k.backing; small = k.small }

commit-ok : (image : List ℕ) (x : Slot) (bytes : ℕ → ℕ) → PageOk image x bytes → PageOk image (with_committed x) bytes
commit-ok image Unmapped bytes k = k
commit-ok image (Mapped t) bytes k = record { rights = k.rights; backing = k.backing; small = k.small }

advance-image : (images n k : ℕ) (kind p : ℕ) → (eqb p 0 when eqb kind 0 else eqb kind 1 && leb (p + n) images) ≡ true → k < n
    → HasImage images (advance (Anonymous when eqb kind 0 else Image (record { 0 = p })) k)
advance-image images n k kind p h l =
    by_cases (eqb kind 0) (λ e. rw e tt) (λ e. rw e (let fits = leb-true (p + n) images (and_right (eqb kind 1) _ (rw e at h)) in omega arith))

-- two functions changed on one range, where being inside helps
over-pair {ℓ ℓ' ℓ''} : {A : Type ℓ} {B : Type ℓ'} (R : A → B → Type ℓ'') (a n : ℕ) (g f : ℕ → A) (g' f' : ℕ → B) (i : ℕ)
    → (inside a n i ≡ true → R (g i) (g' i)) → R (f i) (f' i) → R (over a n g f i) (over a n g' f' i)
unfolding over
over-pair R a n g f g' f' i new old = by_cases (inside a n i) (λ e. rw e (new e)) (λ e. rw e old)

copy-ok : (image : List ℕ) (o : Option Pages) → CopyOk image o → (i : ℕ) → PageOk image (copied (map (λ (d : Pages). d.slots) o) i) (copy_bytes o i)
copy-ok image none h i = none-ok image (λ j. 0)
copy-ok image (some d) h i = h i

module _ (g : Given) (q : Request) (c : Core) (total : ℕ) (a : Accepted (view_of g total c) q) (h : CoreOk g.image c) where
  new_ok : q.code ≡ map_code → (first i : ℕ) → inside first q.p2 i ≡ true → PageOk g.image (page_on (new_page q) (i - first)) (new_bytes g q first i)
  unfolding within
  new_ok e first i m =
      let limits = rw e at a.in_limits in
      let right : rights_ok q.p5 ≡ true = and_right (backing_ok (length g.image / 256) q) _ (and_right (place_ok q.p1 q.p2) _ limits) in
      let back : backing_ok (length g.image / 256) q ≡ true = and_left (backing_ok (length g.image / 256) q) _
      (and_right (place_ok q.p1 q.p2) _ limits) in
      record {
        rights = λ _. right;
        backing = λ _. advance-image (length g.image / 256) q.p2 (i - first) q.p3 q.p4 back
            (omega (arith, inside-first first q.p2 i m, inside-end first q.p2 i m));
        small = λ j _ n. let byte : ℕ = new_bytes g q first i j in never (eqb byte byte) (eq-eqb byte byte refl) n;
      }

  protect-right : q.code ≡ protect_code → rights_ok q.p3 ≡ true
  unfolding within
  protect-right e = and_left (rights_ok q.p3) _ (and_right (pages_ok q.p1 q.p2) _ (rw e at a.in_limits))

  write_byte : q.code ≡ write_code → q.p2 < 256
  unfolding within
  write_byte e = ltb-true q.p2 256 (and_left (ltb q.p2 256) _ (and_right (ltb q.p1 16384) _ (rw e at a.in_limits)))

  written-ok : q.p2 < 256 → (i : ℕ) → PageOk g.image (c.pages.slots i) (stored q c.pages.bytes i)
  written-ok b i = record {
    rights = (h.present i).rights;
    backing = (h.present i).backing;
    small = λ j m. when-cases (λ x. eqb x (backing_byte g.image (backing_at (c.pages.slots i)) j) ≡ false → x < 256)
        (eqb i (page_of q) && eqb j (offset_of q)) (λ _ _. b) (λ _. (h.present i).small j m);
  }

  present-ok : Kind q → PagesOk g.image (pages_after g q c)
  unfolding slots_after bytes_after
  present-ok (is_map e) i =
      let new = new_ok e in
      rw e (over-pair (PageOk g.image) _ _ _ _ _ _ i (λ m. new _ i m) (h.present i))
  present-ok (is_unmap e) i = rw e (over-cases (λ x. PageOk g.image x (c.pages.bytes i)) _ _ _ _ i (λ _. none-ok g.image (c.pages.bytes i))
      (h.present i))
  present-ok (is_protect e) i =
      let right = protect-right e in
      rw e (over-cases (λ x. PageOk g.image x (c.pages.bytes i)) _ _ _ _ i
      (λ _. rights-ok g.image (c.pages.slots i) (c.pages.bytes i) q.p3 right (h.present i)) (h.present i))
  present-ok (is_write e) i = let written = written-ok (write_byte e) i in rw e written
  present-ok (is_snapshot e) i = rw e (commit-ok g.image (c.pages.slots i) (c.pages.bytes i) (h.present i))
  present-ok (is_rewind e) i = rw e (copy-ok g.image c.copy h.copied i)
  present-ok (is_other x₁ x₂ x₃ x₄ x₅ x₆) i = rw (x₁, x₂, x₃, x₄, x₅, x₆) (h.present i)

  core-ok : CoreOk g.image (core_after g q c)
  unfolding copy_after
  core-ok = record {
    present = present-ok (kind q);
    copied = when-cases (CopyOk g.image) (q is snapshot_code) (λ _. present-ok (kind q)) (λ _. h.copied);
  }

ok-fresh : (image : List ℕ) (s : ℕ) → CoreOk image (fresh s).core
ok-fresh image s = record { present = λ i. none-ok image (λ j. 0); copied = tt }

ok-after : (g : Given) (p : Plain) (q : Request) → ((s : ℕ) → CoreOk g.image (p s).core) → (s : ℕ) → CoreOk g.image (after g p q s).core
unfolding after
ok-after g p q h s =
    when-cases (λ (x : Plain). CoreOk g.image (x s).core) (eqb (number_at g p q) 0)
    (λ n. when-cases (λ (k : Kept). CoreOk g.image k.core) (eqb q.sandbox s)
    (λ e. core-ok g q (p q.sandbox).core (shares p) (accepted _ q (eqb-true _ 0 n)) (h q.sandbox)) (λ _. h s))
    (λ _. h s)

ok-all : (g : Given) (qs : List Request) (p : Plain) → ((s : ℕ) → CoreOk g.image (p s).core) → (s : ℕ) → CoreOk g.image (after_all g p qs s).core
unfolding after_all
ok-all g [] p h s = h s
ok-all g (q ∷ qs) p h s = ok-all g qs (after g p q) (ok-after g p q h) s

in_order : (image : List ℕ) (d : Pages) → PagesOk image d → InOrder image d
in_order image d h = record { rights = λ i. (h i).rights; backing = λ i. (h i).backing; bytes = λ i j. (h i).small j }

-- the copy that a sandbox has after a list is in order
pub copy-in-order : (g : Given) (qs : List Request) (s : ℕ) (d : Pages) → (up_to g qs s).core.copy ≡ some d → InOrder g.image d
copy-in-order g qs s d e = in_order g.image d (rw e at (ok-all g qs fresh (ok-fresh g.image) s).copied)
