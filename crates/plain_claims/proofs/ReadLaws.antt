-- What a page has whose front or back mark is missing, after every list.
use Prim.Native.Nat.{ℕ}
use mathlib.Core.Path.{◌≡◌, refl, ◌∙◌, fun_ext}
use mathlib.Core.Bool.{true, false, ◌||◌, false≢true}
use lib.Dec.{eqb}
use borrow.Author.Tests.{eqb-true}
use Rattle.basics.proofs.TestLaws.{by_cases, when-cases, or_left, or_right}
use Rattle.basics.proofs.RangeLaws.{over-cases, over-both}
use Rattle.interface.specs.declared.request.Request.{Request}
use Rattle.interface.specs.Requests.{◌is◌, map_code, snapshot_code, page_of}
use Rattle.interface.specs.Slots.{is_mapped, is_committed, is_uncommitted, backing_at, copied}
use Rattle.interface.specs.Outcome.{slots_after, copy_after}
use Rattle.interface.specs.Refusals.{is_taken}
use Rattle.interface.specs.Accepted.{Accepted}
use Rattle.interface.proofs.SlotLaws.{committed-rights, uncommitted-rights, backing-rights, mapped-commit, committed-commit, uncommitted-commit, backing-commit}
use Rattle.interface.proofs.SlotLaws.{uncommitted-mapped, uncommitted-of, one-mark, untaken-copied}
use Rattle.interface.proofs.KindLaws.{Kind, kind, is_map, is_unmap, is_protect, is_write, is_snapshot, is_rewind, is_other}
use Rattle.interface.proofs.AcceptedLaws.{accepted}
use Rattle.plain.specs.Machine.{Given, Kept, Plain, fresh, copy_slots, copy_bytes, stored, backing_byte, view_of, shares, number_at, after}
use Rattle.plain.specs.Machine.{bytes_after, front_after, back_after, kept_after}
use Rattle.plain_claims.specs.Claims.{Keeps, Holds, Reads}
use Rattle.plain_claims.proofs.RunLaws.{map-front-old}

module _ (g : Given) (q : Request) (k : Kept) (total : ℕ) (a : Accepted (view_of g total k.core) q) (h : Keeps k) (r : Reads g k) where
  -- a write leaves the bytes of a page that has no front after it
  unwritten : (i : ℕ) → (eqb i (page_of q) || k.traces.front i) ≡ false → stored q k.core.pages.bytes i ≡ k.core.pages.bytes i
  unwritten i f = fun_ext (λ j. rw (or_left (eqb i (page_of q)) _ f))

  -- without a copy no page is committed
  none_old : (i : ℕ) → is_taken (copy_slots k.core) ≡ false → is_committed (k.core.pages.slots i) ≡ false
  none_old i t = by_cases (is_committed (k.core.pages.slots i)) (λ c. absurd (untaken-copied (copy_slots k.core) i t (h.committed_in i c))) (λ c. c)

  -- a map: of a page that had no front before
  old-map : q.code ≡ map_code → (i : ℕ) → is_committed ((kept_after g q k).core.pages.slots i) ≡ true → k.traces.front i ≡ false
      → (kept_after g q k).core.pages.bytes i ≡ copy_bytes (kept_after g q k).core.copy i
  unfolding slots_after bytes_after copy_after
  old-map e i =
      rw e
      (over-both (λ x y. is_committed x ≡ true → k.traces.front i ≡ false → y ≡ copy_bytes k.core.copy i) _ _ _ _ _ _ i
      (λ c. absurd (false≢true c)) (r.old i))

  new-map : q.code ≡ map_code → (i : ℕ) → is_uncommitted ((kept_after g q k).core.pages.slots i) ≡ true → k.traces.front i ≡ false
      → (kept_after g q k).core.pages.bytes i ≡ backing_byte g.image (backing_at ((kept_after g q k).core.pages.slots i))
  unfolding slots_after bytes_after
  new-map e i =
      rw e
      (over-both (λ x y. is_uncommitted x ≡ true → k.traces.front i ≡ false → y ≡ backing_byte g.image (backing_at x)) _ _ _ _ _ _ i (λ _ _. refl) (r.new i))

  old' : Kind q → (i : ℕ) → is_committed ((kept_after g q k).core.pages.slots i) ≡ true → (kept_after g q k).traces.front i ≡ false
      → (kept_after g q k).core.pages.bytes i ≡ copy_bytes (kept_after g q k).core.copy i
  unfolding slots_after bytes_after front_after copy_after
  old' (is_map e) i = λ c f. old-map e i c (map-front-old q k.core.pages.slots k.traces e i f)
  old' (is_unmap e) i =
      rw e
      (over-both (λ x y. is_committed x ≡ true → y ≡ false → k.core.pages.bytes i ≡ copy_bytes k.core.copy i) _ _ _ _ _ _ i
      (λ c. absurd (false≢true c)) (r.old i))
  old' (is_protect e) i =
      rw e
      (over-cases (λ x. is_committed x ≡ true → k.traces.front i ≡ false → k.core.pages.bytes i ≡ copy_bytes k.core.copy i) _ _ _ _ i
      (λ _. rw committed-rights (r.old i)) (r.old i))
  old' (is_write e) i = rw e (λ c f. unwritten i f ∙ r.old i c (or_right (eqb i (page_of q)) _ f))
  old' (is_snapshot e) i = rw e (λ _ _. refl)
  old' (is_rewind e) i = rw e (λ _ _. refl)
  old' (is_other x₁ x₂ x₃ x₄ x₅ x₆) i = rw (x₁, x₂, x₃, x₄, x₅, x₆) (r.old i)

  new' : Kind q → (i : ℕ) → is_uncommitted ((kept_after g q k).core.pages.slots i) ≡ true → (kept_after g q k).traces.front i ≡ false
      → (kept_after g q k).core.pages.bytes i ≡ backing_byte g.image (backing_at ((kept_after g q k).core.pages.slots i))
  unfolding slots_after bytes_after front_after
  new' (is_map e) i = λ c f. new-map e i c (map-front-old q k.core.pages.slots k.traces e i f)
  new' (is_unmap e) i =
      rw e
      (over-both (λ x y. is_uncommitted x ≡ true → y ≡ false → k.core.pages.bytes i ≡ backing_byte g.image (backing_at x)) _ _ _ _ _ _ i
      (λ c. absurd (false≢true c)) (r.new i))
  new' (is_protect e) i =
      rw e
      (over-cases (λ x. is_uncommitted x ≡ true → k.traces.front i ≡ false → k.core.pages.bytes i ≡ backing_byte g.image (backing_at x)) _ _ _ _ i
      (λ _. rw (uncommitted-rights, backing-rights) (r.new i)) (r.new i))
  new' (is_write e) i = rw e (λ c f. unwritten i f ∙ r.new i c (or_right (eqb i (page_of q)) _ f))
  new' (is_snapshot e) i = rw (e, uncommitted-commit) (λ c _. absurd (false≢true c))
  new' (is_rewind e) i =
      rw e (λ c _. one-mark (copied (copy_slots k.core) i) c (r.marked i (uncommitted-mapped (copied (copy_slots k.core) i) c)))
  new' (is_other x₁ x₂ x₃ x₄ x₅ x₆) i = rw (x₁, x₂, x₃, x₄, x₅, x₆) (r.new i)

  unbacked' : Kind q → (i : ℕ) → is_mapped (copied (copy_slots (kept_after g q k).core) i) ≡ true → (kept_after g q k).traces.back i ≡ false
      → copy_bytes (kept_after g q k).core.copy i ≡ backing_byte g.image (backing_at (copied (copy_slots (kept_after g q k).core) i))
  unfolding slots_after bytes_after copy_after back_after
  unbacked' (is_snapshot e) i =
      let none-taken = none_old i (a.untaken (rw e)) in
      rw (e, mapped-commit, backing-commit) (λ m f. r.new i (uncommitted-of (k.core.pages.slots i) m none-taken) f)
  unbacked' (is_rewind e) i = rw (e, ← h.back_copied) (r.unbacked i)
  unbacked' (is_map e) i = rw e (r.unbacked i)
  unbacked' (is_unmap e) i = rw e (r.unbacked i)
  unbacked' (is_protect e) i = rw e (r.unbacked i)
  unbacked' (is_write e) i = rw e (r.unbacked i)
  unbacked' (is_other x₁ x₂ x₃ x₄ x₅ x₆) i = rw (x₅, x₆) (r.unbacked i)

  backing' : Kind q → (i : ℕ) → is_committed ((kept_after g q k).core.pages.slots i) ≡ true
      → backing_at ((kept_after g q k).core.pages.slots i) ≡ backing_at (copied (copy_slots (kept_after g q k).core) i)
  unfolding slots_after copy_after
  backing' (is_map e) i =
      rw e
      (over-cases (λ x. is_committed x ≡ true → backing_at x ≡ backing_at (copied (copy_slots k.core) i)) _ _ _ _ i
      (λ _ c. absurd (false≢true c)) (r.backing i))
  backing' (is_unmap e) i =
      rw e
      (over-cases (λ x. is_committed x ≡ true → backing_at x ≡ backing_at (copied (copy_slots k.core) i)) _ _ _ _ i
      (λ _ c. absurd (false≢true c)) (r.backing i))
  backing' (is_protect e) i =
      rw e
      (over-cases (λ x. is_committed x ≡ true → backing_at x ≡ backing_at (copied (copy_slots k.core) i)) _ _ _ _ i
      (λ _. rw (committed-rights, backing-rights) (r.backing i)) (r.backing i))
  backing' (is_write e) i = rw e (r.backing i)
  backing' (is_snapshot e) i = rw e (λ _. refl)
  backing' (is_rewind e) i = rw e (λ _. refl)
  backing' (is_other x₁ x₂ x₃ x₄ x₅ x₆) i = rw (x₁, x₂, x₃, x₅, x₆) (r.backing i)

  marked' : (i : ℕ) → is_mapped (copied (copy_slots (kept_after g q k).core) i) ≡ true → is_committed (copied (copy_slots (kept_after g q k).core) i) ≡ true
  unfolding slots_after copy_after
  marked' i =
      by_cases (q is snapshot_code)
      (λ e. rw (eqb-true q.code snapshot_code e, mapped-commit, committed-commit) (λ m. m))
      (λ e. rw e (r.marked i))

  reads-accepted : Reads g (kept_after g q k)
  reads-accepted = record { old = old' (kind q); new = new' (kind q); unbacked = unbacked' (kind q); backing = backing' (kind q); marked = marked' }

pub reads-fresh : (g : Given) (s : ℕ) → Reads g (fresh s)
reads-fresh g s = record {
  old = λ i c f. absurd (false≢true c);
  new = λ i c f. absurd (false≢true c);
  unbacked = λ i c f. absurd (false≢true c);
  backing = λ i c. absurd (false≢true c);
  marked = λ i c. c;
}

pub reads-after : (g : Given) (p : Plain) (q : Request) → Holds g p → ((s : ℕ) → Reads g (p s)) → (s : ℕ) → Reads g (after g p q s)
unfolding after
reads-after g p q h r s =
    when-cases (λ (x : Plain). Reads g (x s)) (eqb (number_at g p q) 0)
    (λ n. when-cases (Reads g) (eqb q.sandbox s)
    (λ e. reads-accepted g q (p q.sandbox) (shares p) (accepted _ q (eqb-true _ 0 n)) (h.each q.sandbox) (r q.sandbox)) (λ _. r s))
    (λ _. r s)
