-- What holds of every sandbox after every list: the charge and share limits, at most 8 areas, marks where they belong.
use Prim.Native.Nat.{ℕ, ◌+◌, ◌-◌, ◌≤◌, ◌<◌}
use mathlib.Core.Path.{◌≡◌, refl, sym, ap, ◌∙◌}
use mathlib.Core.Logic.{⊎_elim}
use mathlib.Core.Bool.{true, false, ◌||◌, false≢true}
use mathlib.Core.Option.{Option, some, none, some-ne-none}
use native.Mathlib.Omega.{arith}
use lib.Dec.{eqb}
use borrow.Author.Tests.{eqb-true, eq-eqb, le-ltb, leb-true, lt-ltb}
use Rattle.basics.specs.Ranges.{count, sum, over}
use Rattle.basics.proofs.TestLaws.{by_cases, when-cases, and_left, and_right, never}
use Rattle.basics.proofs.RangeLaws.{inside-end, over-in, over-cases, over-both}
use Rattle.basics.proofs.CountLaws.{count_none, count-le, count-also, sum-put}
use Rattle.interface.specs.declared.page.Slot.TheVariants.{Unmapped}
use Rattle.interface.specs.declared.request.Request.{Request}
use Rattle.interface.specs.Requests.{◌is◌, open_code, map_code, unmap_code, write_code, snapshot_code, rewind_code, page_of}
use Rattle.interface.specs.Slots.{Slots, is_mapped, is_committed, with_committed, areas, mapped_pages, charge_of, copied}
use Rattle.interface.specs.Limits.{within}
use Rattle.interface.specs.Outcome.{first_of, new_page, page_on, slots_after, copy_after, share_after}
use Rattle.interface.specs.Refusals.{is_taken, all_mapped, applies, refusal}
use Rattle.interface.specs.Accepted.{Accepted}
use Rattle.interface.proofs.SlotLaws.{mapped-rights, committed-rights, mapped-commit, committed-mapped}
use Rattle.interface.proofs.KindLaws.{Kind, kind, is_map, is_unmap, is_protect, is_write, is_snapshot, is_rewind, is_other}
use Rattle.interface.proofs.AcceptedLaws.{accepted, map-fits}
use Rattle.interface.proofs.ChargeLaws.{charge-covers}
use Rattle.plain.specs.Machine.{Given, Kept, Plain, fresh, closed, frames_held, copy_slots, view_of, shares, with_kept, number_at, after}
use Rattle.plain.specs.Machine.{front_after, back_after, copied_back_after, runs_after, kept_after}
use Rattle.plain_claims.specs.Claims.{Keeps, Holds, Covered, NextWrite, NextRewind}
use Rattle.plain_claims.proofs.RunLaws.{map-front-new, held-map, held-unmap, held-snapshot, held-rewind, held-write}

-- the slots of the copy that an accepted request leaves
pub copy-slots : (g : Given) (q : Request) (k : Kept)
    → copy_slots (kept_after g q k).core ≡ copy_after q (kept_after g q k).core.pages.slots (copy_slots k.core)
unfolding copy_after
copy-slots g q k = by_cases (q is snapshot_code) (λ e. rw e) (λ e. rw e)

-- nothing is mapped in no copy
pub areas-none : areas (λ i. Unmapped) ≡ 0
unfolding areas
areas-none = count_none 64

pub mapped-none : mapped_pages (λ i. Unmapped) ≡ 0
unfolding mapped_pages
mapped-none = count_none 64

none-charged : (f : Slots) (share : ℕ) → charge_of (copied none) none ≤ share
unfolding charge_of
none-charged f share = omega (arith, mapped-none)

none-areas : areas (copied none) ≤ 8
none-areas = omega (arith, areas-none)

-- the copy keeps the limits: it is the old one, or the slots that a snapshot leaves
copy-charged : (q : Request) (now : Slots) (c : Option Slots) (share : ℕ) → charge_of now (copy_after q now c) ≤ share_after q share
    → ((q is open_code) ≡ true → c ≡ none) → charge_of (copied c) c ≤ share → charge_of (copied (copy_after q now c)) (copy_after q now c) ≤ share_after q share
unfolding copy_after
copy-charged q now none share new closed old = by_cases (q is snapshot_code) (λ e. rw e (rw e at new)) (λ e. rw e (none-charged now _))
copy-charged q now (some d) share new closed old =
    by_cases (q is snapshot_code) (λ e. rw e (rw e at new))
    (λ e. rw e (by_cases (q is open_code) (λ o. absurd (some-ne-none d (closed o))) (λ o. rw o old)))

copy-areas : (q : Request) (now : Slots) (c : Option Slots) → areas now ≤ 8 → areas (copied c) ≤ 8 → areas (copied (copy_after q now c)) ≤ 8
unfolding copy_after
copy-areas q now c new old = by_cases (q is snapshot_code) (λ e. rw e new) (λ e. rw e old)

-- mapped pages and backs together are at most the share
pub frames-suffice : (k : Kept) → Keeps k → Covered k
frames-suffice k h = omega (arith, h.charged, charge-covers k.core.pages.slots (copy_slots k.core) k.traces.back h.committed_in h.back_in)

-- and so a mapped page without a front finds room for one beside the fronts and backs
pub front-room : (k : Kept) → Keeps k → (i : ℕ) → i < 64 → is_mapped (k.core.pages.slots i) ≡ true → k.traces.front i ≡ false
    → count k.traces.front 64 + count k.traces.back 64 + 1 ≤ k.core.share
unfolding mapped_pages
front-room k h i l m e =
    omega (
      arith,
      count-also k.traces.front i 64 l e,
      count-le (λ j. eqb j i || k.traces.front j) (λ j. is_mapped (k.core.pages.slots j)) 64
          (λ j. by_cases (eqb j i) (λ t _. rw (eqb-true j i t) m) (λ t. rw t (h.front_mapped j))),
      frames-suffice k h,
    )

-- a closed sandbox holds nothing
held-closed : frames_held closed.traces ≡ 0
unfolding frames_held sum
held-closed = omega (arith, count_none 64)

module _ (g : Given) (q : Request) (k : Kept) (total : ℕ) (a : Accepted (view_of g total k.core) q) (h : Keeps k) where
  map-slots : q.code ≡ map_code → (i : ℕ) → (kept_after g q k).core.pages.slots i
      ≡ over (first_of k.core.pages.slots q) q.p2 (λ j. page_on (new_page q) (j - first_of k.core.pages.slots q)) k.core.pages.slots i
  unfolding slots_after
  map-slots e i = rw e

  front-mapped : Kind q → (i : ℕ) → (kept_after g q k).traces.front i ≡ true → is_mapped ((kept_after g q k).core.pages.slots i) ≡ true
  unfolding slots_after front_after all_mapped
  front-mapped (is_map e) i = λ f.
      ⊎_elim
      (λ m. ap is_mapped (map-slots e i ∙ over-in (first_of k.core.pages.slots q) q.p2 _ k.core.pages.slots i m))
      (λ m. rw e (over-cases (λ x. is_mapped x ≡ true) _ _ _ _ i (λ _. refl) (h.front_mapped i m)))
      (map-front-new q k.core.pages.slots k.traces e i f)
  front-mapped (is_unmap e) i = rw e (over-both (λ x y. x ≡ true → is_mapped y ≡ true) _ _ _ _ _ _ i (λ f. f) (h.front_mapped i))
  front-mapped (is_protect e) i = rw e (λ f. over-cases (λ x. is_mapped x ≡ true) _ _ _ _ i (λ _. rw mapped-rights (h.front_mapped i f)) (h.front_mapped i f))
  front-mapped (is_write e) i =
      let there : is_mapped (k.core.pages.slots (page_of q)) ≡ true = rw e at a.mapped in
      rw e (by_cases (eqb i (page_of q)) (λ t _. rw (eqb-true i (page_of q) t) there) (λ t. rw t (h.front_mapped i)))
  front-mapped (is_snapshot e) i = rw e (λ f. cc)
  front-mapped (is_rewind e) i = rw e (λ f. h.committed_in i (and_right (k.traces.front i) _ f))
  front-mapped (is_other x₁ x₂ x₃ x₄ x₅ x₆) i = rw (x₁, x₂, x₃, x₄, x₅, x₆) (h.front_mapped i)

  committed-in : Kind q → (i : ℕ) → is_committed ((kept_after g q k).core.pages.slots i) ≡ true → is_mapped (copied (copy_slots (kept_after g q k).core) i) ≡ true
  unfolding slots_after copy_after
  committed-in (is_map e) i =
      rw e
      (over-cases (λ x. is_committed x ≡ true → is_mapped (copied (copy_slots k.core) i) ≡ true) _ _ _ _ i (λ _ f. cc) (h.committed_in i))
  committed-in (is_unmap e) i =
      rw e
      (over-cases (λ x. is_committed x ≡ true → is_mapped (copied (copy_slots k.core) i) ≡ true) _ _ _ _ i (λ _ f. cc) (h.committed_in i))
  committed-in (is_protect e) i =
      rw e
      (over-cases (λ x. is_committed x ≡ true → is_mapped (copied (copy_slots k.core) i) ≡ true) _ _ _ _ i
      (λ _. rw committed-rights (h.committed_in i)) (h.committed_in i))
  committed-in (is_write e) i = rw e (h.committed_in i)
  committed-in (is_snapshot e) i = rw e (committed-mapped (with_committed (k.core.pages.slots i)))
  committed-in (is_rewind e) i = rw e (committed-mapped (copied (copy_slots k.core) i))
  committed-in (is_other x₁ x₂ x₃ x₄ x₅ x₆) i = rw (x₁, x₂, x₃, x₅, x₆) (h.committed_in i)

  back-in : Kind q → (i : ℕ) → (kept_after g q k).traces.back i ≡ true → is_mapped (copied (copy_slots (kept_after g q k).core) i) ≡ true
  unfolding slots_after copy_after back_after
  back-in (is_snapshot e) i = rw e (λ f. rw mapped-commit (h.front_mapped i f))
  back-in (is_rewind e) i = rw (e, ← h.back_copied) (h.back_in i)
  back-in (is_map e) i = rw e (h.back_in i)
  back-in (is_unmap e) i = rw e (h.back_in i)
  back-in (is_protect e) i = rw e (h.back_in i)
  back-in (is_write e) i = rw e (h.back_in i)
  back-in (is_other x₁ x₂ x₃ x₄ x₅ x₆) i = rw (x₅, x₆) (h.back_in i)

  back-copied : (kept_after g q k).traces.back ≡ (kept_after g q k).traces.copied_back
  unfolding back_after copied_back_after
  back-copied = by_cases (q is snapshot_code) (λ e. rw e) (λ e. rw e (by_cases (q is rewind_code) (λ t. rw t) (λ t. rw t h.back_copied)))

  written : q.code ≡ write_code → is_mapped (k.core.pages.slots (page_of q)) ≡ true
  unfolding all_mapped
  written e = rw e at a.mapped

  held_same : (q is map_code) ≡ false → (q is unmap_code) ≡ false → (q is write_code) ≡ false → (q is snapshot_code) ≡ false → (q is rewind_code) ≡ false
      → frames_held (kept_after g q k).traces ≤ share_after q k.core.share
  unfolding front_after back_after copied_back_after runs_after
  held_same x₁ x₂ x₄ x₅ x₆ =
      rw (x₁, x₂, x₄, x₅, x₆)
      (by_cases (q is open_code)
      (λ o. rw o (omega (arith, ap (λ (x : Kept). frames_held x.traces) (h.closed_empty (a.closed o)), held-closed)))
      (λ o. rw o h.in_share))

  -- fronts, backs and kept frames stay within the share
  in-share : Kind q → frames_held (kept_after g q k).traces ≤ share_after q k.core.share
  in-share (is_map e) = rw e (omega (arith, rw e at (held-map q k.core.pages.slots k.core.share k.traces e), h.in_share))
  in-share (is_unmap e) = rw e (omega (arith, rw e at (held-unmap q k.core.pages.slots k.core.share k.traces e), h.in_share))
  in-share (is_protect e) = held_same (rw e) (rw e) (rw e) (rw e) (rw e)
  in-share (is_write e) =
      let there : is_mapped (k.core.pages.slots (page_of q)) ≡ true = written e in
      let low : page_of q < 64 = h.inside (page_of q) there in
      rw e (rw e at (held-write q k.core.pages.slots k.core.share k.traces e low (front-room k h (page_of q) low there) h.in_share))
  in-share (is_snapshot e) = rw e (omega (arith, rw e at (held-snapshot q k.core.pages.slots k.core.share k.traces e), h.in_share))
  in-share (is_rewind e) = rw e (omega (arith, rw e at (held-rewind q k.core.pages.slots k.core.share k.traces e h.back_copied), h.in_share))
  in-share (is_other x₁ x₂ x₃ x₄ x₅ x₆) = held_same x₁ x₂ x₄ x₅ x₆

  page-inside : Kind q → (i : ℕ) → is_mapped ((kept_after g q k).core.pages.slots i) ≡ true → i < 64
  unfolding slots_after
  page-inside (is_map e) i =
      let fits = map-fits _ q a e in
      rw e (over-cases (λ x. is_mapped x ≡ true → i < 64) _ _ _ _ i (λ m _. omega (arith, inside-end _ q.p2 i m, rw e at fits)) (h.inside i))
  page-inside (is_unmap e) i = rw e (over-cases (λ x. is_mapped x ≡ true → i < 64) _ _ _ _ i (λ _ f. absurd (false≢true f)) (h.inside i))
  page-inside (is_protect e) i = rw e (over-cases (λ x. is_mapped x ≡ true → i < 64) _ _ _ _ i (λ _. rw mapped-rights (h.inside i)) (h.inside i))
  page-inside (is_write e) i = rw e (h.inside i)
  page-inside (is_snapshot e) i = rw (e, mapped-commit) (h.inside i)
  page-inside (is_rewind e) i = rw e (h.copy_inside i)
  page-inside (is_other x₁ x₂ x₃ x₄ x₅ x₆) i = rw (x₁, x₂, x₃, x₅, x₆) (h.inside i)

  copy-inside : (i : ℕ) → is_mapped (copied (copy_slots (kept_after g q k).core) i) ≡ true → i < 64
  unfolding slots_after copy_after
  copy-inside i =
      by_cases (q is snapshot_code)
      (λ e. rw (eqb-true q.code snapshot_code e, mapped-commit) (h.inside i))
      (λ e. rw e (h.copy_inside i))

  open-share : (1 ≤ share_after q k.core.share) × (share_after q k.core.share ≤ 128)
  unfolding within
  open-share =
      by_cases (q is open_code)
      (λ e.
      let w = rw (eqb-true q.code open_code e) at a.in_limits in
      rw e (leb-true 1 q.p1 (search (and_left, and_right)), leb-true q.p1 128 (search (and_left, and_right))))
      (λ e. rw e (h.open_share (a.opened e)))

  pub keeps-accepted : Keeps (kept_after g q k)
  keeps-accepted = record {
    charged = rw (copy-slots g q k) a.charged;
    in_areas = a.in_areas;
    front_mapped = front-mapped (kind q);
    committed_in = committed-in (kind q);
    back_in = back-in (kind q);
    in_share = in-share (kind q);
    back_copied = back-copied;
    inside = page-inside (kind q);
    copy_inside = copy-inside;
    copy_charged =
        rw (copy-slots g q k)
        (copy-charged q _ (copy_slots k.core) k.core.share a.charged
        (λ o. ap (λ (x : Kept). copy_slots x.core) (h.closed_empty (a.closed o))) h.copy_charged);
    copy_areas = rw (copy-slots g q k) (copy-areas q _ (copy_slots k.core) a.in_areas h.copy_areas);
    open_share = λ e. open-share;
    closed_empty = λ e. absurd (false≢true (sym e));
  }

pub keeps-closed : Keeps closed
unfolding charge_of
keeps-closed = record {
  charged = omega (arith, mapped-none);
  in_areas = omega (arith, areas-none);
  front_mapped = λ i e. cc;
  committed_in = λ i e. cc;
  back_in = λ i e. cc;
  in_share = omega (arith, held-closed);
  back_copied = refl;
  inside = λ i e. absurd (false≢true e);
  copy_inside = λ i e. absurd (false≢true e);
  copy_charged = omega (arith, mapped-none);
  copy_areas = omega (arith, areas-none);
  open_share = λ e. absurd (false≢true e);
  closed_empty = λ _. refl;
}

pub holds-fresh : (g : Given) → Holds g fresh
unfolding sum
holds-fresh g = record { each = λ s. keeps-closed; pooled = omega arith }

shares-put : (p : Plain) (s : ℕ) (k : Kept) → s < 4 → shares (with_kept s k p) + (p s).core.share ≡ shares p + k.core.share
shares-put p s k h = sum-put (λ (x : Kept). x.core.share) p s k 4 (omega arith)

holds-accepted : (g : Given) (p : Plain) (q : Request) → Holds g p → number_at g p q ≡ 0 → Holds g (with_kept q.sandbox (kept_after g q (p q.sandbox)) p)
holds-accepted g p q h n =
    let a = accepted _ q n in
    let put-shares = shares-put p q.sandbox (kept_after g q (p q.sandbox)) a.in_row in
    record {
      each = λ s. when-cases Keeps (eqb q.sandbox s) (λ _. keeps-accepted g q (p q.sandbox) (shares p) a (h.each q.sandbox)) (λ _. h.each s);
      pooled =
          by_cases (q is open_code)
          (λ e. let open-share : share_after q (p q.sandbox).core.share ≡ q.p1 = rw e in
          let none_yet : (p q.sandbox).core.share ≡ 0 = ap (λ (x : Kept). x.core.share) ((h.each q.sandbox).closed_empty (a.closed e)) in
          omega (arith, put-shares, open-share, a.pooled e, none_yet))
          (λ e.
          let same-share : share_after q (p q.sandbox).core.share ≡ (p q.sandbox).core.share = rw e in
          omega (arith, put-shares, same-share, h.pooled));
    }

pub holds_after : (g : Given) (p : Plain) (q : Request) → Holds g p → Holds g (after g p q)
unfolding after
holds_after g p q h = when-cases (Holds g) (eqb (number_at g p q) 0) (λ e. holds-accepted g p q h (eqb-true _ 0 e)) (λ _. h)

-- a next write is accepted and leaves the page with a front
pub next-write : (g : Given) (p : Plain) → Holds g p → NextWrite g p
unfolding applies refusal all_mapped slots_after copy_after after front_after
next-write g p h q e row o limits there right =
    let own = h.each q.sandbox in
    let number : number_at g p q ≡ 0 = rw (limits, e, lt-ltb q.sandbox 4 row, there, right, le-ltb _ _ own.charged, le-ltb 8 _ own.in_areas, o) in
    (number, rw (number, eq-eqb q.sandbox q.sandbox refl, e, eq-eqb (page_of q) (page_of q) refl))

-- a sandbox with a snapshot is open, and its rewind is accepted
taken-open : (k : Kept) → Keeps k → is_taken (copy_slots k.core) ≡ true → k.core.opened ≡ true
taken-open k h t =
    by_cases k.core.opened (λ e. e)
    (λ e. never (is_taken (copy_slots k.core)) t (ap (λ (x : Kept). is_taken (copy_slots x.core)) (h.closed_empty e)))

pub next-rewind : (g : Given) (p : Plain) → Holds g p → NextRewind g p
unfolding applies refusal all_mapped slots_after copy_after
next-rewind g p h q e row limits taken =
    let own = h.each q.sandbox in
    rw (limits, e, lt-ltb q.sandbox 4 row, taken, le-ltb _ _ own.copy_charged, le-ltb 8 _ own.copy_areas, taken-open (p q.sandbox) own taken)
