-- The areas after an accepted request: well formed, and with the slots that result.
use mathlib.Core.Path.{◌≡◌, sym, ap, ◌∙◌}
use mathlib.Core.Bool.{true, false, ◌&&◌, false≢true}
use mathlib.Core.Option.{Option, some, none, map}
use Prim.Native.Nat.{ℕ, ◌+◌}
use lib.Dec.{leb, eqb}
use lib.ListN.{length}
use borrow.Author.Tests.{eqb-true, leb-true}
use Rattle.basics.proofs.TestLaws.{by_cases, and_left, and_right}
use Rattle.interface.specs.declared.request.Request.{Request}
use Rattle.interface.specs.Requests.{◌is◌, map_code, unmap_code, protect_code, snapshot_code, rewind_code}
use Rattle.interface.specs.Slots.{Slots, backing_at, copied}
use Rattle.interface.specs.Limits.{rights_ok, pages_ok, place_ok, backing_ok, uses_three, within}
use Rattle.interface.specs.Outcome.{first_of, slots_after, copy_after, new_page}
use Rattle.interface.specs.Refusals.{View, is_taken, slots_then}
use Rattle.interface.specs.Accepted.{Accepted}
use Rattle.interface.proofs.SlotLaws.{beyond}
use Rattle.interface.proofs.KindLaws.{Kind, is_map, is_unmap, is_protect, is_write, is_snapshot, is_rewind, is_other}
use Rattle.interface.specs.Numbers.{pages_in}
use Rattle.table.specs.Store.{Store}
use Rattle.areas.specs.declared.area.Areas.{Areas}
use Rattle.areas.specs.Areas.{slots, empty, Bounded}
use Rattle.areas.specs.Formed.{ImagesExist, WellFormed}
use Rattle.areas.specs.Order.{Sensible, AllInOrder}
use Rattle.areas.proofs.OrderLaws.{slots-order, slots-bounded, order-image}
use Rattle.packing.specs.declared.pack.Packed.{Packed}
use Rattle.packing.specs.declared.pack.Change.TheVariants.{Map as MapPages, Unmap as UnmapPages, Protect as ProtectPages, Commit}
use Rattle.packing.specs.Pack.{pack}
use Rattle.packing.proofs.PackLaws.{areas-fit, slots-pack}
use Rattle.packing.proofs.KeptLaws.{pack-formed, changed-order}
use Rattle.packing.proofs.ChangeLaws.{map-slots, unmap-slots, protect-slots, snapshot-slots}
use Rattle.state.specs.declared.sandbox.Sandbox.{Sandbox}
use Rattle.records.specs.declared.Record.{Record}
use Rattle.records.specs.Record.{copy_of}
use Rattle.rules.specs.After.{changes, packed_after, present_after, taken_after, snapshot_after}
use Rattle.plain.specs.Machine.{Given, Pages, Core, Kept, copy_slots, kept_after, view_of}
use Rattle.plain_claims.specs.Claims.{Keeps}
use Rattle.plain_claims.proofs.KeptLaws.{keeps-accepted}
use Rattle.simulation.specs.Agrees.{AgreesAt}

-- the image page behind a page of well formed areas exists
pub image-at : (images : ℕ) (s : Areas) → WellFormed images s → (i : ℕ) → ImagesExist images (backing_at (slots s i)) 1
unfolding AllInOrder
image-at images s w i = order-image images (slots s i) (slots-order images s w i)

-- the two machines' copies
pub copy-same : (b : Record) (c : Core) → b.taken ≡ is_taken c.copy → slots b.snapshot ≡ copied (copy_slots c) → copy_of b ≡ copy_slots c
copy-same b c t e = go c.copy t e
  where
    go : (d : Option Pages) → b.taken ≡ is_taken d → slots b.snapshot ≡ copied (map (λ (x : Pages). x.slots) d)
        → copy_of b ≡ map (λ (x : Pages). x.slots) d
    go none f h = rw f
    go (some d) f h = rw f (ap some h)

-- ---- slots in order

-- what the limits of a map say of its pages
new-pages : (images : ℕ) (q : Request) → q.code ≡ map_code → within images q ≡ true → Sensible images q.p2 (new_page q)
unfolding within
new-pages images q e w =
    let limits : (place_ok q.p1 q.p2 && (backing_ok images q && rights_ok q.p5)) ≡ true = rw e at w in
    let backing : backing_ok images q ≡ true = search (and_left, and_right) in
    record {
      rights = search (and_left, and_right);
      image =
          by_cases (eqb q.p3 0) (λ t. rw t tt)
          (λ t. rw t (leb-true (q.p4 + q.p2) images (and_right (eqb q.p3 1) (leb (q.p4 + q.p2) images) (rw t at backing))));
    }

module _ (v : View) (q : Request) (a : Accepted v q) (o : AllInOrder v.images v.slots) (b : Bounded v.slots) where
  order-after : Kind q → changes q ≡ true → AllInOrder v.images (slots_then v q)
  unfolding within
  order-after (is_map e) c =
      rw (map-slots q v.slots v.copy e)
      (changed-order v.images v.slots (first_of v.slots q) q.p2 (MapPages (new_page q)) (new-pages v.images q e a.in_limits) o)
  order-after (is_unmap e) c = rw (unmap-slots q v.slots v.copy e) (changed-order v.images v.slots q.p1 q.p2 UnmapPages tt o)
  order-after (is_protect e) c =
      let limits : (pages_ok q.p1 q.p2 && (rights_ok q.p3 && uses_three q)) ≡ true = rw e at a.in_limits in
      rw (protect-slots q v.slots v.copy e)
      (changed-order v.images v.slots q.p1 q.p2 (ProtectPages q.p3) (search (and_left, and_right)) o)
  order-after (is_snapshot e) c = rw (snapshot-slots q v.slots v.copy e b) (changed-order v.images v.slots 0 64 Commit tt o)
  order-after (is_write e) c = absurd (false≢true (rw e at c))
  order-after (is_rewind e) c = absurd (false≢true (rw e at c))
  order-after (is_other x₁ x₂ x₃ x₄ x₅ x₆) c = absurd (false≢true (rw (x₁, x₂, x₃, x₅) at c))

-- ---- the areas

module _ (g : Given) (q : Request) (st : Store) (b : Sandbox) (k : Kept) (total : ℕ)
    (a : Accepted (view_of g total k.core) q) (h : Keeps k) (A : AgreesAt g st q.sandbox b k) where
  in_order : AllInOrder (pages_in (length g.image)) k.core.pages.slots
  in_order = rw (← A.present) (slots-order _ b.rec.present A.formed)

  now-bounded : Bounded k.core.pages.slots
  now-bounded = rw (← A.present) (slots-bounded _ b.rec.present A.formed)

  result : Slots
  result = slots_after q k.core.pages.slots (copy_slots k.core)

  bounded : Bounded result
  unfolding Bounded result
  bounded = beyond _ (keeps-accepted g q k total a h).inside

  result_fits : (pack result).fits ≡ true
  unfolding result
  result_fits = areas-fit _ a.in_areas

  all-packed : changes q ≡ true → packed_after q b.rec ≡ pack result
  unfolding packed_after result
  all-packed c = rw (c, A.present, copy-same b.rec k.core A.taken A.copy)

  packed : changes q ≡ true → present_after q b.rec ≡ (pack result).areas
  packed c = ap (λ (x : Packed). x.areas) (all-packed c)

  slots-packed : changes q ≡ true → slots (present_after q b.rec) ≡ (kept_after g q k).core.pages.slots
  unfolding result
  slots-packed c = rw (packed c) (slots-pack result bounded result_fits)

  formed-packed : Kind q → changes q ≡ true → WellFormed (pages_in (length g.image)) (present_after q b.rec)
  unfolding result
  formed-packed x c = rw (packed c) (pack-formed _ result (order-after (view_of g total k.core) q a in_order now-bounded x c) result_fits)

  module _ (x₁ : (q is map_code) ≡ false) (x₂ : (q is unmap_code) ≡ false) (x₃ : (q is protect_code) ≡ false) (x₅ : (q is snapshot_code) ≡ false) (x₆ : (q is rewind_code) ≡ false) where
    all-kept : packed_after q b.rec ≡ record { areas = b.rec.present; fits = true }
    unfolding packed_after
    all-kept = rw (x₁, x₂, x₃, x₅, x₆)

    kept : present_after q b.rec ≡ b.rec.present
    kept = ap (λ (x : Packed). x.areas) all-kept

  -- the slots of the present areas, and that these are well formed
  pub slots-after : Kind q → slots (present_after q b.rec) ≡ (kept_after g q k).core.pages.slots
  unfolding packed_after slots_after
  slots-after (is_map e) = slots-packed (rw e)
  slots-after (is_unmap e) = slots-packed (rw e)
  slots-after (is_protect e) = slots-packed (rw e)
  slots-after (is_snapshot e) = slots-packed (rw e)
  slots-after (is_write e) = rw e A.present
  slots-after (is_rewind e) = rw e A.copy
  slots-after (is_other x₁ x₂ x₃ x₄ x₅ x₆) = ap slots (kept x₁ x₂ x₃ x₅ x₆) ∙ rw (x₁, x₂, x₃, x₅, x₆) A.present

  pub formed-after : Kind q → WellFormed (pages_in (length g.image)) (present_after q b.rec)
  unfolding packed_after
  formed-after (is_map e) = formed-packed (is_map e) (rw e)
  formed-after (is_unmap e) = formed-packed (is_unmap e) (rw e)
  formed-after (is_protect e) = formed-packed (is_protect e) (rw e)
  formed-after (is_snapshot e) = formed-packed (is_snapshot e) (rw e)
  formed-after (is_write e) = rw e A.formed
  formed-after (is_rewind e) = rw e A.formed_copy
  formed-after (is_other x₁ x₂ x₃ x₄ x₅ x₆) = rw (kept x₁ x₂ x₃ x₅ x₆) A.formed

  -- the snapshot's
  pub copy-after : slots (snapshot_after q (present_after q b.rec) b.rec.snapshot) ≡ copied (copy_slots (kept_after g q k).core)
  unfolding snapshot_after copy_after
  copy-after = by_cases (q is snapshot_code) (λ e. rw e (slots-after (is_snapshot (eqb-true q.code snapshot_code e)))) (λ e. rw e A.copy)

  pub formed-copy-after : WellFormed (pages_in (length g.image)) (snapshot_after q (present_after q b.rec) b.rec.snapshot)
  unfolding snapshot_after
  formed-copy-after = by_cases (q is snapshot_code) (λ e. rw e (formed-after (is_snapshot (eqb-true q.code snapshot_code e)))) (λ e. rw e A.formed_copy)

  pub taken-after : taken_after q b.rec.taken ≡ is_taken (kept_after g q k).core.copy
  unfolding taken_after copy_after
  taken-after = by_cases (q is snapshot_code) (λ e. rw e) (λ e. rw e A.taken)

  pub untaken-after : taken_after q b.rec.taken ≡ false → snapshot_after q (present_after q b.rec) b.rec.snapshot ≡ empty
  unfolding taken_after snapshot_after
  untaken-after = by_cases (q is snapshot_code) (λ e. rw e (λ t. absurd (false≢true (sym t)))) (λ e. rw e A.untaken)
