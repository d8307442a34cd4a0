-- An archive roll, played from fresh, rebuilds the snapshot; and equal rolls come from snapshots that agree.
use Prim.Native.Nat.{ℕ, zero, suc, ◌+◌, ◌*◌, ◌/◌, ◌%◌, ◌≤◌, ◌<◌}
use mathlib.Core.Path.{◌≡◌, refl, sym, ap, ap₂, ◌∙◌, fun_ext}
use mathlib.Core.Bool.{true}
use mathlib.Core.List.{List, [], ◌∷◌, ◌++◌}
use mathlib.Core.Option.{some, none, map, some-ne-none}
use native.Mathlib.Omega.{arith}
use lib.Dec.{eqb}
use borrow.Author.Tests.{eqb-true, eqb-false, lt-ltb}
use Rattle.basics.specs.Ranges.{sum}
use Rattle.basics.proofs.TestLaws.{by_cases}
use Rattle.interface.specs.declared.request.Request.{Request}
use Rattle.interface.specs.declared.page.Slot.TheVariants.{Unmapped}
use Rattle.interface.specs.Requests.{request_of, open_code}
use Rattle.interface.specs.Slots.{is_mapped, mapped_pages, uncommitted_pages, charge_of}
use Rattle.interface.specs.Outcome.{slots_after, copy_after}
use Rattle.plain.specs.Machine.{Given, Pages, Core, Kept, fresh, copy_slots, view_of, shares, bytes_after, number_at, answer, after, answers, after_all}
use Rattle.plain_claims.specs.Lists.{up_to}
use Rattle.plain_claims.specs.Claims.{Keeps}
use Rattle.plain_claims.proofs.KeptLaws.{mapped-none, areas-none}
use Rattle.plain_claims.proofs.TwoListsLaws.{accepted-core}
use Rattle.plain_claims.proofs.Claims.{claim-always}
use Rattle.archive.specs.Archive.{joined, only, opening, maps, differs, write_at, writes, protects, closing, archive}
use Rattle.archive.specs.Claims.{Alike, Occurs, Rebuilds, InSegments, Replay, OnlyIf, IfAlike}
use Rattle.archive.proofs.IsSnapshot.{IsSnapshot}
use Rattle.archive.specs.Segments.{Goes, Segments, built, unmarked, writable, blank, filled, snapped}
use Rattle.archive.proofs.SegmentLaws.{goes-append}
use Rattle.archive.proofs.TakenLaws.{open-taken}
use Rattle.archive.proofs.MapLaws.{map_stage, map-start, map-end, maps-go}
use Rattle.archive.proofs.WriteLaws.{write_stage, write-start, writes_go, write-end}
use Rattle.archive.proofs.ProtectLaws.{protect_stage, protect-start, protect-end, protects-go, snapshot-goes}
use Rattle.archive.proofs.OrderLaws.{copy-in-order}

-- the first line, from fresh
module _ (g : Given) (s share : ℕ) (row : s < 4) (least : 1 ≤ share) (most : share ≤ 128) (fits : share ≤ g.frames) where
  abbrev first : Request
  first = request_of open_code s share 0 0 0 0

  pub open-accepted : number_at g fresh first ≡ 0
  unfolding slots_after copy_after charge_of sum
  open-accepted =
      open-taken (view_of g (shares fresh) (fresh s).core) refl s row share refl least most (omega arith)
      (omega (arith, mapped-none)) (omega (arith, areas-none))

  pub open-leaves : (after g fresh first s).core ≡ built share (λ i. Unmapped) (λ i j. 0)
  unfolding slots_after copy_after bytes_after
  open-leaves = accepted-core g s fresh first refl open-accepted

-- ---- the segments, and the roll as they come in turn

module _ (g : Given) (s share : ℕ) (row : s < 4) (d : Pages) (h : IsSnapshot g.image share d) (fits : share ≤ g.frames) where
  pub segments-go : Segments g s share d
  unfolding answers answer after_all
  segments-go = record {
    opens = (open-accepted g s share row h.least h.most fits, tt);
    opened = open-leaves g s share row h.least h.most fits;
    mapped = rw (map-start g s share row d h, ← map-end g s share row d h) (maps-go g s share row d h);
    written = rw (write-start g s share row d h, ← write-end g s share row d h) (writes_go g s share row d h);
    protected = λ bytes. rw (protect-start g s share row d h bytes, ← protect-end g s share row d h bytes) (protects-go g s share row d h bytes);
    closed = snapshot-goes g s share row d h;
  }

  abbrev rebuilt : Pages
  rebuilt = record { slots = d.slots; bytes = filled g.image d }

  -- the lines behind the first
  rest_goes : Goes g s (maps s d.slots ++ (writes s g.image d ++ (protects s d.slots ++ closing s))) (built share (λ i. Unmapped) (λ i j. 0))
      (snapped share rebuilt)
  rest_goes =
      let S = segments-go in
      let bare : Core = built share (λ i. Unmapped) (λ i j. 0) in
      let mapped : Core = built share (λ i. writable (d.slots i)) (blank g.image d.slots) in
      let written : Core = built share (λ i. writable (d.slots i)) (filled g.image d) in
      let protected : Core = built share (λ i. unmarked (d.slots i)) (filled g.image d) in
      let closed : Core = snapped share rebuilt in
      goes-append g s (maps s d.slots) (writes s g.image d ++ (protects s d.slots ++ closing s)) bare mapped closed S.mapped
      (goes-append g s (writes s g.image d) (protects s d.slots ++ closing s) mapped written closed S.written
      (goes-append g s (protects s d.slots) (closing s) written protected closed (S.protected (filled g.image d)) (S.closed (filled g.image d))))

  pub rebuilds : Rebuilds g s share d (archive s share d g.image)
  unfolding archive answers answer after_all
  rebuilds =
      let opened = segments-go.opened in
      let last = rest_goes.leaves (after g fresh (request_of open_code s share 0 0 0 0)) opened in
      record {
        taken = (segments-go.opens.0, rest_goes.taken (after g fresh (request_of open_code s share 0 0 0 0)) opened);
        pages = rebuilt;
        shared = ap (λ (c : Core). c.share) last;
        present = ap (λ (c : Core). c.pages) last;
        copy = ap (λ (c : Core). c.copy) last;
        alike = record { slots = refl; bytes = λ i j m l. rw (m, lt-ltb j 256 l) };
      }

-- ---- a snapshot that occurs

sum-at : (f : ℕ → ℕ) (n s : ℕ) → s < n → f s ≤ sum f n
unfolding sum
sum-at f zero s l = absurd (omega arith)
sum-at f (suc n) s l = by_cases (eqb s n) (λ e. let is = eqb-true s n e in rw is (omega arith))
    (λ e. omega (arith, sum-at f n s (omega (arith, eqb-false s n e))))

module _ (g : Given) (s share : ℕ) (d : Pages) (o : Occurs g s share d) where
  abbrev k : Kept
  k = up_to g o.list s

  keeps : Keeps k
  keeps = (claim-always g o.list).holds.each s

  pub opened : k.core.opened ≡ true
  opened =
      by_cases k.core.opened (λ e. e)
      (λ e. absurd (some-ne-none d (sym o.copy ∙ ap (λ (x : Kept). x.core.copy) (keeps.closed_empty e))))

  slots-copied : copy_slots k.core ≡ some d.slots
  slots-copied = ap (map (λ (e : Pages). e.slots)) o.copy

  pub is-snapshot : IsSnapshot g.image share d
  unfolding charge_of
  is-snapshot =
      let shared = keeps.open_share opened in
      let charge : 2 * mapped_pages d.slots + uncommitted_pages d.slots ≤ k.core.share = rw slots-copied at keeps.copy_charged in
      record {
        least = omega (arith, shared.0, o.shared);
        most = omega (arith, shared.1, o.shared);
        order = copy-in-order g o.list s d o.copy;
        inside = λ i. rw slots-copied at (keeps.copy_inside i);
        marked = λ i. rw slots-copied at (((claim-always g o.list).reads s).marked i);
        charged = omega (arith, charge, o.shared);
        few = rw slots-copied at keeps.copy_areas;
      }

  pub share-fits : share ≤ g.frames
  share-fits =
      omega (arith, (claim-always g o.list).holds.pooled, sum-at (λ t. (up_to g o.list t).core.share) 4 s (omega (arith, o.row)), o.shared)

pub in-segments : (g : Given) → InSegments g
in-segments g s share d o = segments-go g s share o.row d (is-snapshot g s share d o) (share-fits g s share d o)

pub replay : (g : Given) → Replay g
replay g s share d o = rebuilds g s share o.row d (is-snapshot g s share d o) (share-fits g s share d o)

-- ---- equal rolls

pub alike-sym : (d e : Pages) → Alike d e → Alike e d
alike-sym d e h = record { slots = sym h.slots; bytes = λ i j m l. sym (h.bytes i j (rw h.slots m) l) }

pub alike-trans : (d e f : Pages) → Alike d e → Alike e f → Alike d f
alike-trans d e f h k = record { slots = h.slots ∙ k.slots; bytes = λ i j m l. h.bytes i j m l ∙ k.bytes i j (rw h.slots at m) l }

-- the sandbox that the first line names
named : List Request → ℕ
named [] = 0
named (q ∷ qs) = q.sandbox

archive-names : (s share : ℕ) (d : Pages) (image : List ℕ) → named (archive s share d image) ≡ s
unfolding archive named
archive-names s share d image = refl

pages-same : (d e : Pages) → some d ≡ some e → d ≡ e
pages-same d e h = cc

-- one roll rebuilds both, in a pool that any share fits
pub only_if : (image : List ℕ) → OnlyIf image
only_if image frames₁ frames₂ s₁ s₂ share₁ share₂ d₁ d₂ o₁ o₂ e =
    let g : Given = record { image = image; frames = 128 } in
    let h₁ = is-snapshot _ s₁ share₁ d₁ o₁ in
    let h₂ = is-snapshot _ s₂ share₂ d₂ o₂ in
    let r₁ = rebuilds g s₁ share₁ o₁.row d₁ h₁ h₁.most in
    let r₂ = rebuilds g s₂ share₂ o₂.row d₂ h₂ h₂.most in
    let same_row : s₁ ≡ s₂ = sym (archive-names s₁ share₁ d₁ image) ∙ ap named e ∙ archive-names s₂ share₂ d₂ image in
    let same_copy : some r₁.pages ≡ some r₂.pages = sym r₁.copy ∙ ap₂ (λ (qs : List Request) (s : ℕ). (up_to g qs s).core.copy) e same_row ∙ r₂.copy in
    let same : Alike r₁.pages r₂.pages = rw (pages-same r₁.pages r₂.pages same_copy) (record { slots = refl; bytes = λ i j m l. refl }) in
    alike-trans d₁ r₁.pages d₂ (alike-sym r₁.pages d₁ r₁.alike) (alike-trans r₁.pages r₂.pages d₂ same r₂.alike)

-- ---- and the other way round: snapshots that agree have the same roll

joined-equal : {A : Type 0} (x y : ℕ → List A) (n : ℕ) → ((i : ℕ) → x i ≡ y i) → joined x n ≡ joined y n
joined-equal {A = A} x y n h = ap (λ (z : ℕ → List A). joined z n) (fun_ext h)

byte-alike : (image : List ℕ) (s : ℕ) (d e : Pages) → Alike d e → (a : ℕ)
    → only (differs image d (a / 256) (a % 256)) (write_at s d a) ≡ only (differs image e (a / 256) (a % 256)) (write_at s e a)
byte-alike image s d e h a =
    by_cases (is_mapped (d.slots (a / 256)))
    (λ m. let same = h.bytes (a / 256) (a % 256) m (omega arith) in rw (same, h.slots))
    (λ m. let none = rw h.slots at m in rw (m, none))

pub archive-alike : IfAlike
unfolding archive writes
archive-alike s share d e image h =
    let same = joined-equal _ _ 16384 (byte-alike image s d e h) in
    ap₂ (λ f (l : List Request). opening s share ++ (maps s f ++ (l ++ (protects s f ++ closing s)))) h.slots same
