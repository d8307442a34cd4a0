-- The two laws of each table, from an area up to the state: the bytes give again what they were made from, and bytes that pass the test are those of
-- what they give. Those of marks and runs stand in MarksLaws.
use Prim.Native.Nat.{ℕ, ◌+◌, ◌*◌, ◌<◌}
use mathlib.Core.Path.{◌≡◌, refl, sym, ap, ◌∙◌, subst}
use mathlib.Core.Bool.{Bool, true, false, ◌&&◌, ◌||◌}
use mathlib.Core.List.{List, [], ◌∷◌, ◌++◌}
use native.Mathlib.Omega.{arith}
use lib.Dec.{leb, eqb}
use lib.ListN.{length, get_or, take, drop, length-drop}
use borrow.Author.Tests.{leb-true, eqb-true, eqb-false, eq-eqb}
use Rattle.basics.specs.Ranges.{one}
use Rattle.basics.proofs.TestLaws.{by_cases, and_left, and_right, and-of}
use Rattle.basics.proofs.LoopLaws.{every-at}
use Rattle.interface.specs.declared.page.Backing.{Backing}
use Rattle.interface.specs.declared.page.Backing.TheVariants.{Anonymous, Image}
use Rattle.pages.specs.Parts.{part_at}
use Rattle.pages.proofs.PartLaws.{length_part}
use Rattle.areas.specs.declared.area.Area.{Area}
use Rattle.areas.specs.declared.area.Areas.{Areas}
use Rattle.interface.specs.Slots.{start_of, kind_of}
use Rattle.areas.specs.Areas.{none}
use Rattle.state.specs.declared.sandbox.Sandbox.{Sandbox}
use Rattle.state.specs.declared.sandbox.Machine.{Machine}
use Rattle.state.specs.World.{closed_sandbox}
use Rattle.layout.specs.Rows.{firsts, Bytes, part_in}
use Rattle.layout.specs.Layout.{area_size, places_size, areas_size, marks_size, runs_size, present_at, snapshot_at, runs_at, sandbox_size, held_at, state_size}
use Rattle.layout.specs.Layout.{area_bytes, areas_bytes, marks_bytes, sandbox_parts, sandbox_bytes, state_parts, state_bytes}
use Rattle.layout.specs.Layout.{backing_from, area_from, areas_from, marks_from, runs_from, sandbox_from, state_from, Placed}
use Rattle.layout.specs.Layout.{is_area, is_areas, is_sandbox, are_sandboxes, is_state}
use Rattle.layout.specs.Claims.{DecodesBack, Passes, OnlyCanonical, GivesShaped}
use Rattle.layout.proofs.RowLaws.{firsts-of, length-firsts, get_or-firsts, row-again, row-passes, row-bytes-again}
use Rattle.layout.proofs.PartsLaws.{place_of, nth, part-flat, flat-cut, part-byte, bytes-part}
use Rattle.layout.proofs.LengthLaws.{length-area, length-sandbox, length-state, sized-sandbox, sized-state}
use Rattle.layout.proofs.MarksLaws.{marks-again, marks-bytes-again, marks-small, runs-again, runs-bytes-again, runs-small}

-- ---- flags and backings

flag-again : (b : Bool) → eqb (one b) 1 ≡ b
flag-again true = refl
flag-again false = refl

flag_small : (b : Bool) → leb (one b) 1 ≡ true
flag_small true = refl
flag_small false = refl

-- the two numbers of a flag
flag-told : (n : ℕ) → leb n 1 ≡ true → one (eqb n 1) ≡ n
flag-told n h = by_cases (eqb n 1) (λ t. rw t (sym (eqb-true n 1 t))) (λ t. rw t (omega (arith, leb-true n 1 h, eqb-false n 1 t)))

backing-again : (b : Backing) → backing_from (kind_of b) (start_of b) ≡ b
backing-again Anonymous = refl
backing-again (Image first) = refl

backing-passes : (b : Backing) → (leb (kind_of b) 1 && (eqb (kind_of b) 1 || eqb (start_of b) 0)) ≡ true
backing-passes Anonymous = refl
backing-passes (Image first) = refl

-- the kind and the image page of a backing that passes
backing-told : (kind page : ℕ) → (leb kind 1 && (eqb kind 1 || eqb page 0)) ≡ true
    → (kind_of (backing_from kind page) ≡ kind) × (start_of (backing_from kind page) ≡ page)
backing-told kind page h =
    by_cases (eqb kind 1) (λ t. rw t (sym (eqb-true kind 1 t), refl))
    (λ t. let none : eqb page 0 ≡ true = rw t at (and_right (leb kind 1) (eqb kind 1 || eqb page 0) h) in
    rw t (rw t at (flag-told kind (and_left (leb kind 1) (eqb kind 1 || eqb page 0) h)), sym (eqb-true page 0 none)))

-- ---- an area

area-again : (a : Area) → area_from (area_bytes a) ≡ a
unfolding area_from area_bytes
area-again a = λ i. record {
  first = a.first;
  pages = a.pages;
  rights = a.rights;
  committed = flag-again a.committed i;
  backing = backing-again a.backing i;
}

area-passes : (a : Area) → is_area (area_bytes a) ≡ true
unfolding is_area area_bytes
area-passes a = and-of (flag_small a.committed) (backing-passes a.backing)

area-bytes-again : (l : List ℕ) → length l ≡ area_size → is_area l ≡ true → area_bytes (area_from l) ≡ l
unfolding area_bytes area_from is_area firsts
area-bytes-again l e h =
    let backs : Bool = leb (get_or l 4 0) 1 && (eqb (get_or l 4 0) 1 || eqb (get_or l 5 0) 0) in
    let mark : one (eqb (get_or l 3 0) 1) ≡ get_or l 3 0 = flag-told (get_or l 3 0) (and_left (leb (get_or l 3 0) 1) backs h) in
    let back = backing-told (get_or l 4 0) (get_or l 5 0) (and_right (leb (get_or l 3 0) 1) backs h) in
    rw (mark, back.0, back.1) (firsts-of (λ k. get_or l k 0) 0 l area_size e (λ k b. refl))

-- ---- the areas of a sandbox

areas-again : (s : Areas) → length s.list ≡ 8 → areas_from (areas_bytes s) ≡ s
unfolding areas_from areas_bytes
areas-again s e = λ i. record {
  count = s.count;
  list = row-again area_bytes none area_size area_from length-area 8 s.list [] e (λ k l. area-again (get_or s.list k none)) i;
}

areas-pass : (s : Areas) → is_areas (areas_bytes s) ≡ true
unfolding is_areas areas_bytes
areas-pass s = row-passes area_bytes none area_size is_area length-area area-passes 8 s.list []

areas-bytes-again : (l : List ℕ) → length l ≡ areas_size → is_areas l ≡ true → areas_bytes (areas_from l) ≡ l
unfolding areas_bytes areas_from is_areas part_at
areas-bytes-again l e h =
    let rest : length (drop 1 l) ≡ places_size = length-drop 1 l ∙ omega arith in
    let place : (k : ℕ) → k < 8 → area_bytes (area_from (part_in area_size (drop 1 l) k)) ≡ part_in area_size (drop 1 l) k =
    λ k b. area-bytes-again (part_in area_size (drop 1 l) k) (length_part (drop 1 l) (k * area_size) area_size (omega arith))
    (every-at (λ j. is_area (part_in area_size (drop 1 l) j)) 0 8 h k (omega arith) (omega arith)) in
    rw (row-bytes-again area_bytes none area_size area_from 8 (drop 1 l) place)
    (rw (part-byte l 0 (omega arith)) at (flat-cut (1 ∷ places_size ∷ []) l 0 e))

-- ---- a sandbox

module _ (b : Sandbox) where
  part_of : (i : ℕ) → part_at (sandbox_bytes b) (place_of (sandbox_parts b) i) (nth (sandbox_parts b) i).width ≡ (nth (sandbox_parts b) i).bytes
  unfolding sandbox_bytes
  part_of = part-flat (sandbox_parts b) (sized-sandbox b)

  heads : (get_or (sandbox_bytes b) 0 0 ≡ one b.rec.opened)
      × ((get_or (sandbox_bytes b) 1 0 ≡ b.rec.share) × (get_or (sandbox_bytes b) 2 0 ≡ one b.rec.taken))
  unfolding sandbox_bytes
  heads = (refl, (refl, refl))

  sandbox-again : Placed b → sandbox_from (sandbox_bytes b) ≡ b
  unfolding sandbox_from
  sandbox-again p = λ i. record {
    rec = record {
      opened = (ap (λ (n : ℕ). eqb n 1) heads.0 ∙ flag-again b.rec.opened) i;
      share = heads.1.0 i;
      taken = (ap (λ (n : ℕ). eqb n 1) heads.1.1 ∙ flag-again b.rec.taken) i;
      present = (ap areas_from (part_of 3) ∙ areas-again b.rec.present p.present) i;
      snapshot = (ap areas_from (part_of 4) ∙ areas-again b.rec.snapshot p.snapshot) i;
    };
    runs = (ap runs_from (part_of 5) ∙ runs-again b.runs p.runs p.words) i;
  }

  sandbox-passes : is_sandbox (sandbox_bytes b) ≡ true
  unfolding is_sandbox
  sandbox-passes =
      and-of (ap (λ (n : ℕ). leb n 1) heads.0 ∙ flag_small b.rec.opened)
      (and-of (ap (λ (n : ℕ). leb n 1) heads.1.1 ∙ flag_small b.rec.taken)
      (and-of (ap is_areas (part_of 3) ∙ areas-pass b.rec.present) (ap is_areas (part_of 4) ∙ areas-pass b.rec.snapshot)))

sandbox-bytes-again : (l : List ℕ) → Bytes l → length l ≡ sandbox_size → is_sandbox l ≡ true → sandbox_bytes (sandbox_from l) ≡ l
unfolding sandbox_bytes sandbox_from is_sandbox
sandbox-bytes-again l bytes e h =
    let present : List ℕ = part_at l present_at areas_size in
    let snapshot : List ℕ = part_at l snapshot_at areas_size in
    let areas : Bool = is_areas present && is_areas snapshot in
    let rest = and_right (leb (get_or l 0 0) 1) (leb (get_or l 2 0) 1 && areas) h in
    let both = and_right (leb (get_or l 2 0) 1) areas rest in
    rw (
      flag-told (get_or l 0 0) (and_left (leb (get_or l 0 0) 1) (leb (get_or l 2 0) 1 && areas) h),
      flag-told (get_or l 2 0) (and_left (leb (get_or l 2 0) 1) areas rest),
      areas-bytes-again present (length_part l present_at areas_size (omega arith)) (and_left (is_areas present) (is_areas snapshot) both),
      areas-bytes-again snapshot (length_part l snapshot_at areas_size (omega arith)) (and_right (is_areas present) (is_areas snapshot) both),
      runs-bytes-again (part_at l runs_at runs_size) (bytes-part l bytes runs_at runs_size) (length_part l runs_at runs_size (omega arith)),
    )
    (rw (part-byte l 0 (omega arith), part-byte l 1 (omega arith), part-byte l 2 (omega arith))
    at (flat-cut (1 ∷ 1 ∷ 1 ∷ areas_size ∷ areas_size ∷ runs_size ∷ []) l 0 e))

placed : (l : List ℕ) → Bytes l → length l ≡ sandbox_size → Placed (sandbox_from l)
unfolding sandbox_from areas_from runs_from
placed l bytes e = record {
  present = length-firsts _ 8;
  snapshot = length-firsts _ 8;
  runs = length-firsts _ 8;
  words = runs-small (part_at l runs_at runs_size) (bytes-part l bytes runs_at runs_size) (length_part l runs_at runs_size (omega arith));
}

-- ---- the state

module _ (m : Machine) where
  state-part : (i : ℕ) → part_at (state_bytes m) (place_of (state_parts m) i) (nth (state_parts m) i).width ≡ (nth (state_parts m) i).bytes
  unfolding state_bytes
  state-part = part-flat (state_parts m) (sized-state m)

pub state-again : DecodesBack
unfolding state_from state_bytes
state-again m h =
    let each : (s : ℕ) → s < 4 → sandbox_from (sandbox_bytes (get_or m.sandboxes s closed_sandbox)) ≡ get_or m.sandboxes s closed_sandbox
    = λ s l. sandbox-again (get_or m.sandboxes s closed_sandbox) (h.each s l) in
    λ i. record {
      sandboxes = row-again sandbox_bytes closed_sandbox sandbox_size sandbox_from length-sandbox 4 m.sandboxes (marks_bytes m.held ++ []) h.row each i;
      held = (ap marks_from (state-part m 1) ∙ marks-again m.held h.low h.high) i;
    }

pub state-passes : Passes
unfolding is_state are_sandboxes state_bytes
state-passes m =
    and-of (eq-eqb (length (state_bytes m)) state_size (length-state m))
    (row-passes sandbox_bytes closed_sandbox sandbox_size is_sandbox length-sandbox sandbox-passes 4 m.sandboxes (marks_bytes m.held ++ []))

pub state-long : (l : List ℕ) → is_state l ≡ true → length l ≡ state_size
unfolding is_state
state-long l h = eqb-true (length l) state_size (and_left (eqb (length l) state_size) (are_sandboxes l) h)

whole_again : (l : List ℕ) → length l ≡ state_size → take held_at l ++ (part_at l held_at marks_size ++ []) ≡ l
unfolding part_at
whole_again l e = flat-cut (held_at ∷ marks_size ∷ []) l 0 e

module _ (l : List ℕ) (bytes : Bytes l) (h : is_state l ≡ true) where
  sandbox-long : (s : ℕ) → s < 4 → length (part_in sandbox_size l s) ≡ sandbox_size
  sandbox-long s b = length_part l (s * sandbox_size) sandbox_size (omega (arith, state-long l h))

  sandbox-of : (s : ℕ) → Bytes (part_in sandbox_size l s)
  sandbox-of s = bytes-part l bytes (s * sandbox_size) sandbox_size

  held_of : Bytes (part_at l held_at marks_size)
  held_of = bytes-part l bytes held_at marks_size

  held-long : length (part_at l held_at marks_size) ≡ marks_size
  held-long = length_part l held_at marks_size (omega (arith, state-long l h))

pub state-bytes-again : OnlyCanonical
unfolding state_bytes state_from is_state are_sandboxes
state-bytes-again l bytes h =
    let each = and_right (eqb (length l) state_size) (are_sandboxes l) h in
    let place : (s : ℕ) → s < 4 → sandbox_bytes (sandbox_from (part_in sandbox_size l s)) ≡ part_in sandbox_size l s =
    λ s b. sandbox-bytes-again (part_in sandbox_size l s) (sandbox-of l bytes h s) (sandbox-long l bytes h s b)
    (every-at (λ j. is_sandbox (part_in sandbox_size l j)) 0 4 each s (omega arith) (omega arith)) in
    rw (
      row-bytes-again sandbox_bytes closed_sandbox sandbox_size sandbox_from 4 l place,
      marks-bytes-again (part_at l held_at marks_size) (held_of l bytes h) (held-long l bytes h),
    )
    (whole_again l (state-long l h))

pub state-shaped : GivesShaped
unfolding state_from
state-shaped l bytes h =
    record {
      row = length-firsts (λ s. sandbox_from (part_in sandbox_size l s)) 4;
      each = λ s b. subst Placed (sym (get_or-firsts (λ j. sandbox_from (part_in sandbox_size l j)) 4 s closed_sandbox b))
          (placed (part_in sandbox_size l s) (sandbox-of l bytes h s) (sandbox-long l bytes h s b));
      low = (marks-small (part_at l held_at marks_size) (held_of l bytes h) (held-long l bytes h)).0;
      high = (marks-small (part_at l held_at marks_size) (held_of l bytes h) (held-long l bytes h)).1;
    }
