-- Unmapping over gaps, of the machine that runs: its laws of unmapping, and with them what is claimed (specs/OverGaps).
use mathlib.Core.Path.{◌≡◌, refl, sym, ap, ◌∙◌}
use mathlib.Core.Bool.{true, false, ◌&&◌, false≢true}
use mathlib.Core.List.{List, [], ◌∷◌}
use Prim.Native.Nat.{ℕ, zero, suc, ◌+◌, ◌≤◌, ◌<◌}
use native.Mathlib.Omega.{arith}
use lib.Dec.{eqb}
use lib.ListN.{length, set}
use lib.Seq.{get_or-set_same, set-get_or, set-set}
use Rattle.basics.specs.Ranges.{inside}
use Rattle.basics.proofs.TestLaws.{by_cases, and_right, never}
use Rattle.basics.proofs.RangeLaws.{inside-yes, inside-none, over-join}
use Rattle.interface.specs.declared.page.Slot.TheVariants.{Unmapped}
use Rattle.interface.specs.declared.request.Request.{Request}
use Rattle.interface.specs.Answers.{Answered}
use Rattle.interface.specs.Slots.{Slots, is_mapped, areas}
use Rattle.interface.specs.Outcome.{slots_after}
use Rattle.interface.specs.Refusals.{refusal}
use Rattle.interface.specs.Settled.{Settled}
use Rattle.interface.specs.Examples.{ok}
use Rattle.gaps.specs.Gaps.{Unmaps, is_hole, unmap_of, mapped_alone, all_ok}
use Rattle.gaps.proofs.GapLaws.{without, none_in, without-none, unmap-fits, unmap-then, unmap-accepted, unmap-hole, unmap-over-gap, unmaps-of}
use Rattle.interface.proofs.AcceptedLaws.{accepted}
use Rattle.gaps.proofs.AloneLaws.{Unmapping, alone}
use Rattle.interface.specs.Numbers.{pages_in}
use Rattle.table.specs.Store.{entry, front_of, free_to}
use Rattle.table.proofs.FreeLaws.{free_to-join, free_to-none}
use Rattle.areas.specs.declared.area.Areas.{Areas}
use Rattle.areas.specs.Areas.{slots}
use Rattle.areas.proofs.FewAreas.{few-areas}
use Rattle.packing.specs.declared.pack.Change.TheVariants.{Unmap}
use Rattle.packing.specs.Pack.{pack}
use Rattle.packing.proofs.PackLaws.{areas-fit}
use Rattle.packing.proofs.KeptLaws.{repack-slots, pack-slots}
use Rattle.state.specs.declared.sandbox.Sandbox.{Sandbox}
use Rattle.records.specs.Record.{with_present}
use Rattle.state.specs.World.{World, sandbox_at, record_at, closed_sandbox}
use Rattle.state.specs.Sound.{SoundAt, Sound}
use Rattle.soundness.proofs.TestLaws.{sound-of}
use Rattle.areas.proofs.OrderLaws.{slots-inside}
use Rattle.records.proofs.SettledLaws.{settled-of}
use Rattle.rules.specs.After.{packed_after, taken_after, snapshot_after}
use Rattle.memory.specs.Memory.{gives_at, runs_after, store_after, value_at}
use Rattle.step.specs.Step.{view_at, number_at, step, takes, Outcome, Stepped}
use Rattle.simulation.proofs.StepLaws.{number_is, accepted-leaves, gives-takes}
use Rattle.simulation.proofs.AnySound.{stays-sound}
use Rattle.claims.specs.Demands.{Run, none, more}
use Rattle.claims.proofs.Demand1Laws.{demand-1}
use Rattle.claims.proofs.Runs.{sound-runs}
use Rattle.consequences.specs.OverGaps.{pages_of, PassesOverGaps}

-- ---- runs taken apart

run-nil : {image : List ℕ} {w v : World} {as' : List Answered} → Run image w [] as' v → (as' ≡ []) × (v ≡ w)
run-nil none = (refl, refl)

-- the first call of a run, and the run behind it
record First (image : List ℕ) (w v : World) (q : Request) (qs : List Request) (as' : List Answered) : Type 0 where
  outcome : Outcome
  rest : List Answered
  stepped : Stepped image w q outcome
  behind : Run image outcome.world qs rest v
  told : as' ≡ outcome.answer ∷ rest

run-cons : {image : List ℕ} {w v : World} {q : Request} {qs : List Request} {as' : List Answered} → Run image w (q ∷ qs) as' v → First image w v q qs as'
run-cons (more {o = o} {as' = rest} s r) = record { outcome = o; rest = rest; stepped = s; behind = r; told = refl }

-- ---- the world with n pages of sandbox s from a on unmapped

module _ (image : List ℕ) (s : ℕ) (row : s < 4) where
  abbrev slots_in : World → Slots
  slots_in w = slots (sandbox_at w s).rec.present

  record Good (w : World) : Type 0 where
    sound : Sound image w
    opened : (record_at w s).opened ≡ true

  -- the sandbox with these areas
  abbrev placed : World → Areas → Sandbox
  placed w present = record { rec = with_present present (sandbox_at w s).rec; runs = (sandbox_at w s).runs }

  abbrev unmapped_at : World → ℕ → ℕ → World
  unmapped_at w a n = record {
    sandboxes = set w.sandboxes s (placed w (pack (without a n (slots_in w))).areas);
    store = free_to 256 (front_of s a) w.store n;
  }

  module _ (w : World) (G : Good w) where
    own : SoundAt (pages_in (length image)) w.store s (sandbox_at w s)
    own = G.sound.each s (omega arith)

    unmapped-none : (a n : ℕ) → a + n ≤ 64 → ((i : ℕ) → inside a n i ≡ true → is_mapped (slots_in w i) ≡ false) → unmapped_at w a n ≡ w
    unmapped-none a n l u =
        let present : (pack (without a n (slots_in w))).areas ≡ (record_at w s).present =
        ap (λ (f : Slots). (pack f).areas) (without-none (slots_in w) a n u) ∙ pack-slots _ (record_at w s).present own.rec.present in
        let sandboxes : set w.sandboxes s (placed w (pack (without a n (slots_in w))).areas) ≡ w.sandboxes =
        rw present (set-get_or w.sandboxes s closed_sandbox) in
        let store : free_to 256 (front_of s a) w.store n ≡ w.store =
        free_to-none 256 (front_of s a) w.store n (λ i b. no_front a n i l b u) in
        λ j. record { sandboxes = sandboxes j; store = store j }
      where
        no_front : (a n i : ℕ) → a + n ≤ 64 → i < n → ((i : ℕ) → inside a n i ≡ true → is_mapped (slots_in w i) ≡ false)
            → entry w.store (front_of s a + i) ≡ 0
        no_front a n i l b u =
            let place : front_of s a + i ≡ front_of s (a + i) = omega arith in
            rw place (own.fronts (a + i) (omega arith) (u (a + i) (inside-yes a n (a + i) (omega arith) (omega arith))))

    module _ (a n : ℕ) (l : a + n ≤ 64) (few : areas (without a n (slots_in w)) ≤ 8) where
      here : sandbox_at (unmapped_at w a n) s ≡ placed w (pack (without a n (slots_in w))).areas
      here =
          get_or-set_same w.sandboxes s (placed w (pack (without a n (slots_in w))).areas) closed_sandbox
          (omega (arith, G.sound.row))

      packed-slots : slots (pack (without a n (slots_in w))).areas ≡ without a n (slots_in w)
      packed-slots = repack-slots _ (record_at w s).present own.rec.present a n Unmap (areas-fit (without a n (slots_in w)) few) l

      unmapped-slots : slots_in (unmapped_at w a n) ≡ without a n (slots_in w)
      unmapped-slots = ap (λ (b : Sandbox). slots b.rec.present) here ∙ packed-slots

      unmapped-join : (m : ℕ) → unmapped_at (unmapped_at w a n) (a + n) m ≡ unmapped_at w a (n + m)
      unmapped-join m =
          let place : front_of s (a + n) ≡ front_of s a + n = omega arith in
          rw (here, packed-slots, over-join a n m (λ i. Unmapped) (slots_in w), place, free_to-join 256 (front_of s a) w.store n m)
          (λ j. record {
            sandboxes = set-set w.sandboxes s (placed w (pack (without a n (slots_in w))).areas)
                (placed w (pack (without a (n + m) (slots_in w))).areas) j;
            store = free_to 256 (front_of s a) w.store (n + m);
          })

-- ---- one unmap

settled : (image : List ℕ) (w : World) → Sound image w → (s : ℕ) → s < 4 → Settled (view_at image w s)
settled image w S s l = settled-of (pages_in (length image)) (record_at w s) (S.each s l).rec _ _ _ _

module _ (image : List ℕ) (w : World) (q : Request) (o : Outcome) (S : Sound image w) (u : Unmaps (view_at image w q.sandbox) q)
    (t : Stepped image w q o) where
  view-settled : Settled (view_at image w q.sandbox)
  view-settled = settled image w S q.sandbox u.row

  number-told : number_at image w q ≡ refusal (view_at image w q.sandbox) q
  number-told = sym (number_is image w q o t) ∙ (demand-1 image w q o t).table

  answer-told : o.answer ≡ record { number = refusal (view_at image w q.sandbox) q; value = 0 }
  unfolding step value_at
  answer-told = rw (t.equals, number-told) (by_cases (eqb (refusal (view_at image w q.sandbox) q) 0) (λ e. rw (e, u.called)) (λ e. rw e))

  abbrev left : World
  left = unmapped_at image q.sandbox u.row w q.p1 q.p2

  unmap-leaves : refusal (view_at image w q.sandbox) q ≡ 0 → o.world ≡ left
  unfolding packed_after taken_after snapshot_after store_after runs_after gives_at slots_after
  unmap-leaves n = accepted-leaves image w q o t (number-told ∙ n) ∙ rw (u.called, u.opened)

  unmap-answers : refusal (view_at image w q.sandbox) q ≡ 0 → o.answer ≡ ok 0
  unmap-answers n = answer-told ∙ rw n

-- ---- the laws of unmapping

module _ (image : List ℕ) (s : ℕ) (row : s < 4) where
  abbrev Leading : World → List Request → World → Type 0
  Leading w qs r = (as' : List Answered) (v : World) → Run image w qs as' v → (as' ≡ all_ok qs) × (v ≡ r)

  module _ (w : World) (G : Good image s row w) (a n : ℕ) (l : a + suc n ≤ 64) (few : areas (without a (suc n) (slots_in image s row w)) ≤ 8) where
    abbrev q : Request
    q = unmap_of s a (suc n)

    unmaps : Unmaps (view_at image w s) q
    unmaps = unmaps-of (view_at image w s) s a n row G.opened l

    taken : refusal (view_at image w s) q ≡ 0
    taken = unmap-accepted _ q (sound-of image w G.sound) (settled image w G.sound s row) unmaps few

    -- the one outcome: an unmap gives up no frame and takes none
    stepped : Stepped image w q (step image 0 0 w q)
    unfolding takes
    stepped =
        let none : takes image w q ≡ true → ⊥ = λ t. false≢true (and_right (eqb (number_at image w q) 0) false t) in
        record { frame = 0; given = 0; chosen = record { gave = λ g. absurd (none (gives-takes image w q g)); free = λ t. absurd (none t) }; equals = refl }

    good-after : Good image s row (unmapped_at image s row w a (suc n))
    good-after = record {
      sound =
          rw (← unmap-leaves image w q (step image 0 0 w q) G.sound unmaps stepped taken)
          (stays-sound image w G.sound q (step image 0 0 w q) stepped);
      opened = ap (λ (b : Sandbox). b.rec.opened) (here image s row w G a (suc n) l few) ∙ G.opened;
    }

    cons-after : (r : World) (rest : List Request) → Leading (unmapped_at image s row w a (suc n)) rest r → Leading w (q ∷ rest) r
    cons-after r rest led as' v run =
        let f = run-cons run in
        let gone = unmap-leaves image w q f.outcome G.sound unmaps f.stepped taken in
        let done = led f.rest v (rw gone at f.behind) in
        (f.told ∙ (λ j. unmap-answers image w q f.outcome G.sound unmaps f.stepped taken j ∷ done.0 j), done.1)

  fits_after : (w : World) → Good image s row w → (a n : ℕ) → a + n ≤ 64 → areas (without a n (slots_in image s row w)) ≤ 8
      → Good image s row (unmapped_at image s row w a n)
  fits_after w G a zero l few =
      rw (unmapped-none image s row w G a 0 l (λ i t. never (inside a 0 i) t (inside-none a i))) G
  fits_after w G a (suc n) l few = good-after w G a n l few

  unmapping : Unmapping World s
  unmapping = record {
    slots_of = slots_in image s row;
    Good = Good image s row;
    unmapped = unmapped_at image s row;
    Leads = Leading;
    few = λ w G. few-areas _ (record_at w s).present (own image s row w G).rec.present;
    none = unmapped-none image s row;
    nil = λ w as' v run. run-nil run;
    fits = fits_after;
    slots = unmapped-slots image s row;
    join = λ w G a n m l few. unmapped-join image s row w G a n l few m;
    cons = λ w r G a n l few rest. cons-after w G a n l few r rest;
  }

-- ---- the claim

-- where an unmap is accepted, every run of the unmaps of its mapped pages alone
every-run : (image : List ℕ) (w : World) (q : Request) (o : Outcome) → Sound image w → Unmaps (view_at image w q.sandbox) q → Stepped image w q o
    → o.answer.number ≡ 0 → (as' : List Answered) (v : World) → Run image w (mapped_alone q (pages_of w q)) as' v
    → (as' ≡ all_ok (mapped_alone q (pages_of w q))) × (v ≡ o.world)
unfolding unmapping
every-run image w q o S u t n as' r run =
    let v = view-settled image w q o S u t in
    let taken = sym (ap (λ (a : Answered). a.number) (answer-told image w q o S u t)) ∙ n in
    let few = rw (unmap-then _ q (sound-of image w S) v u) at (accepted _ q taken).in_areas in
    let done = alone q.sandbox (unmapping image q.sandbox u.row) w (record { sound = S; opened = u.opened }) q.p1 q.p2
    (unmap-fits _ q (sound-of image w S) v u) few as' r run in
    (done.0, done.1 ∙ sym (unmap-leaves image w q o S u t taken))

pub over-gaps : (image : List ℕ) → PassesOverGaps image
over-gaps image w q o S u t =
    let v = view-settled image w q o S u t in
    let f = pages_of w q in
    let told = answer-told image w q o S u t in
    let good : Good image q.sandbox u.row w = record { sound = S; opened = u.opened } in
    record {
      answered =
          told ∙ rw (unmap-hole _ q (sound-of image w S) v u
          (slots-inside _ (record_at w q.sandbox).present (own image q.sandbox u.row w good).rec.present))
          (by_cases (eqb (areas f) 8 && is_hole f q.p1 q.p2) (λ e. rw e) (λ e. rw e));
      gap = λ i b m. told ∙ rw (unmap-over-gap _ q (sound-of image w S) v u i b m);
      nothing = λ clear.
          let idle = none_in f q.p1 q.p2 clear in
          let n = unmap-accepted _ q (sound-of image w S) v u (rw (without-none f q.p1 q.p2 idle) v.few) in (
            unmap-answers image w q o S u t n,
            unmap-leaves image w q o S u t n ∙ unmapped-none image q.sandbox u.row w good q.p1 q.p2 (unmap-fits _ q (sound-of image w S) v u) idle,
          );
      alone = λ n.
          let some = sound-runs image w S (mapped_alone q f) in
          let one = every-run image w q o S u t n some.0 some.1.0 some.1.1 in
          rw (one.0, one.1) at some.1.1;
      only = every-run image w q o S u t;
    }
