-- THE THEOREMS of specs/HostClaims.
use mathlib.Core.Path.{◌≡◌, refl, sym, ap, ◌∙◌, subst}
use mathlib.Core.Bool.{Bool, true}
use mathlib.Core.List.{List, [], ◌∷◌}
use Prim.Native.Nat.{ℕ}
use native.Mathlib.Omega.{arith}
use lib.Dec.{eqb}
use lib.ListN.{length}
use borrow.Author.Tests.{eq-eqb}
use Rattle.basics.proofs.TestLaws.{by_cases}
use Rattle.interface.specs.declared.request.Request.{Request}
use Rattle.interface.specs.Answers.{Answered}
use Rattle.pages.specs.Parts.{zeros}
use Rattle.state.specs.World.{World, lengths_ok, started}
use Rattle.state.specs.Start.{start_answer, started_by}
use Rattle.state.specs.Sound.{Sound}
use Rattle.layout.specs.Layout.{state_size, is_state, Shaped}
use Rattle.layout.specs.Claims.{machine_of}
use Rattle.layout.proofs.Claims.{decodes-back, passes, sound-is-shaped, fresh-is-zero}
use Rattle.step.specs.Step.{Stepped}
use Rattle.plain.specs.Machine.{fresh}
use Rattle.simulation.specs.Lent.{Lent}
use Rattle.simulation.proofs.SoundLaws.{agrees-sound, started-agrees}
use Rattle.claims.specs.Demands.{Run, RunFrom}
use Rattle.claims.specs.Demands.Run.{none, more}
use Rattle.claims.proofs.Claims.{claim-start, claim-runs, claim-1, claim-2, claim-3}
use Rattle.consequences.proofs.Claims.{claim-over-gaps}
use Rattle.host_calls.specs.declared.Told.{Told}
use Rattle.host_calls.specs.Calls.{Handed, handed, hands_of, world_in, start_number, start_hands, Calls}
use Rattle.host_calls.specs.HostClaims.{given_by, HostDemand1, HostOverGaps, CallsAreRuns, HostClaims, HostStarts}
use Rattle.host_calls.proofs.CallLaws.{world-again, hands-again, called}

-- ---- of any bytes that are a state's

pub host-demand-1 : HostDemand1
host-demand-1 image h l q t c y = claim-1 image (world_in h) q _ (c.stepped y).0

pub host-over-gaps : HostOverGaps
host-over-gaps image h l q t c bytes y S u =
    let stepped = c.stepped y in
    let over = claim-over-gaps image (world_in h) q _ S u stepped.0 in
    (over, λ none. stepped.1 ∙ ap hands_of (over.nothing none).1 ∙ sym (hands-again h bytes y))

-- what hands its own world over
calls-run : (image : List ℕ) (h l : Handed) (qs : List Request) (as' : List Answered) → h ≡ hands_of (world_in h) → Calls image h qs as' l
    → Run image (world_in h) qs as' (world_in l) × (l ≡ hands_of (world_in l))
calls-run image h l [] [] e Calls.none = (none, e)
calls-run image h l [] (a ∷ as') e c = elim c [ ]
calls-run image h l (q ∷ qs) [] e c = elim c [ ]
calls-run image h l (q ∷ qs) (a ∷ as') e (Calls.more {k = k} {t = t} c r) =
    let y : is_state h.state ≡ true = ap (λ (k : Handed). is_state k.state) e ∙ passes (machine_of (world_in h)) in
    let rest = calls-run image k l qs as' (c.stepped y).1 r in
    (more (c.stepped y).0 rest.0, rest.1)

pub calls-are-runs : CallsAreRuns
calls-are-runs image h l qs as' bytes y c = calls-run image h l qs as' (hands-again h bytes y) c

-- ---- every run is made by calls

told : Answered → Told
told a = record { number = a.number; value = a.value }

run-called : (image : List ℕ) (w v : World) (qs : List Request) (as' : List Answered) → Sound image w → Run image w qs as' v
    → Calls image (hands_of w) qs as' (hands_of v)
unfolding told
run-called image w v [] [] S none = Calls.none
run-called image w v [] (a ∷ as') S r = elim r [ ]
run-called image w v (q ∷ qs) [] S r = elim r [ ]
run-called image w v (q ∷ qs) (a ∷ as') S (more {o = o} s r) =
    let shaped = sound-is-shaped image w S in
    let again = world-again w shaped in
    Calls.more {t = told a}
    (called image (hands_of w) q (ap hands_of (sym again)) (subst Shaped (sym (decodes-back (machine_of w) shaped)) shaped) o (told a) (hands_of o.world)
    (subst (λ (u : World). Stepped image u q o) (sym again) s) refl refl)
    (run-called image o.world v qs as' ((claim-1 image w q o s).sound S) r)

-- ---- of a start

-- a start answers 0 where every length is right, and nowhere else
module _ (image : List ℕ) (h : Handed) where
  lengths : Bool
  lengths = lengths_ok (length h.pool) (length h.table) (length image)

  right : length h.state ≡ state_size → lengths ≡ true → start_number image h ≡ 0
  unfolding lengths start_number start_answer
  right e ok = rw (eq-eqb (length h.state) state_size e, ok) refl

  accepted : start_number image h ≡ 0 → (lengths ≡ true) × (start_hands image h ≡ hands_of (started_by h.pool h.table image))
  unfolding lengths start_number start_hands start_answer
  accepted z =
      by_cases (eqb (length h.state) state_size)
      (λ t. by_cases lengths (λ u. (u, rw t refl)) (λ u. absurd (no-three (rw (t, u) at z))))
      (λ t. absurd (no-three (rw t at z)))
    where
      no-three : ◌≡◌ {A = ℕ} 3 0 → ⊥
      no-three e = omega arith

module _ (image : List ℕ) (h : Handed) (ok : start_number image h ≡ 0) where
  pub lent : Lent (given_by image h)
  unfolding lengths
  lent = (claim-start h.pool h.table image (accepted image h ok).0).0

  begins : start_hands image h ≡ hands_of (started (given_by image h).frames)
  unfolding lengths
  begins = (accepted image h ok).1 ∙ ap hands_of (claim-start h.pool h.table image (accepted image h ok).0).1

  zeroed : start_hands image h ≡ handed (zeros state_size) (zeros (length h.pool)) (zeros 512)
  unfolding lengths started_by
  zeroed = (accepted image h ok).1 ∙ rw (accepted image h ok).0 (ap (λ (l : List ℕ). handed l (zeros (length h.pool)) (zeros 512)) fresh-is-zero)

  sound : Sound image (started (given_by image h).frames)
  sound = let w = started (given_by image h).frames in agrees-sound {C = λ f. Unit {0}} (given_by image h) w fresh (started-agrees (given_by image h) lent) lent

  again : world_in (start_hands image h) ≡ started (given_by image h).frames
  again = let w = started (given_by image h).frames in ap world_in begins ∙ world-again w (sound-is-shaped image w sound)

  runs : (qs : List Request) (as' : List Answered) (l : Handed) → Calls image (start_hands image h) qs as' l
      → RunFrom (given_by image h) qs as' (world_in l) × (l ≡ hands_of (world_in l))
  runs qs as' l c =
      let r = calls-run image (start_hands image h) l qs as' (begins ∙ ap hands_of (sym again)) c in
      (subst (λ (w : World). Run image w qs as' (world_in l)) again r.0, r.1)

  every : (qs : List Request) → (as' : List Answered) × ((l : Handed) × Calls image (start_hands image h) qs as' l)
  every qs =
      let r = claim-runs (given_by image h) lent qs in
      let c = run-called image (started (given_by image h).frames) r.1.0 qs r.0 sound r.1.1 in
      (r.0, (hands_of r.1.0, subst (λ (k : Handed). Calls image k qs r.0 (hands_of r.1.0)) (sym begins) c))

  pub host-claims : HostClaims image h
  host-claims = record {
    starts = zeroed;
    every = every;
    runs = runs;
    plain = λ qs as' l c. claim-2 (given_by image h) lent qs as' (world_in l) (runs qs as' l c).0;
    rewound = λ s qs as' l b c. (claim-3 (given_by image h) lent).rewound s qs as' (world_in l) b (runs qs as' l c).0;
    frames = λ qs as' l c. (claim-3 (given_by image h) lent).frames qs as' (world_in l) (runs qs as' l c).0;
    promise = λ qs as' l c. (claim-3 (given_by image h) lent).promise qs as' (world_in l) (runs qs as' l c).0;
    two_lists = λ s common own₁ own₂ later₁ later₂ snapshot rewind₁ rewind₂ as₁ as₂ l₁ l₂ c₁ c₂.
        (claim-3 (given_by image h) lent).two_lists s common own₁ own₂ later₁ later₂ snapshot rewind₁ rewind₂ as₁ as₂ (world_in l₁) (world_in l₂)
        (runs _ as₁ l₁ c₁).0 (runs _ as₂ l₂ c₂).0;
  }

pub host-starts : HostStarts
unfolding lengths
host-starts image h = (host-claims image h, right image h)
