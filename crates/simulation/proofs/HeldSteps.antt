-- Marks are entries: the frames that a sandbox holds, counted on both machines.
use mathlib.Core.Path.{◌≡◌, refl, ap, ◌∙◌}
use mathlib.Core.Bool.{Bool, not}
use Prim.Native.Nat.{ℕ, zero, suc, ◌+◌, ◌*◌, ◌<◌}
use native.Mathlib.Omega.{arith}
use lib.Dec.{eqb}
use lib.ListN.{get_or}
use borrow.Author.Tests.{eq-eqb, ne_eqb}
use Rattle.basics.specs.Ranges.{one, count, sum}
use Rattle.run_choice.specs.Runs.{run_places}
use Rattle.words.proofs.SumLaws.{sum_same}
use Rattle.marks.specs.Named.{used, used_below}
use Rattle.marks.specs.Marks.{from}
use Rattle.marks.proofs.NamedLaws.{by-entry}
use Rattle.marks.proofs.MarkLaws.{used-add}
use Rattle.table.specs.Store.{Store, entry, front_of, back_of, contents}
use Rattle.runs.specs.Row.{lengths_of}
use Rattle.kept.specs.Spare.{kept_by}
use Rattle.state.specs.declared.sandbox.Sandbox.{Sandbox}
use Rattle.memory.specs.Memory.{holds_in}
use Rattle.plain.specs.Machine.{Given, Kept, frames_held}
use Rattle.simulation.specs.Agrees.{page_if, AgreesAt}
use Rattle.simulation.proofs.ReadSteps.{mark-none, frame_is}

pub used-count : (f : ℕ → ℕ) (m : ℕ → Bool) (n : ℕ) → ((i : ℕ) → i < n → used (f i) ≡ one (m i)) → used_below f n ≡ count m n
unfolding used_below sum count
used-count f m zero e = refl
used-count f m (suc n) e = omega (arith, e n (omega arith), used-count f m n (λ i l. e i (omega arith)))

pub used-one : (st : Store) (k : ℕ) (m : Bool) (h : ℕ → ℕ) → contents 256 st k ≡ page_if m h → used (entry st k) ≡ one m
used-one st k m h c =
    by-entry (used (entry st k) ≡ one m) (entry st k) (λ z. rw (z, mark-none st k m h c z)) (λ f z. rw (z, (frame_is st k m h c f z).0))

module _ (g : Given) (st : Store) (s : ℕ) (b : Sandbox) (k : Kept) (A : AgreesAt g st s b k) where
  -- a page has a front where it is marked
  pub front-is : (i : ℕ) → i < 64 → not (eqb (entry st (front_of s i)) 0) ≡ k.traces.front i
  front-is i l =
      by-entry (not (eqb (entry st (front_of s i)) 0) ≡ k.traces.front i) (entry st (front_of s i))
      (λ z. rw (eq-eqb (entry st (front_of s i)) 0 z, mark-none st (front_of s i) (k.traces.front i) _ (A.fronts i l) z))
      (λ f z. rw (ne_eqb (entry st (front_of s i)) 0 (omega (arith, z)), (frame_is st (front_of s i) (k.traces.front i) _ (A.fronts i l) f z).0))

  pub backs-used : used_below (λ i. from (s * 128) st.table (64 + i)) 64 ≡ count k.traces.back 64
  backs-used =
      used-count (λ i. from (s * 128) st.table (64 + i)) k.traces.back 64
      (λ i m. ap (λ (x : ℕ). used (get_or st.table x 0)) (omega arith) ∙ used-one st (back_of s i) (k.traces.back i) _ (A.backs i m))

  -- fronts and backs, on both machines
  pub entries-same : used_below (from (s * 128) st.table) 128 ≡ count k.traces.front 64 + count k.traces.back 64
  entries-same =
      let fronts = used-count (from (s * 128) st.table) k.traces.front 64 (λ i m. used-one st (front_of s i) (k.traces.front i) _ (A.fronts i m)) in
      omega (arith, used-add (from (s * 128) st.table) 64 64, fronts, backs-used)

  -- with kept frames
  pub holds_same : holds_in st s b ≡ frames_held k.traces
  unfolding frames_held kept_by
  holds_same = omega (arith, entries-same, sum_same (lengths_of b.runs) k.traces.runs run_places A.runs)
