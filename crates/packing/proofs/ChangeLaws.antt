-- Laws of changes: what each call makes of the slots.
use Prim.Native.Nat.{ℕ, ◌<◌}
use mathlib.Core.Path.{◌≡◌, sym, ◌∙◌, fun_ext}
use mathlib.Core.Option.{Option}
use native.Mathlib.Omega.{arith}
use native.Mathlib.Decide.{dec_lt}
use Rattle.basics.specs.Ranges.{over}
use Rattle.basics.proofs.RangeLaws.{inside-yes, inside_past, over-in, over-out}
use Rattle.interface.specs.declared.request.Request.{Request}
use Rattle.interface.specs.Requests as Call
use Rattle.interface.specs.Slots.{Slots, with_committed}
use Rattle.interface.specs.Outcome.{first_of, new_page, slots_after}
use Rattle.packing.specs.declared.pack.Change.TheVariants.{Map, Unmap, Protect, Commit}
use Rattle.areas.specs.Areas.{Bounded}
use Rattle.packing.specs.Pack.{changed}

-- "Snapshot commits every mapped page"
pub commit-slots : (f : Slots) → Bounded f → changed f 0 64 Commit ≡ (λ i. with_committed (f i))
unfolding Bounded
commit-slots f b = fun_ext (λ i. go i (dec_lt i 64))
  where
    go : (i : ℕ) → Dec (i < 64) → over 0 64 (λ j. with_committed (f j)) f i ≡ with_committed (f i)
    go i (yes e) = over-in 0 64 (λ j. with_committed (f j)) f i (inside-yes 0 64 i (omega arith) (omega arith))
    go i (no e) = over-out 0 64 (λ j. with_committed (f j)) f i (inside_past 0 64 i (omega arith)) ∙ rw (b i (omega arith))

-- what each call that changes mappings leaves of the slots is such a change
module _ (q : Request) (f : Slots) (copy : Option Slots) where
  pub map-slots : q.code ≡ Call.map_code → slots_after q f copy ≡ changed f (first_of f q) q.p2 (Map (new_page q))
  unfolding slots_after
  map-slots e = rw e

  pub unmap-slots : q.code ≡ Call.unmap_code → slots_after q f copy ≡ changed f q.p1 q.p2 Unmap
  unfolding slots_after
  unmap-slots e = rw e

  pub protect-slots : q.code ≡ Call.protect_code → slots_after q f copy ≡ changed f q.p1 q.p2 (Protect q.p3)
  unfolding slots_after
  protect-slots e = rw e

  pub snapshot-slots : q.code ≡ Call.snapshot_code → Bounded f → slots_after q f copy ≡ changed f 0 64 Commit
  unfolding slots_after
  snapshot-slots e b = rw e (sym (commit-slots f b))
