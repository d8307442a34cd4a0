-- The sandboxes that were passed are sound with their runs, so whether all are is whether the rest are.
use Rattle.state.proofs.SharesLaws.{zero_sandbox}
use borrow.Author.Rules.{rules}
use native.Mathlib.Omega.{arith}
use Prim.Native.Nat.{ℕ, ◌-◌, ◌≤◌, ◌<◌}
use mathlib.Core.Path.{◌≡◌, refl, sym, ◌∙◌}
use mathlib.Core.Bool.{Bool, ◌&&◌}
use mathlib.Core.List.{List, []}
use lib.ListN.{length, get_or}
use borrow.Author.Tests.{not-true, not-false}
use Rattle.basics.specs.Ranges.{every}
use Rattle.basics.proofs.TestLaws.{length-mapped}
use Rattle.basics.proofs.ListLaws.{get_d_any}
use Rattle.basics.proofs.LoopLaws.{every-next, every-stop, every-end}
use Rattle.frames.specs.declared.Held.{Held}
use Rattle.frames.specs.Frames.{none_held}
use Rattle.table.specs.Store.{Store, kept}
use Rattle.state.specs.declared.sandbox.Sandbox.{Sandbox}
use Rattle.state.specs.World.{World, sandbox_at, closed_sandbox}
use Rattle.soundness.specs.Test.{sandbox_ok, runs_ok_at}
use Rattle.soundness.proofs.TestLaws.{passed-true}
use Rattle.soundness.proofs.Room.{passed-share}
use Rattle.soundness.proofs.SandboxLaws.{sandbox-tested, sandbox-stops, runs-decide}
use Rattle.soundness.proofs.sound.sandboxes_ok.Statement.{statement}
use Rattle.soundness.proofs.sound.sandboxes_ok.Tie as tie

-- the test of sandbox s and of its runs
abbrev tests : Held → List ℕ → List ℕ → ℕ → List Sandbox → ℕ → Bool
tests h pool table images sandboxes s =
    let w : World = record { sandboxes = sandboxes; store = kept h pool table } in
    sandbox_ok images w.store s (sandbox_at w s) && runs_ok_at w s

abbrev invariant-loop : tie.invariant-loop-s
invariant-loop table images sandboxes s₀ s =
    (s ≤ 4) × ((h : Held) (pool : List ℕ) → every (tests h pool table images sandboxes) 0 4 ≡ every (tests h pool table images sandboxes) s (4 - s))

abbrev decreases-loop : tie.decreases-loop-s
decreases-loop table images sandboxes s₀ s = 4 - s

four : (c : tie.Start invariant-loop decreases-loop) → length c.args.sandboxes ≡ 4
four c = search length-mapped

same : (start : tie.Start invariant-loop decreases-loop) (s : ℕ) → s < 4 → get_or start.args.sandboxes s zero_sandbox ≡ get_or start.args.sandboxes s closed_sandbox
same start s l = get_d_any start.args.sandboxes s zero_sandbox closed_sandbox (omega (arith, four start, l))

-- the way back from where a fact is needed to where it was learned
abbrev at-sandbox-ok : tie.After-runs_ok invariant-loop decreases-loop → tie.After-sandbox_ok invariant-loop decreases-loop
at-sandbox-ok c = c.before.before.before.before

abbrev turn-of-sandbox-ok : tie.After-sandbox_ok invariant-loop decreases-loop → tie.In-loop-s invariant-loop decreases-loop
turn-of-sandbox-ok c = c.before.before.before

abbrev turn-of-runs : tie.After-runs-1 invariant-loop decreases-loop → tie.In-loop-s invariant-loop decreases-loop
turn-of-runs c = turn-of-sandbox-ok c.before.before.before

abbrev turn-of-runs-ok : tie.After-runs_ok invariant-loop decreases-loop → tie.In-loop-s invariant-loop decreases-loop
turn-of-runs-ok c = turn-of-runs c.before

abbrev start-of-turn : tie.In-loop-s invariant-loop decreases-loop → tie.Start invariant-loop decreases-loop
start-of-turn c = c.before.before.before

-- what the first call says of the array's sandbox
told : (c : tie.After-sandbox_ok invariant-loop decreases-loop) (h : Held) (pool : List ℕ) →
    let a = (start-of-turn (turn-of-sandbox-ok c)).args in
    let s : ℕ = (turn-of-sandbox-ok c).loop-s.s in
    c.sandbox_ok.result ≡ sandbox_ok a.images (kept h pool a.table.now) s (get_or a.sandboxes s zero_sandbox)
told c h pool =
    let a = (start-of-turn (turn-of-sandbox-ok c)).args in
    let s : ℕ = (turn-of-sandbox-ok c).loop-s.s in
    sandbox-tested a.images (kept h pool a.table.now) s (get_or a.sandboxes s zero_sandbox) _ (c.sandbox_ok.ensures h pool)

-- what the two calls say of the world's sandbox
here : (c : tie.After-runs_ok invariant-loop decreases-loop) (h : Held) (pool : List ℕ) →
    let a = (start-of-turn (turn-of-runs-ok c)).args in
    c.runs_ok.result ≡ tests h pool a.table.now a.images a.sandboxes (turn-of-runs-ok c).loop-s.s
here c h pool =
    let start = start-of-turn (turn-of-runs-ok c) in
    let a = start.args in
    let s : ℕ = (turn-of-runs-ok c).loop-s.s in
    let t = (at-sandbox-ok c).sandbox_ok in
    runs-decide a.images (kept h pool a.table.now) s (get_or a.sandboxes s zero_sandbox) (get_or a.sandboxes s closed_sandbox)
    (same start s (turn-of-runs-ok c).loop-s-test.true) t.result (told (at-sandbox-ok c) h pool) (not-false _ c.if-not-sandbox_ok.false-raw)
    c.runs_ok.result
    (c.runs_ok.ensures h pool)

loop-holds : tie.Need-loop-s-init invariant-loop decreases-loop
loop-holds c = (omega arith, λ h pool. refl)

cast-k : tie.Need-overflow_cast-k invariant-loop decreases-loop
cast-k c = search rules

mul-b : tie.Need-offset_bounds-sandboxes-k invariant-loop decreases-loop
mul-b c = search rules

array-copy-out-b : tie.Need-bounds-sandboxes-k invariant-loop decreases-loop
array-copy-out-b c = search rules

sandbox-ok-requires : tie.Need-sandbox_ok-requires invariant-loop decreases-loop
sandbox-ok-requires c κs = (c.loop-s-test.true, (start-of-turn c.before.before).requires)

abbrev at-loop : tie.After-sandbox_ok invariant-loop decreases-loop → tie.At-loop-s invariant-loop decreases-loop
at-loop c = (turn-of-sandbox-ok c).before

returns : tie.Need-returns-then-not-sandbox_ok invariant-loop decreases-loop
returns c = λ h pool.
    let start = start-of-turn (turn-of-sandbox-ok c.before) in
    let a = start.args in
    let l = (at-loop c.before).loop-s in
    let low = (turn-of-sandbox-ok c.before).loop-s-test.true in
    let t = c.sandbox_ok in
    sym (l.invariant.1 h pool ∙ every-stop (tests h pool a.table.now a.images a.sandboxes) 4 l.s low
    (sandbox-stops a.images (kept h pool a.table.now) l.s (get_or a.sandboxes l.s zero_sandbox) (get_or a.sandboxes l.s closed_sandbox)
    (same start l.s low) t.result (told c.before h pool) (not-true _ c.if-not-sandbox_ok.true-raw)))

mul-again : tie.Need-offset_bounds-sandboxes-k-in-loop-s invariant-loop decreases-loop
mul-again c = search rules

array-copy-out-again : tie.Need-bounds-sandboxes-k-in-loop-s invariant-loop decreases-loop
array-copy-out-again c = search rules

-- a sandbox that passed has entries within its share
runs-ok-requires : tie.Need-runs_ok-requires invariant-loop decreases-loop
runs-ok-requires c κs =
    let start = start-of-turn (turn-of-runs c) in
    let a = start.args in
    let s : ℕ = (turn-of-runs c).loop-s.s in
    let b : Sandbox = get_or a.sandboxes s zero_sandbox in
    let st : Store = kept none_held [] a.table.now in
    let passed = passed-true a.images st s b (sym (told c.before.before.before none_held []) ∙ not-false _ c.if-not-sandbox_ok.false-raw) in
    ((turn-of-runs c).loop-s-test.true, (start.requires.1, passed-share a.images st s b passed))

returns-2 : tie.Need-returns-then-not-runs_ok invariant-loop decreases-loop
returns-2 c = λ h pool.
    let a = (start-of-turn (turn-of-runs-ok c.before)).args in
    let l = (turn-of-runs-ok c.before).loop-s in
    sym (l.invariant.1 h pool ∙ every-stop (tests h pool a.table.now a.images a.sandboxes) 4 l.s
    (turn-of-runs-ok c.before).loop-s-test.true
    (sym (here c.before h pool) ∙ not-true _ c.if-not-runs_ok.true-raw))

add-s : tie.Need-overflow_step-s invariant-loop decreases-loop
add-s c = search rules

loop-less : tie.Need-loop-s-smaller invariant-loop decreases-loop
loop-less c = search rules

loop-again : tie.Need-loop-s-preserved invariant-loop decreases-loop
loop-again c =
    let a = (start-of-turn (turn-of-runs-ok c.before)).args in
    let l = (turn-of-runs-ok c.before).loop-s in (
      search rules,
      λ h pool. l.invariant.1 h pool
          ∙ every-next (tests h pool a.table.now a.images a.sandboxes) 4 l.s (turn-of-runs-ok c.before).loop-s-test.true
          (sym (here c.before h pool) ∙ not-false _ c.if-not-runs_ok.false-raw),
    )

abbrev start-of-loop-end : tie.After-loop-s invariant-loop decreases-loop → tie.Start invariant-loop decreases-loop
start-of-loop-end c = c.before.before.before

returns-3 : tie.Need-returns invariant-loop decreases-loop
returns-3 c = λ h pool.
    let a = (start-of-loop-end c).args in
    let l = c.loop-s in
    sym (l.invariant.1 h pool ∙ every-end (tests h pool a.table.now a.images a.sandboxes) 4 l.s c.loop-s-test.false)

pub sandboxes_ok_spec : {M : Type 1} → statement M
sandboxes_ok_spec =
    tie.close
    (tie.spec
    invariant-loop
    decreases-loop
    loop-holds
    cast-k
    mul-b
    array-copy-out-b
    sandbox-ok-requires
    returns
    mul-again
    array-copy-out-again
    runs-ok-requires
    returns-2
    add-s
    loop-less
    loop-again
    returns-3)
