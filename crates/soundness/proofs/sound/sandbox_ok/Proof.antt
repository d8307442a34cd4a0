-- Where the record fails, so does the test; where it passes, the pages decide.
use Prim.Native.Nat.{ℕ}
use mathlib.Core.Path.{◌≡◌, sym, ◌∙◌}
use mathlib.Core.Bool.{true}
use borrow.Author.Rules.{rules}
use borrow.Author.Tests.{not-true, not-false}
use Rattle.record_soundness.specs.Test.{record_ok}
use Rattle.record_soundness.proofs.RecordLaws.{record-true, both-formed}
use Rattle.soundness.proofs.sound.sandbox_ok.Statement.{statement}
use Rattle.soundness.proofs.sound.sandbox_ok.Tie as tie

record-ok-requires : tie.Need-record_ok-requires
record-ok-requires c κs = search rules

returns : tie.Need-returns-then-not-record_ok
returns c = λ h pool. rw (← c.record_ok.ensures, not-true c.record_ok.result c.if-not-record_ok.true-raw)

-- the way back from where a fact is needed to where it was learned
abbrev start-of-else1 : tie.Else-not-record_ok → tie.Start
start-of-else1 c = c.before.before.before

record-hold : (c : tie.Else-not-record_ok) → record_ok (start-of-else1 c).args.images (start-of-else1 c).args.rec ≡ true
record-hold c = sym c.record_ok.ensures ∙ not-false _ c.if-not-record_ok.false-raw

pages-ok-requires : tie.Need-pages_ok-requires
pages-ok-requires c κs =
    let p = c.before.before in
    let s = start-of-else1 p in
    let a = s.args in
    let f = both-formed a.images a.rec (record-true a.images a.rec (record-hold p)) s.requires.1.0 in
    (s.requires.0, (s.requires.1.1, (f.0, f.1)))

returns-2 : tie.Need-returns
returns-2 c = λ h pool. rw (record-hold c.before.before.before) (c.pages_ok.ensures h pool)

pub sandbox_ok_spec : {M : Type 1} → statement M
sandbox_ok_spec = tie.close (tie.spec record-ok-requires returns pages-ok-requires returns-2)
