-- The archive over the bytes of a state is the definition's: what the test of the bytes shows, and the answer behind it by the law of that way out.
use mathlib.Core.Path.{◌≡◌}
use mathlib.Core.Bool.{true, false}
use Rattle.layout.specs.Layout.{is_state}
use Rattle.layout.proofs.LayoutLaws.{state-long}
use Rattle.host_calls.specs.Calls.{Handed, handed}
use Rattle.host_calls.proofs.CallLaws.{fails-test, passes-test}
use Rattle.filing.proofs.FiledLaws.{no-state, a-state}
use borrow.Author.Rules.{rules}
use Rattle.filing.proofs.archive_over.Statement.{statement}
use Rattle.filing.proofs.archive_over.Tie as tie

-- ---- the places of the proof, and what is known at each

abbrev behind_no : tie.Then-not-is_state → tie.Start
behind_no c = c.before.before.before.before.before.before.before

fails : (c : tie.Then-not-is_state) → is_state (behind_no c).args.state.now ≡ false
fails c = let tested = c.is_state in fails-test (behind_no c).args.state.now tested.result tested.ensures c.if-not-is_state.true-raw

abbrev behind_yes : tie.Else-not-is_state → tie.Start
behind_yes c = c.before.before.before.before.before.before.before

passes : (c : tie.Else-not-is_state) → is_state (behind_yes c).args.state.now ≡ true
passes c = let tested = c.is_state in passes-test (behind_yes c).args.state.now tested.result tested.ensures c.if-not-is_state.false-raw

-- what the caller handed over
abbrev hands : tie.Start → Handed
hands c = handed c.args.state.now c.args.pool.now c.args.table.now

-- ---- the answers

is-state-requires : tie.Need-is_state-requires
is-state-requires c κs = search rules

by-requires : tie.Need-by-requires
by-requires c κs = search rules

returns : tie.Need-returns-then-not-is_state
returns c =
    let first = behind_no c.before in
    rw c.by.ensures (no-state first.args.image.now (hands first) first.args.sandbox first.args.out.now (fails c.before))

decode-requires : tie.Need-decode-requires
decode-requires c κs = state-long (behind_yes c).args.state.now (passes c)

write-archive-requires : tie.Need-write_archive-requires
write-archive-requires c κs = search rules

by-requires-2 : tie.Need-by-requires-2
by-requires-2 c κs = search rules

same_length : tie.Need-shape_of-out
same_length c = search rules

returns-2 : tie.Need-returns
returns-2 c =
    let written = c.before.before.before in
    let decoded = written.before.before in
    let filing = written.write_archive in
    let decoding = decoded.decode in
    let branch = decoded.before in
    let first = behind_yes branch in
    a-state first.args.image.now (hands first) first.args.sandbox first.args.out.now (passes branch) decoding.result filing.result
    c.by-2.result filing.new.out decoding.ensures filing.ensures c.by-2.ensures

pub archive_over_spec : {M : Type 1} → statement M
archive_over_spec =
    tie.close (tie.spec is-state-requires by-requires returns decode-requires write-archive-requires by-requires-2 same_length returns-2)
