-- Each test settles the comparison, up to the last, which compares bytes.
use mathlib.Core.Path.{◌≡◌, sym, ap, ◌∙◌}
use mathlib.Core.Bool.{Bool, true, not}
use borrow.Author.Tests.{not-true, not-false}
use Rattle.interface.specs.Slots.{is_mapped}
use Rattle.comparison.specs.Compare.{agree}
use Rattle.pages.specs.Parts.{same_bytes}
use Rattle.agreement.proofs.CompareLaws.{reads_now, reads_copied, absent, lost, other-rights, bytes-decide, passed_over, looked-at}
use borrow.Author.Rules.{rules}
use Rattle.agreement.proofs.agrees.Statement.{statement}
use Rattle.agreement.proofs.agrees.Tie as tie

-- whether its bytes are the snapshot's
abbrev same_in : tie.Start → Bool
same_in s =
    let a = s.args in
    same_bytes 256 (reads_now a.image.now a.pool.now a.present a.snapshot a.front a.back)
    (reads_copied a.image.now a.pool.now a.present a.snapshot a.front a.back)

-- ---- where a test fails

abbrev behind_mapped : tie.Else-not-is_mapped → tie.Start
behind_mapped c = c.before.before.before.before

mapped : (c : tie.Else-not-is_mapped) → is_mapped (behind_mapped c).args.present ≡ true
mapped c = sym c.is_mapped.ensures ∙ not-false c.is_mapped.result c.if-not-is_mapped.false-raw

abbrev behind_copied : tie.Else-not-is_mapped-2 → tie.Start
behind_copied c = behind_mapped c.before.before

copied : (c : tie.Else-not-is_mapped-2) → is_mapped (behind_copied c).args.snapshot ≡ true
copied c = sym c.is_mapped-2.ensures ∙ not-false c.is_mapped-2.result c.if-not-is_mapped-2.false-raw

-- behind the rights of both
abbrev untested : tie.Else-rights_at → tie.Else-not-is_mapped-2
untested c = c.before.before.before

abbrev behind_rights : tie.Else-rights_at → tie.Start
behind_rights c = behind_copied (untested c)

-- with the same rights its bytes decide
decided : (c : tie.Else-rights_at) → let s = behind_rights c in same_in s ≡ agree s.args.present s.args.snapshot (same_in s)
decided c =
    let a = (behind_rights c).args in
    bytes-decide a.present a.snapshot (same_in (behind_rights c)) (mapped (untested c).before.before) (copied (untested c))
    (sym c.rights_at.ensures ∙ c.if-rights_at.false ∙ c.rights_at-2.ensures)

abbrev behind_passed : tie.Else-is_committed-front → tie.Start
behind_passed c = behind_rights c.before.before

-- where the backings are looked up
abbrev backings : tie.After-backing_at-2 → tie.Else-is_committed-front
backings c = c.before.before

-- ---- the needs

is-mapped-requires : tie.Need-is_mapped-requires
is-mapped-requires c κs = search rules

is-mapped-requires-2 : tie.Need-is_mapped-requires-then-not-is_mapped
is-mapped-requires-2 c κs = search rules

returns : tie.Need-returns-then-not-is_mapped
returns c =
    let here = c.before.before in
    let s = here.before.before.before in
    ap not c.is_mapped-then-not-is_mapped.ensures
    ∙ absent s.args.present s.args.snapshot (same_in s) (sym here.is_mapped.ensures ∙ not-true here.is_mapped.result c.if-not-is_mapped.true-raw)

is-mapped-requires-3 : tie.Need-is_mapped-requires-2
is-mapped-requires-3 c κs = search rules

returns-2 : tie.Need-returns-then-not-is_mapped-2
returns-2 c =
    let s = behind_mapped c.before.before in
    let there = c.is_mapped-2 in
    lost s.args.present s.args.snapshot (same_in s) (mapped c.before.before) (sym there.ensures ∙ not-true there.result c.if-not-is_mapped-2.true-raw)

rights-at-requires : tie.Need-rights_at-requires
rights-at-requires c κs = search rules

rights-at-requires-2 : tie.Need-rights_at-requires-2
rights-at-requires-2 c κs = search rules

returns-3 : tie.Need-returns-then-rights_at
returns-3 c =
    let mappings = c.before.before.before in
    let s = behind_copied mappings in
    other-rights s.args.present s.args.snapshot (same_in s) (mapped mappings.before.before) (copied mappings)
    (λ e. c.if-rights_at.true (c.rights_at.ensures ∙ e ∙ sym c.rights_at-2.ensures))

is-committed-requires : tie.Need-is_committed-requires
is-committed-requires c κs = search rules

returns-4 : tie.Need-returns-then-is_committed-front
returns-4 c =
    let s = behind_rights c.before.before in
    let a = s.args in
    sym (passed_over a.image.now a.pool.now a.present a.snapshot a.front a.back
    (rw c.is_committed.ensures at c.if-is_committed-front.true) s.requires.1.1.1.1.1.1)
    ∙ decided c.before.before

backing-at-requires : tie.Need-backing_at-requires
backing-at-requires c κs = search rules

backing-at-requires-2 : tie.Need-backing_at-requires-2
backing-at-requires-2 c κs = search rules

same-pages-requires : tie.Need-same_pages-requires
same-pages-requires c κs =
    let s = behind_passed (backings c) in
    let mine = c.backing_at.ensures in
    let theirs = c.backing_at-2.ensures in
    (s.requires.0, (s.requires.1.0, (rw mine s.requires.1.1.1.1.0, (s.requires.1.1.0, (s.requires.1.1.1.0, rw theirs s.requires.1.1.1.1.1.0)))))

returns-5 : tie.Need-returns
returns-5 c =
    let committed = backings c.before in
    let a = (behind_passed committed).args in
    let mine = c.backing_at.ensures in
    let theirs = c.backing_at-2.ensures in
    let compared = looked-at a.image.now a.pool.now a.present a.snapshot a.front a.back
    (rw c.is_committed.ensures at c.if-is_committed-front.false) in
    (rw (mine, theirs) at c.same_pages.ensures) ∙ compared ∙ decided committed.before.before

pub agrees_spec : {M : Type 1} → statement M
agrees_spec =
    tie.close
    (tie.spec
    is-mapped-requires
    is-mapped-requires-2
    returns
    is-mapped-requires-3
    returns-2
    rights-at-requires
    rights-at-requires-2
    returns-3
    is-committed-requires
    returns-4
    backing-at-requires
    backing-at-requires-2
    same-pages-requires
    returns-5)
