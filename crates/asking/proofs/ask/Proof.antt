-- What a line asks: each way out is the first row that applies, or the call.
use mathlib.Core.Path.{◌≡◌, sym, ◌∙◌}
use mathlib.Core.Bool.{true}
use Prim.Native.Nat.{◌≤◌, ◌<◌}
use native.Mathlib.Omega.{arith}
use borrow.Author.Tests.{not-true, not-false, le-ltb, lt-ltb}
use Rattle.interface.specs.declared.request.Request.{Request}
use Rattle.interface.specs.Requests.{is_call}
use Rattle.asking.specs.Asked.{asked_by}
use Rattle.asking.proofs.AskedLaws.{asks-no-call, asks-unsound, asks-past, asks-call}
use borrow.Author.Rules.{rules}
use Rattle.asking.proofs.ask.Statement.{statement}
use Rattle.asking.proofs.ask.Tie as tie

-- the request that the line says, and what is known behind each test
abbrev said : tie.After-is_call → Request
said c = c.in-Call.q

coded : (c : tie.Else-not-is_call) → is_call (said c.before) ≡ true
coded c = sym c.is_call.ensures ∙ not-false c.is_call.result c.if-not-is_call.false-raw

abbrev start_of : tie.After-is_call → tie.Start
start_of c = c.before.before

-- ---- the needs

enum-known-line : tie.Need-enum_known-line
enum-known-line c = search rules

enum_told : tie.Need-enum_told-1
enum_told c = search rules

returns : tie.Need-returns-in_default
unfolding asked_by
returns c = rw c.in_default.is

is-call-requires : tie.Need-is_call-requires
is-call-requires c κs = search rules

returns-2 : tie.Need-returns-then-not-is_call
returns-2 c =
    let tested = c.before in
    rw tested.in-Call.is
    (sym (asks-no-call (start_of tested).args.sound (said tested) (sym tested.is_call.ensures ∙ not-true tested.is_call.result c.if-not-is_call.true-raw)))

returns-3 : tie.Need-returns-then-not-sound
returns-3 c =
    let tested = c.before.before in
    let sound = (start_of tested).args.sound in
    rw tested.in-Call.is (sym (asks-unsound sound (said tested) (coded c.before) (not-true sound c.if-not-sound.true-raw)))

cast-if3 : tie.Need-overflow_cast-q
cast-if3 c = search rules

returns-4 : tie.Need-returns-then-q-ge-SANDBOXES
returns-4 c =
    let sounded = c.before.before in
    let tested = sounded.before.before in
    let sound = (start_of tested).args.sound in
    let past : 4 ≤ (said tested).sandbox = omega (arith, c.if-q-ge-SANDBOXES.true) in
    rw tested.in-Call.is
    (sym (asks-past sound (said tested) (coded sounded.before) (not-false sound sounded.if-not-sound.false-raw) (le-ltb (said tested).sandbox 4 past)))

returns-5 : tie.Need-returns
returns-5 c =
    let sounded = c.before.before in
    let tested = sounded.before.before in
    let sound = (start_of tested).args.sound in
    let low : (said tested).sandbox < 4 = omega (arith, c.if-q-ge-SANDBOXES.false) in
    rw tested.in-Call.is
    (sym (asks-call sound (said tested) (coded sounded.before) (not-false sound sounded.if-not-sound.false-raw) (lt-ltb (said tested).sandbox 4 low)))

pub ask_spec : {M : Type 1} → statement M
ask_spec =
    tie.close (tie.spec enum-known-line enum_told returns is-call-requires returns-2 returns-3 cast-if3 returns-4 returns-5)
