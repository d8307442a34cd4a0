-- A call: what each test shows of the number, and from it the step that each answer is.
use mathlib.Core.Path.{◌≡◌, refl, sym, subst, ◌∙◌}
use mathlib.Core.Bool.{true, false}
use mathlib.Core.List.{List}
use Prim.Native.Nat.{ℕ, ◌<◌}
use native.Mathlib.Omega.{arith}
use lib.ListN.{length, get_or}
use borrow.Author.Tests.{not-true, not-false}
use Rattle.basics.proofs.TestLaws.{length-mapped}
use Rattle.std.specs.Prelude.{Option, IfSome, IfNone}
use Rattle.interface.specs.Answers.{Answer, answered}
use Rattle.interface.specs.declared.answer.Refusal.TheVariants.{NoSuchCall, Unsound, NotOpen}
use Rattle.interface.specs.Requests.{is_call}
use Rattle.frames.specs.Frames.{none_held}
use Rattle.table.specs.Store.{kept}
use Rattle.state.specs.declared.sandbox.Sandbox.{Sandbox}
use Rattle.state.specs.World.{World, world_of, shares_in}
use Rattle.totals.specs.declared.together.Together.{Together}
use Rattle.state.proofs.SharesLaws.{zero_sandbox}
use Rattle.soundness.specs.Test.{soundb}
use Rattle.memory.proofs.MemoryLaws.{read-own}
use Rattle.in_place.specs.InPlace.{Around, with_pool}
use Rattle.step.specs.Step.{Stepped}
use Rattle.step.specs.Acted.{Stands}
use Rattle.step.proofs.CallLaws.{stepped-refused, number-two, number-three, number-four}
use Rattle.step.proofs.ActedLaws.{standing, stepped-back}
use borrow.Author.Rules.{rules}
use Rattle.machine.proofs.call.Statement.{statement}
use Rattle.machine.proofs.call.Tie as tie

-- ---- what is handed in

abbrev image_in : tie.Start → List ℕ
image_in c = c.args.image.now

abbrev world_in : tie.Start → World
world_in c = world_of c.args.machine c.args.pool.now c.args.table.now

four : (c : tie.Start) → length c.args.machine.sandboxes ≡ 4
four c = search length-mapped

-- ---- what is known behind each test

abbrev behind_code : tie.Else-not-is_call → tie.Start
behind_code c = c.before.before.before.before.before

no_call : (c : tie.Then-not-is_call) → is_call c.args.q ≡ false
no_call c = sym c.is_call.ensures ∙ not-true c.is_call.result c.if-not-is_call.true-raw

a_call : (c : tie.Else-not-is_call) → is_call (behind_code c).args.q ≡ true
a_call c = sym c.is_call.ensures ∙ not-false c.is_call.result c.if-not-is_call.false-raw

abbrev behind_state : tie.Else-not-sound → tie.Start
behind_state c = behind_code c.before.before

fails : (c : tie.Then-not-sound) → let start = behind_code c.before.before in soundb (image_in start) (world_in start) ≡ false
fails c = sym c.sound.ensures ∙ not-true c.sound.result c.if-not-sound.true-raw

passes : (c : tie.Else-not-sound) → soundb (image_in (behind_state c)) (world_in (behind_state c)) ≡ true
passes c = sym c.sound.ensures ∙ not-false c.sound.result c.if-not-sound.false-raw

abbrev behind_row : tie.Else-q-ge-SANDBOXES → tie.Start
behind_row c = behind_state c.before.before

in-row : (c : tie.Else-q-ge-SANDBOXES) → (behind_row c).args.q.sandbox < 4
in-row c = omega (arith, c.if-q-ge-SANDBOXES.false)

-- a sandbox is rewound or tried in place behind the tests; the world around it is the one handed in
abbrev row_of : tie.Else-q-eq-REWIND → tie.Else-q-ge-SANDBOXES
row_of c = c.before.before.before.before.before

abbrev rewound-row : tie.Then-q-eq-REWIND → tie.Else-q-ge-SANDBOXES
rewound-row c = c.before.before.before.before.before

abbrev tried : tie.After-answer → tie.Else-q-ge-SANDBOXES
tried c = row_of c.before.before

abbrev own : tie.Start → Sandbox
own s = get_or s.args.machine.sandboxes s.args.q.sandbox zero_sandbox

around : (row : tie.Else-q-ge-SANDBOXES) → let s = behind_row row in
    Around (image_in s) s.args.q (own s) s.args.pool.now s.args.table.now (world_in s)
around row =
    let s = behind_row row in record {
      sound = passes row.before.before;
      own = sym (read-own s.args.machine.sandboxes s.args.q.sandbox (four s) (in-row row));
      same_pool = refl;
      same_table = refl;
    }

-- where it is not answered there the pool is as it was, and what the sandboxes have together is found
abbrev left-of : tie.After-put_together-all → tie.After-answer
left-of c = c.before.before.before.before.before

pool-stays : (c : tie.After-put_together-all) → let s = behind_row (tried (left-of c)) in (left-of c).answer.new.pool ≡ s.args.pool.now
pool-stays c =
    let behind = left-of c in
    let s = behind_row (tried behind) in
    subst (λ (r : Option Answer). IfNone r (behind.answer.new.pool ≡ s.args.pool.now)) c.in_default.is
    (behind.answer.ensures (world_in s) (around (tried behind))).left

stands : (c : tie.After-put_together-all) → let s = behind_row (tried (left-of c)) in let all = c.put_together-all.result in
    Stands (image_in s) s.args.q (own s) all (kept all.held (left-of c).answer.new.pool s.args.table.now) s.args.machine.sandboxes
stands c =
    let row = tried (left-of c) in
    let s = behind_row row in
    let found = c.put_together-all in
    standing (image_in s) s.args.q s.args.machine s.args.pool.now _ s.args.table.now found.result found.ensures.0 (pool-stays c)
    (four s) (in-row row) (passes row.before.before) found.ensures.1.0 found.ensures.1.1

-- a rewind: what is told of the other sandboxes does not matter
abbrev unasked : tie.Start → Together
unasked s = record { held = s.args.machine.held; shares = shares_in s.args.machine.sandboxes; kept = none_held }

stands-alone : (c : tie.Then-q-eq-REWIND) → let s = behind_row (rewound-row c) in
    Stands (image_in s) s.args.q (own s) (unasked s) (kept s.args.machine.held s.args.pool.now s.args.table.now) s.args.machine.sandboxes
stands-alone c =
    let row = rewound-row c in
    let s = behind_row row in
    standing (image_in s) s.args.q s.args.machine s.args.pool.now s.args.pool.now s.args.table.now (unasked s) refl refl
    (four s) (in-row row) (passes row.before.before) refl (λ e. absurd (omega (arith, e, c.if-q-eq-REWIND.true)))

abbrev rewound-at : tie.After-marks-1 → tie.After-rewind_sandbox-rewound
rewound-at c = c.before.before.before.before.before.before

abbrev rewinding : tie.After-rewind_sandbox-rewound → tie.Then-q-eq-REWIND
rewinding c = c.before.before.before.before

-- ---- the needs

is-call-requires : tie.Need-is_call-requires
is-call-requires c κs = search rules

returns : tie.Need-returns-then-not-is_call
returns c =
    let start = c.before.before.before.before.before in
    stepped-refused (image_in start) (world_in start) start.args.q NoSuchCall
    (number-two (image_in start) (world_in start) start.args.q (no_call c))

sound-requires : tie.Need-sound-requires
sound-requires c κs = search rules

same_length : tie.Need-shape_of-pool-then-not-sound
same_length c = search rules

same-length-2 : tie.Need-shape_of-table-then-not-sound
same-length-2 c = search rules

returns-2 : tie.Need-returns-then-not-sound
returns-2 c =
    let coded = c.before.before in
    let start = behind_code coded in
    stepped-refused (image_in start) (world_in start) start.args.q Unsound
    (number-three (image_in start) (world_in start) start.args.q (a_call coded) (fails c))

cast-if3 : tie.Need-overflow_cast-q
cast-if3 c = search rules

same-length-3 : tie.Need-shape_of-pool-then-q-ge-SANDBOXES
same-length-3 c = search rules

same-length-4 : tie.Need-shape_of-table-then-q-ge-SANDBOXES
same-length-4 c = search rules

returns-3 : tie.Need-returns-then-q-ge-SANDBOXES
returns-3 c =
    let sounded = c.before.before in
    let start = behind_state sounded in
    stepped-refused (image_in start) (world_in start) start.args.q NotOpen
    (number-four (image_in start) (world_in start) start.args.q (a_call sounded.before.before) (passes sounded)
    (omega (arith, c.if-q-ge-SANDBOXES.true)))

cast-k : tie.Need-overflow_cast-k
cast-k c = search rules

mul-b : tie.Need-offset_bounds-sandboxes-k
mul-b c = let low = in-row c.before.before in search rules

array-copy-out-b : tie.Need-bounds-sandboxes-k
array-copy-out-b c = let low = in-row c.before.before in search rules

rewind-sandbox-requires : tie.Need-rewind_sandbox-rewound-requires
rewind-sandbox-requires c κs =
    let rewinds = c.before.before.before in
    let row = rewound-row rewinds in
    let s = behind_row row in
    (rewinds.if-q-eq-REWIND.true, (in-row row, (s.args.machine.sandboxes, (unasked s, stands-alone rewinds))))

mul-back : tie.Need-offset_bounds-m-k
mul-back c = let low = in-row (rewound-row (rewinding (rewound-at c))) in search rules

element-set-from-back : tie.Need-bounds-m-k
element-set-from-back c =
    let row = rewound-row (rewinding (rewound-at c)) in
    let low = in-row row in
    let all = four (behind_row row) in
    search rules

same-length-5 : tie.Need-shape_of-pool-then-q-eq-REWIND
same-length-5 c = search rules

same-length-6 : tie.Need-shape_of-table-then-q-eq-REWIND
same-length-6 c = search rules

returns-4 : tie.Need-returns-then-q-eq-REWIND
returns-4 c =
    let did = rewound-at c in
    let rewinds = rewinding did in
    let s = behind_row (rewound-row rewinds) in
    did.rewind_sandbox-rewound.ensures s.args.machine.sandboxes (unasked s) (stands-alone rewinds)

answer-requires : tie.Need-answer-requires
answer-requires c κs =
    let row = row_of c.before in
    (in-row row, (world_in (behind_row row), around row))

enum-known-answer : tie.Need-enum_known-answer
enum-known-answer c = search rules

same-length-7 : tie.Need-shape_of-pool-in-Some
same-length-7 c = search rules

same-length-8 : tie.Need-shape_of-table-in-Some
same-length-8 c = search rules

returns-5 : tie.Need-returns-in-Some
returns-5 c =
    let behind = c.before.before.before in
    let row = tried behind in
    let s = behind_row row in
    let left = with_pool behind.answer.new.pool (world_in s) in
    subst (λ (r : Option Answer). IfSome r (λ a. Stepped (image_in s) (world_in s) s.args.q (record { answer = answered a; world = left }))) c.in-Some.is
    (behind.answer.ensures (world_in s) (around row)).done

enum-told : tie.Need-enum_told-1
enum-told c = search rules

put-together-requires : tie.Need-put_together-all-requires
put-together-requires c κs = search rules

act-requires : tie.Need-act-acted-requires
act-requires c κs =
    let told = c.before.before in
    let row = tried (left-of told) in
    let s = behind_row row in (
      a_call row.before.before.before.before,
      ((left-of told).if-q-eq-REWIND.false, (in-row row, (s.args.machine.sandboxes, stands told))),
    )

mul-after : tie.Need-offset_bounds-m-k-2
mul-after c = let low = in-row (tried (left-of c.before.before.before.before.before.before.before.before.before)) in search rules

element-set-from-after : tie.Need-bounds-m-k-2
element-set-from-after c =
    let row = tried (left-of c.before.before.before.before.before.before.before.before.before) in
    let low = in-row row in
    let all = four (behind_row row) in
    search rules

same-length-9 : tie.Need-shape_of-pool
same-length-9 c = search rules

same-length-10 : tie.Need-shape_of-table
same-length-10 c = search rules

returns-6 : tie.Need-returns
returns-6 c =
    let acted = c.before.before.before.before.before.before in
    let told = acted.before.before.before in
    let s = behind_row (tried (left-of told)) in
    stepped-back (image_in s) s.args.q s.args.machine s.args.pool.now _ s.args.table.now told.put_together-all.result
    told.put_together-all.ensures.0 (pool-stays told) _ (acted.act-acted.ensures s.args.machine.sandboxes (stands told))

pub call_spec : {M : Type 1} → statement M
call_spec =
    tie.close
    (tie.spec
    is-call-requires
    returns
    sound-requires
    same_length
    same-length-2
    returns-2
    cast-if3
    same-length-3
    same-length-4
    returns-3
    cast-k
    mul-b
    array-copy-out-b
    rewind-sandbox-requires
    mul-back
    element-set-from-back
    same-length-5
    same-length-6
    returns-4
    answer-requires
    enum-known-answer
    same-length-7
    same-length-8
    returns-5
    enum-told
    put-together-requires
    act-requires
    mul-after
    element-set-from-after
    same-length-9
    same-length-10
    returns-6)
