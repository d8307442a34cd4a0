-- A report or a comparison: refused with the number of the table, or its value.
use mathlib.Core.Path.{◌≡◌, sym, ap, ◌∙◌}
use native.Mathlib.Omega.{arith}
use borrow.Author.Tests.{eqb-false}
use Rattle.interface.specs.Requests.{rewind_code}
use Rattle.state.specs.World.{World}
use Rattle.std.specs.Prelude.{Ok}
use Rattle.interface.specs.Answers.{number_of}
use Rattle.step.specs.Step.{number_at}
use Rattle.step.proofs.CallLaws.{stepped-refused, asked}
use Rattle.in_place.specs.InPlace.{Around}
use Rattle.few_rows.proofs.RowLaws.{few-unpaged, look-unpaged, look-stays, no_write}
use Rattle.in_place.proofs.WayLaws.{state, ready-here, ranged-here, few-frames, number-here, looked}
use borrow.Author.Rules.{rules}
use Rattle.in_place.proofs.look.look.Statement.{statement}
use Rattle.in_place.proofs.look.look.Tie as tie

-- ---- what is handed in

-- this world is around it
abbrev Here : tie.Start → World → Type 0
Here s w = Around s.args.image.now s.args.q s.args.b s.args.pool.now s.args.table.now w

-- ---- what was decided

abbrev decided : tie.After-decide → tie.Start
decided c = c.before.before.before.before.before

number : (c : tie.After-decide) (w : World) → Here (decided c) w
    → number_of c.decide.result ≡ number_at (decided c).args.image.now w (decided c).args.q
number c w A = number-here A (number_of c.decide.result) c.decide.ensures

accepted : (c : tie.After-decide) (w : World) → Here (decided c) w → c.decide.result ≡ Ok tt
    → number_at (decided c).args.image.now w (decided c).args.q ≡ 0
accepted c w A e = sym (number c w A) ∙ ap number_of e

-- ---- the needs

cast-images : tie.Need-overflow_cast-images
cast-images c = omega (arith, (state c.requires.1.1.1).images)

decide-requires : tie.Need-decide-requires
decide-requires c κs = let p = c.requires in (look-unpaged c.args.q p.0, (p.1.0, ready-here p.1.1.1 p.1.0))

enum-known-why : tie.Need-enum_known-why
enum-known-why c = search rules

enum_told : tie.Need-enum_told-1
enum_told c = search rules

value-of-requires : tie.Need-value_of-requires
value-of-requires c κs =
    let row = c.requires.1.0 in
    let w = c.requires.1.1.0 in
    let A = c.requires.1.1.1 in
    let parts = asked c.args.image.now w c.args.q (state A) (accepted c.before w A c.in-Ok.is) in
    (row, (parts.fit, (ready-here A row, (ranged-here A, (few-frames A, eqb-false c.args.q.code rewind_code (look-stays c.args.q c.requires.0))))))

returns : tie.Need-returns-in-Err
returns c w A =
    let a = c.args in
    stepped-refused a.image.now w a.q c.in-Err.why (ap number_of (sym c.in-Err.is) ∙ number c.before w A)

returns-2 : tie.Need-returns-in-Ok
returns-2 c w A =
    let q = c.args.q in
    let unpaged = look-unpaged q c.requires.0 in
    looked A (few-unpaged q unpaged) (look-stays q c.requires.0) (accepted c.before.before w A c.in-Ok.is) (no_write q unpaged) c.value_of.result
    c.value_of.ensures

pub look_spec : {M : Type 1} → statement M
look_spec =
    tie.close (tie.spec cast-images decide-requires enum-known-why enum_told value-of-requires returns returns-2)
