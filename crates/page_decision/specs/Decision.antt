-- What is decided of a request: why it is refused, or the sandbox's areas afterwards.
use Rattle.std.specs.Prelude.{◌≡◌, Result, Ok, Err, IfOk, eqb}
use Rattle.basics.specs.Choice.{◌when◌else◌}
use Rattle.interface.specs.declared.answer.Refusal.{Refusal}
use Rattle.interface.specs.declared.request.Request.{Request}
use Rattle.interface.specs.Answers.{number_of}
use Rattle.interface.specs.Refusals.{View, refusal}
use Rattle.areas.specs.declared.area.Areas.{Areas}
use Rattle.areas.specs.Areas.{empty}
use Rattle.records.specs.declared.Record.{Record}
use Rattle.rules.specs.After.{present_after}

-- the areas afterwards: those that result where the request is accepted, none where it is refused
abbrev pub areas_left : View → Request → Record → Areas
areas_left v q b = present_after q b when eqb (refusal v q) 0 else empty

-- the areas that are handed on: none with a refusal
abbrev pub areas_of : Result Areas Refusal → Areas
areas_of (Ok areas) = areas
areas_of (Err why) = empty

-- document 01's number of what is decided is that of the table; accepted, it has the areas that result; and what it hands on is `areas_left`, accepted or not
pub record Decided (v : View) (q : Request) (b : Record) (r : Result Areas Refusal) : Type 0 where
  pub number : number_of r ≡ refusal v q
  pub areas : IfOk r (λ a. a ≡ present_after q b)
  pub left : areas_of r ≡ areas_left v q b
