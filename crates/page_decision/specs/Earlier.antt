-- What the rows before one of the table have left open.
use Rattle.std.specs.Prelude.{◌≡◌, false, ◌<◌}
use Rattle.interface.specs.declared.answer.Refusal.{Refusal}
use Rattle.interface.specs.declared.request.Request.{Request}
use Rattle.interface.specs.Answers.{refusal_number}
use Rattle.interface.specs.Refusals.{View, applies}

-- no row with a lower number than this one applies
abbrev pub NoneBefore : Refusal → View → Request → Type 0
NoneBefore row v q = (earlier : Refusal) → refusal_number earlier < refusal_number row → applies v q earlier ≡ false
