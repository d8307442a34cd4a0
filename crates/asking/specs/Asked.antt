-- What a line asks of a state of which it is known whether it is sound.
use Rattle.std.specs.Prelude.{Bool, not, ltb, Result, Ok, Err}
use Rattle.basics.specs.Choice.{◌when◌else◌}
use Rattle.interface.specs.declared.answer.Refusal.{Refusal}
use Rattle.interface.specs.declared.answer.Refusal.TheVariants.{Malformed, NoSuchCall, Unsound, NotOpen}
use Rattle.interface.specs.declared.request.Request.{Request}
use Rattle.interface.specs.Numbers.{sandbox_count}
use Rattle.interface.specs.Requests.{is_call}
use Rattle.lines.specs.declared.Line.{Line}
use Rattle.lines.specs.declared.Line.TheVariants.{Call as LineCall, Malformed as LineMalformed}

-- "When several apply, the lowest number is answered", of those that need no look at a sandbox: 1, "line malformed (player only)"; 2, a code of no call;
-- 3, "lent length wrong, or state unsound"; 4, "sandbox above 3". Else the call is to be decided.
unfoldable pub asked_by : Bool → Line → Result Request Refusal
asked_by sound LineMalformed = Err Malformed
asked_by sound (LineCall q) =
    Err NoSuchCall when not (is_call q) else
    Err Unsound when not sound else
    Err NotOpen when not (ltb q.sandbox sandbox_count) else
    Ok q
