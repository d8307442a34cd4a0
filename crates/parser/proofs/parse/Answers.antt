-- A line says a call where it says a request: `line-said`.
use Rattle.std.proofs.Common.{ap, sym, ◌∙◌}
use Rattle.parser.proofs.ParseLaws.{as_line, line-said}
use Rattle.parser.proofs.parse.Goals as goal

pub returns-in-Some : goal.returns-in-Some
returns-in-Some c = ap as_line (sym c.in-Some.is ∙ c.request_in.ensures) ∙ line-said c.args.line.now

pub returns-in-None : goal.returns-in-None
returns-in-None c = ap as_line (sym c.in-None.is ∙ c.request_in.ensures) ∙ line-said c.args.line.now
