use Rattle.std.proofs.Common.{sym, ap, ◌∙◌}
use Rattle.ws_lex.specs.Lines.{without_return}
use Rattle.ws_lex.proofs.Runs.{return-yes, return-no}
use Rattle.ws_lex.proofs.line.without_return.Goals as goal

pub returns-then-last-eq13 : goal.returns-then-last-eq13
returns-then-last-eq13 c = sym (ap without_return c.in-Some.ensures.cases.0 ∙ return-yes _ _ c.if-last-eq13.true)

pub returns-else-last-eq13 : goal.returns-else-last-eq13
returns-else-last-eq13 c = c.in-Some.ensures.cases.0 ∙ sym (ap without_return c.in-Some.ensures.cases.0 ∙ return-no _ _ c.if-last-eq13.false)
