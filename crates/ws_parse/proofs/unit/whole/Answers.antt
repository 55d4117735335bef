use Rattle.std.proofs.Common.{sym, ◌∙◌}
use Rattle.ws_parse.proofs.Walks.{not_over, over_whole}
use Rattle.ws_parse.proofs.unit.whole.Goals as goal

pub returns-then-not-is_over : goal.returns-then-not-is_over
returns-then-not-is_over c = not_over c.args.state (sym c.is_over.ensures ∙ c.if-not-is_over.true)

pub returns : goal.returns
returns c = over_whole c.args.state (sym c.is_over.ensures ∙ c.if-not-is_over.false) c.in_ok-name_of.ensures
