use Rattle.std.proofs.Common.{inl, inr, subst}
use Rattle.ws_parse.specs.declared.walk.ParseEnd.{ParseEnd}
use Rattle.ws_parse.specs.Blocks.{IsParseEnd}
use Rattle.ws_driver.proofs.front.tree_of.Goals as goal

pub returns-in-Err-Refused-clause-err : goal.returns-in-Err-Refused-clause-err
returns-in-Err-Refused-clause-err c =
    let P : ParseEnd → Type 0 = λ e. IsParseEnd c.in-Ok.tokens e in
    let h = subst P c.in-Err-Refused.field-0-is c.in-Err-Refused.ensures.refused in
    inl (h.0, inr (c.in-Ok.tokens, c.in-Ok.ensures.ok, h.1))
