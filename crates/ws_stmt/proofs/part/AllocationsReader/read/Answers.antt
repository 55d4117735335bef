use Rattle.std.proofs.Common.{◌≡◌, ◌<◌, ◌≤◌, List, [], ◌∷◌, Option, Some, None, length, refl, sym, ap, ◌∙◌, arith}
use Rattle.ws_lex.specs.declared.token.Sign.TheVariants as sign
use Rattle.ws_lex.specs.declared.token.Token.{Token}
use Rattle.ws_expr.specs.Grammar.{Reads, ReadsSubs}
use Rattle.ws_expr.proofs.Heads as heads
use Rattle.ws_stmt.specs.Statements as statements
use Rattle.ws_stmt.proofs.Parts as parts
use Rattle.ws_stmt.specs.Statements.{ReadsShape, allocation_of}
use Rattle.ws_stmt.proofs.part.AllocationsReader.read.Goals as goal

pub returns-in_default-clause-complete : goal.returns-in_default-clause-complete
returns-in_default-clause-complete c = λ p rest d h. c.in_default.ensures.none d.x d.us d.names

pub returns-in_err-bounds-clause-complete : goal.returns-in_err-bounds-clause-complete
returns-in_err-bounds-clause-complete c = λ p rest d h.
    let n = parts.same_name d.names c.in-Some.ensures.some in
    let r = parts.at (λ (xs : List Token). ReadsShape xs d.bounds rest) (sym n.1) d.shape in
    heads.failing _ c.from_residual.result c.in_err-bounds.field-0.0 c.from_residual.ensures.1 (c.in_err-bounds.ensures.complete d.bounds rest r)

pub returns-clause-sound : goal.returns-clause-sound
returns-clause-sound c = record {
  x = c.in-Some.array.now;
  us = c.in-Some.rest.now;
  bounds = c.in_ok-bounds.bounds;
  names = c.in-Some.ensures.some;
  shape = c.in_ok-bounds.ensures.sound;
  is = c.allocation.ensures ∙ ap (λ (z : List _). allocation_of z c.in_ok-bounds.bounds) c.in_ok-copy.ensures;
}

pub returns-clause-complete : goal.returns-clause-complete
returns-clause-complete c = λ p rest d h.
    let n = parts.same_name d.names c.in-Some.ensures.some in
    let r = parts.at (λ (xs : List Token). ReadsShape xs d.bounds rest) (sym n.1) d.shape in
    let got = c.in_ok-bounds.ensures.complete d.bounds rest r in
    (c.allocation.ensures ∙ parts.allocation_as (c.in_ok-copy.ensures ∙ sym n.0) got.0 ∙ sym d.is, got.1)
