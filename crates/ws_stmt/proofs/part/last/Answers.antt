use Rattle.std.proofs.Common.{◌≡◌, ◌<◌, ◌≤◌, List, [], ◌∷◌, Some, None, length, refl, sym, ap, ◌∙◌, arith}
use Rattle.ws_lex.specs.declared.token.Sign.TheVariants as sign
use Rattle.ws_lex.specs.declared.token.Token.{Token}
use Rattle.ws_expr.specs.Grammar.{Reads, ReadsSubs}
use Rattle.ws_expr.proofs.Heads as heads
use Rattle.ws_stmt.specs.Statements as statements
use Rattle.ws_stmt.proofs.Parts as parts
use Rattle.ws_stmt.specs.Statements.ReadsLast.{omitted, last}
use Rattle.ws_stmt.proofs.part.last.Goals as goal

pub returns-in_err-e-in-Some-clause-complete : goal.returns-in_err-e-in-Some-clause-complete
returns-in_err-e-in-Some-clause-complete c = λ o rest d s h.
    let g = parts.last_some c.in-Some.ensures.some h d in
    heads.failing _ c.from_residual.result c.in_err-e-in-Some.field-0.0 c.from_residual.ensures.1 (c.in_err-e-in-Some.ensures.complete g.e rest g.read s)

pub returns-in-None-clause-sound : goal.returns-in-None-clause-sound
returns-in-None-clause-sound c = omitted

pub returns-in-None-clause-complete : goal.returns-in-None-clause-complete
returns-in-None-clause-complete c = λ o rest d s h. parts.last_none c.in-None.ensures.none d

pub returns-in_ok-e-in-Some-clause-sound : goal.returns-in_ok-e-in-Some-clause-sound
returns-in_ok-e-in-Some-clause-sound c = last c.in-Some.ensures.some c.in_ok-e-in-Some.ensures.sound

pub returns-in_ok-e-in-Some-clause-complete : goal.returns-in_ok-e-in-Some-clause-complete
returns-in_ok-e-in-Some-clause-complete c = λ o rest d s h.
    let g = parts.last_some c.in-Some.ensures.some h d in
    let got = c.in_ok-e-in-Some.ensures.complete g.e rest g.read s in
    (ap Some got.0 ∙ g.is, got.1)
