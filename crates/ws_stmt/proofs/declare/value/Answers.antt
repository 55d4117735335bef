use Rattle.std.proofs.Common.{◌≡◌, ◌<◌, ◌≤◌, List, [], ◌∷◌, Option, Some, None, length, refl, sym, ap, ◌∙◌, arith}
use Rattle.ws_lex.specs.declared.token.Sign.TheVariants as sign
use Rattle.ws_lex.specs.declared.token.Token.{Token}
use Rattle.ws_expr.specs.Grammar.{Reads, ReadsSubs}
use Rattle.ws_expr.proofs.Heads as heads
use Rattle.ws_stmt.specs.Statements as statements
use Rattle.ws_stmt.proofs.Parts as parts
use Rattle.ws_stmt.proofs.Declarations as decls
use Rattle.ws_stmt.proofs.declare.value.Goals as goal

pub returns-then-not-constant-clause-sound : goal.returns-then-not-constant-clause-sound
returns-then-not-constant-clause-sound c = decls.value_none c.if-not-constant.true

pub returns-in_err-rest-clause-complete : goal.returns-in_err-rest-clause-complete
returns-in_err-rest-clause-complete c = λ o rest d s.
    let v = decls.value_some c.if-not-constant.false d in
    heads.failing _ c.from_residual.result c.in_err-rest.field-0.0 c.from_residual.ensures.1 (c.in_err-rest.ensures.complete v.us v.becomes)

pub returns-in_err-e-clause-complete : goal.returns-in_err-e-clause-complete
returns-in_err-e-clause-complete c = λ o rest d s.
    let v = decls.value_some c.if-not-constant.false d in
    let g = c.in_ok-rest.ensures.complete v.us v.becomes in
    heads.failing _ c.from_residual-in_err-e.result c.in_err-e.field-0.0 c.from_residual-in_err-e.ensures.1 (c.in_err-e.ensures.complete v.e rest (parts.at (λ (xs : List Token). Reads 8 xs v.e rest) g v.read) s)

pub returns-clause-sound : goal.returns-clause-sound
returns-clause-sound c = decls.value_by c.if-not-constant.false c.in_ok-rest.ensures.sound c.in_ok-e.ensures.sound

pub returns-clause-complete : goal.returns-clause-complete
returns-clause-complete c = λ o rest d s.
    let v = decls.value_some c.if-not-constant.false d in
    let g = c.in_ok-rest.ensures.complete v.us v.becomes in
    let got = c.in_ok-e.ensures.complete v.e rest (parts.at (λ (xs : List Token). Reads 8 xs v.e rest) g v.read) s in
    (ap Some got.0 ∙ v.is, got.1)
