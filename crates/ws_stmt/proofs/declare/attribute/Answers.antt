use Rattle.std.proofs.Common.{◌≡◌, ◌<◌, ◌≤◌, List, [], ◌∷◌, Option, Some, None, length, refl, sym, ap, ◌∙◌, arith}
use Rattle.ws_lex.specs.declared.token.Sign.TheVariants as sign
use Rattle.ws_lex.specs.declared.token.Token.{Token}
use Rattle.ws_expr.specs.Grammar.{Reads, ReadsSubs}
use Rattle.ws_expr.proofs.Heads as heads
use Rattle.ws_stmt.specs.Statements as statements
use Rattle.ws_stmt.proofs.Parts as parts
use Rattle.ws_stmt.proofs.Declarations as decls
use Rattle.ws_stmt.specs.declared.form.Attribute.TheVariants as attribute
use Rattle.ws_stmt.specs.Statements.ReadsAttribute.{parameter, allocatable, dimension}
use Rattle.ws_stmt.proofs.declare.attribute.Goals as goal

pub returns-in_err-after-in-Some-Dimension-clause-complete : goal.returns-in_err-after-in-Some-Dimension-clause-complete
returns-in_err-after-in-Some-Dimension-clause-complete c = λ a rest d.
    let h : statements.attribute_of c.in-Some.first.now.what ≡ Some attribute.Dimension = cc in
    let s = decls.dimension_at (c.in-Some.first.now, h, c.in-Some.ensures.cases.0) d in
    heads.failing _ c.from_residual.result c.in_err-after-in-Some-Dimension.field-0.0 c.from_residual.ensures.1 (c.in_err-after-in-Some-Dimension.ensures.complete s.bounds rest s.shape)

pub returns-in-Some-Parameter-clause-sound : goal.returns-in-Some-Parameter-clause-sound
returns-in-Some-Parameter-clause-sound c =
    let h : statements.attribute_of c.in-Some.first.now.what ≡ Some attribute.Parameter = cc in
    parameter (c.in-Some.first.now, h, c.in-Some.ensures.cases.0)

pub returns-in-Some-Allocatable-clause-sound : goal.returns-in-Some-Allocatable-clause-sound
returns-in-Some-Allocatable-clause-sound c =
    let h : statements.attribute_of c.in-Some.first.now.what ≡ Some attribute.Allocatable = cc in
    allocatable (c.in-Some.first.now, h, c.in-Some.ensures.cases.0)

pub returns-in_ok-after-in-Some-Dimension-clause-sound : goal.returns-in_ok-after-in-Some-Dimension-clause-sound
returns-in_ok-after-in-Some-Dimension-clause-sound c =
    let h : statements.attribute_of c.in-Some.first.now.what ≡ Some attribute.Dimension = cc in
    dimension (c.in-Some.first.now, h, c.in-Some.ensures.cases.0) c.in_ok-after-in-Some-Dimension.ensures.sound

pub returns-in_ok-after-in-Some-Dimension-clause-complete : goal.returns-in_ok-after-in-Some-Dimension-clause-complete
returns-in_ok-after-in-Some-Dimension-clause-complete c = λ a rest d.
    let h : statements.attribute_of c.in-Some.first.now.what ≡ Some attribute.Dimension = cc in
    let s = decls.dimension_at (c.in-Some.first.now, h, c.in-Some.ensures.cases.0) d in
    let got = c.in_ok-after-in-Some-Dimension.ensures.complete s.bounds rest s.shape in
    (s.is, got.1)
