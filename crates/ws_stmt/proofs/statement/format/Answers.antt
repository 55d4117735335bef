use Rattle.std.proofs.Common.{◌≡◌, ◌<◌, ◌≤◌, List, [], ◌∷◌, Option, Some, None, length, refl, sym, ap, ◌∙◌, arith}
use Rattle.ws_lex.specs.declared.token.Sign.TheVariants as sign
use Rattle.ws_lex.specs.declared.token.Token.{Token}
use Rattle.ws_expr.specs.Grammar.{Reads, ReadsSubs}
use Rattle.ws_expr.proofs.Heads as heads
use Rattle.ws_stmt.specs.Statements as statements
use Rattle.ws_stmt.proofs.Parts as parts
use Rattle.ws_stmt.proofs.Declarations as decls
use Rattle.ws_stmt.proofs.Forms as forms
use Rattle.ws_stmt.specs.declared.form.Form.TheVariants as form
use Rattle.ws_tree.specs.declared.stmt.Body.TheVariants as body
use Rattle.ws_expr.specs.declared.reading.Reading.{Reading}
use Rattle.ws_expr.specs.declared.reading.Gathered.{Gathered}
use Rattle.ws_stmt.specs.Statements.{said, Lists}
use Rattle.ws_stmt.specs.Statements.ReadsFormat.{standard, standard_unit}
use Rattle.ws_stmt.proofs.statement.format.Goals as goal

pub returns-in_err-rest-in-None-clause-complete : goal.returns-in_err-rest-in-None-clause-complete
returns-in_err-rest-in-None-clause-complete c = λ rest d.
    let p = forms.format_plain c.in-None.ensures.none d in
    heads.failing _ c.from_residual.result c.in_err-rest-in-None.field-0.0 c.from_residual.ensures.1 (c.in_err-rest-in-None.ensures.complete p.us p.star)

pub returns-in_err-rest-in-Some-clause-complete : goal.returns-in_err-rest-in-Some-clause-complete
returns-in_err-rest-in-Some-clause-complete c = λ rest d.
    let u = forms.format_unit c.in-Some.ensures.some d in
    heads.failing _ c.from_residual-in_err-rest-in-Some.result c.in_err-rest-in-Some.field-0.0 c.from_residual-in_err-rest-in-Some.ensures.1 (c.in_err-rest-in-Some.ensures.complete u.vs u.star)

pub returns-in_err-rest-in-Some-2-clause-complete : goal.returns-in_err-rest-in-Some-2-clause-complete
returns-in_err-rest-in-Some-2-clause-complete c = λ rest d.
    let u = forms.format_unit c.in-Some.ensures.some d in
    let g = c.in_ok-rest-in-Some.ensures.complete u.vs u.star in
    heads.failing _ c.from_residual-in_err-rest-in-Some-2.result c.in_err-rest-in-Some-2.field-0.0 c.from_residual-in_err-rest-in-Some-2.ensures.1 (c.in_err-rest-in-Some-2.ensures.complete u.ws (heads.follows_at g u.comma))

pub returns-in_err-rest-in-Some-3-clause-complete : goal.returns-in_err-rest-in-Some-3-clause-complete
returns-in_err-rest-in-Some-3-clause-complete c = λ rest d.
    let u = forms.format_unit c.in-Some.ensures.some d in
    let g = c.in_ok-rest-in-Some.ensures.complete u.vs u.star in
    let h = c.in_ok-rest-in-Some-2.ensures.complete u.ws (heads.follows_at g u.comma) in
    heads.failing _ c.from_residual-in_err-rest-in-Some-3.result c.in_err-rest-in-Some-3.field-0.0 c.from_residual-in_err-rest-in-Some-3.ensures.1 (c.in_err-rest-in-Some-3.ensures.complete u.xs (heads.follows_at h u.other))

pub returns-in_ok-rest-in-None-clause-sound : goal.returns-in_ok-rest-in-None-clause-sound
returns-in_ok-rest-in-None-clause-sound c = heads.if_ok _ (λ r f. standard c.in_ok-rest-in-None.ensures.sound f) c.expect-in-None.ensures.sound

pub returns-in_ok-rest-in-Some-3-clause-sound : goal.returns-in_ok-rest-in-Some-3-clause-sound
returns-in_ok-rest-in-Some-3-clause-sound c = heads.if_ok _ (λ r f. standard_unit c.in-Some.ensures.some c.in_ok-rest-in-Some.ensures.sound c.in_ok-rest-in-Some-2.ensures.sound c.in_ok-rest-in-Some-3.ensures.sound f) c.expect-in-Some-4.ensures.sound
