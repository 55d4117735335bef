use Rattle.std.proofs.Common.{◌≡◌, ◌<◌, ◌≤◌, List, [], ◌∷◌, Option, Some, None, length, refl, sym, ap, ◌∙◌, arith}
use Rattle.ws_lex.specs.declared.token.Sign.TheVariants as sign
use Rattle.ws_lex.specs.declared.token.Token.{Token}
use Rattle.ws_expr.specs.Grammar.{Reads, ReadsSubs}
use Rattle.ws_expr.proofs.Heads as heads
use Rattle.ws_stmt.specs.Statements as statements
use Rattle.ws_stmt.proofs.Parts as parts
use Rattle.ws_stmt.proofs.Declarations as decls
use Rattle.ws_stmt.proofs.Forms as forms
use Rattle.ws_stmt.specs.declared.form.Form.TheVariants as form
use Rattle.ws_tree.specs.declared.stmt.Body.TheVariants as body
use Rattle.ws_expr.specs.declared.reading.Reading.{Reading}
use Rattle.ws_expr.specs.declared.reading.Gathered.{Gathered}
use Rattle.ws_stmt.specs.Statements.{said, Lists}
use Rattle.ws_stmt.proofs.statement.says_where.Goals as goal

pub returns-then-is_done-clause-sound : goal.returns-then-is_done-clause-sound
returns-then-is_done-clause-sound c = forms.masking_by c.opens_where.ensures (decls.nothing _ (sym c.is_done.ensures ∙ c.if-is_done.true)) c.in_ok-mask.ensures.sound

pub returns-then-is_done-clause-complete : goal.returns-then-is_done-clause-complete
returns-then-is_done-clause-complete c = λ s d. c.opens_where.ensures ∙ forms.where_masking (λ e rest p. c.in_ok-mask.ensures.complete e rest p) (decls.nothing _ (sym c.is_done.ensures ∙ c.if-is_done.true)) d

pub returns-clause-sound : goal.returns-clause-sound
returns-clause-sound c = forms.masked_by c.in_ok-masked.ensures c.in_ok-mask.ensures.sound c.in_ok-body.ensures.sound

pub returns-clause-complete : goal.returns-clause-complete
returns-clause-complete c = λ s d.
    let m = forms.where_masked (λ e rest p. c.in_ok-mask.ensures.complete e rest p) (decls.something _ (sym c.is_done.ensures ∙ c.if-is_done.false)) d in
    let g = c.in_ok-body.ensures.complete m.b m.assigns in
    c.in_ok-masked.ensures ∙ forms.masked_as c.args.line c.in_ok-mask.mask g ∙ m.is

pub returns-in_err-mask-clause-complete : goal.returns-in_err-mask-clause-complete
returns-in_err-mask-clause-complete c = λ s d.
    let p = forms.where_parens d in
    heads.failing _ c.from_residual.result c.in_err-mask.field-0.0 c.from_residual.ensures.1 (c.in_err-mask.ensures.complete p.m p.us p.parens)

pub returns-in_err-body-clause-complete : goal.returns-in_err-body-clause-complete
returns-in_err-body-clause-complete c = λ s d.
    let m = forms.where_masked (λ e rest p. c.in_ok-mask.ensures.complete e rest p) (decls.something _ (sym c.is_done.ensures ∙ c.if-is_done.false)) d in
    heads.failing _ c.from_residual-in_err-body.result c.in_err-body.field-0.0 c.from_residual-in_err-body.ensures.1 (c.in_err-body.ensures.complete m.b m.assigns)
