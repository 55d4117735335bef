use Rattle.std.proofs.Common.{◌≡◌, ◌<◌, ◌≤◌, List, [], ◌∷◌, Option, Some, None, length, refl, sym, ap, ◌∙◌, arith}
use Rattle.ws_lex.specs.declared.token.Sign.TheVariants as sign
use Rattle.ws_lex.specs.declared.token.Token.{Token}
use Rattle.ws_expr.specs.Grammar.{Reads, ReadsSubs}
use Rattle.ws_expr.proofs.Heads as heads
use Rattle.ws_stmt.specs.Statements as statements
use Rattle.ws_stmt.proofs.Parts as parts
use Rattle.ws_stmt.proofs.Declarations as decls
use Rattle.ws_stmt.proofs.Forms as forms
use Rattle.ws_stmt.specs.declared.form.Form.TheVariants as form
use Rattle.ws_tree.specs.declared.stmt.Body.TheVariants as body
use Rattle.ws_expr.specs.declared.reading.Reading.{Reading}
use Rattle.ws_expr.specs.declared.reading.Gathered.{Gathered}
use Rattle.ws_stmt.specs.Statements.{said, Lists}
use Rattle.ws_stmt.proofs.statement.says_forall.Goals as goal

pub returns-then-is_done-clause-sound : goal.returns-then-is_done-clause-sound
returns-then-is_done-clause-sound c = forms.spanning_by c.opens_forall.ensures (decls.nothing _ (sym c.is_done.ensures ∙ c.if-is_done.true)) c.in_ok-indexes.ensures.sound

pub returns-then-is_done-clause-complete : goal.returns-then-is_done-clause-complete
returns-then-is_done-clause-complete c = λ s d. c.opens_forall.ensures ∙ forms.forall_spanning (λ is m rest p. c.in_ok-indexes.ensures.complete is m rest p) (decls.nothing _ (sym c.is_done.ensures ∙ c.if-is_done.true)) d

pub returns-clause-sound : goal.returns-clause-sound
returns-clause-sound c = forms.over_by c.in_ok-over.ensures c.in_ok-indexes.ensures.sound c.in_ok-body.ensures.sound

pub returns-clause-complete : goal.returns-clause-complete
returns-clause-complete c = λ s d.
    let m = forms.forall_over (λ is m rest p. c.in_ok-indexes.ensures.complete is m rest p) (decls.something _ (sym c.is_done.ensures ∙ c.if-is_done.false)) d in
    let g = c.in_ok-body.ensures.complete m.b m.assigns in
    c.in_ok-over.ensures ∙ forms.over_as c.args.line c.in_ok-indexes.indexes c.in_ok-indexes.mask g ∙ m.is

pub returns-in_err-indexes-clause-complete : goal.returns-in_err-indexes-clause-complete
returns-in_err-indexes-clause-complete c = λ s d.
    let p = forms.forall_header d in
    heads.failing _ c.from_residual.result c.in_err-indexes.field-0.0 c.from_residual.ensures.1 (c.in_err-indexes.ensures.complete p.is p.m p.us p.header)

pub returns-in_err-body-clause-complete : goal.returns-in_err-body-clause-complete
returns-in_err-body-clause-complete c = λ s d.
    let m = forms.forall_over (λ is m rest p. c.in_ok-indexes.ensures.complete is m rest p) (decls.something _ (sym c.is_done.ensures ∙ c.if-is_done.false)) d in
    heads.failing _ c.from_residual-in_err-body.result c.in_err-body.field-0.0 c.from_residual-in_err-body.ensures.1 (c.in_err-body.ensures.complete m.b m.assigns)
