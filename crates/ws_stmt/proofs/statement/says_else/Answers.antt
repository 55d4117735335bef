use Rattle.std.proofs.Common.{◌≡◌, ◌<◌, ◌≤◌, List, [], ◌∷◌, Option, Some, None, length, refl, sym, ap, ◌∙◌, arith}
use Rattle.ws_lex.specs.declared.token.Sign.TheVariants as sign
use Rattle.ws_lex.specs.declared.token.Token.{Token}
use Rattle.ws_expr.specs.Grammar.{Reads, ReadsSubs}
use Rattle.ws_expr.proofs.Heads as heads
use Rattle.ws_stmt.specs.Statements as statements
use Rattle.ws_stmt.proofs.Parts as parts
use Rattle.ws_stmt.proofs.Declarations as decls
use Rattle.ws_stmt.proofs.Forms as forms
use Rattle.ws_stmt.specs.declared.form.Form.TheVariants as form
use Rattle.ws_tree.specs.declared.stmt.Body.TheVariants as body
use Rattle.ws_expr.specs.declared.reading.Reading.{Reading}
use Rattle.ws_expr.specs.declared.reading.Gathered.{Gathered}
use Rattle.ws_stmt.specs.Statements.{said, Lists}
use Rattle.ws_stmt.proofs.statement.says_else.Goals as goal

pub returns-then-is_done-clause-sound : goal.returns-then-is_done-clause-sound
returns-then-is_done-clause-sound c = forms.otherwise_by c.said.ensures (decls.nothing _ (sym c.is_done.ensures ∙ c.if-is_done.true))

pub returns-then-is_done-clause-complete : goal.returns-then-is_done-clause-complete
returns-then-is_done-clause-complete c = λ s d. c.said.ensures ∙ forms.else_done (decls.nothing _ (sym c.is_done.ensures ∙ c.if-is_done.true)) d

pub returns-then-is_done-2-clause-sound : goal.returns-then-is_done-2-clause-sound
returns-then-is_done-2-clause-sound c = forms.else_by c.opens_else.ensures (decls.nothing _ (sym c.is_done-2.ensures ∙ c.if-is_done-2.true)) c.in_ok-mask.ensures.sound

pub returns-in_err-mask-clause-complete : goal.returns-in_err-mask-clause-complete
returns-in_err-mask-clause-complete c = λ s d.
    let p = forms.else_parens (decls.something _ (sym c.is_done.ensures ∙ c.if-is_done.false)) d in
    heads.failing _ c.from_residual.result c.in_err-mask.field-0.0 c.from_residual.ensures.1 (c.in_err-mask.ensures.complete p.m [] p.parens)

pub returns-then-is_done-2-clause-complete : goal.returns-then-is_done-2-clause-complete
returns-then-is_done-2-clause-complete c = λ s d.
    let p = forms.else_parens (decls.something _ (sym c.is_done.ensures ∙ c.if-is_done.false)) d in
    let g = c.in_ok-mask.ensures.complete p.m [] p.parens in
    c.opens_else.ensures ∙ forms.else_as g.0 ∙ p.is

pub returns-else-is_done-2-clause-complete : goal.returns-else-is_done-2-clause-complete
returns-else-is_done-2-clause-complete c = λ s d.
    let p = forms.else_parens (decls.something _ (sym c.is_done.ensures ∙ c.if-is_done.false)) d in
    let g = c.in_ok-mask.ensures.complete p.m [] p.parens in
    decls.something _ (sym c.is_done-2.ensures ∙ c.if-is_done-2.false) g.1
