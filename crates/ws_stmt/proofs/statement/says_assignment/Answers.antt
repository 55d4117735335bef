use Rattle.std.proofs.Common.{◌≡◌, ◌<◌, ◌≤◌, List, [], ◌∷◌, Option, Some, None, length, refl, sym, ap, ◌∙◌, arith}
use Rattle.ws_lex.specs.declared.token.Sign.TheVariants as sign
use Rattle.ws_lex.specs.declared.token.Token.{Token}
use Rattle.ws_expr.specs.Grammar.{Reads, ReadsSubs}
use Rattle.ws_expr.proofs.Heads as heads
use Rattle.ws_stmt.specs.Statements as statements
use Rattle.ws_stmt.proofs.Parts as parts
use Rattle.ws_stmt.proofs.Declarations as decls
use Rattle.ws_stmt.proofs.Forms as forms
use Rattle.ws_stmt.specs.declared.form.Form.TheVariants as form
use Rattle.ws_tree.specs.declared.stmt.Body.TheVariants as body
use Rattle.ws_expr.specs.declared.reading.Reading.{Reading}
use Rattle.ws_expr.specs.declared.reading.Gathered.{Gathered}
use Rattle.ws_stmt.specs.Statements.{said, Lists}
use Rattle.ws_tree.specs.declared.stmt.Body.{Body}
use Rattle.ws_stmt.proofs.statement.says_assignment.Goals as goal

pub returns-clause-sound : goal.returns-clause-sound
returns-clause-sound c = record { b = c.in_ok-body.body; assigns = c.in_ok-body.ensures.sound; is = c.acts.ensures }

pub returns-clause-complete : goal.returns-clause-complete
returns-clause-complete c = λ s d.
    let g = c.in_ok-body.ensures.complete d.b d.assigns in
    c.acts.ensures ∙ ap (λ (z : Reading Body). said (form.Acts z.tree) z.odd) g ∙ sym d.is

pub returns-in_err-body-clause-complete : goal.returns-in_err-body-clause-complete
returns-in_err-body-clause-complete c = λ s d.
    heads.failing _ c.from_residual.result c.in_err-body.field-0.0 c.from_residual.ensures.1 (c.in_err-body.ensures.complete d.b d.assigns)
