use Rattle.std.proofs.Common.{◌≡◌, ◌<◌, ◌≤◌, List, [], ◌∷◌, Option, Some, None, length, refl, sym, ap, ◌∙◌, arith}
use Rattle.ws_lex.specs.declared.token.Sign.TheVariants as sign
use Rattle.ws_lex.specs.declared.token.Token.{Token}
use Rattle.ws_expr.specs.Grammar.{Reads, ReadsSubs}
use Rattle.ws_expr.proofs.Heads as heads
use Rattle.ws_stmt.specs.Statements as statements
use Rattle.ws_stmt.proofs.Parts as parts
use Rattle.ws_stmt.proofs.Declarations as decls
use Rattle.ws_stmt.proofs.Forms as forms
use Rattle.ws_stmt.specs.declared.form.Form.TheVariants as form
use Rattle.ws_tree.specs.declared.stmt.Body.TheVariants as body
use Rattle.ws_expr.specs.declared.reading.Reading.{Reading}
use Rattle.ws_expr.specs.declared.reading.Gathered.{Gathered}
use Rattle.ws_stmt.specs.Statements.{said, Lists}
use Rattle.ws_tree.specs.declared.stmt.Index.{Index}
use Rattle.ws_stmt.specs.Statements.{ReadsIndex}
use Rattle.ws_stmt.proofs.statement.says_do.Goals as goal

pub returns-then-is_done-clause-sound : goal.returns-then-is_done-clause-sound
returns-then-is_done-clause-sound c = record { i = c.in_ok-variable.variable; index = parts.along (λ (xs : List Token). ReadsIndex sign.Comma c.args.tokens.now c.in_ok-variable.variable xs) (decls.nothing _ (sym c.is_done.ensures ∙ c.if-is_done.true)) c.in_ok-variable.ensures.sound; is = c.opens_do.ensures }

pub returns-then-is_done-clause-complete : goal.returns-then-is_done-clause-complete
returns-then-is_done-clause-complete c = λ s d.
    let g = c.in_ok-variable.ensures.complete d.i [] d.index refl (parts.lacks_nothing sign.Comma) in
    c.opens_do.ensures ∙ ap (λ (z : Reading Index). said (form.OpensDo z.tree) z.odd) g.0 ∙ sym d.is

pub returns-in_err-variable-clause-complete : goal.returns-in_err-variable-clause-complete
returns-in_err-variable-clause-complete c = λ s d.
    heads.failing _ c.from_residual.result c.in_err-variable.field-0.0 c.from_residual.ensures.1 (c.in_err-variable.ensures.complete d.i [] d.index refl (parts.lacks_nothing sign.Comma))

pub returns-else-is_done-clause-complete : goal.returns-else-is_done-clause-complete
returns-else-is_done-clause-complete c = λ s d.
    let g = c.in_ok-variable.ensures.complete d.i [] d.index refl (parts.lacks_nothing sign.Comma) in
    (decls.something _ (sym c.is_done.ensures ∙ c.if-is_done.false)) g.1
