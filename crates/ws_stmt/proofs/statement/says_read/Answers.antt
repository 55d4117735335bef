use Rattle.std.proofs.Common.{◌≡◌, ◌<◌, ◌≤◌, List, [], ◌∷◌, Option, Some, None, length, refl, sym, ap, ◌∙◌, arith}
use Rattle.ws_lex.specs.declared.token.Sign.TheVariants as sign
use Rattle.ws_lex.specs.declared.token.Token.{Token}
use Rattle.ws_expr.specs.Grammar.{Reads, ReadsSubs}
use Rattle.ws_expr.proofs.Heads as heads
use Rattle.ws_stmt.specs.Statements as statements
use Rattle.ws_stmt.proofs.Parts as parts
use Rattle.ws_stmt.proofs.Declarations as decls
use Rattle.ws_stmt.proofs.Forms as forms
use Rattle.ws_stmt.specs.declared.form.Form.TheVariants as form
use Rattle.ws_tree.specs.declared.stmt.Body.TheVariants as body
use Rattle.ws_expr.specs.declared.reading.Reading.{Reading}
use Rattle.ws_expr.specs.declared.reading.Gathered.{Gathered}
use Rattle.ws_stmt.specs.Statements.{said, Lists}
use Rattle.ws_tree.specs.declared.expr.Expr.{Expr}
use Rattle.ws_stmt.specs.Statements.{Designates}
use Rattle.ws_stmt.proofs.statement.says_read.Goals as goal

pub returns-then-is_done-clause-sound : goal.returns-then-is_done-clause-sound
returns-then-is_done-clause-sound c = record {
  us = c.in_ok-rest.rest.now;
  es = c.in_ok-items.items;
  format = c.in_ok-rest.ensures.sound;
  lists = parts.along (λ (xs : List Token). Lists Designates c.in_ok-rest.rest.now c.in_ok-items.items xs) (decls.nothing _ (sym c.is_done.ensures ∙ c.if-is_done.true)) c.in_ok-items.ensures.sound;
  is = c.reads.ensures;
}

pub returns-then-is_done-clause-complete : goal.returns-then-is_done-clause-complete
returns-then-is_done-clause-complete c = λ s d.
    let p = c.in_ok-rest.ensures.complete d.us d.format in
    let l = parts.at (λ (xs : List Token). Lists Designates xs d.es []) p d.lists in
    let g = c.in_ok-items.ensures.complete d.es [] l (parts.list_end _) in
    c.reads.ensures ∙ ap (λ (z : Gathered Expr). said (form.Acts (body.Read z.trees)) z.odd) g.0 ∙ sym d.is

pub returns-else-is_done-clause-complete : goal.returns-else-is_done-clause-complete
returns-else-is_done-clause-complete c = λ s d.
    let p = c.in_ok-rest.ensures.complete d.us d.format in
    let l = parts.at (λ (xs : List Token). Lists Designates xs d.es []) p d.lists in
    let g = c.in_ok-items.ensures.complete d.es [] l (parts.list_end _) in
    (decls.something _ (sym c.is_done.ensures ∙ c.if-is_done.false)) g.1
