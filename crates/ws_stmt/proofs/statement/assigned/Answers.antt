use Rattle.std.proofs.Common.{◌≡◌, ◌<◌, ◌≤◌, List, [], ◌∷◌, Option, Some, None, length, refl, sym, ap, ◌∙◌, arith}
use Rattle.ws_lex.specs.declared.token.Sign.TheVariants as sign
use Rattle.ws_lex.specs.declared.token.Token.{Token}
use Rattle.ws_expr.specs.Grammar.{Reads, ReadsSubs}
use Rattle.ws_expr.proofs.Heads as heads
use Rattle.ws_stmt.specs.Statements as statements
use Rattle.ws_stmt.proofs.Parts as parts
use Rattle.ws_stmt.proofs.Declarations as decls
use Rattle.ws_stmt.proofs.Forms as forms
use Rattle.ws_stmt.specs.declared.form.Form.TheVariants as form
use Rattle.ws_tree.specs.declared.stmt.Body.TheVariants as body
use Rattle.ws_expr.specs.declared.reading.Reading.{Reading}
use Rattle.ws_expr.specs.declared.reading.Gathered.{Gathered}
use Rattle.ws_stmt.specs.Statements.{said, Lists}
use Rattle.ws_stmt.proofs.statement.assigned.Goals as goal

pub returns-in_err-rest-clause-complete : goal.returns-in_err-rest-clause-complete
returns-in_err-rest-clause-complete c = λ b d.
    let l = parts.lacks_other (λ e. parts.open_becomes e) d.becomes in
    let p = c.in_ok-left.ensures.complete d.left d.us d.designates l in
    heads.failing _ c.from_residual-in_err-rest.result c.in_err-rest.field-0.0 c.from_residual-in_err-rest.ensures.1 (c.in_err-rest.ensures.complete d.vs (heads.follows_at p.1 d.becomes))

pub returns-clause-sound : goal.returns-clause-sound
returns-clause-sound c = record {
  us = c.in_ok-left.rest.now;
  vs = c.in_ok-rest.rest.now;
  left = c.in_ok-left.left;
  right = c.in_ok-right.right;
  designates = c.in_ok-left.ensures.sound;
  becomes = c.in_ok-rest.ensures.sound;
  reads = c.in_ok-right.ensures.sound;
  is = c.assignment.ensures;
}

pub returns-clause-complete : goal.returns-clause-complete
returns-clause-complete c = λ b d.
    let l = parts.lacks_other (λ e. parts.open_becomes e) d.becomes in
    let p = c.in_ok-left.ensures.complete d.left d.us d.designates l in
    let q = c.in_ok-rest.ensures.complete d.vs (heads.follows_at p.1 d.becomes) in
    let r = c.in_ok-right.ensures.complete d.right (parts.at (λ (xs : List Token). Reads 8 xs d.right []) q d.reads) in
    c.assignment.ensures ∙ forms.assignment_as p.0 r ∙ sym d.is
