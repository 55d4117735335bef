use Rattle.std.proofs.Common.{◌≡◌, List, [], sym, ap, ◌∙◌}
use Rattle.ws_lex.specs.declared.token.Token.{Token}
use Rattle.ws_tree.specs.declared.stmt.Body.TheVariants as body
use Rattle.ws_tree.specs.declared.stmt.Part.{Part}
use Rattle.ws_expr.specs.declared.reading.Gathered.{Gathered}
use Rattle.ws_expr.proofs.Heads as heads
use Rattle.ws_stmt.specs.declared.form.Form.TheVariants as form
use Rattle.ws_stmt.specs.Statements.{said, ListsInParens, ReadsAllocation}
use Rattle.ws_stmt.proofs.Parts as parts
use Rattle.ws_stmt.proofs.Declarations as decls
use Rattle.ws_stmt.proofs.statement.says_allocate.Goals as goal

pub returns-in_err-parts-clause-complete : goal.returns-in_err-parts-clause-complete
returns-in_err-parts-clause-complete c = λ s d. heads.failing _ c.from_residual.result c.in_err-parts.field-0.0 c.from_residual.ensures.1 (c.in_err-parts.ensures.complete d.ps [] d.arrays)

pub returns-then-is_done-clause-sound : goal.returns-then-is_done-clause-sound
returns-then-is_done-clause-sound c = record {
  ps = c.in_ok-parts.parts;
  arrays = parts.along (λ (xs : List Token). ListsInParens ReadsAllocation c.args.tokens.now c.in_ok-parts.parts xs) (decls.nothing _ (sym c.is_done.ensures ∙ c.if-is_done.true)) c.in_ok-parts.ensures.sound;
  is = c.allocates.ensures;
}

pub returns-then-is_done-clause-complete : goal.returns-then-is_done-clause-complete
returns-then-is_done-clause-complete c = λ s d.
    let g = c.in_ok-parts.ensures.complete d.ps [] d.arrays in
    c.allocates.ensures ∙ ap (λ (z : Gathered Part). said (form.Acts (body.Allocate z.trees)) z.odd) g.0 ∙ sym d.is

pub returns-else-is_done-clause-complete : goal.returns-else-is_done-clause-complete
returns-else-is_done-clause-complete c = λ s d. decls.something _ (sym c.is_done.ensures ∙ c.if-is_done.false) (c.in_ok-parts.ensures.complete d.ps [] d.arrays).1
