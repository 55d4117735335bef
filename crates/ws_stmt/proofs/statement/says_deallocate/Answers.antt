use Rattle.std.proofs.Common.{◌≡◌, List, [], sym, ap, ◌∙◌, ℕ}
use Rattle.ws_lex.specs.declared.token.Token.{Token}
use Rattle.ws_tree.specs.declared.stmt.Body.TheVariants as body
use Rattle.ws_expr.specs.declared.reading.Gathered.{Gathered}
use Rattle.ws_expr.proofs.Heads as heads
use Rattle.ws_stmt.specs.declared.form.Form.TheVariants as form
use Rattle.ws_stmt.specs.Statements.{said, ListsInParens, ReadsName}
use Rattle.ws_stmt.proofs.Parts as parts
use Rattle.ws_stmt.proofs.Declarations as decls
use Rattle.ws_stmt.proofs.statement.says_deallocate.Goals as goal

pub returns-in_err-names-clause-complete : goal.returns-in_err-names-clause-complete
returns-in_err-names-clause-complete c = λ s d. heads.failing _ c.from_residual.result c.in_err-names.field-0.0 c.from_residual.ensures.1 (c.in_err-names.ensures.complete d.xs [] d.arrays)

pub returns-then-is_done-clause-sound : goal.returns-then-is_done-clause-sound
returns-then-is_done-clause-sound c = record {
  xs = c.in_ok-names.names;
  arrays = parts.along (λ (xs : List Token). ListsInParens ReadsName c.args.tokens.now c.in_ok-names.names xs) (decls.nothing _ (sym c.is_done.ensures ∙ c.if-is_done.true)) c.in_ok-names.ensures.sound;
  is = c.deallocates.ensures;
}

pub returns-then-is_done-clause-complete : goal.returns-then-is_done-clause-complete
returns-then-is_done-clause-complete c = λ s d.
    let g = c.in_ok-names.ensures.complete d.xs [] d.arrays in
    c.deallocates.ensures ∙ ap (λ (z : Gathered (List ℕ)). said (form.Acts (body.Deallocate z.trees)) z.odd) g.0 ∙ sym d.is

pub returns-else-is_done-clause-complete : goal.returns-else-is_done-clause-complete
returns-else-is_done-clause-complete c = λ s d. decls.something _ (sym c.is_done.ensures ∙ c.if-is_done.false) (c.in_ok-names.ensures.complete d.xs [] d.arrays).1
