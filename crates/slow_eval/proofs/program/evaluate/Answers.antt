use Rattle.std.proofs.Common.{sym, subst}
use Rattle.ws_tree.specs.declared.stmt.Tree.{Tree}
use Rattle.ws_sema.specs.Checks.{IsAccepted}
use Rattle.small_laws.proofs.Accepted.{accepted_small, accepted_declarations}
use Rattle.slow_eval.proofs.program.evaluate.Goals as goal

pub evaluate_tree-requires-clause-body : goal.evaluate_tree-requires-clause-body
evaluate_tree-requires-clause-body c = let P : Tree → Type 0 = IsAccepted in accepted_small c.tree.result.now (subst P (sym c.tree.ensures.same) c.tree.ensures.accepted)

pub evaluate_tree-requires-clause-decls : goal.evaluate_tree-requires-clause-decls
evaluate_tree-requires-clause-decls c = let P : Tree → Type 0 = IsAccepted in accepted_declarations c.tree.result.now (subst P (sym c.tree.ensures.same) c.tree.ensures.accepted)
