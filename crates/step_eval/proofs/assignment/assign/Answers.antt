use Rattle.std.proofs.Common.{subst, sym, All, List}
use Rattle.ws_space.specs.declared.state.Var.{Var}
use Rattle.term_eval.specs.Limits.{IsVar}
use Rattle.step_eval.proofs.KeptLimits.{vars_held}
use Rattle.step_eval.proofs.assignment.assign.Goals as goal

pub returns-clause-kept : goal.returns-clause-kept
returns-clause-kept c = record {
  vars = let P : List Var → Type 0 = λ l. All IsVar l in subst P (sym c.in_ok-set_state.ensures) (vars_held c.args.world.now.vars c.in-Some.name.now c.in_ok-state.state c.requires.world.vars c.in_ok-state.ensures.small);
  constants = c.requires.world.constants;
}
