use Rattle.std.proofs.Common.{All, List, subst, sym, ◌∙◌}
use Rattle.ws_space.specs.declared.state.Var.{Var}
use Rattle.term_eval.specs.Limits.{IsVar}
use Rattle.step_eval.proofs.ForallRuns.{put_stays}
use Rattle.step_eval.proofs.KeptLimits.{vars_held}
use Rattle.step_eval.proofs.forall.put.Goals as goal

pub returns-in-Some-Scalar-clause-value : goal.returns-in-Some-Scalar-clause-value
returns-in-Some-Scalar-clause-value c =
    put_stays c.args.world.now c.args.line c.args.places.now c.args.name.now c.as_str.result.now c.args.targets.now c.args.values.now c.as_slice.result.now _ tt c.as_slice.ensures c.as_str.ensures (c.in-Some-Scalar.ensures ∙ c.in-Some-Scalar.field-0-is)

pub returns-in-Some-Unallocated-clause-value : goal.returns-in-Some-Unallocated-clause-value
returns-in-Some-Unallocated-clause-value c =
    put_stays c.args.world.now c.args.line c.args.places.now c.args.name.now c.as_str.result.now c.args.targets.now c.args.values.now c.as_slice.result.now _ tt c.as_slice.ensures c.as_str.ensures (c.in-Some-Unallocated.ensures ∙ c.in-Some-Unallocated.field-0-is)

pub returns-in-None-clause-value : goal.returns-in-None-clause-value
returns-in-None-clause-value c =
    put_stays c.args.world.now c.args.line c.args.places.now c.args.name.now c.as_str.result.now c.args.targets.now c.args.values.now c.as_slice.result.now _ tt c.as_slice.ensures c.as_str.ensures c.in-None.ensures

pub returns-clause-kept : goal.returns-clause-kept
returns-clause-kept c =
    let P : List Var → Type 0 = λ l. All IsVar l in
    record {
      vars = subst P (sym c.in_ok-set_state.ensures) (vars_held c.args.world.now.vars c.args.name.now c.in_ok-state-in-Some-Array.state c.requires.world.vars c.in_ok-state-in-Some-Array.ensures.small);
      constants = c.requires.world.constants;
    }
