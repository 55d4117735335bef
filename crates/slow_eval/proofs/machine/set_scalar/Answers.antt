use Rattle.std.proofs.Common.{◌≡◌, OnOk, w64, ap, ◌∙◌}
use Rattle.std.proofs.lemmas.Int.{to_z-of_z}
use Rattle.ws_space.specs.declared.state.VarState.TheVariants.{Scalar}
use Rattle.ws_space.specs.Values.{with_state}
use Rattle.slow_eval.proofs.Ends.{scalar_goes_on}
use Rattle.slow_eval.proofs.machine.set_scalar.Goals as goal

pub returns-clause-kept : goal.returns-clause-kept
returns-clause-kept c input ready =
    scalar_goes_on c.set_state.result input c.args.machine.now c.args.name.now c.args.value _ c.set_state.new.vars (to_z-of_z w64 c.args.value c.ranges.value) c.requires.integer ready c.set_state.ensures
