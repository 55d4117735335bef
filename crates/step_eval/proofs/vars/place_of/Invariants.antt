use Rattle.step_eval.proofs.Variables.{NotBefore}
use Rattle.step_eval.proofs.vars.place_of.Given as goal

abbrev pub invariant-loop-i : goal.invariant-loop-i
invariant-loop-i l = NotBefore l.vars l.name l.i
