use Rattle.std.proofs.Common.{◌≡◌, drop}
use Rattle.ws_space.specs.Replace as replace
use Rattle.step_eval.proofs.vars.is_logical.Given as goal

abbrev pub invariant-loop-var : goal.invariant-loop-var
invariant-loop-var l = replace.is_logical l.vars l.name ≡ replace.is_logical (drop l.var-index l.vars) l.name
