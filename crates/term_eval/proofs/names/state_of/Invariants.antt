use Rattle.std.proofs.Common.{◌≡◌, drop}
use Rattle.ws_space.specs.Values as space
use Rattle.term_eval.proofs.names.state_of.Given as goal

abbrev pub invariant-loop-var : goal.invariant-loop-var
invariant-loop-var l = space.state_of (drop l.var-index l.vars) l.name ≡ space.state_of l.vars l.name
