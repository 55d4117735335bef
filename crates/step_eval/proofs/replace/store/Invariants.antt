-- All targets from place i on are stored.
use Rattle.std.proofs.Common.{◌≡◌, drop}
use Rattle.ws_space.specs.Values.{stored}
use Rattle.step_eval.proofs.replace.store.Given as goal

abbrev pub invariant-targets : goal.invariant-targets
invariant-targets l = l.values ≡ stored l.fn.values (drop l.i l.targets) (drop l.i l.new)
