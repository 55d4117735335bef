use Rattle.std.proofs.Common.{◌≡◌, length, drop}
use Rattle.array_meaning.specs.Program as program
use Rattle.term_eval.specs.Lists.{then_rest}
use Rattle.slow_eval.proofs.allocation.bound_dims.Given as goal

abbrev pub invariant-each : goal.invariant-each
invariant-each l = record {
  same : program.bound_dims l.world l.bounds ≡ then_rest l.dims (program.bound_dims l.world (drop l.bound-index l.bounds));
  as_many : length l.dims ≡ l.bound-index;
}
