use Rattle.std.proofs.Common.{◌≡◌, drop}
use Rattle.array_meaning.specs.Program as program
use Rattle.term_eval.specs.Limits.{IsWorld}
use Rattle.slow_eval.proofs.allocation.deallocate.Given as goal

abbrev pub invariant-each : goal.invariant-each
invariant-each l = record {
  same : program.deallocate l.fn.world l.names ≡ program.deallocate l.world (drop l.name-index l.names);
  kept : IsWorld l.world;
}
