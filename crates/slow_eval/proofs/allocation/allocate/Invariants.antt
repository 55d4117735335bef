use Rattle.std.proofs.Common.{◌≡◌, drop}
use Rattle.array_meaning.specs.Program as program
use Rattle.term_eval.specs.Limits.{IsWorld}
use Rattle.slow_eval.proofs.allocation.allocate.Given as goal

abbrev pub invariant-each : goal.invariant-each
invariant-each l = record {
  same : program.allocate l.fn.world l.parts ≡ program.allocate l.world (drop l.part-index l.parts);
  kept : IsWorld l.world;
}
