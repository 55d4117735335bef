use Rattle.std.proofs.Common.{◌≡◌, drop}
use Rattle.term_eval.specs.Limits.{IsWorld}
use Rattle.step_eval.specs.Combinations.{combinations_at}
use Rattle.step_eval.specs.Forall.{block_over}
use Rattle.step_eval.proofs.forall.run_block.Given as goal

abbrev pub invariant-each : goal.invariant-each
invariant-each l = record {
  value : block_over l.initial.world l.block l.places (combinations_at l.indexes l.triplets l.places) ≡ block_over l.world (drop l.stmt-index l.block) l.places (combinations_at l.indexes l.triplets l.places);
  kept : IsWorld l.world;
}
