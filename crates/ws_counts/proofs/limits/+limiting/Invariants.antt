use Rattle.std.proofs.Common.{◌≡◌, drop}
use Rattle.ws_types.specs.Kinds.{least_from}
use Rattle.ws_counts.specs.Limits as limits
use Rattle.ws_counts.specs.Tallies.{all_summed}
use Rattle.ws_counts.proofs.limits.+limiting.Given as goal

abbrev pub invariant-check_block-each : goal.invariant-check_block-each
invariant-check_block-each l = record {
  found : least_from l.initial.found (limits.stmts_limits l.table l.shared l.block) ≡ least_from l.found (limits.stmts_limits l.table l.shared (drop l.stmt-index l.block));
  steps : all_summed l.initial.sum (limits.stmts_steps l.table l.block) ≡ all_summed l.sum (limits.stmts_steps l.table (drop l.stmt-index l.block));
}
