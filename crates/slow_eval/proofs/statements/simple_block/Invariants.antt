use Rattle.std.proofs.Common.{◌≡◌, drop}
use Rattle.term_eval.specs.Limits.{IsWorld}
use Rattle.slow_eval.specs.Machine.{simple_list}
use Rattle.slow_eval.proofs.statements.simple_block.Given as goal

abbrev pub invariant-each : goal.invariant-each
invariant-each l = record { rest : simple_list l.initial.world l.block ≡ simple_list l.world (drop l.stmt-index l.block); kept : IsWorld l.world }
