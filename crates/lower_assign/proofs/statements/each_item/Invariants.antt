use Rattle.std.proofs.Common.{nat_lt}
use Rattle.lower_values.specs.Lowerings.{in_turn}
use Rattle.lower_values.proofs.Turns.{LowersAll}
use Rattle.lower_assign.proofs.statements.each_item.Given as goal

abbrev pub invariant-each : goal.invariant-each
invariant-each g l = LowersAll l.names (in_turn (λ k. g.T.Item.lowering l.line (nat_lt 0 k))) l.items l.i l.initial.build l.build
