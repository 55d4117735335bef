use Rattle.std.proofs.Common.{◌+◌, drop, None}
use Rattle.hlfir_ops.specs.Built.{Built}
use Rattle.lower_values.specs.declared.operand.Operand.{Operand}
use Rattle.lower_values.specs.Lowerings.{Appends}
use Rattle.lower_values.specs.Lists as lists
use Rattle.lower_values.proofs.Turns.{MakesAll}
use Rattle.lower_values.proofs.values.+valuing.Given as goal

abbrev pub invariant-values-each : goal.invariant-values-each
invariant-values-each l = MakesAll l.names (λ _. lists.values) l.es l.e-index l.initial.build l.build l.xs

-- with what is lowered of the arguments that are left these are all
abbrev pub invariant-nested-each : goal.invariant-nested-each
invariant-nested-each l = (new : Built) (x : Operand) → Appends l.names (lists.nested l.op l.before (drop l.e-index l.es)) l.build new x → Appends l.names (lists.nested l.op None l.es) l.initial.build new x

abbrev pub invariant-subscripts-each : goal.invariant-subscripts-each
invariant-subscripts-each l = MakesAll l.names (λ i. lists.subscripts l.array (i + 1)) l.subs l.i l.initial.build l.build l.subscripts
