use Rattle.std.proofs.Common.{◌≡◌, ◌++◌, length, drop}
use Rattle.act_laws.specs.Seats.{seats_of}
use Rattle.act_lower.specs.Code as code
use Rattle.act_lower.proofs.operand.fetch_all.Given as goal

abbrev pub invariant-each : goal.invariant-each
invariant-each l =
    (l.ops ++ (code.operands l.place (length l.ops) (seats_of l.table) (drop l.v-index l.os)).ops ≡ l.fn.ops ++ (code.operands l.place (length l.fn.ops) (seats_of l.table) l.os).ops)
    × (l.regs.items ++ (code.operands l.place (length l.ops) (seats_of l.table) (drop l.v-index l.os)).regs ≡ (code.operands l.place (length l.fn.ops) (seats_of l.table) l.os).regs)
