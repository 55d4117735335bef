use Rattle.std.proofs.Common.{◌≡◌, drop}
use Rattle.act_laws.specs.Seats.{seats_of, later_or}
use Rattle.act_lower.proofs.operand.seat_in.Given as goal

abbrev pub invariant-each : goal.invariant-each
invariant-each l = later_or (seats_of (drop l.e-index l.table) l.number) l.found ≡ seats_of l.table l.number
