use Rattle.std.proofs.Common.{◌≤◌, length}
use Rattle.slow_eval.proofs.Taken.{Taken}
use Rattle.slow_eval.proofs.reading.take_values.Given as goal

abbrev pub invariant-loop-k : goal.invariant-loop-k
invariant-loop-k l = record { within : l.place ≤ length l.input; taken : Taken l.input l.truth l.before l.count l.at l.k l.made l.place }
