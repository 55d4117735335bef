use Rattle.std.proofs.Common.{◌≡◌, ◌≤◌, length, take}
use Rattle.ws_lex.specs.Lines as words
use Rattle.ws_lex.proofs.line.trim.Given as goal

abbrev pub invariant-loop-size : goal.invariant-loop-size
invariant-loop-size l = record { within : l.size ≤ length l.part; same : words.trim (take l.size l.part) ≡ words.trim l.part }

abbrev pub decreases-loop-size : goal.decreases-loop-size
decreases-loop-size l = l.size
