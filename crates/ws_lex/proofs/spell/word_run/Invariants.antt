use Rattle.std.proofs.Common.{◌≡◌, ◌+◌, drop}
use Rattle.ws_lex.specs.Spelling as words
use Rattle.ws_lex.proofs.spell.word_run.Given as goal

abbrev pub invariant-loop-i : goal.invariant-loop-i
invariant-loop-i l = l.i + words.word_run (drop l.i l.bytes) ≡ words.word_run l.bytes
