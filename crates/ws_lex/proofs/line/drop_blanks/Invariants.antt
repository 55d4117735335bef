use Rattle.std.proofs.Common.{◌≡◌, drop}
use Rattle.ws_lex.specs.Lines as words
use Rattle.ws_lex.proofs.line.drop_blanks.Given as goal

abbrev pub invariant-loop-i : goal.invariant-loop-i
invariant-loop-i l = words.drop_blanks (drop l.i l.line) ≡ words.drop_blanks l.line
