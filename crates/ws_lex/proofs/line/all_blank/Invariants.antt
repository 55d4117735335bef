use Rattle.std.proofs.Common.{◌≡◌, drop}
use Rattle.ws_lex.specs.Lines as words
use Rattle.ws_lex.proofs.line.all_blank.Given as goal

abbrev pub invariant-loop-byte : goal.invariant-loop-byte
invariant-loop-byte l = words.all_blank (drop l.byte-index l.part) ≡ words.all_blank l.part
