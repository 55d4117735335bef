use Rattle.std.proofs.Common.{◌≡◌, drop}
use Rattle.ws_lex.specs.Lines as words
use Rattle.ws_lex.proofs.line.open_quote.Given as goal

abbrev pub invariant-loop-byte : goal.invariant-loop-byte
invariant-loop-byte l = words.open_quote l.quote (drop l.byte-index l.part) ≡ words.open_quote 0 l.part
