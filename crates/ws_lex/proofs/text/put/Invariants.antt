use Rattle.std.proofs.Common.{◌≡◌, ◌++◌, take}
use Rattle.ws_lex.specs.Text.{on_line}
use Rattle.ws_lex.proofs.text.put.Given as goal

abbrev pub invariant-loop-byte : goal.invariant-loop-byte
invariant-loop-byte l = l.out ≡ l.initial.out ++ on_line l.line (take l.byte-index l.bytes)
