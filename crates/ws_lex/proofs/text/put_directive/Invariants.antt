use Rattle.std.proofs.Common.{◌≡◌, ◌++◌, take, map}
use Rattle.ws_lex.specs.Text.{on_line, no_separator}
use Rattle.ws_lex.proofs.text.put_directive.Given as goal

abbrev pub invariant-loop-byte : goal.invariant-loop-byte
invariant-loop-byte l = l.out ≡ l.initial.out ++ on_line l.line (map no_separator (take l.byte-index l.bytes))
