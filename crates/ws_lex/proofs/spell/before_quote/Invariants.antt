use Rattle.std.proofs.Common.{◌≡◌, ◌+◌, drop}
use Rattle.ws_lex.specs.Spelling as words
use Rattle.ws_lex.proofs.spell.before_quote.Given as goal

abbrev pub invariant-loop-i : goal.invariant-loop-i
invariant-loop-i l = l.i + words.before_quote l.quote (drop l.i l.bytes) ≡ words.before_quote l.quote l.bytes
