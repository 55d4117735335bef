use Rattle.std.proofs.Common.{◌≡◌, ◌+◌, suc, ◌++◌, length}
use Rattle.ws_lex.specs.Lines.{lines}
use Rattle.ws_lex.specs.Text.{text, text_from}
use Rattle.ws_lex.proofs.text.text.Given as goal

abbrev pub invariant-lines : goal.invariant-lines
invariant-lines l = record {
  same : l.out ++ text_from l.number l.front (lines l.rest) ≡ text (lines l.bytes);
  count : l.number + length (lines l.rest) ≡ suc (length (lines l.bytes));
}

abbrev pub decreases-lines : goal.decreases-lines
decreases-lines l = length l.rest
