use Rattle.std.proofs.Common.{◌≡◌, ◌++◌, take, drop}
use Rattle.ws_lex.specs.Lines as words
use Rattle.ws_lex.proofs.line.before_comment.Given as goal

abbrev pub invariant-loop-i : goal.invariant-loop-i
invariant-loop-i l = take l.i l.line ++ words.before_comment l.quote (drop l.i l.line) ≡ words.before_comment 0 l.line
