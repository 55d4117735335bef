use Rattle.ws_lex.proofs.Runs.{line-first, line-only}
use Rattle.ws_lex.proofs.line.first_line.Goals as goal

pub returns-then-byte-eq10-clause-lines : goal.returns-then-byte-eq10-clause-lines
returns-then-byte-eq10-clause-lines c = line-first _ _ c.loop-i.i c.without_return.ensures c.loop-i-test.true c.if-byte-eq10.true c.loop-i.invariant

pub returns-clause-lines : goal.returns-clause-lines
returns-clause-lines c = line-only _ c.loop-i.i c.requires c.loop-i-test.false c.loop-i.invariant
