use Rattle.std.proofs.Common.{arith}
use Rattle.ws_lex.proofs.Runs.{trim-less, trim-done, trim-none}
use Rattle.ws_lex.proofs.line.trim.Goals.{then-loop-size-test+else-part-size-eq32, else-loop-size-test}
use Rattle.ws_lex.proofs.line.trim.Goals as goal

pub loop-size-preserved : goal.loop-size-preserved
loop-size-preserved c = record {
  within = omega (arith, c.loop-size.invariant.within);
  same = trim-less _ c.loop-size.size (omega (arith, c.loop-size-test.true)) c.loop-size.invariant.within c.if-part-size-eq32.true c.loop-size.invariant.same;
}

pub returns : goal.returns
returns c = elim c.loop-size-test.branch [
  | then-loop-size-test+else-part-size-eq32 w ↦ trim-done _ c.loop-size.size (omega (arith, w.loop-size-test.true)) c.loop-size.invariant.within w.if-part-size-eq32.false c.loop-size.invariant.same
  | else-loop-size-test w ↦ trim-none _ c.loop-size.size (omega (arith, w.loop-size-test.false)) c.loop-size.invariant.same
]
