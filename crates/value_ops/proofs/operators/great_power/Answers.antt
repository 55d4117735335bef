use Rattle.std.proofs.Common.{arith, w64}
use Rattle.std.proofs.lemmas.Int.{to_z-of_z}
use Rattle.value_ops.proofs.Past.{great, of_zero, even_of_one, odd_of_one}
use Rattle.value_ops.proofs.operators.great_power.Goals as goal

pub returns-then-size-gt1 : goal.returns-then-size-gt1
returns-then-size-gt1 c = great c.args.a c.args.exponent c.requires (grind (arith, to_z-of_z))

pub returns-then-size-eq0 : goal.returns-then-size-eq0
returns-then-size-eq0 c = of_zero c.args.a c.args.exponent c.requires (grind (arith, to_z-of_z))

pub returns-then-exponent-eq0 : goal.returns-then-exponent-eq0
returns-then-exponent-eq0 c = even_of_one c.args.a c.args.exponent (grind (arith, to_z-of_z)) c.if-exponent-eq0.true

pub returns-else-exponent-eq0 : goal.returns-else-exponent-eq0
returns-else-exponent-eq0 c = rw (to_z-of_z w64 c.args.a c.ranges.a) (odd_of_one c.args.a c.args.exponent (grind (arith, to_z-of_z)) c.if-exponent-eq0.false)
