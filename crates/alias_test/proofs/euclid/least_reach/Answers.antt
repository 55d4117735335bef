use Rattle.alias_test.proofs.Reaching.{divisor_some, quotient_some, reaches_none, reaches_least}
use Rattle.alias_test.proofs.euclid.least_reach.Goals as goal

pub nonzero_rem-distance : goal.nonzero_rem-distance
nonzero_rem-distance c = divisor_some _ _ _ c.requires.some c.bezout_of-divisor.ensures.gcd

pub returns-then-distance-divisor-ne0 : goal.returns-then-distance-divisor-ne0
returns-then-distance-divisor-ne0 c = reaches_none _ _ _ _ c.bezout_of-divisor.ensures.gcd c.if-distance-divisor-ne0.true

pub nonzero_div-distance : goal.nonzero_div-distance
nonzero_div-distance c = divisor_some _ _ _ c.requires.some c.bezout_of-divisor.ensures.gcd

pub nonzero_div-step : goal.nonzero_div-step
nonzero_div-step c = divisor_some _ _ _ c.requires.some c.bezout_of-divisor.ensures.gcd

pub nonzero_rem-reach : goal.nonzero_rem-reach
nonzero_rem-reach c = quotient_some _ _ _ _ c.requires.some c.bezout_of-divisor.ensures.gcd c.from-3.ensures

pub returns : goal.returns
returns c =
    reaches_least _ _ _ _ _ _ _ _ c.requires.some c.bezout_of-divisor.ensures.gcd c.bezout_of-divisor.ensures.makes c.if-distance-divisor-ne0.false c.from.ensures c.from-2.ensures c.from-3.ensures
