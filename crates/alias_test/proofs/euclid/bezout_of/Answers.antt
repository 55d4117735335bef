use Rattle.std.proofs.Common.{arith}
use Rattle.std.proofs.lemmas.Nat.Gcd.{IsGcd-from_mod, IsGcd-from_zero}
use Rattle.alias_test.proofs.Reaching.{makes-next, makes_none, makes_one}
use Rattle.alias_test.proofs.euclid.bezout_of.Goals as goal

pub euclid-init : goal.euclid-init
euclid-init c = record {
  gcd = λ g h. h;
  makes = makes_none c.args.step c.args.other;
  makes_rest = makes_one c.args.step c.args.other c.requires.some;
  within = c.requires.some;
  next_within = omega arith;
}

pub euclid-preserved : goal.euclid-preserved
euclid-preserved c = record {
  gcd = λ g h. c.euclid.invariant.gcd g (IsGcd-from_mod c.euclid.divisor c.euclid.rest g h);
  makes = c.euclid.invariant.makes_rest;
  makes_rest = makes-next c.args.step c.args.other c.euclid.factor c.euclid.next c.euclid.divisor c.euclid.rest c.back-after.result c.euclid.invariant.next_within c.euclid.invariant.makes c.euclid.invariant.makes_rest c.back-after.ensures;
  within = c.euclid.invariant.next_within;
  next_within = omega arith;
}

pub returns-clause-gcd : goal.returns-clause-gcd
returns-clause-gcd c = c.euclid.invariant.gcd c.euclid.divisor (IsGcd-from_zero c.euclid.divisor c.euclid.rest c.euclid-test.false)
