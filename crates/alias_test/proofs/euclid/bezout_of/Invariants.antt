-- Both pairs make what they stand for, and the divisors are those of the steps.
use Rattle.std.proofs.Common.{ℕ, ◌+◌, ◌*◌, ◌<◌}
use Rattle.std.specs.Int.{◌∣◌, IsGcd}
use Rattle.alias_test.proofs.euclid.bezout_of.Given as goal

abbrev pub invariant-euclid : goal.invariant-euclid
invariant-euclid l =
    record {
      gcd : (g : ℕ) → IsGcd l.divisor l.rest g → IsGcd l.fn.step l.fn.other g;
      makes : l.fn.step ∣ l.fn.other * l.factor + l.divisor;
      makes_rest : l.fn.step ∣ l.fn.other * l.next + l.rest;
      within : l.factor < l.fn.step;
      next_within : l.next < l.fn.step;
    }

abbrev pub decreases-euclid : goal.decreases-euclid
decreases-euclid l = l.rest
