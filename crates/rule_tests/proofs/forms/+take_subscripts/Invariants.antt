use Rattle.std.proofs.Common.{length}
use Rattle.rule_tests.proofs.forms.+take_subscripts.Given as goal

abbrev pub decreases-take_subscripts : goal.decreases-take_subscripts
decreases-take_subscripts l = length l.subs.now
