use Rattle.std.proofs.Common.{length}
use Rattle.rule_tests.proofs.results.+section_rank.Given as goal

abbrev pub decreases-section_rank : goal.decreases-section_rank
decreases-section_rank l = length l.subs.now
