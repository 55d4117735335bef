use Rattle.alias_test.proofs.Meets.{meets_swapped}
use Rattle.alias_test.proofs.meeting.meets.Goals as goal

pub returns-else-p-q : goal.returns-else-p-q
returns-else-p-q c = meets_swapped c.args.p c.args.q c.meets_after-else-p-q.result c.meets_after-else-p-q.ensures
