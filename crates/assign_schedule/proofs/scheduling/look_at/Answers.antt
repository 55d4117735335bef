use Rattle.std.proofs.Common.{subst, sym}
use Rattle.assign_schedule.specs.Parts.{HaveOneRank}
use Rattle.assign_schedule.proofs.OneRank.{one_rank}
use Rattle.assign_schedule.proofs.scheduling.look_at.Goals as goal

pub invariant_of-result : goal.invariant_of-result
invariant_of-result c = record { ranked = subst HaveOneRank (sym c.in_ok-givers.ensures) (one_rank c.args.module.now c.requires) }
