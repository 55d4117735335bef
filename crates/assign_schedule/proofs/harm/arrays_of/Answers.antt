use Rattle.assign_schedule.specs.declared.way.Way.TheVariants.{Elements}
use Rattle.assign_schedule.specs.Looks.{givers_seen}
use Rattle.assign_schedule.proofs.Harmed.{all_reached}
use Rattle.assign_schedule.proofs.harm.arrays_of.Goals as goal

pub returns-clause-members : goal.returns-clause-members
returns-clause-members c = all_reached Elements (givers_seen c.args.look.now) c.args.vs.now c.new-start.result.keys c.want.new.wanted.keys c.in_ok-found.found.items c.new-start.ensures.empty c.in_ok-want.ensures
    c.in_ok-found.ensures.members
