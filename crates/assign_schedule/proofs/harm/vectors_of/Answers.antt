use Rattle.std.specs.List.{flat_map}
use Rattle.assign_schedule.specs.declared.way.Way.TheVariants.{Subscripts}
use Rattle.assign_schedule.specs.Looks.{givers_seen}
use Rattle.assign_schedule.specs.Reads.{subscripts_of}
use Rattle.assign_schedule.proofs.Harmed.{all_reached}
use Rattle.assign_schedule.proofs.harm.vectors_of.Goals as goal

pub returns-clause-members : goal.returns-clause-members
returns-clause-members c =
    let gs = givers_seen c.args.look.now in
    all_reached Subscripts gs (flat_map (subscripts_of gs) c.args.numbers.now) c.new-start.result.keys c.want_subscripts.new.start.keys c.in_ok-found.found.items c.new-start.ensures.empty c.in_ok-want_subscripts.ensures
    c.in_ok-found.ensures.members
