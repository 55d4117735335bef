use Rattle.std.proofs.Common.{◌∙◌, ap, true}
use Rattle.std.specs.List.{flat_map, list_any}
use Rattle.alias_test.specs.Normal.{designator_at}
use Rattle.alias_test.specs.Relations.{relation}
use Rattle.assign_schedule.specs.declared.way.Way.TheVariants.{Subscripts}
use Rattle.assign_schedule.specs.Harms.{harms}
use Rattle.assign_schedule.specs.Looks.{givers_seen}
use Rattle.assign_schedule.specs.Reads.{reached, subscripts_of}
use Rattle.assign_schedule.proofs.Harmed.{harmed_vectors}
use Rattle.assign_schedule.proofs.harm.harms_subscripts.Goals as goal

pub returns : goal.returns
returns c =
    let gs = givers_seen c.args.look.now in
    let t = c.args.target.now in
    c.in_ok-harmed.ensures
    ∙ (ap (list_any (λ n. harms (relation t (designator_at gs n)) true)) c.as_slice.ensures.value
    ∙ harmed_vectors gs c.args.again t c.in_ok-vectors.vectors.items (reached Subscripts gs (flat_map (subscripts_of gs) c.args.numbers.now)) c.in_ok-vectors.ensures.members)
