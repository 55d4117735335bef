use Rattle.std.proofs.Common.{◌≡◌, drop}
use Rattle.std.specs.List.{list_any}
use Rattle.alias_test.specs.Normal.{designator_at}
use Rattle.alias_test.specs.Relations.{relation}
use Rattle.assign_schedule.specs.Harms.{harms}
use Rattle.assign_schedule.specs.Looks.{givers_seen}
use Rattle.assign_schedule.proofs.harm.harms_some.Given as goal

abbrev pub invariant-each : goal.invariant-each
invariant-each l =
    list_any (λ n. harms (relation l.target (designator_at (givers_seen l.look) n)) l.again) (drop l.n-index l.numbers) ≡ list_any (λ n. harms (relation l.target (designator_at (givers_seen l.look) n)) l.again) l.numbers
