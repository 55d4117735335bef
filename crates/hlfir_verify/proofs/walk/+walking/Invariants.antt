use Rattle.std.proofs.Common.{◌≡◌, ◌+◌, [], length, take, drop}
use Rattle.hlfir_ops.specs.Numbers.{numbers_of, numbers_in}
use Rattle.hlfir_ops.specs.RulesPlaces.{sites_of, sites_in}
use Rattle.rule_limits.specs.Arounds.{around_seen}
use Rattle.hlfir_verify.specs.Looks.{facts_seen}
use Rattle.hlfir_verify.specs.Verdicts.{judged, verdicts}
use Rattle.hlfir_verify.proofs.walk.+walking.Given as goal

abbrev pub invariant-walk_ops-each : goal.invariant-walk_ops-each
invariant-walk_ops-each l = record {
  verdict : judged l.initial.walk.place (verdicts (facts_seen l.look) (sites_of (around_seen l.around) [] l.initial.walk.number l.initial.walk.defined.items l.ops))
      ≡ judged l.walk.place (verdicts (facts_seen l.look) (sites_of (around_seen l.around) (take l.i l.ops) l.walk.number l.walk.defined.items (drop l.i l.ops)));
  number : numbers_of l.ops + l.initial.walk.number ≡ numbers_of (drop l.i l.ops) + l.walk.number;
  kept : take (length l.initial.walk.defined.items) l.walk.defined.items ≡ l.initial.walk.defined.items;
}

abbrev pub invariant-walk_regions-each : goal.invariant-walk_regions-each
invariant-walk_regions-each l = record {
  verdict : judged l.initial.walk.place (verdicts (facts_seen l.look) (sites_in (around_seen l.around) l.what 0 l.initial.walk.number l.initial.walk.defined.items l.regions))
      ≡ judged l.walk.place (verdicts (facts_seen l.look) (sites_in (around_seen l.around) l.what l.k l.walk.number l.initial.walk.defined.items (drop l.k l.regions)));
  number : numbers_in l.what 0 l.regions + l.initial.walk.number ≡ numbers_in l.what l.k (drop l.k l.regions) + l.walk.number;
  kept : l.walk.defined.items ≡ l.initial.walk.defined.items;
}
