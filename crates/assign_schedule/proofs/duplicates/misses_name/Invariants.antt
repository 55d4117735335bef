use Rattle.std.proofs.Common.{◌≡◌, ◌+◌, ◌-◌, map}
use Rattle.std.specs.Prelude.{not}
use Rattle.std.specs.List.{list_any}
use Rattle.ws_space.specs.Shapes.{places_from}
use Rattle.hlfir_ops.specs.Rules.{is_in}
use Rattle.assign_schedule.specs.Saved.{misses_name}
use Rattle.assign_schedule.proofs.duplicates.misses_name.Given as goal

abbrev pub invariant-each : goal.invariant-each
invariant-each l = list_any (λ n. not (is_in (map (λ v. v.number) l.vs) n)) (places_from (l.header.first + l.k) (l.header.count - l.k)) ≡ misses_name l.header l.vs
