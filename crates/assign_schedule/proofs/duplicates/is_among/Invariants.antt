use Rattle.std.proofs.Common.{◌≡◌, drop, map}
use Rattle.hlfir_ops.specs.Rules.{is_in}
use Rattle.assign_schedule.proofs.duplicates.is_among.Given as goal

abbrev pub invariant-each : goal.invariant-each
invariant-each l = is_in (map (λ v. v.number) (drop l.v-index l.vs)) l.n ≡ is_in (map (λ v. v.number) l.vs) l.n
