use Rattle.std.proofs.Common.{◌≡◌, drop}
use Rattle.std.specs.List.{list_all}
use Rattle.hlfir_ops.specs.Rules.{is_in}
use Rattle.hlfir_verify.proofs.defined.are_defined.Given as goal

abbrev pub invariant-each : goal.invariant-each
invariant-each l = list_all (λ v. is_in l.defined v.number) (drop l.v-index l.operands) ≡ list_all (λ v. is_in l.defined v.number) l.operands
