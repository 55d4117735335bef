-- Regions by their ops: they are right, and what they yield is no allocatable's declare.
use Rattle.std.proofs.Common.{◌≡◌, sym, ap, ◌∙◌, subst, Bool, true, List, [], ◌∷◌}
use Rattle.std.proofs.lemmas.List.Elements.{All-nil, All-cons}
use Rattle.hlfir_ops.specs.declared.op.Op.{Op}
use Rattle.hlfir_ops.specs.declared.op.Region.{Region, out-Region}
use Rattle.hlfir_ops.specs.Trees.{region_of}
use Rattle.hlfir_ops.specs.RulesValues.{Value}
use Rattle.hlfir_ops.specs.RulesRegions.{parts}
use Rattle.hlfir_ops.specs.RulesStatements.{no_allocatable, yields_no_allocatable}
use Rattle.yield_laws.proofs.Right.{AreRight, AreRightIn}
use Rattle.kind_laws.proofs.Ends.{ops-region_of}

module _ (vs : List Value) (m : Bool) where
  pub no-regions : AreRightIn vs m []
  no-regions = All-nil (λ r. AreRight vs m (out-Region r).ops)

  pub more-regions : (ops : List Op) (rest : List Region) → AreRight vs m ops → AreRightIn vs m rest → AreRightIn vs m (region_of ops ∷ rest)
  more-regions ops rest h g = All-cons (λ r. AreRight vs m (out-Region r).ops) (region_of ops) rest (subst (AreRight vs m) (sym (ops-region_of ops)) h) g

pub region-reached : (vs : List Value) (ops : List Op) → no_allocatable vs (parts ops) ≡ true → yields_no_allocatable vs (region_of ops) ≡ true
region-reached vs ops h = ap (λ l. no_allocatable vs (parts l)) (ops-region_of ops) ∙ h
