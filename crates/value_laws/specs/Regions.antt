-- A region that yields what stands for a term.
use Rattle.std.specs.Prelude.{◌≡◌, ℕ, List, Ok, Err}
use Rattle.ws_base.specs.Outcomes.{Staged}
use Rattle.array_meaning.specs.declared.term.Term.{Term}
use Rattle.array_meaning.specs.declared.term.Term.TheVariants.{Scalar}
use Rattle.array_meaning.specs.Stage2 as source
use Rattle.hlfir_meaning.specs.Environments.{Value, scalar, Environment, OpRegion, Yielded, result}
use Rattle.hlfir_meaning.specs.Stage1.{walk}
use Rattle.hlfir_meaning.specs.Stage2.{operands, values}
use Rattle.value_laws.specs.Standing.{AreIn}

abbrev pub IsScalarOf : Value → Term → Type 0
IsScalarOf v (Scalar z) = v ≡ scalar z
IsScalarOf v t = Unit {0}

-- what is yielded has the operands of the term, and its values or its fault at any places of these
pub record YieldedStands (y : Yielded) (t : Term) : Type 0 where
  pub scalar : IsScalarOf (result y) t
  pub operands : operands (result y) ≡ source.operands t
  pub values : (at : List ℕ) → AreIn at (source.operands t) → values y at ≡ source.values t at

-- the region faults as stage 1 of its source does, or yields what stands for its term
abbrev pub RegionYields : Environment → OpRegion → Staged Term → Type 0
RegionYields env r (Ok t) = (y : Yielded) × (walk env r ≡ Ok y) × YieldedStands y t
RegionYields env r (Err e) = walk env r ≡ Err e
