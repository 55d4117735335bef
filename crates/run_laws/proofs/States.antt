-- The states that ALLOCATE and DEALLOCATE leave fit the declares of their variables.
use Rattle.std.proofs.Common.{◌≡◌, refl, ℕ, ◌≤◌, ◌==◌, Bool, true, false, List, [], ◌∷◌, length, Ok, IfOk, if◌then◌else◌, nat_lt, arith}
use Rattle.ws_base.specs.declared.fault.FaultName.TheVariants.{TooLarge}
use Rattle.ws_base.specs.Outcomes.{Staged, trouble}
use Rattle.ws_space.specs.declared.shape.Dim.{Dim}
use Rattle.ws_space.specs.declared.state.VarState.{VarState}
use Rattle.ws_space.specs.declared.state.VarState.TheVariants as state
use Rattle.ws_space.specs.declared.shape.TheConstants.{ELEMENT_LIMIT}
use Rattle.ws_space.specs.Shapes.{shape_of, extents_of, size}
use Rattle.ws_space.specs.Sections.{limited}
use Rattle.ws_space.specs.Replace.{zeros, allocated_with, freed}
use Rattle.hlfir_ops.specs.declared.kinds.ValueKind.TheVariants as kind
use Rattle.value_laws.specs.Variables.{Fits}
use Rattle.world_laws.proofs.Filling.{allocatable_fits}

-- ---- the rank of what is kept

pub shape_rank : (ds : List Dim) → length ds ≤ 3 → (shape_of ds).rank ≡ length ds
shape_rank [] h = refl
shape_rank (a ∷ []) h = refl
shape_rank (a ∷ b ∷ []) h = refl
shape_rank (a ∷ b ∷ c ∷ []) h = refl
shape_rank (a ∷ b ∷ c ∷ d ∷ ds) h = absurd (omega (arith, h))

-- ---- ALLOCATE and DEALLOCATE

limited_at : (b : Bool) (s : VarState) (P : VarState → Type 0) → P s → IfOk (let r : Staged VarState = if b then trouble TooLarge else Ok s in r) P
limited_at true s P h = tt
limited_at false s P h = h

limited_is : (es : List ℕ) (s : VarState) (P : VarState → Type 0) → P s → IfOk (limited es s) P
limited_is es s P h = limited_at (nat_lt ELEMENT_LIMIT (size es)) s P h

pub allocated-fits : (e : _) (rank : ℕ) (old : VarState) (ds : List Dim) → length ds ≡ rank → (rank == 0) ≡ false → rank ≤ 3 → IfOk (allocated_with old ds) (Fits (kind.Allocatable e rank))
allocated-fits e rank (state.Unallocated r) ds many some narrow =
    limited_is (extents_of ds) (zeros ds) (Fits (kind.Allocatable e rank)) (allocatable_fits e rank ds _ many some narrow)
allocated-fits e rank (state.Array a) ds many some narrow = tt
allocated-fits e rank (state.Scalar v) ds many some narrow = tt

pub freed-fits : (e : _) (rank : ℕ) (old : VarState) → IfOk (freed old) (Fits (kind.Allocatable e rank))
freed-fits e rank (state.Unallocated r) = tt
freed-fits e rank (state.Array a) = tt
freed-fits e rank (state.Scalar v) = tt
