-- An array fits its declare again where all its elements are replaced, or some.
use Rattle.std.proofs.Common.{◌≡◌, refl, sym, ◌∙◌, subst, ℕ, ◌≤◌, ◌==◌, true, false, List, [], ◌∷◌, length, ℤ, arith}
use Rattle.std.proofs.lemmas.List.{length-take-le}
use Rattle.ws_space.specs.declared.shape.Dim.{Dim}
use Rattle.ws_space.specs.declared.shape.Shape.{Shape}
use Rattle.ws_space.specs.declared.state.ArrayValue.{ArrayValue}
use Rattle.ws_space.specs.declared.state.VarState.{VarState}
use Rattle.ws_space.specs.declared.state.VarState.TheVariants as state
use Rattle.ws_space.specs.Shapes.{dims, shape_of}
use Rattle.ws_space.specs.Values.{kept}
use Rattle.array_meaning.proofs.LeftSides.{Holds}
use Rattle.hlfir_ops.specs.declared.kinds.Elem.{Elem}
use Rattle.hlfir_ops.specs.declared.kinds.ValueKind.{ValueKind}
use Rattle.hlfir_ops.specs.declared.kinds.ValueKind.TheVariants as kind
use Rattle.hlfir_ops.specs.RulesValues.{rank_of}
use Rattle.value_laws.specs.Variables.{IsArrayOf, Fits}

-- values of an array of this rank
pub kept_array : (r : ℕ) (ds : List Dim) (xs : List ℤ) → length ds ≡ r → (r == 0) ≡ false → r ≤ 3 → (c : ArrayValue) × (kept ds xs ≡ state.Array c) × IsArrayOf r c
kept_array r [] xs h some few = let z : (r == 0) ≡ true = grind (arith, h) in let f : ⊥ = cc in absurd f
kept_array r (a ∷ []) xs h some few = (record { shape = shape_of (a ∷ []); values = xs }, refl, record { same = h; some = some })
kept_array r (a ∷ b ∷ []) xs h some few = (record { shape = shape_of (a ∷ b ∷ []); values = xs }, refl, record { same = h; some = some })
kept_array r (a ∷ b ∷ c ∷ []) xs h some few = (record { shape = shape_of (a ∷ b ∷ c ∷ []); values = xs }, refl, record { same = h; some = some })
kept_array r (a ∷ b ∷ c ∷ d ∷ more) xs h some few = absurd (omega (arith, h, few))

pub dims_length : (a : ArrayValue) (r : ℕ) → a.shape.rank ≡ r → r ≤ 3 → length (dims a.shape) ≡ r
dims_length a r same few = length-take-le a.shape.rank (a.shape.d1 ∷ a.shape.d2 ∷ a.shape.d3 ∷ []) (omega (arith, same, few)) ∙ same

pub declared_fits : (e : Elem) (shape : Shape) (ds : List Dim) (xs : List ℤ) → length ds ≡ shape.rank → (shape.rank == 0) ≡ false → shape.rank ≤ 3 → Fits (kind.Declared e shape) (kept ds xs)
declared_fits e shape ds xs long some few = let c = kept_array shape.rank ds xs long some few in subst (Fits (kind.Declared e shape)) (sym c.1) c.2

pub allocatable_fits : (e : Elem) (rank : ℕ) (ds : List Dim) (xs : List ℤ) → length ds ≡ rank → (rank == 0) ≡ false → rank ≤ 3 → Fits (kind.Allocatable e rank) (kept ds xs)
allocatable_fits e rank ds xs long some few = let c = kept_array rank ds xs long some few in subst (Fits (kind.Allocatable e rank)) (sym c.1) c.2

pub filled_fits : (k : ValueKind) (old : VarState) (a : ArrayValue) (xs : List ℤ) → rank_of k ≤ 3 → Fits k old → Holds old a → Fits k (kept (dims a.shape) xs)
filled_fits (kind.Scalar e) old a xs few fits holds = absurd fits
filled_fits (kind.Place e) (state.Scalar z) a xs few fits holds = subst (λ b. Fits (kind.Place e) (kept (dims b.shape) xs)) (sym holds) tt
filled_fits (kind.Place e) (state.Array b) a xs few fits holds = absurd fits
filled_fits (kind.Place e) (state.Unallocated r) a xs few fits holds = absurd fits
filled_fits (kind.Declared e shape) (state.Scalar z) a xs few fits holds = absurd fits
filled_fits (kind.Declared e shape) (state.Array b) a xs few fits holds =
    subst (λ c. Fits (kind.Declared e shape) (kept (dims c.shape) xs)) (sym holds) (declared_fits e shape (dims b.shape) xs (dims_length b shape.rank fits.same few) fits.some few)
filled_fits (kind.Declared e shape) (state.Unallocated r) a xs few fits holds = absurd fits
filled_fits (kind.Allocatable e rank) (state.Scalar z) a xs few fits holds = absurd fits
filled_fits (kind.Allocatable e rank) (state.Array b) a xs few fits holds =
    subst (λ c. Fits (kind.Allocatable e rank) (kept (dims c.shape) xs)) (sym holds) (allocatable_fits e rank (dims b.shape) xs (dims_length b rank fits.same few) fits.some few)
filled_fits (kind.Allocatable e rank) (state.Unallocated r) a xs few fits holds = absurd holds
filled_fits (kind.Section e rank) old a xs few fits holds = absurd fits
filled_fits (kind.Array e rank) old a xs few fits holds = absurd fits
