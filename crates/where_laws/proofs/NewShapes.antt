-- What a variable takes in a new shape fits its declare, where what it held did.
use Rattle.std.proofs.Common.{◌≡◌, refl, sym, ap, ◌∙◌, subst, ℕ, ◌≤◌, ◌==◌, Bool, true, false, List, [], ◌∷◌, length, Ok, ℤ, arith, inl, inr, if◌then◌else◌, true≢false}
use Rattle.std.specs.Prelude.{◌⊎◌}
use Rattle.ws_base.specs.Outcomes.{Staged}
use Rattle.ws_space.specs.declared.shape.Dim.{Dim}
use Rattle.ws_space.specs.declared.state.ArrayValue.{ArrayValue}
use Rattle.ws_space.specs.declared.state.VarState.{VarState}
use Rattle.ws_space.specs.declared.state.VarState.TheVariants as state
use Rattle.ws_space.specs.Shapes.{Extents, dims, extents_of, same_extents}
use Rattle.ws_space.specs.Values.{kept}
use Rattle.ws_space.specs.Replace.{moved, moved_shape, has_extents, dims_of}
use Rattle.array_meaning.proofs.LeftSides.{Holds}
use Rattle.hlfir_ops.specs.declared.kinds.Elem.{Elem}
use Rattle.hlfir_ops.specs.declared.kinds.ValueKind.{ValueKind}
use Rattle.hlfir_ops.specs.declared.kinds.ValueKind.TheVariants as kind
use Rattle.value_laws.specs.Variables.{IsArrayOf, Fits}
use Rattle.world_laws.proofs.Filling.{dims_length, allocatable_fits}
use Rattle.where_laws.proofs.Same.{ok_same, IsOk}

-- a scalar variable
pub record IsScalar (k : ValueKind) (old : VarState) : Type 0 where
  pub elem : Elem
  pub place : k ≡ kind.Place elem
  pub value : ℤ
  pub state : old ≡ state.Scalar value

array_rank : (r : ℕ) (a b : ArrayValue) → IsArrayOf r b → a ≡ b → (a.shape.rank == 0) ≡ false
array_rank r a b h is = ap (λ (c : ArrayValue). c.shape.rank == 0) is ∙ (ap (λ n. n == 0) h.same ∙ h.some)

pub scalar_or_array : (k : ValueKind) (old : VarState) (a : ArrayValue) → Fits k old → Holds old a → ((a.shape.rank == 0) ≡ false) ⊎ IsScalar k old
scalar_or_array (kind.Scalar e) old a fits holds = absurd fits
scalar_or_array (kind.Place e) (state.Scalar z) a fits holds = inr (record { elem = e; place = refl; value = z; state = refl })
scalar_or_array (kind.Place e) (state.Array b) a fits holds = absurd fits
scalar_or_array (kind.Place e) (state.Unallocated r) a fits holds = absurd fits
scalar_or_array (kind.Declared e shape) (state.Scalar z) a fits holds = absurd fits
scalar_or_array (kind.Declared e shape) (state.Array b) a fits holds = inl (array_rank shape.rank a b fits holds)
scalar_or_array (kind.Declared e shape) (state.Unallocated r) a fits holds = absurd fits
scalar_or_array (kind.Allocatable e rank) (state.Scalar z) a fits holds = absurd fits
scalar_or_array (kind.Allocatable e rank) (state.Array b) a fits holds = inl (array_rank rank a b fits holds)
scalar_or_array (kind.Allocatable e rank) (state.Unallocated r) a fits holds = absurd holds
scalar_or_array (kind.Section e rank) old a fits holds = absurd fits
scalar_or_array (kind.Array e rank) old a fits holds = absurd fits

-- ---- a new shape

extents_same : (e : Extents) → same_extents e e ≡ true
extents_same [] = refl
extents_same (n ∷ ns) = let same : (n == n) ≡ true = grind arith in rw same (extents_same ns)

module _ (f : Elem) (rank : ℕ) (xs : List ℤ) (some : (rank == 0) ≡ false) (few : rank ≤ 3) where
  -- with the extents that it has, or with new bounds of its rank
  moved_at : (new : List Dim) (b : Bool) (old : VarState) (e : Extents) → Fits (kind.Allocatable f rank) old → has_extents old e ≡ b → (b ≡ false → length new ≡ rank) → Fits (kind.Allocatable f rank) (kept (if b then dims_of old else new) xs)
  moved_at new true (state.Array a) e fits is h = allocatable_fits f rank (dims a.shape) xs (dims_length a rank fits.same few) some few
  moved_at new true (state.Scalar z) e fits is h = absurd fits
  moved_at new true (state.Unallocated r) e fits is h = absurd (true≢false (sym is))
  moved_at new false old e fits is h = allocatable_fits f rank new xs (h refl) some few

  pub moved_fits : (new : List Dim) (old : VarState) (e : Extents) → Fits (kind.Allocatable f rank) old → (has_extents old e ≡ false → length new ≡ rank) → Fits (kind.Allocatable f rank) (moved new old e xs)
  moved_fits new old e fits h = moved_at new (has_extents old e) old e fits refl (λ is. h is)

-- a value without array operands takes the shape that the variable has
pub bare_keeps : (f : Elem) (rank : ℕ) (old : VarState) (e : Extents) → Fits (kind.Allocatable f rank) old → moved_shape [] old [] ≡ Ok e → has_extents old e ≡ true
bare_keeps f rank (state.Scalar z) e fits h = absurd fits
bare_keeps f rank (state.Array a) e fits h = ap (λ x. same_extents (extents_of (dims a.shape)) x) (sym (ok_same (extents_of (dims a.shape)) e h)) ∙ extents_same (extents_of (dims a.shape))
bare_keeps f rank (state.Unallocated r) e fits h = let P : Staged Extents → Type 0 = λ o. IsOk o in absurd (subst P (sym h) tt)
