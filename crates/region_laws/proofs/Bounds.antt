-- The bounds that a region's value hands on are those of its source: of a whole array where it is a name, and else from 1.
use Rattle.std.proofs.Common.{◌≡◌, refl, sym, ap, ◌∙◌, subst, ℕ, ◌==◌, true, false, Option, Some, None, Ok, Err, ℤ, pos}
use Rattle.std.proofs.lemmas.Bool.{true≢false}
use Rattle.ws_base.specs.Outcomes.{Staged}
use Rattle.ws_space.specs.declared.state.ArrayValue.{ArrayValue}
use Rattle.ws_space.specs.declared.state.VarState.{VarState}
use Rattle.ws_space.specs.declared.state.VarState.TheVariants as state
use Rattle.ws_space.specs.Shapes.{Extents}
use Rattle.array_meaning.specs.declared.term.Term.{Term}
use Rattle.array_meaning.specs.declared.term.Term.TheVariants as term
use Rattle.array_meaning.specs.Stage1 as source
use Rattle.array_meaning.specs.Stage2.{array_of}
use Rattle.array_meaning.specs.Assign as assigned
use Rattle.hlfir_ops.specs.declared.kinds.ValueKind.{ValueKind}
use Rattle.hlfir_ops.specs.declared.kinds.ValueKind.TheVariants as kind
use Rattle.hlfir_ops.specs.RulesValues.{rank_of}
use Rattle.hlfir_meaning.specs.Environments.{Value, scalar, Environment}
use Rattle.hlfir_meaning.specs.Assign.{new_bounds}
use Rattle.hlfir_meaning.specs.Assign as hlfir
use Rattle.lower_values.specs.declared.operand.Operand.{Operand}
use Rattle.value_laws.specs.Standing.{Stands}
use Rattle.value_laws.specs.Variables.{IsNamed, IsWhole, IsWholeWhereNamed}
use Rattle.value_laws.proofs.Walking.{same-ok}

-- what a name leaves: a scalar, or a variable that holds the whole array
abbrev pub IsNamedValue : Value → Term → Type 0
IsNamedValue v (term.Scalar z) = v ≡ scalar z
IsNamedValue v t = (rank : ℕ) × IsWhole rank v t

abbrev IsRanked : ValueKind → Type 0
IsRanked k = (IsNamed k → ⊥) → (rank_of k == 0) ≡ true

whole_named : (k : ValueKind) (v : Value) (t : Term) → IsRanked k → (rank_of k == 0) ≡ false → IsWholeWhereNamed k v t → (rank : ℕ) × IsWhole rank v t
whole_named (kind.Declared e shape) v t ranked some h = (shape.rank, h)
whole_named (kind.Allocatable e rank) v t ranked some h = (rank, h)
whole_named k v t ranked some h = absurd (true≢false (sym (ranked (λ n. n)) ∙ some))

pub named-value : (base low high : ℕ) (env : Environment) (x : Operand) (t : Term) → IsRanked x.kind → Stands base low high env x t → IsNamedValue (env x.value.number) t
named-value base low high env x (term.Scalar z) ranked h = h.found ∙ h.rank.1
named-value base low high env x t ranked h = subst (λ v. (rank : ℕ) × IsWhole rank v t) (sym h.found) (whole_named x.kind h.value t ranked h.rank h.whole)

-- ---- bounds

or_this : ArrayValue → Option ArrayValue → ArrayValue
or_this a None = a
or_this a (Some b) = b

same_array : (a b : ArrayValue) → source.whole_array a ≡ source.whole_array b → a ≡ b
unfolding or_this
same_array a b h = ap (λ t. or_this a (array_of t)) h

abbrev IsOk : {A : Type 0} → Staged A → Type 0
IsOk (Ok a) = Unit {0}
IsOk (Err t) = ⊥

module _ (v : Value) (e : Extents) where
  whole_bounds : (rank : ℕ) (a : ArrayValue) → IsWhole rank v (source.whole_array a) → new_bounds v e ≡ assigned.bounds_from (state.Array a) e
  whole_bounds rank a h = ap (λ u. new_bounds u e) h.value ∙ (ap (λ s. hlfir.bounds_from s e) h.holds ∙ ap (λ b. hlfir.bounds_from (state.Array b) e) (sym (same_array a h.array h.term)))

  scalar_bounds : (z : ℤ) → v ≡ scalar z → new_bounds v e ≡ assigned.bounds_from (state.Scalar (pos 0)) e
  scalar_bounds z h = ap (λ u. new_bounds u e) h

  variable_bounds : (held : VarState) (t : Term) → source.variable held ≡ Ok t → IsNamedValue v t → new_bounds v e ≡ assigned.bounds_from held e
  variable_bounds (state.Scalar z) t is h = scalar_bounds z (subst (IsNamedValue v) (sym (same-ok (term.Scalar z) t is)) h)
  variable_bounds (state.Array a) t is h = let whole = subst (IsNamedValue v) (sym (same-ok (source.whole_array a) t is)) h in whole_bounds whole.0 a whole.1
  variable_bounds (state.Unallocated r) t is h = absurd (subst IsOk (sym is) tt)

  -- a name that is a constant holds nothing
  pub named-bounds : (c : Option ℤ) (held : VarState) (t : Term) → source.named c held ≡ Ok t → ((z : ℤ) → c ≡ Some z → held ≡ state.Scalar (pos 0)) → IsNamedValue v t → new_bounds v e ≡ assigned.bounds_from held e
  named-bounds None held t is none h = variable_bounds held t is h
  named-bounds (Some z) held t is none h = scalar_bounds z (subst (IsNamedValue v) (sym (same-ok (term.Scalar z) t is)) h) ∙ ap (λ s. assigned.bounds_from s e) (sym (none z refl))
