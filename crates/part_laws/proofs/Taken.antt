-- What a designator may take as a subscript: what is settled, whole arrays, and variables by their names.
use Rattle.std.proofs.Common.{◌≡◌, refl, sym, ◌∙◌, subst, ℕ, zero, suc, ◌<◌, ◌≤◌, ◌==◌, false, List, [], ◌∷◌, length, take, All, ℤ, arith}
use Rattle.std.proofs.lemmas.Bool.{true≢false}
use Rattle.std.proofs.lemmas.List.Elements.{All-nil, All-cons}
use Rattle.ws_base.specs.Outcomes.{Staged}
use Rattle.ws_space.specs.declared.shape.Dim.{Dim}
use Rattle.ws_space.specs.declared.state.ArrayValue.{ArrayValue}
use Rattle.ws_space.specs.declared.state.VarState.{VarState}
use Rattle.ws_space.specs.declared.state.VarState.TheVariants as state
use Rattle.ws_space.specs.declared.state.Var.{Var}
use Rattle.ws_space.specs.Shapes.{extents_of}
use Rattle.array_meaning.specs.declared.term.Term.{Term}
use Rattle.array_meaning.specs.declared.term.Term.TheVariants as term
use Rattle.array_meaning.specs.Terms.{terms_open}
use Rattle.array_meaning.specs.Stage1 as source
use Rattle.array_meaning.specs.Stage2 as later
use Rattle.hlfir_ops.specs.declared.kinds.ValueKind.{ValueKind}
use Rattle.hlfir_ops.specs.declared.kinds.ValueKind.TheVariants as kind
use Rattle.hlfir_ops.specs.declared.op.ValueId.{ValueId}
use Rattle.hlfir_ops.specs.RulesValues.{rank_of}
use Rattle.hlfir_meaning.specs.Environments.{Value, variable, Environment}
use Rattle.hlfir_meaning.specs.Stage1.{stage1}
use Rattle.lower_values.specs.declared.operand.Operand.{Operand}
use Rattle.lower_values.specs.Scopes.{Scope}
use Rattle.lower_values.specs.Lowerings.{Lowering, done, giving, ◌>>=◌ as ◌then◌}
use Rattle.lower_values.specs.References.{boxed, loaded}
use Rattle.value_laws.specs.Standing.{Does, Stands, StandsSettled}
use Rattle.value_laws.specs.Variables.{IsArrayOf, Fits, IsWhole, IsNamed, IsWholeWhereNamed}
use Rattle.value_laws.proofs.Names.{whole_operands, does-variable, named_by}
use Rattle.value_laws.proofs.Walking.{goes-weaker}
use Rattle.part_laws.specs.Parts.{IsHeld, IsOfRankOne, HasOneDimension, IsTaken, StandsTaken}

-- ---- settled values

pub listed-dimension : (xs : List ℤ) → HasOneDimension (term.Listed xs)
listed-dimension xs = All-cons IsOfRankOne (length xs ∷ []) [] tt (All-nil IsOfRankOne)

pub settled-taken : (base low high : ℕ) (env : Environment) (x : Operand) (t : Term) → StandsSettled base low high env x t → StandsTaken base low high env x t
settled-taken base low high env x (term.Scalar z) h = (h, tt)
settled-taken base low high env x (term.Listed xs) h = (h.0, (subst IsHeld (sym h.1) tt, λ few. listed-dimension xs))
settled-taken base low high env x t h = absurd h

-- ---- whole arrays

dims_one : (rank : ℕ) (d e f : Dim) → rank ≡ 1 → All IsOfRankOne (later.array_operand (extents_of (take rank (d ∷ e ∷ f ∷ []))))
dims_one rank d e f is = subst (λ k. All IsOfRankOne (later.array_operand (extents_of (take k (d ∷ e ∷ f ∷ []))))) (sym is) (All-cons IsOfRankOne (d.extent ∷ []) [] tt (All-nil IsOfRankOne))

only_one : (k : ℕ) → (k == 0) ≡ false → k ≤ 1 → k ≡ 1
only_one zero some few = absurd (true≢false some)
only_one (suc zero) some few = refl
only_one (suc (suc k)) some few = absurd (omega (arith, few))

array_dimension : (rank : ℕ) (a : ArrayValue) → IsArrayOf rank a → rank ≤ 1 → HasOneDimension (source.whole_array a)
array_dimension rank a fits few = subst (All IsOfRankOne) (sym (whole_operands a)) (dims_one a.shape.rank a.shape.d1 a.shape.d2 a.shape.d3 (fits.same ∙ only_one rank fits.some few))

whole_taken : (k : ValueKind) (val : Value) (v : Var) (a : ArrayValue) → IsArrayOf (rank_of k) a → val ≡ variable v → IsTaken k val (source.whole_array a)
unfolding terms_open
whole_taken k val v a fits is = (subst IsHeld (sym is) tt, λ few. array_dimension (rank_of k) a fits few)

by_whole : (k : ValueKind) (val v : Value) (t : Term) → IsWhole (rank_of k) v t → val ≡ v → IsTaken k val t
by_whole k val v t h is = subst (IsTaken k val) (sym h.term) (whole_taken k val h.var h.array h.fits (is ∙ h.value))

named_taken : (k : ValueKind) (val v : Value) (t : Term) → IsNamed k → IsWholeWhereNamed k v t → val ≡ v → IsTaken k val t
named_taken (kind.Declared e shape) val v t named h is = by_whole (kind.Declared e shape) val v t h is
named_taken (kind.Allocatable e rank) val v t named h is = by_whole (kind.Allocatable e rank) val v t h is
named_taken k val v t named h is = absurd named

pub whole-taken : (base low high : ℕ) (env : Environment) (x : Operand) (t : Term) → IsNamed x.kind → Stands base low high env x t → StandsTaken base low high env x t
whole-taken base low high env x t named h = (h, named_taken x.kind (env x.value.number) h.value t named h.whole h.found)

-- ---- variables

module _ (vectors : List ℕ) (base low : ℕ) (s : Scope) (n : ℕ) (env : Environment) (p : Lowering Operand) (r : Staged Term) where
  does_named : IsNamed (p s n).made.kind → Does vectors s n env p r (λ x t m after. Stands base low m after x t) → Does vectors s n env p r (λ x t m after. StandsTaken base low m after x t)
  does_named named h = goes-weaker (stage1 vectors) n env (p s n).ops (λ t after. Stands base low _ after (p s n).made t) (λ t after. StandsTaken base low _ after (p s n).made t) r
      (λ t after kept is. whole-taken base low _ after (p s n).made t named is) h

module _ (vectors : List ℕ) (base low : ℕ) (s : Scope) (n : ℕ) (env : Environment) (v : Var) (id : ValueId) (g : base ≤ low) (l : low ≤ n) (declared : id.number < base) (found : env id.number ≡ variable v) where
  abbrev Leaves : Operand → Term → ℕ → Environment → Type 0
  Leaves x t m after = StandsTaken base low m after x t

  pub does-variable_taken : (k : ValueKind) (held : VarState) → v.state ≡ held → Fits k held → Does vectors s n env (named_by id k) (source.variable held) Leaves
  unfolding boxed loaded done giving ◌then◌
  does-variable_taken (kind.Place e) (state.Scalar z) is h = let d = does-variable vectors base low s n env v id g l declared found (kind.Place e) (state.Scalar z) is h in (d.0, d.1, (d.2, tt))
  does-variable_taken (kind.Declared e shape) held is h =
      does_named vectors base low s n env (named_by id (kind.Declared e shape)) (source.variable held) tt (does-variable vectors base low s n env v id g l declared found (kind.Declared e shape) held is h)
  does-variable_taken (kind.Allocatable e rank) held is h =
      does_named vectors base low s n env (named_by id (kind.Allocatable e rank)) (source.variable held) tt (does-variable vectors base low s n env v id g l declared found (kind.Allocatable e rank) held is h)
  does-variable_taken k held is h = absurd h
