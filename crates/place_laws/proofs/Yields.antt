-- What the regions of a statement yield, and what is found of it.
use Rattle.std.proofs.Common.{◌≡◌, refl, ap, ◌∙◌, ℕ, Bool, true, List, [], ◌∷◌, Some}
use Rattle.std.proofs.lemmas.Bool.{and_from, eq-eqb}
use Rattle.ws_tree.specs.declared.expr.Expr.{Expr}
use Rattle.ws_tree.specs.Grammatical.{IsSide, IsDesignator}
use Rattle.ws_sema.specs.Statements.{left_faults, left_type}
use Rattle.ws_types.specs.declared.types.Typed.{Typed}
use Rattle.ws_types.specs.declared.types.Row.{Row}
use Rattle.ws_types.specs.Expressions.{typed, faults}
use Rattle.hlfir_ops.specs.declared.kinds.ValueKind.{ValueKind}
use Rattle.hlfir_ops.specs.declared.what.What.TheVariants as what
use Rattle.hlfir_ops.specs.declared.op.ValueId.{ValueId}
use Rattle.hlfir_ops.specs.declared.op.Region.{Region}
use Rattle.hlfir_ops.specs.Trees.{region_of}
use Rattle.hlfir_ops.specs.RulesValues.{Value, kind_of, kind_at, value_at, rank_of, has_rank}
use Rattle.hlfir_ops.specs.RulesRegions.{parts, parts_in}
use Rattle.hlfir_ops.specs.RulesStatements.{have_rank}
use Rattle.kind_laws.specs.Standing.{Knows}
use Rattle.kind_laws.specs.Found.{Holds, ScopeIsFound}
use Rattle.kind_laws.specs.Laws.{HasType}
use Rattle.kind_laws.proofs.ExpressionsMade.{kinds_are_types}
use Rattle.kind_laws.proofs.ExpressionsFound.{values_are_found}
use Rattle.kind_laws.proofs.Sides.{sides_are_expressions, lefts_are_found}
use Rattle.lower_values.specs.declared.operand.Operand.{Operand}
use Rattle.lower_values.specs.Scopes.{Scope}
use Rattle.lower_values.specs.Lowerings.{Lowering, scoped, acting}
use Rattle.lower_values.specs.Values.{value}
use Rattle.lower_assign.specs.Statements.{yielded, left}
use Rattle.kind_laws.proofs.Held.{held-first}
use Rattle.kind_laws.proofs.Ends.{ops_in-first, ops_in-second, parts-yielded}

-- ---- yields

-- what a region yields that holds `yielded p`
pub first-yield : (p : Lowering Operand) (s : Scope) (n : ℕ) (rest : List Region) → parts_in (region_of (yielded p s n).ops ∷ rest) 0 ≡ (p s n).made.value ∷ []
first-yield p s n rest = ap parts (ops_in-first (yielded p s n).ops rest) ∙ parts-yielded p s n

pub second-yield : (p : Lowering Operand) (s : Scope) (n : ℕ) (first : Region) (rest : List Region) → parts_in (first ∷ region_of (yielded p s n).ops ∷ rest) 1 ≡ (p s n).made.value ∷ []
second-yield p s n first rest = ap parts (ops_in-second first (yielded p s n).ops rest) ∙ parts-yielded p s n

-- ---- kinds

-- a value of this type is found
pub record HasKind (vs : List Value) (v : ValueId) (ty : Typed) : Type 0 where
  pub kind : ValueKind
  pub found : kind_at vs v ≡ Some kind
  pub type : HasType ty kind

module _ (vs : List Value) where
  pub value-kind : (t : List Row) (inside : Bool) (line : ℕ) (e : Expr) (s : Scope) (n : ℕ) (ty : Typed) → IsSide e → Knows t s → faults t inside line e ≡ [] → typed t inside e ≡ Some ty → ScopeIsFound vs s →
      Holds vs n (yielded (value e) s n).ops → HasKind vs (value e s n).made.value ty
  value-kind t inside line e s n ty g k f h w held =
      let x = (value e s n).made in
      let is = values_are_found t inside line e s n vs k f w (held-first vs (value e) (λ x. acting what.Yield (x.value ∷ [])) s n held) in
      record { kind = x.kind; found = ap kind_of is.found ∙ ap Some is.kind; type = kinds_are_types t inside line e s n ty (sides_are_expressions t inside line e g f) k f h }

-- a value of this rank
pub one_rank : (vs : List Value) (n : ℕ) (v : ValueId) (ps : List ValueId) (kind : ValueKind) → ps ≡ v ∷ [] → kind_at vs v ≡ Some kind → rank_of kind ≡ n → have_rank vs n ps ≡ true
one_rank vs n v ps kind is found rank =
    ap (have_rank vs n) is ∙ and_from (has_rank n (kind_at vs v)) true (ap (has_rank n) found ∙ eq-eqb (rank_of kind) n rank) refl

-- ---- left sides

-- what a left side makes is found, with the rank of its type
pub record LeftIsFound (t : List Row) (inside : Bool) (vs : List Value) (e : Expr) (v : ValueId) : Type 0 where
  pub type : Typed
  pub left : left_type t inside e ≡ Some type
  pub value : Value
  pub found : value_at vs v ≡ Some value
  pub rank : rank_of value.kind ≡ type.rank

pub left-found : (t : List Row) (inside : Bool) (line : ℕ) (e : Expr) (s : Scope) (n : ℕ) (vs : List Value) → IsDesignator e → Knows t s → left_faults t inside line e ≡ [] → ScopeIsFound vs s → Holds vs n (left e s n).ops →
    LeftIsFound t inside vs e (left e s n).made.value
unfolding left scoped
left-found t inside line e s n vs g k f w h =
    let is = lefts_are_found t inside line s.masked e s n vs g k f w h in record { type = is.0; left = is.1; value = is.2.value; found = is.2.found; rank = ap rank_of is.2.kind ∙ is.2.rank }
