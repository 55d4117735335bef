-- The kinds of operands by the types of the expressions that they are made for.
use Rattle.std.proofs.Common.{◌≡◌, refl, sym, ap, ◌∙◌, ℕ, nat_lt, Bool, true, false, List, [], Some, arith, true≢false}
use Rattle.ws_tree.specs.declared.expr.Expr.{Expr}
use Rattle.ws_tree.specs.Grammatical.{IsExpr}
use Rattle.ws_types.specs.declared.types.Row.{Row}
use Rattle.ws_types.specs.declared.types.Typed.{Typed}
use Rattle.ws_types.specs.Operations.{scalar_faults}
use Rattle.ws_types.specs.Expressions.{faults}
use Rattle.hlfir_ops.specs.declared.kinds.Elem.TheVariants.{I32}
use Rattle.hlfir_ops.specs.declared.kinds.ValueKind.{ValueKind}
use Rattle.hlfir_ops.specs.declared.kinds.ValueKind.TheVariants.{Scalar, Place, Declared, Allocatable, Section, Array}
use Rattle.hlfir_ops.specs.RulesValues.{Value, elem_of, rank_of, is_place, is_scalar, same_elem}
use Rattle.lower_values.specs.declared.operand.Operand.{Operand}
use Rattle.lower_assign.specs.Known.{elem}
use Rattle.lower_values.specs.Scopes.{Scope}
use Rattle.lower_values.specs.Values.{value}
use Rattle.kind_laws.specs.Standing.{Knows}
use Rattle.kind_laws.specs.Found.{ScopeIsFound}
use Rattle.kind_laws.specs.Laws.{HasType}
use Rattle.kind_laws.proofs.TypedExpressions.{types_are_known}
use Rattle.kind_laws.proofs.ExpressionsMade.{kinds_are_types}
use Rattle.kind_laws.proofs.TypesTold.{scalar_says, same_elem-same}
use Rattle.yield_laws.proofs.Usable.{IsUsable, IsValue, is_solid}
use Rattle.yield_laws.proofs.Walking.{Walks}
use Rattle.yield_laws.proofs.Values.{walks-expression}

-- usable, and of this type
pub record IsOfType (vs : List Value) (ty : Typed) (x : Operand) : Type 0 where
  pub usable : IsUsable vs x
  pub type : HasType ty x.kind

module _ (vs : List Value) (t : List Row) (inside : Bool) (line : ℕ) (s : Scope) (knows : Knows t s) (scope : ScopeIsFound vs s) where
  pub walks-typed : (e : Expr) → IsExpr e → (f : faults t inside line e ≡ []) → (n : ℕ) → Walks vs (IsValue vs) s n (value e) (IsOfType vs (types_are_known t inside line e f).0)
  walks-typed e h f n held =
      let w = walks-expression vs t inside line s knows scope e h f n held in
      let ty = types_are_known t inside line e f in
      (w.0, record { usable = w.1; type = kinds_are_types t inside line e s n ty.0 h knows f ty.1 })

-- ---- scalars

some_rank : (n : ℕ) → nat_lt 0 n ≡ true → n ≡ 0 → ⊥
some_rank n h g = let same : nat_lt 0 n ≡ false = grind (arith, g) in true≢false (sym h ∙ same)

pub scalar-kind : (k : ValueKind) → is_solid k ≡ true → rank_of k ≡ 0 → is_place (Some k) ≡ false → k ≡ Scalar (elem_of k)
scalar-kind (Scalar e) h r p = refl
scalar-kind (Place e) h r p = absurd (true≢false p)
scalar-kind (Declared e shape) h r p = absurd (some_rank shape.rank h r)
scalar-kind (Allocatable e rank) h r p = absurd (some_rank rank h r)
scalar-kind (Section e rank) h r p = absurd (some_rank rank h r)
scalar-kind (Array e rank) h r p = absurd (some_rank rank h r)

pub scalar-of : (ty : Typed) (truth : Bool) (k : ValueKind) → HasType ty k → is_solid k ≡ true → ty.truth ≡ truth → ty.rank ≡ 0 → is_scalar (elem truth) (Some k) ≡ true
scalar-of ty truth k h solid is none =
    ap (λ q. is_scalar (elem truth) (Some q)) (scalar-kind k solid (h.rank ∙ none) h.value) ∙ (ap (same_elem (elem truth)) (h.elem ∙ ap elem is) ∙ same_elem-same (elem truth))

-- an INTEGER of rank 0
pub integer-scalar : (line : ℕ) (ty : Typed) (k : ValueKind) → HasType ty k → is_solid k ≡ true → scalar_faults line (Some ty) ≡ [] → is_scalar I32 (Some k) ≡ true
integer-scalar line ty k h solid f = let is = scalar_says line ty f in scalar-of ty false k h solid is.0 is.1
