-- What the rules say of a WHERE.
use Rattle.std.proofs.Common.{◌≡◌, subst, ℕ, true, false, List, [], Option, Some}
use Rattle.std.specs.Prelude.{nat_eq, ◌||◌}
use Rattle.ws_base.specs.declared.refusal.RefusalKind.TheVariants as kind
use Rattle.ws_tree.specs.declared.expr.Expr.{Expr}
use Rattle.ws_types.specs.declared.types.Row.{Row}
use Rattle.ws_types.specs.declared.types.Typed.{Typed}
use Rattle.ws_types.specs.Expressions.{typed, faults}
use Rattle.ws_sema.specs.declared.within.Within.TheVariants as within
use Rattle.ws_sema.specs.Statements.{left_faults, left_type, control_faults, mask_faults, is_rank_0, is_other_rank}
use Rattle.ws_sema.proofs.NoFaults.{none_after, not_broken, left_false}
use Rattle.lower_values.specs.Scopes.{Scope}
use Rattle.kind_laws.specs.Standing.{Knows}
use Rattle.kind_laws.proofs.TypedExpressions.{types_are_known}
use Rattle.where_laws.specs.Steps.{TakesWell}

-- an assignment under a mask of a rank above 0
abbrev pub TakesInWhere : Type 0
TakesInWhere = (t : List Row) (line at rank : ℕ) (left right : Expr) (s : Scope) → Knows t s → nat_eq rank 0 ≡ false → left_faults t false line left ≡ [] →
    control_faults (within.Masked at (Some rank)) (left_type t false left) ≡ [] → TakesWell s.names true left right

-- ---- masks

-- a mask in which no rule is broken has a rank above 0
pub record MaskKnown (t : List Row) (line : ℕ) (e : Expr) : Type 0 where
  pub type : Typed
  pub typed : typed t false e ≡ Some type
  pub rank : nat_eq type.rank 0 ≡ false

mask_rank : (line : ℕ) (enclosing : Option ℕ) (ty : Typed) → mask_faults line enclosing (Some ty) ≡ [] → nat_eq ty.rank 0 ≡ false
unfolding mask_faults
mask_rank line enclosing ty h = left_false (is_rank_0 (Some ty)) _ (not_broken (is_rank_0 (Some ty) || is_other_rank enclosing (Some ty)) line kind.RankWrong (none_after _ _ h))

pub mask_known : (t : List Row) (line : ℕ) (enclosing : Option ℕ) (e : Expr) → faults t false line e ≡ [] → mask_faults line enclosing (typed t false e) ≡ [] → MaskKnown t line e
mask_known t line enclosing e f g =
    let known = types_are_known t false line e f in
    record { type = known.0; typed = known.1; rank = mask_rank line enclosing known.0 (subst (λ o. mask_faults line enclosing o ≡ []) known.1 g) }
