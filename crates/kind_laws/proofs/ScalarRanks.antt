-- Inside a FORALL the parts of an expression of rank 0 have rank 0.
use Rattle.std.proofs.Common.{◌≡◌, refl, sym, ap, ◌∙◌, ℕ, ◌+◌, Bool, true, false, ◌||◌, List, [], ◌∷◌, Some, nat_lt, nat_eq, max, if◌then◌else◌, arith}
use Rattle.std.proofs.lemmas.Bool.{ltb-false}
use mathlib.Core.Former.{Count}
use Rattle.ws_base.specs.declared.op.CallWord.{CallWord}
use Rattle.ws_base.specs.declared.refusal.RefusalKind.TheVariants as kind
use Rattle.ws_tree.specs.declared.expr.Expr.{Expr}
use Rattle.ws_tree.specs.declared.expr.Expr.TheVariants.{Number}
use Rattle.ws_tree.specs.declared.expr.Sub.TheVariants as sub
use Rattle.ws_tree.specs.Trees.{Exprs, Subs, end_subs, more_subs}
use Rattle.ws_types.specs.declared.types.Typed.{Typed}
use Rattle.ws_types.specs.declared.types.Row.{Row}
use Rattle.ws_types.specs.declared.types.Arguments.{Arguments}
use Rattle.ws_types.specs.declared.types.Subscripts.{Subscripts}
use Rattle.ws_types.specs.Operations.{takes, is_inquiry, is_reduction, with_subscript, no_arguments, with_argument, vector_faults, call_type, is_outside}
use Rattle.ws_types.specs.Expressions.{listed, typed, arguments, all_faults, subs_faults, called_type, called_faults}
use Rattle.ws_types.specs.Expressions as types
use Rattle.ws_sema.proofs.NoFaults.{none_first, none_after, impossible, left_false}
use Rattle.kind_laws.proofs.TypeFacts.{not_chosen}
use Rattle.kind_laws.proofs.TypedExpressions.{type_known}
use Rattle.kind_laws.proofs.Arguments.{argued}
use Rattle.kind_laws.proofs.CallsMade.{call_result, call_result-is}
use Rattle.kind_laws.proofs.FormsMade.{AreTyped, types_known, arguments-are, call_typed, parts_faultless}

pub both_zero : (a b : ℕ) → max a b ≡ 0 → (a ≡ 0) × (b ≡ 0)
both_zero a b h = (omega (arith, h), omega (arith, h))

abbrev pub AllScalar : List Typed → Type 0
AllScalar [] = Unit {0}
AllScalar (a ∷ tys) = (a.rank ≡ 0) × AllScalar tys

pub arguments_scalar : (c : Arguments) (tys : List Typed) → (argued c tys).rank ≡ 0 → (c.rank ≡ 0) × AllScalar tys
arguments_scalar c [] h = (h, tt)
arguments_scalar c (a ∷ tys) h = let rest = arguments_scalar (with_argument c (Some a)) tys h in let zero = both_zero c.rank a.rank rest.0 in (zero.0, (zero.1, rest.1))

pub subscript_scalar : (c : Subscripts) (a : Typed) → (with_subscript c (Some a)).rank ≡ 0 → (c.rank ≡ 0) × (a.rank ≡ 0)
subscript_scalar c a h = at (nat_lt 0 a.rank) refl h where
  at : (b : Bool) → nat_lt 0 a.rank ≡ b → (if b then c.rank + 1 else c.rank) ≡ 0 → (c.rank ≡ 0) × (a.rank ≡ 0)
  at true is e = absurd (omega (arith, e))
  at false is e = (e, let low = ltb-false 0 a.rank is in omega (arith, low))

pub one_more : {P : Type 0} (m : ℕ) → m + 1 ≡ 0 → P
one_more m h = absurd (omega (arith, h))

pub subscripts_scalar : {m : Count} (t : List Row) (line : ℕ) (c : Subscripts) (ss : Subs m) → subs_faults t true line ss ≡ [] → (types.subscripts t true c ss).rank ≡ 0 → c.rank ≡ 0
subscripts_scalar t line c end_subs f h = h
subscripts_scalar t line c (more_subs (sub.One e) ss) f h =
    let one = type_known t true line e (none_first _ _ (none_first _ _ f)) in
    let next = subscripts_scalar t line (with_subscript c (typed t true e)) ss (none_after _ _ f) h in
    (subscript_scalar c one.0 (ap (λ o. (with_subscript c o).rank) (sym one.1) ∙ next)).0
subscripts_scalar t line c (more_subs (sub.Range' l u st) ss) f h =
    let next : c.rank + 1 ≡ 0 = subscripts_scalar t line (types.with_sub t true c (sub.Range' l u st)) ss (none_after _ _ f) h in one_more c.rank next

-- FORALL has no constructors
pub no_vector : {P : Type 0} (line count : ℕ) (a : Arguments) → vector_faults line true count a ≡ [] → P
unfolding vector_faults
no_vector line count a f = impossible line kind.Unsupported (none_first _ _ (none_first _ _ f))

-- a call of rank 0 that is no inquiry is no reduction, and its arguments have rank 0
call_scalar : (w : CallWord) (a : Arguments) (ty : Typed) → call_type true w a ≡ Some ty → ty.rank ≡ 0 → (is_reduction w ≡ false) × (a.rank ≡ 0)
unfolding call_type
call_scalar w a ty h z =
    let none : is_reduction w ≡ false = left_false _ _ (left_false _ _ (left_false _ _ (not_chosen _ (Some (call_result w a)) ty h))) in
    let rank : (if is_reduction w then 0 else a.rank) ≡ 0 = ap (λ y. y.rank) (call_result-is true w a ty h) ∙ z in
    (none, ap (λ b. if b then 0 else a.rank) (sym none) ∙ rank)

-- the types of the arguments, that their rules are kept, and their ranks
pub called_scalar : {m : Count} (t : List Row) (line : ℕ) (w : CallWord) (es : Exprs m) (ty : Typed) → is_inquiry w ≡ false →
    called_faults t true line w (listed es) (all_faults t true line es) (arguments t true no_arguments es) ≡ [] → called_type t true w (listed es) (arguments t true no_arguments es) ≡ Some ty → ty.rank ≡ 0 →
    (tys : List Typed) × (all_faults t true line es ≡ []) × AreTyped t true es tys × (is_reduction w ≡ false) × AllScalar tys × ((argued no_arguments tys).rank ≡ 0)
called_scalar t line w es ty i f h z =
    let none = parts_faultless (takes w (listed es)) (is_inquiry w) line _ (all_faults t true line es) _ i f in
    let known = types_known t true line es none in
    let same = arguments-are t true no_arguments es known.0 known.1 in
    let type : call_type true w (argued no_arguments known.0) ≡ Some ty = ap (call_type true w) (sym same) ∙ call_typed (takes w (listed es)) (is_inquiry w) _ _ ty h i in
    let scalar = call_scalar w (argued no_arguments known.0) ty type z in
    (known.0, none, known.1, scalar.0, (arguments_scalar no_arguments known.0 scalar.1).1, scalar.1)

-- what has rank 0 has no dimension
pub outside_zero : (es : List Expr) → is_outside 0 es ≡ true
outside_zero [] = refl
outside_zero (x ∷ []) = refl
outside_zero (x ∷ Number d ∷ es) = by (nat_eq d 0) refl where
  by : (b : Bool) → nat_eq d 0 ≡ b → (b || nat_lt 0 d) ≡ true
  by true is = refl
  by false is = grind (arith, is)
outside_zero (x ∷ e ∷ es) = refl
