-- What is lowered from an expression in which no rule is broken is found among the values of its module.
use Rattle.std.proofs.Common.{◌≡◌, refl, sym, ℕ, Bool, true, false, ◌++◌, List, [], ◌∷◌, Option, Some, None, pos, if◌then◌else◌, true≢false}
use mathlib.Core.Former.{Count}
use Rattle.ws_base.specs.Numbers.{truth}
use Rattle.ws_base.specs.declared.refusal.Refusal.{Refusal}
use Rattle.ws_base.specs.declared.refusal.RefusalKind.TheVariants as kind
use Rattle.ws_tree.specs.declared.expr.Expr.{Expr}
use Rattle.ws_tree.specs.declared.expr.Expr.TheVariants.{Number, TooWide, TooDeep, Truth, Named, Part', Call', Vector'}
use Rattle.ws_tree.specs.Trees.{Exprs, end_exprs, more_exprs, paren, unary, binary}
use Rattle.ws_types.specs.declared.types.Row.{Row}
use Rattle.ws_types.specs.Kinds.{when}
use Rattle.ws_types.specs.Names.{standing_of}
use Rattle.ws_types.specs.Operations.{takes, is_inquiry}
use Rattle.ws_types.specs.Expressions.{listed, faults, all_faults, wide_faults}
use Rattle.ws_sema.proofs.NoFaults.{none_first, none_after, impossible}
use Rattle.hlfir_ops.specs.declared.kinds.Elem.TheVariants.{I32, I1}
use Rattle.hlfir_ops.specs.declared.what.ValueBinary.{ValueBinary}
use Rattle.hlfir_ops.specs.declared.what.What.TheVariants as what
use Rattle.hlfir_ops.specs.RulesValues.{Value}
use Rattle.hlfir_ops.specs.RulesForms.{result_elem}
use Rattle.lower_values.specs.declared.operand.Operand.{Operand}
use Rattle.lower_values.specs.Scopes.{Scope}
use Rattle.lower_values.specs.Lowerings.{Lowering, ◌>>=◌}
use Rattle.lower_values.specs.Operations.{binary_of, binary_operation, in_parentheses, unary_operation, nesting_of, joined, call_on, vector}
use Rattle.lower_values.specs.References.{loaded, named, reference, designated, inquiry}
use Rattle.lower_values.specs.Values.{call_by, part_of, value, values, nested, subscripts}
use Rattle.kind_laws.specs.Standing.{Knows}
use Rattle.kind_laws.specs.Found.{Found, ScopeIsFound}
use Rattle.kind_laws.specs.Laws.{ValuesAreFound}
use Rattle.kind_laws.proofs.FormsMade.{parts_faultless, is_nesting}
use Rattle.kind_laws.proofs.ExpressionsMade.{HasOne, has_one}
use Rattle.kind_laws.proofs.Finding.{Finds, finds-done, finds-then, finds-next}
use Rattle.kind_laws.proofs.FormsFound.{constant_found, operation_found, parentheses_found, unary_found, folded_found, loaded_found, name_found, all_found, vector_found, inquiry_found, designated_found}

-- what the rules on a call leave
call_right : (right b : Bool) (line : ℕ) (asked parts rules : List Refusal) → (if right then (if b then asked else (parts ++ rules)) else when true line kind.Unsupported) ≡ [] → right ≡ true
call_right false b line asked parts rules f = impossible line kind.Unsupported f
call_right true b line asked parts rules f = refl

asked_faultless : (right b : Bool) (line : ℕ) (asked parts rules : List Refusal) → b ≡ true → (if right then (if b then asked else (parts ++ rules)) else when true line kind.Unsupported) ≡ [] → asked ≡ []
asked_faultless false b line asked parts rules h f = impossible line kind.Unsupported f
asked_faultless true true line asked parts rules h f = f
asked_faultless true false line asked parts rules h f = absurd (true≢false (sym h))

module _ (vs : List Value) where
  by_call : (s : Scope) (o : Option ValueBinary) (b : Bool) (p : ValueBinary → Lowering Operand) (q r : Lowering Operand) → ((op : ValueBinary) → o ≡ Some op → Finds vs s (Found vs) (p op)) → (b ≡ true → Finds vs s (Found vs) q) →
      Finds vs s (Found vs) r → Finds vs s (Found vs) (call_by o b p q r)
  by_call s (Some op) b p q r f g h = f op refl
  by_call s None true p q r f g h = g refl
  by_call s None false p q r f g h = h

  -- what was made of the arguments before, if there are any
  abbrev IsFound : Option Operand → Type 0
  IsFound None = Unit {0}
  IsFound (Some x) = Found vs x

  joined_found : (s : Scope) (op : ValueBinary) (before : Option Operand) (y : Operand) → Found vs y → Finds vs s (Found vs) (joined op before y)
  joined_found s op None y h = finds-done vs s (Found vs) y h
  joined_found s op (Some x) y h = operation_found vs s (what.Binary op) (result_elem op) (x ∷ y ∷ []) refl

  module _ (t : List Row) (inside : Bool) (line : ℕ) (s : Scope) (k : Knows t s) (all : ScopeIsFound vs s) where
    mutual
      unfolding part_of wide_faults

      pub value_found : (e : Expr) → faults t inside line e ≡ [] → Finds vs s (Found vs) (value e)
      value_found (Number n) f = constant_found vs s I32 (pos n)
      value_found TooWide f = constant_found vs s I32 (pos 0)
      value_found TooDeep f = constant_found vs s I32 (pos 0)
      value_found (Truth b) f = constant_found vs s I1 (truth b)
      value_found (Named x) f = folded_found vs s (Named x) (named x) (name_found vs line s x (standing_of t x) (k x) f all)
      value_found (Part' x _ subs) f =
          finds-then vs s (Found vs) (Found vs) (part_of x (λ r. subscripts r 1 subs)) loaded
          (finds-next vs s (Found vs) (reference x) (λ r. subscripts r 1 subs >>= designated r) (λ r. finds-next vs s (Found vs) (subscripts r 1 subs) (designated r) (λ ss. designated_found vs s r ss)))
          (λ p found. loaded_found vs s p found)
      value_found (Call' w _ es) f =
          let asked = takes w (listed es) in
          by_call s (nesting_of w) (is_inquiry w) (λ op. nested op None es) (inquiry w (listed es)) (values es >>= call_on w)
          (λ op is. let nests = is_nesting w op is in
          nested_found op None es (has_one es (nests.many (listed es) (call_right asked (is_inquiry w) line _ (all_faults t inside line es) _ f))) tt
          (parts_faultless asked (is_inquiry w) line _ (all_faults t inside line es) _ nests.asks f))
          (λ is. inquiry_found vs t line s w (listed es) (asked_faultless asked (is_inquiry w) line _ (all_faults t inside line es) _ is f))
          (finds-next vs s (Found vs) (values es) (call_on w) (λ xs. all_found vs s w xs))
      value_found (Vector' _ es) f = finds-next vs s (Found vs) (values es) vector (λ xs. vector_found vs s xs)
      value_found (paren e) f =
          folded_found vs s (paren e) (value e >>= in_parentheses)
          (finds-then vs s (Found vs) (Found vs) (value e) in_parentheses (value_found e f) (λ x found. parentheses_found vs s x found))
      value_found (unary op e) f =
          folded_found vs s (unary op e) (value e >>= unary_operation op)
          (finds-then vs s (Found vs) (Found vs) (value e) (unary_operation op) (value_found e (none_first _ _ f)) (λ x found. unary_found vs s op x found))
      value_found (binary op a b) f =
          folded_found vs s (binary op a b) (value a >>= (λ x. value b >>= binary_operation (binary_of op) x))
          (finds-next vs s (Found vs) (value a) (λ x. value b >>= binary_operation (binary_of op) x)
          (λ x. finds-next vs s (Found vs) (value b) (binary_operation (binary_of op) x) (λ y. operation_found vs s (what.Binary (binary_of op)) (result_elem (binary_of op)) (x ∷ y ∷ []) refl)))

      nested_found : {m : Count} (op : ValueBinary) (before : Option Operand) (es : Exprs m) → HasOne before es → IsFound before → all_faults t inside line es ≡ [] → Finds vs s (Found vs) (nested op before es)
      nested_found op None end_exprs o b f = absurd o
      nested_found op (Some x) end_exprs o b f = finds-done vs s (Found vs) x b
      nested_found op before (more_exprs e es) o b f =
          finds-then vs s (Found vs) (Found vs) (value e) (λ y. joined op before y >>= (λ z. nested op (Some z) es)) (value_found e (none_first _ _ f))
          (λ y here. finds-then vs s (Found vs) (Found vs) (joined op before y) (λ z. nested op (Some z) es) (joined_found s op before y here)
          (λ z found. nested_found op (Some z) es tt found (none_after _ _ f)))

pub values_are_found : ValuesAreFound
values_are_found t inside line e s n vs k f all held = value_found vs t inside line s k all e f n held
