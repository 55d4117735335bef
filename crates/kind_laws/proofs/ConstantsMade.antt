-- An expression that has a value among the constants is an INTEGER scalar, and what is made of it then.
use Rattle.std.proofs.Common.{◌≡◌, refl, sym, ap, ◌∙◌, ℕ, Bool, true, false, List, [], Some, ℤ, nat_lt, if◌then◌else◌, true≢false}
use Rattle.ws_base.specs.declared.op.UnOp.{UnOp}
use Rattle.ws_base.specs.declared.op.BinOp.{BinOp}
use Rattle.ws_base.specs.declared.op.BinOp.TheVariants as bin
use Rattle.ws_tree.specs.declared.expr.Expr.{Expr}
use Rattle.ws_tree.specs.declared.expr.Expr.TheVariants.{Number, TooWide, TooDeep, Named}
use Rattle.ws_tree.specs.Trees.{paren, unary, binary}
use Rattle.ws_types.specs.declared.constant.Constancy.{Constancy}
use Rattle.ws_types.specs.declared.constant.Constancy.TheVariants.{Value, NoValue, NotConstant}
use Rattle.ws_types.specs.declared.types.Typed.{Typed}
use Rattle.ws_types.specs.declared.types.Row.{Row}
use Rattle.ws_types.specs.Names.{standing_of, integer}
use Rattle.ws_types.specs.Constants.{constancy, is_sign, is_arithmetic, signed, joined}
use Rattle.ws_types.specs.Operations.{gives_truth}
use Rattle.ws_types.specs.Expressions.{number_limit, typed, faults}
use Rattle.ws_sema.proofs.NoFaults.{none_first, none_after}
use Rattle.hlfir_ops.specs.declared.kinds.Elem.TheVariants.{I32}
use Rattle.lower_values.specs.declared.operand.Operand.{Operand}
use Rattle.lower_values.specs.Scopes.{Scope}
use Rattle.lower_values.specs.Lowerings.{Lowering}
use Rattle.lower_values.specs.Values.{constant_or, folded}
use Rattle.kind_laws.specs.Standing.{Knows}
use Rattle.kind_laws.proofs.TypedExpressions.{type_known}
use Rattle.kind_laws.proofs.TypeFacts.{same_type, no_type, chosen_type, unary_operand, joined_types, binary_result}
use Rattle.kind_laws.proofs.Made.{Makes, makes-scoped, IsOf, constant_made}
use Rattle.kind_laws.proofs.NamesMade.{no_value, name_value, HasNoValue}

-- ---- values of constant expressions

has_none : {P : Type 0} (z : ℤ) → NoValue ≡ Value z → P
has_none z e = absurd (let h = e in cc)

signed_value : (b : Bool) (op : UnOp) (c : Constancy) (z : ℤ) → (if b then signed op c else NotConstant) ≡ Value z → (y : ℤ) × (c ≡ Value y)
signed_value true op (Value y) z e = (y, refl)
signed_value true op NoValue z e = has_none z e
signed_value true op NotConstant z e = no_value z e
signed_value false op c z e = no_value z e

joined_left : (b : Bool) (op : BinOp) (c d : Constancy) (z : ℤ) → (if b then joined op c d else NotConstant) ≡ Value z → (y : ℤ) × (c ≡ Value y)
joined_left true op (Value x) d z e = (x, refl)
joined_left true op NoValue (Value y) z e = has_none z e
joined_left true op NoValue NoValue z e = has_none z e
joined_left true op NoValue NotConstant z e = no_value z e
joined_left true op NotConstant d z e = no_value z e
joined_left false op c d z e = no_value z e

joined_right : (b : Bool) (op : BinOp) (c d : Constancy) (z : ℤ) → (if b then joined op c d else NotConstant) ≡ Value z → (y : ℤ) × (d ≡ Value y)
joined_right true op c (Value y) z e = (y, refl)
joined_right true op (Value x) NoValue z e = has_none z e
joined_right true op NoValue NoValue z e = has_none z e
joined_right true op NotConstant NoValue z e = no_value z e
joined_right true op (Value x) NotConstant z e = no_value z e
joined_right true op NoValue NotConstant z e = no_value z e
joined_right true op NotConstant NotConstant z e = no_value z e
joined_right false op c d z e = no_value z e

arithmetic_value : (b : Bool) (c : Constancy) (z : ℤ) → (if b then c else NotConstant) ≡ Value z → b ≡ true
arithmetic_value true c z e = refl
arithmetic_value false c z e = no_value z e

number_from : (op : BinOp) → is_arithmetic op ≡ true → gives_truth op ≡ false
number_from bin.Add h = refl
number_from bin.Sub h = refl
number_from bin.Mul h = refl
number_from bin.Div h = refl
number_from _ h = absurd (true≢false (sym h))

integers_joined : (op : BinOp) (a b : Typed) → a ≡ integer → b ≡ integer → gives_truth op ≡ false → joined_types op a b ≡ integer
integers_joined op a b h k g =
    ap (λ x. joined_types op x b) h ∙ (ap (joined_types op integer) k ∙ ap (λ c. let made : Typed = record { truth = c; rank = 0 } in made) g)

module _ (t : List Row) (inside : Bool) (line : ℕ) (s : Scope) (k : Knows t s) where
  pub value_integer : (e : Expr) (ty : Typed) (z : ℤ) → faults t inside line e ≡ [] → typed t inside e ≡ Some ty → constancy s.names.constants e ≡ Value z → ty ≡ integer
  value_integer (Number n) ty z f e is = sym (same_type integer ty (chosen_type (nat_lt number_limit n) (Some integer) ty e))
  value_integer TooWide ty z f e is = no_type ty e
  value_integer TooDeep ty z f e is = no_type ty e
  value_integer (Named x) ty z f e is = name_value s x (standing_of t x) ty z (k x) e is
  value_integer (paren e) ty z f h is = value_integer e ty z f h is
  value_integer (unary op e) ty z f h is =
      let part = signed_value (is_sign op) op (constancy s.names.constants e) z is in
      value_integer e ty part.0 (none_first _ _ f) (unary_operand op (typed t inside e) ty h) part.1
  value_integer (binary op a b) ty z f h is =
      let c = constancy s.names.constants a in
      let d = constancy s.names.constants b in
      let left = type_known t inside line a (none_first _ _ (none_first _ _ f)) in
      let right = type_known t inside line b (none_after _ _ (none_first _ _ f)) in
      let x = joined_left (is_arithmetic op) op c d z is in
      let y = joined_right (is_arithmetic op) op c d z is in
      sym (binary_result op (typed t inside a) (typed t inside b) left.0 right.0 ty left.1 right.1 h)
      ∙ integers_joined op left.0 right.0 (value_integer a left.0 x.0 (none_first _ _ (none_first _ _ f)) left.1 x.1) (value_integer b right.0 y.0 (none_after _ _ (none_first _ _ f)) right.1 y.1)
      (number_from op (arithmetic_value (is_arithmetic op) (joined op c d) z is))
  value_integer _ ty z f e is = no_value z is

-- ---- what is made

folded_at : (s : Scope) (c : Constancy) (p : Lowering Operand) (ty : Typed) → ((z : ℤ) → c ≡ Value z → ty ≡ integer) → (HasNoValue c → Makes s (IsOf ty) p) → Makes s (IsOf ty) (constant_or c p)
folded_at s (Value z) p ty h g = rw (h z refl) (constant_made s I32 z integer refl refl)
folded_at s NoValue p ty h g = g (λ z e. has_none z e)
folded_at s NotConstant p ty h g = g (λ z e. no_value z e)

-- one constant, or what the parts make
pub folded_made : (s : Scope) (e : Expr) (p : Lowering Operand) (ty : Typed) → ((z : ℤ) → constancy s.names.constants e ≡ Value z → ty ≡ integer) → (HasNoValue (constancy s.names.constants e) → Makes s (IsOf ty) p) → Makes s (IsOf ty) (folded e p)
unfolding folded
folded_made s e p ty h g = makes-scoped s (IsOf ty) (λ q. constant_or (constancy q.names.constants e) p) (folded_at s (constancy s.names.constants e) p ty h g)
