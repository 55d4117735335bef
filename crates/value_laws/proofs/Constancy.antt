-- What holds of a constant expression and of its value, if it has one.
use Rattle.std.proofs.Common.{◌≡◌, refl, ℕ, Bool, true, false, nat_lt, if◌then◌else◌, List, Ok, Err, ℤ, pos}
use Rattle.ws_base.specs.declared.name.Name.{Name}
use Rattle.ws_base.specs.declared.op.UnOp.{UnOp}
use Rattle.ws_base.specs.declared.op.BinOp.{BinOp}
use Rattle.ws_base.specs.Numbers.{Exact, default_half, unary_value, binary_value}
use Rattle.ws_tree.specs.declared.expr.Expr.{Expr}
use Rattle.ws_tree.specs.declared.expr.Expr.TheVariants.{Number, TooWide, TooDeep, Truth, Named, Part', Call', Vector'}
use Rattle.ws_tree.specs.Trees.{paren, unary, binary}
use Rattle.ws_types.specs.declared.constant.Constant.{Constant}
use Rattle.ws_types.specs.declared.constant.Constancy.{Constancy}
use Rattle.ws_types.specs.declared.constant.Constancy.TheVariants.{Value, NoValue, NotConstant}
use Rattle.ws_types.specs.Expressions.{number_limit}
use Rattle.ws_types.specs.Constants.{of_exact, is_sign, is_arithmetic, signed, joined, constancy, constant_of}
use Rattle.value_laws.specs.Names.{IfValue}

pub value_weaker : (c : Constancy) (P Q : ℤ → Type 0) → ((z : ℤ) → P z → Q z) → IfValue c P → IfValue c Q
value_weaker (Value z) P Q g h = g z h
value_weaker NoValue P Q g h = tt
value_weaker NotConstant P Q g h = tt

exact_value : (r : Exact) (Q : ℤ → Type 0) → ((v : ℤ) → r ≡ Ok v → Q v) → IfValue (of_exact r) Q
exact_value (Ok v) Q g = g v refl
exact_value (Err n) Q g = tt

signed_value : (op : UnOp) (b : Bool) (c : Constancy) (P Q : ℤ → Type 0) → ((z v : ℤ) → P z → unary_value default_half op z ≡ Ok v → Q v) → IfValue c P → IfValue (if b then signed op c else NotConstant) Q
signed_value op false c P Q g h = tt
signed_value op true (Value z) P Q g h = exact_value (unary_value default_half op z) Q (λ v is. g z v h is)
signed_value op true NoValue P Q g h = tt
signed_value op true NotConstant P Q g h = tt

joined_value : (op : BinOp) (b : Bool) (c d : Constancy) (P Q R : ℤ → Type 0) → ((y z v : ℤ) → P y → Q z → binary_value default_half op y z ≡ Ok v → R v) → IfValue c P → IfValue d Q → IfValue (if b then joined op c d else NotConstant) R
joined_value op false c d P Q R g h k = tt
joined_value op true (Value y) (Value z) P Q R g h k = exact_value (binary_value default_half op y z) R (λ v is. g y z v h k is)
joined_value op true (Value y) NoValue P Q R g h k = tt
joined_value op true (Value y) NotConstant P Q R g h k = tt
joined_value op true NoValue (Value z) P Q R g h k = tt
joined_value op true NoValue NoValue P Q R g h k = tt
joined_value op true NoValue NotConstant P Q R g h k = tt
joined_value op true NotConstant (Value z) P Q R g h k = tt
joined_value op true NotConstant NoValue P Q R g h k = tt
joined_value op true NotConstant NotConstant P Q R g h k = tt

-- what holds of numbers and of names with their values, and is kept by parentheses, signs and operations
pub record IsKept (cs : List Constant) (P : Expr → ℤ → Type 0) : Type 0 where
  pub number : (n : ℕ) → P (Number n) (pos n)
  pub name : (x : Name) → IfValue (constant_of cs x) (P (Named x))
  pub parentheses : (e : Expr) (z : ℤ) → P e z → P (paren e) z
  pub sign : (op : UnOp) (e : Expr) (z v : ℤ) → P e z → unary_value default_half op z ≡ Ok v → P (unary op e) v
  pub operation : (op : BinOp) (e f : Expr) (y z v : ℤ) → P e y → P f z → binary_value default_half op y z ≡ Ok v → P (binary op e f) v

module _ (cs : List Constant) (P : Expr → ℤ → Type 0) (kept : IsKept cs P) where
  number_value : (n : ℕ) (b : Bool) → IfValue (if b then NoValue else Value (pos n)) (P (Number n))
  number_value n true = tt
  number_value n false = kept.number n

  -- holds of every constant expression that has a value
  pub constant-holds : (e : Expr) → IfValue (constancy cs e) (P e)
  constant-holds (Number n) = number_value n (nat_lt number_limit n)
  constant-holds TooWide = tt
  constant-holds TooDeep = tt
  constant-holds (Truth b) = tt
  constant-holds (Named x) = kept.name x
  constant-holds (Part' x _ ss) = tt
  constant-holds (Call' word _ es) = tt
  constant-holds (Vector' _ es) = tt
  constant-holds (paren e) = value_weaker (constancy cs e) (P e) (P (paren e)) (kept.parentheses e) (constant-holds e)
  constant-holds (unary op e) = signed_value op (is_sign op) (constancy cs e) (P e) (P (unary op e)) (kept.sign op e) (constant-holds e)
  constant-holds (binary op e f) =
      joined_value op (is_arithmetic op) (constancy cs e) (constancy cs f) (P e) (P f) (P (binary op e f)) (kept.operation op e f) (constant-holds e) (constant-holds f)
