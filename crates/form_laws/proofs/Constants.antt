-- The value of a constant expression is a default INTEGER.
use Rattle.std.proofs.Common.{◌≡◌, refl, subst, ℕ, Bool, true, false, nat_lt, List, [], ◌∷◌, ◌++◌, Option, Some, None, Ok, Err, ℤ, pos, bytes_eq, arith, if◌then◌else◌}
use Rattle.std.specs.Prelude.{neg_ℤ, ◌+ℤ◌, ◌-ℤ◌, ◌*ℤ◌, int_div, not}
use Rattle.std.proofs.lemmas.Bool.{ltb-false}
use Rattle.ws_base.specs.declared.op.UnOp.{UnOp}
use Rattle.ws_base.specs.declared.op.UnOp.TheVariants as un
use Rattle.ws_base.specs.declared.op.BinOp.{BinOp}
use Rattle.ws_base.specs.declared.op.BinOp.TheVariants as bin
use Rattle.ws_base.specs.Numbers.{Exact, default_half, in_range, exact, truth, unary_value, binary_value, int_eq, is_true}
use Rattle.ws_base.specs.declared.fault.FaultName.TheVariants.{Overflow, DivideByZero}
use Rattle.ws_tree.specs.declared.expr.Expr.{Expr}
use Rattle.ws_tree.specs.declared.expr.Expr.TheVariants.{Number, TooWide, TooDeep, Truth, Named, Part', Call', Vector'}
use Rattle.ws_tree.specs.Trees.{paren, unary, binary}
use Rattle.ws_tree.specs.declared.stmt.Decl.{Decl}
use Rattle.ws_types.specs.declared.constant.Constant.{Constant}
use Rattle.ws_types.specs.declared.constant.Constancy.{Constancy}
use Rattle.ws_types.specs.declared.constant.Constancy.TheVariants.{Value, NoValue, NotConstant}
use Rattle.ws_types.specs.Names.{Name}
use Rattle.ws_types.specs.Expressions.{number_limit}
use Rattle.ws_types.specs.Constants.{known, constant_of, of_exact, is_sign, is_arithmetic, signed, joined, constancy, value_of}
use Rattle.ws_sema.specs.Declarations.{constant_row, constants_from, with_constant, constants_after}
use Rattle.term_eval.specs.Limits.{IsInteger}
use Rattle.term_eval.proofs.Integers.{truth-integer}
use Rattle.small_laws.proofs.Constancy.{IfValue}

-- where it has a value
abbrev pub HasDefault : Constancy → Type 0
HasDefault c = IfValue c IsInteger

abbrev pub ConstantsFit : List Constant → Type 0
ConstantsFit cs = (x : Name) → HasDefault (constant_of cs x)

-- ---- operators

module _ (v : ℤ) where
  exact_fits : (z : ℤ) (b : Bool) → in_range default_half z ≡ b → (if b then Ok z else (let e : Exact = Err Overflow in e)) ≡ Ok v → IsInteger v
  exact_fits z true h is = let same : z ≡ v = cc in subst IsInteger same h
  exact_fits z false h is = cc

  exact_is : (z : ℤ) → exact default_half z ≡ Ok v → IsInteger v
  exact_is z is = exact_fits z (in_range default_half z) refl is

  unless_fits : (b : Bool) (z : ℤ) → (if b then (let e : Exact = Err DivideByZero in e) else exact default_half z) ≡ Ok v → IsInteger v
  unless_fits true z is = cc
  unless_fits false z is = exact_is z is

same_fits : (z v : ℤ) → IsInteger z → (let r : Exact = Ok z in r) ≡ Ok v → IsInteger v
same_fits z v h is = let same : z ≡ v = cc in subst IsInteger same h

unary_fits : (op : UnOp) (z v : ℤ) → IsInteger z → unary_value default_half op z ≡ Ok v → IsInteger v
unary_fits un.Minus z v h is = exact_is v (neg_ℤ z) is
unary_fits un.Plus z v h is = same_fits z v h is
unary_fits un.Not z v h is = same_fits (truth (not (is_true z))) v (truth-integer (not (is_true z))) is

binary_fits : (op : BinOp) (y z v : ℤ) → is_arithmetic op ≡ true → binary_value default_half op y z ≡ Ok v → IsInteger v
binary_fits bin.Add y z v h is = exact_is v (y +ℤ z) is
binary_fits bin.Sub y z v h is = exact_is v (y -ℤ z) is
binary_fits bin.Mul y z v h is = exact_is v (y *ℤ z) is
binary_fits bin.Div y z v h is = unless_fits v (int_eq z (pos 0)) (int_div y z) is
binary_fits _ y z v h is = cc

exact_value : (r : Exact) → ((v : ℤ) → r ≡ Ok v → IsInteger v) → HasDefault (of_exact r)
exact_value (Ok v) k = k v refl
exact_value (Err f) k = tt

sign_fits : (op : UnOp) (b : Bool) (c : Constancy) → HasDefault c → HasDefault (if b then signed op c else NotConstant)
sign_fits op true (Value z) h = exact_value (unary_value default_half op z) (λ v r. unary_fits op z v h r)
sign_fits op true NoValue h = tt
sign_fits op true NotConstant h = tt
sign_fits op false c h = tt

both_fit : (op : BinOp) (b : Bool) (c d : Constancy) → is_arithmetic op ≡ b → HasDefault c → HasDefault d → HasDefault (if b then joined op c d else NotConstant)
both_fit op true (Value y) (Value z) is h g = exact_value (binary_value default_half op y z) (λ v r. binary_fits op y z v is r)
both_fit op true (Value y) NoValue is h g = tt
both_fit op true (Value y) NotConstant is h g = tt
both_fit op true NoValue (Value z) is h g = tt
both_fit op true NoValue NoValue is h g = tt
both_fit op true NoValue NotConstant is h g = tt
both_fit op true NotConstant (Value z) is h g = tt
both_fit op true NotConstant NoValue is h g = tt
both_fit op true NotConstant NotConstant is h g = tt
both_fit op false c d is h g = tt

number_fits : (n : ℕ) (b : Bool) → nat_lt number_limit n ≡ b → HasDefault (if b then NoValue else Value (pos n))
number_fits n true is = tt
number_fits n false is = let low = ltb-false number_limit n is in grind (arith, low)

-- ---- expressions

pub constancy-fits : (cs : List Constant) → ConstantsFit cs → (e : Expr) → HasDefault (constancy cs e)
constancy-fits cs h (Number n) = number_fits n (nat_lt number_limit n) refl
constancy-fits cs h TooWide = tt
constancy-fits cs h TooDeep = tt
constancy-fits cs h (Truth b) = tt
constancy-fits cs h (Named x) = h x
constancy-fits cs h (Part' x _ ss) = tt
constancy-fits cs h (Call' w _ es) = tt
constancy-fits cs h (Vector' _ es) = tt
constancy-fits cs h (paren e) = constancy-fits cs h e
constancy-fits cs h (unary op e) = sign_fits op (is_sign op) (constancy cs e) (constancy-fits cs h e)
constancy-fits cs h (binary op a b) = both_fit op (is_arithmetic op) (constancy cs a) (constancy cs b) refl (constancy-fits cs h a) (constancy-fits cs h b)

-- ---- declarations

abbrev RowsFit : List Constant → Type 0
RowsFit [] = Unit {0}
RowsFit (c ∷ cs) = HasDefault (known c.value) × RowsFit cs

if_first : (b : Bool) (c d : Constancy) → HasDefault c → HasDefault d → HasDefault (if b then c else d)
if_first true c d h g = h
if_first false c d h g = g

rows-found : (cs : List Constant) → RowsFit cs → ConstantsFit cs
rows-found [] h x = tt
rows-found (c ∷ cs) h x = if_first (bytes_eq c.name x) (known c.value) (constant_of cs x) h.0 (rows-found cs h.1 x)

rows-append : (cs more : List Constant) → RowsFit cs → RowsFit more → RowsFit (cs ++ more)
rows-append [] more h g = g
rows-append (c ∷ cs) more h g = (h.0, rows-append cs more h.1 g)

known_fits : (c : Constancy) → HasDefault c → HasDefault (known (value_of c))
known_fits (Value z) h = h
known_fits NoValue h = tt
known_fits NotConstant h = tt

after_one : (cs : List Constant) (x : Name) (truth : Bool) (e : Option Expr) → RowsFit cs → RowsFit (constants_from cs x truth e)
after_one cs x true e h = h
after_one cs x false None h = h
after_one cs x false (Some e) h = rows-append cs (constant_row cs x e ∷ []) h (known_fits (constancy cs e) (constancy-fits cs (rows-found cs h) e), tt)

after_all : (cs : List Constant) (ds : List Decl) → RowsFit cs → RowsFit (constants_after cs ds)
after_all cs [] h = h
after_all cs (d ∷ ds) h = after_all (with_constant cs d) ds (after_one cs d.name d.truth d.constant h)

pub declared-fit : (ds : List Decl) → ConstantsFit (constants_after [] ds)
declared-fit ds = rows-found (constants_after [] ds) (after_all [] ds tt)
