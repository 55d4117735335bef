-- Where the rules find the value of a constant expression, its meaning is that value, and it is small.
-- `cs` are the constants that the rules know, and `ks` those of the meaning.
use Rattle.std.proofs.Common.{◌≡◌, refl, ap, ◌∙◌, ℕ, Bool, true, false, List, [], Some, Ok, Err, ℤ, pos, if◌then◌else◌, nat_lt, arith}
use Rattle.std.proofs.lemmas.Bool.{ltb-false}
use Rattle.ws_base.specs.declared.op.UnOp.{UnOp}
use Rattle.ws_base.specs.declared.op.BinOp.{BinOp}
use Rattle.ws_base.specs.declared.refusal.RefusalKind.TheVariants as kind
use Rattle.ws_base.specs.Numbers.{Exact, default_half, unary_value, binary_value}
use Rattle.ws_base.specs.Outcomes.{Staged, scalar_of, ◌>>=◌}
use Rattle.ws_space.specs.Values.{state_of}
use Rattle.ws_tree.specs.declared.expr.Expr.{Expr}
use Rattle.ws_tree.specs.declared.expr.Expr.TheVariants.{Number, TooWide, TooDeep, Truth, Named, Part', Call', Vector'}
use Rattle.ws_tree.specs.Trees.{paren, unary, binary}
use Rattle.ws_types.specs.declared.constant.Constant as types
use Rattle.ws_types.specs.declared.constant.Constancy.{Constancy}
use Rattle.ws_types.specs.declared.constant.Constancy.TheVariants.{Value, NoValue, NotConstant}
use Rattle.ws_types.specs.Names.{Name}
use Rattle.ws_types.specs.Expressions.{number_limit}
use Rattle.ws_types.specs.Constants as found
use Rattle.ws_types.specs.Constants.{of_exact, is_sign, is_arithmetic, signed, joined, constancy, truth_constancy, constant_faults}
use Rattle.array_meaning.specs.declared.world.Constant.{Constant}
use Rattle.array_meaning.specs.declared.term.Term.{Term}
use Rattle.array_meaning.specs.declared.term.Term.TheVariants.{Scalar}
use Rattle.array_meaning.specs.Stage1.{constant_of, named, walk, unary_on, binary_on, value_of}
use Rattle.array_meaning.specs.Forall.{scalar}
use Rattle.array_meaning.specs.Program.{constants_alone}
use Rattle.term_eval.specs.Limits.{IsSmall}
use Rattle.ws_sema.proofs.NoFaults.{none_first, none_after, impossible}

-- where it is a value, this holds of it
abbrev pub IfValue : Constancy → (ℤ → Type 0) → Type 0
IfValue (Value z) P = P z
IfValue _ P = Unit {0}

-- the constants that the rules know have the values that the meaning gives them
abbrev pub Agree : List types.Constant → List Constant → Type 0
Agree cs ks = (x : Name) → IfValue (found.constant_of cs x) (λ z. constant_of ks x ≡ Some z)

-- the meaning of the expression among these constants
pub record IsComputed (ks : List Constant) (e : Expr) (z : ℤ) : Type 0 where
  pub small : IsSmall e
  pub walked : walk (constants_alone ks) e ≡ Ok (Scalar z)

-- ---- the values of parts give the value of the whole

pub value_weaker : (c : Constancy) (P Q : ℤ → Type 0) → ((z : ℤ) → P z → Q z) → IfValue c P → IfValue c Q
value_weaker (Value z) P Q g h = g z h
value_weaker NoValue P Q g h = tt
value_weaker NotConstant P Q g h = tt

of_result : (b : Bool) (r : Exact) (Q : ℤ → Type 0) → ((v : ℤ) → r ≡ Ok v → Q v) → IfValue (if b then of_exact r else NotConstant) Q
of_result true (Ok v) Q g = g v refl
of_result true (Err n) Q g = tt
of_result false r Q g = tt

nothing : (b : Bool) (Q : ℤ → Type 0) → IfValue (if b then NoValue else NotConstant) Q
nothing true Q = tt
nothing false Q = tt

never : (b : Bool) (Q : ℤ → Type 0) → IfValue (if b then NotConstant else NotConstant) Q
never true Q = tt
never false Q = tt

of_sign : (op : UnOp) (c : Constancy) (P Q : ℤ → Type 0) → ((z v : ℤ) → P z → unary_value default_half op z ≡ Ok v → Q v) → IfValue c P → IfValue (if is_sign op then signed op c else NotConstant) Q
of_sign op (Value z) P Q g h = of_result (is_sign op) (unary_value default_half op z) Q (λ v is. g z v h is)
of_sign op NoValue P Q g h = nothing (is_sign op) Q
of_sign op NotConstant P Q g h = never (is_sign op) Q

of_both : (op : BinOp) (a b : Constancy) (P R Q : ℤ → Type 0) → ((y z v : ℤ) → P y → R z → binary_value default_half op y z ≡ Ok v → Q v) → IfValue a P → IfValue b R →
    IfValue (if is_arithmetic op then joined op a b else NotConstant) Q
of_both op (Value y) (Value z) P R Q g h k = of_result (is_arithmetic op) (binary_value default_half op y z) Q (λ v is. g y z v h k is)
of_both op (Value y) NoValue P R Q g h k = nothing (is_arithmetic op) Q
of_both op (Value y) NotConstant P R Q g h k = never (is_arithmetic op) Q
of_both op NoValue (Value z) P R Q g h k = nothing (is_arithmetic op) Q
of_both op NoValue NoValue P R Q g h k = nothing (is_arithmetic op) Q
of_both op NoValue NotConstant P R Q g h k = never (is_arithmetic op) Q
of_both op NotConstant (Value z) P R Q g h k = never (is_arithmetic op) Q
of_both op NotConstant NoValue P R Q g h k = never (is_arithmetic op) Q
of_both op NotConstant NotConstant P R Q g h k = never (is_arithmetic op) Q

-- ---- each form

number_computed : (ks : List Constant) (n : ℕ) (b : Bool) → nat_lt number_limit n ≡ b → IfValue (if b then NoValue else Value (pos n)) (IsComputed ks (Number n))
number_computed ks n true is = tt
number_computed ks n false is = record { small = (let low = ltb-false number_limit n is in omega arith); walked = refl }

name_computed : (ks : List Constant) (x : Name) (z : ℤ) → constant_of ks x ≡ Some z → IsComputed ks (Named x) z
name_computed ks x z is = record { small = tt; walked = ap (λ o. named o (state_of [] x)) is }

paren_computed : (ks : List Constant) (e : Expr) (z : ℤ) → IsComputed ks e z → IsComputed ks (paren e) z
paren_computed ks e z h = record { small = h.small; walked = h.walked }

unary_computed : (ks : List Constant) (op : UnOp) (e : Expr) (z v : ℤ) → IsComputed ks e z → unary_value default_half op z ≡ Ok v → IsComputed ks (unary op e) v
unary_computed ks op e z v h is = record {
  small = h.small;
  walked = ap (λ r. r >>= unary_on op) h.walked ∙ ap (λ r. scalar_of r >>= (λ y. let s : Staged Term = Ok (Scalar y) in s)) is;
}

binary_computed : (ks : List Constant) (op : BinOp) (a b : Expr) (y z v : ℤ) → IsComputed ks a y → IsComputed ks b z → binary_value default_half op y z ≡ Ok v → IsComputed ks (binary op a b) v
binary_computed ks op a b y z v h k is = record {
  small = (h.small, k.small);
  walked =
      ap (λ r. r >>= (λ t. walk (constants_alone ks) b >>= (λ u. binary_on op t u))) h.walked
      ∙ (ap (λ r. r >>= (λ u. binary_on op (Scalar y) u)) k.walked ∙ ap (λ r. scalar_of r >>= (λ x. let s : Staged Term = Ok (Scalar x) in s)) is);
}

pub computed : (cs : List types.Constant) (ks : List Constant) → Agree cs ks → (e : Expr) → IfValue (constancy cs e) (IsComputed ks e)
computed cs ks agree (Number n) = number_computed ks n (nat_lt number_limit n) refl
computed cs ks agree TooWide = tt
computed cs ks agree TooDeep = tt
computed cs ks agree (Truth b) = tt
computed cs ks agree (Named x) = value_weaker (found.constant_of cs x) (λ z. constant_of ks x ≡ Some z) (IsComputed ks (Named x)) (λ z is. name_computed ks x z is) (agree x)
computed cs ks agree (Part' x _ ss) = tt
computed cs ks agree (Call' w _ es) = tt
computed cs ks agree (Vector' _ es) = tt
computed cs ks agree (paren e) = value_weaker (constancy cs e) (IsComputed ks e) (IsComputed ks (paren e)) (λ z h. paren_computed ks e z h) (computed cs ks agree e)
computed cs ks agree (unary op e) = of_sign op (constancy cs e) (IsComputed ks e) (IsComputed ks (unary op e)) (λ z v h is. unary_computed ks op e z v h is) (computed cs ks agree e)
computed cs ks agree (binary op a b) =
    of_both op (constancy cs a) (constancy cs b) (IsComputed ks a) (IsComputed ks b) (IsComputed ks (binary op a b)) (λ y z v h k is. binary_computed ks op a b y z v h k is) (computed cs ks agree a) (computed cs ks agree b)

pub scalar_is : (ks : List Constant) (e : Expr) (z : ℤ) → IsComputed ks e z → scalar (constants_alone ks) e ≡ Ok z
scalar_is ks e z h = ap (λ r. r >>= (λ t. let s : Staged ℤ = Ok (value_of t) in s)) h.walked

pub truth_small : (e : Expr) → IfValue (truth_constancy e) (λ z. IsSmall e)
truth_small (Truth b) = tt
truth_small _ = tt

-- ---- where there is no fault there is a value

pub valued : (line : ℕ) (c : Constancy) (P : ℤ → Type 0) → constant_faults line c ≡ [] → IfValue c P → (z : ℤ) × (c ≡ Value z) × P z
unfolding constant_faults
valued line (Value z) P f h = (z, refl, h)
valued line NoValue P f h = impossible line kind.OverLimit (none_after _ _ f)
valued line NotConstant P f h = impossible line kind.Unsupported (none_first _ _ f)
