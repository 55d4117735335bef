-- Exact arithmetic on a kind of INTEGER, and the operators and reductions on single values. A truth value is 0 or 1.
use Rattle.std.specs.Prelude.{ℕ, suc, ◌-◌, ◌==◌, Bool, true, false, not, ◌&&◌, ◌||◌, nat_lt, if◌then◌else◌, List, [], ◌∷◌, Result, Ok, Err, ℤ, pos, negsuc, neg_ℤ, ◌+ℤ◌, ◌-ℤ◌, ◌*ℤ◌, int_lt, int_le, int_div, int_rem, unsigned_abs}
use Rattle.std.specs.Int.{int_pow}
use Rattle.std.specs.List.{list_any, list_all}
use Rattle.ws_base.specs.declared.fault.FaultName.{FaultName}
use Rattle.ws_base.specs.declared.fault.FaultName.TheVariants.{Overflow, DivideByZero}
use Rattle.ws_base.specs.declared.op.UnOp.{UnOp}
use Rattle.ws_base.specs.declared.op.UnOp.TheVariants.{Minus, Plus, Not}
use Rattle.ws_base.specs.declared.op.BinOp.{BinOp}
use Rattle.ws_base.specs.declared.op.BinOp.TheVariants.{Add, Sub, Mul, Div, Pow, Eq, Ne, Lt, Le, Gt, Ge, And, Or, Eqv, Neqv}
use Rattle.ws_base.specs.declared.op.CallWord.{CallWord}
use Rattle.ws_base.specs.declared.op.CallWord.TheVariants as word

-- a value, or the name of the fault in its place
abbrev pub Exact : Type 0
Exact = Result ℤ FaultName

abbrev pub int_eq : ℤ → ℤ → Bool
int_eq (pos a) (pos b) = a == b
int_eq (pos a) (negsuc b) = false
int_eq (negsuc a) (pos b) = false
int_eq (negsuc a) (negsuc b) = a == b

abbrev pub truth : Bool → ℤ
truth true = pos 1
truth false = pos 0

abbrev pub is_true : ℤ → Bool
is_true z = not (int_eq z (pos 0))

-- A kind of INTEGER has the values from -half to half - 1.
abbrev pub in_range : ℕ → ℤ → Bool
in_range half (pos n) = nat_lt n half
in_range half (negsuc n) = nat_lt n half

-- default INTEGER: -2147483648 to 2147483647
abbrev pub default_half : ℕ
default_half = 2147483648

-- the exact result where the kind has it
abbrev pub exact : ℕ → ℤ → Exact
exact half z = if in_range half z then Ok z else Err Overflow

abbrev pub unless_zero : ℕ → ℤ → ℤ → Exact
unless_zero half b z = if int_eq b (pos 0) then Err DivideByZero else exact half z

-- the power; one below zero is 1 over the power above it, truncated toward zero
abbrev pub power : ℕ → ℤ → ℤ → Exact
power half a (pos n) = exact half (int_pow a n)
power half a (negsuc n) = let b = int_pow a (suc n) in unless_zero half b (int_div (pos 1) b)

-- the remainder with the divisor's sign
abbrev pub floor_rem : ℤ → ℤ → ℤ
floor_rem a b =
    let r = int_rem a b in
    if int_eq r (pos 0) then r else (if int_lt r (pos 0) && int_lt b (pos 0) || not (int_lt r (pos 0)) && not (int_lt b (pos 0)) then r else r +ℤ b)

abbrev pub int_min : ℤ → ℤ → ℤ
int_min a b = if int_le a b then a else b

abbrev pub int_max : ℤ → ℤ → ℤ
int_max a b = if int_le a b then b else a

abbrev pub unary_value : ℕ → UnOp → ℤ → Exact
unary_value half Minus a = exact half (neg_ℤ a)
unary_value half Plus a = Ok a
unary_value half Not a = Ok (truth (not (is_true a)))

abbrev pub binary_value : ℕ → BinOp → ℤ → ℤ → Exact
binary_value half Add a b = exact half (a +ℤ b)
binary_value half Sub a b = exact half (a -ℤ b)
binary_value half Mul a b = exact half (a *ℤ b)
binary_value half Div a b = unless_zero half b (int_div a b)
binary_value half Pow a b = power half a b
binary_value half Eq a b = Ok (truth (int_eq a b))
binary_value half Ne a b = Ok (truth (not (int_eq a b)))
binary_value half Lt a b = Ok (truth (int_lt a b))
binary_value half Le a b = Ok (truth (int_le a b))
binary_value half Gt a b = Ok (truth (int_lt b a))
binary_value half Ge a b = Ok (truth (int_le b a))
binary_value half And a b = Ok (truth (is_true a && is_true b))
binary_value half Or a b = Ok (truth (is_true a || is_true b))
binary_value half Eqv a b = Ok (truth (int_eq a b))
binary_value half Neqv a b = Ok (truth (not (int_eq a b)))

-- MIN and MAX of the first value and the others
abbrev pub least : ℤ → List ℤ → ℤ
least a [] = a
least a (b ∷ more) = least (int_min a b) more

abbrev pub greatest : ℤ → List ℤ → ℤ
greatest a [] = a
greatest a (b ∷ more) = greatest (int_max a b) more

-- what stands for a value where a word has none
abbrev pub no_value : Exact
no_value = Ok (pos 0)

-- an elemental call on the values of its arguments, of which there are as many as it takes
abbrev pub call_value : ℕ → CallWord → List ℤ → Exact
call_value half word.Abs (a ∷ []) = exact half (pos (unsigned_abs a))
call_value half word.Abs _ = no_value
call_value half word.Mod (a ∷ b ∷ []) = unless_zero half b (int_rem a b)
call_value half word.Mod _ = no_value
call_value half word.Modulo (a ∷ b ∷ []) = unless_zero half b (floor_rem a b)
call_value half word.Modulo _ = no_value
call_value half word.Min (a ∷ more) = Ok (least a more)
call_value half word.Min [] = no_value
call_value half word.Max (a ∷ more) = Ok (greatest a more)
call_value half word.Max [] = no_value
call_value half word.Merge (t ∷ f ∷ m ∷ []) = Ok (if is_true m then t else f)
call_value half word.Merge _ = no_value
call_value half word.Sum xs = no_value
call_value half word.Product xs = no_value
call_value half word.Minval xs = no_value
call_value half word.Maxval xs = no_value
call_value half word.Count xs = no_value
call_value half word.Any xs = no_value
call_value half word.All xs = no_value
call_value half word.Size xs = no_value
call_value half word.Lbound xs = no_value
call_value half word.Ubound xs = no_value
call_value half word.Allocated xs = no_value

abbrev pub sum_of : List ℤ → ℤ
sum_of [] = pos 0
sum_of (a ∷ more) = a +ℤ sum_of more

abbrev pub product_of : List ℤ → ℤ
product_of [] = pos 1
product_of (a ∷ more) = a *ℤ product_of more

abbrev pub count_of : List ℤ → ℕ
count_of [] = 0
count_of (a ∷ more) = if is_true a then suc (count_of more) else count_of more

-- the exact reduction of all values of an argument
abbrev pub reduction : ℕ → CallWord → List ℤ → Exact
reduction half word.Sum xs = exact half (sum_of xs)
reduction half word.Product xs = exact half (product_of xs)
reduction half word.Minval xs = Ok (least (pos (half - 1)) xs)
reduction half word.Maxval xs = Ok (greatest (negsuc (half - 1)) xs)
reduction half word.Count xs = Ok (pos (count_of xs))
reduction half word.Any xs = Ok (truth (list_any is_true xs))
reduction half word.All xs = Ok (truth (list_all is_true xs))
reduction half word.Abs xs = no_value
reduction half word.Mod xs = no_value
reduction half word.Modulo xs = no_value
reduction half word.Min xs = no_value
reduction half word.Max xs = no_value
reduction half word.Merge xs = no_value
reduction half word.Size xs = no_value
reduction half word.Lbound xs = no_value
reduction half word.Ubound xs = no_value
reduction half word.Allocated xs = no_value
