-- The values of operations are default integers.
use Rattle.std.proofs.Common.{◌≡◌, refl, sym, true≢false, ℕ, suc, ◌≤◌, ◌<◌, ◌==◌, Bool, true, false, List, [], ◌∷◌, length, All, Ok, Err, IfOk, ℤ, pos, negsuc, arith}
use Rattle.std.specs.Prelude.{not, ◌||◌, if◌then◌else◌, neg_ℤ}
use Rattle.std.specs.List.{list_any, list_all}
use Rattle.std.proofs.lemmas.Bool.{lt-ltb, eqb-true}
use Rattle.ws_base.specs.declared.op.BinOp.{BinOp}
use Rattle.ws_base.specs.declared.op.UnOp.{UnOp}
use Rattle.ws_base.specs.declared.op.UnOp.TheVariants as un
use Rattle.ws_base.specs.declared.op.CallWord.{CallWord}
use Rattle.ws_base.specs.declared.op.CallWord.TheVariants as word
use Rattle.ws_base.specs.Numbers.{Exact, truth, is_true, default_half, exact, count_of, sum_of, product_of, unary_value, binary_value, call_value, reduction}
use Rattle.ws_base.specs.Outcomes.{scalar_of}
use Rattle.ws_space.specs.Maps.{pair_value}
use Rattle.ws_types.specs.Operations.{gives_truth}
use Rattle.array_meaning.proofs.KeptValues.{Passes}
use Rattle.array_meaning.proofs.TypedValues.{exact-passes, truth-passes, binary-passes, pair-passes, least-passes, greatest-passes, first_two, min-passes, max-passes, merge-passes, abs-passes, mod-passes, modulo-passes}
use Rattle.term_eval.specs.Limits.{IsInteger}

at_most_one : (n : ℕ) → (n == 0 || n == 1) ≡ true → n < default_half
at_most_one n h = cases (n == 0) refl h where
  cases : (b : Bool) → (n == 0) ≡ b → (b || n == 1) ≡ true → n < default_half
  cases true e k = omega (arith, eqb-true n 0 e)
  cases false e k = omega (arith, eqb-true n 1 k)

-- ---- single values

pub exact-integer : (z : ℤ) → IfOk (exact default_half z) IsInteger
exact-integer = exact-passes

-- 0 and 1 are default integers
typed-integer : (b : Bool) (z : ℤ) → Passes b z → IsInteger z
typed-integer false z h = h
typed-integer true (pos n) h = lt-ltb n default_half (at_most_one n h)
typed-integer true (negsuc n) h = absurd (true≢false (sym h))

typed : (b : Bool) (r : Exact) → IfOk r (Passes b) → IfOk r IsInteger
typed b (Ok z) h = typed-integer b z h
typed b (Err n) h = tt

pub truth-integer : (b : Bool) → IsInteger (truth b)
truth-integer b = typed-integer true (truth b) (truth-passes b)

pub unary-integer : (op : UnOp) (a : ℤ) → IsInteger a → IfOk (unary_value default_half op a) IsInteger
unary-integer un.Minus a h = exact-integer (neg_ℤ a)
unary-integer un.Plus a h = h
unary-integer un.Not a h = truth-integer (not (is_true a))

pub binary-integer : (op : BinOp) (a b : ℤ) → IfOk (binary_value default_half op a b) IsInteger
binary-integer op a b = typed (gives_truth op) (binary_value default_half op a b) (binary-passes op a b)

pub pair-integer : (op : BinOp) (r : List ℤ) → IfOk (pair_value op r) IsInteger
pair-integer op r = typed (gives_truth op) (pair_value op r) (pair-passes op r)

pub call-integer : (w : CallWord) (r : List ℤ) → All IsInteger r → IfOk (call_value default_half w r) IsInteger
call-integer word.Abs r is = abs-passes r
call-integer word.Mod r is = mod-passes r
call-integer word.Modulo r is = modulo-passes r
call-integer word.Min r is = min-passes false r is
call-integer word.Max r is = max-passes false r is
call-integer word.Merge r is = merge-passes false r (first_two false r is)
call-integer word.Sum r is = refl
call-integer word.Product r is = refl
call-integer word.Minval r is = refl
call-integer word.Maxval r is = refl
call-integer word.Count r is = refl
call-integer word.Any r is = refl
call-integer word.All r is = refl
call-integer word.Size r is = refl
call-integer word.Lbound r is = refl
call-integer word.Ubound r is = refl
call-integer word.Allocated r is = refl

pub scalar_of-keeps : (r : Exact) → IfOk r IsInteger → IfOk (scalar_of r) IsInteger
scalar_of-keeps (Ok z) h = h
scalar_of-keeps (Err n) h = tt

-- ---- reductions

count-step : (c : Bool) (k n : ℕ) → k ≤ n → (if c then suc k else k) ≤ suc n
count-step true k n h = omega (arith, h)
count-step false k n h = omega (arith, h)

count-within : (xs : List ℤ) → count_of xs ≤ length xs
count-within [] = omega arith
count-within (x ∷ xs) = count-step (is_true x) (count_of xs) (length xs) (count-within xs)

pub reduction-integer : (w : CallWord) (xs : List ℤ) → length xs ≤ 65536 → All IsInteger xs → IfOk (reduction default_half w xs) IsInteger
reduction-integer word.Sum xs few is = exact-integer (sum_of xs)
reduction-integer word.Product xs few is = exact-integer (product_of xs)
reduction-integer word.Minval xs few is = least-passes false (pos 2147483647) xs refl is
reduction-integer word.Maxval xs few is = greatest-passes false (negsuc 2147483647) xs refl is
reduction-integer word.Count xs few is = lt-ltb (count_of xs) default_half (omega (arith, count-within xs, few))
reduction-integer word.Any xs few is = truth-integer (list_any is_true xs)
reduction-integer word.All xs few is = truth-integer (list_all is_true xs)
reduction-integer word.Abs xs few is = refl
reduction-integer word.Mod xs few is = refl
reduction-integer word.Modulo xs few is = refl
reduction-integer word.Min xs few is = refl
reduction-integer word.Max xs few is = refl
reduction-integer word.Merge xs few is = refl
reduction-integer word.Size xs few is = refl
reduction-integer word.Lbound xs few is = refl
reduction-integer word.Ubound xs few is = refl
reduction-integer word.Allocated xs few is = refl
