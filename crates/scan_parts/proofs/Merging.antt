-- Merging is associative and commutative with its unit, and exact, for each reduction.
use Rattle.std.proofs.Common.{◌≡◌, ℕ, suc, ◌-◌, ◌<◌, min, Bool, true, false, ◌&&◌, ◌||◌, List, [], ◌∷◌, ◌++◌, map, Ok, Err, ℤ, pos, negsuc, ◌+ℤ◌, ◌*ℤ◌, refl, sym, ap, ◌∙◌, arith}
use Rattle.std.specs.Prelude.{if◌then◌else◌, IsTrue, nat_lt}
use mathlib.Core.Logic.{dite}
use native.Mathlib.Decide.{dec_le}
use Rattle.std.proofs.lemmas.Bool.{le-ltb, ltb-true, true≢false}
use Rattle.std.specs.List.{list_any, list_all}
use Rattle.std.proofs.lemmas.Int.{ints}
use Rattle.ws_base.specs.declared.op.CallWord.{CallWord}
use Rattle.ws_base.specs.declared.op.CallWord.TheVariants as word
use Rattle.ws_base.specs.declared.fault.FaultName.TheVariants.{Overflow}
use Rattle.ws_base.specs.Numbers.{Exact, exact, in_range, int_min, int_max, truth, is_true, least, greatest, sum_of, product_of, count_of, reduction}
use Rattle.phase_ops.specs.Partials.{clamp, unit_part, part_of, merge, merged, total, is_reduction}
use Rattle.scan_parts.specs.Laws.{partial, IsMerging}
use Rattle.scan_parts.proofs.Least.{least_comm, least_assoc, least_self, greatest_comm, greatest_assoc, greatest_self, clamp_pos, clamp_neg}
use Rattle.scan_parts.proofs.Products.{clamp_first, clamp_second, clamp_comm, clamp_assoc}

-- what follows from the grouping, the order and the unit merged with itself
module _ (half : ℕ) (k : CallWord) (assoc : (a b c : ℤ) → merge half k (merge half k a b) c ≡ merge half k a (merge half k b c))
    (comm : (a b : ℤ) → merge half k a b ≡ merge half k b a) (self : merge half k (unit_part half k) (unit_part half k) ≡ unit_part half k) where
  abbrev u : ℤ
  u = unit_part half k

  unit_first : (ps : List ℤ) → merge half k u (merged half k ps) ≡ merged half k ps
  unit_first [] = self
  unit_first (p ∷ ps) = sym (assoc u p (merged half k ps)) ∙ ap (λ (z : ℤ). merge half k z (merged half k ps)) (comm u p) ∙ assoc p u (merged half k ps) ∙ ap (λ (z : ℤ). merge half k p z) (unit_first ps)

  joins : (xs ys : List ℤ) → partial half k (xs ++ ys) ≡ merge half k (partial half k xs) (partial half k ys)
  joins [] ys = sym (unit_first (map (part_of half k) ys))
  joins (x ∷ xs) ys = ap (λ (z : ℤ). merge half k (part_of half k x) z) (joins xs ys) ∙ sym (assoc (part_of half k x) (partial half k xs) (partial half k ys))

  pub law_of : ((xs : List ℤ) → total half k (partial half k xs) ≡ reduction half k xs) → IsMerging half k
  law_of e = record {
    associative = assoc;
    commutative = comm;
    unit = λ xs. unit_first (map (part_of half k) xs);
    joined = joins;
    exact = e;
  }

add_assoc : (a b c : ℤ) → a +ℤ b +ℤ c ≡ a +ℤ (b +ℤ c)
add_assoc a b c = omega (arith, ints)

add_comm : (a b : ℤ) → a +ℤ b ≡ b +ℤ a
add_comm a b = omega (arith, ints)

sum_is : (half : ℕ) (xs : List ℤ) → partial half word.Sum xs ≡ sum_of xs
sum_is half [] = refl
sum_is half (x ∷ xs) = ap (λ (z : ℤ). x +ℤ z) (sum_is half xs)

product_is : (half : ℕ) (xs : List ℤ) → partial half word.Product xs ≡ clamp half (product_of xs)
product_is half [] = sym (clamp_pos half 1 ∙ ap (λ (n : ℕ). pos n) (omega arith))
product_is half (x ∷ xs) =
    ap (λ (z : ℤ). clamp half (clamp half x *ℤ z)) (product_is half xs) ∙ clamp_first half x (clamp half (product_of xs)) ∙ clamp_second half x (product_of xs)

least_is : (half : ℕ) (a : ℤ) (xs : List ℤ) → int_min a (pos (half - 1)) ≡ a → least a xs ≡ int_min a (partial half word.Minval xs)
least_is half a [] e = sym e
least_is half a (x ∷ xs) e =
    least_is half (int_min a x) xs (least_assoc a x (pos (half - 1)) ∙ ap (λ (z : ℤ). int_min a z) (least_comm x (pos (half - 1))) ∙ sym (least_assoc a (pos (half - 1)) x) ∙ ap (λ (z : ℤ). int_min z x) e)
    ∙ least_assoc a x (partial half word.Minval xs)

greatest_is : (half : ℕ) (a : ℤ) (xs : List ℤ) → int_max a (negsuc (half - 1)) ≡ a → greatest a xs ≡ int_max a (partial half word.Maxval xs)
greatest_is half a [] e = sym e
greatest_is half a (x ∷ xs) e =
    greatest_is half (int_max a x) xs (greatest_assoc a x (negsuc (half - 1)) ∙ ap (λ (z : ℤ). int_max a z) (greatest_comm x (negsuc (half - 1))) ∙ sym (greatest_assoc a (negsuc (half - 1)) x) ∙ ap (λ (z : ℤ). int_max z x) e)
    ∙ greatest_assoc a x (partial half word.Maxval xs)

count_is : (half : ℕ) (xs : List ℤ) → partial half word.Count xs ≡ pos (count_of xs)
count_is half [] = refl
count_is half (x ∷ xs) = ap (λ (z : ℤ). truth (is_true x) +ℤ z) (count_is half xs) ∙ by (is_true x)
  where
    by : (t : Bool) → truth t +ℤ pos (count_of xs) ≡ pos (if t then suc (count_of xs) else count_of xs)
    by true = omega (arith, ints)
    by false = omega (arith, ints)

truth_is : (t : Bool) → is_true (truth t) ≡ t
truth_is true = refl
truth_is false = refl

any_is : (half : ℕ) (xs : List ℤ) → partial half word.Any xs ≡ truth (list_any is_true xs)
any_is half [] = refl
any_is half (x ∷ xs) = ap (λ (z : ℤ). truth (is_true (truth (is_true x)) || is_true z)) (any_is half xs) ∙ (λ i. truth (truth_is (is_true x) i || truth_is (list_any is_true xs) i))

all_is : (half : ℕ) (xs : List ℤ) → partial half word.All xs ≡ truth (list_all is_true xs)
all_is half [] = refl
all_is half (x ∷ xs) = ap (λ (z : ℤ). truth (is_true (truth (is_true x)) && is_true z)) (all_is half xs) ∙ (λ i. truth (truth_is (is_true x) i && truth_is (list_all is_true xs) i))

or_assoc : (a b c : Bool) → truth (is_true (truth (a || b)) || c) ≡ truth (a || is_true (truth (b || c)))
or_assoc true b c = refl
or_assoc false true c = refl
or_assoc false false true = refl
or_assoc false false false = refl

or_comm : (a b : Bool) → truth (a || b) ≡ truth (b || a)
or_comm true true = refl
or_comm true false = refl
or_comm false true = refl
or_comm false false = refl

and_assoc : (a b c : Bool) → truth (is_true (truth (a && b)) && c) ≡ truth (a && is_true (truth (b && c)))
and_assoc false b c = refl
and_assoc true false c = refl
and_assoc true true false = refl
and_assoc true true true = refl

and_comm : (a b : Bool) → truth (a && b) ≡ truth (b && a)
and_comm true true = refl
and_comm true false = refl
and_comm false true = refl
and_comm false false = refl

-- a number that is kept within the bound is in range where it was
nat_kept : (half n : ℕ) → nat_lt (min (suc half) n) half ≡ nat_lt n half
nat_kept half n = dite (dec_le n (suc half))
    (λ l. ap (λ (m : ℕ). nat_lt m half) (let e : min (suc half) n ≡ n = omega (arith, l) in e))
    (λ g. ap (λ (m : ℕ). nat_lt m half) (let e : min (suc half) n ≡ suc half = omega (arith, g) in e) ∙ le-ltb (suc half) half (omega arith) ∙ sym (le-ltb n half (omega (arith, g))))

nat_kept_minus : (half n : ℕ) → nat_lt (min half n) half ≡ nat_lt n half
nat_kept_minus half n = dite (dec_le n half)
    (λ l. ap (λ (m : ℕ). nat_lt m half) (let e : min half n ≡ n = omega (arith, l) in e))
    (λ g. ap (λ (m : ℕ). nat_lt m half) (let e : min half n ≡ half = omega (arith, g) in e) ∙ le-ltb half half (omega arith) ∙ sym (le-ltb n half (omega (arith, g))))

range_kept : (half : ℕ) (z : ℤ) → in_range half (clamp half z) ≡ in_range half z
range_kept half (pos n) = ap (λ (z : ℤ). in_range half z) (clamp_pos half n) ∙ nat_kept half n
range_kept half (negsuc n) = ap (λ (z : ℤ). in_range half z) (clamp_neg half n) ∙ nat_kept_minus half n

clamp_same : (half : ℕ) (z : ℤ) → in_range half z ≡ true → clamp half z ≡ z
clamp_same half (pos n) h = clamp_pos half n ∙ ap (λ (m : ℕ). pos m) (let l : n < half = ltb-true n half h in omega (arith, l))
clamp_same half (negsuc n) h = clamp_neg half n ∙ ap (λ (m : ℕ). negsuc m) (let l : n < half = ltb-true n half h in omega (arith, l))

exact_kept : (half : ℕ) (z : ℤ) → exact half (clamp half z) ≡ exact half z
exact_kept half z = ap (λ (t : Bool). let e : Exact = (if t then Ok (clamp half z) else Err Overflow) in e) (range_kept half z) ∙ by (in_range half z) refl
  where
    by : (t : Bool) → in_range half z ≡ t → (let e : Exact = (if t then Ok (clamp half z) else Err Overflow) in e) ≡ (let e : Exact = (if t then Ok z else Err Overflow) in e)
    by true h = ap (λ (y : ℤ). let e : Exact = Ok y in e) (clamp_same half z h)
    by false h = refl

value : {x y : ℤ} → x ≡ y → (let e : Exact = Ok x in e) ≡ (let e : Exact = Ok y in e)
value p = ap (λ (z : ℤ). let e : Exact = Ok z in e) p

least_unit : (half : ℕ) (ps : List ℤ) → int_min (pos (half - 1)) (merged half word.Minval ps) ≡ merged half word.Minval ps
least_unit half = unit_first half word.Minval least_assoc least_comm (least_self (pos (half - 1)))

greatest_unit : (half : ℕ) (ps : List ℤ) → int_max (negsuc (half - 1)) (merged half word.Maxval ps) ≡ merged half word.Maxval ps
greatest_unit half = unit_first half word.Maxval greatest_assoc greatest_comm (greatest_self (negsuc (half - 1)))

pub is_merging : (half : ℕ) (k : CallWord) → IsTrue (is_reduction k) → IsMerging half k
is_merging half word.Sum h = law_of half word.Sum add_assoc add_comm refl (λ xs. ap (λ (z : ℤ). exact half z) (sum_is half xs))
is_merging half word.Product h =
    law_of half word.Product (clamp_assoc half) (clamp_comm half) (sym (ap (λ (z : ℤ). z) (product_is half []))) (λ xs. ap (λ (z : ℤ). exact half z) (product_is half xs) ∙ exact_kept half (product_of xs))
is_merging half word.Minval h =
    law_of half word.Minval least_assoc least_comm (least_self (pos (half - 1)))
    (λ xs. value (sym (least_is half (pos (half - 1)) xs (least_self (pos (half - 1))) ∙ least_unit half (map (part_of half word.Minval) xs))))
is_merging half word.Maxval h =
    law_of half word.Maxval greatest_assoc greatest_comm (greatest_self (negsuc (half - 1)))
    (λ xs. value (sym (greatest_is half (negsuc (half - 1)) xs (greatest_self (negsuc (half - 1))) ∙ greatest_unit half (map (part_of half word.Maxval) xs))))
is_merging half word.Count h = law_of half word.Count add_assoc add_comm refl (λ xs. value (count_is half xs))
is_merging half word.Any h = law_of half word.Any (λ a b c. or_assoc (is_true a) (is_true b) (is_true c)) (λ a b. or_comm (is_true a) (is_true b)) refl (λ xs. value (any_is half xs))
is_merging half word.All h = law_of half word.All (λ a b c. and_assoc (is_true a) (is_true b) (is_true c)) (λ a b. and_comm (is_true a) (is_true b)) refl (λ xs. value (all_is half xs))
is_merging half word.Abs h = absurd (true≢false (sym h))
is_merging half word.Mod h = absurd (true≢false (sym h))
is_merging half word.Modulo h = absurd (true≢false (sym h))
is_merging half word.Min h = absurd (true≢false (sym h))
is_merging half word.Max h = absurd (true≢false (sym h))
is_merging half word.Merge h = absurd (true≢false (sym h))
is_merging half word.Size h = absurd (true≢false (sym h))
is_merging half word.Lbound h = absurd (true≢false (sym h))
is_merging half word.Ubound h = absurd (true≢false (sym h))
is_merging half word.Allocated h = absurd (true≢false (sym h))
