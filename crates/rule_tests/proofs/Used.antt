-- The uses of values, counted use by use.
use Rattle.std.proofs.Common.{◌≡◌, ◌≢◌, refl, ap, sym, ◌∙◌, subst, ℕ, ◌+◌, ◌<◌, ◌≤◌, min, Bool, cond, inl, inr, ◌⊎◌, List, [], ◌∷◌, ◌++◌, map, length, set, get_or, take, arith, append_assoc, get_or-set_other, length-set}
use Rattle.std.specs.Prelude.{◌==◌, count_by}
use Rattle.std.specs.Borrow.{Bor}
use Rattle.std.specs.List.{flat_map}
use Rattle.std.proofs.lemmas.Bool.{eq-eqb, ne_eqb}
use Rattle.std.proofs.lemmas.Grind.{get_or-set_at}
use Rattle.std.proofs.lemmas.List.{map-append, take_more}
use Rattle.std.proofs.lemmas.List.Sums.{sum_by-append}
use Rattle.hlfir_ops.specs.declared.op.Op.{Op, out-Op}
use Rattle.hlfir_ops.specs.declared.op.ValueId.{ValueId}
use Rattle.hlfir_ops.specs.Rules.{operand_numbers}
use Rattle.rule_tests.specs.Orders.{ops_of}
use Rattle.rule_tests.specs.Uses.{AreUses, AddsUses}
use Rattle.rule_tests.proofs.Appended.{append_none, before_next}

either : (k n : ℕ) → (k ≡ n) ⊎ (k ≡ n → ⊥)
either k n = grind arith

once : (k n : ℕ) → k ≡ n → count_by (λ m. m == n) (k ∷ []) ≡ 1
once k n e = ap (λ b. 0 + cond b 1 0) (eq-eqb k n e)

never : (k n : ℕ) → (k ≡ n → ⊥) → count_by (λ m. m == n) (k ∷ []) ≡ 0
never k n other = ap (λ b. 0 + cond b 1 0) (ne_eqb k n other)

pub adds_none : (uses : List ℕ) → AddsUses uses uses []
adds_none uses = record { same = refl; more = λ n lt. omega arith }

pub adds_one : (uses : List ℕ) (k : ℕ) → k < length uses → AddsUses uses (set uses k (get_or uses k 0 + 1)) (k ∷ [])
adds_one uses k within = record {
  same = length-set uses k (get_or uses k 0 + 1);
  more = λ n lt. elim (either k n) [
    | inl e ↦ omega (arith, get_or-set_at uses k n (get_or uses k 0 + 1) 0 (sym e) within, once k n e, ap (λ i. get_or uses i 0) e)
    | inr other ↦ omega (arith, get_or-set_other uses k n (get_or uses k 0 + 1) 0 (λ e. other (sym e)), never k n other)
  ];
}

pub adds_past : (uses : List ℕ) (k : ℕ) → (k < length uses → 2 ≤ get_or uses k 0) → AddsUses uses uses (k ∷ [])
adds_past uses k many = record {
  same = refl;
  more = λ n lt. elim (either k n) [
    | inl e ↦ omega (arith, once k n e, many (omega (arith, e)), ap (λ i. get_or uses i 0) e)
    | inr other ↦ omega (arith, never k n other)
  ];
}

pub adds_both : (a b c xs ys : List ℕ) → AddsUses a b xs → AddsUses b c ys → AddsUses a c (xs ++ ys)
adds_both a b c xs ys one more = record {
  same = more.same ∙ one.same;
  more = λ n lt. omega (arith, one.more n lt, more.more n (omega (arith, one.same)), sum_by-append (λ m. cond (m == n) 1 0) xs ys);
}

-- ---- loops

abbrev no_value : ValueId
no_value = record { number = 0 }

pub next_operand : (operands : List ValueId) (i : ℕ) (a b c : List ℕ) → i < length operands → AddsUses a b (map (λ v. v.number) (take i operands)) →
    AddsUses b c ((get_or operands i no_value).number ∷ []) → AddsUses a c (map (λ v. v.number) (take (i + 1) operands))
next_operand operands i a b c within done one =
    subst (AddsUses a c) (sym (ap (map (λ v. v.number)) (take_more operands i no_value within) ∙ map-append (λ v. v.number) (take i operands) (get_or operands i no_value ∷ [])))
    (adds_both a b c (map (λ v. v.number) (take i operands)) ((get_or operands i no_value).number ∷ []) done one)

flat_append : {X Y : Type 0} (f : X → List Y) (xs ys : List X) → flat_map f (xs ++ ys) ≡ flat_map f xs ++ flat_map f ys
flat_append f [] ys = refl
flat_append f (x ∷ xs) ys = ap (λ l. f x ++ l) (flat_append f xs ys) ∙ sym (append_assoc (f x) (flat_map f xs) (flat_map f ys))

pub next_use : (order : List (Bor Op)) (i : ℕ) (r : Bor Op) (operands : List ValueId) (a b c : List ℕ) → i < length order → r ≡ get_or order i r → operands ≡ (out-Op r.now).operands →
    AddsUses a b (flat_map operand_numbers (ops_of (take i order))) → AddsUses b c (map (λ w. w.number) operands) → AddsUses a c (flat_map operand_numbers (ops_of (take (i + 1) order)))
next_use order i r operands a b c within is same done more =
    subst (AddsUses a c)
    (sym (ap (λ l. flat_map operand_numbers (ops_of l)) (before_next order i r within is) ∙ (ap (flat_map operand_numbers) (map-append (λ x. x.now) (take i order) (r ∷ [])) ∙ flat_append operand_numbers (ops_of (take i order)) (r.now ∷ []))))
    (adds_both a b c (flat_map operand_numbers (ops_of (take i order))) (flat_map operand_numbers (r.now ∷ [])) done
    (subst (AddsUses b c) (ap (map (λ w. w.number)) same ∙ sym (append_none (operand_numbers r.now))) more))

pub are_uses : (none uses used : List ℕ) → ((n : ℕ) → get_or none n 0 ≡ 0) → AddsUses none uses used → AreUses uses used
are_uses none uses used zeros adds n lt = omega (arith, adds.more n (omega (arith, adds.same)), zeros n)
