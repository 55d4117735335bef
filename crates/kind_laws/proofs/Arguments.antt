-- The types of the arguments of a call, and what is made of them.
use Rattle.std.proofs.Common.{◌≡◌, refl, sym, ap, ◌∙◌, ℕ, Bool, true, false, not, ◌||◌, ◌&&◌, List, [], ◌∷◌, nat_lt, Some, max, true≢false}
use Rattle.ws_types.specs.declared.types.Typed.{Typed}
use Rattle.ws_types.specs.declared.types.Arguments.{Arguments}
use Rattle.ws_types.specs.Operations.{no_arguments, with_argument, vector_type, item_limit, differ}
use Rattle.ws_sema.proofs.NoFaults.{left_false}
use Rattle.hlfir_ops.specs.declared.kinds.ValueKind.TheVariants.{Array}
use Rattle.hlfir_ops.specs.RulesValues.{rank_of}
use Rattle.lower_values.specs.declared.operand.Operand.{Operand}
use Rattle.lower_assign.specs.Known.{elem}
use Rattle.lower_values.specs.Scopes.{Scope}
use Rattle.lower_values.specs.Operations.{rank_from, first_elem, vector}
use Rattle.kind_laws.proofs.TypeFacts.{same_type, chosen_type, not_chosen}
use Rattle.kind_laws.proofs.Made.{Makes, IsOf, makes-giving, array_type}

-- operands of these types
abbrev pub AreOf : List Typed → List Operand → Type 0
AreOf [] [] = Unit {0}
AreOf (a ∷ tys) (x ∷ xs) = IsOf a x × AreOf tys xs
AreOf _ _ = ⊥

-- what arguments of these types have in common, after others
abbrev pub argued : Arguments → List Typed → Arguments
argued c [] = c
argued c (a ∷ tys) = argued (with_argument c (Some a)) tys

-- ---- ranks

pub argued-rank : (c : Arguments) (tys : List Typed) (xs : List Operand) (rank : ℕ) → rank ≡ c.rank → AreOf tys xs → rank_from rank xs ≡ (argued c tys).rank
argued-rank c [] [] rank is h = is
argued-rank c [] (x ∷ xs) rank is h = absurd h
argued-rank c (a ∷ tys) [] rank is h = absurd h
argued-rank c (a ∷ tys) (x ∷ xs) rank is h = argued-rank (with_argument c (Some a)) tys xs (max rank (rank_of x.kind)) (ap (λ m. max m (rank_of x.kind)) is ∙ ap (max c.rank) h.0.rank) h.1

-- ---- types

pub argued-truths : (c : Arguments) (tys : List Typed) → c.truths ≡ true → (argued c tys).truths ≡ true
argued-truths c [] h = h
argued-truths c (a ∷ tys) h = argued-truths (with_argument c (Some a)) tys (still c.truths a.truth h) where
  still : (x y : Bool) → x ≡ true → (x || y) ≡ true
  still true y h = refl
  still false y h = absurd (true≢false (sym h))

pub argued-numbers : (c : Arguments) (tys : List Typed) → c.numbers ≡ true → (argued c tys).numbers ≡ true
argued-numbers c [] h = h
argued-numbers c (a ∷ tys) h = argued-numbers (with_argument c (Some a)) tys (still c.numbers (not a.truth) h) where
  still : (x y : Bool) → x ≡ true → (x || y) ≡ true
  still true y h = refl
  still false y h = absurd (true≢false (sym h))

pub not_mixed : (c : Arguments) (tys : List Typed) → (argued c tys).mixed ≡ false → c.mixed ≡ false
not_mixed c [] h = h
not_mixed c (a ∷ tys) h = left_false c.mixed (differ c.rank a.rank) (not_mixed (with_argument c (Some a)) tys h)

-- arguments of type INTEGER alone
abbrev pub AreNumbers : List Typed → Type 0
AreNumbers [] = Unit {0}
AreNumbers (a ∷ tys) = (a.truth ≡ false) × AreNumbers tys

no_truth : (b : Bool) → (b ≡ true → ⊥) → b ≡ false
no_truth true h = absurd (h refl)
no_truth false h = refl

pub are_numbers : (c : Arguments) (tys : List Typed) → (argued c tys).truths ≡ false → AreNumbers tys
are_numbers c [] h = tt
are_numbers c (a ∷ tys) h =
    (no_truth a.truth (λ is. true≢false (sym (argued-truths (with_argument c (Some a)) tys (later c.truths a.truth is)) ∙ h)), are_numbers (with_argument c (Some a)) tys h) where
      later : (x y : Bool) → y ≡ true → (x || y) ≡ true
      later true y h = refl
      later false y h = h

-- ---- constructors

first_truth : (b truths numbers : Bool) → (b ≡ true → truths ≡ true) → (b ≡ false → numbers ≡ true) → (truths && numbers) ≡ false → b ≡ truths
first_truth true truths numbers h k e = sym (h refl)
first_truth false true numbers h k e = absurd (true≢false (sym (k refl) ∙ e))
first_truth false false numbers h k e = refl

one_type : (a : Typed) (tys : List Typed) → ((argued no_arguments (a ∷ tys)).truths && (argued no_arguments (a ∷ tys)).numbers) ≡ false → a.truth ≡ (argued no_arguments (a ∷ tys)).truths
one_type a tys e =
    first_truth a.truth (argued no_arguments (a ∷ tys)).truths (argued no_arguments (a ∷ tys)).numbers
    (λ is. argued-truths (with_argument no_arguments (Some a)) tys is)
    (λ is. argued-numbers (with_argument no_arguments (Some a)) tys (ap not is)) e

pub first_elem-is : (tys : List Typed) (xs : List Operand) → AreOf tys xs → ((argued no_arguments tys).truths && (argued no_arguments tys).numbers) ≡ false → first_elem xs ≡ elem (argued no_arguments tys).truths
first_elem-is [] [] h e = refl
first_elem-is [] (x ∷ xs) h e = absurd h
first_elem-is (a ∷ tys) [] h e = absurd h
first_elem-is (a ∷ tys) (x ∷ xs) h e = h.0.elem ∙ ap elem (one_type a tys e)

third_false : (x y z u v : Bool) → (x || y || z || u || v) ≡ false → z ≡ false
third_false true y z u v h = absurd (true≢false h)
third_false false true z u v h = absurd (true≢false h)
third_false false false true u v h = h
third_false false false false u v h = refl

pub vector_made : (s : Scope) (inside : Bool) (count : ℕ) (tys : List Typed) (xs : List Operand) (ty : Typed) → AreOf tys xs → vector_type inside count (argued no_arguments tys) ≡ Some ty → Makes s (IsOf ty) (vector xs)
unfolding vector vector_type
vector_made s inside count tys xs ty h e =
    let c = argued no_arguments tys in
    let made : Typed = record { truth = c.truths; rank = 1 } in
    let same : made ≡ ty = same_type made ty (chosen_type _ (Some made) ty e) in
    let one = third_false inside (nat_lt 0 c.rank) (c.truths && c.numbers) (nat_lt item_limit count) (not c.sound) (not_chosen _ (Some made) ty e) in
    rw (← same) (makes-giving s (IsOf made) _ _ (Array (first_elem xs) 1) (λ v. array_type (first_elem xs) 1 made (first_elem-is tys xs h one) refl))
