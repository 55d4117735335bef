-- Calls that take all their arguments at once, and constructors.
use Rattle.std.proofs.Common.{◌≡◌, refl, sym, ap, ◌∙◌, ℕ, ◌==◌, Bool, true, false, not, ◌&&◌, ◌||◌, nat_eq, List, [], ◌∷◌, length, Option, Some, None, arith, if◌then◌else◌}
use Rattle.std.specs.Prelude.{max}
use Rattle.std.specs.List.{list_all}
use Rattle.std.proofs.lemmas.Bool.{true≢false, and_from}
use Rattle.ws_base.specs.declared.op.CallWord.{CallWord}
use Rattle.ws_base.specs.declared.op.CallWord.TheVariants as word
use Rattle.ws_tree.specs.declared.expr.Expr.{Expr}
use Rattle.ws_types.specs.declared.types.Typed.{Typed}
use Rattle.ws_types.specs.declared.types.Arguments.{Arguments}
use Rattle.ws_tree.specs.Calls.{takes}
use Rattle.ws_types.specs.Operations.{differ, no_arguments, is_inquiry, is_reduction, has_wrong_type, has_wrong_rank, is_other_type, call_faults}
use Rattle.ws_sema.proofs.NoFaults.{none_first, none_after, not_broken, left_false, right_false}
use Rattle.hlfir_ops.specs.declared.kinds.Elem.TheVariants.{I32, I1}
use Rattle.hlfir_ops.specs.declared.kinds.ValueKind.{ValueKind}
use Rattle.hlfir_ops.specs.declared.kinds.ValueKind.TheVariants as kind
use Rattle.hlfir_ops.specs.declared.what.ValueUnary.TheVariants as unary
use Rattle.hlfir_ops.specs.declared.what.ValueBinary.TheVariants as binary
use Rattle.hlfir_ops.specs.declared.what.Reduction.{Reduction}
use Rattle.hlfir_ops.specs.declared.what.Reduction.TheVariants as reduction
use Rattle.hlfir_ops.specs.declared.what.What.TheVariants as what
use Rattle.hlfir_ops.specs.RulesValues.{Value, kind_at, same_elem, elem_of, rank_of, is_scalar, is_array, has_elem}
use Rattle.hlfir_ops.specs.RulesForms.{reduced_elem, total_elem, is_reduced, same_scalars, are_items, is_array_of, operand_elem}
use Rattle.hlfir_ops.specs.declared.what.ValueBinary.{ValueBinary}
use Rattle.lower_values.specs.declared.operand.Operand.{Operand}
use Rattle.lower_assign.specs.Known.{elem}
use Rattle.lower_values.specs.Scopes.{Scope}
use Rattle.lower_values.specs.Lowerings.{giving}
use Rattle.lower_values.specs.Operations.{values_of, operation, total, call_on, vector, nesting_of, binary_operation}
use Rattle.kind_laws.specs.Found.{Holds}
use Rattle.form_laws.proofs.Passing.{fit-op}
use Rattle.form_laws.proofs.Operands.{scalar_kind, array_kind}
use Rattle.form_laws.proofs.Typed.{IsOf, AreOf, unary-made, binary-made, select-made}
use Rattle.form_laws.proofs.Walking.{Good, good-made}
use Rattle.kind_laws.proofs.Arguments.{argued}
use Rattle.kind_laws.proofs.TypesTold.{not_other, same_elem-same}
use Rattle.kind_laws.proofs.ScalarRanks.{AllScalar}
use Rattle.form_laws.proofs.Arguments.{Each, same_choice}

module _ (vs : List Value) where
  -- ---- so many of them

  one_of : (P : List Typed → List Operand → Type 0) (tys : List Typed) (xs : List Operand) → length tys ≡ 1 → AreOf vs tys xs → ((ty : Typed) (x : Operand) → IsOf vs ty x → P (ty ∷ []) (x ∷ [])) → P tys xs
  one_of P [] xs long of f = absurd (omega (arith, long))
  one_of P (ty ∷ []) [] long of f = absurd of
  one_of P (ty ∷ []) (x ∷ []) long of f = f ty x of.0
  one_of P (ty ∷ []) (x ∷ y ∷ xs) long of f = absurd of.1
  one_of P (ty ∷ tz ∷ tys) xs long of f = absurd (omega (arith, long))

  two_of : (P : List Typed → List Operand → Type 0) (tys : List Typed) (xs : List Operand) → length tys ≡ 2 → AreOf vs tys xs → ((ty tz : Typed) (x y : Operand) → IsOf vs ty x → IsOf vs tz y → P (ty ∷ tz ∷ []) (x ∷ y ∷ [])) → P tys xs
  two_of P [] xs long of f = absurd (omega (arith, long))
  two_of P (ty ∷ []) xs long of f = absurd (omega (arith, long))
  two_of P (ty ∷ tz ∷ []) [] long of f = absurd of
  two_of P (ty ∷ tz ∷ []) (x ∷ []) long of f = absurd of.1
  two_of P (ty ∷ tz ∷ []) (x ∷ y ∷ []) long of f = f ty tz x y of.0 of.1.0
  two_of P (ty ∷ tz ∷ []) (x ∷ y ∷ z ∷ xs) long of f = absurd of.1.1
  two_of P (ty ∷ tz ∷ tw ∷ tys) xs long of f = absurd (omega (arith, long))

  three_of : (P : List Typed → List Operand → Type 0) (tys : List Typed) (xs : List Operand) → length tys ≡ 3 → AreOf vs tys xs →
      ((ty tz tw : Typed) (x y z : Operand) → IsOf vs ty x → IsOf vs tz y → IsOf vs tw z → P (ty ∷ tz ∷ tw ∷ []) (x ∷ y ∷ z ∷ [])) → P tys xs
  three_of P [] xs long of f = absurd (omega (arith, long))
  three_of P (ty ∷ []) xs long of f = absurd (omega (arith, long))
  three_of P (ty ∷ tz ∷ []) xs long of f = absurd (omega (arith, long))
  three_of P (ty ∷ tz ∷ tw ∷ []) [] long of f = absurd of
  three_of P (ty ∷ tz ∷ tw ∷ []) (x ∷ []) long of f = absurd of.1
  three_of P (ty ∷ tz ∷ tw ∷ []) (x ∷ y ∷ []) long of f = absurd of.1.1
  three_of P (ty ∷ tz ∷ tw ∷ []) (x ∷ y ∷ z ∷ []) long of f = f ty tz tw x y z of.0 of.1.0 of.1.1.0
  three_of P (ty ∷ tz ∷ tw ∷ []) (x ∷ y ∷ z ∷ w ∷ xs) long of f = absurd of.1.1.1
  three_of P (ty ∷ tz ∷ tw ∷ tv ∷ tys) xs long of f = absurd (omega (arith, long))

  -- ---- each call

  module _ (line : ℕ) (inside : Bool) (s : Scope) (n : ℕ) where
    abbrev IsGood : CallWord → List Typed → List Operand → Type 0
    IsGood w tys xs = call_faults line inside w (argued no_arguments tys) ≡ [] → Holds vs n (call_on w xs s n).ops → Good vs (call_on w xs s n)

    right_type : (w : CallWord) (a : Arguments) → call_faults line inside w a ≡ [] → has_wrong_type w a ≡ false
    unfolding call_faults
    right_type w a f = not_broken _ _ _ (none_after _ _ (none_first _ _ f))

    right_rank : (w : CallWord) (a : Arguments) → call_faults line inside w a ≡ [] → has_wrong_rank w a ≡ false
    unfolding call_faults
    right_rank w a f = not_broken _ _ _ (none_after _ _ f)

    no_start : (r q : ℕ) → differ (max 0 r) q ≡ false → differ r q ≡ false
    no_start r q h = ap (λ k. differ k q) (let e : r ≡ max 0 r = omega arith in e) ∙ h

    no_start_three : (r q p : ℕ) → differ (max (max 0 r) q) p ≡ false → differ (max r q) p ≡ false
    no_start_three r q p h = ap (λ k. differ (max k q) p) (let e : r ≡ max 0 r = omega arith in e) ∙ h

    abs-good : (ty : Typed) (x : Operand) → IsOf vs ty x → IsGood word.Abs (ty ∷ []) (x ∷ [])
    unfolding call_on
    abs-good ty x of f held =
        good-made vs (operation (what.Unary unary.Abs) I32 (x ∷ []) s n) (unary-made vs false s n unary.Abs I32 x refl of.stands (of.of_elem ∙ ap elem (right_type word.Abs (argued no_arguments (ty ∷ [])) f)) held).made

    division-good : (op : ValueBinary) → operand_elem op ≡ I32 → (ty tz : Typed) (x y : Operand) → IsOf vs ty x → IsOf vs tz y → (ty.truth || tz.truth) ≡ false → differ ty.rank tz.rank ≡ false →
        Holds vs n (binary_operation op x y s n).ops → Good vs (binary_operation op x y s n)
    division-good op number ty tz x y of og types ranks held =
        good-made vs (binary_operation op x y s n)
        (binary-made vs false s n op x y of.stands og.stands (of.of_elem ∙ (ap elem (left_false ty.truth tz.truth types) ∙ sym number)) (og.of_elem ∙ (ap elem (right_false ty.truth tz.truth types) ∙ sym number))
        (ap (λ k. differ k (rank_of y.kind)) of.of_rank ∙ (ap (differ ty.rank) og.of_rank ∙ ranks)) held).made

    mod-good : (ty tz : Typed) (x y : Operand) → IsOf vs ty x → IsOf vs tz y → IsGood word.Mod (ty ∷ tz ∷ []) (x ∷ y ∷ [])
    unfolding call_on
    mod-good ty tz x y of og f held =
        let a = argued no_arguments (ty ∷ tz ∷ []) in
        division-good binary.Mod refl ty tz x y of og (right_type word.Mod a f) (no_start ty.rank tz.rank (right_false (false || differ 0 ty.rank) _ (right_rank word.Mod a f))) held

    modulo-good : (ty tz : Typed) (x y : Operand) → IsOf vs ty x → IsOf vs tz y → IsGood word.Modulo (ty ∷ tz ∷ []) (x ∷ y ∷ [])
    unfolding call_on
    modulo-good ty tz x y of og f held =
        let a = argued no_arguments (ty ∷ tz ∷ []) in
        division-good binary.Modulo refl ty tz x y of og (right_type word.Modulo a f) (no_start ty.rank tz.rank (right_false (false || differ 0 ty.rank) _ (right_rank word.Modulo a f))) held

    merge-good : (ty tz tw : Typed) (x y z : Operand) → IsOf vs ty x → IsOf vs tz y → IsOf vs tw z → IsGood word.Merge (ty ∷ tz ∷ tw ∷ []) (x ∷ y ∷ z ∷ [])
    unfolding call_on
    merge-good ty tz tw x y z of og oh f held =
        let a = argued no_arguments (ty ∷ tz ∷ tw ∷ []) in
        let types = right_type word.Merge a f in
        let ranks = right_rank word.Merge a f in
        let same : ty.truth ≡ tz.truth = same_choice ty.truth tz.truth (left_false (a.truths_before && a.numbers_before) (is_other_type true (Some tw)) types) in
        good-made vs (operation what.Select (elem_of x.kind) (x ∷ y ∷ z ∷ []) s n)
        (select-made vs false s n (elem_of x.kind) x y z of.stands og.stands oh.stands refl (og.of_elem ∙ (ap elem (sym same) ∙ sym of.of_elem))
        (oh.of_elem ∙ ap elem (not_other true tw (right_false (a.truths_before && a.numbers_before) (is_other_type true (Some tw)) types)))
        (ap (λ k. differ k (rank_of y.kind)) of.of_rank ∙ (ap (differ ty.rank) og.of_rank ∙ no_start ty.rank tz.rank (right_false (false || differ 0 ty.rank) _ (left_false _ _ ranks))))
        (ap (λ k. differ (max k (rank_of y.kind)) (rank_of z.kind)) of.of_rank ∙ (ap (λ k. differ (max ty.rank k) (rank_of z.kind)) og.of_rank ∙ (ap (differ (max ty.rank tz.rank)) oh.of_rank ∙ no_start_three ty.rank tz.rank tw.rank (right_false _ _ ranks)))) held).made

    total-good : (r : Reduction) (b : Bool) (ty : Typed) (x : Operand) → IsOf vs ty x → elem b ≡ reduced_elem r → ty.truth ≡ b → (ty.rank == 0) ≡ false → Good vs (total r (x ∷ []) s n)
    unfolding giving
    total-good r b ty x of is truth some =
        let k = x.kind in record {
          fit = fit-op vs false (what.Reduce r) s.line (x.value ∷ []) (Some (kind.Scalar (total_elem r))) []
              (ap (λ o. is_reduced r o && is_scalar (total_elem r) (Some (kind.Scalar (total_elem r)))) of.stands.found
              ∙ and_from (is_array (Some k) && has_elem (reduced_elem r) (Some k)) (same_elem (total_elem r) (total_elem r))
              (and_from (is_array (Some k)) (has_elem (reduced_elem r) (Some k)) (array_kind k (ap (λ q. q == 0) of.of_rank ∙ some)) (ap (same_elem (reduced_elem r)) (of.of_elem ∙ (ap elem truth ∙ is)) ∙ same_elem-same (reduced_elem r))) (same_elem-same (total_elem r))) tt;
          solid = tt;
        }

    not_scalar : (ty : Typed) → (false || nat_eq ty.rank 0) ≡ false → (ty.rank == 0) ≡ false
    not_scalar ty h = grind (arith, h)

    is_truth : (b : Bool) → (false || not b) ≡ false → b ≡ true
    is_truth true h = refl
    is_truth false h = absurd (true≢false h)

    numbers-good : (w : CallWord) (r : Reduction) (tys : List Typed) (xs : List Operand) → length tys ≡ 1 → AreOf vs tys xs → reduced_elem r ≡ I32 → (has_wrong_type w (argued no_arguments tys) ≡ (argued no_arguments tys).truths) → is_reduction w ≡ true →
        call_faults line inside w (argued no_arguments tys) ≡ [] → Good vs (total r xs s n)
    numbers-good w r tys xs long of is types reduces = one_of
        (λ us ys. (has_wrong_type w (argued no_arguments us) ≡ (argued no_arguments us).truths) → call_faults line inside w (argued no_arguments us) ≡ [] → Good vs (total r ys s n)) tys xs long of
        (λ ty x ox same f. let a = argued no_arguments (ty ∷ []) in
        total-good r false ty x ox (sym is) (sym same ∙ right_type w a f) (not_scalar ty (ap (λ b. if b then a.scalars else a.mixed) (sym reduces) ∙ right_rank w a f))) types

    truths-good : (w : CallWord) (r : Reduction) (tys : List Typed) (xs : List Operand) → length tys ≡ 1 → AreOf vs tys xs → reduced_elem r ≡ I1 → (has_wrong_type w (argued no_arguments tys) ≡ (argued no_arguments tys).numbers) → is_reduction w ≡ true →
        call_faults line inside w (argued no_arguments tys) ≡ [] → Good vs (total r xs s n)
    truths-good w r tys xs long of is types reduces = one_of
        (λ us ys. (has_wrong_type w (argued no_arguments us) ≡ (argued no_arguments us).numbers) → call_faults line inside w (argued no_arguments us) ≡ [] → Good vs (total r ys s n)) tys xs long of
        (λ ty x ox same f. let a = argued no_arguments (ty ∷ []) in
        total-good r true ty x ox (sym is) (is_truth ty.truth (sym same ∙ right_type w a f)) (not_scalar ty (ap (λ b. if b then a.scalars else a.mixed) (sym reduces) ∙ right_rank w a f))) types

    counted : (m k : ℕ) (tys : List Typed) → m ≡ length tys → nat_eq m k ≡ true → length tys ≡ k
    counted m k tys same is = grind (arith, same, is)

    pub call-good : (w : CallWord) (es : List Expr) (tys : List Typed) (xs : List Operand) → length es ≡ length tys → takes w es ≡ true → is_inquiry w ≡ false → nesting_of w ≡ None → AreOf vs tys xs → IsGood w tys xs
    unfolding takes call_on
    call-good word.Abs es tys xs long is other nests of = one_of (IsGood word.Abs) tys xs (counted (length es) 1 tys long is) of abs-good
    call-good word.Mod es tys xs long is other nests of = two_of (IsGood word.Mod) tys xs (counted (length es) 2 tys long is) of mod-good
    call-good word.Modulo es tys xs long is other nests of = two_of (IsGood word.Modulo) tys xs (counted (length es) 2 tys long is) of modulo-good
    call-good word.Merge es tys xs long is other nests of = three_of (IsGood word.Merge) tys xs (counted (length es) 3 tys long is) of merge-good
    call-good word.Sum es tys xs long is other nests of = λ f held. numbers-good word.Sum reduction.Sum tys xs (counted (length es) 1 tys long is) of refl refl refl f
    call-good word.Product es tys xs long is other nests of = λ f held. numbers-good word.Product reduction.Product tys xs (counted (length es) 1 tys long is) of refl refl refl f
    call-good word.Minval es tys xs long is other nests of = λ f held. numbers-good word.Minval reduction.Minval tys xs (counted (length es) 1 tys long is) of refl refl refl f
    call-good word.Maxval es tys xs long is other nests of = λ f held. numbers-good word.Maxval reduction.Maxval tys xs (counted (length es) 1 tys long is) of refl refl refl f
    call-good word.Count es tys xs long is other nests of = λ f held. truths-good word.Count reduction.Count tys xs (counted (length es) 1 tys long is) of refl refl refl f
    call-good word.Any es tys xs long is other nests of = λ f held. truths-good word.Any reduction.Any tys xs (counted (length es) 1 tys long is) of refl refl refl f
    call-good word.All es tys xs long is other nests of = λ f held. truths-good word.All reduction.All tys xs (counted (length es) 1 tys long is) of refl refl refl f
    call-good word.Min es tys xs long is other nests of = cc
    call-good word.Max es tys xs long is other nests of = cc
    call-good _ es tys xs long is other nests of = absurd (true≢false other)

  -- ---- constructors

  single_kind : (b : Bool) (ty : Typed) (x : Operand) → IsOf vs ty x → ty.truth ≡ b → ty.rank ≡ 0 → kind_at vs x.value ≡ Some (kind.Scalar (elem b))
  single_kind b ty x of truth rank = of.stands.found ∙ (ap Some (scalar_kind x.kind of.stands.solid (ap (λ r. r == 0) (of.of_rank ∙ rank))) ∙ ap (λ e. Some (kind.Scalar e)) (of.of_elem ∙ ap elem truth))

  items_like : (b : Bool) (k : Option ValueKind) (tys : List Typed) (xs : List Operand) → k ≡ Some (kind.Scalar (elem b)) → AreOf vs tys xs → Each b tys → AllScalar tys → list_all (λ w. same_scalars k (kind_at vs w)) (values_of xs) ≡ true
  items_like b k [] [] is of each single = refl
  items_like b k [] (x ∷ xs) is of each single = absurd of
  items_like b k (ty ∷ tys) [] is of each single = absurd of
  items_like b k (ty ∷ tys) (x ∷ xs) is of each single =
      and_from (same_scalars k (kind_at vs x.value)) (list_all (λ w. same_scalars k (kind_at vs w)) (values_of xs))
      (ap (λ o. same_scalars o (kind_at vs x.value)) is ∙ (ap (same_scalars (Some (kind.Scalar (elem b)))) (single_kind b ty x of.0 each.0 single.0) ∙ same_elem-same (elem b)))
      (items_like b k tys xs is of.1 each.1 single.1)

  pub vector-good : (b : Bool) (ty : Typed) (tys : List Typed) (x : Operand) (xs : List Operand) (s : Scope) (n : ℕ) → AreOf vs (ty ∷ tys) (x ∷ xs) → Each b (ty ∷ tys) → AllScalar (ty ∷ tys) → Good vs (vector (x ∷ xs) s n)
  unfolding vector giving
  vector-good b ty tys x xs s n of each single =
      let found = single_kind b ty x of.0 each.0 single.0 in
      let same : elem_of x.kind ≡ elem b = of.0.of_elem ∙ ap elem each.0 in
      record {
        fit = fit-op vs false what.Vector s.line (x.value ∷ values_of xs) (Some (kind.Array (elem_of x.kind) 1)) []
            (and_from (are_items vs (x.value ∷ values_of xs)) (is_array_of (kind_at vs x.value) 1 (Some (kind.Array (elem_of x.kind) 1)))
            (items_like b (kind_at vs x.value) (ty ∷ tys) (x ∷ xs) found of each single)
            (ap (λ k. is_array_of k 1 (Some (kind.Array (elem_of x.kind) 1))) of.0.stands.found ∙ and_from (same_elem (elem_of x.kind) (elem_of x.kind)) true (same_elem-same (elem_of x.kind)) refl)) tt;
        solid = refl;
      }
