-- Operations on operands of known types.
use Rattle.std.proofs.Common.{◌≡◌, refl, sym, ap, ◌∙◌, subst, ℕ, zero, suc, ◌==◌, ◌⊎◌, inl, inr, Bool, true, false, ◌&&◌, List, [], ◌∷◌, Option, Some, arith, if◌then◌else◌}
use Rattle.std.proofs.lemmas.Bool.{and_from}
use Rattle.ws_types.specs.Operations.{differ}
use Rattle.hlfir_ops.specs.declared.kinds.Elem.{Elem}
use Rattle.hlfir_ops.specs.declared.kinds.Elem.TheVariants.{I1}
use Rattle.hlfir_ops.specs.declared.kinds.ValueKind.{ValueKind}
use Rattle.hlfir_ops.specs.declared.kinds.ValueKind.TheVariants.{Scalar}
use Rattle.hlfir_ops.specs.declared.what.ValueUnary.{ValueUnary}
use Rattle.hlfir_ops.specs.declared.what.ValueBinary.{ValueBinary}
use Rattle.hlfir_ops.specs.declared.what.What.{What}
use Rattle.hlfir_ops.specs.declared.what.What.TheVariants as what
use Rattle.hlfir_ops.specs.RulesValues.{Value, kind_of, kind_at, same_elem, elem_of, rank_of, is_scalar}
use Rattle.hlfir_ops.specs.RulesForms.{unary_elem, operand_elem, result_elem, same_scalars, are_two, are_choices, is_scalar_of}
use Rattle.lower_values.specs.declared.operand.Operand.{Operand}
use Rattle.lower_values.specs.Scopes.{Scope}
use Rattle.lower_values.specs.Lowerings.{Lowered, giving, giving_by}
use Rattle.lower_values.specs.Operations.{values_of, arranged, on_scalars, at_each, operation, rank_from}
use Rattle.kind_laws.specs.Found.{Holds}
use Rattle.form_laws.proofs.Passing.{part_fits}
use Rattle.kind_laws.proofs.Finding.{own_value}
use Rattle.kind_laws.proofs.TypesTold.{same_elem-same}
use Rattle.form_laws.proofs.Operands.{scalar_kind, AreScalars, Made}
use Rattle.form_laws.proofs.Elementals.{elems_of, HasRank, TakesScalars, Conform, on_scalars-fit}
use Rattle.form_laws.proofs.Bodies.{at_each-made}

-- ---- what ops take

is_one : (e : Elem) (k : Option ValueKind) → k ≡ Some (Scalar e) → is_scalar e k ≡ true
is_one e k h = ap (is_scalar e) h ∙ same_elem-same e

pub takes-unary : (op : ValueUnary) → TakesScalars (what.Unary op) (unary_elem op) (unary_elem op ∷ [])
takes-unary op = record { fits = fits; no_apply = refl }
  where
    fits : (vs : List Value) (b : Bool) (line : ℕ) (ys : List Operand) → AreScalars vs ys (unary_elem op ∷ []) → part_fits vs b (what.Unary op) line (arranged (what.Unary op) (values_of ys)) (Some (Scalar (unary_elem op))) [] ≡ true
    fits vs b line [] h = absurd h
    fits vs b line (y ∷ []) h = and_from (is_scalar (unary_elem op) (kind_at vs y.value)) (same_elem (unary_elem op) (unary_elem op)) (is_one (unary_elem op) (kind_at vs y.value) h.0) (same_elem-same (unary_elem op))
    fits vs b line (y ∷ z ∷ ys) h = absurd h.1

pub takes-binary : (op : ValueBinary) → TakesScalars (what.Binary op) (result_elem op) (operand_elem op ∷ operand_elem op ∷ [])
takes-binary op = record { fits = fits; no_apply = refl }
  where
    fits : (vs : List Value) (b : Bool) (line : ℕ) (ys : List Operand) → AreScalars vs ys (operand_elem op ∷ operand_elem op ∷ []) → part_fits vs b (what.Binary op) line (arranged (what.Binary op) (values_of ys)) (Some (Scalar (result_elem op))) [] ≡ true
    fits vs b line [] h = absurd h
    fits vs b line (y ∷ []) h = absurd h.1
    fits vs b line (y ∷ z ∷ []) h =
        and_from (are_two (operand_elem op) vs (y.value ∷ z.value ∷ [])) (same_elem (result_elem op) (result_elem op))
        (and_from (is_scalar (operand_elem op) (kind_at vs y.value)) (is_scalar (operand_elem op) (kind_at vs z.value)) (is_one (operand_elem op) (kind_at vs y.value) h.0) (is_one (operand_elem op) (kind_at vs z.value) h.1.0)) (same_elem-same (result_elem op))
    fits vs b line (y ∷ z ∷ x ∷ ys) h = absurd h.1.1

pub takes-select : (e : Elem) → TakesScalars what.Select e (e ∷ e ∷ I1 ∷ [])
takes-select e = record { fits = fits; no_apply = refl }
  where
    fits : (vs : List Value) (b : Bool) (line : ℕ) (ys : List Operand) → AreScalars vs ys (e ∷ e ∷ I1 ∷ []) → part_fits vs b what.Select line (arranged what.Select (values_of ys)) (Some (Scalar e)) [] ≡ true
    fits vs b line [] h = absurd h
    fits vs b line (y ∷ []) h = absurd h.1
    fits vs b line (y ∷ z ∷ []) h = absurd h.1.1
    fits vs b line (y ∷ z ∷ m ∷ []) h =
        let choices : (is_scalar I1 (kind_at vs m.value) && same_scalars (kind_at vs y.value) (kind_at vs z.value)) ≡ true =
        and_from (is_scalar I1 (kind_at vs m.value)) (same_scalars (kind_at vs y.value) (kind_at vs z.value)) (is_one I1 (kind_at vs m.value) h.1.1.0)
        (ap (λ k. same_scalars k (kind_at vs z.value)) h.0 ∙ (ap (same_scalars (Some (Scalar e))) h.1.0 ∙ same_elem-same e)) in
        and_from (are_choices vs (m.value ∷ y.value ∷ z.value ∷ [])) (is_scalar_of (kind_at vs y.value) (Some (Scalar e))) choices (ap (λ k. is_scalar_of k (Some (Scalar e))) h.0 ∙ same_elem-same e)
    fits vs b line (y ∷ z ∷ m ∷ x ∷ ys) h = absurd h.1.1.1

-- ---- an operation

operation-is : (w : What) (e : Elem) (xs : List Operand) (b : Bool) → (rank_from 0 xs == 0) ≡ b → operation w e xs ≡ (if b then on_scalars w e xs else at_each w e (rank_from 0 xs) xs)
unfolding operation
operation-is w e xs b h = ap (λ c. if c then on_scalars w e xs else at_each w e (rank_from 0 xs) xs) h

module _ (vs : List Value) where
  all_scalars : (rank : ℕ) (xs : List Operand) → (rank == 0) ≡ true → Conform vs rank xs → AreScalars vs xs (elems_of xs)
  all_scalars rank [] is h = tt
  all_scalars rank (x ∷ xs) is h =
      let none : HasRank rank x → (rank_of x.kind == 0) ≡ true = λ o. elim o as (λ _. (rank_of x.kind == 0) ≡ true) [ inl z ↦ z | inr r ↦ ap (λ k. k == 0) r ∙ is ] in
      (h.0.0.found ∙ ap Some (scalar_kind x.kind h.0.0.solid (none h.0.1)), all_scalars rank xs is h.1)

  -- the operand of an operation
  pub record OfOperation (b : Bool) (e : Elem) (rank : ℕ) (l : Lowered Operand) : Type 0 where
    pub made : Made vs b l
    pub of_elem : elem_of l.made.kind ≡ e
    pub of_rank : rank_of l.made.kind ≡ rank

  module _ (w : What) (e : Elem) (es : List Elem) (t : TakesScalars w e es) (s : Scope) (n : ℕ) (xs : List Operand) (same : elems_of xs ≡ es) (conform : Conform vs (rank_from 0 xs) xs) (b : Bool) where
    scalars-made : (rank_from 0 xs == 0) ≡ true → Holds vs n (on_scalars w e xs s n).ops → OfOperation b e (rank_from 0 xs) (on_scalars w e xs s n)
    unfolding on_scalars giving
    scalars-made is held = record {
      made = record {
        fit = on_scalars-fit vs b w e es t xs (subst (AreScalars vs xs) same (all_scalars (rank_from 0 xs) xs is conform)) s n;
        stands = record { found = ap kind_of (own_value vs n w s.line (arranged w (values_of xs)) (Scalar e) [] [] held); solid = tt };
      };
      of_elem = refl;
      of_rank = grind (arith, is);
    }

    arrays-made : (rank_from 0 xs == 0) ≡ false → Holds vs n (at_each w e (rank_from 0 xs) xs s n).ops → OfOperation b e (rank_from 0 xs) (at_each w e (rank_from 0 xs) xs s n)
    unfolding at_each giving_by
    arrays-made is held = record { made = at_each-made vs w e es t (rank_from 0 xs) is s n xs same conform held b; of_elem = refl; of_rank = refl }

    by_rank : (c : Bool) → (rank_from 0 xs == 0) ≡ c → Holds vs n ((if c then on_scalars w e xs else at_each w e (rank_from 0 xs) xs) s n).ops → OfOperation b e (rank_from 0 xs) ((if c then on_scalars w e xs else at_each w e (rank_from 0 xs) xs) s n)
    by_rank true is held = scalars-made is held
    by_rank false is held = arrays-made is held

    pub operation-made : Holds vs n (operation w e xs s n).ops → OfOperation b e (rank_from 0 xs) (operation w e xs s n)
    operation-made held =
        let c = rank_from 0 xs == 0 in
        let is = operation-is w e xs c refl in
        subst (λ p. OfOperation b e (rank_from 0 xs) (p s n)) (sym is) (by_rank c refl (subst (λ p. Holds vs n (p s n).ops) is held))

-- ---- ranks

pub agree : (m n : ℕ) → differ m n ≡ false → (m ≡ 0) ⊎ ((n ≡ 0) ⊎ (m ≡ n))
agree zero n h = inl refl
agree (suc m) zero h = inr (inl refl)
agree (suc m) (suc n) h = inr (inr (grind (arith, h)))
