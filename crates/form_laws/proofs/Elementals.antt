-- An operation on arrays: the elemental, and each op in its body.
use Rattle.std.proofs.Common.{◌≡◌, refl, sym, ap, ◌∙◌, subst, ℕ, ◌+◌, ◌==◌, ◌⊎◌, inl, inr, Bool, true, false, not, ◌&&◌, ◌||◌, List, [], ◌∷◌, ◌++◌, map, Some, arith, if◌then◌else◌}
use Rattle.std.proofs.lemmas.Bool.{true≢false, and_from}
use Rattle.std.proofs.lemmas.List.{append-nil}
use Rattle.std.proofs.lemmas.List.Folds.{list_all-append}
use Rattle.std.specs.List.{list_all}
use Rattle.hlfir_ops.specs.declared.kinds.Elem.{Elem}
use Rattle.hlfir_ops.specs.declared.kinds.ValueKind.TheVariants.{Scalar}
use Rattle.hlfir_ops.specs.declared.what.What.{What}
use Rattle.hlfir_ops.specs.declared.what.What.TheVariants as what
use Rattle.hlfir_ops.specs.declared.op.Op.{Op, Op-F, out-roll-Op}
use Rattle.hlfir_ops.specs.declared.op.Region.{Region}
use Rattle.hlfir_ops.specs.Trees.{op_of}
use Rattle.hlfir_ops.specs.Numbers.{numbers_of}
use Rattle.hlfir_ops.specs.RulesValues.{Value, kind_of, kind_at, elem_of, rank_of, has_rank, is_array}
use Rattle.hlfir_ops.specs.RulesRegions.{is_apply}
use Rattle.hlfir_ops.specs.RulesForms.{applies_rank, is_scalar_of}
use Rattle.lower_values.specs.declared.operand.Operand.{Operand}
use Rattle.lower_values.specs.Scopes.{Scope}
use Rattle.lower_values.specs.Lowerings.{Lowering, Lowered, done, ◌>>=◌, giving}
use Rattle.lower_values.specs.Operations.{values_of, arranged, on_scalars, at_position, at_positions}
use Rattle.kind_laws.specs.Found.{Holds}
use Rattle.form_laws.proofs.Passing.{AreFit, fit-none, fit-append, fit-op, part_fits}
use Rattle.kind_laws.proofs.Finding.{holds_first, holds_after, own_value}
use Rattle.kind_laws.proofs.TypesTold.{same_elem-same}
use Rattle.form_laws.proofs.Operands.{scalar_kind, array_kind, IsFound, Stands, AreScalars}

abbrev pub elems_of : List Operand → List Elem
elems_of = map (λ x. elem_of x.kind)

-- of rank 0, or of this one
abbrev pub HasRank : ℕ → Operand → Type 0
HasRank rank x = ((rank_of x.kind == 0) ≡ true) ⊎ (rank_of x.kind ≡ rank)

-- an op that takes scalars of these types and gives one of this type
pub record TakesScalars (w : What) (e : Elem) (es : List Elem) : Type 0 where
  pub fits : (vs : List Value) (b : Bool) (line : ℕ) (ys : List Operand) → AreScalars vs ys es → part_fits vs b w line (arranged w (values_of ys)) (Some (Scalar e)) [] ≡ true
  pub no_apply : is_apply w ≡ false

module _ (vs : List Value) where
  abbrev pub Conform : ℕ → List Operand → Type 0
  Conform rank [] = Unit {0}
  Conform rank (x ∷ xs) = (Stands vs x × HasRank rank x) × Conform rank xs

  pub on_scalars-fit : (b : Bool) (w : What) (e : Elem) (es : List Elem) → TakesScalars w e es → (ys : List Operand) → AreScalars vs ys es → (s : Scope) (n : ℕ) → AreFit vs b (on_scalars w e ys s n).ops
  unfolding on_scalars giving
  on_scalars-fit b w e es t ys h s n = fit-op vs b w s.line (arranged w (values_of ys)) (Some (Scalar e)) [] (t.fits vs b s.line ys h) tt

  -- ---- operands at the current position

  pub record Positioned (rank : ℕ) (x : Operand) (l : Lowered Operand) : Type 0 where
    pub fit : AreFit vs true l.ops
    pub applies : list_all (applies_rank vs rank) l.ops ≡ true
    pub found : kind_at vs l.made.value ≡ Some (Scalar (elem_of x.kind))

  abbrev position : Bool → Operand → Lowering Operand
  position direct x = if direct then done x else giving what.Apply (x.value ∷ []) (Scalar (elem_of x.kind))

  at_position-is : (x : Operand) → at_position x ≡ position (rank_of x.kind == 0) x
  unfolding at_position
  at_position-is x = refl

  abbrev apply_fields : Scope → Operand → Op-F Op Region
  apply_fields s x = record { what = what.Apply; line = s.line; operands = x.value ∷ []; kind = Some (Scalar (elem_of x.kind)); regions = [] }

  -- whatever applies an array of this rank
  apply_ranked : (rank : ℕ) (s : Scope) (x : Operand) → IsFound vs x → rank_of x.kind ≡ rank → list_all (applies_rank vs rank) (op_of what.Apply s.line (x.value ∷ []) (Some (Scalar (elem_of x.kind))) [] ∷ []) ≡ true
  apply_ranked rank s x found is =
      let test : Op-F Op Region → Bool = λ f. (not (is_apply f.what) || list_all (λ v. has_rank rank (kind_at vs v)) f.operands) && true in
      ap test (out-roll-Op (apply_fields s x)) ∙ (ap (λ k. (has_rank rank k && true) && true) found ∙ (let same : (rank_of x.kind == rank) ≡ true = grind (arith, is) in ap (λ b. (b && true) && true) same))

  apply_fits : (s : Scope) (x : Operand) → IsFound vs x → (rank_of x.kind == 0) ≡ false → part_fits vs true what.Apply s.line (x.value ∷ []) (Some (Scalar (elem_of x.kind))) [] ≡ true
  apply_fits s x found is =
      ap (λ k. is_array k && is_scalar_of k (Some (Scalar (elem_of x.kind)))) found ∙ and_from (is_array (Some x.kind)) (is_scalar_of (Some x.kind) (Some (Scalar (elem_of x.kind)))) (array_kind x.kind is) (same_elem-same (elem_of x.kind))

  position-positioned : (direct : Bool) (rank : ℕ) (x : Operand) (s : Scope) (n : ℕ) → Stands vs x → HasRank rank x → (rank_of x.kind == 0) ≡ direct → Holds vs n (position direct x s n).ops → Positioned rank x (position direct x s n)
  unfolding done giving
  position-positioned true rank x s n stands h is held = record { fit = fit-none vs true; applies = refl; found = stands.found ∙ ap Some (scalar_kind x.kind stands.solid is) }
  position-positioned false rank x s n stands (inl h) is held = absurd (true≢false (sym h ∙ is))
  position-positioned false rank x s n stands (inr h) is held = record {
    fit = fit-op vs true what.Apply s.line (x.value ∷ []) (Some (Scalar (elem_of x.kind))) [] (apply_fits s x stands.found is) tt;
    applies = apply_ranked rank s x stands.found h;
    found = ap kind_of (own_value vs n what.Apply s.line (x.value ∷ []) (Scalar (elem_of x.kind)) [] [] held);
  }

  pub record AllPositioned (rank : ℕ) (xs : List Operand) (l : Lowered (List Operand)) : Type 0 where
    pub fit : AreFit vs true l.ops
    pub applies : list_all (applies_rank vs rank) l.ops ≡ true
    pub found : AreScalars vs l.made (elems_of xs)

  at_position-positioned : (rank : ℕ) (x : Operand) (s : Scope) (n : ℕ) → Stands vs x → HasRank rank x → Holds vs n (at_position x s n).ops → Positioned rank x (at_position x s n)
  at_position-positioned rank x s n stands h held =
      subst (λ p. Positioned rank x (p s n)) (sym (at_position-is x)) (position-positioned (rank_of x.kind == 0) rank x s n stands h refl (subst (λ p. Holds vs n (p s n).ops) (at_position-is x) held))

  joined_positions : (rank : ℕ) (x : Operand) (xs : List Operand) (l : Lowered Operand) (ls : Lowered (List Operand)) → Positioned rank x l → AllPositioned rank xs ls → AllPositioned rank (x ∷ xs) (record { ops = l.ops ++ (ls.ops ++ []); made = l.made ∷ ls.made })
  joined_positions rank x xs l ls h hs = record {
    fit = subst (λ os. AreFit vs true (l.ops ++ os)) (sym (append-nil ls.ops)) (fit-append vs true l.ops ls.ops h.fit hs.fit);
    applies = ap (λ os. list_all (applies_rank vs rank) (l.ops ++ os)) (append-nil ls.ops) ∙ (list_all-append (applies_rank vs rank) l.ops ls.ops ∙ and_from _ _ h.applies hs.applies);
    found = (h.found, hs.found);
  }

  pub positions-positioned : (rank : ℕ) (xs : List Operand) (s : Scope) (n : ℕ) → Conform rank xs → Holds vs n (at_positions xs s n).ops → AllPositioned rank xs (at_positions xs s n)
  unfolding at_positions ◌>>=◌ done
  positions-positioned rank [] s n h held = record { fit = fit-none vs true; applies = refl; found = tt }
  positions-positioned rank (x ∷ xs) s n h held =
      let first = at_position x s n in
      let m = n + numbers_of first.ops in
      let rest = at_positions xs s m in
      joined_positions rank x xs first rest (at_position-positioned rank x s n h.0.0 h.0.1 (holds_first vs n first.ops (rest.ops ++ []) held))
      (positions-positioned rank xs s m h.1 (holds_first vs m rest.ops [] (holds_after vs n first.ops (rest.ops ++ []) held)))
