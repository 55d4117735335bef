-- The same of the lowerings of sections and constructors, in parentheses too.
use Rattle.std.proofs.Common.{◌≡◌, refl, sym, ap, ◌∙◌, subst, inl, inr, ℕ, ◌+◌, ◌==◌, Bool, true, false, if◌then◌else◌, List, [], ◌∷◌, ◌++◌, map, length, Some, Ok, arith, append_assoc}
use Rattle.std.specs.List.{flat_map}
use Rattle.std.proofs.lemmas.Bool.{true≢false}
use Rattle.std.proofs.lemmas.List.{append-nil}
use Rattle.std.proofs.lemmas.List.Elements.{All-nil, All-cons}
use Rattle.ws_base.specs.declared.name.Name.{Name}
use Rattle.ws_base.specs.declared.op.UnOp.TheVariants as unop
use Rattle.ws_tree.specs.declared.expr.Expr.{Expr}
use Rattle.ws_tree.specs.declared.expr.Expr.TheVariants.{Part', Vector'}
use Rattle.ws_tree.specs.Trees.{Subs, Exprs, paren, unary}
use Rattle.ws_types.specs.declared.constant.Constant.{Constant}
use Rattle.ws_types.specs.declared.constant.Constancy.TheVariants.{NotConstant}
use Rattle.ws_types.specs.Constants.{signed, constancy}
use Rattle.ws_types.specs.Sections.{is_section}
use Rattle.hlfir_ops.specs.declared.kinds.Elem.{Elem}
use Rattle.hlfir_ops.specs.declared.kinds.ValueKind.{ValueKind}
use Rattle.hlfir_ops.specs.declared.kinds.ValueKind.TheVariants as kind
use Rattle.hlfir_ops.specs.declared.what.SubKind.{SubKind}
use Rattle.hlfir_ops.specs.declared.what.What.TheVariants as what
use Rattle.hlfir_ops.specs.declared.op.Op.{Op}
use Rattle.hlfir_ops.specs.Trees.{op_of}
use Rattle.hlfir_ops.specs.Numbers.{numbers_of}
use Rattle.hlfir_ops.specs.RulesValues.{elem_of}
use Rattle.hlfir_ops.specs.RulesForms.{section_rank}
use Rattle.hlfir_ops.proofs.Numbered.{numbers_of-append}
use Rattle.hlfir_meaning.specs.Environments.{Environment, operand}
use Rattle.hlfir_meaning.specs.Selections.{extents}
use Rattle.hlfir_meaning.specs.Stage1 as walked
use Rattle.lower_values.specs.declared.operand.Operand.{Operand}
use Rattle.lower_values.specs.declared.operand.Subscript.{Subscript}
use Rattle.lower_values.specs.Scopes.{Scope}
use Rattle.lower_values.specs.Lowerings.{Lowered, Lowering, done, giving, scoped, ◌>>=◌ as ◌then◌}
use Rattle.lower_values.specs.Operations.{values_of, first_elem, value_of_whole, in_parentheses, unary_operation, vector}
use Rattle.lower_values.specs.References.{sub_kind, sub_values, reference, load_of, loaded, designated}
use Rattle.lower_values.specs.Values.{constant_or, folded, part_of, value, values, subscripts}
use Rattle.value_laws.specs.Variables.{IsNamed}
use Rattle.part_laws.specs.Parts.{IsOfRankOne}
use Rattle.part_laws.specs.Selects.{selected_by}
use Rattle.part_laws.proofs.Held.{IsVectorOf, designator-vector, IsFound}
use Rattle.part_laws.proofs.Ranks.{selected-rank}
use Rattle.part_laws.proofs.Walked.{Walked, last-made, of_ok}

-- What was lowered from this number on leaves a scalar or a value that a designator may take, and no declare or box of an array.
pub record HeldBy (vectors : List ℕ) (n : ℕ) (l : Lowered Operand) : Type 0 where
  pub found : (env after : Environment) (m : ℕ) → Walked vectors n env l.ops m after → IsFound l.made.kind (after l.made.value.number)
  pub unnamed : IsNamed l.made.kind → ⊥

module _ (vectors : List ℕ) (s : Scope) where
  held-nothing : (n : ℕ) (l : Lowered Operand) → HeldBy vectors n l → HeldBy vectors n (record { ops = l.ops ++ []; made = l.made })
  held-nothing n l h = subst (λ ops. HeldBy vectors n (record { ops = ops; made = l.made })) (sym (append-nil l.ops)) h

  -- ---- designators

  module _ (n : ℕ) (first second : List Op) (r : Operand) (ss : List Subscript) where
    abbrev ks : List SubKind
    ks = map sub_kind ss

    abbrev op : ValueKind → Op
    op k = op_of (what.Designate ks) s.line (r.value ∷ flat_map sub_values ss) (Some k) []

    abbrev number : ℕ
    number = n + numbers_of first + numbers_of second

    designate-held : (k : ValueKind) (env after : Environment) (m : ℕ) → Walked vectors n env (first ++ (second ++ op k ∷ [])) m after → IsVectorOf (section_rank ks) (after number)
    designate-held k env after m h =
        let made = last-made vectors m after (what.Designate ks) s.line (r.value ∷ flat_map sub_values ss) (Some k) (λ b. refl) (first ++ second) n env
        (λ rest. ap (λ ops. walked.stage1 vectors n env (ops ++ rest)) (append_assoc first second (op k ∷ [])) ∙ h rest) in
        let sel = selected_by made.0 ss in
        subst (λ j. IsVectorOf (section_rank ks) (after j)) (omega (arith, numbers_of-append first second))
        (subst (λ j. IsVectorOf j (after (n + numbers_of (first ++ second)))) (selected-rank made.0 ss)
        (of_ok (IsVectorOf (length (extents sel))) (walked.designator (operand made.0 (r.value ∷ flat_map sub_values ss)) sel) (after (n + numbers_of (first ++ second))) (designator-vector (operand made.0 (r.value ∷ flat_map sub_values ss)) sel) made.1))

    -- an element is loaded
    part_by : (e : Elem) (b : Bool) → (section_rank ks == 0) ≡ b → let k = if b then kind.Place e else kind.Section e (section_rank ks) in let x : Operand = record { value = record { number = number }; kind = k } in
        (m : ℕ) → HeldBy vectors n (record { ops = (first ++ (second ++ op k ∷ [])) ++ (load_of k x s m).ops; made = (load_of k x s m).made })
    unfolding giving done
    part_by e true is m = record { found = λ env after j h. inl refl; unnamed = λ h. h }
    part_by e false is m = held-nothing n (record { ops = first ++ (second ++ op (kind.Section e (section_rank ks)) ∷ []); made = record { value = record { number = number }; kind = kind.Section e (section_rank ks) } })
        (record { found = λ env after j h. inr (designate-held (kind.Section e (section_rank ks)) env after j h); unnamed = λ h. h })

  part-held : {k : _} (x : Name) (subs : Subs k) (n : ℕ) → HeldBy vectors n ((part_of x (λ r. subscripts r 1 subs) then loaded) s n)
  unfolding part_of loaded designated giving ◌then◌
  part-held x subs n =
      let r = reference x s n in
      let m = n + numbers_of r.ops in
      let ss = subscripts r.made 1 subs s m in
      part_by n r.ops ss.ops r.made ss.made (elem_of r.made.kind) (section_rank (map sub_kind ss.made) == 0) refl _

  -- ---- constructors

  vector-held : {k : _} (es : Exprs k) (n : ℕ) → HeldBy vectors n ((values es then vector) s n)
  unfolding vector giving ◌then◌
  vector-held es n =
      let xs = values es s n in
      let kind = kind.Array (first_elem xs.made) 1 in
      record {
        found = λ env after m h.
            let made = last-made vectors m after what.Vector s.line (values_of xs.made) (Some kind) (λ b. refl) xs.ops n env h in
            inr (of_ok (IsVectorOf 1) (Ok (walked.vector (walked.scalars made.0 (values_of xs.made)))) (after (n + numbers_of xs.ops))
            (record { held = tt; dimension = λ few. All-cons IsOfRankOne (length (walked.scalars made.0 (values_of xs.made)) ∷ []) [] tt (All-nil IsOfRankOne) }) made.1);
        unnamed = λ h. h;
      }

  -- ---- parentheses and plus

  whole_held : (n m : ℕ) (l : Lowered Operand) (k : ValueKind) → (IsNamed k → ⊥) → HeldBy vectors n l → HeldBy vectors n (record { ops = l.ops ++ (value_of_whole k l.made s m).ops; made = (value_of_whole k l.made s m).made })
  unfolding done
  whole_held n m l (kind.Declared e shape) unnamed h = absurd (unnamed tt)
  whole_held n m l (kind.Allocatable e rank) unnamed h = absurd (unnamed tt)
  whole_held n m l k unnamed h = held-nothing n l h

  parens-held : (n : ℕ) (p : Lowering Operand) → HeldBy vectors n (p s n) → HeldBy vectors n ((p then in_parentheses) s n)
  unfolding in_parentheses ◌then◌
  parens-held n p h = whole_held n (n + numbers_of (p s n).ops) (p s n) (p s n).made.kind h.unnamed h

  not_constant : (cs : List Constant) (e : Expr) → is_section e ≡ true → constancy cs e ≡ NotConstant
  not_constant cs (Part' x h subs) is = refl
  not_constant cs (Vector' h es) is = refl
  not_constant cs (paren e) is = not_constant cs e is
  not_constant cs (unary unop.Plus e) is = ap (signed unop.Plus) (not_constant cs e is)
  not_constant cs e is = absurd (true≢false (sym is))

  folded-held : (n : ℕ) (e : Expr) (p : Lowering Operand) → is_section e ≡ true → HeldBy vectors n (p s n) → HeldBy vectors n (folded e p s n)
  unfolding folded scoped
  folded-held n e p is h = subst (λ c. HeldBy vectors n (constant_or c p s n)) (sym (not_constant s.names.constants e is)) h

  pub section-held : (e : Expr) → is_section e ≡ true → (n : ℕ) → HeldBy vectors n (value e s n)
  section-held (Part' x h subs) is n = part-held x subs n
  section-held (Vector' h es) is n = vector-held es n
  section-held (paren e) is n = folded-held n (paren e) (value e then in_parentheses) is (parens-held n (value e) (section-held e is n))
  section-held (unary unop.Plus e) is n = folded-held n (unary unop.Plus e) (value e then unary_operation unop.Plus) is (parens-held n (value e) (section-held e is n))
  section-held e is n = absurd (true≢false (sym is))
