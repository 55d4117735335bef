-- What a lowering makes has the number of a declare or of one of its own values, and so have the vector subscripts in it.
use Rattle.std.proofs.Common.{◌≡◌, refl, sym, ap, ◌∙◌, subst, inl, inr, ℕ, ◌+◌, ◌<◌, ◌≤◌, ◌==◌, Bool, true, false, List, [], ◌∷◌, ◌++◌, map, All, Option, Some, None, arith, if◌then◌else◌}
use Rattle.std.specs.List.{flat_map}
use Rattle.std.proofs.lemmas.List.Elements.{All-nil, All-cons}
use Rattle.std.proofs.lemmas.List.{append-nil}
use Rattle.ws_base.specs.declared.name.Name.{Name}
use Rattle.ws_space.specs.Values.{is_among}
use Rattle.ws_base.specs.declared.op.CallWord.{CallWord}
use Rattle.ws_base.specs.declared.op.CallWord.TheVariants as word
use Rattle.ws_base.specs.declared.op.UnOp.{UnOp}
use Rattle.ws_base.specs.declared.op.UnOp.TheVariants as unop
use Rattle.ws_base.specs.Numbers.{truth}
use Rattle.ws_tree.specs.declared.expr.Expr.{Expr}
use Rattle.ws_types.specs.declared.constant.Constancy.{Constancy}
use Rattle.ws_types.specs.declared.constant.Constancy.TheVariants.{Value, NoValue, NotConstant}
use Rattle.ws_types.specs.Constants.{constancy}
use Rattle.hlfir_ops.specs.declared.kinds.Elem.{Elem}
use Rattle.hlfir_ops.specs.declared.kinds.Elem.TheVariants.{I32, I1}
use Rattle.hlfir_ops.specs.declared.kinds.ValueKind.{ValueKind}
use Rattle.hlfir_ops.specs.declared.kinds.ValueKind.TheVariants as kind
use Rattle.hlfir_ops.specs.declared.what.What.{What}
use Rattle.hlfir_ops.specs.declared.what.What.TheVariants as what
use Rattle.hlfir_ops.specs.declared.op.ValueId.{ValueId}
use Rattle.hlfir_ops.specs.Trees.{op_of}
use Rattle.hlfir_ops.specs.Numbers.{own_numbers, numbers_of}
use Rattle.hlfir_ops.specs.RulesValues.{elem_of, rank_of}
use Rattle.hlfir_ops.specs.RulesForms.{section_rank}
use Rattle.hlfir_ops.proofs.Numbered.{numbers_of-append, op_numbers-op_of}
use Rattle.hlfir_meaning.specs.Stage1.{subscripts_in, vector_subscripts, subscript_numbers}
use Rattle.lower_values.specs.declared.operand.Operand.{Operand}
use Rattle.lower_values.specs.declared.operand.Subscript.{Subscript}
use Rattle.lower_values.specs.declared.operand.Subscript.TheVariants.{One, Range, Vector}
use Rattle.lower_values.specs.Scopes.{Scope, index_of}
use Rattle.lower_values.specs.Lowerings.{Lowering, done, giving, scoped, giving_by, regions_from, ◌>>=◌ as ◌then◌}
use Rattle.lower_values.specs.Operations.{rank_from, on_scalars, at_each, element, operation, value_of_whole, in_parentheses, unary_operation, call_on, vector}
use Rattle.lower_values.specs.References.{variable_of, truth_of, box_of, boxed, load_of, loaded, variable_or_truth, index_or_other, named, subscript_of, sub_kind, sub_values, part_kind, designated}
use Rattle.lower_values.specs.Values.{constant_or, folded}
use Rattle.value_laws.specs.Standing.{IsOwn}
use Rattle.value_laws.proofs.Elementals.{own-wider}
use Rattle.value_laws.proofs.VectorNumbers.{OwnSubscripts, own-none, own-plain, own-append, subscripts-op, among-all}

-- a call is one op without vector subscripts, or an elemental operation
pub call-forms : (P : Lowering Operand → Type 0) → ((w : What) (os : List ValueId) (k : ValueKind) → subscripts_in w os ≡ [] → P (giving w os k)) →
    ((w : What) (e : Elem) (xs : List Operand) → ((os : List ValueId) → subscripts_in w os ≡ []) → P (operation w e xs)) → (w : CallWord) (xs : List Operand) → P (call_on w xs)
unfolding call_on
call-forms P one each word.Sum xs = one (what.Reduce _) _ _ refl
call-forms P one each word.Product xs = one (what.Reduce _) _ _ refl
call-forms P one each word.Minval xs = one (what.Reduce _) _ _ refl
call-forms P one each word.Maxval xs = one (what.Reduce _) _ _ refl
call-forms P one each word.Count xs = one (what.Reduce _) _ _ refl
call-forms P one each word.Any xs = one (what.Reduce _) _ _ refl
call-forms P one each word.All xs = one (what.Reduce _) _ _ refl
call-forms P one each word.Abs xs = each (what.Unary _) I32 xs (λ os. refl)
call-forms P one each word.Mod xs = each (what.Binary _) I32 xs (λ os. refl)
call-forms P one each word.Modulo xs = each (what.Binary _) I32 xs (λ os. refl)
call-forms P one each word.Merge xs = each what.Select _ xs (λ os. refl)
call-forms P one each w xs = each what.Select I32 xs (λ os. refl)

module _ (base : ℕ) (s : Scope) where
  pub record IsTidy {A : Type 0} (low n : ℕ) (p : Lowering A) (P : ℕ → A → Type 0) : Type 0 where
    pub subscripts : OwnSubscripts base low n (p s n).ops
    pub made : P (n + numbers_of (p s n).ops) (p s n).made

  abbrev pub HasOwn : ℕ → ℕ → Operand → Type 0
  HasOwn low high x = IsOwn base low high x.value.number

  pub own-later : (low high high' : ℕ) (x : Operand) → high ≤ high' → HasOwn low high x → HasOwn low high' x
  own-later low high high' x l h = own-wider base low low high high' x.value.number (omega arith) l h

  pub tidy-done : {A : Type 0} (low n : ℕ) (x : A) (P : ℕ → A → Type 0) → P n x → IsTidy low n (done x) P
  unfolding done
  tidy-done low n x P h = record { subscripts = own-none base low n; made = subst (λ k. P k x) (omega arith) h }

  pub tidy-then : {A B : Type 0} (low n : ℕ) (p : Lowering A) (q : A → Lowering B) (P : ℕ → A → Type 0) (Q : ℕ → B → Type 0) → IsTidy low n p P →
      (P (n + numbers_of (p s n).ops) (p s n).made → IsTidy low (n + numbers_of (p s n).ops) (q (p s n).made) Q) → IsTidy low n (p then q) Q
  unfolding ◌then◌
  tidy-then low n p q P Q h g =
      let xs = (p s n).ops in
      let m = n + numbers_of xs in
      let ys = (q (p s n).made s m).ops in
      let k = g h.made in record {
        subscripts = own-append base low n xs ys h.subscripts k.subscripts;
        made = subst (λ j. Q j (q (p s n).made s m).made) (omega (arith, numbers_of-append xs ys)) k.made;
      }

  -- ---- one op

  module _ (low n : ℕ) (l : low ≤ n) where
    pub tidy-giving : (w : What) (os : List ValueId) (k : ValueKind) → subscripts_in w os ≡ [] → IsTidy low n (giving w os k) (HasOwn low)
    unfolding giving
    tidy-giving w os k none = record {
      subscripts = own-plain base low n (op_of w s.line os (Some k) [] ∷ []) (subscripts-op w s.line os (Some k) [] ∙ ap (λ ns. ns ++ []) none);
      made = inr (l, omega (arith, op_numbers-op_of w s.line os (Some k) []));
    }

    tidy-elemental : (w : What) (e : Elem) (rank : ℕ) (xs : List Operand) → IsTidy low n (at_each w e rank xs) (HasOwn low)
    unfolding at_each giving_by
    tidy-elemental w e rank xs =
        let rs = regions_from what.Elemental s.line 0 (n + own_numbers (Some (kind.Array e rank))) (element w e xs ∷ []) s in record {
          subscripts = own-plain base low n (op_of what.Elemental s.line [] (Some (kind.Array e rank)) rs ∷ []) (subscripts-op what.Elemental s.line [] (Some (kind.Array e rank)) rs);
          made = inr (l, omega (arith, op_numbers-op_of what.Elemental s.line [] (Some (kind.Array e rank)) rs));
        }

    operation_by : (w : What) (e : Elem) (xs : List Operand) (b : Bool) → ((os : List ValueId) → subscripts_in w os ≡ []) → IsTidy low n (if b then on_scalars w e xs else at_each w e (rank_from 0 xs) xs) (HasOwn low)
    unfolding on_scalars
    operation_by w e xs true none = tidy-giving w _ (kind.Scalar e) (none _)
    operation_by w e xs false none = tidy-elemental w e (rank_from 0 xs) xs

    pub tidy-operation : (w : What) (e : Elem) (xs : List Operand) → ((os : List ValueId) → subscripts_in w os ≡ []) → IsTidy low n (operation w e xs) (HasOwn low)
    unfolding operation
    tidy-operation w e xs none = operation_by w e xs (rank_from 0 xs == 0) none

    whole_by : (k : ValueKind) (x : Operand) → HasOwn low n x → IsTidy low n (value_of_whole k x) (HasOwn low)
    whole_by (kind.Declared e shape) x h = tidy-giving what.AsExpr (x.value ∷ []) (kind.Array e shape.rank) refl
    whole_by (kind.Allocatable e rank) x h = tidy-giving what.AsExpr (x.value ∷ []) (kind.Array e rank) refl
    whole_by k x h = tidy-done low n x (HasOwn low) h

    pub tidy-parentheses : (x : Operand) → HasOwn low n x → IsTidy low n (in_parentheses x) (HasOwn low)
    unfolding in_parentheses
    tidy-parentheses x h = whole_by x.kind x h

    pub tidy-unary : (op : UnOp) (x : Operand) → HasOwn low n x → IsTidy low n (unary_operation op x) (HasOwn low)
    tidy-unary unop.Minus x h = tidy-operation (what.Unary _) I32 (x ∷ []) (λ os. refl)
    tidy-unary unop.Plus x h = tidy-parentheses x h
    tidy-unary unop.Not x h = tidy-operation (what.Unary _) I1 (x ∷ []) (λ os. refl)

    pub tidy-vector : (xs : List Operand) → IsTidy low n (vector xs) (HasOwn low)
    unfolding vector
    tidy-vector xs = tidy-giving what.Vector _ _ refl

    pub tidy-call : (w : CallWord) (xs : List Operand) → IsTidy low n (call_on w xs) (HasOwn low)
    tidy-call w xs = call-forms (λ p. IsTidy low n p (HasOwn low)) tidy-giving tidy-operation w xs

    -- ---- names

    constant_by : (c : Constancy) (p : Lowering Operand) → IsTidy low n p (HasOwn low) → IsTidy low n (constant_or c p) (HasOwn low)
    constant_by (Value z) p h = tidy-giving (what.Constant z) [] (kind.Scalar I32) refl
    constant_by NoValue p h = h
    constant_by NotConstant p h = h

    pub tidy-scoped : {A : Type 0} (f : Scope → Lowering A) (P : ℕ → A → Type 0) → IsTidy low n (f s) P → IsTidy low n (scoped f) P
    unfolding scoped
    tidy-scoped f P h = record { subscripts = h.subscripts; made = h.made }

    pub tidy-folded : (e : Expr) (p : Lowering Operand) → IsTidy low n p (HasOwn low) → IsTidy low n (folded e p) (HasOwn low)
    unfolding folded
    tidy-folded e p h = tidy-scoped (λ q. constant_or (constancy q.names.constants e) p) (HasOwn low) (constant_by (constancy s.names.constants e) p h)

    box_by : (k : ValueKind) (d : Operand) → d.value.number < base → IsTidy low n (box_of k d) (HasOwn low)
    box_by (kind.Allocatable e rank) d h = tidy-giving what.Boxed (d.value ∷ []) (kind.Allocatable e rank) refl
    box_by k d h = tidy-done low n d (HasOwn low) (inl h)

    pub tidy-boxed : (d : Operand) → d.value.number < base → IsTidy low n (boxed d) (HasOwn low)
    unfolding boxed
    tidy-boxed d h = box_by d.kind d h

    load_by : (k : ValueKind) (x : Operand) → HasOwn low n x → IsTidy low n (load_of k x) (HasOwn low)
    load_by (kind.Place e) x h = tidy-giving what.Load (x.value ∷ []) (kind.Scalar e) refl
    load_by k x h = tidy-done low n x (HasOwn low) h

    pub tidy-loaded : (x : Operand) → HasOwn low n x → IsTidy low n (loaded x) (HasOwn low)
    unfolding loaded
    tidy-loaded x h = load_by x.kind x h

  -- the declares have numbers below `base`
  abbrev pub DeclaresBelow : Type 0
  DeclaresBelow = (x : Name) (d : Operand) → variable_of s.names.variables x ≡ Some d → d.value.number < base

  module _ (below : DeclaresBelow) (low n : ℕ) (l : low ≤ n) where
    variable_by : (x : Name) (o : Option Operand) → variable_of s.names.variables x ≡ o → IsTidy low n (variable_or_truth s.names x o) (HasOwn low)
    variable_by x (Some d) is = tidy-then low n (boxed d) loaded (HasOwn low) (HasOwn low) (tidy-boxed low n l d (below x d is)) (λ h. tidy-loaded low (n + numbers_of (boxed d s n).ops) (omega (arith, l)) (boxed d s n).made h)
    variable_by x None is = tidy-giving low n l (what.Constant (truth (truth_of s.names.truths x))) [] (kind.Scalar I1) refl

    pub tidy-named : (x : Name) → index_of s.indexes x ≡ None → IsTidy low n (named x) (HasOwn low)
    unfolding named
    tidy-named x apart = tidy-scoped low n l (λ q. index_or_other q x (index_of q.indexes x)) (HasOwn low)
        (subst (λ i. IsTidy low n (index_or_other s x i) (HasOwn low)) (sym apart) (variable_by x (variable_of s.names.variables x) refl))

  -- ---- subscripts

  abbrev pub vectors_of : Subscript → List ℕ
  vectors_of (Vector v) = v.number ∷ []
  vectors_of x = []

  abbrev pub vectors_in : List Subscript → List ℕ
  vectors_in [] = []
  vectors_in (x ∷ xs) = vectors_of x ++ vectors_in xs

  pub designate-vectors : (xs : List Subscript) → vector_subscripts (map sub_kind xs) (flat_map sub_values xs) ≡ vectors_in xs
  designate-vectors [] = refl
  designate-vectors (One i ∷ xs) = designate-vectors xs
  designate-vectors (Range l u st ∷ xs) = designate-vectors xs
  designate-vectors (Vector v ∷ xs) = ap (λ ns. v.number ∷ ns) (designate-vectors xs)

  abbrev pub HaveOwn : ℕ → ℕ → List Subscript → Type 0
  HaveOwn low high xs = All (IsOwn base low high) (vectors_in xs)

  vector_by : (b : Bool) (low high : ℕ) (x : Operand) → HasOwn low high x → All (IsOwn base low high) (vectors_of (if b then One x.value else Vector x.value))
  vector_by true low high x h = All-nil (IsOwn base low high)
  vector_by false low high x h = All-cons (IsOwn base low high) x.value.number [] h (All-nil (IsOwn base low high))

  pub subscript-own : (low high : ℕ) (x : Operand) → HasOwn low high x → All (IsOwn base low high) (vectors_of (subscript_of x))
  subscript-own low high x h = vector_by (rank_of x.kind == 0) low high x h

  module _ (low n : ℕ) (l : low ≤ n) where
    pub tidy-designated : (r : Operand) (xs : List Subscript) → HaveOwn low n xs → IsTidy low n (designated r xs) (HasOwn low)
    unfolding designated giving
    tidy-designated r xs h =
        let os = r.value ∷ flat_map sub_values xs in
        let w = what.Designate (map sub_kind xs) in
        let k : Option ValueKind = Some (part_kind (elem_of r.kind) (section_rank (map sub_kind xs))) in
        let ops = op_of w s.line os k [] ∷ [] in
        let ns : subscript_numbers ops ≡ vectors_in xs ++ [] = subscripts-op w s.line os k [] ∙ ap (λ js. js ++ []) (designate-vectors xs) in
        record {
          subscripts = record {
            own = λ j at. own-wider base low low n (n + numbers_of ops) j (omega arith) (omega arith)
                (among-all (IsOwn base low n) (vectors_in xs) j h (sym (ap (is_among j) (ns ∙ append-nil (vectors_in xs))) ∙ at));
          };
          made = inr (l, omega (arith, op_numbers-op_of w s.line os k []));
        }
