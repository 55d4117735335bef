-- The subscripts of a designator are clear: those that are vectors are taken by its op, and nothing else in them.
use Rattle.std.proofs.Common.{◌≡◌, refl, sym, ap, ◌∙◌, subst, inl, inr, ℕ, suc, ◌+◌, ◌≤◌, ◌==◌, Bool, true, false, List, [], ◌∷◌, ◌++◌, map, Some, pos, arith, if◌then◌else◌}
use Rattle.std.specs.List.{flat_map}
use Rattle.std.specs.Prelude.{◌||◌, not}
use Rattle.std.proofs.lemmas.List.{append-nil}
use Rattle.ws_base.specs.declared.name.Name.{Name}
use Rattle.ws_space.specs.Values.{is_among}
use Rattle.ws_tree.specs.declared.expr.Expr.{Expr}
use Rattle.ws_tree.specs.declared.expr.Sub.{Sub}
use Rattle.ws_tree.specs.declared.expr.Sub.TheVariants as sub
use Rattle.ws_tree.specs.Trees.{Subs, more_subs, Given, given}
use Rattle.ws_types.specs.Sections.{is_designator}
use Rattle.hlfir_ops.specs.declared.kinds.Elem.TheVariants.{I32}
use Rattle.hlfir_ops.specs.declared.kinds.ValueKind.{ValueKind}
use Rattle.hlfir_ops.specs.declared.kinds.ValueKind.TheVariants as kind
use Rattle.hlfir_ops.specs.declared.what.BoundWord.TheVariants.{Lower, Upper}
use Rattle.hlfir_ops.specs.declared.what.What.TheVariants as what
use Rattle.hlfir_ops.specs.Numbers.{numbers_of}
use Rattle.hlfir_ops.specs.RulesValues.{elem_of, rank_of}
use Rattle.hlfir_ops.specs.RulesForms.{section_rank}
use Rattle.hlfir_ops.proofs.Numbered.{numbers_of-append, op_numbers-op_of}
use Rattle.hlfir_meaning.specs.Stage1.{subscript_numbers}
use Rattle.lower_values.specs.declared.operand.Operand.{Operand}
use Rattle.lower_values.specs.declared.operand.Subscript.{Subscript}
use Rattle.lower_values.specs.declared.operand.Subscript.TheVariants.{One, Vector}
use Rattle.lower_values.specs.Scopes.{Scope}
use Rattle.lower_values.specs.Lowerings.{Lowering, done, giving, ◌>>=◌ as ◌then◌}
use Rattle.lower_values.specs.Operations.{constant}
use Rattle.lower_values.specs.References.{variable_of, reference, load_of, loaded, subscript_of, sub_kind, sub_values, part_kind, bound, designated}
use Rattle.lower_values.specs.Values.{value, part_of, subscripts, subscript, given_or}
use Rattle.value_laws.specs.Sound.{AreSoundSubs, IsSoundSub, IsSoundGiven, IsClear, AreClearSubs, IsClearSub, IsClearGiven}
use Rattle.value_laws.proofs.OwnNumbers.{HasOwn, DeclaresBelow, vectors_of, vectors_in, own-later, designate-vectors, tidy-giving, tidy-loaded}
use Rattle.value_laws.proofs.TidyExpressions.{tidy-reference, tidy-bound, tidy-subscripts, tidy-subscript, tidy-given}
use Rattle.value_laws.proofs.VectorNumbers.{or-false, among-append, subscripts-op, OwnSubscripts, own-none, own-plain, own-append, own-apart, VectorsFor, vectors-front, vectors-before, vectors-back}
use Rattle.value_laws.proofs.ClearForms.{and-turned, one-giving, not-taken, number_taken, Vectors, Takes}
use Rattle.value_laws.proofs.ClearOperators.{Goal, no_one}

module _ (base : ℕ) (s : Scope) (below : DeclaresBelow base s) (parts : Bool) (vectors : List ℕ) where
  -- ---- parts of a triplet

  abbrev pub GivenGoal : Given → Type 0
  GivenGoal x = (other : Lowering Operand) (n : ℕ) → base ≤ n → IsSoundGiven parts s x → Vectors base vectors s n (given_or other x) no_one → IsClearGiven vectors s n x

  abbrev pub SubGoal : Sub → Type 0
  SubGoal x = (r : Operand) (dim n : ℕ) → base ≤ n → IsSoundSub parts s x → Vectors base vectors s n (subscript r dim x) (λ k. is_among k (vectors_of base s (subscript r dim x s n).made)) → IsClearSub vectors s r dim n x

  pub range-clear : (u v w : Given) → GivenGoal u → GivenGoal v → GivenGoal w → SubGoal (sub.Range' u v w)
  unfolding ◌then◌ done
  range-clear u v w gu gv gw r dim n g sound h =
      let a = given_or (bound Lower dim r) u s n in
      let m = n + numbers_of a.ops in
      let b = given_or (bound Upper dim r) v s m in
      let k = m + numbers_of b.ops in
      let c = given_or (constant I32 (pos 1)) w s k in
      let last = c.ops ++ [] in
      let tidy-last = tidy-given base s below parts w (constant I32 (pos 1)) k k (omega arith) (tidy-giving base s k k (omega arith) (what.Constant (pos 1)) [] (kind.Scalar I32) refl) sound.2 in
      let tidy-middle = tidy-given base s below parts v (bound Upper dim r) m m (omega arith) (tidy-bound base s below m m Upper dim r (omega arith)) sound.1 in
      let tidy-first = tidy-given base s below parts u (bound Lower dim r) n n (omega arith) (tidy-bound base s below n n Lower dim r (omega arith)) sound.0 in
      let tidy-late = tidy-given base s below parts w (constant I32 (pos 1)) m k (omega arith) (tidy-giving base s m k (omega arith) (what.Constant (pos 1)) [] (kind.Scalar I32) refl) sound.2 in
      let own-last : OwnSubscripts base k k last = subst (OwnSubscripts base k k) (sym (append-nil c.ops)) tidy-last.subscripts in
      let own-late : OwnSubscripts base m k last = subst (OwnSubscripts base m k) (sym (append-nil c.ops)) tidy-late.subscripts in
      let after = vectors-back base vectors n g a.ops (b.ops ++ last) no_one no_one h tidy-first.subscripts (λ i low high. refl) in
      let end = vectors-back base vectors m (omega (arith, g)) b.ops last no_one no_one after tidy-middle.subscripts (λ i low high. refl) in (
        gu (bound Lower dim r) n g sound.0 (vectors-front base vectors n g a.ops (b.ops ++ last) no_one no_one h (own-append base m m b.ops last tidy-middle.subscripts own-late) (λ i low high. refl)),
        gv (bound Upper dim r) m (omega (arith, g)) sound.1 (vectors-front base vectors m (omega (arith, g)) b.ops last no_one no_one after own-last (λ i low high. refl)),
        gw (constant I32 (pos 1)) k (omega (arith, g)) sound.2 (subst (λ os. VectorsFor base vectors k os no_one) (append-nil c.ops) end),
      )

  pub given-clear : (e : Expr) → Goal base s below parts vectors e → GivenGoal (given e)
  given-clear e goal other n g sound h = goal false n g sound.0 h

  -- ---- one subscript

  of_vector : (b : Bool) (x : Operand) (k : ℕ) → is_among k (vectors_of base s (if b then One x.value else Vector x.value)) ≡ number_taken (not b) x.value.number k
  of_vector true x k = refl
  of_vector false x k = or-false (k == x.value.number)

  pub one-clear : (e : Expr) → Goal base s below parts vectors e → SubGoal (sub.One e)
  unfolding ◌then◌ done
  one-clear e goal r dim n g sound h =
      let a = value e s n in
      let b = rank_of a.made.kind == 0 in
      let alone : VectorsFor base vectors n a.ops (λ k. is_among k (vectors_of base s (subscript_of a.made))) = subst (λ os. VectorsFor base vectors n os (λ k. is_among k (vectors_of base s (subscript_of a.made)))) (append-nil a.ops) h in
      subst (λ c. IsClear vectors s c n e) (and-turned (not b) (not (is_designator e)))
      (goal (not b) n g sound.0 (record { are = λ k low high. alone.are k low high ∙ ap (λ c. is_among k (subscript_numbers a.ops) || c) (of_vector b a.made k) }))

  -- ---- all subscripts

  abbrev pub SubsGoal : {k : _} → Subs k → Type 0
  SubsGoal subs = (r : Operand) (dim n : ℕ) → base ≤ n → AreSoundSubs parts s subs → Vectors base vectors s n (subscripts r dim subs) (λ k. is_among k (vectors_in base s (subscripts r dim subs s n).made)) → AreClearSubs vectors s r dim n subs

  pub more-clear : {k : _} (x : Sub) (xs : Subs k) → SubGoal x → SubsGoal xs → SubsGoal (more_subs x xs)
  unfolding ◌then◌ done
  more-clear x xs first rest r dim n g sound h =
      let a = subscript r dim x s n in
      let m = n + numbers_of a.ops in
      let b = subscripts r (suc dim) xs s m in
      let last = b.ops ++ [] in
      let taken : ℕ → Bool = λ k. is_among k (vectors_of base s a.made ++ vectors_in base s b.made) in
      let tidy-first = tidy-subscript base s below parts x r dim n n (omega arith) sound.0 in
      let tidy-rest = tidy-subscripts base s below parts xs r (suc dim) m m (omega arith) sound.1 in
      let own-rest : OwnSubscripts base m m last = subst (OwnSubscripts base m m) (sym (append-nil b.ops)) tidy-rest.subscripts in (
        first r dim n g sound.0 (vectors-front base vectors n g a.ops last taken (λ k. is_among k (vectors_of base s a.made)) h own-rest
            (λ k low high. among-append k (vectors_of base s a.made) (vectors_in base s b.made)
            ∙ (ap (λ c. is_among k (vectors_of base s a.made) || c) (own-apart base m (m + numbers_of b.ops) k (vectors_in base s b.made) tidy-rest.made (omega (arith, g, low)) (inl high)) ∙ or-false (is_among k (vectors_of base s a.made))))),
        rest r (suc dim) m (omega (arith, g)) sound.1 (subst (λ os. VectorsFor base vectors m os (λ k. is_among k (vectors_in base s b.made))) (append-nil b.ops)
            (vectors-back base vectors n g a.ops last taken (λ k. is_among k (vectors_in base s b.made)) h tidy-first.subscripts
            (λ k low high. among-append k (vectors_of base s a.made) (vectors_in base s b.made)
            ∙ ap (λ c. c || is_among k (vectors_in base s b.made)) (own-apart base n m k (vectors_of base s a.made) tidy-first.made (omega (arith, g, low)) (inr low))))),
      )

  -- ---- a designator

  designated-vectors : (r : Operand) (xs : List Subscript) (n : ℕ) → subscript_numbers (designated r xs s n).ops ≡ vectors_in base s xs
  unfolding designated giving
  designated-vectors r xs n = subscripts-op (what.Designate (map sub_kind xs)) s.line (r.value ∷ flat_map sub_values xs) (Some (part_kind (elem_of r.kind) (section_rank (map sub_kind xs)))) []
      ∙ (ap (λ js. js ++ []) (designate-vectors base s xs) ∙ append-nil (vectors_in base s xs))

  designated_number : (r : Operand) (xs : List Subscript) (n : ℕ) → HasOwn base s n (n + numbers_of (designated r xs s n).ops) (designated r xs s n).made
  unfolding designated giving
  designated_number r xs n = inr (omega arith, omega (arith, op_numbers-op_of (what.Designate (map sub_kind xs)) s.line (r.value ∷ flat_map sub_values xs) (Some (part_kind (elem_of r.kind) (section_rank (map sub_kind xs)))) []))

  load_plain : (k : ValueKind) (x : Operand) (n : ℕ) → OwnSubscripts base n n (load_of k x s n).ops
  unfolding done
  load_plain (kind.Place e) x n = own-plain base n n (giving what.Load (x.value ∷ []) (kind.Scalar e) s n).ops (one-giving s n what.Load (x.value ∷ []) (kind.Scalar e) refl).none
  load_plain k x n = own-none base n n

  loaded_plain : (x : Operand) (n : ℕ) → OwnSubscripts base n n (loaded x s n).ops
  unfolding loaded
  loaded_plain x n = load_plain x.kind x n

  pub part-clear : {k : _} (x : Name) (subs : Subs k) (b : Bool) (n : ℕ) → base ≤ n → (d : Operand) → variable_of s.names.variables x ≡ Some d → AreSoundSubs parts s subs → SubsGoal subs → Takes base vectors s b n (part_of x (λ r. subscripts r 1 subs) then loaded) →
      AreClearSubs vectors s (reference x s n).made 1 (n + numbers_of (reference x s n).ops) subs
  unfolding part_of ◌then◌
  part-clear x subs b n g d is sound goal h =
      let R = reference x s n in
      let m = n + numbers_of R.ops in
      let S = subscripts R.made 1 subs s m in
      let k = m + numbers_of S.ops in
      let D = designated R.made S.made s k in
      let front = R.ops ++ (S.ops ++ D.ops) in
      let j = n + numbers_of front in
      let L = loaded D.made s j in
      let taken = number_taken b L.made.value.number in
      let without = vectors-front base vectors n g front L.ops taken taken h (loaded_plain D.made j) (λ i low high. refl) in
      let after = vectors-back base vectors n g R.ops (S.ops ++ D.ops) taken taken without (tidy-reference base s below n n x d (omega arith) is).subscripts (λ i low high. refl) in
      let past : k + numbers_of D.ops ≤ j = omega (arith, numbers_of-append R.ops (S.ops ++ D.ops), numbers_of-append S.ops D.ops) in
      let own = tidy-loaded base s k j (omega (arith, past)) D.made (own-later base s k (k + numbers_of D.ops) j D.made past (designated_number R.made S.made k)) in
      goal R.made 1 m (omega (arith, g)) sound
      (vectors-before base vectors m (omega (arith, g)) S.ops D.ops taken (λ i. is_among i (vectors_in base s S.made)) after
      (λ i low high. ap (λ c. c || taken i) (ap (is_among i) (designated-vectors R.made S.made k))
      ∙ (ap (λ c. is_among i (vectors_in base s S.made) || c) (not-taken b base k (j + numbers_of L.ops) L.made.value.number i own.made (omega (arith, g, low)) high) ∙ or-false (is_among i (vectors_in base s S.made)))))
