-- The body of an elemental at all active places: its operands at the current position, and then the operation.
use Rattle.std.proofs.Common.{◌≡◌, refl, sym, ap, ◌∙◌, subst, ℕ, suc, ◌+◌, ◌<◌, ◌≤◌, ◌==◌, Bool, true, false, List, [], ◌∷◌, ◌++◌, length, All, Some, None, Ok, Err, ℤ, arith, append_assoc, if◌then◌else◌}
use Rattle.std.proofs.lemmas.List.{append-nil}
use Rattle.std.proofs.lemmas.List.Elements.{All-head, All-tail}
use Rattle.ws_base.specs.Outcomes.{Staged, ◌>>=◌}
use Rattle.hlfir_ops.specs.declared.kinds.Elem.{Elem}
use Rattle.hlfir_ops.specs.declared.kinds.ValueKind.TheVariants.{Scalar}
use Rattle.hlfir_ops.specs.declared.what.What.{What}
use Rattle.hlfir_ops.specs.declared.what.What.TheVariants as what
use Rattle.hlfir_ops.specs.declared.op.Op.{Op, out-Op}
use Rattle.hlfir_ops.specs.Trees.{op_of}
use Rattle.hlfir_ops.specs.Numbers.{numbers_of}
use Rattle.hlfir_ops.specs.RulesValues.{elem_of, rank_of}
use Rattle.hlfir_ops.proofs.Numbered.{numbers_of-append, op_numbers-op_of}
use Rattle.hlfir_meaning.specs.Environments.{Value, column, Environment, with_value, Yielded, yielding, result, body_of}
use Rattle.hlfir_meaning.specs.Order.{ends}
use Rattle.hlfir_meaning.specs.Places.{column_at, columns_of, as_column, over, over_ops}
use Rattle.hlfir_meaning.specs.Stage2 as stage2
use Rattle.lower_values.specs.declared.operand.Operand.{Operand}
use Rattle.lower_values.specs.Scopes.{Scope}
use Rattle.lower_values.specs.Lowerings.{Lowering, Lowered, done, ◌>>=◌ as ◌then◌, giving, acting}
use Rattle.lower_values.specs.Operations.{values_of, arranged, on_scalars, at_position, at_positions, element}
use Rattle.value_laws.specs.Standing.{Kept}
use Rattle.value_laws.proofs.Ops.{over-op, ending}
use Rattle.value_laws.proofs.Ordered.{all-weaker}
use Rattle.value_laws.proofs.Walking.{with_value-here, with_value-other}

-- an operand of a body, applied or directly
abbrev position : Bool → Operand → Lowering Operand
position direct x = if direct then done x else giving what.Apply (x.value ∷ []) (Scalar (elem_of x.kind))

at_position-is : (x : Operand) → at_position x ≡ position (rank_of x.kind == 0) x
unfolding at_position
at_position-is x = refl

abbrev pub apply_op : Scope → Operand → Op
apply_op s x = op_of what.Apply s.line (x.value ∷ []) (Some (Scalar (elem_of x.kind))) []

-- the ops of an operand
abbrev pub position_ops : Bool → Scope → Operand → List Op
position_ops direct s x = if direct then [] else (apply_op s x ∷ [])

position-ops : (direct : Bool) (s : Scope) (k : ℕ) (x : Operand) → (position direct x s k).ops ≡ position_ops direct s x
unfolding done giving
position-ops true s k x = refl
position-ops false s k x = refl

abbrev pub positions_ops : Scope → List Operand → List Op
positions_ops s [] = []
positions_ops s (x ∷ xs) = position_ops (rank_of x.kind == 0) s x ++ positions_ops s xs

pub positions-ops : (s : Scope) (k : ℕ) (xs : List Operand) → (at_positions xs s k).ops ≡ positions_ops s xs
unfolding at_positions ◌then◌ done at_position
positions-ops s k [] = refl
positions-ops s k (x ∷ xs) = ap (λ os. os ++ ((at_positions xs s (k + numbers_of (at_position x s k).ops)).ops ++ [])) (position-ops (rank_of x.kind == 0) s k x)
    ∙ ap (λ os. position_ops (rank_of x.kind == 0) s x ++ os) (append-nil (at_positions xs s (k + numbers_of (at_position x s k).ops)).ops ∙ positions-ops s (k + numbers_of (at_position x s k).ops) xs)

one_number : (s : Scope) (x : Operand) → numbers_of (apply_op s x ∷ []) ≡ 1
one_number s x = omega (arith, op_numbers-op_of what.Apply s.line (x.value ∷ []) (Some (Scalar (elem_of x.kind))) [])

module _ (at : List ℕ) where
  -- the operand made holds what the given one has at the places
  record Reaches (k : ℕ) (env : Environment) (x : Operand) (l : Lowered Operand) : Type 0 where
    after : Environment
    walked : (rest : List Op) → over_ops at k env (l.ops ++ rest) ≡ over_ops at (k + numbers_of l.ops) after rest
    kept : Kept k env after
    small : l.made.value.number < k + numbers_of l.ops
    here : column_at at (after l.made.value.number) ≡ column_at at (env x.value.number)

  position-reaches : (direct : Bool) (s : Scope) (k : ℕ) (env : Environment) (x : Operand) → x.value.number < k → Reaches k env x (position direct x s k)
  unfolding done giving
  position-reaches true s k env x h = record {
    after = env;
    walked = λ rest. ap (λ m. over_ops at m env rest) (omega arith);
    kept = λ j low. refl;
    small = omega (arith, h);
    here = refl;
  }
  position-reaches false s k env x h =
      let value : Value = column (column_at at (env x.value.number)) in
      record {
        after = with_value k value env;
        walked = λ rest. over-op what.Apply s.line (x.value ∷ []) (Some (Scalar (elem_of x.kind))) [] at k env rest refl
            ∙ ap (λ m. over_ops at m (with_value k value env) rest) (omega (arith, one_number s x));
        kept = λ j low. with_value-other k j value env low;
        small = omega (arith, one_number s x);
        here = ap (column_at at) (with_value-here k value env);
      }

  columns_kept : (k : ℕ) (env after : Environment) (xs : List Operand) → Kept k env after → All (λ x. x.value.number < k) xs → columns_of at after (values_of xs) ≡ columns_of at env (values_of xs)
  columns_kept k env after [] h g = refl
  columns_kept k env after (x ∷ xs) h g =
      ap (λ v. column_at at v ∷ columns_of at after (values_of xs)) (h x.value.number (All-head (λ y. y.value.number < k) x xs g))
      ∙ ap (λ cs. column_at at (env x.value.number) ∷ cs) (columns_kept k env after xs h (All-tail (λ y. y.value.number < k) x xs g))

  record AllReach (k : ℕ) (env : Environment) (xs : List Operand) (l : Lowered (List Operand)) : Type 0 where
    after : Environment
    walked : (rest : List Op) → over_ops at k env (l.ops ++ rest) ≡ over_ops at (k + numbers_of l.ops) after rest
    kept : Kept k env after
    many : length l.made ≡ length xs
    here : columns_of at after (values_of l.made) ≡ columns_of at env (values_of xs)

  all_larger : (k m : ℕ) (xs : List Operand) → k ≤ m → All (λ x. x.value.number < k) xs → All (λ x. x.value.number < m) xs
  all_larger k m xs le h = all-weaker (λ x. x.value.number < k) (λ x. x.value.number < m) (λ x is. omega (arith, le, is)) xs h

  joined_reach : (k : ℕ) (env : Environment) (x : Operand) (xs : List Operand) (l : Lowered Operand) (ls : Lowered (List Operand)) → x.value.number < k → All (λ y. y.value.number < k) xs →
      (first : Reaches k env x l) → AllReach (k + numbers_of l.ops) first.after xs ls → AllReach k env (x ∷ xs) (record { ops = l.ops ++ (ls.ops ++ []); made = l.made ∷ ls.made })
  joined_reach k env x xs l ls h hs first second = record {
    after = second.after;
    walked = λ rest.
        ap (λ os. over_ops at k env ((l.ops ++ os) ++ rest)) (append-nil ls.ops) ∙ (ap (over_ops at k env) (append_assoc l.ops ls.ops rest)
        ∙ (first.walked (ls.ops ++ rest) ∙ (second.walked rest ∙ ap (λ m. over_ops at m second.after rest)
        (omega (arith, numbers_of-append l.ops ls.ops) ∙ ap (λ os. k + numbers_of (l.ops ++ os)) (sym (append-nil ls.ops))))));
    kept = λ j low. second.kept j (omega (arith, low)) ∙ first.kept j low;
    many = ap suc second.many;
    here =
        ap (λ v. column_at at v ∷ columns_of at second.after (values_of ls.made)) (second.kept l.made.value.number first.small)
        ∙ (ap (λ c. c ∷ columns_of at second.after (values_of ls.made)) first.here
        ∙ ap (λ cs. column_at at (env x.value.number) ∷ cs) (second.here ∙ columns_kept k env first.after xs first.kept hs));
  }

  at_position-reaches : (s : Scope) (k : ℕ) (env : Environment) (x : Operand) → x.value.number < k → Reaches k env x (at_position x s k)
  at_position-reaches s k env x h = subst (λ p. Reaches k env x (p s k)) (sym (at_position-is x)) (position-reaches (rank_of x.kind == 0) s k env x h)

  positions-reach : (s : Scope) (k : ℕ) (env : Environment) (xs : List Operand) → All (λ x. x.value.number < k) xs → AllReach k env xs (at_positions xs s k)
  unfolding at_positions ◌then◌ done
  positions-reach s k env [] h = record {
    after = env;
    walked = λ rest. ap (λ m. over_ops at m env rest) (omega arith);
    kept = λ j low. refl;
    many = refl;
    here = refl;
  }
  positions-reach s k env (x ∷ xs) h =
      let here = All-head (λ y. y.value.number < k) x xs h in
      let rest = All-tail (λ y. y.value.number < k) x xs h in
      let first = at_position-reaches s k env x here in
      let m = k + numbers_of (at_position x s k).ops in
      joined_reach k env x xs (at_position x s k) (at_positions xs s m) here rest first (positions-reach s m first.after xs (all_larger k m xs (omega arith) rest))

  -- ---- the operation after them

  finish : (z : ℕ) (env : Environment) (r : Staged (List ℤ)) → ((as_column r >>= (λ x. let y : Staged Yielded = Ok (yielding (with_value z x env) (record { number = z } ∷ [])) in y)) >>= (λ y. let c : Staged (List ℤ) = Ok (column_at at (result y)) in c)) ≡ r
  finish z env (Ok xs) = ap (λ v. let c : Staged (List ℤ) = Ok (column_at at v) in c) (with_value-here z (column xs) env)
  finish z env (Err t) = refl

  module _ (w : What) (e : Elem) (values : List (List ℤ) → Staged (List ℤ)) (many : ℕ) (goes_on : ends w ≡ false)
      (acts : (env : Environment) (ys : List Operand) → length ys ≡ many → over at env w (arranged w (values_of ys)) ≡ as_column (values (columns_of at env (values_of ys)))) where
    pub element_ops : (xs : List Operand) (s : Scope) (k : ℕ) → (element w e xs s k).ops ≡
        (at_positions xs s k).ops ++ (op_of w s.line (arranged w (values_of (at_positions xs s k).made)) (Some (Scalar e)) [] ∷ op_of what.YieldElement s.line (record { number = k + numbers_of (at_positions xs s k).ops } ∷ []) None [] ∷ [])
    unfolding element on_scalars giving acting ◌then◌
    element_ops xs s k = refl

    last_ops : (s : Scope) (m : ℕ) (env : Environment) (ys : List Operand) → length ys ≡ many →
        over_ops at m env (op_of w s.line (arranged w (values_of ys)) (Some (Scalar e)) [] ∷ op_of what.YieldElement s.line (record { number = m } ∷ []) None [] ∷ []) ≡
        (as_column (values (columns_of at env (values_of ys))) >>= (λ x. Ok (yielding (with_value m x env) (record { number = m } ∷ []))))
    last_ops s m env ys h =
        over-op w s.line (arranged w (values_of ys)) (Some (Scalar e)) [] at m env (op_of what.YieldElement s.line (record { number = m } ∷ []) None [] ∷ []) goes_on
        ∙ (ap (λ r. r >>= (λ x. over_ops at (1 + m) (with_value m x env) (op_of what.YieldElement s.line (record { number = m } ∷ []) None [] ∷ []))) (acts env ys h)
        ∙ yielded (as_column (values (columns_of at env (values_of ys)))))
      where
        yielded : (r : Staged Value) → (r >>= (λ x. over_ops at (1 + m) (with_value m x env) (op_of what.YieldElement s.line (record { number = m } ∷ []) None [] ∷ []))) ≡ (r >>= (λ x. Ok (yielding (with_value m x env) (record { number = m } ∷ []))))
        yielded (Ok x) = ending what.YieldElement s.line (record { number = m } ∷ []) None [] (λ n rho op. over at rho (out-Op op).what (out-Op op).operands) (1 + m) (with_value m x env) [] refl
        yielded (Err t) = refl

    -- what the whole body gives
    pub body-values : (s : Scope) (n k : ℕ) (env : Environment) (xs : List Operand) → k ≡ suc n → length xs ≡ many → All (λ x. x.value.number < suc n) xs →
        stage2.done at env n (body_of (element w e xs s k).ops) ≡ values (columns_of at env (values_of xs))
    body-values s n k env xs is long small =
        let l = at_positions xs s k in
        let small' : All (λ x. x.value.number < k) xs = subst (λ m. All (λ x. x.value.number < m) xs) (sym is) small in
        let all : AllReach k env xs l = positions-reach s k env xs small' in
        let m = k + numbers_of l.ops in
        ap (λ j. over_ops at j env (element w e xs s k).ops >>= (λ y. let c : Staged (List ℤ) = Ok (column_at at (result y)) in c)) (sym is)
        ∙ (ap (λ os. over_ops at k env os >>= (λ y. let c : Staged (List ℤ) = Ok (column_at at (result y)) in c)) (element_ops xs s k)
        ∙ (ap (λ r. r >>= (λ y. let c : Staged (List ℤ) = Ok (column_at at (result y)) in c)) (all.walked (op_of w s.line (arranged w (values_of l.made)) (Some (Scalar e)) [] ∷ op_of what.YieldElement s.line (record { number = m } ∷ []) None [] ∷ []) ∙ last_ops s m all.after l.made (all.many ∙ long))
        ∙ (finish m all.after (values (columns_of at all.after (values_of l.made))) ∙ ap values all.here)))
