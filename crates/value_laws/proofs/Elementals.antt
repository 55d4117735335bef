-- An elemental stands for an operation on what its operands stand for.
use Rattle.std.proofs.Common.{◌≡◌, refl, sym, ap, ◌∙◌, subst, inl, inr, ℕ, suc, ◌+◌, ◌<◌, ◌≤◌, ◌==◌, Bool, true, false, List, [], ◌∷◌, ◌++◌, length, All, Some, None, Ok, Err, ℤ, arith, if◌then◌else◌, append_assoc}
use Rattle.std.proofs.lemmas.List.Elements.{All-nil, All-cons}
use Rattle.std.proofs.lemmas.Bool.{true≢false}
use Rattle.ws_base.specs.Outcomes.{Staged, ◌>>=◌}
use Rattle.ws_space.specs.Shapes.{Extents, size}
use Rattle.array_meaning.specs.declared.term.Term.{Term}
use Rattle.array_meaning.specs.declared.term.Term.TheVariants as term
use Rattle.array_meaning.specs.Stage2 as source
use Rattle.hlfir_ops.specs.declared.kinds.Elem.{Elem}
use Rattle.hlfir_ops.specs.declared.kinds.ValueKind.{ValueKind}
use Rattle.hlfir_ops.specs.declared.kinds.ValueKind.TheVariants.{Scalar, Array}
use Rattle.hlfir_ops.specs.declared.what.What.{What}
use Rattle.hlfir_ops.specs.declared.what.What.TheVariants as what
use Rattle.hlfir_ops.specs.declared.op.ValueId.{ValueId}
use Rattle.hlfir_ops.specs.declared.op.Op.{Op}
use Rattle.hlfir_ops.specs.Trees.{op_of}
use Rattle.hlfir_ops.specs.Numbers.{numbers_of}
use Rattle.hlfir_ops.specs.RulesValues.{elem_of, rank_of}
use Rattle.hlfir_ops.specs.RulesRegions.{is_apply}
use Rattle.hlfir_meaning.specs.Environments.{Value, scalar, column, Environment, with_value, body_of, Deferred}
use Rattle.hlfir_meaning.specs.Order.{ends}
use Rattle.hlfir_meaning.specs.Places.{column_at, columns_of, as_column, over}
use Rattle.hlfir_meaning.specs.Stage1.{applied, operands_of, deferred_in, elemental}
use Rattle.hlfir_meaning.specs.Stage2.{operands, deferred_by, together, done, stage2}
use Rattle.lower_values.specs.declared.operand.Operand.{Operand}
use Rattle.lower_values.specs.Scopes.{Scope}
use Rattle.lower_values.specs.Operations.{values_of, arranged, at_positions, element}
use Rattle.value_laws.specs.Standing.{IsOwn, Alike, Apart, Gives, AreIn, IsOfRank, IsOrdered, Stands, StandEach, values_each, operands_each}
use Rattle.value_laws.proofs.Ordered.{all-front, all-back, all-weaker, together-ordered, ordered-append, ordered-none, ordered-one}
use Rattle.value_laws.proofs.Ops.{applied-op}
use Rattle.value_laws.proofs.Walking.{with_value-here, with_value-other, with_value-after}
use Rattle.value_laws.proofs.Bodies.{position_ops, positions_ops, positions-ops, element_ops, body-values}

-- ---- stage 2 of one list after another

later_first : (at : List ℕ) (ds es : List Deferred) (n : ℕ) (env : Environment) (r : Staged (List ℤ)) → ((rho : Environment) → stage2 at rho (ds ++ es) ≡ (stage2 at rho ds >>= (λ after. stage2 at after es))) →
    (r >>= (λ xs. stage2 at (with_value n (column xs) env) (ds ++ es))) ≡ ((r >>= (λ xs. stage2 at (with_value n (column xs) env) ds)) >>= (λ after. stage2 at after es))
later_first at ds es n env (Ok xs) h = h (with_value n (column xs) env)
later_first at ds es n env (Err t) h = refl

pub stage2-append : (at : List ℕ) (ds es : List Deferred) (env : Environment) → stage2 at env (ds ++ es) ≡ (stage2 at env ds >>= (λ after. stage2 at after es))
stage2-append at [] es env = refl
stage2-append at (d ∷ ds) es env = later_first at ds es d.number env (done at env d.number d.work) (stage2-append at ds es)

-- ---- several operands

-- what is left of these operands, and their shapes, in order
abbrev pub left_of : Environment → List Operand → List Deferred
left_of env [] = []
left_of env (x ∷ xs) = deferred_by x.value.number (env x.value.number) ++ left_of env xs

abbrev pub shapes_of : Environment → List Operand → List Extents
shapes_of env [] = []
shapes_of env (x ∷ xs) = operands (env x.value.number) ++ shapes_of env xs

module _ (base low high : ℕ) (env : Environment) (x : Operand) (t : Term) (h : Stands base low high env x t) where
  abbrev left : List Deferred
  left = deferred_by x.value.number (env x.value.number)

  left-is : left ≡ deferred_by x.value.number h.value
  left-is = ap (deferred_by x.value.number) h.found

  pub left-ordered : IsOrdered low high left
  left-ordered = subst (IsOrdered low high) (sym left-is) h.ordered

  pub shapes-are : operands (env x.value.number) ≡ source.operands t
  shapes-are = ap operands h.found ∙ h.shapes

  pub left-gives : (other : Environment) (at : List ℕ) → Alike base low high env other → AreIn at (source.operands t) → Gives low high at other x.value.number left (source.values t at)
  left-gives other at alike is = subst (λ ds. Gives low high at other x.value.number ds (source.values t at)) (sym left-is) (h.gives other at alike is)

-- an operand of rank 0 is a scalar
pub rank-single : (t : Term) (kind : ValueKind) (v : Value) → IsOfRank kind v t → (rank_of kind == 0) ≡ true → (z : ℤ) × (v ≡ scalar z)
rank-single (term.Scalar z) kind v h is = (z, h.1)
rank-single t kind v h is = absurd (true≢false (sym is ∙ h))

-- ---- bounds

pub own-small : (base low high k : ℕ) → base ≤ low → low ≤ high → IsOwn base low high k → k < high
own-small base low high k h g (inl a) = omega (arith, a, h, g)
own-small base low high k h g (inr b) = b.1

pub own-wider : (base low low' high high' k : ℕ) → low' ≤ low → high ≤ high' → IsOwn base low high k → IsOwn base low' high' k
own-wider base low low' high high' k h g (inl a) = inl a
own-wider base low low' high high' k h g (inr b) = inr (omega (arith, h, b.0), omega (arith, g, b.1))

pub alike-narrower : (base low low' high high' : ℕ) (env other : Environment) → low' ≤ low → high ≤ high' → Alike base low' high' env other → Alike base low high env other
alike-narrower base low low' high high' env other h g is k own = is k (own-wider base low low' high high' k h g own)

-- what is done between the bounds leaves what lies past them, and the declares
apart_own : (base low middle high k : ℕ) (old new : Environment) → base ≤ low → Apart low middle old new → IsOwn base middle high k → low ≤ middle → new k ≡ old k
apart_own base low middle high k old new h is (inl a) g = is.below k (omega (arith, a, h))
apart_own base low middle high k old new h is (inr b) g = is.above k b.0

apart_before : (base low middle high k : ℕ) (old new : Environment) → base ≤ low → low ≤ middle → Apart middle high old new → IsOwn base low middle k → new k ≡ old k
apart_before base low middle high k old new h g is (inl a) = is.below k (omega (arith, a, h, g))
apart_before base low middle high k old new h g is (inr b) = is.below k b.1

apart-then : (low middle high : ℕ) (old between new : Environment) → low ≤ middle → middle ≤ high → Apart low middle old between → Apart middle high between new → Apart low high old new
apart-then low middle high old between new h g p q = record {
  below = λ k is. q.below k (omega (arith, is, h)) ∙ p.below k is;
  above = λ k is. q.above k is ∙ p.above k (omega (arith, is, g));
}

abbrev IsPlaceIn : List ℕ → Extents → Type 0
IsPlaceIn at e = All (λ p. p < size e) at

module _ (base : ℕ) (env : Environment) where
  pub each-bounds : (low high : ℕ) (xs : List Operand) (ts : List Term) → StandEach base low high env xs ts → low ≤ high
  each-bounds low high [] [] h = h
  each-bounds low high [] (t ∷ ts) h = absurd h
  each-bounds low high (x ∷ xs) [] h = absurd h
  each-bounds low high (x ∷ xs) (t ∷ ts) h = let rest = each-bounds h.0 high xs ts h.3 in let here = h.1 in omega (arith, rest, here)

  pub each-ordered : (low high : ℕ) (xs : List Operand) (ts : List Term) → StandEach base low high env xs ts → IsOrdered low high (left_of env xs)
  each-ordered low high [] [] h = ordered-none low high
  each-ordered low high [] (t ∷ ts) h = absurd h
  each-ordered low high (x ∷ xs) [] h = absurd h
  each-ordered low high (x ∷ xs) (t ∷ ts) h =
      ordered-append low h.0 high (deferred_by x.value.number (env x.value.number)) (left_of env xs) h.1 (each-bounds h.0 high xs ts h.3) (left-ordered base low h.0 env x t h.2) (each-ordered h.0 high xs ts h.3)

  pub each-shapes : (low high : ℕ) (xs : List Operand) (ts : List Term) → StandEach base low high env xs ts → shapes_of env xs ≡ operands_each ts
  each-shapes low high [] [] h = refl
  each-shapes low high [] (t ∷ ts) h = absurd h
  each-shapes low high (x ∷ xs) [] h = absurd h
  each-shapes low high (x ∷ xs) (t ∷ ts) h =
      ap (λ es. es ++ shapes_of env xs) (shapes-are base low h.0 env x t h.2) ∙ ap (λ es. source.operands t ++ es) (each-shapes h.0 high xs ts h.3)

  pub each-small : (low high : ℕ) (xs : List Operand) (ts : List Term) → base ≤ low → StandEach base low high env xs ts → All (λ x. x.value.number < high) xs
  each-small low high [] [] g h = All-nil (λ x. x.value.number < high)
  each-small low high [] (t ∷ ts) g h = absurd h
  each-small low high (x ∷ xs) [] g h = absurd h
  each-small low high (x ∷ xs) (t ∷ ts) g h =
      let rest = each-bounds h.0 high xs ts h.3 in let here = h.1 in
      let small : x.value.number < h.0 = own-small base low h.0 x.value.number g here h.2.own in
      All-cons (λ y. y.value.number < high) x xs (omega (arith, small, rest)) (each-small h.0 high xs ts (omega (arith, g, here)) h.3)

  -- ---- what is left of them, done in order

  abbrev pub GivesEach : ℕ → ℕ → List ℕ → Environment → List Operand → Staged (List (List ℤ)) → Type 0
  GivesEach low high at other xs (Ok cs) = (after : Environment) × (stage2 at other (left_of env xs) ≡ Ok after) × (columns_of at after (values_of xs) ≡ cs) × Apart low high other after
  GivesEach low high at other xs (Err t) = stage2 at other (left_of env xs) ≡ Err t

  module _ (low middle high : ℕ) (at : List ℕ) (other : Environment) (x : Operand) (xs : List Operand) (g : base ≤ low) (h : low ≤ middle) (k : middle ≤ high) (own : IsOwn base low middle x.value.number) where
    abbrev here : List Deferred
    here = deferred_by x.value.number (env x.value.number)

    with_rest : (c : List ℤ) (r : Staged (List (List ℤ))) (between : Environment) → stage2 at other here ≡ Ok between → column_at at (between x.value.number) ≡ c → Apart low middle other between →
        GivesEach middle high at between xs r → GivesEach low high at other (x ∷ xs) (r >>= (λ cs. Ok (c ∷ cs)))
    with_rest c (Ok cs) between is held apart rest = (
      rest.0,
      stage2-append at here (left_of env xs) other ∙ (ap (λ r. r >>= (λ after. stage2 at after (left_of env xs))) is ∙ rest.1),
      ap (λ v. column_at at v ∷ columns_of at rest.0 (values_of xs)) (apart_before base low middle high x.value.number between rest.0 g h rest.3 own)
          ∙ (ap (λ d. d ∷ columns_of at rest.0 (values_of xs)) held ∙ ap (λ cs. c ∷ cs) rest.2),
      apart-then low middle high other between rest.0 h k apart rest.3,
    )
    with_rest c (Err t) between is held apart rest = stage2-append at here (left_of env xs) other ∙ (ap (λ r. r >>= (λ after. stage2 at after (left_of env xs))) is ∙ rest)

    with_first : (r : Staged (List ℤ)) (rs : Staged (List (List ℤ))) → Gives low middle at other x.value.number here r →
        ((between : Environment) → Apart low middle other between → GivesEach middle high at between xs rs) → GivesEach low high at other (x ∷ xs) (r >>= (λ c. rs >>= (λ cs. Ok (c ∷ cs))))
    with_first (Ok c) rs is rest = with_rest c rs is.0 is.1 is.2 is.3 (rest is.0 is.3)
    with_first (Err t) rs is rest = stage2-append at here (left_of env xs) other ∙ ap (λ r. r >>= (λ after. stage2 at after (left_of env xs))) is

  pub each-gives : (low high : ℕ) (xs : List Operand) (ts : List Term) (at : List ℕ) (other : Environment) → base ≤ low → StandEach base low high env xs ts → Alike base low high env other → AreIn at (operands_each ts) →
      GivesEach low high at other xs (values_each ts at)
  each-gives low high [] [] at other g h alike is = (other, refl, refl, record { below = λ k _. refl; above = λ k _. refl })
  each-gives low high [] (t ∷ ts) at other g h alike is = absurd h
  each-gives low high (x ∷ xs) [] at other g h alike is = absurd h
  each-gives low high (x ∷ xs) (t ∷ ts) at other g h alike is =
      let middle = h.0 in let rest = each-bounds middle high xs ts h.3 in let le = h.1 in
      with_first low middle high at other x xs g le rest h.2.own (source.values t at) (values_each ts at)
      (left-gives base low middle env x t h.2 other at (alike-narrower base low low middle high env other (omega arith) rest alike) (all-front (IsPlaceIn at) (source.operands t) (operands_each ts) is))
      (λ between apart. each-gives middle high xs ts at between (omega (arith, g, le)) h.3
      (λ k own. apart_own base low middle high k other between g apart own le ∙ alike k (own-wider base middle low high high k le (omega arith) own)) (all-back (IsPlaceIn at) (source.operands t) (operands_each ts) is))

  -- ---- what a body applies

  record IsApplied (xs : List Operand) (vs : List ValueId) : Type 0 where
    left : deferred_in env vs ≡ left_of env xs
    shapes : operands_of env vs ≡ shapes_of env xs

  direct_or_applied : (s : Scope) (low middle high : ℕ) (x : Operand) (xs : List Operand) (t : Term) (ops : List Op) → Stands base low middle env x t → IsOrdered middle high (left_of env xs) →
      (b : Bool) → (rank_of x.kind == 0) ≡ b → IsApplied xs (applied ops) → IsApplied (x ∷ xs) (applied (position_ops b s x ++ ops))
  direct_or_applied s low middle high x xs t ops h o true is g = let single = rank-single t x.kind h.value h.rank is in record {
    left = g.left ∙ ap (λ v. deferred_by x.value.number v ++ left_of env xs) (sym (h.found ∙ single.1));
    shapes = g.shapes ∙ ap (λ v. operands v ++ shapes_of env xs) (sym (h.found ∙ single.1));
  }
  direct_or_applied s low middle high x xs t ops h o false is g =
      let same = applied-op what.Apply s.line (x.value ∷ []) (Some (Scalar (elem_of x.kind))) [] ops in record {
        left = ap (deferred_in env) same ∙ (ap (together (deferred_by x.value.number (env x.value.number))) g.left
            ∙ together-ordered low middle high (deferred_by x.value.number (env x.value.number)) (left_of env xs) (left-ordered base low middle env x t h) o);
        shapes = ap (operands_of env) same ∙ ap (λ es. operands (env x.value.number) ++ es) g.shapes;
      }

  is-applied : (s : Scope) (low high : ℕ) (xs : List Operand) (ts : List Term) (ops : List Op) → StandEach base low high env xs ts → applied ops ≡ [] → IsApplied xs (applied (positions_ops s xs ++ ops))
  is-applied s low high [] [] ops h none = record { left = ap (deferred_in env) none; shapes = ap (operands_of env) none }
  is-applied s low high [] (t ∷ ts) ops h none = absurd h
  is-applied s low high (x ∷ xs) [] ops h none = absurd h
  is-applied s low high (x ∷ xs) (t ∷ ts) ops h none =
      subst (λ os. IsApplied (x ∷ xs) (applied os)) (sym (append_assoc (position_ops (rank_of x.kind == 0) s x) (positions_ops s xs) ops))
      (direct_or_applied s low h.0 high x xs t (positions_ops s xs ++ ops) h.2 (each-ordered h.0 high xs ts h.3) (rank_of x.kind == 0) refl (is-applied s h.0 high xs ts ops h.3 none))

  -- ---- an elemental

  module _ (low n : ℕ) (xs : List Operand) (ts : List Term) (g : base ≤ low) (h : StandEach base low n env xs ts) (w : What) (e : Elem) (values : List ℕ → List (List ℤ) → Staged (List ℤ)) (many : ℕ)
      (goes_on : ends w ≡ false) (no_apply : is_apply w ≡ false) (long : length xs ≡ many)
      (acts : (at : List ℕ) (rho : Environment) (ys : List Operand) → length ys ≡ many → over at rho w (arranged w (values_of ys)) ≡ as_column (values at (columns_of at rho (values_of ys))))
      (s : Scope) (k : ℕ) (next : k ≡ suc n) where
    abbrev ops : List Op
    ops = (element w e xs s k).ops

    abbrev body : Deferred
    body = record { number = n; work = body_of ops }

    abbrev value : Value
    value = elemental n env ops

    no_more : applied (op_of w s.line (arranged w (values_of (at_positions xs s k).made)) (Some (Scalar e)) [] ∷ op_of what.YieldElement s.line (record { number = k + numbers_of (at_positions xs s k).ops } ∷ []) None [] ∷ []) ≡ []
    no_more =
        let last = op_of what.YieldElement s.line (record { number = k + numbers_of (at_positions xs s k).ops } ∷ []) None [] ∷ [] in
        let os = arranged w (values_of (at_positions xs s k).made) in
        applied-op w s.line os (Some (Scalar e)) [] last
        ∙ (ap (λ b. if b then os ++ applied last else applied last) no_apply
        ∙ applied-op what.YieldElement s.line (record { number = k + numbers_of (at_positions xs s k).ops } ∷ []) None [] [])

    body_applies : IsApplied xs (applied ops)
    body_applies =
        let last = op_of w s.line (arranged w (values_of (at_positions xs s k).made)) (Some (Scalar e)) [] ∷ op_of what.YieldElement s.line (record { number = k + numbers_of (at_positions xs s k).ops } ∷ []) None [] ∷ [] in
        subst (λ os. IsApplied xs (applied os)) (sym (element_ops [] w e (values []) many goes_on (acts []) xs s k ∙ ap (λ os. os ++ last) (positions-ops s k xs)))
        (is-applied s low n xs ts last h no_more)

    low-n : low ≤ n
    low-n = each-bounds low n xs ts h

    ending : (high : ℕ) → n < high → (at : List ℕ) (other after : Environment) (r : Staged (List ℤ)) → Apart low n other after → stage2 at other (left_of env xs ++ body ∷ []) ≡ (r >>= (λ zs. Ok (with_value n (column zs) after))) →
        Gives low high at other n (left_of env xs ++ body ∷ []) r
    ending high le at other after (Ok zs) apart is = (
      with_value n (column zs) after,
      is,
      ap (column_at at) (with_value-here n (column zs) after),
      record {
        below = λ j low'. with_value-other n j (column zs) after (let a = low-n in omega (arith, low', a)) ∙ apart.below j low';
        above = λ j past. with_value-after n j (column zs) after (omega (arith, le, past)) ∙ apart.above j (omega (arith, le, past));
      },
    )
    ending high le at other after (Err t) apart is = is

    body_gives : (high : ℕ) → n < high → (at : List ℕ) (other : Environment) (r : Staged (List (List ℤ))) → GivesEach low n at other xs r → Gives low high at other n (left_of env xs ++ body ∷ []) (r >>= values at)
    body_gives high le at other (Ok cs) is =
        let small : All (λ x. x.value.number < suc n) xs = all-weaker (λ x. x.value.number < n) (λ x. x.value.number < suc n) (λ x a. omega (arith, a)) xs (each-small low n xs ts g h) in
        ending high le at other is.0 (values at cs) is.3
        (stage2-append at (left_of env xs) (body ∷ []) other ∙ (ap (λ r. r >>= (λ after. stage2 at after (body ∷ []))) is.1
        ∙ ap (λ r. r >>= (λ zs. let d : Staged Environment = Ok (with_value n (column zs) is.0) in d)) (body-values at w e (values at) many goes_on (acts at) s n k is.0 xs next long small ∙ ap (values at) is.2)))
    body_gives high le at other (Err t) is = stage2-append at (left_of env xs) (body ∷ []) other ∙ ap (λ r. r >>= (λ after. stage2 at after (body ∷ []))) is

    pub elemental-stands : (t : Term) (rank high : ℕ) → n < high → source.operands t ≡ operands_each ts → ((at : List ℕ) → source.values t at ≡ (values_each ts at >>= values at)) → IsOfRank (Array e rank) value t →
        Stands base low high (with_value n value env) (record { value = record { number = n }; kind = Array e rank }) t
    elemental-stands t rank high le shape gives ranked = record {
      value = value;
      found = with_value-here n value env;
      own = inr (low-n, le);
      rank = ranked;
      whole = tt;
      shapes = body_applies.shapes ∙ (each-shapes low n xs ts h ∙ sym shape);
      ordered = subst (IsOrdered low high) (ap (λ ds. ds ++ body ∷ []) (sym body_applies.left))
          (ordered-append low n high (left_of env xs) (body ∷ []) low-n (omega (arith, le)) (each-ordered low n xs ts h) (ordered-one n high body (omega arith) le));
      gives = λ other at alike is.
          let bound = low-n in
          let same : Alike base low n env other = λ j own. alike j (own-wider base low low n high j (omega arith) (omega (arith, le)) own) ∙ with_value-other n j value env (own-small base low n j g bound own) in
          let each = each-gives low n xs ts at other g h same (subst (AreIn at) shape is) in
          subst (Gives low high at other n (deferred_in env (applied ops) ++ body ∷ [])) (sym (gives at))
          (subst (λ ds. Gives low high at other n (ds ++ body ∷ []) (values_each ts at >>= values at)) (sym body_applies.left) (body_gives high le at other (values_each ts at) each));
    }
