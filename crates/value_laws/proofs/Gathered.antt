-- MIN or MAX of several terms, from MIN or MAX of those before the last one.
use Rattle.std.proofs.Common.{◌≡◌, refl, sym, ap, ◌∙◌, subst, ℕ, ◌==◌, false, if◌then◌else◌, List, [], ◌∷◌, ◌++◌, map, Option, Some, None, Ok, Err, ℤ, pos, append_assoc}
use Rattle.std.proofs.lemmas.List.{append-nil}
use Rattle.ws_base.specs.declared.op.CallWord.{CallWord}
use Rattle.ws_base.specs.Outcomes.{Staged, scalar_of, rows, ◌>>=◌}
use Rattle.ws_space.specs.Maps.{everywhere_same, call_map}
use Rattle.array_meaning.specs.declared.term.Term.{Term}
use Rattle.array_meaning.specs.declared.term.Term.TheVariants as term
use Rattle.array_meaning.specs.Terms.{terms_open}
use Rattle.array_meaning.specs.Stage1 as source
use Rattle.array_meaning.specs.Stage2 as later
use Rattle.hlfir_ops.specs.declared.what.ValueBinary.{ValueBinary}
use Rattle.hlfir_ops.specs.declared.kinds.ValueKind.{ValueKind}
use Rattle.hlfir_ops.specs.RulesValues.{rank_of}
use Rattle.hlfir_meaning.specs.Environments.{Value}
use Rattle.value_laws.specs.Standing.{IsOfRank, values_each, operands_each}
use Rattle.value_laws.proofs.Operations.{two_values}
use Rattle.value_laws.proofs.Calls.{operands-call, values-call}
use Rattle.value_laws.proofs.Columns.{IsNesting, totals, each-totals, call_map-last, call_map-same}

-- ---- lists of terms

-- scalars all, of these values
abbrev AreAll : Option (List ℤ) → List Term → Type 0
AreAll (Some vs) ts = ts ≡ map (λ v. term.Scalar v) vs
AreAll None ts = Unit {0}

one_more : (o : Option (List ℤ)) (t : Term) (ts : List Term) → AreAll o ts → AreAll (source.with_scalar o t) (t ∷ ts)
one_more (Some vs) (term.Scalar v) ts h = ap (λ us. let u : Term = term.Scalar v in u ∷ us) h
one_more (Some vs) t ts h = tt
one_more None t ts h = tt

pub all-scalars : (ts : List Term) → AreAll (source.scalars ts) ts
all-scalars [] = refl
all-scalars (t ∷ ts) = one_more (source.scalars ts) t ts (all-scalars ts)

-- the values with that of one more term
abbrev pub then_scalar : Option (List ℤ) → Term → Option (List ℤ)
then_scalar (Some vs) (term.Scalar z) = Some (vs ++ z ∷ [])
then_scalar _ _ = None

before_one : (o : Option (List ℤ)) (t u : Term) → source.with_scalar (then_scalar o u) t ≡ then_scalar (source.with_scalar o t) u
before_one (Some vs) (term.Scalar v) (term.Scalar z) = refl
before_one (Some vs) (term.Scalar v) u = refl
before_one (Some vs) t (term.Scalar z) = refl
before_one (Some vs) t u = refl
before_one None t u = refl

alone : (u : Term) → source.with_scalar (Some []) u ≡ then_scalar (Some []) u
alone (term.Scalar z) = refl
alone u = refl

pub scalars-last : (ts : List Term) (u : Term) → source.scalars (ts ++ u ∷ []) ≡ then_scalar (source.scalars ts) u
scalars-last [] u = alone u
scalars-last (t ∷ ts) u = ap (λ o. source.with_scalar o t) (scalars-last ts u) ∙ before_one (source.scalars ts) t u

pub operands-last : (ts : List Term) (u : Term) → operands_each (ts ++ u ∷ []) ≡ operands_each ts ++ (later.operands u ++ [])
operands-last [] u = refl
operands-last (t ∷ ts) u = ap (λ es. later.operands t ++ es) (operands-last ts u) ∙ sym (append_assoc (later.operands t) (operands_each ts) (later.operands u ++ []))

no_operands : (vs : List ℤ) → operands_each (map (λ v. term.Scalar v) vs) ≡ []
no_operands [] = refl
no_operands (v ∷ vs) = no_operands vs

same_values : (at : List ℕ) (vs : List ℤ) → values_each (map (λ v. term.Scalar v) vs) at ≡ Ok (map (λ v. everywhere_same v at) vs)
same_values at [] = refl
same_values at (v ∷ vs) = ap (λ r. r >>= (λ rest. let cs : Staged (List (List ℤ)) = Ok (everywhere_same v at ∷ rest) in cs)) (same_values at vs)

abbrev IsSome : List Term → Type 0
IsSome [] = ⊥
IsSome (t ∷ ts) = Unit {0}

-- ---- what is gathered of terms

module _ (op : ValueBinary) (w : CallWord) (f : ℤ → ℤ → ℤ) (total : ℤ → List ℤ → ℤ) (is : IsNesting op w f total) where
  abbrev pub gathered_by : List Term → Option (List ℤ) → Term
  gathered_by ts (Some []) = term.Scalar (pos 0)
  gathered_by ts (Some (v ∷ vs)) = term.Scalar (total v vs)
  gathered_by ts None = term.Call w ts

  -- the call's term
  abbrev pub gathered : List Term → Term
  gathered ts = gathered_by ts (source.scalars ts)

  elemental_gives : (t : Term) (ts : List Term) (o : Option (List ℤ)) → AreAll o (t ∷ ts) → source.elemental_on w (t ∷ ts) o ≡ Ok (gathered_by (t ∷ ts) o)
  elemental_gives t ts (Some []) h = absurd (subst IsSome h tt)
  elemental_gives t ts (Some (v ∷ vs)) h = ap (λ r. scalar_of r >>= (λ x. let y : Staged Term = Ok (term.Scalar x) in y)) (is.value v vs)
  elemental_gives t ts None h = refl

  pub called-gives : (t : Term) (ts : List Term) → source.called w (t ∷ ts) ≡ Ok (gathered (t ∷ ts))
  called-gives t ts =
      ap (λ b. if b then source.reduced w (t ∷ ts) else source.elemental_on w (t ∷ ts) (source.scalars (t ∷ ts))) is.elemental
      ∙ elemental_gives t ts (source.scalars (t ∷ ts)) (all-scalars (t ∷ ts))

  -- it has the operands and the values of the terms
  by_operands : (ts : List Term) (o : Option (List ℤ)) → AreAll o ts → later.operands (gathered_by ts o) ≡ operands_each ts
  unfolding terms_open
  by_operands ts (Some []) h = sym (ap operands_each h)
  by_operands ts (Some (v ∷ vs)) h = sym (ap operands_each h ∙ no_operands (v ∷ vs))
  by_operands ts None h = operands-call ts

  pub gathered-operands : (ts : List Term) → later.operands (gathered ts) ≡ operands_each ts
  gathered-operands ts = by_operands ts (source.scalars ts) (all-scalars ts)

  by_values : (at : List ℕ) (t : Term) (ts : List Term) (o : Option (List ℤ)) → AreAll o (t ∷ ts) → later.values (gathered_by (t ∷ ts) o) at ≡ (values_each (t ∷ ts) at >>= call_map w at)
  unfolding terms_open
  by_values at t ts (Some []) h = absurd (subst IsSome h tt)
  by_values at t ts (Some (v ∷ vs)) h = sym (ap (λ us. values_each us at >>= call_map w at) h
      ∙ (ap (λ r. r >>= call_map w at) (same_values at (v ∷ vs)) ∙ call_map-same op w f total is at v vs))
  by_values at t ts None h = ap (λ r. r >>= call_map w at) (values-call (t ∷ ts) at)

  -- ---- with one more term

  values_last : (at : List ℕ) (ts : List Term) (u : Term) → values_each (ts ++ u ∷ []) at ≡ (values_each ts at >>= (λ cs. later.values u at >>= (λ ys. Ok (cs ++ ys ∷ []))))
  values_last at [] u = refl
  values_last at (t ∷ ts) u =
      ap (λ r. later.values t at >>= (λ c. r >>= (λ rest. let cs : Staged (List (List ℤ)) = Ok (c ∷ rest) in cs))) (values_last at ts u)
      ∙ reordered (later.values t at) (values_each ts at) (later.values u at)
    where
      reordered : (r : Staged (List ℤ)) (rs : Staged (List (List ℤ))) (q : Staged (List ℤ)) →
          (r >>= (λ c. (rs >>= (λ cs. q >>= (λ ys. let zs : Staged (List (List ℤ)) = Ok (cs ++ ys ∷ []) in zs))) >>= (λ rest. let cs : Staged (List (List ℤ)) = Ok (c ∷ rest) in cs)))
          ≡ ((r >>= (λ c. rs >>= (λ rest. let cs : Staged (List (List ℤ)) = Ok (c ∷ rest) in cs))) >>= (λ cs. q >>= (λ ys. Ok (cs ++ ys ∷ []))))
      reordered (Ok c) (Ok cs) (Ok ys) = refl
      reordered (Ok c) (Ok cs) (Err t) = refl
      reordered (Ok c) (Err t) q = refl
      reordered (Err t) rs q = refl

  joined_values : (at : List ℕ) (r : Staged (List ℤ)) (rs : Staged (List (List ℤ))) (q : Staged (List ℤ)) →
      (((r >>= (λ c. rs >>= (λ rest. let cs : Staged (List (List ℤ)) = Ok (c ∷ rest) in cs))) >>= call_map w at) >>= (λ xs. q >>= (λ ys. call_map w at (xs ∷ ys ∷ []))))
      ≡ (((r >>= (λ c. rs >>= (λ rest. let cs : Staged (List (List ℤ)) = Ok (c ∷ rest) in cs))) >>= (λ cs. q >>= (λ ys. let zs : Staged (List (List ℤ)) = Ok (cs ++ ys ∷ []) in zs))) >>= call_map w at)
  joined_values at (Ok c) (Ok cs) q =
      ap (λ r. r >>= (λ xs. q >>= (λ ys. call_map w at (xs ∷ ys ∷ [])))) (each-totals op w f total is c (rows at cs)) ∙ last_one q
    where
      last_one : (p : Staged (List ℤ)) → (p >>= (λ ys. call_map w at (totals op w f total is c (rows at cs) ∷ ys ∷ []))) ≡ ((p >>= (λ ys. let zs : Staged (List (List ℤ)) = Ok (c ∷ (cs ++ ys ∷ [])) in zs)) >>= call_map w at)
      last_one (Ok ys) = call_map-last op w f total is at c cs ys
      last_one (Err t) = refl
  joined_values at (Ok c) (Err t) q = refl
  joined_values at (Err t) rs q = refl

  -- the value that this term is, where all are scalars
  abbrev pub IsTotal : Option (List ℤ) → Term → Type 0
  IsTotal (Some []) t = ⊥
  IsTotal (Some (v ∷ vs)) t = t ≡ term.Scalar (total v vs)
  IsTotal None t = (kind : ValueKind) (x : Value) → IsOfRank kind x t → (rank_of kind == 0) ≡ false

  -- these terms have been gathered in this one
  pub record Gathers (ts : List Term) (t : Term) : Type 0 where
    pub operands : later.operands t ≡ operands_each ts
    pub values : (at : List ℕ) (u : Term) → (later.values t at >>= (λ xs. later.values u at >>= (λ ys. call_map w at (xs ∷ ys ∷ [])))) ≡ (values_each (ts ++ u ∷ []) at >>= call_map w at)
    pub total_is : IsTotal (source.scalars ts) t

  one_total : (t : Term) → IsTotal (source.scalars (t ∷ [])) t
  one_total (term.Scalar v) = ap (λ z. let u : Term = term.Scalar z in u) (sym (is.one v))
  one_total t = λ kind x h. h

  pub gathers-one : (t : Term) → Gathers (t ∷ []) t
  gathers-one t = record {
    operands = sym (append-nil (later.operands t));
    values = λ at u. sym (two_values (later.values t at) (later.values u at) (call_map w at));
    total_is = one_total t;
  }

  more_total : (t : Term) (ts : List Term) (o : Option (List ℤ)) → AreAll o (t ∷ ts) → IsTotal o (gathered_by (t ∷ ts) o)
  unfolding terms_open
  more_total t ts (Some []) h = absurd (subst IsSome h tt)
  more_total t ts (Some (v ∷ vs)) h = refl
  more_total t ts None h = λ kind x k. k

  pub gathers-more : (t : Term) (ts : List Term) → Gathers (t ∷ ts) (gathered (t ∷ ts))
  gathers-more t ts = record {
    operands = gathered-operands (t ∷ ts);
    values = λ at u.
        ap (λ r. r >>= (λ xs. later.values u at >>= (λ ys. call_map w at (xs ∷ ys ∷ [])))) (by_values at t ts (source.scalars (t ∷ ts)) (all-scalars (t ∷ ts)))
        ∙ (joined_values at (later.values t at) (values_each ts at) (later.values u at) ∙ sym (ap (λ r. r >>= call_map w at) (values_last at (t ∷ ts) u)));
    total_is = more_total t ts (source.scalars (t ∷ ts)) (all-scalars (t ∷ ts));
  }
