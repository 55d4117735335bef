-- Ranks of the terms that calls give.
use Rattle.std.proofs.Common.{◌≡◌, refl, sym, ap, ◌∙◌, subst, ℕ, ◌<◌, ◌≤◌, Bool, true, false, not, ◌||◌, List, [], ◌∷◌, ◌++◌, length, max, Option, Some, None, Ok, IfOk, ℤ, arith, true≢false, if◌then◌else◌}
use Rattle.std.proofs.lemmas.List.Elements.{All-nil, All-append}
use Rattle.ws_base.specs.declared.op.CallWord.{CallWord}
use Rattle.ws_base.specs.Outcomes.{scalar_of, ◌>>=◌}
use Rattle.ws_base.specs.Numbers.{default_half, reduction}
use Rattle.ws_types.specs.declared.types.Typed.{Typed}
use Rattle.ws_types.specs.declared.types.Arguments.{Arguments}
use Rattle.ws_types.specs.Operations.{differ, with_argument, no_arguments, is_reduction, has_wrong_type, has_wrong_rank, call_type}
use Rattle.ws_sema.proofs.NoFaults.{left_false, right_false}
use Rattle.array_meaning.specs.declared.term.Term.{Term}
use Rattle.array_meaning.specs.declared.term.Term.TheVariants.{Scalar, Listed, Section', Unary', Binary', Call', Call}
use Rattle.array_meaning.specs.Terms.{terms_open}
use Rattle.array_meaning.specs.Stage2.{operands, whole}
use Rattle.array_meaning.specs.Stage1.{with_scalar, scalars, elemental_on, called, reduced}
use Rattle.array_meaning.proofs.Chains.{after_each}
use Rattle.kind_laws.proofs.Arguments.{argued, not_mixed}
use Rattle.kind_laws.proofs.TypeFacts.{same_type, chosen_type, not_chosen}
use Rattle.kind_laws.proofs.CallsMade.{call_result}
use Rattle.where_laws.specs.Laws.{HaveRank}
use Rattle.where_laws.proofs.Ranked.{HasRank, operands_ranked, lift, agree_first, agree_second}

-- ---- arguments one after another

abbrev pub EachRanked : List Typed → List Term → Type 0
EachRanked [] [] = Unit {0}
EachRanked (a ∷ tys) (t ∷ ts) = HasRank a.rank t × EachRanked tys ts
EachRanked _ _ = ⊥

rank_grows : (c : Arguments) (tys : List Typed) → c.rank ≤ (argued c tys).rank
rank_grows c [] = omega arith
rank_grows c (a ∷ tys) = let rest = rank_grows (with_argument c (Some a)) tys in omega (arith, rest)

-- a rank before that is not 0 is the last one
agrees_after : (c : Arguments) (tys : List Typed) → (argued c tys).mixed ≡ false → 0 < c.rank → c.rank ≡ (argued c tys).rank
agrees_after c [] h low = refl
agrees_after c (a ∷ tys) h low =
    let next = with_argument c (Some a) in
    let one : differ c.rank a.rank ≡ false = right_false c.mixed (differ c.rank a.rank) (not_mixed next tys h) in
    let same : c.rank ≡ next.rank = agree_first c.rank a.rank one low in
    same ∙ agrees_after next tys h (omega (arith, low, same))

this_agrees : (c : Arguments) (a : Typed) (tys : List Typed) → (argued (with_argument c (Some a)) tys).mixed ≡ false → 0 < a.rank → a.rank ≡ (argued (with_argument c (Some a)) tys).rank
this_agrees c a tys h low =
    let next = with_argument c (Some a) in
    let one : differ c.rank a.rank ≡ false = right_false c.mixed (differ c.rank a.rank) (not_mixed next tys h) in
    let same : a.rank ≡ next.rank = agree_second c.rank a.rank one low in
    same ∙ agrees_after next tys h (omega (arith, low, same))

-- ---- their operands

none_operands : (w : CallWord) → operands (Call w []) ≡ []
unfolding terms_open
none_operands w = refl

more_operands : (w : CallWord) (t : Term) (ts : List Term) → operands (Call w (t ∷ ts)) ≡ operands t ++ operands (Call w ts)
unfolding terms_open
more_operands w t ts = refl

call_operands : (w : CallWord) (c : Arguments) (tys : List Typed) (ts : List Term) → (argued c tys).mixed ≡ false → EachRanked tys ts → HaveRank (argued c tys).rank (operands (Call w ts))
call_operands w c [] [] h g = subst (HaveRank c.rank) (sym (none_operands w)) (All-nil (λ e. (length e ≡ c.rank) × (0 < c.rank)))
call_operands w c [] (t ∷ ts) h g = absurd g
call_operands w c (a ∷ tys) [] h g = absurd g
call_operands w c (a ∷ tys) (t ∷ ts) h g =
    let k = (argued (with_argument c (Some a)) tys).rank in
    subst (HaveRank k) (sym (more_operands w t ts))
    (All-append (λ e. (length e ≡ k) × (0 < k)) (operands t) (operands (Call w ts)) (lift a.rank k (operands t) (this_agrees c a tys h) (operands_ranked a.rank t g.0)) (call_operands w (with_argument c (Some a)) tys ts h g.1))

-- ---- scalars alone, or some array

scalar_rest : (o : Option (List ℤ)) (z : ℤ) (vs : List ℤ) → with_scalar o (Scalar z) ≡ Some vs → (us : List ℤ) × (o ≡ Some us)
scalar_rest (Some us) z vs h = (us, refl)
scalar_rest None z vs h = let f : ⊥ = cc in absurd f

scalar_none : (o : Option (List ℤ)) (z : ℤ) → with_scalar o (Scalar z) ≡ None → o ≡ None
scalar_none (Some us) z h = let f : ⊥ = cc in absurd f
scalar_none None z h = refl

no_scalars : {P : Type 0} (t : Term) (o : Option (List ℤ)) (vs : List ℤ) → ((us : List ℤ) → with_scalar (Some us) t ≡ None) → with_scalar None t ≡ None → with_scalar o t ≡ Some vs → P
no_scalars t (Some us) vs some none h = let f : ⊥ = cc (some us) in absurd f
no_scalars t None vs some none h = let f : ⊥ = cc in absurd f

all_scalar : (c : Arguments) (tys : List Typed) (ts : List Term) (vs : List ℤ) → scalars ts ≡ Some vs → EachRanked tys ts → (argued c tys).rank ≡ c.rank
all_scalar c [] ts vs h g = refl
all_scalar c (a ∷ tys) [] vs h g = absurd g
all_scalar c (a ∷ tys) (Scalar z ∷ ts) vs h g =
    let rest = scalar_rest (scalars ts) z vs h in
    let next : (argued (with_argument c (Some a)) tys).rank ≡ max c.rank a.rank = all_scalar (with_argument c (Some a)) tys ts rest.0 rest.1 g.1 in
    let bare : a.rank ≡ 0 = g.0 in
    next ∙ omega (arith, bare)
all_scalar c (a ∷ tys) (Listed xs ∷ ts) vs h g = no_scalars (Listed xs) (scalars ts) vs (λ us. refl) refl h
all_scalar c (a ∷ tys) (Section' b i ps ∷ ts) vs h g = no_scalars (Section' b i ps) (scalars ts) vs (λ us. refl) refl h
all_scalar c (a ∷ tys) (Unary' op i us ∷ ts) vs h g = no_scalars (Unary' op i us) (scalars ts) vs (λ us. refl) refl h
all_scalar c (a ∷ tys) (Binary' op i us j ws ∷ ts) vs h g = no_scalars (Binary' op i us j ws) (scalars ts) vs (λ us. refl) refl h
all_scalar c (a ∷ tys) (Call' w i us ∷ ts) vs h g = no_scalars (Call' w i us) (scalars ts) vs (λ us. refl) refl h

array_here : (c : Arguments) (a : Typed) (tys : List Typed) → 0 < a.rank → 0 < (argued (with_argument c (Some a)) tys).rank
array_here c a tys low = let grows : max c.rank a.rank ≤ (argued (with_argument c (Some a)) tys).rank = rank_grows (with_argument c (Some a)) tys in omega (arith, grows, low)

some_array : (c : Arguments) (tys : List Typed) (ts : List Term) → scalars ts ≡ None → EachRanked tys ts → 0 < (argued c tys).rank
some_array c [] [] h g = let f : ⊥ = cc in absurd f
some_array c [] (t ∷ ts) h g = absurd g
some_array c (a ∷ tys) [] h g = absurd g
some_array c (a ∷ tys) (Scalar z ∷ ts) h g = some_array (with_argument c (Some a)) tys ts (scalar_none (scalars ts) z h) g.1
some_array c (a ∷ tys) (Listed xs ∷ ts) h g = array_here c a tys g.0.0
some_array c (a ∷ tys) (Section' b i ps ∷ ts) h g = array_here c a tys g.0.0
some_array c (a ∷ tys) (Unary' op i us ∷ ts) h g = array_here c a tys g.0.0
some_array c (a ∷ tys) (Binary' op i us j ws ∷ ts) h g = array_here c a tys g.0.0
some_array c (a ∷ tys) (Call' w i us ∷ ts) h g = array_here c a tys g.0.0

-- ---- calls

call_array : (w : CallWord) (n : ℕ) (ts : List Term) → 0 < n → HaveRank n (operands (Call w ts)) → HasRank n (Call w ts)
unfolding terms_open
call_array w n ts low h = (low, h)

elemental_ranked : (w : CallWord) (tys : List Typed) (ts : List Term) (o : Option (List ℤ)) → scalars ts ≡ o → (argued no_arguments tys).mixed ≡ false → EachRanked tys ts → IfOk (elemental_on w ts o) (HasRank (argued no_arguments tys).rank)
elemental_ranked w tys ts (Some vs) is one h = after_each (HasRank (argued no_arguments tys).rank) _ (λ x. Ok (Scalar x)) (λ x. all_scalar no_arguments tys ts vs is h)
elemental_ranked w tys ts None is one h = call_array w (argued no_arguments tys).rank ts (some_array no_arguments tys ts is h) (call_operands w no_arguments tys ts one h)

reduced_ranked : (w : CallWord) (ts : List Term) (n : ℕ) → n ≡ 0 → IfOk (reduced w ts) (HasRank n)
reduced_ranked w [] n is = is
reduced_ranked w (t ∷ ts) n is =
    after_each (HasRank n) (whole t) (λ xs. scalar_of (reduction default_half w xs) >>= (λ x. Ok (Scalar x))) (λ xs. after_each (HasRank n) (scalar_of (reduction default_half w xs)) (λ x. Ok (Scalar x)) (λ x. is))

third_false : (x y z u : Bool) → (x || y || z || u) ≡ false → z ≡ false
third_false true y z u h = absurd (true≢false h)
third_false false true z u h = absurd (true≢false h)
third_false false false true u h = absurd (true≢false h)
third_false false false false u h = refl

call_rank : (w : CallWord) (a : Arguments) (ty : Typed) → call_type false w a ≡ Some ty → ((if is_reduction w then 0 else a.rank) ≡ ty.rank) × (has_wrong_rank w a ≡ false)
unfolding call_type
call_rank w a ty h = (
  ap (λ x. x.rank) (same_type (call_result w a) ty (chosen_type (false || has_wrong_type w a || has_wrong_rank w a || not a.sound) (Some (call_result w a)) ty h)),
  third_false false (has_wrong_type w a) (has_wrong_rank w a) (not a.sound) (not_chosen (false || has_wrong_type w a || has_wrong_rank w a || not a.sound) (Some (call_result w a)) ty h),
)

pub called_ranked : (w : CallWord) (tys : List Typed) (ts : List Term) (ty : Typed) → call_type false w (argued no_arguments tys) ≡ Some ty → EachRanked tys ts → IfOk (called w ts) (HasRank ty.rank)
called_ranked w tys ts ty is h = let rank = call_rank w (argued no_arguments tys) ty is in at (is_reduction w) rank.0 rank.1 where
  at : (b : Bool) → (if b then 0 else (argued no_arguments tys).rank) ≡ ty.rank → (if b then (argued no_arguments tys).scalars else (argued no_arguments tys).mixed) ≡ false →
      IfOk (if b then reduced w ts else elemental_on w ts (scalars ts)) (HasRank ty.rank)
  at true rank one = reduced_ranked w ts ty.rank (sym rank)
  at false rank one = subst (λ n. IfOk (elemental_on w ts (scalars ts)) (HasRank n)) rank (elemental_ranked w tys ts (scalars ts) refl one h)
