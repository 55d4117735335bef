-- What variables hold.
use Rattle.std.proofs.Common.{◌≡◌, refl, sym, ap, ◌∙◌, subst, ℕ, ◌≤◌, Bool, true, false, List, [], ◌∷◌, map, length, All, Result, Ok, Err, ℤ, bytes_eq, arith}
use Rattle.std.specs.Prelude.{if◌then◌else◌}
use Rattle.std.proofs.lemmas.List.Elements.{All-head, All-tail}
use Rattle.ws_base.specs.declared.fault.FaultName.{FaultName}
use Rattle.ws_base.specs.declared.fault.FaultName.TheVariants.{Unallocated as Unallocated'}
use Rattle.ws_base.specs.Outcomes.{Staged, ◌>>=◌, trouble, each, rows}
use Rattle.ws_space.specs.declared.state.ArrayValue.{ArrayValue}
use Rattle.ws_space.specs.declared.state.VarState.{VarState}
use Rattle.ws_space.specs.declared.state.VarState.TheVariants.{Scalar, Array, Unallocated}
use Rattle.ws_space.specs.declared.state.Var.{Var}
use Rattle.ws_space.specs.Values.{state_of, value_at}
use Rattle.ws_space.specs.WellFormed.{elements}
use Rattle.array_meaning.specs.Stage1.{allocated}
use Rattle.array_meaning.specs.Forall.{element_of, place_in}
use Rattle.term_eval.specs.declared.stop.Stop.{Stop}
use Rattle.term_eval.specs.Limits.{IsSmallState, IsVar}
use Rattle.term_eval.specs.Made.{Gives}
use Rattle.term_eval.specs.Lists.{values_in}
use Rattle.term_eval.proofs.Columns.{rows-length}
use Rattle.term_eval.proofs.Made.{each_then}

state_at : (c : Bool) (s t : VarState) → IsSmallState s → IsSmallState t → IsSmallState (if c then s else t)
state_at true s t h k = h
state_at false s t h k = k

pub state_of-small : (vs : List Var) (x : List ℕ) → All IsVar vs → IsSmallState (state_of vs x)
state_of-small [] x is = refl
state_of-small (v ∷ vs) x is = state_at (bytes_eq v.name x) v.state (state_of vs x) (All-head IsVar v vs is) (state_of-small vs x (All-tail IsVar v vs is))

pub array_of : (s : VarState) (a : ArrayValue) → allocated s ≡ Ok a → s ≡ Array a
array_of (Scalar v) a e = let f : ⊥ = cc in absurd f
array_of (Array b) a e = let same : b ≡ a = cc in ap Array same
array_of (Unallocated r) a e = let f : ⊥ = cc in absurd f

pub few-elements : (vs : List Var) (x : List ℕ) (a : ArrayValue) → All IsVar vs → allocated (state_of vs x) ≡ Ok a → elements a.shape ≤ 65536
few-elements vs x a is e = let h = subst IsSmallState (array_of (state_of vs x) a e) (state_of-small vs x is) in h.few

abbrev fault_in : {A : Type 0} → Staged A → FaultName
fault_in (Ok x) = Unallocated'
fault_in (Err t) = t.name

pub no_array : (s : VarState) (n : FaultName) → allocated s ≡ trouble n → n ≡ Unallocated'
no_array (Scalar v) n e = sym (ap fault_in e)
no_array (Array b) n e = let f : ⊥ = cc in absurd f
no_array (Unallocated r) n e = sym (ap fault_in e)

-- ---- places of no array

same_fault : {A B C : Type 0} (n : FaultName) (xs : List A) (ys : List B) → length xs ≡ length ys → each (λ _. let r : Result C FaultName = Err n in r) xs ≡ each (λ _. let r : Result C FaultName = Err n in r) ys
same_fault n [] [] e = refl
same_fault n [] (y ∷ ys) e = absurd (omega (arith, e))
same_fault n (x ∷ xs) [] e = absurd (omega (arith, e))
same_fault n (x ∷ xs) (y ∷ ys) e = refl

places_of : (s : VarState) (n : FaultName) (xs : List (List ℤ)) → allocated s ≡ trouble n → each (place_in s) xs ≡ each (λ _. Err n) xs
places_of (Scalar v) n xs e = ap (λ m. each (λ _. Err m) xs) (sym (no_array (Scalar v) n e))
places_of (Array b) n xs e = let f : ⊥ = cc in absurd f
places_of (Unallocated r) n xs e = ap (λ m. each (λ _. Err m) xs) (sym (no_array (Unallocated r) n e))

module _ (s : VarState) (at : List ℕ) (cs : List (List ℤ)) (lengths : All (λ c. length c ≡ length at) cs) where
  pub no_places : (n : FaultName) (r : Result (List ℕ) Stop) → allocated s ≡ trouble n → Gives r (each (λ _. Err n) at) → Gives r (each (place_in s) (rows at cs))
  no_places n r e g = subst (Gives r) (same_fault n at (rows at cs) (sym (rows-length at cs lengths)) ∙ sym (places_of s n (rows at cs) e)) g

  pub some_places : (a : ArrayValue) (r : Result (List ℕ) Stop) → allocated s ≡ Ok a → Gives r (each (place_in (Array a)) (rows at cs)) → Gives r (each (place_in s) (rows at cs))
  some_places a r e g = subst (λ t. Gives r (each (place_in t) (rows at cs))) (sym (array_of s a e)) g

-- ---- elements from places

pub values_held : (s : VarState) (a : ArrayValue) → allocated s ≡ Ok a → a.values ≡ values_in s
values_held s a e = sym (ap values_in (array_of s a e))

pub nothing_held : (s : VarState) (n : FaultName) → allocated s ≡ trouble n → values_in s ≡ []
nothing_held (Scalar v) n e = refl
nothing_held (Array b) n e = let f : ⊥ = cc in absurd f
nothing_held (Unallocated r) n e = refl

pub elements_from : (s : VarState) (xs : List (List ℤ)) → each (element_of s) xs ≡ (each (place_in s) xs >>= (λ ps. Ok (map (value_at (values_in s)) ps)))
elements_from (Scalar v) xs = each_then (place_in (Scalar v)) (value_at []) xs
elements_from (Array a) xs = each_then (place_in (Array a)) (value_at a.values) xs
elements_from (Unallocated r) xs = each_then (place_in (Unallocated r)) (value_at []) xs
