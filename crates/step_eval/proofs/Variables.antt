-- The place of a variable in the list of all.
use Rattle.std.proofs.Common.{◌≡◌, ℕ, suc, ◌+◌, ◌<◌, Bool, true, List, ◌∷◌, ◌++◌, length, drop, take, get_or, refl, sym, ap, ◌∙◌, arith, add-one}
use Rattle.std.proofs.lemmas.List.{get_or_read}
use Rattle.std.proofs.lemmas.Slice.Eq.{bytes_eq-Decides}
use Rattle.std.proofs.Math.ListN.{set}
use Rattle.std.proofs.lemmas.List.{drop_more, set_split}
use Rattle.std.specs.Str.{bytes_eq}
use Rattle.ws_space.specs.declared.state.VarState.{VarState}
use Rattle.ws_space.specs.declared.state.Var.{Var}
use Rattle.ws_space.specs.Values.{Name, with_state}
use Rattle.step_eval.specs.Variables.{IsAbsent, IsPlace}

-- the variables before place i have other names
abbrev pub NotBefore : List Var → Name → ℕ → Type 0
NotBefore vs x i = (s : VarState) → with_state vs x s ≡ take i vs ++ with_state (drop i vs) x s

pub place_found : (vs : List Var) (x : Name) (i : ℕ) (v : Var) → i < length vs → v ≡ get_or vs i v → bytes_eq v.name x ≡ true → NotBefore vs x i → IsPlace vs x i
place_found vs x i v low is test before = (low, found) where
  same : v.name ≡ x
  same = (bytes_eq-Decides v.name x).0 test

  found : (s : VarState) (d : Var) → with_state vs x s ≡ set vs i (record { name = x; truth = (get_or vs i d).truth; state = s })
  found s d =
      let item : v ≡ get_or vs i d = get_or_read vs i v low is d in
      let front : drop i vs ≡ v ∷ drop (suc i) vs = drop_more vs i d low ∙ (ap (λ w. w ∷ drop (i + 1) vs) (sym item) ∙ ap (λ k. v ∷ drop k vs) (add-one i)) in
      let here : with_state (v ∷ drop (suc i) vs) x s ≡ record { name = x; truth = v.truth; state = s } ∷ drop (suc i) vs = rw test (ap (λ n. record { name = n; truth = v.truth; state = s } ∷ drop (suc i) vs) same) in
      before s ∙ (ap (λ l. take i vs ++ with_state l x s) front ∙ (ap (λ l. take i vs ++ l) here
      ∙ (sym (set_split vs i (record { name = x; truth = v.truth; state = s }) low) ∙ ap (λ t. set vs i (record { name = x; truth = t; state = s })) (ap (λ w. w.truth) item))))
