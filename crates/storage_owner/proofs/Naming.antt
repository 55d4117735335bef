-- A variable that is replaced by name.
use Rattle.std.proofs.Common.{◌≡◌, ◌≢◌, refl, ap, ◌∙◌, ℕ, zero, suc, Bool, true, false, if◌then◌else◌, List, [], ◌∷◌, bytes_eq}
use Rattle.std.proofs.lemmas.Slice.Eq.{bytes_eq-Decides}
use Rattle.ws_space.specs.declared.state.VarState.{VarState}
use Rattle.ws_space.specs.declared.state.Var.{Var}
use Rattle.ws_space.specs.Values.{with_state}
use Rattle.storage_owner.specs.Standing.{state_at, IsNamed}

pub named_state : (vars : List Var) (n : ℕ) (v : Var) → IsNamed vars n v → state_at vars n ≡ v.state
named_state [] n v h = absurd h
named_state (w ∷ ws) zero v h = ap (λ (x : Var). x.state) h
named_state (w ∷ ws) (suc n) v h = named_state ws n v h.1

module _ (v : Var) (s : VarState) where
  abbrev chosen : Var → List Var → Bool → List Var
  chosen w ws b = if b then record w { state = s } ∷ ws else w ∷ with_state ws v.name s

  own_name : (w : Var) → w ≡ v → bytes_eq w.name v.name ≡ true
  own_name w e = (bytes_eq-Decides w.name v.name).1 (ap (λ (x : Var). x.name) e)

  pub replaced_there : (vars : List Var) (k : ℕ) → IsNamed vars k v → state_at (with_state vars v.name s) k ≡ s
  replaced_there [] k h = absurd h
  replaced_there (w ∷ ws) zero h = ap (λ (b : Bool). state_at (chosen w ws b) zero) (own_name w h)
  replaced_there (w ∷ ws) (suc k) h = ap (λ (b : Bool). state_at (chosen w ws b) (suc k)) h.0 ∙ replaced_there ws k h.1

  pub replaced_elsewhere : (vars : List Var) (k j : ℕ) → IsNamed vars k v → j ≢ k → state_at (with_state vars v.name s) j ≡ state_at vars j
  replaced_elsewhere [] k j h n = absurd h
  replaced_elsewhere (w ∷ ws) zero zero h n = absurd (n refl)
  replaced_elsewhere (w ∷ ws) zero (suc j) h n = ap (λ (b : Bool). state_at (chosen w ws b) (suc j)) (own_name w h)
  replaced_elsewhere (w ∷ ws) (suc k) zero h n = ap (λ (b : Bool). state_at (chosen w ws b) zero) h.0
  replaced_elsewhere (w ∷ ws) (suc k) (suc j) h n = ap (λ (b : Bool). state_at (chosen w ws b) (suc j)) h.0 ∙ replaced_elsewhere ws k j h.1 (λ e. n (ap suc e))

  pub still_named : (k : ℕ) (x : Var) (vars : List Var) → IsNamed vars k x → (y : Var) × (y.name ≡ x.name) × IsNamed (with_state vars v.name s) k y
  still_named k x [] h = absurd h
  still_named k x (w ∷ ws) h = by k (bytes_eq w.name v.name) (λ j g. still_named j x ws g) h
    where
      by : (k : ℕ) (b : Bool) → ((j : ℕ) → IsNamed ws j x → (y : Var) × (y.name ≡ x.name) × IsNamed (with_state ws v.name s) j y) → IsNamed (w ∷ ws) k x → (y : Var) × (y.name ≡ x.name) × IsNamed (chosen w ws b) k y
      by zero true rec g = (record w { state = s }, ap (λ (u : Var). u.name) g, refl)
      by zero false rec g = (w, ap (λ (u : Var). u.name) g, refl)
      by (suc j) true rec g = (x, refl, (g.0, g.1))
      by (suc j) false rec g = let r = rec j g.1 in (r.0, r.1, (ap (bytes_eq w.name) r.1 ∙ g.0, r.2))
