-- Maps over all places.
use Rattle.std.proofs.Common.{◌≡◌, inl, inr, refl, ap, ℕ, List, [], ◌∷◌, map, ℤ}
use Rattle.ws_base.specs.Numbers.{Exact}
use Rattle.ws_base.specs.Outcomes.{joined, each, pair_up}
use Rattle.phase_ops.specs.Free.{In}

pub paired : (f : ℕ → ℤ) (g : ℕ → List ℤ) (at : List ℕ) → pair_up (map f at) (map g at) ≡ map (λ p. f p ∷ g p) at
paired f g [] = refl
paired f g (p ∷ ps) = ap (λ rs. (f p ∷ g p) ∷ rs) (paired f g ps)

pub each_map : {A : Type 0} (f : A → Exact) (g : ℕ → A) (at : List ℕ) → each f (map g at) ≡ each (λ p. f (g p)) at
each_map f g [] = refl
each_map f g (p ∷ ps) = ap (joined (f (g p))) (each_map f g ps)

pub map_map : {A B : Type 0} (f : A → B) (g : ℕ → A) (at : List ℕ) → map f (map g at) ≡ map (λ p. f (g p)) at
map_map f g [] = refl
map_map f g (p ∷ ps) = ap (λ l. f (g p) ∷ l) (map_map f g ps)

pub map_itself : (at : List ℕ) → map (λ p. p) at ≡ at
map_itself [] = refl
map_itself (p ∷ ps) = ap (λ l. p ∷ l) (map_itself ps)

pub each_in : (f g : ℕ → Exact) (at : List ℕ) → ((p : ℕ) → In p at → f p ≡ g p) → each f at ≡ each g at
each_in f g [] h = refl
each_in f g (p ∷ ps) h = λ i. joined (h p (inl refl) i) (each_in f g ps (λ q l. h q (inr l)) i)
