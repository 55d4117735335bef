-- Items in turn, each of which finds what those before it left.
use Rattle.std.proofs.Common.{◌≡◌, refl, sym, ap, ◌∙◌, ℕ, ◌+◌, ◌<◌, List, ◌∷◌, length, drop, get_or, Result, Ok, Err}
use Rattle.std.proofs.lemmas.List.{drop_more}
use Rattle.ws_base.specs.Outcomes.{Staged, ◌>>=◌}

pub then_once : {A B C : Type 0} (r : Staged A) (f : A → Staged B) (g : B → Staged C) → (r >>= (λ a. f a >>= g)) ≡ ((r >>= f) >>= g)
then_once (Ok a) f g = refl
then_once (Err t) f g = refl

-- `once` is what an item gives, `put` what that leaves, and `run` all items
module _ {W X S R : Type 0} (once : W → X → Staged S) (put : W → X → S → W) (run : W → List X → Staged R) (more : (w : W) (x : X) (xs : List X) → run w (x ∷ xs) ≡ (once w x >>= (λ s. run (put w x s) xs))) where
  at : (w : W) (xs : List X) (i : ℕ) (x : X) → i < length xs → x ≡ get_or xs i x → run w (drop i xs) ≡ (once w x >>= (λ s. run (put w x s) (drop (i + 1) xs)))
  at w xs i x low item = ap (run w) (drop_more xs i x low ∙ ap (λ y. y ∷ drop (i + 1) xs) (sym item)) ∙ more w x (drop (i + 1) xs)

  pub goes_on : (all : Staged R) (w v : W) (xs : List X) (i : ℕ) (x : X) (s : S) → i < length xs → x ≡ get_or xs i x → once w x ≡ Ok s → v ≡ put w x s → all ≡ run w (drop i xs) → all ≡ run v (drop (i + 1) xs)
  goes_on all w v xs i x s low item is left before =
      before ∙ (at w xs i x low item ∙ (ap (λ r. r >>= (λ t. run (put w x t) (drop (i + 1) xs))) is ∙ ap (λ u. run u (drop (i + 1) xs)) (sym left)))
