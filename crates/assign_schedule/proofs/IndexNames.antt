-- Index names one by one.
use Rattle.std.proofs.Common.{◌≡◌, ap, ◌∙◌, ℕ, suc, ◌+◌, ◌-◌, ◌<◌, Bool, false, ◌∷◌, arith}
use Rattle.std.specs.Prelude.{◌||◌}
use Rattle.std.specs.List.{list_any}
use Rattle.ws_space.specs.Shapes.{places_from}

places_front : (first count k : ℕ) → k < count → places_from (first + k) (count - k) ≡ (first + k) ∷ places_from (first + (k + 1)) (count - (k + 1))
places_front first count k lt =
    let more : count - k ≡ suc (count - (k + 1)) = omega arith in
    let next : suc (first + k) ≡ first + (k + 1) = omega arith in ap (places_from (first + k)) more ∙ ap (λ n. (first + k) ∷ places_from n (count - (k + 1))) next

pub next_name : (test : ℕ → Bool) (first count k : ℕ) → k < count → test (first + k) ≡ false →
    list_any test (places_from (first + k) (count - k)) ≡ list_any test (places_from (first + (k + 1)) (count - (k + 1)))
next_name test first count k lt none = ap (list_any test) (places_front first count k lt) ∙ ap (λ b. b || list_any test (places_from (first + (k + 1)) (count - (k + 1)))) none
