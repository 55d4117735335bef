-- Bounds that were looked at.
use Rattle.std.proofs.Common.{◌≡◌, refl, ap, ◌∙◌, ℕ, zero, suc, ◌≤◌, List, [], ◌∷◌, length, take, drop, Ok, append-nil, arith}
use Rattle.std.proofs.Math.ListN.{drop_of_length-le}
use Rattle.ws_space.specs.declared.shape.Dim.{Dim}
use Rattle.array_meaning.specs.declared.term.Pick.{Pick}
use Rattle.array_meaning.specs.Stage1.{checked}
use Rattle.term_eval.specs.Lists.{then_rest}

checked-none : (ds : List Dim) → checked ds [] ≡ Ok []
checked-none [] = refl
checked-none (d ∷ ds) = refl

take_all : (ps : List Pick) (i : ℕ) → length ps ≤ i → take i ps ≡ ps
take_all [] zero h = refl
take_all [] (suc i) h = refl
take_all (p ∷ ps) zero h = absurd (omega (arith, h))
take_all (p ∷ ps) (suc i) h = ap (λ l. p ∷ l) (take_all ps i (omega (arith, h)))

pub checked-done : (ds : List Dim) (ps : List Pick) (i : ℕ) → length ps ≤ i → checked ds ps ≡ then_rest (take i ps) (checked (drop i ds) (drop i ps)) → checked ds ps ≡ Ok ps
checked-done ds ps i h before =
    before ∙ ap (λ l. then_rest (take i ps) (checked (drop i ds) l)) (drop_of_length-le ps h) ∙ ap (then_rest (take i ps)) (checked-none (drop i ds)) ∙ ap Ok (append-nil (take i ps) ∙ take_all ps i h)
