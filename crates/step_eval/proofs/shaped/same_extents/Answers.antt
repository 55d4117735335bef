use Rattle.std.proofs.Common.{◌≡◌, ℕ, suc, Bool, true, false, ◌&&◌, List, [], ◌∷◌, length, refl, sym, ap, ◌∙◌, arith}
use Rattle.std.specs.Prelude.{◌==◌}
use Rattle.ws_space.specs.declared.shape.Dim.{Dim}
use Rattle.ws_space.specs.Shapes.{same_extents, extents_of}
use Rattle.step_eval.proofs.shaped.same_extents.Goals as goal

and_false : (b : Bool) → (b && false) ≡ false
and_false true = refl
and_false false = refl

other_length : (ds : List Dim) (ns : List ℕ) → (length ds ≡ length ns → ⊥) → false ≡ same_extents (extents_of ds) ns
other_length [] [] h = absurd (h refl)
other_length [] (n ∷ ns) h = refl
other_length (d ∷ ds) [] h = refl
other_length (d ∷ ds) (n ∷ ns) h = sym (and_false (d.extent == n)) ∙ ap (λ b. (d.extent == n) && b) (other_length ds ns (λ e. h (ap suc e)))

pub returns-then-dims-extents : goal.returns-then-dims-extents
returns-then-dims-extents c = other_length c.args.dims.now c.args.extents.now (λ e. c.if-dims-extents.true e)
