-- Arrays that are allocated.
use Rattle.std.proofs.Common.{◌≡◌, refl, sym, ap, ◌∙◌, subst, ℕ, zero, suc, List, ◌∷◌, replicate, All, Ok, ℤ, pos}
use Rattle.std.proofs.lemmas.List.Elements.{All-nil, All-cons}
use Rattle.ws_base.specs.Outcomes.{Staged, ◌>>=◌}
use Rattle.ws_space.specs.declared.shape.Dim.{Dim}
use Rattle.ws_space.specs.declared.shape.Shape.{Shape}
use Rattle.ws_space.specs.declared.state.Var.{Var}
use Rattle.ws_space.specs.declared.state.VarState.{VarState}
use Rattle.ws_space.specs.Shapes.{shape_of, extents_of, size}
use Rattle.ws_space.specs.WellFormed.{elements}
use Rattle.ws_space.specs.Values.{Name, state_of, with_state}
use Rattle.ws_space.specs.Replace.{allocated_with, freed}
use Rattle.ws_tree.specs.declared.stmt.Part.{Part}
use Rattle.array_meaning.specs.declared.world.World.{World}
use Rattle.array_meaning.specs.Assign.{with_vars}
use Rattle.array_meaning.specs.Program.{bound_dims, with_name, allocate, deallocate}
use Rattle.term_eval.specs.Limits.{IsInteger, IsSmallState, IsVar, IsWorld}
use Rattle.slow_eval.specs.Allocation.{allocated_as}
use Rattle.step_eval.specs.Narrow.{AreDims}
use Rattle.slow_eval.proofs.InTurn.{then_once}
use Rattle.step_eval.proofs.KeptLimits.{vars_held, dims_shape_of}

all_zero : (n : ℕ) → All IsInteger (replicate n (pos 0))
all_zero zero = All-nil IsInteger
all_zero (suc n) = All-cons IsInteger (pos 0) (replicate n (pos 0)) refl (all_zero n)

pub zeros_integers : (n : ℕ) (xs : List ℤ) → xs ≡ replicate n (pos 0) → All IsInteger xs
zeros_integers n xs is = let P : List ℤ → Type 0 = λ l. All IsInteger l in subst P (sym is) (all_zero n)

pub elements_are : (ds : List Dim) (s : Shape) → s ≡ shape_of ds → AreDims ds → elements s ≡ size (extents_of ds)
elements_are ds s is h = ap elements is ∙ ap (λ l. size (extents_of l)) (dims_shape_of ds h.narrow)

-- the world with another state of one variable
pub world_held : (w : World) (x : Name) (s : VarState) (vars : List Var) → vars ≡ with_state w.vars x s → IsWorld w → IsSmallState s → IsWorld (with_vars w vars)
world_held w x s vars is h k = record {
  vars = let P : List Var → Type 0 = λ l. All IsVar l in subst P (sym is) (vars_held w.vars x s h.vars k);
  constants = h.constants;
}

pub allocate_more : (w : World) (p : Part) (ps : List Part) → allocate w (p ∷ ps) ≡ (allocated_as w p >>= (λ s. allocate (with_name w p.name s) ps))
allocate_more w p ps = then_once (bound_dims w p.shape) (allocated_with (state_of w.vars p.name)) (λ s. allocate (with_name w p.name s) ps)

pub deallocate_more : (w : World) (x : Name) (xs : List Name) → deallocate w (x ∷ xs) ≡ (freed (state_of w.vars x) >>= (λ s. deallocate (with_name w x s) xs))
deallocate_more w x xs = refl
