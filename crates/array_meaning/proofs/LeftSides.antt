-- The left sides whose shape does not change select elements of what their variable holds.
use Rattle.std.proofs.Common.{◌≡◌, refl, Bool, true, false, [], ◌∷◌, Some, IfOk}
use Rattle.std.specs.Prelude.{not, ◌&&◌}
use Rattle.ws_space.specs.declared.state.ArrayValue.{ArrayValue}
use Rattle.ws_space.specs.declared.state.VarState.{VarState}
use Rattle.ws_space.specs.declared.state.VarState.TheVariants.{Scalar, Array, Unallocated}
use Rattle.ws_space.specs.Shapes.{dims, shape_of}
use Rattle.ws_space.specs.Values.{state_of}
use Rattle.ws_tree.specs.declared.expr.Expr.{Expr}
use Rattle.ws_tree.specs.declared.expr.Expr.TheVariants.{Number, TooWide, Truth, Named, Part', Call', Vector', Paren', Unary', Binary'}
use Rattle.ws_tree.specs.declared.expr.Expr.TheVariants as expr
use Rattle.array_meaning.specs.declared.world.World.{World}
use Rattle.array_meaning.specs.Terms.{terms_open}
use Rattle.array_meaning.specs.Stage2.{array_of}
use Rattle.array_meaning.specs.Stage1.{picks, allocated, selected, whole_array}
use Rattle.array_meaning.specs.Assign.{Target, selection, movable, target, whole_target, is_name_in, may_move, target_name}
use Rattle.array_meaning.proofs.Chains.{after_each, after_fact}

-- a scalar is an array of rank 0
abbrev pub Holds : VarState → ArrayValue → Type 0
Holds (Scalar v) a = a ≡ record { shape = shape_of []; values = v ∷ [] }
Holds (Array b) a = a ≡ b
Holds (Unallocated r) a = ⊥

-- a selection of what the variable holds
abbrev pub Selects : VarState → Target → Type 0
Selects s (selection t) = (a : ArrayValue) × (array_of t ≡ Some a) × Holds s a
Selects s (movable t) = ⊥

whole_array-array : (a : ArrayValue) → array_of (whole_array a) ≡ Some a
unfolding terms_open
whole_array-array a = refl

selects_whole : (s : VarState) → IfOk (whole_target false s) (Selects s)
selects_whole (Scalar v) = (record { shape = shape_of []; values = v ∷ [] }, whole_array-array _, refl)
selects_whole (Array a) = (a, whole_array-array a, refl)
selects_whole (Unallocated r) = tt

selects_name : (b : Bool) (s : VarState) → b ≡ false → IfOk (whole_target b s) (Selects s)
selects_name true s e = absurd (cc)
selects_name false s e = selects_whole s

allocated-holds : (s : VarState) → IfOk (allocated s) (Holds s)
allocated-holds (Scalar v) = tt
allocated-holds (Array a) = refl
allocated-holds (Unallocated r) = tt

pub selects : (in_where : Bool) (w : World) (left : Expr) → (not in_where && may_move w left) ≡ false → IfOk (target in_where w left) (Selects (state_of w.vars (target_name left)))
unfolding terms_open
selects in_where w (Named x) still = selects_name (not in_where && is_name_in w.allocatables x) (state_of w.vars x) still
selects in_where w (Part' x h subs) still =
    after_fact (Holds (state_of w.vars x)) _ (allocated (state_of w.vars x)) _ (allocated-holds (state_of w.vars x)) (λ a same.
    after_each _ (picks w (dims a.shape) subs) _ (λ ps. after_each _ (selected a ps) _ (λ qs. (a, refl, same))))
selects in_where w (Number n) still = tt
selects in_where w TooWide still = tt
selects in_where w expr.TooDeep still = tt
selects in_where w (Truth b) still = tt
selects in_where w (Call' word h es) still = tt
selects in_where w (Vector' h es) still = tt
selects in_where w (Paren' h es) still = tt
selects in_where w (Unary' op h es) still = tt
selects in_where w (Binary' op h es k fs) still = tt
