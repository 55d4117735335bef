-- What a region of lowered ops yields, against what its source gives.
use Rattle.std.specs.Prelude.{◌≡◌, ℕ, Bool, List, [], ◌∷◌, Some, Ok, Err, ℤ}
use Rattle.ws_base.specs.Outcomes.{Staged, ◌>>=◌}
use Rattle.ws_space.specs.declared.state.Var.{Var}
use Rattle.ws_space.specs.Shapes.{Extents}
use Rattle.ws_space.specs.Values.{Name}
use Rattle.ws_space.specs.Replace.{is_logical}
use Rattle.ws_tree.specs.declared.expr.Expr.{Expr}
use Rattle.array_meaning.specs.declared.world.World.{World}
use Rattle.array_meaning.specs.declared.term.Term.{Term}
use Rattle.array_meaning.specs.declared.term.Term.TheVariants as term
use Rattle.array_meaning.specs.Stage1.{whole_array, value_of}
use Rattle.array_meaning.specs.Stage1 as once
use Rattle.array_meaning.specs.Stage2 as source
use Rattle.array_meaning.specs.Assign as assigned
use Rattle.hlfir_ops.specs.declared.op.Op.{Op}
use Rattle.hlfir_meaning.specs.Environments.{scalar, of_variables, OpRegion, Yielded, result, variable_in}
use Rattle.hlfir_meaning.specs.Selections.{array_operand, extents}
use Rattle.hlfir_meaning.specs.Stage1.{walk}
use Rattle.hlfir_meaning.specs.Stage2.{operands, values, targets}
use Rattle.hlfir_meaning.specs.Assign.{Target, all_of, selected, movable, target, new_bounds}
use Rattle.value_laws.specs.Standing.{AreIn}
use Rattle.value_laws.specs.Regions.{IsScalarOf}

abbrev pub region : ℕ → List Op → OpRegion
region n ops = record { first = n; ops = ops }

-- ---- values

-- what is yielded stands for the term of this expression
pub record YieldStands (w : World) (e : Expr) (y : Yielded) (t : Term) : Type 0 where
  pub scalar : IsScalarOf (result y) t
  pub operands : operands (result y) ≡ source.operands t
  pub values : (at : List ℕ) → AreIn at (source.operands t) → values y at ≡ source.values t at
  pub bounds : (extents : Extents) → new_bounds (result y) extents ≡ assigned.new_bounds w e extents

-- the region faults as its source does, or yields what stands for its term
abbrev pub Yields : World → Expr → ℕ → List Op → Staged Term → Type 0
Yields w e n ops (Ok t) = (y : Yielded) × (walk (of_variables w.vars) (region n ops) ≡ Ok y) × YieldStands w e y t
Yields w e n ops (Err t) = walk (of_variables w.vars) (region n ops) ≡ Err t

-- several scalars of one region, from left to right
abbrev pub scalars_of : World → List Expr → Staged (List ℤ)
scalars_of w [] = Ok []
scalars_of w (e ∷ es) = do
  t ← once.walk w e
  zs ← scalars_of w es
  Ok (value_of t ∷ zs)

-- ---- left sides

-- the variable of this name, whose type is that of the world's
pub record IsOfName (w : World) (x : Name) (v : Var) : Type 0 where
  pub name : v.name ≡ x
  pub truth : v.truth ≡ is_logical w.vars x

abbrev pub TargetStands : Target → assigned.Target → Type 0
TargetStands (movable s) (assigned.movable r) = s ≡ r
TargetStands (all_of a) (assigned.selection t) = t ≡ whole_array a
TargetStands (selected a s) (assigned.selection t) =
    (source.array_of t ≡ Some a) × (array_operand (extents s) ≡ source.operands t) × ((at : List ℕ) → AreIn at (source.operands t) → targets a s at ≡ source.targets t at)
TargetStands _ _ = ⊥

-- what a left side yields, and the target that it is
abbrev pub left_target : World → Bool → ℕ → List Op → Staged (Yielded × Target)
left_target w realloc n ops = do
  y ← walk (of_variables w.vars) (region n ops)
  t ← target realloc (result y)
  Ok (y, t)

-- the region of a left side faults as its source does, or yields its variable and what stands for its target
abbrev pub Reaches : World → Expr → Bool → ℕ → List Op → Staged assigned.Target → Type 0
Reaches w e realloc n ops (Ok q) =
    (y : Yielded) × (t : Target) × (left_target w realloc n ops ≡ Ok (y, t)) × TargetStands t q × IsOfName w (assigned.target_name e) (variable_in (result y))
Reaches w e realloc n ops (Err t) = left_target w realloc n ops ≡ Err t
