-- When the masks and assignments of a lowered statement stand for those of its source.
use Rattle.std.specs.Prelude.{◌≡◌, ◌⊎◌, ◌==◌, Bool, true, false, List, [], ◌∷◌, Option, Some, None, Ok, ℤ}
use Rattle.ws_base.specs.Outcomes.{◌>>=◌}
use Rattle.ws_space.specs.declared.state.ArrayValue.{ArrayValue}
use Rattle.ws_space.specs.declared.state.VarState.{VarState}
use Rattle.ws_space.specs.Shapes.{Extents, dims, agreed}
use Rattle.ws_space.specs.Values.{kept}
use Rattle.ws_space.specs.Replace.{moved, moved_shape}
use Rattle.ws_tree.specs.declared.expr.Expr.{Expr}
use Rattle.ws_types.specs.Steps as source
use Rattle.array_meaning.specs.declared.world.World.{World}
use Rattle.array_meaning.specs.declared.term.Term.{Term}
use Rattle.array_meaning.specs.Stage1.{walk}
use Rattle.array_meaning.specs.Stage2.{operands, array_of}
use Rattle.array_meaning.specs.Assign.{Target, selection, movable, target, new_bounds, with_target}
use Rattle.hlfir_meaning.specs.Steps as ops
use Rattle.lower_values.specs.declared.names.Names.{Names}
use Rattle.world_laws.specs.Worlds.{FitsNames}
use Rattle.world_laws.specs.Yields.{Yields, Reaches}

-- ---- what an assignment may find

-- Whatever values go there, the variable fits its declare again. Either the left side has a dimension, or all is scalar, outside WHERE.
pub record MayFill (names : Names) (w : World) (in_where : Bool) (left : Expr) (r t : Term) : Type 0 where
  pub array : ArrayValue
  pub of : array_of t ≡ Some array
  pub fits : (xs : List ℤ) → FitsNames names (with_target w left (kept (dims array.shape) xs))
  pub rank : ((array.shape.rank == 0) ≡ false) ⊎ ((in_where ≡ false) × (operands r ≡ []))

pub record MayMove (names : Names) (w : World) (in_where : Bool) (left right : Expr) (r : Term) (s : VarState) : Type 0 where
  pub outside : in_where ≡ false
  pub fits : (e : Extents) (xs : List ℤ) → (agreed (operands r) >>= moved_shape (operands r) s) ≡ Ok e → FitsNames names (with_target w left (moved (new_bounds w right e) s e xs))

abbrev pub MayTake : Names → World → Bool → Expr → Expr → Term → Target → Type 0
MayTake names w in_where left right r (selection t) = MayFill names w in_where left r t
MayTake names w in_where left right r (movable s) = MayMove names w in_where left right r s

-- in each world that fits the names, the left side may take what the right side gives
abbrev pub TakesWell : Names → Bool → Expr → Expr → Type 0
TakesWell names in_where left right = (w : World) (r : Term) (q : Target) → FitsNames names w → walk w right ≡ Ok r → target in_where w left ≡ Ok q → MayTake names w in_where left right r q

-- ---- masks and assignments

pub record MaskStands (names : Names) (m : source.Mask) (o : ops.Mask) : Type 0 where
  pub line : o.line ≡ m.line
  pub under : o.under ≡ m.under
  pub test : (w : World) → FitsNames names w → Yields w m.test o.test.first o.test.ops (walk w m.test)

-- the Bool says whether a WHERE is around
pub record AssignmentStands (names : Names) (in_where : Bool) (a : source.Assignment) (o : ops.Assignment) : Type 0 where
  pub line : o.line ≡ a.line
  pub under : o.under ≡ a.under
  pub right : (w : World) → FitsNames names w → Yields w a.right o.right.first o.right.ops (walk w a.right)
  pub left : (w : World) → FitsNames names w → Reaches w a.left o.realloc o.left.first o.left.ops (target in_where w a.left)
  pub takes : TakesWell names in_where a.left a.right

-- one after another
abbrev pub MasksStand : Names → List source.Mask → List ops.Mask → Type 0
MasksStand names [] [] = Unit {0}
MasksStand names (m ∷ ms) (o ∷ os) = MaskStands names m o × MasksStand names ms os
MasksStand names _ _ = ⊥

-- ---- in a WHERE

abbrev pub EventStands : Names → source.Event → ops.Event → Type 0
EventStands names (source.mask m) (ops.mask o) = MaskStands names m o
EventStands names (source.assigned a) (ops.assigned o) = AssignmentStands names true a o
EventStands names _ _ = ⊥

abbrev pub EventsStand : Names → List source.Event → List ops.Event → Type 0
EventsStand names [] [] = Unit {0}
EventsStand names (e ∷ es) (f ∷ fs) = EventStands names e f × EventsStand names es fs
EventsStand names _ _ = ⊥

abbrev pub PartStands : Names → Option source.Assignment → Option ops.Assignment → Type 0
PartStands names None None = Unit {0}
PartStands names (Some a) (Some o) = AssignmentStands names true a o
PartStands names _ _ = ⊥

pub record StepStands (names : Names) (s : source.Step) (o : ops.Step) : Type 0 where
  pub masks : MasksStand names s.masks o.masks
  pub assignment : PartStands names s.assignment o.assignment

abbrev pub StepsStand : Names → List source.Step → List ops.Step → Type 0
StepsStand names [] [] = Unit {0}
StepsStand names (s ∷ ss) (o ∷ os) = StepStands names s o × StepsStand names ss os
StepsStand names _ _ = ⊥
