-- Where groups begin: the regions, and the outermost assignments, WHERE and FORALL outside them, with their places.
use Rattle.std.specs.Prelude.{ℕ, suc, ◌+◌, List, [], ◌∷◌, ◌++◌, length}
use mathlib.Core.Former.{Count}
use Rattle.hlfir_ops.specs.declared.what.What.{What}
use Rattle.hlfir_ops.specs.declared.what.What.TheVariants as what
use Rattle.hlfir_ops.specs.declared.op.Op.{Op, Op'}
use Rattle.hlfir_ops.specs.declared.op.Region.{Region'}
use Rattle.hlfir_ops.specs.declared.op.Module.{Module}
use Rattle.hlfir_ops.specs.Trees.{Ops, end_ops, more_ops, Regions, end_regions, more_regions}
use Rattle.hlfir_ops.specs.Numbers.{names_in, own_numbers, op_numbers, ops_numbers, op_order, ops_order}

-- an op, its place in printed order, and the number of the next value there
pub record Begun : Type 0 where
  pub op : Op
  pub place : ℕ
  pub number : ℕ

-- The op is a group, or holds those inside it. A DO is no group, and what stands in it is as if it stood outside.
abbrev pub own_begins : What → Begun → List Begun → List Begun
own_begins (what.Declare name) b inside = []
own_begins (what.Assign realloc) b inside = b ∷ []
own_begins what.Masked b inside = b ∷ []
own_begins what.Elsewhere b inside = []
own_begins (what.Forall names) b inside = b ∷ []
own_begins what.ForallMask b inside = []
own_begins what.Workshare b inside = b ∷ []
own_begins what.DoLoop b inside = inside
own_begins (what.Allocmem also) b inside = []
own_begins (what.Freemem also) b inside = []
own_begins (what.Read also) b inside = []
own_begins what.Yield b inside = []
own_begins what.YieldElement b inside = []
own_begins (what.Constant c) b inside = []
own_begins (what.Unary op) b inside = []
own_begins (what.Binary op) b inside = []
own_begins what.Select b inside = []
own_begins what.Load b inside = []
own_begins what.Boxed b inside = []
own_begins (what.Bound word dim) b inside = []
own_begins what.Size b inside = []
own_begins what.Allocated b inside = []
own_begins (what.Designate subs) b inside = []
own_begins what.Vector b inside = []
own_begins what.AsExpr b inside = []
own_begins what.Elemental b inside = []
own_begins what.Apply b inside = []
own_begins (what.Reduce reduction) b inside = []

abbrev mutual
  pub op_begins : ℕ → ℕ → Op → List Begun
  op_begins p n (Op' w line operands kind h regions) =
      own_begins w (record { op = Op' w line operands kind h regions; place = p; number = n }) (regions_begins w 0 (suc p) (own_numbers kind + n) regions)

  pub regions_begins : {m : Count} → What → ℕ → ℕ → ℕ → Regions m → List Begun
  regions_begins w k p n end_regions = []
  regions_begins w k p n (more_regions (Region' _ ops) regions) =
      ops_begins p (length (names_in w k) + n) ops
      ++ regions_begins w (suc k) (length (ops_order ops) + p) ((length (names_in w k) + ops_numbers ops) + n) regions

  pub ops_begins : {m : Count} → ℕ → ℕ → Ops m → List Begun
  ops_begins p n end_ops = []
  ops_begins p n (more_ops op ops) = op_begins p n op ++ ops_begins (length (op_order op) + p) (op_numbers op + n) ops

-- the same over lists
abbrev pub begins_of : ℕ → ℕ → List Op → List Begun
begins_of p n [] = []
begins_of p n (op ∷ ops) = op_begins p n op ++ begins_of (length (op_order op) + p) (op_numbers op + n) ops

-- the groups of a module
abbrev pub begins : Module → List Begun
begins m = begins_of 0 0 m.ops
