-- What steps are made of: masks, assignments and headers of FORALL, in printed order.
use Rattle.std.specs.Prelude.{ℕ, zero, suc, ◌+◌, ◌==◌, Bool, true, false, not, if◌then◌else◌, List, [], ◌∷◌, ◌++◌, length, Option, Some, None}
use mathlib.Core.Former.{Count}
use Rattle.hlfir_ops.specs.declared.what.What.{What}
use Rattle.hlfir_ops.specs.declared.what.What.TheVariants as what
use Rattle.hlfir_ops.specs.declared.op.Op.{Op, Op', out-Op}
use Rattle.hlfir_ops.specs.declared.op.Region.{Region, Region', out-Region}
use Rattle.hlfir_ops.specs.declared.op.Module.{Module}
use Rattle.hlfir_ops.specs.Trees.{Ops, end_ops, more_ops, Regions, end_regions, more_regions}
use Rattle.hlfir_ops.specs.Numbers.{names_in, own_numbers, op_numbers, ops_numbers, numbers_of, op_order, ops_order, order_of}
use Rattle.hlfir_ops.specs.RulesPlaces.{masks}
use Rattle.assign_schedule.specs.declared.item.Header.{Header}
use Rattle.assign_schedule.specs.declared.item.Around.{Around}

-- An op of a step, and its place. `begins` says that it is an outermost statement, `until` is the place after the innermost where or forall, the op itself
-- counted.
pub record Item : Type 0 where
  pub op : Op
  pub place : ℕ
  pub begins : Bool
  pub until : ℕ
  pub header : Option Header

-- around the ops inside the op at this place
abbrev pub around_inside : Around → ℕ → Op → Around
around_inside a p op = if masks (out-Op op).what then record { inside = true; until = length (op_order op) + p; header = None } else a

-- A region of a forall that brings index names is its body. The next number is that of the first name.
abbrev pub header_in : What → ℕ → ℕ → Option Header → Option Header
header_in (what.Forall names) (suc zero) n h = Some (record { first = n; count = length names })
header_in w k n h = h

abbrev pub around_in : Around → What → ℕ → ℕ → Around
around_in a w k n = record a { header = header_in w k n a.header }

-- ---- items

-- an op of this sort with so many regions; an elsewhere without a mask has one
abbrev pub is_of_step : What → ℕ → Bool
is_of_step (what.Assign realloc) n = true
is_of_step what.Masked n = true
is_of_step what.Elsewhere n = not (n == 1)
is_of_step (what.Forall names) n = true
is_of_step what.ForallMask n = true
is_of_step w n = false

abbrev pub item_at : Around → ℕ → Op → Item
item_at a p op = record { op = op; place = p; begins = not a.inside; until = (around_inside a p op).until; header = a.header }

abbrev pub own_items : Around → ℕ → Op → List Item
own_items a p op = if is_of_step (out-Op op).what (length (out-Op op).regions) then item_at a p op ∷ [] else []

-- the items of an op and of those inside it, where it has this place and the next value this number
abbrev mutual
  pub op_items : Around → ℕ → ℕ → Op → List Item
  op_items a p n (Op' w line operands kind h regions) =
      own_items a p (Op' w line operands kind h regions)
      ++ regions_items (around_inside a p (Op' w line operands kind h regions)) w 0 (suc p) (own_numbers kind + n) regions

  pub regions_items : {m : Count} → Around → What → ℕ → ℕ → ℕ → Regions m → List Item
  regions_items a w k p n end_regions = []
  regions_items a w k p n (more_regions (Region' _ ops) regions) =
      ops_items (around_in a w k n) p (length (names_in w k) + n) ops
      ++ regions_items a w (suc k) (length (ops_order ops) + p) ((length (names_in w k) + ops_numbers ops) + n) regions

  pub ops_items : {m : Count} → Around → ℕ → ℕ → Ops m → List Item
  ops_items a p n end_ops = []
  ops_items a p n (more_ops op ops) = op_items a p n op ++ ops_items a (length (op_order op) + p) (op_numbers op + n) ops

-- the same over lists
abbrev pub items_of : Around → ℕ → ℕ → List Op → List Item
items_of a p n [] = []
items_of a p n (op ∷ ops) = op_items a p n op ++ items_of a (length (op_order op) + p) (op_numbers op + n) ops

abbrev pub items_in : Around → What → ℕ → ℕ → ℕ → List Region → List Item
items_in a w k p n [] = []
items_in a w k p n (region ∷ regions) =
    items_of (around_in a w k n) p (length (names_in w k) + n) (out-Region region).ops
    ++ items_in a w (suc k) (length (order_of (out-Region region).ops) + p) ((length (names_in w k) + numbers_of (out-Region region).ops) + n) regions

abbrev pub outermost : Around
outermost = record { inside = false; until = 0; header = None }

abbrev pub module_items : Module → List Item
module_items m = items_of outermost 0 0 m.ops
