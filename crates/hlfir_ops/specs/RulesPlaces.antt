-- Where the ops of a module stand.
use Rattle.std.specs.Prelude.{ℕ, suc, ◌+◌, ◌==◌, Bool, true, false, ◌&&◌, ◌||◌, List, [], ◌∷◌, ◌++◌, length, Option, Some, None}
use mathlib.Core.Former.{Count}
use Rattle.hlfir_ops.specs.declared.kinds.ValueKind.{ValueKind}
use Rattle.hlfir_ops.specs.declared.what.What.{What}
use Rattle.hlfir_ops.specs.declared.op.Op.{Op, Op', out-Op}
use Rattle.hlfir_ops.specs.declared.op.Region.{Region, Region', out-Region}
use Rattle.hlfir_ops.specs.declared.op.Module.{Module}
pub use Rattle.hlfir_ops.specs.Sorts.{shares, is_elemental}
use Rattle.hlfir_ops.specs.Sorts.{has_body, is_where, is_elsewhere, is_forall}
use Rattle.hlfir_ops.specs.Trees.{Ops, end_ops, more_ops, Regions, end_regions, more_regions}
use Rattle.hlfir_ops.specs.Numbers.{names_in, own_numbers, op_numbers, ops_numbers, numbers_of}

-- What is around an op: whether it stands in the module's own list, how many bodies of where, forall, do_loop and workshare are around it, and whether a
-- where or forall, a workshare, an elemental is.
pub record Around : Type 0 where
  pub own : Bool
  pub bodies : ℕ
  pub masked : Bool
  pub shared : Bool
  pub elemental : Bool

-- What is around an op, the ops before it in its list, the number of the next value, and the numbers of the values that are defined there.
pub record Place : Type 0 where
  pub around : Around
  pub before : List Op
  pub number : ℕ
  pub defined : List ℕ

pub record Site : Type 0 where
  pub place : Place
  pub op : Op

-- ---- what the regions of an op add

-- The region of this number is a body. That of an elsewhere is one of its where.
abbrev pub is_body : What → ℕ → Bool
is_body w k = is_elsewhere w || has_body w && (shares w || k == 1)

abbrev pub one_if : Bool → ℕ
one_if true = 1
one_if false = 0

abbrev pub masks : What → Bool
masks w = is_where w || is_forall w

-- around the ops of this region of an op
abbrev pub around_in : Around → What → ℕ → Around
around_in a w k = record { own = false; bodies = one_if (is_body w k) + a.bodies; masked = masks w || a.masked; shared = shares w || a.shared; elemental = is_elemental w || a.elemental }

-- ---- the ops in printed order. A value is defined from the op after its own to the end of the region that holds its op, and in the regions of these ops. An
-- index name is defined in the body of its forall.

abbrev pub from_number : {A : Type 0} → ℕ → List A → List ℕ
from_number n [] = []
from_number n (x ∷ xs) = n ∷ from_number (suc n) xs

abbrev pub own_defined : ℕ → Option ValueKind → List ℕ
own_defined n (Some kind) = n ∷ []
own_defined n None = []

abbrev mutual
  pub op_sites : Place → Op → List Site
  op_sites p (Op' w line operands kind h regions) =
      record { place = p; op = Op' w line operands kind h regions } ∷ regions_sites p.around w 0 (own_numbers kind + p.number) p.defined regions

  pub regions_sites : {m : Count} → Around → What → ℕ → ℕ → List ℕ → Regions m → List Site
  regions_sites a w k n defined end_regions = []
  regions_sites a w k n defined (more_regions (Region' _ ops) regions) =
      ops_sites (around_in a w k) [] (length (names_in w k) + n) (defined ++ from_number n (names_in w k)) ops
      ++ regions_sites a w (suc k) ((length (names_in w k) + ops_numbers ops) + n) defined regions

  pub ops_sites : {m : Count} → Around → List Op → ℕ → List ℕ → Ops m → List Site
  ops_sites a before n defined end_ops = []
  ops_sites a before n defined (more_ops op ops) =
      op_sites (record { around = a; before = before; number = n; defined = defined }) op
      ++ ops_sites a (before ++ op ∷ []) (op_numbers op + n) (defined ++ own_defined n (out-Op op).kind) ops

-- the same over lists
abbrev pub sites_of : Around → List Op → ℕ → List ℕ → List Op → List Site
sites_of a before n defined [] = []
sites_of a before n defined (op ∷ ops) =
    op_sites (record { around = a; before = before; number = n; defined = defined }) op
    ++ sites_of a (before ++ op ∷ []) (op_numbers op + n) (defined ++ own_defined n (out-Op op).kind) ops

abbrev pub sites_in : Around → What → ℕ → ℕ → List ℕ → List Region → List Site
sites_in a w k n defined [] = []
sites_in a w k n defined (region ∷ regions) =
    sites_of (around_in a w k) [] (length (names_in w k) + n) (defined ++ from_number n (names_in w k)) (out-Region region).ops
    ++ sites_in a w (suc k) ((length (names_in w k) + numbers_of (out-Region region).ops) + n) defined regions

abbrev pub outermost : Around
outermost = record { own = true; bodies = 0; masked = false; shared = false; elemental = false }

abbrev pub module_sites : Module → List Site
module_sites m = sites_of outermost [] 0 [] m.ops
