-- Layouts of small programs, worked out by hand.
use Rattle.std.proofs.Common.{◌≡◌, refl, arith, ℕ, zero, suc, ◌<◌, Bool, true, false, List, [], ◌∷◌, ◌++◌, Option, Some, None, ℤ, pos, negsuc}
use Rattle.std.specs.Prelude.{◌==◌, not}
use Rattle.ws_space.specs.declared.shape.Dim.{Dim}
use Rattle.ws_space.specs.declared.state.ArrayValue.{ArrayValue}
use Rattle.ws_space.specs.declared.state.VarState.TheVariants as state
use Rattle.ws_space.specs.Shapes.{shape_of}
use Rattle.hlfir_ops.specs.declared.kinds.Elem.TheVariants.{I32, I1}
use Rattle.hlfir_ops.specs.declared.kinds.ValueKind.{ValueKind}
use Rattle.hlfir_ops.specs.declared.kinds.ValueKind.TheVariants.{Scalar, Place, Declared, Allocatable}
use Rattle.hlfir_ops.specs.declared.what.What.TheVariants as what
use Rattle.hlfir_ops.specs.declared.op.Op.{Op}
use Rattle.hlfir_ops.specs.Trees.{op_of, region_of}
use Rattle.hlfir_ops.specs.Opened.{trees_open}
use Rattle.phase_ops.specs.declared.phase.Range.{Range}
use Rattle.phase_ops.specs.Phases.{Cells}
use Rattle.storage_owner.specs.declared.needs.Needs.{Needs}
use Rattle.storage_owner.specs.Ranges.{cells_of}
use Rattle.storage_owner.specs.Groups.{groups_of}
use Rattle.storage_owner.specs.Layouts.{only, layout_of, declared_kinds}
use Rattle.storage_owner.specs.Standing.{numbers_from, HoldsValues, StateStands}

abbrev run : ℕ → ℕ → Range
run first cells = record { first = first; cells = cells }

abbrev one_dim : ℤ → ℕ → ValueKind
one_dim lower extent = Declared I32 (shape_of (record { lower = lower; extent = extent } ∷ []))

-- `integer :: a(3), b(3), v(3)` with `a(v) = b` in a region: two temporaries and the marks
abbrev scattered : List ValueKind
scattered = one_dim (pos 1) 3 ∷ one_dim (pos 1) 3 ∷ one_dim (pos 1) 3 ∷ []

scatter : layout_of (only (λ n. true) 0 scattered) (record { temps = 2; slots = 5; marks = true }) ≡ record {
  vars = run 0 3 ∷ run 3 3 ∷ run 6 3 ∷ [];
  boxes = run 9 0 ∷ run 9 0 ∷ run 9 0 ∷ [];
  slots = run 9 5;
  temps = run 14 65536 ∷ run 65550 65536 ∷ [];
  marks = run 131086 65536;
}
scatter = refl

-- `integer :: i, b(0:2)`, `logical :: l`, `integer, allocatable :: p(:), q(:,:)`, where b does not matter
abbrev mixed : List ValueKind
mixed = Place I32 ∷ one_dim (pos 0) 3 ∷ Place I1 ∷ Allocatable I32 1 ∷ Allocatable I32 2 ∷ []

abbrev without_b : ℕ → Bool
without_b n = not (n == 1)

some_of_them : layout_of (only without_b 0 mixed) (record { temps = 0; slots = 0; marks = false }) ≡ record {
  vars = run 0 1 ∷ run 1 0 ∷ run 1 1 ∷ run 2 65536 ∷ run 65538 65536 ∷ [];
  boxes = run 131074 0 ∷ run 131074 0 ∷ run 131074 0 ∷ run 131074 3 ∷ run 131077 5 ∷ [];
  slots = run 131082 0;
  temps = [];
  marks = run 131082 0;
}
some_of_them = refl

their_numbers : numbers_from 0 (only without_b 0 mixed) ≡ 0 ∷ 2 ∷ 3 ∷ 4 ∷ []
their_numbers = refl

-- ---- groups: an assignment in a DO, a region, and an ALLOCATE between them

abbrev assign : ℕ → Op
assign line = op_of (what.Assign false) line [] None []

abbrev body : List Op → Op
body ops = op_of what.DoLoop 1 [] None (region_of [] ∷ region_of ops ∷ [])

abbrev region : Op
region = op_of what.Workshare 4 [] None (region_of (assign 5 ∷ []) ∷ [])

groups_there : groups_of (body (assign 2 ∷ []) ∷ op_of (what.Allocmem false) 3 [] None [] ∷ region ∷ body (region ∷ assign 6 ∷ []) ∷ []) ≡ assign 2 ∷ region ∷ region ∷ assign 6 ∷ []
unfolding trees_open
groups_there = refl

-- ---- cells that stand for `p(0:1)`, which is allocated and holds 5 and -1

abbrev two_values : ArrayValue
two_values = record { shape = shape_of (record { lower = pos 0; extent = 2 } ∷ []); values = pos 5 ∷ negsuc 0 ∷ [] }

abbrev cells : Cells
cells = 5 ∷ 18446744073709551615 ∷ 1 ∷ 0 ∷ 2 ∷ []

values_there : HoldsValues cells 0 two_values.values
values_there zero low = refl
values_there (suc zero) low = refl
values_there (suc (suc p)) low = absurd (omega (arith, low))

allocated_there : StateStands cells (run 0 2) (run 2 3) (Allocatable I32 1) (state.Array two_values)
allocated_there = (values_there, refl, (refl, refl, tt))

unallocated_there : StateStands (0 ∷ 0 ∷ []) (run 1 1) (run 0 1) (Allocatable I32 0) (state.Unallocated 0)
unallocated_there = refl
