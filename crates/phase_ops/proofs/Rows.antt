-- Phases by hand, computed.
use Rattle.std.specs.Prelude.{negsuc, ◌≡◌, refl, ℕ, ◌+◌, ◌*◌, false, List, [], ◌∷◌, Some, None, pos}
use Rattle.ws_base.specs.declared.fault.FaultName.TheVariants as fault
use Rattle.ws_base.specs.declared.op.CallWord.TheVariants as word
use Rattle.phase_ops.specs.declared.effect.Effect.TheVariants.{Store, Fault}
use Rattle.phase_ops.specs.declared.phase.Source.TheVariants.{Fixed, Cell}
use Rattle.phase_ops.specs.declared.phase.Address.{Address}
use Rattle.phase_ops.specs.declared.phase.Micro.{Micro}
use Rattle.phase_ops.specs.declared.phase.Micro.TheVariants as op
use Rattle.phase_ops.specs.declared.phase.ScalarOp.TheVariants as scalar
use Rattle.phase_ops.specs.declared.phase.Act.{Act}
use Rattle.phase_ops.specs.declared.phase.Label.TheVariants as label
use Rattle.phase_ops.specs.declared.phase.Phase.{Phase}
use Rattle.phase_ops.specs.declared.phase.Phase.TheVariants.{Set, Loop, Part, Join}
use Rattle.phase_ops.specs.Phases.{after, Finished, Failed, result, key, reads, effects}

-- base + reg
abbrev at : ℕ → ℕ → Address
at base reg = record { base = Fixed (pos base); terms = record { reg = reg; step = Fixed (pos 1) } ∷ [] }

abbrev cell : ℕ → Address
cell c = record { base = Fixed (pos c); terms = [] }

abbrev act : ℕ → List Micro → Act
act line ops = record { line = line; ops = ops; whole = false }

-- a in the cells 0 to 4, t1 in 5 to 8: `a(2:5) = a(1:4)`
abbrev region2 : List Phase
region2 =
    Loop 4 (label.Save 1 None) (Fixed (pos 4)) (act 4 (op.Position ∷ op.Load (at 0 0) ∷ op.Store (at 5 0) 1 ∷ []) ∷ [])
    ∷ Loop 4 (label.Assign [] (Some 1) None) (Fixed (pos 4)) (act 4 (op.Position ∷ op.Load (at 5 0) ∷ op.Store (at 1 0) 1 ∷ []) ∷ [])
    ∷ []

abbrev cells2 : List ℕ
cells2 = 1 ∷ 2 ∷ 3 ∷ 4 ∷ 5 ∷ 0 ∷ 0 ∷ 0 ∷ 0 ∷ []

row2 : result region2 cells2 1 ≡ Finished (1 ∷ 1 ∷ 2 ∷ 3 ∷ 4 ∷ 1 ∷ 2 ∷ 3 ∷ 4 ∷ [])
row2 = refl

row2_by_64 : result region2 cells2 64 ≡ Finished (1 ∷ 1 ∷ 2 ∷ 3 ∷ 4 ∷ 1 ∷ 2 ∷ 3 ∷ 4 ∷ [])
row2_by_64 = refl

-- b in 0 to 2, c in 3 to 5, d in 6 to 8, t1 in 9 to 11: `(b / c) + d`
abbrev region12 : Phase
region12 = Loop 6 (label.Assign [] None None) (Fixed (pos 3)) (act 6 (op.Position ∷ op.Load (at 0 0) ∷ op.Load (at 3 0) ∷ op.Binary scalar.Div 1 2 ∷ op.Load (at 6 0) ∷ op.Binary scalar.Add 3 4 ∷ op.Store (at 9 0) 5 ∷ []) ∷ [])

abbrev cells12 : List ℕ
cells12 = 2147483647 ∷ 1 ∷ 1 ∷ 1 ∷ 1 ∷ 0 ∷ 1 ∷ 1 ∷ 1 ∷ 0 ∷ 0 ∷ 0 ∷ []

-- the division is op 3, and fails at the element 3
row12 : key region12 cells12 1 ≡ (3 * 1048576 + 3) * 16 + 4
row12 = refl

row12_by_64 : key region12 cells12 64 ≡ (3 * 1048576 + 3) * 16 + 4
row12_by_64 = refl

-- the place 1 also fails, in the later op 5
row12_first : effects region12 cells12 1 0 ≡ Fault ((5 * 1048576 + 1) * 16 + 3) ∷ []
row12_first = refl

-- the sum of the cells 0 to 4, whose count is in cell 5, by partials in 6 and on, into the cell 11
abbrev summing : List Phase
summing =
    Part 7 (Cell 5) (act 7 (op.Position ∷ op.Load (at 0 0) ∷ [])) word.Sum 1 6
    ∷ Join 7 (Cell 5) word.Sum 1 6 11
    ∷ []

abbrev cells_sum : List ℕ
cells_sum = 1 ∷ 2 ∷ 18446744073709551615 ∷ 4 ∷ 5 ∷ 5 ∷ 0 ∷ 0 ∷ 0 ∷ 0 ∷ 0 ∷ 0 ∷ []

sum_by_2 : result summing cells_sum 2 ≡ Finished (1 ∷ 2 ∷ 18446744073709551615 ∷ 4 ∷ 5 ∷ 5 ∷ 3 ∷ 3 ∷ 5 ∷ 0 ∷ 0 ∷ 11 ∷ [])
sum_by_2 = refl

sum_by_64 : result summing cells_sum 64 ≡ Finished (1 ∷ 2 ∷ 18446744073709551615 ∷ 4 ∷ 5 ∷ 5 ∷ 11 ∷ 0 ∷ 0 ∷ 0 ∷ 0 ∷ 11 ∷ [])
sum_by_64 = refl

sum_reads : reads (Part 7 (Cell 5) (act 7 (op.Position ∷ op.Load (at 0 0) ∷ [])) word.Sum 1 6) cells_sum 2 1 ≡ 2 ∷ 3 ∷ []
sum_reads = refl

-- 65536 * 65536 * 0: a product passes the range on the way and is 0
abbrev times : List Phase
times =
    Part 7 (Fixed (pos 3)) (act 7 (op.Position ∷ op.Load (at 0 0) ∷ [])) word.Product 1 3
    ∷ Join 7 (Fixed (pos 3)) word.Product 1 3 6
    ∷ []

product_is_0 : result times (65536 ∷ 65536 ∷ 0 ∷ 0 ∷ 0 ∷ 0 ∷ 9 ∷ []) 2 ≡ Finished (65536 ∷ 65536 ∷ 0 ∷ 2147483649 ∷ 0 ∷ 0 ∷ 0 ∷ [])
product_is_0 = refl

product_faults : result times (65536 ∷ 65536 ∷ 1 ∷ 0 ∷ 0 ∷ 0 ∷ 9 ∷ []) 1 ≡ Failed 1 3
product_faults = refl

-- an iteration that faults does not stop the others: the least key is that of the op 0, at the element 3
abbrev failing : Phase
failing = Part 7 (Fixed (pos 3)) (act 7 (op.Position ∷ op.Load (at 0 0) ∷ op.FailIf fault.Bounds 1 ∷ [])) word.Sum 1 3

part_faults : effects failing (0 ∷ 1 ∷ 1 ∷ 0 ∷ []) 64 0 ≡ Fault ((2 * 1048576 + 2) * 16 + 1) ∷ []
part_faults = refl

-- Places 0, 1 and 0 in the cells 0 to 2, marks in 3 and 4: the third position has a target that the first has, and ManyOne is its fault.
abbrev from_cell : ℕ → ℕ → Address
from_cell base reg = record { base = Fixed (pos base); terms = record { reg = reg; step = Fixed (pos 1) } ∷ [] }

abbrev marking : List Phase
marking =
    Loop 5 label.Clear (Fixed (pos 2)) (act 5 (op.Position ∷ op.Fixed (negsuc 0) ∷ op.Store (at 3 0) 1 ∷ []) ∷ [])
    ∷ Loop 5 (label.Mark 1) (Fixed (pos 3)) (act 5 (op.Position ∷ op.Load (at 0 0) ∷ op.Least (from_cell 3 1) 0 ∷ []) ∷ [])
    ∷ Loop 5 (label.Check 1) (Fixed (pos 3)) (act 5 (op.Position ∷ op.Load (at 0 0) ∷ op.Load (from_cell 3 1) ∷ op.Binary scalar.Lt 2 0 ∷ op.FailIf fault.ManyOne 3 ∷ []) ∷ [])
    ∷ []

marks_are : after marking (0 ∷ 1 ∷ 0 ∷ 7 ∷ 7 ∷ []) 2 2 ≡ 0 ∷ 1 ∷ 0 ∷ 0 ∷ 1 ∷ []
marks_are = refl

many_one : result marking (0 ∷ 1 ∷ 0 ∷ 7 ∷ 7 ∷ []) 2 ≡ Failed 2 ((4 * 1048576 + 3) * 16 + 6)
many_one = refl

-- a gate that is false ends its act alone: the second act still stores
abbrev gated : Phase
gated = Set 3 label.Stage (act 3 (op.Fixed (pos 0) ∷ op.Gate 0 ∷ op.Store (cell 0) 0 ∷ []) ∷ act 3 (op.Fixed (pos 8) ∷ op.Store (cell 1) 0 ∷ []) ∷ [])

gate_ends_its_act : effects gated (5 ∷ 5 ∷ []) 1 0 ≡ Store 1 8 ∷ []
gate_ends_its_act = refl
