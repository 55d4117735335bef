-- Examples: WHERE, and the temporaries that a construct holds. Each stands with its source; its module and the lines of its phases follow.
use Rattle.std.specs.Prelude.{false, [], ◌∷◌, ◌++◌, codes}
use Rattle.hlfir_ops.specs.declared.kinds.Elem.TheVariants.{I32, I1}
use Rattle.hlfir_ops.specs.declared.what.SubKind.TheVariants as sub
use Rattle.hlfir_ops.specs.declared.what.Reduction.TheVariants as red
use Rattle.hlfir_ops.specs.declared.what.ValueBinary.TheVariants as bin
use Rattle.hlfir_ops.specs.declared.what.BoundWord.TheVariants as word
use Rattle.hlfir_meaning.specs.Example.{upto, declared, allocatable, arrays, scalars, constant, constants, binary, load, box, bound, section, apply, elemental, reduce, yields_element}
use Rattle.hlfir_meaning.specs.Example.{yield, yield_all, assign, masked, masked_else, elsewhere, workshare, allocate}
use Rattle.phase_plan.specs.Example.{Plan, plan, positive, reverse}

-- The mask is not static, but its shape is known from constants: the second assignment is a static step.
--     integer :: n, a(3,3), b(3)
--     n = 2
--     !$omp parallel workshare
--     where (a(:,n) > 0)
--     b = 1
--     b = 2
--     end where
--     !$omp end parallel workshare
--     end
unfoldable pub a_mask_of_known_shape : Plan
a_mask_of_known_shape = plan (scalars (codes "n" ∷ []) ++ declared (codes "a") I32 (upto 3 ∷ upto 3 ∷ []) ∷ arrays (codes "b" ∷ []) 3)
    (assign 2 (constant 2 ∷ yield 3) (yield 0)
    ∷ workshare 3
    (masked 4
    (bound word.Lower 1 1 ∷ bound word.Upper 1 1 ∷ constant 1 ∷ load I32 0 ∷ section I32 1 1 (sub.Range ∷ sub.One ∷ []) (4 ∷ 5 ∷ 6 ∷ 7 ∷ []) ∷ positive 9 8)
    (assign 5 (constant 1 ∷ yield 13) (yield 2) ∷ assign 6 (constant 2 ∷ yield 14) (yield 2) ∷ []) ∷ []) ∷ [])
    (codes "serial line 2"
    ∷ codes "  1 single line 2 assign n"
    ∷ codes "region line 3"
    ∷ codes "  1 single line 5 stage"
    ∷ codes "  2 loop line 5 assign b"
    ∷ codes "  3 loop line 6 assign b" ∷ [])

-- What the subscript of the mask has left is held until the WHERE ends, though only the total is needed.
--     integer :: a(3), v(3)
--     !$omp parallel workshare
--     where (a > sum(a(v+1)))
--     a = a(3:1:-1)
--     a = a(3:1:-1)
--     end where
--     !$omp end parallel workshare
--     end
unfoldable pub a_mask_with_a_reduction_of_gathered_elements : Plan
a_mask_with_a_reduction_of_gathered_elements = plan (arrays (codes "a" ∷ codes "v" ∷ []) 3)
    (workshare 2
    (masked 3
    (constant 1
    ∷ elemental I32 1 (apply I32 1 ∷ binary bin.Add 4 2 ∷ yields_element 5 ∷ [])
    ∷ section I32 1 0 (sub.Vector ∷ []) (3 ∷ [])
    ∷ reduce red.Sum 6
    ∷ elemental I1 1 (apply I32 0 ∷ binary bin.Gt 9 7 ∷ yields_element 10 ∷ []) ∷ yield 8)
    (reverse 4 11 0 ∷ reverse 5 15 0 ∷ []) ∷ []) ∷ [])
    (codes "region line 2"
    ∷ codes "  1 loop line 3 vector t1"
    ∷ codes "  2 single line 4 stage"
    ∷ codes "  3 part line 3 sum t2"
    ∷ codes "  4 join line 3 sum"
    ∷ codes "  5 single line 4 stage"
    ∷ codes "  6 loop line 3 mask t3"
    ∷ codes "  7 loop line 4 save t4"
    ∷ codes "  8 loop line 4 assign a from t4"
    ∷ codes "  9 loop line 5 save t2"
    ∷ codes "  10 loop line 5 assign a from t2" ∷ [])

-- A saved mask is held until the outermost WHERE ends.
--     integer :: a(3), b(3), c(3)
--     !$omp parallel workshare
--     where (a > 0)
--     where (b > 0)
--     b = 0
--     c = 1
--     end where
--     c = c(3:1:-1)
--     end where
--     !$omp end parallel workshare
--     end
unfoldable pub a_mask_of_a_where_that_has_ended : Plan
a_mask_of_a_where_that_has_ended = plan (arrays (codes "a" ∷ codes "b" ∷ codes "c" ∷ []) 3)
    (workshare 2
    (masked 3 (positive 3 0)
    (masked 4 (positive 7 1) (assign 5 (constant 0 ∷ yield 11) (yield 1) ∷ assign 6 (constant 1 ∷ yield 12) (yield 2) ∷ [])
    ∷ reverse 8 13 2 ∷ []) ∷ []) ∷ [])
    (codes "region line 2"
    ∷ codes "  1 loop line 4 mask t1"
    ∷ codes "  2 loop line 5 assign b"
    ∷ codes "  3 loop line 6 assign c"
    ∷ codes "  4 loop line 8 save t2"
    ∷ codes "  5 loop line 8 assign c from t2" ∷ [])

-- The mask of the ELSEWHERE is new in the last step, but it does not control it: the step has no operand of unknown shape.
--     integer, allocatable :: p(:)
--     integer :: a(2), b(2)
--     allocate (p(1:2))
--     !$omp parallel workshare
--     where (a > 0)
--     where (p > 0)
--     a = 1
--     elsewhere (b > 0)
--     end where
--     b = 2
--     end where
--     !$omp end parallel workshare
--     end
unfoldable pub a_mask_that_does_not_control : Plan
a_mask_that_does_not_control = plan (allocatable (codes "p") I32 1 ∷ arrays (codes "a" ∷ codes "b" ∷ []) 2)
    (allocate 3 false 0 (yield_all 3 (constants (1 ∷ 2 ∷ [])))
    ∷ workshare 4
    (masked 5 (positive 5 1)
    (masked_else 6 (box I32 1 0 ∷ positive 10 9) (assign 7 (constant 1 ∷ yield 14) (yield 1) ∷ []) (elsewhere 8 (positive 15 2) [] ∷ [])
    ∷ assign 10 (constant 2 ∷ yield 19) (yield 2) ∷ []) ∷ []) ∷ [])
    (codes "region line 4"
    ∷ codes "  1 single line 7 stage"
    ∷ codes "  2 loop line 5 mask t1"
    ∷ codes "  3 loop line 7 assign a"
    ∷ codes "  4 loop line 10 assign b" ∷ [])
