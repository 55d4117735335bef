-- Examples: reductions, and the stretches that they divide. Each stands with its source; its module and the lines of its phases follow.
use Rattle.std.specs.Prelude.{false, [], ◌∷◌, ◌++◌, codes}
use Rattle.hlfir_ops.specs.declared.kinds.Elem.TheVariants.{I32}
use Rattle.hlfir_ops.specs.declared.what.Reduction.TheVariants as red
use Rattle.hlfir_ops.specs.declared.what.ValueBinary.TheVariants as bin
use Rattle.hlfir_meaning.specs.Example.{constants, binary, box, apply, elemental, reduce, yields_element, yield, yield_all, assign, workshare, allocate, allocatable, arrays, scalars}
use Rattle.hlfir_meaning.specs.ArithmeticExamples.{exact_sum, sum_of_unequal_shapes}
use Rattle.phase_plan.specs.Example.{Plan, plan, plan_of}

--     integer :: n, a(3), b(2)
--     !$omp parallel workshare
--     n = sum(a + b)
--     !$omp end parallel workshare
--     end
unfoldable pub a_sum_of_unequal_shapes : Plan
a_sum_of_unequal_shapes = plan_of sum_of_unequal_shapes
    (codes "region line 2"
    ∷ codes "  1 single line 3 stage"
    ∷ codes "  2 part line 3 sum t1"
    ∷ codes "  3 join line 3 sum"
    ∷ codes "  4 single line 3 assign n" ∷ [])

--     integer :: n
--     !$omp parallel workshare
--     n = sum([2147483647, 1, -1])
--     !$omp end parallel workshare
--     end
unfoldable pub a_sum_of_constants : Plan
a_sum_of_constants = plan_of exact_sum
    (codes "region line 2" ∷ codes "  1 part line 3 sum t1" ∷ codes "  2 join line 3 sum" ∷ codes "  3 single line 3 assign n" ∷ [])

-- The shape of p is not known, so the stretch before the outer sum is printed.
--     integer, allocatable :: p(:)
--     integer :: n, b(2)
--     allocate (p(1:2))
--     !$omp parallel workshare
--     n = sum(p + sum(b))
--     !$omp end parallel workshare
--     end
unfoldable pub a_sum_in_the_argument_of_a_sum : Plan
a_sum_in_the_argument_of_a_sum = plan (allocatable (codes "p") I32 1 ∷ (scalars (codes "n" ∷ []) ++ arrays (codes "b" ∷ []) 2))
    (allocate 3 false 0 (yield_all 3 (constants (1 ∷ 2 ∷ [])))
    ∷ workshare 4
    (assign 5 (box I32 1 0 ∷ reduce red.Sum 2 ∷ elemental I32 1 (apply I32 5 ∷ binary bin.Add 8 6 ∷ yields_element 9 ∷ []) ∷ reduce red.Sum 7 ∷ yield 10)
    (yield 1) ∷ []) ∷ [])
    (codes "region line 4"
    ∷ codes "  1 single line 5 stage"
    ∷ codes "  2 part line 5 sum t1"
    ∷ codes "  3 join line 5 sum"
    ∷ codes "  4 single line 5 stage"
    ∷ codes "  5 part line 5 sum t2"
    ∷ codes "  6 join line 5 sum"
    ∷ codes "  7 single line 5 assign n" ∷ [])

-- A reduction that is not static stands in no stretch, so the one after it is not printed.
--     integer, allocatable :: p(:)
--     integer :: n, b(2)
--     allocate (p(1:2))
--     !$omp parallel workshare
--     n = sum(p) + sum(b)
--     !$omp end parallel workshare
--     end
unfoldable pub a_sum_after_another : Plan
a_sum_after_another = plan (allocatable (codes "p") I32 1 ∷ (scalars (codes "n" ∷ []) ++ arrays (codes "b" ∷ []) 2))
    (allocate 3 false 0 (yield_all 3 (constants (1 ∷ 2 ∷ [])))
    ∷ workshare 4 (assign 5 (box I32 1 0 ∷ reduce red.Sum 5 ∷ reduce red.Sum 2 ∷ binary bin.Add 6 7 ∷ yield 8) (yield 1) ∷ []) ∷ [])
    (codes "region line 4"
    ∷ codes "  1 single line 5 stage"
    ∷ codes "  2 part line 5 sum t1"
    ∷ codes "  3 join line 5 sum"
    ∷ codes "  4 part line 5 sum t2"
    ∷ codes "  5 join line 5 sum"
    ∷ codes "  6 single line 5 assign n" ∷ [])
