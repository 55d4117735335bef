-- Examples: FORALL, its header, and steps without an assignment. Each stands with its source; its module and the lines of its phases follow.
use Rattle.std.specs.Prelude.{[], ◌∷◌, ◌++◌, codes}
use Rattle.hlfir_ops.specs.declared.kinds.Elem.TheVariants.{I32}
use Rattle.hlfir_ops.specs.declared.what.Reduction.TheVariants as red
use Rattle.hlfir_ops.specs.declared.what.ValueBinary.TheVariants as bin
use Rattle.hlfir_meaning.specs.Example.{upto, declared, arrays, scalars, constant, constants, binary, load, element, reduce, yields, yield, yield_all, assign, forall_of, forall_mask, workshare}
use Rattle.phase_plan.specs.Example.{Plan, plan}

-- The stride n may be 0, which is found before the sum.
--     integer :: i, j, n, d(3,3), c(2)
--     !$omp parallel workshare
--     forall (i = 1:3:n, j = 1:sum(c)) d(i,j) = 0
--     !$omp end parallel workshare
--     end
unfoldable pub a_stride_before_a_reduction : Plan
a_stride_before_a_reduction =
    plan (scalars (codes "i" ∷ codes "j" ∷ codes "n" ∷ []) ++ declared (codes "d") I32 (upto 3 ∷ upto 3 ∷ []) ∷ arrays (codes "c" ∷ []) 2)
    (workshare 2
    (forall_of 3 (codes "i" ∷ codes "j" ∷ [])
    (yield_all 5 (constant 1 ∷ constant 3 ∷ load I32 2 ∷ constant 1 ∷ reduce red.Sum 4 ∷ constant 1 ∷ []))
    (assign 3 (constant 0 ∷ yield 13) (element I32 3 (11 ∷ 12 ∷ []) ∷ yield 14) ∷ []) ∷ []) ∷ [])
    (codes "region line 2"
    ∷ codes "  1 single line 3 stage"
    ∷ codes "  2 part line 3 sum t1"
    ∷ codes "  3 join line 3 sum"
    ∷ codes "  4 single line 3 stage"
    ∷ codes "  5 loop line 3 assign d" ∷ [])

-- An index is no item of the list.
--     integer :: i, j, d(3,3), c(2)
--     !$omp parallel workshare
--     forall (i = 1:3, j = 1:sum(c)) d(i,j) = 0
--     !$omp end parallel workshare
--     end
unfoldable pub a_constant_index_before_a_reduction : Plan
a_constant_index_before_a_reduction =
    plan (scalars (codes "i" ∷ codes "j" ∷ []) ++ declared (codes "d") I32 (upto 3 ∷ upto 3 ∷ []) ∷ arrays (codes "c" ∷ []) 2)
    (workshare 2
    (forall_of 3 (codes "i" ∷ codes "j" ∷ [])
    (yield_all 4 (constant 1 ∷ constant 3 ∷ constant 1 ∷ constant 1 ∷ reduce red.Sum 3 ∷ constant 1 ∷ []))
    (assign 3 (constant 0 ∷ yield 12) (element I32 2 (10 ∷ 11 ∷ []) ∷ yield 13) ∷ []) ∷ []) ∷ [])
    (codes "region line 2"
    ∷ codes "  1 part line 3 sum t1"
    ∷ codes "  2 join line 3 sum"
    ∷ codes "  3 single line 3 stage"
    ∷ codes "  4 loop line 3 assign d" ∷ [])

-- The line of a reduction is that of the FORALL which holds it, and the line of the stretch that of the assignment.
--     integer :: i, n, a(3), c(2)
--     !$omp parallel workshare
--     forall (i = 1:sum(c)+n)
--     a(i) = 1
--     end forall
--     !$omp end parallel workshare
--     end
unfoldable pub a_reduction_in_a_header : Plan
a_reduction_in_a_header = plan (scalars (codes "i" ∷ codes "n" ∷ []) ++ arrays (codes "a" ∷ []) 3 ++ arrays (codes "c" ∷ []) 2)
    (workshare 2
    (forall_of 3 (codes "i" ∷ [])
    (constant 1 ∷ reduce red.Sum 3 ∷ load I32 1 ∷ binary bin.Add 5 6 ∷ constant 1 ∷ yields (4 ∷ 7 ∷ 8 ∷ []) ∷ [])
    (assign 4 (constant 1 ∷ yield 10) (element I32 2 (9 ∷ []) ∷ yield 11) ∷ []) ∷ []) ∷ [])
    (codes "region line 2"
    ∷ codes "  1 part line 3 sum t1"
    ∷ codes "  2 join line 3 sum"
    ∷ codes "  3 single line 4 stage"
    ∷ codes "  4 loop line 4 assign a" ∷ [])

--     integer :: i
--     forall (i = 1:3)
--     end forall
--     end
unfoldable pub a_forall_of_nothing : Plan
a_forall_of_nothing = plan (scalars (codes "i" ∷ []))
    (forall_of 2 (codes "i" ∷ []) (yield_all 1 (constants (1 ∷ 3 ∷ 1 ∷ []))) [] ∷ []) (codes "serial line 2" ∷ [])

--     integer :: i, a(3)
--     forall (i = 1:3, a(i) > 0)
--     end forall
--     end
unfoldable pub a_forall_of_a_mask : Plan
a_forall_of_a_mask = plan (scalars (codes "i" ∷ []) ++ arrays (codes "a" ∷ []) 3)
    (forall_of 2 (codes "i" ∷ []) (yield_all 2 (constants (1 ∷ 3 ∷ 1 ∷ [])))
    (forall_mask 2 (element I32 1 (5 ∷ []) ∷ load I32 6 ∷ constant 0 ∷ binary bin.Gt 7 8 ∷ yield 9) ∷ []) ∷ [])
    (codes "serial line 2" ∷ codes "  1 loop line 2 mask" ∷ [])
