-- Examples: assignments, what is saved, and which steps are static. Each stands with its source; its module and the lines of its phases follow.
use Rattle.std.specs.Prelude.{[], ◌∷◌, ◌++◌, codes}
use Rattle.hlfir_ops.specs.declared.kinds.Elem.TheVariants.{I32}
use Rattle.hlfir_ops.specs.declared.what.SubKind.TheVariants as sub
use Rattle.hlfir_meaning.specs.Example.{constant, constants, vector, section, element, copy, yield, assign, workshare, arrays, scalars}
use Rattle.hlfir_meaning.specs.SectionsExamples.{shift_by_one, scatter_with_a_repeat, sections_of_unequal_shape}
use Rattle.phase_plan.specs.Example.{Plan, plan, plan_of}

--     integer :: a(5)
--     a = [1, 2, 3, 4, 5]
--     !$omp parallel workshare
--     a(2:5) = a(1:4)
--     !$omp end parallel workshare
--     end
unfoldable pub a_saved_right_side : Plan
a_saved_right_side = plan_of shift_by_one
    (codes "serial line 2"
    ∷ codes "  1 loop line 2 assign a"
    ∷ codes "region line 3"
    ∷ codes "  1 loop line 4 save t1"
    ∷ codes "  2 loop line 4 assign a from t1" ∷ [])

--     integer :: a(3), b(3), v(3)
--     b = [7, 8, 9]
--     v = [1, 2, 1]
--     !$omp parallel workshare
--     ! scatter
--     a(v) = b
--     !$omp end parallel workshare
--     end
unfoldable pub targets_that_may_repeat : Plan
targets_that_may_repeat = plan_of scatter_with_a_repeat
    (codes "serial line 2"
    ∷ codes "  1 loop line 2 assign b"
    ∷ codes "serial line 3"
    ∷ codes "  1 loop line 3 assign v"
    ∷ codes "region line 4"
    ∷ codes "  1 loop line 6 save t1 addresses t2"
    ∷ codes "  2 loop line 6 clear marks"
    ∷ codes "  3 loop line 6 mark t2"
    ∷ codes "  4 loop line 6 check t2"
    ∷ codes "  5 loop line 6 assign a from t1 at t2" ∷ [])

--     integer :: a(3), b(3)
--     !$omp parallel workshare
--     a = b(1:2)
--     !$omp end parallel workshare
--     end
unfoldable pub sides_of_unequal_shape : Plan
sides_of_unequal_shape = plan_of sections_of_unequal_shape (codes "region line 2" ∷ codes "  1 single line 3 stage" ∷ codes "  2 loop line 3 assign a" ∷ [])

-- Parentheses are no item of the list: the step is static.
--     integer :: a(3), b(3)
--     !$omp parallel workshare
--     b = (a)
--     !$omp end parallel workshare
--     end
unfoldable pub an_array_in_parentheses : Plan
an_array_in_parentheses = plan (arrays (codes "a" ∷ codes "b" ∷ []) 3)
    (workshare 2 (assign 3 (copy I32 1 0 ∷ yield 2) (yield 1) ∷ []) ∷ []) (codes "region line 2" ∷ codes "  1 loop line 3 assign b" ∷ [])

-- A vector of constants is static, whatever they are. That the second one is out of bounds is found in the loop.
--     integer :: a(2), b(3)
--     !$omp parallel workshare
--     a = b([1, 4])
--     !$omp end parallel workshare
--     end
unfoldable pub a_vector_of_constants : Plan
a_vector_of_constants = plan (arrays (codes "a" ∷ []) 2 ++ arrays (codes "b" ∷ []) 3)
    (workshare 2
    (assign 3 (constants (1 ∷ 4 ∷ []) ++ vector I32 (2 ∷ 3 ∷ []) ∷ section I32 1 1 (sub.Vector ∷ []) (4 ∷ []) ∷ yield 5) (yield 0) ∷ []) ∷ [])
    (codes "region line 2" ∷ codes "  1 loop line 3 assign a" ∷ [])

-- What fills one element or a scalar has no loop.
--     integer :: a(3)
--     !$omp parallel workshare
--     a(3) = 1
--     !$omp end parallel workshare
--     end
unfoldable pub one_element : Plan
one_element = plan (arrays (codes "a" ∷ []) 3)
    (workshare 2 (assign 3 (constant 1 ∷ yield 1) (constant 3 ∷ element I32 0 (2 ∷ []) ∷ yield 3) ∷ []) ∷ [])
    (codes "region line 2" ∷ codes "  1 single line 3 assign a" ∷ [])

--     integer :: i
--     !$omp parallel workshare
--     !$omp end parallel workshare
--     end
unfoldable pub an_empty_region : Plan
an_empty_region = plan (scalars (codes "i" ∷ [])) (workshare 2 [] ∷ []) (codes "region line 2" ∷ [])
