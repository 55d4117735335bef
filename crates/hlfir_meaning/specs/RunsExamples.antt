-- Examples: reallocation, ALLOCATE, READ and DO. Each stands with its source; its module, the lines of its data and those of its report follow.
use Rattle.std.specs.Prelude.{false, true, [], ◌∷◌, ◌++◌, codes, pos}
use Rattle.hlfir_ops.specs.declared.kinds.Elem.TheVariants.{I32, I1}
use Rattle.hlfir_ops.specs.declared.what.ValueBinary.TheVariants as bin
use Rattle.hlfir_ops.specs.declared.what.BoundWord.TheVariants as word
use Rattle.hlfir_meaning.specs.Example.{Example, example, variable, declared, allocatable, constant, minus, binary, load, box, bound, size, element, copy, yields, assign, reallocate, workshare, loop, allocate, free, read, arrays, scalars, constants, yield, yield_all, part, fill}

--     integer :: b(0:2)
--     integer, allocatable :: p(:)
--     b = [5, 6, 7]
--     !$omp parallel workshare
--     p = b
--     !$omp end parallel workshare
--     end
unfoldable pub bounds_handed_on : Example
bounds_handed_on = example ((declared (codes "b") I32 ((record { lower = pos 0; extent = 3 }) ∷ []) ∷ []) ++ (allocatable (codes "p") I32 1 ∷ []))
    (fill 3 2 (constants (5 ∷ 6 ∷ 7 ∷ [])) 0
    ∷ workshare 4 (reallocate 5 (yield 0) (yield 1) ∷ []) ∷ []) [] (codes "b(0:2) = 5 6 7" ∷ codes "p(0:2) = 5 6 7" ∷ [])

--     integer :: b(0:2)
--     integer, allocatable :: p(:)
--     b = [5, 6, 7]
--     !$omp parallel workshare
--     p = b
--     p = b(1:2)
--     !$omp end parallel workshare
--     end
unfoldable pub bounds_of_a_section : Example
bounds_of_a_section = example ((declared (codes "b") I32 ((record { lower = pos 0; extent = 3 }) ∷ []) ∷ []) ++ (allocatable (codes "p") I32 1 ∷ []))
    (fill 3 2 (constants (5 ∷ 6 ∷ 7 ∷ [])) 0
    ∷ workshare 4 (reallocate 5 (yield 0) (yield 1) ∷ reallocate 6 (part 0 6 (constants (1 ∷ 2 ∷ 1 ∷ []))) (yield 1) ∷ []) ∷ [])
    [] (codes "b(0:2) = 5 6 7" ∷ codes "p(1:2) = 6 7" ∷ [])

--     integer :: b(0:2)
--     integer, allocatable :: p(:)
--     b = [5, 6, 7]
--     p = (b)
--     end
unfoldable pub bounds_of_parentheses : Example
bounds_of_parentheses = example ((declared (codes "b") I32 ((record { lower = pos 0; extent = 3 }) ∷ []) ∷ []) ++ (allocatable (codes "p") I32 1 ∷ []))
    (fill 3 2 (constants (5 ∷ 6 ∷ 7 ∷ [])) 0
    ∷ reallocate 4 (copy I32 1 0 ∷ yield 6) (yield 1) ∷ []) [] (codes "b(0:2) = 5 6 7" ∷ codes "p(1:3) = 5 6 7" ∷ [])

--     integer, allocatable :: p(:)
--     p = 3
--     end
unfoldable pub scalar_to_nothing : Example
scalar_to_nothing = example (allocatable (codes "p") I32 1 ∷ [])
    (reallocate 2 (constant 3 ∷ yield 1) (yield 0) ∷ []) [] (codes "fault Unallocated line 2 element 0" ∷ [])

--     integer, allocatable :: p(:)
--     end
unfoldable pub never_allocated : Example
never_allocated = example (allocatable (codes "p") I32 1 ∷ []) [] [] (codes "p unallocated" ∷ [])

--     integer, allocatable :: p(:)
--     allocate (p(65537))
--     end
unfoldable pub allocated_too_large : Example
allocated_too_large = example (allocatable (codes "p") I32 1 ∷ [])
    (allocate 2 false 0 (yield_all 1 (constants (1 ∷ 65537 ∷ []))) ∷ []) [] (codes "fault TooLarge line 2 element 0" ∷ [])

--     integer, allocatable :: p(:), q(:)
--     allocate (p(0:2), q(size(p) + lbound(p, 1)))
--     deallocate (p)
--     q = 4
--     end
unfoldable pub later_item_sees_the_first : Example
later_item_sees_the_first = example ((allocatable (codes "p") I32 1 ∷ []) ++ (allocatable (codes "q") I32 1 ∷ []))
    (allocate 2 false 0 (yield_all 2 (constants (0 ∷ 2 ∷ [])))
    ∷ allocate 2 true 1 (constant 1 ∷ box I32 1 0 ∷ size 5 ∷ box I32 1 0 ∷ bound word.Lbound 7 1 ∷ binary bin.Add 6 8 ∷ yields (4 ∷ 9 ∷ []) ∷ [])
    ∷ free 3 false 0
    ∷ reallocate 4 (constant 4 ∷ yield 10) (yield 1) ∷ []) [] (codes "p unallocated" ∷ codes "q(1:3) = 4 4 4" ∷ [])

--     integer :: n, m
--     read *, n
--     read *, m
--     end
unfoldable pub rest_of_a_line_is_skipped : Example
rest_of_a_line_is_skipped = example (scalars (codes "n" ∷ codes "m" ∷ []))
    (read 2 false (yield 0)
    ∷ read 3 false (yield 1) ∷ []) (codes "5 6" ∷ codes "7" ∷ []) (codes "n = 5" ∷ codes "m = 7" ∷ [])

--     integer :: n, m
--     read *, n
--     read *, m
--     end
unfoldable pub item_that_is_no_number : Example
item_that_is_no_number = example (scalars (codes "n" ∷ codes "m" ∷ []))
    (read 2 false (yield 0)
    ∷ read 3 false (yield 1) ∷ []) (codes "5 6" ∷ codes "x" ∷ []) (codes "fault DataBad line 3 element 1" ∷ [])

--     integer :: n, a(3)
--     logical :: t
--     read *, n, a(n:3), t
--     end
--
--     module main
--     %0 = hlfir.declare "n" : ref<i32>
--     %1 = hlfir.declare "a" : ref<1:3xi32>
--     %2 = hlfir.declare "t" : ref<i1>
--     ws.read @3 {
--       hlfir.yield %0
--     }
--     ws.read @3 also {
--       %3 = hlfir.load %0 : i32
--       %4 = arith.constant 3 : i32
--       %5 = arith.constant 1 : i32
--       %6 = hlfir.designate %1 (%3:%4:%5) : sec<1xi32>
--       hlfir.yield %6
--     }
--     ws.read @3 also {
--       hlfir.yield %2
--     }
unfoldable pub later_item_reads_at_the_first : Example
later_item_reads_at_the_first = example (scalars (codes "n" ∷ []) ++ arrays (codes "a" ∷ []) 3 ++ (variable (codes "t") I1 ∷ []))
    (read 3 false (yield 0)
    ∷ read 3 true (part 1 3 (load I32 0 ∷ constant 3 ∷ constant 1 ∷ []))
    ∷ read 3 true (yield 2) ∷ []) (codes "2 7,8" ∷ codes " T 9" ∷ []) (codes "n = 2" ∷ codes "a(1:3) = 0 7 8" ∷ codes "t = T" ∷ [])

--     integer :: n, a(3)
--     read *, n, a
--     end
unfoldable pub too_few_items : Example
too_few_items = example (scalars (codes "n" ∷ []) ++ arrays (codes "a" ∷ []) 3)
    (read 2 false (yield 0)
    ∷ read 2 true (yield 1) ∷ []) (codes "1 2" ∷ codes "3" ∷ []) (codes "fault DataEnd line 2 element 4" ∷ [])

--     integer :: i, k, a(3)
--     do i = 3, 1, -1
--     k = k + 1
--     a(i) = k
--     end do
--     end
unfoldable pub loop_that_counts_down : Example
loop_that_counts_down = example (scalars (codes "i" ∷ codes "k" ∷ []) ++ arrays (codes "a" ∷ []) 3)
    (loop 2 0 (yield_all 3 (constant 3 ∷ constant 1 ∷ minus 1 ∷ []))
    (assign 3 (load I32 1 ∷ constant 1 ∷ binary bin.Add 6 7 ∷ yield 8) (yield 1)
    ∷ assign 4 (load I32 1 ∷ yield 9) (load I32 0 ∷ element I32 2 (10 ∷ []) ∷ yield 11) ∷ []) ∷ []) [] (codes "i = 0" ∷ codes "k = 3" ∷ codes "a(1:3) = 3 2 1" ∷ [])

--     integer :: i
--     do i = 2147483646, 2147483647
--     end do
--     end
unfoldable pub loop_that_leaves_the_range : Example
loop_that_leaves_the_range = example (scalars (codes "i" ∷ []))
    (loop 2 0 (yield_all 1 (constants (2147483646 ∷ 2147483647 ∷ 1 ∷ []))) [] ∷ []) [] (codes "fault Overflow line 2 element 0" ∷ [])

--     integer :: i, n, a(2)
--     do i = 1, 3
--     !$omp parallel workshare
--     n = n + i
--     !$omp end parallel workshare
--     end do
--     !$omp parallel
--     !$omp workshare
--     a = n
--     n = 0
--     !$omp end workshare
--     !$omp end parallel
--     end
unfoldable pub regions_of_a_loop : Example
regions_of_a_loop = example (scalars (codes "i" ∷ codes "n" ∷ []) ++ arrays (codes "a" ∷ []) 2)
    (loop 2 0 (yield_all 3 (constants (1 ∷ 3 ∷ 1 ∷ [])))
    (workshare 3 (assign 4 (load I32 1 ∷ load I32 0 ∷ binary bin.Add 6 7 ∷ yield 8) (yield 1) ∷ []) ∷ [])
    ∷ workshare 8 (assign 9 (load I32 1 ∷ yield 9) (yield 2) ∷ assign 10 (constant 0 ∷ yield 10) (yield 1) ∷ []) ∷ [])
    [] (codes "i = 4" ∷ codes "n = 0" ∷ codes "a(1:2) = 6 6" ∷ [])
