-- Examples: FORALL. Each stands with its source; its module, the lines of its data and those of its report follow.
use Rattle.std.specs.Prelude.{[], ◌∷◌, ◌++◌, codes}
use Rattle.hlfir_ops.specs.declared.kinds.Elem.TheVariants.{I32}
use Rattle.hlfir_ops.specs.declared.what.ValueBinary.TheVariants as bin
use Rattle.hlfir_meaning.specs.Example.{Example, example, declared, allocatable, upto, constant, minus, binary, load, box, element, yields, assign, forall_of, forall_mask, workshare, arrays, scalars, constants, yield, yield_all, fill}

--     integer :: i, a(3)
--     a = [1, 2, 3]
--     !$omp parallel workshare
--     forall (i=1:3) a(i) = a(4-i)
--     !$omp end parallel workshare
--     end
--
--     module main
--     %0 = hlfir.declare "i" : ref<i32>
--     %1 = hlfir.declare "a" : ref<1:3xi32>
--     hlfir.region_assign @2 {
--       %2 = arith.constant 1 : i32
--       %3 = arith.constant 2 : i32
--       %4 = arith.constant 3 : i32
--       %5 = hlfir.vector %2 %3 %4 : expr<1xi32>
--       hlfir.yield %5
--     } to {
--       hlfir.yield %1
--     }
--     omp.workshare @3 {
--       hlfir.forall @4 {
--         %6 = arith.constant 1 : i32
--         %7 = arith.constant 3 : i32
--         %8 = arith.constant 1 : i32
--         hlfir.yield %6:%7:%8
--       } index %9 "i" {
--         hlfir.region_assign @4 {
--           %10 = arith.constant 4 : i32
--           %11 = arith.subi %10, %9 : i32
--           %12 = hlfir.designate %1 (%11) : ref<i32>
--           %13 = hlfir.load %12 : i32
--           hlfir.yield %13
--         } to {
--           %14 = hlfir.designate %1 (%9) : ref<i32>
--           hlfir.yield %14
--         }
--       }
--     }
unfoldable pub reverse_by_combinations : Example
reverse_by_combinations = example (scalars (codes "i" ∷ []) ++ arrays (codes "a" ∷ []) 3)
    (fill 2 2 (constants (1 ∷ 2 ∷ 3 ∷ [])) 1
    ∷ workshare 3
    (forall_of 4 (codes "i" ∷ []) (yield_all 6 (constants (1 ∷ 3 ∷ 1 ∷ [])))
    (assign 4 (constant 4 ∷ binary bin.Sub 10 9 ∷ element I32 1 (11 ∷ []) ∷ load I32 12 ∷ yield 13) (element I32 1 (9 ∷ []) ∷ yield 14) ∷ []) ∷ []) ∷ [])
    [] (codes "i = 0" ∷ codes "a(1:3) = 3 2 1" ∷ [])

--     integer :: i, a(3)
--     !$omp parallel workshare
--     forall (i = 1:3) a(i/2 + 1) = i
--     !$omp end parallel workshare
--     end
unfoldable pub combinations_with_one_target : Example
combinations_with_one_target = example (scalars (codes "i" ∷ []) ++ arrays (codes "a" ∷ []) 3)
    (workshare 2
    (forall_of 3 (codes "i" ∷ []) (yield_all 2 (constants (1 ∷ 3 ∷ 1 ∷ [])))
    (assign 3 (yield 5) (constant 2 ∷ binary bin.Div 5 6 ∷ constant 1 ∷ binary bin.Add 7 8 ∷ element I32 1 (9 ∷ []) ∷ yield 10) ∷ []) ∷ []) ∷ [])
    [] (codes "fault ManyOne line 3 element 3" ∷ [])

--     integer :: i, a(3)
--     forall (i = 1:3:0) a(i) = 1
--     end
unfoldable pub header_with_zero_stride : Example
header_with_zero_stride = example (scalars (codes "i" ∷ []) ++ arrays (codes "a" ∷ []) 3)
    (forall_of 2 (codes "i" ∷ []) (yield_all 2 (constants (1 ∷ 3 ∷ 0 ∷ []))) (assign 2 (constant 1 ∷ yield 6) (element I32 1 (5 ∷ []) ∷ yield 7) ∷ []) ∷ [])
    [] (codes "fault ZeroStride line 2 element 0" ∷ [])

--     integer :: i, j, n, c(3,3)
--     forall (i = 1:3:n, j = 1:1/n) c(i,j) = 1
--     end
unfoldable pub stride_before_the_next_index : Example
stride_before_the_next_index = example (scalars (codes "i" ∷ codes "j" ∷ codes "n" ∷ []) ++ (declared (codes "c") I32 (upto 3 ∷ upto 3 ∷ []) ∷ []))
    (forall_of 2 (codes "i" ∷ codes "j" ∷ [])
    (constant 1 ∷ constant 3 ∷ load I32 2 ∷ constant 1 ∷ constant 1 ∷ load I32 2 ∷ binary bin.Div 8 9 ∷ constant 1 ∷ yields (4 ∷ 5 ∷ 6 ∷ 7 ∷ 10 ∷ 11 ∷ [])
    ∷ [])
    (assign 2 (constant 1 ∷ yield 14) (element I32 3 (12 ∷ 13 ∷ []) ∷ yield 15) ∷ []) ∷ []) [] (codes "fault ZeroStride line 2 element 0" ∷ [])

--     integer :: i, j, c(2,3)
--     forall (i = 1:2, j = 3:1:-1, c(i,j) < i + 1 .and. i /= j)
--     c(i,j) = 10*i + j
--     c(i,j) = c(i,j) + 1
--     end forall
--     end
unfoldable pub masked_pairs : Example
masked_pairs = example (scalars (codes "i" ∷ codes "j" ∷ []) ++ (declared (codes "c") I32 (upto 2 ∷ upto 3 ∷ []) ∷ []))
    (forall_of 2 (codes "i" ∷ codes "j" ∷ []) (yield_all 3 (constant 1 ∷ constant 2 ∷ constant 1 ∷ constant 3 ∷ constant 1 ∷ minus 1 ∷ []))
    (forall_mask 2
    (element I32 2 (9 ∷ 10 ∷ []) ∷ load I32 11 ∷ constant 1 ∷ binary bin.Add 9 13 ∷ binary bin.Lt 12 14 ∷ binary bin.Ne 9 10 ∷ binary bin.And 15 16
    ∷ yield 17)
    ∷ assign 3 (constant 10 ∷ binary bin.Mul 18 9 ∷ binary bin.Add 19 10 ∷ yield 20) (element I32 2 (9 ∷ 10 ∷ []) ∷ yield 21)
    ∷ assign 4 (element I32 2 (9 ∷ 10 ∷ []) ∷ load I32 22 ∷ constant 1 ∷ binary bin.Add 23 24 ∷ yield 25) (element I32 2 (9 ∷ 10 ∷ []) ∷ yield 26) ∷ []) ∷ [])
    [] (codes "i = 0" ∷ codes "j = 0" ∷ codes "c(1:2,1:3) = 0 22 13 0 14 24" ∷ [])

--     integer :: i, n
--     integer, allocatable :: p(:)
--     forall (i = 1:2) p(i/n) = 1
--     end
unfoldable pub subscript_before_the_array : Example
subscript_before_the_array = example (scalars (codes "i" ∷ codes "n" ∷ []) ++ (allocatable (codes "p") I32 1 ∷ []))
    (forall_of 3 (codes "i" ∷ []) (yield_all 3 (constants (1 ∷ 2 ∷ 1 ∷ [])))
    (assign 3 (constant 1 ∷ yield 7) (box I32 1 2 ∷ load I32 1 ∷ binary bin.Div 6 9 ∷ element I32 8 (10 ∷ []) ∷ yield 11) ∷ []) ∷ [])
    [] (codes "fault DivideByZero line 3 element 1" ∷ [])

--     integer :: i
--     integer, allocatable :: p(:)
--     forall (i = 2:3, i > 2) p(i) = 1
--     end
unfoldable pub target_not_allocated : Example
target_not_allocated = example (scalars (codes "i" ∷ []) ++ (allocatable (codes "p") I32 1 ∷ []))
    (forall_of 3 (codes "i" ∷ []) (yield_all 2 (constants (2 ∷ 3 ∷ 1 ∷ [])))
    (forall_mask 3 (constant 2 ∷ binary bin.Gt 5 6 ∷ yield 7)
    ∷ assign 3 (constant 1 ∷ yield 8) (box I32 1 1 ∷ element I32 9 (5 ∷ []) ∷ yield 10) ∷ []) ∷ []) [] (codes "fault Unallocated line 3 element 2" ∷ [])
