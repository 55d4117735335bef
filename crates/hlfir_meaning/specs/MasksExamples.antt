-- Examples: WHERE. Each stands with its source; its module, the lines of its data and those of its report follow.
use Rattle.std.specs.Prelude.{[], ◌∷◌, ◌++◌, codes}
use Rattle.hlfir_ops.specs.declared.kinds.Elem.TheVariants.{I32, I1}
use Rattle.hlfir_ops.specs.declared.what.ValueUnary.TheVariants as un
use Rattle.hlfir_ops.specs.declared.what.ValueBinary.TheVariants as bin
use Rattle.hlfir_ops.specs.declared.what.Reduction.TheVariants as red
use Rattle.hlfir_meaning.specs.Example.{Example, example, constant, minus, unary, binary, apply, elemental, reduce, yields_element, assign, masked, masked_else, elsewhere, otherwise, workshare, arrays, constants, yield, fill}

--     integer :: a(3), b(3)
--     a = [-1, 2, -3]
--     !$omp parallel workshare
--     where (a < 0)
--     a = -a
--     b = a
--     elsewhere
--     b = 0
--     end where
--     !$omp end parallel workshare
--     end
--
--     module main
--     %0 = hlfir.declare "a" : ref<1:3xi32>
--     %1 = hlfir.declare "b" : ref<1:3xi32>
--     hlfir.region_assign @2 {
--       %2 = arith.constant -1 : i32
--       %3 = arith.constant 2 : i32
--       %4 = arith.constant -3 : i32
--       %5 = hlfir.vector %2 %3 %4 : expr<1xi32>
--       hlfir.yield %5
--     } to {
--       hlfir.yield %0
--     }
--     omp.workshare @3 {
--       hlfir.where @4 {
--         %6 = arith.constant 0 : i32
--         %7 = hlfir.elemental : expr<1xi1> {
--           %8 = hlfir.apply %0 : i32
--           %9 = arith.cmpi lt %8, %6 : i1
--           hlfir.yield_element %9
--         }
--         hlfir.yield %7
--       } do {
--         hlfir.region_assign @5 {
--           %10 = hlfir.elemental : expr<1xi32> {
--             %11 = hlfir.apply %0 : i32
--             %12 = hlfir.neg %11 : i32
--             hlfir.yield_element %12
--           }
--           hlfir.yield %10
--         } to {
--           hlfir.yield %0
--         }
--         hlfir.region_assign @6 {
--           hlfir.yield %0
--         } to {
--           hlfir.yield %1
--         }
--       } elsewhere @7 do {
--         hlfir.region_assign @8 {
--           %13 = arith.constant 0 : i32
--           hlfir.yield %13
--         } to {
--           hlfir.yield %1
--         }
--       }
--     }
unfoldable pub absolute_values : Example
absolute_values = example (arrays (codes "a" ∷ codes "b" ∷ []) 3)
    (fill 2 2 (minus 1 ∷ constant 2 ∷ minus 3 ∷ []) 0
    ∷ workshare 3
    (masked_else 4 (constant 0 ∷ elemental I1 1 (apply I32 0 ∷ binary bin.Lt 8 6 ∷ yields_element 9 ∷ []) ∷ yield 7)
    (assign 5 (elemental I32 1 (apply I32 0 ∷ unary un.Neg 11 ∷ yields_element 12 ∷ []) ∷ yield 10) (yield 0)
    ∷ assign 6 (yield 0) (yield 1) ∷ [])
    (otherwise 7 (assign 8 (constant 0 ∷ yield 13) (yield 1) ∷ []) ∷ []) ∷ []) ∷ []) [] (codes "a(1:3) = 1 2 3" ∷ codes "b(1:3) = 1 0 3" ∷ [])

--     integer :: a(4), b(4)
--     a = [1, 2, 3, 4]
--     !$omp parallel workshare
--     where (a > 2)
--     b = 10
--     elsewhere (a > 1)
--     b = 20
--     elsewhere
--     b = 30
--     end where
--     !$omp end parallel workshare
--     end
unfoldable pub three_blocks : Example
three_blocks = example (arrays (codes "a" ∷ codes "b" ∷ []) 4)
    (fill 2 2 (constants (1 ∷ 2 ∷ 3 ∷ 4 ∷ [])) 0
    ∷ workshare 3
    (masked_else 4 (constant 2 ∷ elemental I1 1 (apply I32 0 ∷ binary bin.Gt 9 7 ∷ yields_element 10 ∷ []) ∷ yield 8)
    (assign 5 (constant 10 ∷ yield 11) (yield 1) ∷ [])
    (elsewhere 6 (constant 1 ∷ elemental I1 1 (apply I32 0 ∷ binary bin.Gt 14 12 ∷ yields_element 15 ∷ []) ∷ yield 13)
    (assign 7 (constant 20 ∷ yield 16) (yield 1) ∷ [])
    ∷ otherwise 8 (assign 9 (constant 30 ∷ yield 17) (yield 1) ∷ []) ∷ []) ∷ []) ∷ []) [] (codes "a(1:4) = 1 2 3 4" ∷ codes "b(1:4) = 30 20 10 10" ∷ [])

--     integer :: a(3), b(3), c(3)
--     b = [6, 7, 8]
--     c = [2, 0, 4]
--     !$omp parallel workshare
--     where (c /= 0) a = b / c
--     !$omp end parallel workshare
--     end
unfoldable pub division_only_where_allowed : Example
division_only_where_allowed = example (arrays (codes "a" ∷ codes "b" ∷ codes "c" ∷ []) 3)
    (fill 2 3 (constants (6 ∷ 7 ∷ 8 ∷ [])) 1
    ∷ fill 3 7 (constants (2 ∷ 0 ∷ 4 ∷ [])) 2
    ∷ workshare 4
    (masked 5 (constant 0 ∷ elemental I1 1 (apply I32 2 ∷ binary bin.Ne 13 11 ∷ yields_element 14 ∷ []) ∷ yield 12)
    (assign 5 (elemental I32 1 (apply I32 1 ∷ apply I32 2 ∷ binary bin.Div 16 17 ∷ yields_element 18 ∷ []) ∷ yield 15) (yield 0) ∷ []) ∷ []) ∷ [])
    [] (codes "a(1:3) = 3 0 2" ∷ codes "b(1:3) = 6 7 8" ∷ codes "c(1:3) = 2 0 4" ∷ [])

--     integer :: a(3), b(4)
--     where (a == 0)
--     a = 1
--     b = 2
--     end where
--     end
unfoldable pub assignment_of_another_shape : Example
assignment_of_another_shape = example (arrays (codes "a" ∷ []) 3 ++ arrays (codes "b" ∷ []) 4)
    (masked 2 (constant 0 ∷ elemental I1 1 (apply I32 0 ∷ binary bin.Eq 4 2 ∷ yields_element 5 ∷ []) ∷ yield 3)
    (assign 3 (constant 1 ∷ yield 6) (yield 0)
    ∷ assign 4 (constant 2 ∷ yield 7) (yield 1) ∷ []) ∷ []) [] (codes "fault Shape line 4 element 0" ∷ [])

--     integer :: a(1), b(1)
--     a = 1
--     !$omp parallel workshare
--     where (a > 0)
--     a = -a
--     elsewhere (1/b > 0)
--     end where
--     !$omp end parallel workshare
--     end
unfoldable pub mask_without_active_place : Example
mask_without_active_place = example (arrays (codes "a" ∷ codes "b" ∷ []) 1)
    (assign 2 (constant 1 ∷ yield 2) (yield 0)
    ∷ workshare 3
    (masked_else 4 (constant 0 ∷ elemental I1 1 (apply I32 0 ∷ binary bin.Gt 5 3 ∷ yields_element 6 ∷ []) ∷ yield 4)
    (assign 5 (elemental I32 1 (apply I32 0 ∷ unary un.Neg 8 ∷ yields_element 9 ∷ []) ∷ yield 7) (yield 0) ∷ [])
    (elsewhere 6
    (constant 1 ∷ elemental I32 1 (apply I32 1 ∷ binary bin.Div 10 12 ∷ yields_element 13 ∷ []) ∷ constant 0
    ∷ elemental I1 1 (apply I32 11 ∷ binary bin.Gt 16 14 ∷ yields_element 17 ∷ []) ∷ yield 15)
    [] ∷ []) ∷ []) ∷ []) [] (codes "a(1:1) = -1" ∷ codes "b(1:1) = 0" ∷ [])

--     integer :: a(3), b(2), c(3)
--     where (a > sum(b + c))
--     a = 1
--     end where
--     end
unfoldable pub shape_in_a_sum_of_a_mask : Example
shape_in_a_sum_of_a_mask = example (arrays (codes "a" ∷ []) 3 ++ arrays (codes "b" ∷ []) 2 ++ arrays (codes "c" ∷ []) 3)
    (masked 2
    (elemental I32 1 (apply I32 1 ∷ apply I32 2 ∷ binary bin.Add 4 5 ∷ yields_element 6 ∷ []) ∷ reduce red.Sum 3
    ∷ elemental I1 1 (apply I32 0 ∷ binary bin.Gt 9 7 ∷ yields_element 10 ∷ []) ∷ yield 8)
    (assign 3 (constant 1 ∷ yield 11) (yield 0) ∷ []) ∷ []) [] (codes "fault Shape line 3 element 0" ∷ [])

--     integer :: a(4), b(4)
--     a = [1, 2, 3, 4]
--     where (a > 1)
--     where (a < 4)
--     b = 1
--     elsewhere
--     b = 2
--     end where
--     elsewhere
--     b = 3
--     end where
--     end
unfoldable pub mask_of_masks : Example
mask_of_masks = example (arrays (codes "a" ∷ codes "b" ∷ []) 4)
    (fill 2 2 (constants (1 ∷ 2 ∷ 3 ∷ 4 ∷ [])) 0
    ∷ masked_else 3 (constant 1 ∷ elemental I1 1 (apply I32 0 ∷ binary bin.Gt 9 7 ∷ yields_element 10 ∷ []) ∷ yield 8)
    (masked_else 4 (constant 4 ∷ elemental I1 1 (apply I32 0 ∷ binary bin.Lt 13 11 ∷ yields_element 14 ∷ []) ∷ yield 12)
    (assign 5 (constant 1 ∷ yield 15) (yield 1) ∷ [])
    (otherwise 6 (assign 7 (constant 2 ∷ yield 16) (yield 1) ∷ []) ∷ []) ∷ [])
    (otherwise 9 (assign 10 (constant 3 ∷ yield 17) (yield 1) ∷ []) ∷ []) ∷ []) [] (codes "a(1:4) = 1 2 3 4" ∷ codes "b(1:4) = 3 1 1 2" ∷ [])
