-- Examples: sections, their replacement at once, and vector subscripts. Each stands with its source; its module, the lines of its data and those of its report follow.
use Rattle.std.specs.Prelude.{[], ◌∷◌, ◌++◌, codes, pos}
use Rattle.hlfir_ops.specs.declared.kinds.Elem.TheVariants.{I32, I1}
use Rattle.hlfir_ops.specs.declared.what.SubKind.TheVariants as sub
use Rattle.hlfir_ops.specs.declared.what.ValueBinary.TheVariants as bin
use Rattle.hlfir_ops.specs.declared.what.BoundWord.TheVariants as word
use Rattle.hlfir_meaning.specs.Example.{Example, example, declared, upto, constant, binary, load, bound, element, section, vector, copy, apply, elemental, yields_element, assign, masked, workshare, arrays, scalars, constants, yield, part, fill}

--     integer :: a(5)
--     a = [1, 2, 3, 4, 5]
--     !$omp parallel workshare
--     a(2:5) = a(1:4)
--     !$omp end parallel workshare
--     end
--
--     module main
--     %0 = hlfir.declare "a" : ref<1:5xi32>
--     hlfir.region_assign @2 {
--       %1 = arith.constant 1 : i32
--       %2 = arith.constant 2 : i32
--       %3 = arith.constant 3 : i32
--       %4 = arith.constant 4 : i32
--       %5 = arith.constant 5 : i32
--       %6 = hlfir.vector %1 %2 %3 %4 %5 : expr<1xi32>
--       hlfir.yield %6
--     } to {
--       hlfir.yield %0
--     }
--     omp.workshare @3 {
--       hlfir.region_assign @4 {
--         %7 = arith.constant 1 : i32
--         %8 = arith.constant 4 : i32
--         %9 = arith.constant 1 : i32
--         %10 = hlfir.designate %0 (%7:%8:%9) : sec<1xi32>
--         hlfir.yield %10
--       } to {
--         %11 = arith.constant 2 : i32
--         %12 = arith.constant 5 : i32
--         %13 = arith.constant 1 : i32
--         %14 = hlfir.designate %0 (%11:%12:%13) : sec<1xi32>
--         hlfir.yield %14
--       }
--     }
unfoldable pub shift_by_one : Example
shift_by_one = example (arrays (codes "a" ∷ []) 5)
    (fill 2 1 (constants (1 ∷ 2 ∷ 3 ∷ 4 ∷ 5 ∷ [])) 0
    ∷ workshare 3 (assign 4 (part 0 7 (constants (1 ∷ 4 ∷ 1 ∷ []))) (part 0 11 (constants (2 ∷ 5 ∷ 1 ∷ []))) ∷ []) ∷ []) [] (codes "a(1:5) = 1 1 2 3 4" ∷ [])

--     integer :: a(5)
--     a = [1, 2, 3, 4, 5]
--     !$omp parallel workshare
--     a = a + a(1)
--     !$omp end parallel workshare
--     end
unfoldable pub add_the_first : Example
add_the_first = example (arrays (codes "a" ∷ []) 5)
    (fill 2 1 (constants (1 ∷ 2 ∷ 3 ∷ 4 ∷ 5 ∷ [])) 0
    ∷ workshare 3
    (assign 4 (constant 1 ∷ element I32 0 (7 ∷ []) ∷ load I32 8 ∷ elemental I32 1 (apply I32 0 ∷ binary bin.Add 11 9 ∷ yields_element 12 ∷ []) ∷ yield 10)
    (yield 0) ∷ []) ∷ []) [] (codes "a(1:5) = 2 3 4 5 6" ∷ [])

--     integer :: a(10)
--     a = [1,2,3,4,5,6,7,8,9,10]
--     !$omp parallel workshare
--     a(1:9:2) = a(2:10:2)
--     !$omp end parallel workshare
--     end
unfoldable pub odd_places_from_even : Example
odd_places_from_even = example (arrays (codes "a" ∷ []) 10)
    (fill 2 1 (constants (1 ∷ 2 ∷ 3 ∷ 4 ∷ 5 ∷ 6 ∷ 7 ∷ 8 ∷ 9 ∷ 10 ∷ [])) 0
    ∷ workshare 3 (assign 4 (part 0 12 (constants (2 ∷ 10 ∷ 2 ∷ []))) (part 0 16 (constants (1 ∷ 9 ∷ 2 ∷ []))) ∷ []) ∷ [])
    [] (codes "a(1:10) = 2 2 4 4 6 6 8 8 10 10" ∷ [])

--     integer :: a(3), v(3)
--     a = [10, 20, 30]
--     v = [3, 1, 2]
--     !$omp parallel workshare
--     a = a(v)
--     !$omp end parallel workshare
--     end
unfoldable pub gather : Example
gather = example (arrays (codes "a" ∷ codes "v" ∷ []) 3)
    (fill 2 2 (constants (10 ∷ 20 ∷ 30 ∷ [])) 0
    ∷ fill 3 6 (constants (3 ∷ 1 ∷ 2 ∷ [])) 1
    ∷ workshare 4 (assign 5 (section I32 1 0 (sub.Vector ∷ []) (1 ∷ []) ∷ yield 10) (yield 0) ∷ []) ∷ [])
    [] (codes "a(1:3) = 30 10 20" ∷ codes "v(1:3) = 3 1 2" ∷ [])

--     integer :: a(3), b(3), v(3)
--     b = [7, 8, 9]
--     v = [1, 2, 1]
--     !$omp parallel workshare
--     ! scatter
--     a(v) = b
--     !$omp end parallel workshare
--     end
unfoldable pub scatter_with_a_repeat : Example
scatter_with_a_repeat = example (arrays (codes "a" ∷ codes "b" ∷ codes "v" ∷ []) 3)
    (fill 2 3 (constants (7 ∷ 8 ∷ 9 ∷ [])) 1
    ∷ fill 3 7 (constants (1 ∷ 2 ∷ 1 ∷ [])) 2
    ∷ workshare 4 (assign 6 (yield 1) (section I32 1 0 (sub.Vector ∷ []) (2 ∷ []) ∷ yield 11) ∷ []) ∷ []) [] (codes "fault ManyOne line 6 element 3" ∷ [])

--     integer :: a(3), b(3)
--     !$omp parallel workshare
--     a = b(1:2)
--     !$omp end parallel workshare
--     end
unfoldable pub sections_of_unequal_shape : Example
sections_of_unequal_shape = example (arrays (codes "a" ∷ codes "b" ∷ []) 3)
    (workshare 2 (assign 3 (part 1 2 (constants (1 ∷ 2 ∷ 1 ∷ []))) (yield 0) ∷ []) ∷ []) [] (codes "fault Shape line 3 element 0" ∷ [])

--     integer :: a(3), b(3), v(3)
--     v = [1, 4, 2]
--     !$omp parallel workshare
--     a = b(v)
--     !$omp end parallel workshare
--     end
unfoldable pub vector_subscript_out_of_bounds : Example
vector_subscript_out_of_bounds = example (arrays (codes "a" ∷ codes "b" ∷ codes "v" ∷ []) 3)
    (fill 2 3 (constants (1 ∷ 4 ∷ 2 ∷ [])) 2
    ∷ workshare 3 (assign 4 (section I32 1 1 (sub.Vector ∷ []) (2 ∷ []) ∷ yield 7) (yield 0) ∷ []) ∷ []) [] (codes "fault Bounds line 4 element 2" ∷ [])

--     integer :: a(2,2), v(2), w(2)
--     v = 1
--     w = [1, 5]
--     a = a([1, 2], v(w))
--     end
unfoldable pub vector_of_a_vector_out_of_bounds : Example
vector_of_a_vector_out_of_bounds = example ((declared (codes "a") I32 (upto 2 ∷ upto 2 ∷ []) ∷ []) ++ arrays (codes "v" ∷ codes "w" ∷ []) 2)
    (assign 2 (constant 1 ∷ yield 3) (yield 1)
    ∷ fill 3 4 (constants (1 ∷ 5 ∷ [])) 2
    ∷ assign 4
    (constant 1 ∷ constant 2 ∷ vector I32 (7 ∷ 8 ∷ []) ∷ section I32 1 1 (sub.Vector ∷ []) (2 ∷ [])
    ∷ section I32 2 0 (sub.Vector ∷ sub.Vector ∷ []) (9 ∷ 10 ∷ []) ∷ yield 11)
    (yield 0) ∷ []) [] (codes "fault Bounds line 4 element 3" ∷ [])

--     integer :: a(2), v(2), w(2)
--     v = [1, 2]
--     w = [3, 1]
--     where (a > 0) a = a((v(w)))
--     end
unfoldable pub masked_vector_in_parentheses : Example
masked_vector_in_parentheses = example (arrays (codes "a" ∷ codes "v" ∷ codes "w" ∷ []) 2)
    (fill 2 3 (constants (1 ∷ 2 ∷ [])) 1
    ∷ fill 3 6 (constants (3 ∷ 1 ∷ [])) 2
    ∷ masked 4 (constant 0 ∷ elemental I1 1 (apply I32 0 ∷ binary bin.Gt 11 9 ∷ yields_element 12 ∷ []) ∷ yield 10)
    (assign 4 (section I32 1 1 (sub.Vector ∷ []) (2 ∷ []) ∷ section I32 1 0 (sub.Vector ∷ []) (13 ∷ []) ∷ yield 14) (yield 0) ∷ []) ∷ [])
    [] (codes "a(1:2) = 0 0" ∷ codes "v(1:2) = 1 2" ∷ codes "w(1:2) = 3 1" ∷ [])

--     integer :: n, b(3,3), a(2), v(2)
--     v = 2147483647
--     a = b(v + 1, 1/n)
--     end
unfoldable pub whole_subscript_before_the_next : Example
whole_subscript_before_the_next = example (scalars (codes "n" ∷ []) ++ (declared (codes "b") I32 (upto 3 ∷ upto 3 ∷ []) ∷ []) ++ arrays (codes "a" ∷ codes "v" ∷ []) 2)
    (assign 2 (constant 2147483647 ∷ yield 4) (yield 3)
    ∷ assign 3
    (constant 1 ∷ elemental I32 1 (apply I32 3 ∷ binary bin.Add 7 5 ∷ yields_element 8 ∷ []) ∷ constant 1 ∷ load I32 0 ∷ binary bin.Div 9 10
    ∷ section I32 1 1 (sub.Vector ∷ sub.One ∷ []) (6 ∷ 11 ∷ []) ∷ yield 12)
    (yield 2) ∷ []) [] (codes "fault Overflow line 3 element 1" ∷ [])

--     integer :: a(3), v(2)
--     a = [10, 20, 30]
--     v = [1, 2]
--     a(v + 1) = a((v))
--     end
unfoldable pub subscripts_from_an_expression : Example
subscripts_from_an_expression = example (arrays (codes "a" ∷ []) 3 ++ arrays (codes "v" ∷ []) 2)
    (fill 2 2 (constants (10 ∷ 20 ∷ 30 ∷ [])) 0
    ∷ fill 3 6 (constants (1 ∷ 2 ∷ [])) 1
    ∷ assign 4 (copy I32 1 1 ∷ section I32 1 0 (sub.Vector ∷ []) (9 ∷ []) ∷ yield 10)
    (constant 1 ∷ elemental I32 1 (apply I32 1 ∷ binary bin.Add 13 11 ∷ yields_element 14 ∷ []) ∷ section I32 1 0 (sub.Vector ∷ []) (12 ∷ []) ∷ yield 15) ∷ [])
    [] (codes "a(1:3) = 10 10 20" ∷ codes "v(1:2) = 1 2" ∷ [])

--     integer :: a(0:3), e(2,2)
--     a = [1, 2, 3, 4]
--     a(:1) = a(2:)
--     e(:, 2) = a(1:2)
--     end
unfoldable pub omitted_bounds : Example
omitted_bounds = example ((declared (codes "a") I32 ((record { lower = pos 0; extent = 4 }) ∷ []) ∷ []) ++ (declared (codes "e") I32 (upto 2 ∷ upto 2 ∷ []) ∷ []))
    (fill 2 2 (constants (1 ∷ 2 ∷ 3 ∷ 4 ∷ [])) 0
    ∷ assign 3 (part 0 7 (constant 2 ∷ bound word.Upper 0 1 ∷ constant 1 ∷ [])) (part 0 11 (bound word.Lower 0 1 ∷ constant 1 ∷ constant 1 ∷ []))
    ∷ assign 4 (part 0 15 (constants (1 ∷ 2 ∷ 1 ∷ [])))
    (bound word.Lower 1 1 ∷ bound word.Upper 1 1 ∷ constant 1 ∷ constant 2 ∷ section I32 1 1 (sub.Range ∷ sub.One ∷ []) (19 ∷ 20 ∷ 21 ∷ 22 ∷ []) ∷ yield 23) ∷ [])
    [] (codes "a(0:3) = 3 4 3 4" ∷ codes "e(1:2,1:2) = 0 0 4 3" ∷ [])

--     integer :: n, a(3)
--     a = a(1:3:n)
--     end
unfoldable pub zero_stride_of_a_section : Example
zero_stride_of_a_section = example (scalars (codes "n" ∷ []) ++ arrays (codes "a" ∷ []) 3)
    (assign 2 (part 1 2 (constant 1 ∷ constant 3 ∷ load I32 0 ∷ [])) (yield 1) ∷ []) [] (codes "fault ZeroStride line 2 element 0" ∷ [])
