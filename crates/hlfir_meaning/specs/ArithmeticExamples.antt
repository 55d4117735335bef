-- Examples: the order of operations, reductions and inquiries. Each stands with its source; its module, the lines of its data and those of its report follow.
use Rattle.std.specs.Prelude.{false, true, List, [], ◌∷◌, ◌++◌, codes, pos}
use Rattle.hlfir_ops.specs.declared.kinds.Elem.TheVariants.{I32, I1}
use Rattle.hlfir_ops.specs.declared.what.SubKind.TheVariants as sub
use Rattle.hlfir_ops.specs.declared.what.ValueUnary.TheVariants as un
use Rattle.hlfir_ops.specs.declared.what.ValueBinary.TheVariants as bin
use Rattle.hlfir_ops.specs.declared.what.BoundWord.TheVariants as word
use Rattle.hlfir_ops.specs.declared.what.Reduction.TheVariants as red
use Rattle.hlfir_ops.specs.declared.op.Op.{Op}
use Rattle.hlfir_meaning.specs.Example.{Example, example, declared, allocatable, upto, constant, minus, truth_constant, unary, binary, select, load, box, bound, size, allocated, element, section, vector, apply, elemental, reduce, yields_element, assign, workshare, allocate, arrays, scalars, constants, yield, yield_all, fill}

-- these variables, of which the last three are b, c and d; the first one becomes what these ops make of `(b/c) + d`, value 20
abbrev third_division_fails : List Op → List Op → Example
third_division_fails variables last = example variables
    (fill 2 4 (constants (2147483647 ∷ 1 ∷ 1 ∷ [])) 1
    ∷ fill 3 8 (constants (1 ∷ 1 ∷ 0 ∷ [])) 2
    ∷ fill 4 12 (constants (1 ∷ 1 ∷ 1 ∷ [])) 3
    ∷ workshare 5
    (assign 6
    (elemental I32 1 (apply I32 1 ∷ apply I32 2 ∷ binary bin.Div 17 18 ∷ yields_element 19 ∷ [])
    ∷ elemental I32 1 (apply I32 16 ∷ apply I32 3 ∷ binary bin.Add 21 22 ∷ yields_element 23 ∷ []) ∷ last)
    (yield 0) ∷ []) ∷ []) [] (codes "fault DivideByZero line 6 element 3" ∷ [])

--     integer :: a(3), b(3), c(3), d(3)
--     b = [2147483647, 1, 1]
--     c = [1, 1, 0]
--     d = [1, 1, 1]
--     !$omp parallel workshare
--     a = (b/c) + d
--     !$omp end parallel workshare
--     end
unfoldable pub first_operation_that_fails : Example
first_operation_that_fails = third_division_fails (arrays (codes "a" ∷ codes "b" ∷ codes "c" ∷ codes "d" ∷ []) 3) (yield 20)

--     integer :: m, q, e(3)
--     !$omp parallel workshare
--     m = minval(e(2:1))
--     q = product([65536, 65536, 0])
--     !$omp end parallel workshare
--     end
unfoldable pub minimum_and_product_of_little : Example
minimum_and_product_of_little = example (scalars (codes "m" ∷ codes "q" ∷ []) ++ arrays (codes "e" ∷ []) 3)
    (workshare 2
    (assign 3 (constant 2 ∷ constant 1 ∷ constant 1 ∷ section I32 1 2 (sub.Range ∷ []) (3 ∷ 4 ∷ 5 ∷ []) ∷ reduce red.Minval 6 ∷ yield 7) (yield 0)
    ∷ assign 4 (constant 65536 ∷ constant 65536 ∷ constant 0 ∷ vector I32 (8 ∷ 9 ∷ 10 ∷ []) ∷ reduce red.Product 11 ∷ yield 12) (yield 1) ∷ []) ∷ [])
    [] (codes "m = 2147483647" ∷ codes "q = 0" ∷ codes "e(1:3) = 0 0 0" ∷ [])

--     integer :: n
--     !$omp parallel workshare
--     n = sum([2147483647, 1, -1])
--     !$omp end parallel workshare
--     end
unfoldable pub exact_sum : Example
exact_sum = example (scalars (codes "n" ∷ []))
    (workshare 2 (assign 3 (constant 2147483647 ∷ constant 1 ∷ minus 1 ∷ vector I32 (1 ∷ 2 ∷ 3 ∷ []) ∷ reduce red.Sum 4 ∷ yield 5) (yield 0) ∷ []) ∷ [])
    [] (codes "n = 2147483647" ∷ [])

--     integer :: n
--     !$omp parallel workshare
--     n = sum([2147483647, 1])
--     !$omp end parallel workshare
--     end
unfoldable pub sum_out_of_range : Example
sum_out_of_range = example (scalars (codes "n" ∷ []))
    (workshare 2 (assign 3 (constant 2147483647 ∷ constant 1 ∷ vector I32 (1 ∷ 2 ∷ []) ∷ reduce red.Sum 3 ∷ yield 4) (yield 0) ∷ []) ∷ [])
    [] (codes "fault Overflow line 3 element 0" ∷ [])

--     integer :: n, b(3), c(3), d(3)
--     b = [2147483647, 1, 1]
--     c = [1, 1, 0]
--     d = [1, 1, 1]
--     !$omp parallel workshare
--     n = sum((b/c) + d)
--     !$omp end parallel workshare
--     end
unfoldable pub fault_inside_a_sum : Example
fault_inside_a_sum = third_division_fails (scalars (codes "n" ∷ []) ++ arrays (codes "b" ∷ codes "c" ∷ codes "d" ∷ []) 3) (reduce red.Sum 20 ∷ yield 24)

--     integer :: n, a(3), b(2)
--     !$omp parallel workshare
--     n = sum(a + b)
--     !$omp end parallel workshare
--     end
unfoldable pub sum_of_unequal_shapes : Example
sum_of_unequal_shapes = example (scalars (codes "n" ∷ []) ++ arrays (codes "a" ∷ []) 3 ++ arrays (codes "b" ∷ []) 2)
    (workshare 2
    (assign 3 (elemental I32 1 (apply I32 1 ∷ apply I32 2 ∷ binary bin.Add 4 5 ∷ yields_element 6 ∷ []) ∷ reduce red.Sum 3 ∷ yield 7) (yield 0) ∷ []) ∷ [])
    [] (codes "fault Shape line 3 element 0" ∷ [])

--     integer :: a(2), b(2), c(2)
--     c = [0, 1]
--     a = (b/c) + sum([2147483647, 1]) * b
--     end
unfoldable pub sum_before_the_others : Example
sum_before_the_others = example (arrays (codes "a" ∷ codes "b" ∷ codes "c" ∷ []) 2)
    (fill 2 3 (constants (0 ∷ 1 ∷ [])) 2
    ∷ assign 3
    (elemental I32 1 (apply I32 1 ∷ apply I32 2 ∷ binary bin.Div 7 8 ∷ yields_element 9 ∷ []) ∷ constant 2147483647 ∷ constant 1
    ∷ vector I32 (10 ∷ 11 ∷ []) ∷ reduce red.Sum 12 ∷ elemental I32 1 (apply I32 1 ∷ binary bin.Mul 13 15 ∷ yields_element 16 ∷ [])
    ∷ elemental I32 1 (apply I32 6 ∷ apply I32 14 ∷ binary bin.Add 18 19 ∷ yields_element 20 ∷ []) ∷ yield 17)
    (yield 0) ∷ []) [] (codes "fault Overflow line 3 element 0" ∷ [])

--     integer :: i, j, a(3), b(3)
--     logical :: t(3)
--     i = -7
--     a = [5, -2, 9]
--     b = merge(min(a, 4, i + 9), mod(abs(a), 3), a > 0)
--     j = modulo(i, 3) + i**2 - size(b, 1)
--     t = .not. (a > 0 .eqv. b > 0)
--     end
unfoldable pub calls_on_arrays : Example
calls_on_arrays = example (scalars (codes "i" ∷ codes "j" ∷ []) ++ arrays (codes "a" ∷ codes "b" ∷ []) 3 ++ (declared (codes "t") I1 (upto 3 ∷ []) ∷ []))
    (assign 3 (minus 7 ∷ yield 5) (yield 0)
    ∷ fill 4 6 (constant 5 ∷ minus 2 ∷ constant 9 ∷ []) 2
    ∷ assign 5
    (constant 4 ∷ elemental I32 1 (apply I32 2 ∷ binary bin.Min 12 10 ∷ yields_element 13 ∷ []) ∷ load I32 0 ∷ constant 9 ∷ binary bin.Add 14 15
    ∷ elemental I32 1 (apply I32 11 ∷ binary bin.Min 18 16 ∷ yields_element 19 ∷ [])
    ∷ elemental I32 1 (apply I32 2 ∷ unary un.Abs 21 ∷ yields_element 22 ∷ []) ∷ constant 3
    ∷ elemental I32 1 (apply I32 20 ∷ binary bin.Mod 25 23 ∷ yields_element 26 ∷ []) ∷ constant 0
    ∷ elemental I1 1 (apply I32 2 ∷ binary bin.Gt 29 27 ∷ yields_element 30 ∷ [])
    ∷ elemental I32 1 (apply I32 17 ∷ apply I32 24 ∷ apply I1 28 ∷ select I32 34 32 33 ∷ yields_element 35 ∷ []) ∷ yield 31)
    (yield 3)
    ∷ assign 6
    (load I32 0 ∷ constant 3 ∷ binary bin.Modulo 36 37 ∷ load I32 0 ∷ constant 2 ∷ binary bin.Pow 39 40 ∷ binary bin.Add 38 41 ∷ bound word.Extent 3 1
    ∷ binary bin.Sub 42 43 ∷ yield 44)
    (yield 1)
    ∷ assign 7
    (constant 0 ∷ elemental I1 1 (apply I32 2 ∷ binary bin.Gt 47 45 ∷ yields_element 48 ∷ []) ∷ constant 0
    ∷ elemental I1 1 (apply I32 3 ∷ binary bin.Gt 51 49 ∷ yields_element 52 ∷ [])
    ∷ elemental I1 1 (apply I1 46 ∷ apply I1 50 ∷ binary bin.Eqv 54 55 ∷ yields_element 56 ∷ [])
    ∷ elemental I1 1 (apply I1 53 ∷ unary un.Not 58 ∷ yields_element 59 ∷ []) ∷ yield 57)
    (yield 4) ∷ []) [] (codes "i = -7" ∷ codes "j = 48" ∷ codes "a(1:3) = 5 -2 9" ∷ codes "b(1:3) = 2 2 2" ∷ codes "t(1:3) = F T F" ∷ [])

--     integer :: n
--     integer, allocatable :: p(:)
--     logical :: t(3)
--     t = [allocated(p), .true., .false.]
--     allocate (p(-1:3))
--     n = size(p) + 10*ubound(p, 1)
--     t(3) = allocated(p)
--     end
unfoldable pub inquiries : Example
inquiries = example (scalars (codes "n" ∷ []) ++ (allocatable (codes "p") I32 1 ∷ []) ++ (declared (codes "t") I1 (upto 3 ∷ []) ∷ []))
    (assign 4 (allocated 1 ∷ truth_constant true ∷ truth_constant false ∷ vector I1 (3 ∷ 4 ∷ 5 ∷ []) ∷ yield 6) (yield 2)
    ∷ allocate 5 false 1 (yield_all 7 (minus 1 ∷ constant 3 ∷ []))
    ∷ assign 6 (box I32 1 1 ∷ size 9 ∷ constant 10 ∷ box I32 1 1 ∷ bound word.Ubound 12 1 ∷ binary bin.Mul 11 13 ∷ binary bin.Add 10 14 ∷ yield 15) (yield 0)
    ∷ assign 7 (allocated 1 ∷ yield 16) (constant 3 ∷ element I1 2 (17 ∷ []) ∷ yield 18) ∷ [])
    [] (codes "n = 35" ∷ codes "p(-1:3) = 0 0 0 0 0" ∷ codes "t(1:3) = F T T" ∷ [])

--     integer :: n, r(0:2147483647, 0)
--     n = size(r, 1)
--     end
unfoldable pub bound_out_of_range : Example
bound_out_of_range = example (scalars (codes "n" ∷ []) ++ (declared (codes "r") I32 ((record { lower = pos 0; extent = 2147483648 }) ∷ upto 0 ∷ []) ∷ []))
    (assign 2 (bound word.Extent 1 1 ∷ yield 2) (yield 0) ∷ []) [] (codes "fault Overflow line 2 element 0" ∷ [])
