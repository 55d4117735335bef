-- Examples: Arithmetic, the order of operations, and reductions. Each stands with its source, the lines of its data and the lines of its report.
use Rattle.std.specs.Prelude.{true, false, [], ◌∷◌, Some, None, codes}
use Rattle.ws_base.specs.declared.op.UnOp.TheVariants as un
use Rattle.ws_base.specs.declared.op.BinOp.TheVariants as bin
use Rattle.ws_base.specs.declared.op.CallWord.TheVariants as word
use Rattle.ws_tree.specs.declared.stmt.Bound.TheVariants as bound
use Rattle.ws_tree.specs.declared.expr.Expr.TheVariants.{Number, Truth, Named, Part, Call, Vector, Paren, Unary, Binary}
use Rattle.ws_tree.specs.declared.expr.Sub.TheVariants.{One, Range}
use Rattle.ws_tree.specs.declared.stmt.Body.TheVariants.{Assign, Shared}
use Rattle.array_meaning.specs.Example.{Example, example, line, constant, integer, logical, allocatable}

--     integer :: a(3)
--     !$omp parallel workshare
--     a = 7
--     !$omp end parallel workshare
--     end
unfoldable pub whole_array_of_sevens : Example
whole_array_of_sevens = example (integer 1 (codes "a") ((bound.Upper (Number 3)) ∷ []) ∷ [])
    (line 2 (Shared (line 3 (Assign (Named (codes "a")) (Number 7)) ∷ [])) ∷ [])
    [] (codes "a(1:3) = 7 7 7" ∷ [])

--     integer :: a(3), b(3), c(3), d(3)
--     b = [2147483647, 1, 1]
--     c = [1, 1, 0]
--     d = [1, 1, 1]
--     !$omp parallel workshare
--     a = (b/c) + d
--     !$omp end parallel workshare
--     end
unfoldable pub first_operation_that_fails : Example
first_operation_that_fails = example (integer 1 (codes "a") ((bound.Upper (Number 3)) ∷ []) ∷ integer 1 (codes "b") ((bound.Upper (Number 3)) ∷ []) ∷ integer 1 (codes "c") ((bound.Upper (Number 3)) ∷ []) ∷ integer 1 (codes "d") ((bound.Upper (Number 3)) ∷ []) ∷ [])
    (line 2 (Assign (Named (codes "b")) (Vector ((Number 2147483647) ∷ (Number 1) ∷ (Number 1) ∷ []))) ∷ line 3 (Assign (Named (codes "c")) (Vector ((Number 1) ∷ (Number 1) ∷ (Number 0) ∷ []))) ∷ line 4 (Assign (Named (codes "d")) (Vector ((Number 1) ∷ (Number 1) ∷ (Number 1) ∷ []))) ∷ line 5 (Shared (line 6 (Assign (Named (codes "a")) (Binary bin.Add (Paren (Binary bin.Div (Named (codes "b")) (Named (codes "c")))) (Named (codes "d")))) ∷ [])) ∷ [])
    [] (codes "fault DivideByZero line 6 element 3" ∷ [])

--     integer :: n, b(3), c(3), d(3)
--     b = [2147483647, 1, 1]
--     c = [1, 1, 0]
--     d = [1, 1, 1]
--     !$omp parallel workshare
--     n = sum((b/c) + d)
--     !$omp end parallel workshare
--     end
unfoldable pub fault_inside_a_sum : Example
fault_inside_a_sum = example (integer 1 (codes "n") [] ∷ integer 1 (codes "b") ((bound.Upper (Number 3)) ∷ []) ∷ integer 1 (codes "c") ((bound.Upper (Number 3)) ∷ []) ∷ integer 1 (codes "d") ((bound.Upper (Number 3)) ∷ []) ∷ [])
    (line 2 (Assign (Named (codes "b")) (Vector ((Number 2147483647) ∷ (Number 1) ∷ (Number 1) ∷ []))) ∷ line 3 (Assign (Named (codes "c")) (Vector ((Number 1) ∷ (Number 1) ∷ (Number 0) ∷ []))) ∷ line 4 (Assign (Named (codes "d")) (Vector ((Number 1) ∷ (Number 1) ∷ (Number 1) ∷ []))) ∷ line 5 (Shared (line 6 (Assign (Named (codes "n")) (Call word.Sum ((Binary bin.Add (Paren (Binary bin.Div (Named (codes "b")) (Named (codes "c")))) (Named (codes "d"))) ∷ []))) ∷ [])) ∷ [])
    [] (codes "fault DivideByZero line 6 element 3" ∷ [])

--     integer :: m, q, e(3)
--     !$omp parallel workshare
--     m = minval(e(2:1))
--     q = product([65536, 65536, 0])
--     !$omp end parallel workshare
--     end
unfoldable pub minimum_and_product_of_little : Example
minimum_and_product_of_little = example (integer 1 (codes "m") [] ∷ integer 1 (codes "q") [] ∷ integer 1 (codes "e") ((bound.Upper (Number 3)) ∷ []) ∷ [])
    (line 2 (Shared (line 3 (Assign (Named (codes "m")) (Call word.Minval ((Part (codes "e") ((Range (Some (Number 2)) (Some (Number 1)) None) ∷ [])) ∷ []))) ∷ line 4 (Assign (Named (codes "q")) (Call word.Product ((Vector ((Number 65536) ∷ (Number 65536) ∷ (Number 0) ∷ [])) ∷ []))) ∷ [])) ∷ [])
    [] (codes "m = 2147483647" ∷ codes "q = 0" ∷ codes "e(1:3) = 0 0 0" ∷ [])

--     integer :: i, j, k, m
--     i = -7
--     j = 3
--     !$omp parallel workshare
--     k = -j**2 + i/2
--     m = mod(i, j)*10 + modulo(i, j)
--     !$omp end parallel workshare
--     end
unfoldable pub signs_and_powers : Example
signs_and_powers = example (integer 1 (codes "i") [] ∷ integer 1 (codes "j") [] ∷ integer 1 (codes "k") [] ∷ integer 1 (codes "m") [] ∷ [])
    (line 2 (Assign (Named (codes "i")) (Unary un.Minus (Number 7))) ∷ line 3 (Assign (Named (codes "j")) (Number 3)) ∷ line 4 (Shared (line 5 (Assign (Named (codes "k")) (Binary bin.Add (Unary un.Minus (Binary bin.Pow (Named (codes "j")) (Number 2))) (Binary bin.Div (Named (codes "i")) (Number 2)))) ∷ line 6 (Assign (Named (codes "m")) (Binary bin.Add (Binary bin.Mul (Call word.Mod ((Named (codes "i")) ∷ (Named (codes "j")) ∷ [])) (Number 10)) (Call word.Modulo ((Named (codes "i")) ∷ (Named (codes "j")) ∷ [])))) ∷ [])) ∷ [])
    [] (codes "i = -7" ∷ codes "j = 3" ∷ codes "k = -12" ∷ codes "m = -8" ∷ [])

--     integer :: n
--     !$omp parallel workshare
--     n = sum([2147483647, 1, -1])
--     !$omp end parallel workshare
--     end
unfoldable pub exact_sum : Example
exact_sum = example (integer 1 (codes "n") [] ∷ [])
    (line 2 (Shared (line 3 (Assign (Named (codes "n")) (Call word.Sum ((Vector ((Number 2147483647) ∷ (Number 1) ∷ (Unary un.Minus (Number 1)) ∷ [])) ∷ []))) ∷ [])) ∷ [])
    [] (codes "n = 2147483647" ∷ [])

--     integer :: n
--     !$omp parallel workshare
--     n = sum([2147483647, 1])
--     !$omp end parallel workshare
--     end
unfoldable pub sum_out_of_range : Example
sum_out_of_range = example (integer 1 (codes "n") [] ∷ [])
    (line 2 (Shared (line 3 (Assign (Named (codes "n")) (Call word.Sum ((Vector ((Number 2147483647) ∷ (Number 1) ∷ [])) ∷ []))) ∷ [])) ∷ [])
    [] (codes "fault Overflow line 3 element 0" ∷ [])

--     integer :: n, a(3), b(2)
--     !$omp parallel workshare
--     n = sum(a + b)
--     !$omp end parallel workshare
--     end
unfoldable pub sum_of_unequal_shapes : Example
sum_of_unequal_shapes = example (integer 1 (codes "n") [] ∷ integer 1 (codes "a") ((bound.Upper (Number 3)) ∷ []) ∷ integer 1 (codes "b") ((bound.Upper (Number 2)) ∷ []) ∷ [])
    (line 2 (Shared (line 3 (Assign (Named (codes "n")) (Call word.Sum ((Binary bin.Add (Named (codes "a")) (Named (codes "b"))) ∷ []))) ∷ [])) ∷ [])
    [] (codes "fault Shape line 3 element 0" ∷ [])

--     integer :: n, e(0)
--     logical :: t, f
--     n = sum(e) + product(e)*10 + count(e > 0)
--     t = all(e > 0)
--     f = any(e > 0)
--     end
unfoldable pub totals_of_nothing : Example
totals_of_nothing = example (integer 1 (codes "n") [] ∷ integer 1 (codes "e") ((bound.Upper (Number 0)) ∷ []) ∷ logical 2 (codes "t") [] ∷ logical 2 (codes "f") [] ∷ [])
    (line 3 (Assign (Named (codes "n")) (Binary bin.Add (Binary bin.Add (Call word.Sum ((Named (codes "e")) ∷ [])) (Binary bin.Mul (Call word.Product ((Named (codes "e")) ∷ [])) (Number 10))) (Call word.Count ((Binary bin.Gt (Named (codes "e")) (Number 0)) ∷ [])))) ∷ line 4 (Assign (Named (codes "t")) (Call word.All ((Binary bin.Gt (Named (codes "e")) (Number 0)) ∷ []))) ∷ line 5 (Assign (Named (codes "f")) (Call word.Any ((Binary bin.Gt (Named (codes "e")) (Number 0)) ∷ []))) ∷ [])
    [] (codes "n = 10" ∷ codes "e(1:0) =" ∷ codes "t = T" ∷ codes "f = F" ∷ [])

--     logical :: t(2)
--     t = [.true., .false.]
--     end
unfoldable pub truth_values : Example
truth_values = example (logical 1 (codes "t") ((bound.Upper (Number 2)) ∷ []) ∷ [])
    (line 2 (Assign (Named (codes "t")) (Vector ((Truth true) ∷ (Truth false) ∷ []))) ∷ [])
    [] (codes "t(1:2) = T F" ∷ [])

--     integer :: a(3)
--     a = [1, 2, 3]
--     a = merge(a, 10*a, a == 2)
--     end
unfoldable pub merge_of_both : Example
merge_of_both = example (integer 1 (codes "a") ((bound.Upper (Number 3)) ∷ []) ∷ [])
    (line 2 (Assign (Named (codes "a")) (Vector ((Number 1) ∷ (Number 2) ∷ (Number 3) ∷ []))) ∷ line 3 (Assign (Named (codes "a")) (Call word.Merge ((Named (codes "a")) ∷ (Binary bin.Mul (Number 10) (Named (codes "a"))) ∷ (Binary bin.Eq (Named (codes "a")) (Number 2)) ∷ []))) ∷ [])
    [] (codes "a(1:3) = 10 2 30" ∷ [])

--     integer :: n, k
--     n = min(3, 1, 2)*100 + max(3, 1)*10 + abs(-4)
--     k = modulo(-7, 3)*10 + modulo(7, -3)
--     end
unfoldable pub calls_on_numbers : Example
calls_on_numbers = example (integer 1 (codes "n") [] ∷ integer 1 (codes "k") [] ∷ [])
    (line 2 (Assign (Named (codes "n")) (Binary bin.Add (Binary bin.Add (Binary bin.Mul (Call word.Min ((Number 3) ∷ (Number 1) ∷ (Number 2) ∷ [])) (Number 100)) (Binary bin.Mul (Call word.Max ((Number 3) ∷ (Number 1) ∷ [])) (Number 10))) (Call word.Abs ((Unary un.Minus (Number 4)) ∷ [])))) ∷ line 3 (Assign (Named (codes "k")) (Binary bin.Add (Binary bin.Mul (Call word.Modulo ((Unary un.Minus (Number 7)) ∷ (Number 3) ∷ [])) (Number 10)) (Call word.Modulo ((Number 7) ∷ (Unary un.Minus (Number 3)) ∷ [])))) ∷ [])
    [] (codes "n = 134" ∷ codes "k = 18" ∷ [])

--     logical :: t, f
--     t = 1 < 2 .and. .not. 2 >= 3 .eqv. 3 == 3
--     f = 1 /= 1 .or. t .neqv. 2 <= 2
--     end
unfoldable pub operators_on_truth : Example
operators_on_truth = example (logical 1 (codes "t") [] ∷ logical 1 (codes "f") [] ∷ [])
    (line 2 (Assign (Named (codes "t")) (Binary bin.Eqv (Binary bin.And (Binary bin.Lt (Number 1) (Number 2)) (Unary un.Not (Binary bin.Ge (Number 2) (Number 3)))) (Binary bin.Eq (Number 3) (Number 3)))) ∷ line 3 (Assign (Named (codes "f")) (Binary bin.Neqv (Binary bin.Or (Binary bin.Ne (Number 1) (Number 1)) (Named (codes "t"))) (Binary bin.Le (Number 2) (Number 2)))) ∷ [])
    [] (codes "t = T" ∷ codes "f = F" ∷ [])

--     integer :: a(4)
--     a = [2**(-1), (-1)**(-3), 1**(-2), 0**0]
--     end
unfoldable pub powers_below_zero : Example
powers_below_zero = example (integer 1 (codes "a") ((bound.Upper (Number 4)) ∷ []) ∷ [])
    (line 2 (Assign (Named (codes "a")) (Vector ((Binary bin.Pow (Number 2) (Paren (Unary un.Minus (Number 1)))) ∷ (Binary bin.Pow (Paren (Unary un.Minus (Number 1))) (Paren (Unary un.Minus (Number 3)))) ∷ (Binary bin.Pow (Number 1) (Paren (Unary un.Minus (Number 2)))) ∷ (Binary bin.Pow (Number 0) (Number 0)) ∷ []))) ∷ [])
    [] (codes "a(1:4) = 0 -1 1 1" ∷ [])

--     integer :: n
--     n = n**(-1)
--     end
unfoldable pub power_of_zero_below_zero : Example
power_of_zero_below_zero = example (integer 1 (codes "n") [] ∷ [])
    (line 2 (Assign (Named (codes "n")) (Binary bin.Pow (Named (codes "n")) (Paren (Unary un.Minus (Number 1))))) ∷ [])
    [] (codes "fault DivideByZero line 2 element 0" ∷ [])

--     integer :: n
--     n = 2**31
--     end
unfoldable pub power_out_of_range : Example
power_out_of_range = example (integer 1 (codes "n") [] ∷ [])
    (line 2 (Assign (Named (codes "n")) (Binary bin.Pow (Number 2) (Number 31))) ∷ [])
    [] (codes "fault Overflow line 2 element 0" ∷ [])

--     integer :: n, a(3)
--     logical :: t, f
--     a = [4, -2, 9]
--     n = minval(a)*1000 + maxval(a)*100 + count(a > 0)*10 + sum(a)
--     t = any(a == 9)
--     f = all(a > 0)
--     end
unfoldable pub totals_of_an_array : Example
totals_of_an_array = example (integer 1 (codes "n") [] ∷ integer 1 (codes "a") ((bound.Upper (Number 3)) ∷ []) ∷ logical 2 (codes "t") [] ∷ logical 2 (codes "f") [] ∷ [])
    (line 3 (Assign (Named (codes "a")) (Vector ((Number 4) ∷ (Unary un.Minus (Number 2)) ∷ (Number 9) ∷ []))) ∷ line 4 (Assign (Named (codes "n")) (Binary bin.Add (Binary bin.Add (Binary bin.Add (Binary bin.Mul (Call word.Minval ((Named (codes "a")) ∷ [])) (Number 1000)) (Binary bin.Mul (Call word.Maxval ((Named (codes "a")) ∷ [])) (Number 100))) (Binary bin.Mul (Call word.Count ((Binary bin.Gt (Named (codes "a")) (Number 0)) ∷ [])) (Number 10))) (Call word.Sum ((Named (codes "a")) ∷ [])))) ∷ line 5 (Assign (Named (codes "t")) (Call word.Any ((Binary bin.Eq (Named (codes "a")) (Number 9)) ∷ []))) ∷ line 6 (Assign (Named (codes "f")) (Call word.All ((Binary bin.Gt (Named (codes "a")) (Number 0)) ∷ []))) ∷ [])
    [] (codes "n = -1069" ∷ codes "a(1:3) = 4 -2 9" ∷ codes "t = T" ∷ codes "f = F" ∷ [])

--     integer :: n, e(0)
--     n = maxval(e)
--     end
unfoldable pub greatest_of_nothing : Example
greatest_of_nothing = example (integer 1 (codes "n") [] ∷ integer 1 (codes "e") ((bound.Upper (Number 0)) ∷ []) ∷ [])
    (line 2 (Assign (Named (codes "n")) (Call word.Maxval ((Named (codes "e")) ∷ []))) ∷ [])
    [] (codes "n = -2147483648" ∷ codes "e(1:0) =" ∷ [])

--     integer, parameter :: n = 2, m = n*2 - 1
--     integer :: a(n:m)
--     a = m
--     end
unfoldable pub named_constants : Example
named_constants = example (constant 1 (codes "n") (Number 2) ∷ constant 1 (codes "m") (Binary bin.Sub (Binary bin.Mul (Named (codes "n")) (Number 2)) (Number 1)) ∷ integer 2 (codes "a") ((bound.Both (Named (codes "n")) (Named (codes "m"))) ∷ []) ∷ [])
    (line 3 (Assign (Named (codes "a")) (Named (codes "m"))) ∷ [])
    [] (codes "a(2:3) = 3 3" ∷ [])

--     integer :: a(2)
--     a = [1, 2]
--     a(1) = a(2); a(2) = 9
--     end
unfoldable pub two_statements_on_a_line : Example
two_statements_on_a_line = example (integer 1 (codes "a") ((bound.Upper (Number 2)) ∷ []) ∷ [])
    (line 2 (Assign (Named (codes "a")) (Vector ((Number 1) ∷ (Number 2) ∷ []))) ∷ line 3 (Assign (Part (codes "a") ((One (Number 1)) ∷ [])) (Part (codes "a") ((One (Number 2)) ∷ []))) ∷ line 3 (Assign (Part (codes "a") ((One (Number 2)) ∷ [])) (Number 9)) ∷ [])
    [] (codes "a(1:2) = 2 9" ∷ [])

--     integer :: n, r(0:2147483647, 0)
--     n = size(r, 1)
--     end
unfoldable pub extent_out_of_range : Example
extent_out_of_range = example (integer 1 (codes "n") [] ∷ integer 1 (codes "r") ((bound.Both (Number 0) (Number 2147483647)) ∷ (bound.Upper (Number 0)) ∷ []) ∷ [])
    (line 2 (Assign (Named (codes "n")) (Call word.Size ((Named (codes "r")) ∷ (Number 1) ∷ []))) ∷ [])
    [] (codes "fault Overflow line 2 element 0" ∷ [])

--     integer :: n, r(0:2147483647, 0)
--     n = sum(r(:,:)) + 1
--     end
unfoldable pub sum_over_a_huge_extent : Example
sum_over_a_huge_extent = example (integer 1 (codes "n") [] ∷ integer 1 (codes "r") ((bound.Both (Number 0) (Number 2147483647)) ∷ (bound.Upper (Number 0)) ∷ []) ∷ [])
    (line 2 (Assign (Named (codes "n")) (Binary bin.Add (Call word.Sum ((Part (codes "r") ((Range None None None) ∷ (Range None None None) ∷ [])) ∷ [])) (Number 1))) ∷ [])
    [] (codes "n = 1" ∷ codes "r(0:2147483647,1:0) =" ∷ [])

--     integer :: n, r(0:2147483647, 0)
--     integer, allocatable :: p(:,:)
--     p = r(:,:)
--     n = sum(p)
--     n = sum(p(:,:))
--     end
unfoldable pub omitted_bound_out_of_range : Example
omitted_bound_out_of_range = example (integer 1 (codes "n") [] ∷ integer 1 (codes "r") ((bound.Both (Number 0) (Number 2147483647)) ∷ (bound.Upper (Number 0)) ∷ []) ∷ allocatable 2 (codes "p") (bound.Deferred ∷ bound.Deferred ∷ []) ∷ [])
    (line 3 (Assign (Named (codes "p")) (Part (codes "r") ((Range None None None) ∷ (Range None None None) ∷ []))) ∷ line 4 (Assign (Named (codes "n")) (Call word.Sum ((Named (codes "p")) ∷ []))) ∷ line 5 (Assign (Named (codes "n")) (Call word.Sum ((Part (codes "p") ((Range None None None) ∷ (Range None None None) ∷ [])) ∷ []))) ∷ [])
    [] (codes "fault Overflow line 5 element 0" ∷ [])

--     integer :: n, r(0:2147483647, 0)
--     integer, allocatable :: p(:,:)
--     p = r(:,:)
--     n = ubound(p, 1)
--     end
unfoldable pub bound_out_of_range : Example
bound_out_of_range = example (integer 1 (codes "n") [] ∷ integer 1 (codes "r") ((bound.Both (Number 0) (Number 2147483647)) ∷ (bound.Upper (Number 0)) ∷ []) ∷ allocatable 2 (codes "p") (bound.Deferred ∷ bound.Deferred ∷ []) ∷ [])
    (line 3 (Assign (Named (codes "p")) (Part (codes "r") ((Range None None None) ∷ (Range None None None) ∷ []))) ∷ line 4 (Assign (Named (codes "n")) (Call word.Ubound ((Named (codes "p")) ∷ (Number 1) ∷ []))) ∷ [])
    [] (codes "fault Overflow line 4 element 0" ∷ [])
