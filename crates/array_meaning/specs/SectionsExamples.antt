-- Examples: Sections, their replacement at once, and vector subscripts. Each stands with its source, the lines of its data and the lines of its report.
use Rattle.std.specs.Prelude.{[], ◌∷◌, Some, None, codes}
use Rattle.ws_base.specs.declared.op.UnOp.TheVariants as un
use Rattle.ws_base.specs.declared.op.BinOp.TheVariants as bin
use Rattle.ws_tree.specs.declared.stmt.Bound.TheVariants as bound
use Rattle.ws_tree.specs.declared.expr.Expr.TheVariants.{Number, Named, Part, Vector, Paren, Unary, Binary}
use Rattle.ws_tree.specs.declared.expr.Sub.TheVariants.{One, Range}
use Rattle.ws_tree.specs.declared.stmt.Body.TheVariants.{Assign, Masked, Shared}
use Rattle.array_meaning.specs.Example.{Example, example, line, integer}

--     integer :: a(5)
--     a = [1, 2, 3, 4, 5]
--     !$omp parallel workshare
--     a(2:5) = a(1:4)
--     !$omp end parallel workshare
--     end
unfoldable pub shift_by_one : Example
shift_by_one = example (integer 1 (codes "a") ((bound.Upper (Number 5)) ∷ []) ∷ [])
    (line 2 (Assign (Named (codes "a")) (Vector ((Number 1) ∷ (Number 2) ∷ (Number 3) ∷ (Number 4) ∷ (Number 5) ∷ []))) ∷ line 3 (Shared (line 4 (Assign (Part (codes "a") ((Range (Some (Number 2)) (Some (Number 5)) None) ∷ [])) (Part (codes "a") ((Range (Some (Number 1)) (Some (Number 4)) None) ∷ []))) ∷ [])) ∷ [])
    [] (codes "a(1:5) = 1 1 2 3 4" ∷ [])

--     integer :: a(5)
--     a = [1, 2, 3, 4, 5]
--     !$omp parallel workshare
--     a = a(5:1:-1)
--     !$omp end parallel workshare
--     end
unfoldable pub reverse : Example
reverse = example (integer 1 (codes "a") ((bound.Upper (Number 5)) ∷ []) ∷ [])
    (line 2 (Assign (Named (codes "a")) (Vector ((Number 1) ∷ (Number 2) ∷ (Number 3) ∷ (Number 4) ∷ (Number 5) ∷ []))) ∷ line 3 (Shared (line 4 (Assign (Named (codes "a")) (Part (codes "a") ((Range (Some (Number 5)) (Some (Number 1)) (Some (Unary un.Minus (Number 1)))) ∷ []))) ∷ [])) ∷ [])
    [] (codes "a(1:5) = 5 4 3 2 1" ∷ [])

--     integer :: a(5)
--     a = [1, 2, 3, 4, 5]
--     !$omp parallel workshare
--     a = a + a(1)
--     !$omp end parallel workshare
--     end
unfoldable pub add_the_first : Example
add_the_first = example (integer 1 (codes "a") ((bound.Upper (Number 5)) ∷ []) ∷ [])
    (line 2 (Assign (Named (codes "a")) (Vector ((Number 1) ∷ (Number 2) ∷ (Number 3) ∷ (Number 4) ∷ (Number 5) ∷ []))) ∷ line 3 (Shared (line 4 (Assign (Named (codes "a")) (Binary bin.Add (Named (codes "a")) (Part (codes "a") ((One (Number 1)) ∷ [])))) ∷ [])) ∷ [])
    [] (codes "a(1:5) = 2 3 4 5 6" ∷ [])

--     integer :: a(10)
--     a = [1,2,3,4,5,6,7,8,9,10]
--     !$omp parallel workshare
--     a(1:9:2) = a(2:10:2)
--     !$omp end parallel workshare
--     end
unfoldable pub odd_places_from_even : Example
odd_places_from_even = example (integer 1 (codes "a") ((bound.Upper (Number 10)) ∷ []) ∷ [])
    (line 2 (Assign (Named (codes "a")) (Vector ((Number 1) ∷ (Number 2) ∷ (Number 3) ∷ (Number 4) ∷ (Number 5) ∷ (Number 6) ∷ (Number 7) ∷ (Number 8) ∷ (Number 9) ∷ (Number 10) ∷ []))) ∷ line 3 (Shared (line 4 (Assign (Part (codes "a") ((Range (Some (Number 1)) (Some (Number 9)) (Some (Number 2))) ∷ [])) (Part (codes "a") ((Range (Some (Number 2)) (Some (Number 10)) (Some (Number 2))) ∷ []))) ∷ [])) ∷ [])
    [] (codes "a(1:10) = 2 2 4 4 6 6 8 8 10 10" ∷ [])

--     integer :: a(3), v(3)
--     a = [10, 20, 30]
--     v = [3, 1, 2]
--     !$omp parallel workshare
--     a = a(v)
--     !$omp end parallel workshare
--     end
unfoldable pub gather : Example
gather = example (integer 1 (codes "a") ((bound.Upper (Number 3)) ∷ []) ∷ integer 1 (codes "v") ((bound.Upper (Number 3)) ∷ []) ∷ [])
    (line 2 (Assign (Named (codes "a")) (Vector ((Number 10) ∷ (Number 20) ∷ (Number 30) ∷ []))) ∷ line 3 (Assign (Named (codes "v")) (Vector ((Number 3) ∷ (Number 1) ∷ (Number 2) ∷ []))) ∷ line 4 (Shared (line 5 (Assign (Named (codes "a")) (Part (codes "a") ((One (Named (codes "v"))) ∷ []))) ∷ [])) ∷ [])
    [] (codes "a(1:3) = 30 10 20" ∷ codes "v(1:3) = 3 1 2" ∷ [])

--     integer :: a(3), b(3), v(3)
--     b = [7, 8, 9]
--     v = [1, 2, 1]
--     !$omp parallel workshare
--     ! scatter
--     a(v) = b
--     !$omp end parallel workshare
--     end
unfoldable pub scatter_with_a_repeat : Example
scatter_with_a_repeat = example (integer 1 (codes "a") ((bound.Upper (Number 3)) ∷ []) ∷ integer 1 (codes "b") ((bound.Upper (Number 3)) ∷ []) ∷ integer 1 (codes "v") ((bound.Upper (Number 3)) ∷ []) ∷ [])
    (line 2 (Assign (Named (codes "b")) (Vector ((Number 7) ∷ (Number 8) ∷ (Number 9) ∷ []))) ∷ line 3 (Assign (Named (codes "v")) (Vector ((Number 1) ∷ (Number 2) ∷ (Number 1) ∷ []))) ∷ line 4 (Shared (line 6 (Assign (Part (codes "a") ((One (Named (codes "v"))) ∷ [])) (Named (codes "b"))) ∷ [])) ∷ [])
    [] (codes "fault ManyOne line 6 element 3" ∷ [])

--     integer :: a(3), b(3)
--     !$omp parallel workshare
--     a = b(1:2)
--     !$omp end parallel workshare
--     end
unfoldable pub sections_of_unequal_shape : Example
sections_of_unequal_shape = example (integer 1 (codes "a") ((bound.Upper (Number 3)) ∷ []) ∷ integer 1 (codes "b") ((bound.Upper (Number 3)) ∷ []) ∷ [])
    (line 2 (Shared (line 3 (Assign (Named (codes "a")) (Part (codes "b") ((Range (Some (Number 1)) (Some (Number 2)) None) ∷ []))) ∷ [])) ∷ [])
    [] (codes "fault Shape line 3 element 0" ∷ [])

--     integer :: a(3), b(3)
--     !$omp parallel workshare
--     a(3:2) = b(9:8)
--     !$omp end parallel workshare
--     end
unfoldable pub empty_section_out_of_bounds : Example
empty_section_out_of_bounds = example (integer 1 (codes "a") ((bound.Upper (Number 3)) ∷ []) ∷ integer 1 (codes "b") ((bound.Upper (Number 3)) ∷ []) ∷ [])
    (line 2 (Shared (line 3 (Assign (Part (codes "a") ((Range (Some (Number 3)) (Some (Number 2)) None) ∷ [])) (Part (codes "b") ((Range (Some (Number 9)) (Some (Number 8)) None) ∷ []))) ∷ [])) ∷ [])
    [] (codes "a(1:3) = 0 0 0" ∷ codes "b(1:3) = 0 0 0" ∷ [])

--     integer :: a(3), b(3), v(3)
--     v = [1, 4, 2]
--     !$omp parallel workshare
--     a = b(v)
--     !$omp end parallel workshare
--     end
unfoldable pub vector_subscript_out_of_bounds : Example
vector_subscript_out_of_bounds = example (integer 1 (codes "a") ((bound.Upper (Number 3)) ∷ []) ∷ integer 1 (codes "b") ((bound.Upper (Number 3)) ∷ []) ∷ integer 1 (codes "v") ((bound.Upper (Number 3)) ∷ []) ∷ [])
    (line 2 (Assign (Named (codes "v")) (Vector ((Number 1) ∷ (Number 4) ∷ (Number 2) ∷ []))) ∷ line 3 (Shared (line 4 (Assign (Named (codes "a")) (Part (codes "b") ((One (Named (codes "v"))) ∷ []))) ∷ [])) ∷ [])
    [] (codes "fault Bounds line 4 element 2" ∷ [])

--     integer :: a(2,2), v(2), w(2)
--     v = 1
--     w = [1, 5]
--     a = a([1, 2], v(w))
--     end
unfoldable pub vector_of_a_vector_out_of_bounds : Example
vector_of_a_vector_out_of_bounds = example (integer 1 (codes "a") ((bound.Upper (Number 2)) ∷ (bound.Upper (Number 2)) ∷ []) ∷ integer 1 (codes "v") ((bound.Upper (Number 2)) ∷ []) ∷ integer 1 (codes "w") ((bound.Upper (Number 2)) ∷ []) ∷ [])
    (line 2 (Assign (Named (codes "v")) (Number 1)) ∷ line 3 (Assign (Named (codes "w")) (Vector ((Number 1) ∷ (Number 5) ∷ []))) ∷ line 4 (Assign (Named (codes "a")) (Part (codes "a") ((One (Vector ((Number 1) ∷ (Number 2) ∷ []))) ∷ (One (Part (codes "v") ((One (Named (codes "w"))) ∷ []))) ∷ []))) ∷ [])
    [] (codes "fault Bounds line 4 element 3" ∷ [])

--     integer :: a(2), v(2), w(2)
--     v = [1, 2]
--     w = [3, 1]
--     where (a > 0) a = a((v(w)))
--     end
unfoldable pub masked_vector_in_parentheses : Example
masked_vector_in_parentheses = example (integer 1 (codes "a") ((bound.Upper (Number 2)) ∷ []) ∷ integer 1 (codes "v") ((bound.Upper (Number 2)) ∷ []) ∷ integer 1 (codes "w") ((bound.Upper (Number 2)) ∷ []) ∷ [])
    (line 2 (Assign (Named (codes "v")) (Vector ((Number 1) ∷ (Number 2) ∷ []))) ∷ line 3 (Assign (Named (codes "w")) (Vector ((Number 3) ∷ (Number 1) ∷ []))) ∷ line 4 (Masked (Binary bin.Gt (Named (codes "a")) (Number 0)) (line 4 (Assign (Named (codes "a")) (Part (codes "a") ((One (Paren (Part (codes "v") ((One (Named (codes "w"))) ∷ [])))) ∷ []))) ∷ []) []) ∷ [])
    [] (codes "a(1:2) = 0 0" ∷ codes "v(1:2) = 1 2" ∷ codes "w(1:2) = 3 1" ∷ [])

--     integer :: a(2), v(2), w(2)
--     v = [1, 2]
--     w = [3, 1]
--     where (a > 0) a = a(v(w) + 0)
--     end
unfoldable pub masked_sum_as_vector : Example
masked_sum_as_vector = example (integer 1 (codes "a") ((bound.Upper (Number 2)) ∷ []) ∷ integer 1 (codes "v") ((bound.Upper (Number 2)) ∷ []) ∷ integer 1 (codes "w") ((bound.Upper (Number 2)) ∷ []) ∷ [])
    (line 2 (Assign (Named (codes "v")) (Vector ((Number 1) ∷ (Number 2) ∷ []))) ∷ line 3 (Assign (Named (codes "w")) (Vector ((Number 3) ∷ (Number 1) ∷ []))) ∷ line 4 (Masked (Binary bin.Gt (Named (codes "a")) (Number 0)) (line 4 (Assign (Named (codes "a")) (Part (codes "a") ((One (Binary bin.Add (Part (codes "v") ((One (Named (codes "w"))) ∷ [])) (Number 0))) ∷ []))) ∷ []) []) ∷ [])
    [] (codes "fault Bounds line 4 element 1" ∷ [])

--     integer :: a(3), v(3)
--     a = [10, 20, 30]
--     v = [3, 1, 2]
--     a = a((v)) + a(+v)
--     end
unfoldable pub vector_in_parentheses : Example
vector_in_parentheses = example (integer 1 (codes "a") ((bound.Upper (Number 3)) ∷ []) ∷ integer 1 (codes "v") ((bound.Upper (Number 3)) ∷ []) ∷ [])
    (line 2 (Assign (Named (codes "a")) (Vector ((Number 10) ∷ (Number 20) ∷ (Number 30) ∷ []))) ∷ line 3 (Assign (Named (codes "v")) (Vector ((Number 3) ∷ (Number 1) ∷ (Number 2) ∷ []))) ∷ line 4 (Assign (Named (codes "a")) (Binary bin.Add (Part (codes "a") ((One (Paren (Named (codes "v")))) ∷ [])) (Part (codes "a") ((One (Unary un.Plus (Named (codes "v")))) ∷ [])))) ∷ [])
    [] (codes "a(1:3) = 60 20 40" ∷ codes "v(1:3) = 3 1 2" ∷ [])

--     integer :: a(2,3), b(3)
--     a(1,:) = [1, 2, 3]
--     a(2,:) = a(1,:) * 10
--     b = a(2,[1, 3, 3])
--     end
unfoldable pub columns_of_a_matrix : Example
columns_of_a_matrix = example (integer 1 (codes "a") ((bound.Upper (Number 2)) ∷ (bound.Upper (Number 3)) ∷ []) ∷ integer 1 (codes "b") ((bound.Upper (Number 3)) ∷ []) ∷ [])
    (line 2 (Assign (Part (codes "a") ((One (Number 1)) ∷ (Range None None None) ∷ [])) (Vector ((Number 1) ∷ (Number 2) ∷ (Number 3) ∷ []))) ∷ line 3 (Assign (Part (codes "a") ((One (Number 2)) ∷ (Range None None None) ∷ [])) (Binary bin.Mul (Part (codes "a") ((One (Number 1)) ∷ (Range None None None) ∷ [])) (Number 10))) ∷ line 4 (Assign (Named (codes "b")) (Part (codes "a") ((One (Number 2)) ∷ (One (Vector ((Number 1) ∷ (Number 3) ∷ (Number 3) ∷ []))) ∷ []))) ∷ [])
    [] (codes "a(1:2,1:3) = 1 10 2 20 3 30" ∷ codes "b(1:3) = 10 30 30" ∷ [])

--     integer :: a(3), n
--     a(1:3:n) = 1
--     end
unfoldable pub zero_stride_of_a_section : Example
zero_stride_of_a_section = example (integer 1 (codes "a") ((bound.Upper (Number 3)) ∷ []) ∷ integer 1 (codes "n") [] ∷ [])
    (line 2 (Assign (Part (codes "a") ((Range (Some (Number 1)) (Some (Number 3)) (Some (Named (codes "n")))) ∷ [])) (Number 1)) ∷ [])
    [] (codes "fault ZeroStride line 2 element 0" ∷ [])

--     integer :: a(3), n
--     n = a(4)
--     end
unfoldable pub element_out_of_bounds : Example
element_out_of_bounds = example (integer 1 (codes "a") ((bound.Upper (Number 3)) ∷ []) ∷ integer 1 (codes "n") [] ∷ [])
    (line 2 (Assign (Named (codes "n")) (Part (codes "a") ((One (Number 4)) ∷ []))) ∷ [])
    [] (codes "fault Bounds line 2 element 0" ∷ [])
