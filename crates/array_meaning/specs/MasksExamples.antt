-- Examples: WHERE. Each stands with its source, the lines of its data and the lines of its report.
use Rattle.std.specs.Prelude.{[], ◌∷◌, Some, None, codes}
use Rattle.ws_base.specs.declared.op.UnOp.TheVariants as un
use Rattle.ws_base.specs.declared.op.BinOp.TheVariants as bin
use Rattle.ws_base.specs.declared.op.CallWord.TheVariants as word
use Rattle.ws_tree.specs.declared.stmt.Bound.TheVariants as bound
use Rattle.ws_tree.specs.declared.expr.Expr.TheVariants.{Number, Named, Call, Vector, Unary, Binary}
use Rattle.ws_tree.specs.declared.stmt.Body.TheVariants.{Assign, Masked, Shared}
use Rattle.array_meaning.specs.Example.{Example, example, line, integer, else_of}

--     integer :: a(3), b(3)
--     a = [-1, 2, -3]
--     !$omp parallel workshare
--     where (a < 0)
--     a = -a
--     b = a
--     elsewhere
--     b = 0
--     end where
--     !$omp end parallel workshare
--     end
unfoldable pub absolute_values : Example
absolute_values = example (integer 1 (codes "a") ((bound.Upper (Number 3)) ∷ []) ∷ integer 1 (codes "b") ((bound.Upper (Number 3)) ∷ []) ∷ [])
    (line 2 (Assign (Named (codes "a")) (Vector ((Unary un.Minus (Number 1)) ∷ (Number 2) ∷ (Unary un.Minus (Number 3)) ∷ []))) ∷ line 3 (Shared (line 4 (Masked (Binary bin.Lt (Named (codes "a")) (Number 0)) (line 5 (Assign (Named (codes "a")) (Unary un.Minus (Named (codes "a")))) ∷ line 6 (Assign (Named (codes "b")) (Named (codes "a"))) ∷ []) (else_of 7 None (line 8 (Assign (Named (codes "b")) (Number 0)) ∷ []) ∷ [])) ∷ [])) ∷ [])
    [] (codes "a(1:3) = 1 2 3" ∷ codes "b(1:3) = 1 0 3" ∷ [])

--     integer :: a(4), b(4)
--     a = [1, 2, 3, 4]
--     !$omp parallel workshare
--     where (a > 2)
--     b = 10
--     elsewhere (a > 1)
--     b = 20
--     elsewhere
--     b = 30
--     end where
--     !$omp end parallel workshare
--     end
unfoldable pub three_blocks : Example
three_blocks = example (integer 1 (codes "a") ((bound.Upper (Number 4)) ∷ []) ∷ integer 1 (codes "b") ((bound.Upper (Number 4)) ∷ []) ∷ [])
    (line 2 (Assign (Named (codes "a")) (Vector ((Number 1) ∷ (Number 2) ∷ (Number 3) ∷ (Number 4) ∷ []))) ∷ line 3 (Shared (line 4 (Masked (Binary bin.Gt (Named (codes "a")) (Number 2)) (line 5 (Assign (Named (codes "b")) (Number 10)) ∷ []) (else_of 6 (Some (Binary bin.Gt (Named (codes "a")) (Number 1))) (line 7 (Assign (Named (codes "b")) (Number 20)) ∷ []) ∷ else_of 8 None (line 9 (Assign (Named (codes "b")) (Number 30)) ∷ []) ∷ [])) ∷ [])) ∷ [])
    [] (codes "a(1:4) = 1 2 3 4" ∷ codes "b(1:4) = 30 20 10 10" ∷ [])

--     integer :: a(3), b(3), c(3)
--     b = [6, 7, 8]
--     c = [2, 0, 4]
--     !$omp parallel workshare
--     where (c /= 0) a = b / c
--     !$omp end parallel workshare
--     end
unfoldable pub division_only_where_allowed : Example
division_only_where_allowed = example (integer 1 (codes "a") ((bound.Upper (Number 3)) ∷ []) ∷ integer 1 (codes "b") ((bound.Upper (Number 3)) ∷ []) ∷ integer 1 (codes "c") ((bound.Upper (Number 3)) ∷ []) ∷ [])
    (line 2 (Assign (Named (codes "b")) (Vector ((Number 6) ∷ (Number 7) ∷ (Number 8) ∷ []))) ∷ line 3 (Assign (Named (codes "c")) (Vector ((Number 2) ∷ (Number 0) ∷ (Number 4) ∷ []))) ∷ line 4 (Shared (line 5 (Masked (Binary bin.Ne (Named (codes "c")) (Number 0)) (line 5 (Assign (Named (codes "a")) (Binary bin.Div (Named (codes "b")) (Named (codes "c")))) ∷ []) []) ∷ [])) ∷ [])
    [] (codes "a(1:3) = 3 0 2" ∷ codes "b(1:3) = 6 7 8" ∷ codes "c(1:3) = 2 0 4" ∷ [])

--     integer :: a(3), b(4)
--     where (a == 0)
--     a = 1
--     b = 2
--     end where
--     end
unfoldable pub assignment_of_another_shape : Example
assignment_of_another_shape = example (integer 1 (codes "a") ((bound.Upper (Number 3)) ∷ []) ∷ integer 1 (codes "b") ((bound.Upper (Number 4)) ∷ []) ∷ [])
    (line 2 (Masked (Binary bin.Eq (Named (codes "a")) (Number 0)) (line 3 (Assign (Named (codes "a")) (Number 1)) ∷ line 4 (Assign (Named (codes "b")) (Number 2)) ∷ []) []) ∷ [])
    [] (codes "fault Shape line 4 element 0" ∷ [])

--     integer :: a(1), b(1)
--     a = 1
--     !$omp parallel workshare
--     where (a > 0)
--     a = -a
--     elsewhere (1/b > 0)
--     end where
--     !$omp end parallel workshare
--     end
unfoldable pub mask_without_active_place : Example
mask_without_active_place = example (integer 1 (codes "a") ((bound.Upper (Number 1)) ∷ []) ∷ integer 1 (codes "b") ((bound.Upper (Number 1)) ∷ []) ∷ [])
    (line 2 (Assign (Named (codes "a")) (Number 1)) ∷ line 3 (Shared (line 4 (Masked (Binary bin.Gt (Named (codes "a")) (Number 0)) (line 5 (Assign (Named (codes "a")) (Unary un.Minus (Named (codes "a")))) ∷ []) (else_of 6 (Some (Binary bin.Gt (Binary bin.Div (Number 1) (Named (codes "b"))) (Number 0))) [] ∷ [])) ∷ [])) ∷ [])
    [] (codes "a(1:1) = -1" ∷ codes "b(1:1) = 0" ∷ [])

--     integer :: a(3), b(2), c(3)
--     where (a > sum(b + c))
--     a = 1
--     end where
--     end
unfoldable pub shape_in_a_sum_of_a_mask : Example
shape_in_a_sum_of_a_mask = example (integer 1 (codes "a") ((bound.Upper (Number 3)) ∷ []) ∷ integer 1 (codes "b") ((bound.Upper (Number 2)) ∷ []) ∷ integer 1 (codes "c") ((bound.Upper (Number 3)) ∷ []) ∷ [])
    (line 2 (Masked (Binary bin.Gt (Named (codes "a")) (Call word.Sum ((Binary bin.Add (Named (codes "b")) (Named (codes "c"))) ∷ []))) (line 3 (Assign (Named (codes "a")) (Number 1)) ∷ []) []) ∷ [])
    [] (codes "fault Shape line 3 element 0" ∷ [])

--     integer :: a(4), b(4)
--     a = [1, 2, 3, 4]
--     where (a > 1)
--     where (a < 4)
--     b = 1
--     elsewhere
--     b = 2
--     end where
--     elsewhere
--     b = 3
--     end where
--     end
unfoldable pub mask_of_masks : Example
mask_of_masks = example (integer 1 (codes "a") ((bound.Upper (Number 4)) ∷ []) ∷ integer 1 (codes "b") ((bound.Upper (Number 4)) ∷ []) ∷ [])
    (line 2 (Assign (Named (codes "a")) (Vector ((Number 1) ∷ (Number 2) ∷ (Number 3) ∷ (Number 4) ∷ []))) ∷ line 3 (Masked (Binary bin.Gt (Named (codes "a")) (Number 1)) (line 4 (Masked (Binary bin.Lt (Named (codes "a")) (Number 4)) (line 5 (Assign (Named (codes "b")) (Number 1)) ∷ []) (else_of 6 None (line 7 (Assign (Named (codes "b")) (Number 2)) ∷ []) ∷ [])) ∷ []) (else_of 9 None (line 10 (Assign (Named (codes "b")) (Number 3)) ∷ []) ∷ [])) ∷ [])
    [] (codes "a(1:4) = 1 2 3 4" ∷ codes "b(1:4) = 3 1 1 2" ∷ [])
