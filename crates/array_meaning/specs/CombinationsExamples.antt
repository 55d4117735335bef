-- Examples: FORALL. Each stands with its source, the lines of its data and the lines of its report.
use Rattle.std.specs.Prelude.{[], ◌∷◌, Some, None, codes}
use Rattle.ws_base.specs.declared.op.BinOp.TheVariants as bin
use Rattle.ws_base.specs.declared.op.CallWord.TheVariants as word
use Rattle.ws_tree.specs.declared.stmt.Bound.TheVariants as bound
use Rattle.ws_tree.specs.declared.expr.Expr.TheVariants.{Number, Named, Part, Call, Vector, Binary}
use Rattle.ws_tree.specs.declared.expr.Sub.TheVariants.{One}
use Rattle.ws_tree.specs.declared.stmt.Body.TheVariants.{Assign, Forall, Shared}
use Rattle.array_meaning.specs.Example.{Example, example, line, integer, allocatable}

--     integer :: i, a(3)
--     a = [1, 2, 3]
--     !$omp parallel workshare
--     forall (i=1:3) a(i) = a(4-i)
--     !$omp end parallel workshare
--     end
unfoldable pub reverse_by_combinations : Example
reverse_by_combinations = example (integer 1 (codes "i") [] ∷ integer 1 (codes "a") ((bound.Upper (Number 3)) ∷ []) ∷ [])
    (line 2 (Assign (Named (codes "a")) (Vector ((Number 1) ∷ (Number 2) ∷ (Number 3) ∷ []))) ∷ line 3 (Shared (line 4 (Forall (record { name = (codes "i"); l = (Number 1); u = (Number 3); s = None } ∷ []) None (line 4 (Assign (Part (codes "a") ((One (Named (codes "i"))) ∷ [])) (Part (codes "a") ((One (Binary bin.Sub (Number 4) (Named (codes "i")))) ∷ []))) ∷ [])) ∷ [])) ∷ [])
    [] (codes "i = 0" ∷ codes "a(1:3) = 3 2 1" ∷ [])

--     integer :: i, a(3)
--     !$omp parallel workshare
--     forall (i = 1:3) a(i/2 + 1) = i
--     !$omp end parallel workshare
--     end
unfoldable pub combinations_with_one_target : Example
combinations_with_one_target = example (integer 1 (codes "i") [] ∷ integer 1 (codes "a") ((bound.Upper (Number 3)) ∷ []) ∷ [])
    (line 2 (Shared (line 3 (Forall (record { name = (codes "i"); l = (Number 1); u = (Number 3); s = None } ∷ []) None (line 3 (Assign (Part (codes "a") ((One (Binary bin.Add (Binary bin.Div (Named (codes "i")) (Number 2)) (Number 1))) ∷ [])) (Named (codes "i"))) ∷ [])) ∷ [])) ∷ [])
    [] (codes "fault ManyOne line 3 element 3" ∷ [])

--     integer :: i, a(3)
--     forall (i = 1:3:0) a(i) = 1
--     end
unfoldable pub header_with_zero_stride : Example
header_with_zero_stride = example (integer 1 (codes "i") [] ∷ integer 1 (codes "a") ((bound.Upper (Number 3)) ∷ []) ∷ [])
    (line 2 (Forall (record { name = (codes "i"); l = (Number 1); u = (Number 3); s = (Some (Number 0)) } ∷ []) None (line 2 (Assign (Part (codes "a") ((One (Named (codes "i"))) ∷ [])) (Number 1)) ∷ [])) ∷ [])
    [] (codes "fault ZeroStride line 2 element 0" ∷ [])

--     integer :: i, j, a(2,2)
--     forall (i = 1:2, j = 1:2, i /= j) a(i,j) = 10*i + j
--     end
unfoldable pub masked_pairs : Example
masked_pairs = example (integer 1 (codes "i") [] ∷ integer 1 (codes "j") [] ∷ integer 1 (codes "a") ((bound.Upper (Number 2)) ∷ (bound.Upper (Number 2)) ∷ []) ∷ [])
    (line 2 (Forall (record { name = (codes "i"); l = (Number 1); u = (Number 2); s = None } ∷ record { name = (codes "j"); l = (Number 1); u = (Number 2); s = None } ∷ []) (Some (Binary bin.Ne (Named (codes "i")) (Named (codes "j")))) (line 2 (Assign (Part (codes "a") ((One (Named (codes "i"))) ∷ (One (Named (codes "j"))) ∷ [])) (Binary bin.Add (Binary bin.Mul (Number 10) (Named (codes "i"))) (Named (codes "j")))) ∷ [])) ∷ [])
    [] (codes "i = 0" ∷ codes "j = 0" ∷ codes "a(1:2,1:2) = 0 21 12 0" ∷ [])

--     integer :: i
--     integer, allocatable :: p(:)
--     forall (i = 1:0) p(i) = 1/0
--     end
unfoldable pub no_combination_and_no_target : Example
no_combination_and_no_target = example (integer 1 (codes "i") [] ∷ allocatable 2 (codes "p") (bound.Deferred ∷ []) ∷ [])
    (line 3 (Forall (record { name = (codes "i"); l = (Number 1); u = (Number 0); s = None } ∷ []) None (line 3 (Assign (Part (codes "p") ((One (Named (codes "i"))) ∷ [])) (Binary bin.Div (Number 1) (Number 0))) ∷ [])) ∷ [])
    [] (codes "i = 0" ∷ codes "p unallocated" ∷ [])

--     integer :: i
--     integer, allocatable :: p(:)
--     forall (i = 1:2, i > 1) p(i) = 1
--     end
unfoldable pub target_not_allocated : Example
target_not_allocated = example (integer 1 (codes "i") [] ∷ allocatable 2 (codes "p") (bound.Deferred ∷ []) ∷ [])
    (line 3 (Forall (record { name = (codes "i"); l = (Number 1); u = (Number 2); s = None } ∷ []) (Some (Binary bin.Gt (Named (codes "i")) (Number 1))) (line 3 (Assign (Part (codes "p") ((One (Named (codes "i"))) ∷ [])) (Number 1)) ∷ [])) ∷ [])
    [] (codes "fault Unallocated line 3 element 2" ∷ [])

--     integer :: i, n(2), r(0:2147483647, 0)
--     forall (i = 1:2, i > 1) n(i) = size(r, 1)
--     end
unfoldable pub bound_out_of_range_by_position : Example
bound_out_of_range_by_position = example (integer 1 (codes "i") [] ∷ integer 1 (codes "n") ((bound.Upper (Number 2)) ∷ []) ∷ integer 1 (codes "r") ((bound.Both (Number 0) (Number 2147483647)) ∷ (bound.Upper (Number 0)) ∷ []) ∷ [])
    (line 2 (Forall (record { name = (codes "i"); l = (Number 1); u = (Number 2); s = None } ∷ []) (Some (Binary bin.Gt (Named (codes "i")) (Number 1))) (line 2 (Assign (Part (codes "n") ((One (Named (codes "i"))) ∷ [])) (Call word.Size ((Named (codes "r")) ∷ (Number 1) ∷ []))) ∷ [])) ∷ [])
    [] (codes "fault Overflow line 2 element 2" ∷ [])

--     integer :: i, j, a(3)
--     forall (i = 1:1000, j = 1:1000) a(i) = 1
--     end
unfoldable pub header_too_large : Example
header_too_large = example (integer 1 (codes "i") [] ∷ integer 1 (codes "j") [] ∷ integer 1 (codes "a") ((bound.Upper (Number 3)) ∷ []) ∷ [])
    (line 2 (Forall (record { name = (codes "i"); l = (Number 1); u = (Number 1000); s = None } ∷ record { name = (codes "j"); l = (Number 1); u = (Number 1000); s = None } ∷ []) None (line 2 (Assign (Part (codes "a") ((One (Named (codes "i"))) ∷ [])) (Number 1)) ∷ [])) ∷ [])
    [] (codes "fault TooLarge line 2 element 0" ∷ [])
