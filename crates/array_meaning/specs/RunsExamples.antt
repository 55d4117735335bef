-- Examples: READ, ALLOCATE and DO. Each stands with its source, the lines of its data and the lines of its report.
use Rattle.std.specs.Prelude.{[], ◌∷◌, Some, None, codes}
use Rattle.ws_base.specs.declared.op.UnOp.TheVariants as un
use Rattle.ws_base.specs.declared.op.BinOp.TheVariants as bin
use Rattle.ws_base.specs.declared.op.CallWord.TheVariants as word
use Rattle.ws_tree.specs.declared.stmt.Bound.TheVariants as bound
use Rattle.ws_tree.specs.declared.expr.Expr.TheVariants.{Number, Named, Part, Call, Vector, Paren, Unary, Binary}
use Rattle.ws_tree.specs.declared.expr.Sub.TheVariants.{One, Range}
use Rattle.ws_tree.specs.declared.stmt.Body.TheVariants.{Assign, Loop, Allocate, Deallocate, Read, Shared}
use Rattle.array_meaning.specs.Example.{Example, example, line, integer, logical, allocatable}

--     integer :: b(0:2)
--     integer, allocatable :: p(:)
--     b = [5, 6, 7]
--     !$omp parallel workshare
--     p = b
--     !$omp end parallel workshare
--     end
unfoldable pub bounds_handed_on : Example
bounds_handed_on = example (integer 1 (codes "b") ((bound.Both (Number 0) (Number 2)) ∷ []) ∷ allocatable 2 (codes "p") (bound.Deferred ∷ []) ∷ [])
    (line 3 (Assign (Named (codes "b")) (Vector ((Number 5) ∷ (Number 6) ∷ (Number 7) ∷ []))) ∷ line 4 (Shared (line 5 (Assign (Named (codes "p")) (Named (codes "b"))) ∷ [])) ∷ [])
    [] (codes "b(0:2) = 5 6 7" ∷ codes "p(0:2) = 5 6 7" ∷ [])

--     integer :: b(0:2)
--     integer, allocatable :: p(:)
--     b = [5, 6, 7]
--     !$omp parallel workshare
--     p = b
--     p = b(1:2)
--     !$omp end parallel workshare
--     end
unfoldable pub bounds_of_a_section : Example
bounds_of_a_section = example (integer 1 (codes "b") ((bound.Both (Number 0) (Number 2)) ∷ []) ∷ allocatable 2 (codes "p") (bound.Deferred ∷ []) ∷ [])
    (line 3 (Assign (Named (codes "b")) (Vector ((Number 5) ∷ (Number 6) ∷ (Number 7) ∷ []))) ∷ line 4 (Shared (line 5 (Assign (Named (codes "p")) (Named (codes "b"))) ∷ line 6 (Assign (Named (codes "p")) (Part (codes "b") ((Range (Some (Number 1)) (Some (Number 2)) None) ∷ []))) ∷ [])) ∷ [])
    [] (codes "b(0:2) = 5 6 7" ∷ codes "p(1:2) = 6 7" ∷ [])

--     integer :: b(0:2)
--     integer, allocatable :: p(:)
--     p = (b)
--     end
unfoldable pub bounds_of_parentheses : Example
bounds_of_parentheses = example (integer 1 (codes "b") ((bound.Both (Number 0) (Number 2)) ∷ []) ∷ allocatable 2 (codes "p") (bound.Deferred ∷ []) ∷ [])
    (line 3 (Assign (Named (codes "p")) (Paren (Named (codes "b")))) ∷ [])
    [] (codes "b(0:2) = 0 0 0" ∷ codes "p(1:3) = 0 0 0" ∷ [])

--     integer, allocatable :: p(:)
--     p = 3
--     end
unfoldable pub scalar_to_nothing : Example
scalar_to_nothing = example (allocatable 1 (codes "p") (bound.Deferred ∷ []) ∷ [])
    (line 2 (Assign (Named (codes "p")) (Number 3)) ∷ [])
    [] (codes "fault Unallocated line 2 element 0" ∷ [])

--     integer, allocatable :: p(:)
--     end
unfoldable pub never_allocated : Example
never_allocated = example (allocatable 1 (codes "p") (bound.Deferred ∷ []) ∷ [])
    []
    [] (codes "p unallocated" ∷ [])

--     integer, allocatable :: p(:)
--     allocate (p(2), p(3))
--     end
unfoldable pub allocated_twice : Example
allocated_twice = example (allocatable 1 (codes "p") (bound.Deferred ∷ []) ∷ [])
    (line 2 (Allocate (record { name = (codes "p"); shape = ((bound.Upper (Number 2)) ∷ []) } ∷ record { name = (codes "p"); shape = ((bound.Upper (Number 3)) ∷ []) } ∷ [])) ∷ [])
    [] (codes "fault Allocated line 2 element 0" ∷ [])

--     integer, allocatable :: p(:)
--     allocate (p(65537))
--     end
unfoldable pub allocated_too_large : Example
allocated_too_large = example (allocatable 1 (codes "p") (bound.Deferred ∷ []) ∷ [])
    (line 2 (Allocate (record { name = (codes "p"); shape = ((bound.Upper (Number 65537)) ∷ []) } ∷ [])) ∷ [])
    [] (codes "fault TooLarge line 2 element 0" ∷ [])

--     integer, allocatable :: p(:)
--     logical :: t, f
--     allocate (p(2))
--     t = allocated(p)
--     deallocate (p)
--     f = allocated(p)
--     end
unfoldable pub allocated_and_freed : Example
allocated_and_freed = example (allocatable 1 (codes "p") (bound.Deferred ∷ []) ∷ logical 2 (codes "t") [] ∷ logical 2 (codes "f") [] ∷ [])
    (line 3 (Allocate (record { name = (codes "p"); shape = ((bound.Upper (Number 2)) ∷ []) } ∷ [])) ∷ line 4 (Assign (Named (codes "t")) (Call word.Allocated ((Named (codes "p")) ∷ []))) ∷ line 5 (Deallocate ((codes "p") ∷ [])) ∷ line 6 (Assign (Named (codes "f")) (Call word.Allocated ((Named (codes "p")) ∷ []))) ∷ [])
    [] (codes "p unallocated" ∷ codes "t = T" ∷ codes "f = F" ∷ [])

--     integer, allocatable :: p(:)
--     allocate (p(2))
--     deallocate (p, p)
--     end
unfoldable pub freed_twice : Example
freed_twice = example (allocatable 1 (codes "p") (bound.Deferred ∷ []) ∷ [])
    (line 2 (Allocate (record { name = (codes "p"); shape = ((bound.Upper (Number 2)) ∷ []) } ∷ [])) ∷ line 3 (Deallocate ((codes "p") ∷ (codes "p") ∷ [])) ∷ [])
    [] (codes "fault Unallocated line 3 element 0" ∷ [])

--     integer :: n
--     integer, allocatable :: p(:)
--     n = size(p)
--     end
unfoldable pub size_of_nothing_allocated : Example
size_of_nothing_allocated = example (integer 1 (codes "n") [] ∷ allocatable 2 (codes "p") (bound.Deferred ∷ []) ∷ [])
    (line 3 (Assign (Named (codes "n")) (Call word.Size ((Named (codes "p")) ∷ []))) ∷ [])
    [] (codes "fault Unallocated line 3 element 0" ∷ [])

--     integer :: n, a(5:4, 2:3)
--     n = lbound(a, 1)*1000 + ubound(a, 1)*100 + lbound(a, 2)*10 + size(a, 2)
--     end
unfoldable pub bounds_of_an_empty_dimension : Example
bounds_of_an_empty_dimension = example (integer 1 (codes "n") [] ∷ integer 1 (codes "a") ((bound.Both (Number 5) (Number 4)) ∷ (bound.Both (Number 2) (Number 3)) ∷ []) ∷ [])
    (line 2 (Assign (Named (codes "n")) (Binary bin.Add (Binary bin.Add (Binary bin.Add (Binary bin.Mul (Call word.Lbound ((Named (codes "a")) ∷ (Number 1) ∷ [])) (Number 1000)) (Binary bin.Mul (Call word.Ubound ((Named (codes "a")) ∷ (Number 1) ∷ [])) (Number 100))) (Binary bin.Mul (Call word.Lbound ((Named (codes "a")) ∷ (Number 2) ∷ [])) (Number 10))) (Call word.Size ((Named (codes "a")) ∷ (Number 2) ∷ [])))) ∷ [])
    [] (codes "n = 1022" ∷ codes "a(5:4,2:3) =" ∷ [])

--     integer, allocatable :: p(:), q(:)
--     allocate (p(2:3), q(ubound(p, 1)))
--     end
unfoldable pub later_item_sees_the_first : Example
later_item_sees_the_first = example (allocatable 1 (codes "p") (bound.Deferred ∷ []) ∷ allocatable 1 (codes "q") (bound.Deferred ∷ []) ∷ [])
    (line 2 (Allocate (record { name = (codes "p"); shape = ((bound.Both (Number 2) (Number 3)) ∷ []) } ∷ record { name = (codes "q"); shape = ((bound.Upper (Call word.Ubound ((Named (codes "p")) ∷ (Number 1) ∷ []))) ∷ []) } ∷ [])) ∷ [])
    [] (codes "p(2:3) = 0 0" ∷ codes "q(1:3) = 0 0 0" ∷ [])

--     integer :: n, m
--     read *, n
--     read *, m
--     end
unfoldable pub rest_of_a_line_is_skipped : Example
rest_of_a_line_is_skipped = example (integer 1 (codes "n") [] ∷ integer 1 (codes "m") [] ∷ [])
    (line 2 (Read ((Named (codes "n")) ∷ [])) ∷ line 3 (Read ((Named (codes "m")) ∷ [])) ∷ [])
    (codes "5 6" ∷ codes "7" ∷ []) (codes "n = 5" ∷ codes "m = 7" ∷ [])

--     integer :: m, e(0)
--     read *, e
--     read *, m
--     end
unfoldable pub line_skipped_for_no_value : Example
line_skipped_for_no_value = example (integer 1 (codes "m") [] ∷ integer 1 (codes "e") ((bound.Upper (Number 0)) ∷ []) ∷ [])
    (line 2 (Read ((Named (codes "e")) ∷ [])) ∷ line 3 (Read ((Named (codes "m")) ∷ [])) ∷ [])
    (codes "5 6" ∷ codes "7" ∷ []) (codes "m = 7" ∷ codes "e(1:0) =" ∷ [])

--     integer :: n, m
--     read *, n
--     read *, m
--     end
unfoldable pub item_that_is_no_number : Example
item_that_is_no_number = example (integer 1 (codes "n") [] ∷ integer 1 (codes "m") [] ∷ [])
    (line 2 (Read ((Named (codes "n")) ∷ [])) ∷ line 3 (Read ((Named (codes "m")) ∷ [])) ∷ [])
    (codes "5 6" ∷ codes "x" ∷ []) (codes "fault DataBad line 3 element 1" ∷ [])

--     integer :: a(3)
--     read *, a
--     end
unfoldable pub too_few_items : Example
too_few_items = example (integer 1 (codes "a") ((bound.Upper (Number 3)) ∷ []) ∷ [])
    (line 2 (Read ((Named (codes "a")) ∷ [])) ∷ [])
    (codes "1 2" ∷ []) (codes "fault DataEnd line 2 element 3" ∷ [])

--     integer :: n, a(3)
--     logical :: t
--     read *, n, a(1:3:n), t
--     end
unfoldable pub later_item_reads_at_the_first : Example
later_item_reads_at_the_first = example (integer 1 (codes "n") [] ∷ integer 1 (codes "a") ((bound.Upper (Number 3)) ∷ []) ∷ logical 2 (codes "t") [] ∷ [])
    (line 3 (Read ((Named (codes "n")) ∷ (Part (codes "a") ((Range (Some (Number 1)) (Some (Number 3)) (Some (Named (codes "n")))) ∷ [])) ∷ (Named (codes "t")) ∷ [])) ∷ [])
    (codes "2, 5 -6" ∷ codes ",.TRUE. rest" ∷ []) (codes "n = 2" ∷ codes "a(1:3) = 5 0 -6" ∷ codes "t = T" ∷ [])

--     integer :: i, n
--     do i = 5, 1, -2
--     n = n*10 + i
--     end do
--     end
unfoldable pub loop_that_counts_down : Example
loop_that_counts_down = example (integer 1 (codes "i") [] ∷ integer 1 (codes "n") [] ∷ [])
    (line 2 (Loop (codes "i") (Number 5) (Number 1) (Some (Unary un.Minus (Number 2))) (line 3 (Assign (Named (codes "n")) (Binary bin.Add (Binary bin.Mul (Named (codes "n")) (Number 10)) (Named (codes "i")))) ∷ [])) ∷ [])
    [] (codes "i = -1" ∷ codes "n = 531" ∷ [])

--     integer :: i
--     do i = 3, 1
--     end do
--     end
unfoldable pub loop_without_iteration : Example
loop_without_iteration = example (integer 1 (codes "i") [] ∷ [])
    (line 2 (Loop (codes "i") (Number 3) (Number 1) None []) ∷ [])
    [] (codes "i = 3" ∷ [])

--     integer :: i
--     do i = 2147483646, 2147483647
--     end do
--     end
unfoldable pub loop_that_leaves_the_range : Example
loop_that_leaves_the_range = example (integer 1 (codes "i") [] ∷ [])
    (line 2 (Loop (codes "i") (Number 2147483646) (Number 2147483647) None []) ∷ [])
    [] (codes "fault Overflow line 2 element 0" ∷ [])

--     integer :: i, a(3)
--     do i = 1, 3
--     !$omp parallel workshare
--     a(i) = i*i
--     !$omp end parallel workshare
--     end do
--     end
unfoldable pub regions_of_a_loop : Example
regions_of_a_loop = example (integer 1 (codes "i") [] ∷ integer 1 (codes "a") ((bound.Upper (Number 3)) ∷ []) ∷ [])
    (line 2 (Loop (codes "i") (Number 1) (Number 3) None (line 3 (Shared (line 4 (Assign (Part (codes "a") ((One (Named (codes "i"))) ∷ [])) (Binary bin.Mul (Named (codes "i")) (Named (codes "i")))) ∷ [])) ∷ [])) ∷ [])
    [] (codes "i = 4" ∷ codes "a(1:3) = 1 4 9" ∷ [])
