-- The decisions for small modules.
use Rattle.std.proofs.Common.{◌≡◌, refl, ℕ, ◌+◌, true, false, List, [], ◌∷◌, ◌++◌, negsuc}
use Rattle.hlfir_ops.specs.declared.kinds.Elem.TheVariants.{I32, I1}
use Rattle.hlfir_ops.specs.declared.kinds.ValueKind.TheVariants.{Array}
use Rattle.hlfir_ops.specs.declared.what.BoundWord.TheVariants as bound
use Rattle.hlfir_ops.specs.declared.what.ValueBinary.TheVariants as binary
use Rattle.hlfir_ops.specs.declared.what.What.TheVariants as what
use Rattle.hlfir_ops.specs.declared.op.Op.{Op}
use Rattle.assign_schedule.proofs.Written.{ops_open, gives, i32, integer, number, integers, vector, load, triplet, by_vector, element, operation, comparison, apply, neg, elemental, yields, array, scalar, assign, masked, masked_else, elsewhere_masked, elsewhere, forall, forall_mask, workshare, decided, mask, right_side, checked}

-- ---- an array of five elements that is filled, and then assigned in a workshare

abbrev filled : List Op → List Op → List Op
filled right left = array 97 5 ∷ assign 2 (yields (integers (1 ∷ 2 ∷ 3 ∷ 4 ∷ 5 ∷ []) ++ vector (1 ∷ 2 ∷ 3 ∷ 4 ∷ 5 ∷ []) ∷ []) (6 ∷ [])) (yields [] (0 ∷ [])) ∷ workshare 3 (assign 4 right left ∷ []) ∷ []

-- a(2:5) = a(1:4)
shifted : decided (filled (yields (integers (1 ∷ 4 ∷ 1 ∷ []) ++ triplet (0 ∷ 7 ∷ 8 ∷ 9 ∷ []) ∷ []) (10 ∷ [])) (yields (integers (2 ∷ 5 ∷ 1 ∷ []) ++ triplet (0 ∷ 11 ∷ 12 ∷ 13 ∷ []) ∷ []) (14 ∷ []))) ≡
    right_side 2 1 false ∷ right_side 4 11 true ∷ []
unfolding ops_open
shifted = refl

-- a = a(5:1:-1)
turned : decided (filled (yields (number 5 ∷ number 1 ∷ integer (negsuc 0) ∷ triplet (0 ∷ 7 ∷ 8 ∷ 9 ∷ []) ∷ []) (10 ∷ [])) (yields [] (0 ∷ []))) ≡ right_side 2 1 false ∷ right_side 4 11 true ∷ []
unfolding ops_open
turned = refl

-- a = a + a(1)
raised : decided (filled (yields (number 1 ∷ element 0 7 ∷ load 8 ∷ elemental I32 (apply 0 ∷ operation binary.Add 11 9 ∷ []) 12 ∷ []) (10 ∷ [])) (yields [] (0 ∷ []))) ≡ right_side 2 1 false ∷ right_side 4 11 false ∷ []
unfolding ops_open
raised = refl

-- a(1:9:2) = a(2:10:2)
interleaved : decided
    (array 97 10
    ∷ assign 2 (yields (integers (1 ∷ 2 ∷ 3 ∷ 4 ∷ 5 ∷ 6 ∷ 7 ∷ 8 ∷ 9 ∷ 10 ∷ []) ++ vector (1 ∷ 2 ∷ 3 ∷ 4 ∷ 5 ∷ 6 ∷ 7 ∷ 8 ∷ 9 ∷ 10 ∷ []) ∷ []) (11 ∷ [])) (yields [] (0 ∷ []))
    ∷ workshare 3
    (assign 4 (yields (integers (2 ∷ 10 ∷ 2 ∷ []) ++ triplet (0 ∷ 12 ∷ 13 ∷ 14 ∷ []) ∷ []) (15 ∷ [])) (yields (integers (1 ∷ 9 ∷ 2 ∷ []) ++ triplet (0 ∷ 16 ∷ 17 ∷ 18 ∷ []) ∷ []) (19 ∷ [])) ∷ [])
    ∷ []) ≡ right_side 2 1 false ∷ right_side 4 16 false ∷ []
unfolding ops_open
interleaved = refl

-- ---- where

-- where (a < 0), a = -a, b = a, elsewhere, b = 0
a_mask_of_what_is_changed : decided
    (array 97 3 ∷ array 98 3
    ∷ assign 2 (yields (integer (negsuc 0) ∷ number 2 ∷ integer (negsuc 2) ∷ vector (2 ∷ 3 ∷ 4 ∷ []) ∷ []) (5 ∷ [])) (yields [] (0 ∷ []))
    ∷ workshare 3
    (masked_else 4 (yields (number 0 ∷ elemental I1 (apply 0 ∷ comparison binary.Lt 8 6 ∷ []) 9 ∷ []) (7 ∷ []))
    (assign 5 (yields (elemental I32 (apply 0 ∷ neg 11 ∷ []) 12 ∷ []) (10 ∷ [])) (yields [] (0 ∷ [])) ∷ assign 6 (yields [] (0 ∷ [])) (yields [] (1 ∷ [])) ∷ [])
    (elsewhere 7 (assign 8 (yields (number 0 ∷ []) (13 ∷ [])) (yields [] (1 ∷ [])) ∷ []) ∷ [])
    ∷ [])
    ∷ []) ≡ right_side 2 2 false ∷ mask 4 10 true ∷ right_side 5 17 false ∷ right_side 6 24 false ∷ right_side 8 28 false ∷ []
unfolding ops_open
a_mask_of_what_is_changed = refl

-- a > c, where the constant's value has this number
abbrev greater_than : ℕ → ℕ → List Op
greater_than c n = yields (number c ∷ elemental I1 (apply 0 ∷ comparison binary.Gt (n + 2) n ∷ []) (n + 3) ∷ []) ((n + 1) ∷ [])

-- b = c, where the constant's value has this number
abbrev b_becomes : ℕ → ℕ → ℕ → Op
b_becomes line c n = assign line (yields (number c ∷ []) (n ∷ [])) (yields [] (1 ∷ []))

-- where (a > 2), b = 10, elsewhere (a > 1), b = 20, elsewhere, b = 30
masks_of_what_stays : decided
    (array 97 4 ∷ array 98 4
    ∷ assign 2 (yields (integers (1 ∷ 2 ∷ 3 ∷ 4 ∷ []) ++ vector (2 ∷ 3 ∷ 4 ∷ 5 ∷ []) ∷ []) (6 ∷ [])) (yields [] (0 ∷ []))
    ∷ workshare 3 (masked_else 4 (greater_than 2 7) (b_becomes 5 10 11 ∷ []) (elsewhere_masked 6 (greater_than 1 12) (b_becomes 7 20 16 ∷ []) ∷ elsewhere 8 (b_becomes 9 30 17 ∷ []) ∷ []) ∷ [])
    ∷ []) ≡ right_side 2 2 false ∷ mask 4 11 false ∷ right_side 5 18 false ∷ mask 6 22 false ∷ right_side 7 29 false ∷ right_side 9 34 false ∷ []
unfolding ops_open
masks_of_what_stays = refl

-- where (a > 0), a = -a, elsewhere (1/b > 0): the last step has no assignment
a_step_without_assignment : decided
    (array 97 1 ∷ array 98 1
    ∷ assign 2 (yields (number 1 ∷ []) (2 ∷ [])) (yields [] (0 ∷ []))
    ∷ workshare 3
    (masked_else 4 (greater_than 0 3) (assign 5 (yields (elemental I32 (apply 0 ∷ neg 8 ∷ []) 9 ∷ []) (7 ∷ [])) (yields [] (0 ∷ [])) ∷ [])
    (elsewhere_masked 6
    (yields (number 1 ∷ elemental I32 (apply 1 ∷ operation binary.Div 10 12 ∷ []) 13 ∷ number 0 ∷ elemental I1 (apply 11 ∷ comparison binary.Gt 16 14 ∷ []) 17 ∷ []) (15 ∷ [])) []
    ∷ [])
    ∷ [])
    ∷ []) ≡ right_side 2 2 false ∷ mask 4 7 true ∷ right_side 5 14 false ∷ mask 6 21 false ∷ []
unfolding ops_open
a_step_without_assignment = refl

-- The last user of the mask writes what is read at the same position.
-- where (a > 0) a = -a
a_mask_used_once : decided (array 97 3 ∷ masked 2 (greater_than 0 1) (assign 2 (yields (elemental I32 (apply 0 ∷ neg 6 ∷ []) 7 ∷ []) (5 ∷ [])) (yields [] (0 ∷ [])) ∷ []) ∷ []) ≡ mask 2 1 false ∷ right_side 2 8 false ∷ []
unfolding ops_open
a_mask_used_once = refl

-- where (a > 0), a(3:1:-1) = 0: the last user writes what is read at another position.
a_mask_turned : decided
    (array 97 3 ∷ masked 2 (greater_than 0 1) (assign 3 (yields (number 0 ∷ []) (5 ∷ [])) (yields (number 3 ∷ number 1 ∷ integer (negsuc 0) ∷ triplet (0 ∷ 6 ∷ 7 ∷ 8 ∷ []) ∷ []) (9 ∷ [])) ∷ []) ∷ []) ≡
    mask 2 1 true ∷ right_side 3 8 false ∷ []
unfolding ops_open
a_mask_turned = refl

-- where (a > 0), where (a > 1), a = 0, end where, b = 1, end where: a is written in both, and only the outer mask is used again.
a_where_in_a_where : decided
    (array 97 3 ∷ array 98 3
    ∷ masked 2 (greater_than 0 2) (masked 3 (greater_than 1 6) (assign 4 (yields (number 0 ∷ []) (10 ∷ [])) (yields [] (0 ∷ [])) ∷ []) ∷ b_becomes 6 1 11 ∷ [])
    ∷ []) ≡ mask 2 2 true ∷ mask 3 9 false ∷ right_side 4 16 false ∷ right_side 6 20 false ∷ []
unfolding ops_open
a_where_in_a_where = refl

-- where (a > 0), where (a > 1), end where, end where, a(3:1:-1) = 1: masks do not go over to the next statement.
masks_without_assignment : decided
    (array 97 3 ∷ masked 2 (greater_than 0 1) (masked 3 (greater_than 1 5) [] ∷ []) ∷ assign 6 (yields (number 1 ∷ []) (9 ∷ [])) (yields (number 3 ∷ number 1 ∷ integer (negsuc 0) ∷ triplet (0 ∷ 10 ∷ 11 ∷ 12 ∷ []) ∷ []) (13 ∷ [])) ∷ []) ≡
    mask 2 1 false ∷ mask 3 8 false ∷ right_side 6 15 false ∷ []
unfolding ops_open
masks_without_assignment = refl

-- ---- vector subscripts

-- integer :: a(3), b(3), v(3)
abbrev three_arrays : List Op → List Op
three_arrays ops = array 97 3 ∷ array 98 3 ∷ array 118 3 ∷ ops

-- b = [7, 8, 9], v = [1, 2, 1], a(v) = b
scattered : decided
    (three_arrays
    (assign 2 (yields (integers (7 ∷ 8 ∷ 9 ∷ []) ++ vector (3 ∷ 4 ∷ 5 ∷ []) ∷ []) (6 ∷ [])) (yields [] (1 ∷ []))
    ∷ assign 3 (yields (integers (1 ∷ 2 ∷ 1 ∷ []) ++ vector (7 ∷ 8 ∷ 9 ∷ []) ∷ []) (10 ∷ [])) (yields [] (2 ∷ []))
    ∷ workshare 4 (assign 6 (yields [] (1 ∷ [])) (yields (by_vector 0 2 ∷ []) (11 ∷ [])) ∷ [])
    ∷ [])) ≡ right_side 2 3 false ∷ right_side 3 10 false ∷ checked 6 18 ∷ []
unfolding ops_open
scattered = refl

-- a = b(v), v = b(v) and v = b(a(v))
gathered : decided
    (three_arrays
    (assign 2 (yields (by_vector 1 2 ∷ []) (3 ∷ [])) (yields [] (0 ∷ [])) ∷ assign 3 (yields (by_vector 1 2 ∷ []) (4 ∷ [])) (yields [] (2 ∷ []))
    ∷ assign 4 (yields (by_vector 0 2 ∷ by_vector 1 5 ∷ []) (6 ∷ [])) (yields [] (2 ∷ [])) ∷ [])) ≡ right_side 2 3 false ∷ right_side 3 7 true ∷ right_side 4 11 true ∷ []
unfolding ops_open
gathered = refl

-- v = b([1, 2, 3]), and v = b((v)), whose subscript is evaluated whole
subscripts_that_are_not_read : decided
    (three_arrays
    (assign 2 (yields (integers (1 ∷ 2 ∷ 3 ∷ []) ++ vector (3 ∷ 4 ∷ 5 ∷ []) ∷ by_vector 1 6 ∷ []) (7 ∷ [])) (yields [] (2 ∷ []))
    ∷ assign 3 (yields (gives what.AsExpr (2 ∷ []) (Array I32 1) ∷ by_vector 1 8 ∷ []) (9 ∷ [])) (yields [] (2 ∷ [])) ∷ [])) ≡ right_side 2 3 false ∷ right_side 3 11 false ∷ []
unfolding ops_open
subscripts_that_are_not_read = refl

-- v = (b(v)) + 0: the sources of an elemental, and those of an array in parentheses. a = (a(3:1:-1)) is no such.
in_parentheses : decided
    (three_arrays
    (assign 2 (yields (gives what.AsExpr (0 ∷ []) (Array I32 1) ∷ number 0 ∷ elemental I32 (apply 3 ∷ operation binary.Add 6 4 ∷ []) 7 ∷ []) (5 ∷ []))
    (yields (number 3 ∷ number 1 ∷ integer (negsuc 0) ∷ triplet (0 ∷ 8 ∷ 9 ∷ 10 ∷ []) ∷ []) (11 ∷ [])) ∷ [])) ≡ right_side 2 3 true ∷ []
unfolding ops_open
in_parentheses = refl

-- ---- opaque subscripts

-- integer :: n, a(5), n = 3, a(n:) = a(n:5)
omitted_and_written_bounds : decided
    (scalar 110 ∷ array 97 5
    ∷ assign 2 (yields (number 3 ∷ []) (2 ∷ [])) (yields [] (0 ∷ []))
    ∷ workshare 3
    (assign 4 (yields (load 0 ∷ number 5 ∷ number 1 ∷ triplet (1 ∷ 3 ∷ 4 ∷ 5 ∷ []) ∷ []) (6 ∷ []))
    (yields (load 0 ∷ gives (what.Bound bound.Upper 1) (1 ∷ []) i32 ∷ number 1 ∷ triplet (1 ∷ 7 ∷ 8 ∷ 9 ∷ []) ∷ []) (10 ∷ [])) ∷ [])
    ∷ []) ≡ right_side 4 7 true ∷ []
unfolding ops_open
omitted_and_written_bounds = refl

-- a(3) = 1, a(3) = a(1)
an_element_is_assigned : decided
    (array 97 3 ∷ assign 2 (yields (number 1 ∷ []) (1 ∷ [])) (yields (number 3 ∷ element 0 2 ∷ []) (3 ∷ []))
    ∷ assign 3 (yields (number 1 ∷ element 0 4 ∷ load 5 ∷ []) (6 ∷ [])) (yields (number 3 ∷ element 0 7 ∷ []) (8 ∷ [])) ∷ []) ≡ right_side 2 1 false ∷ right_side 3 7 false ∷ []
unfolding ops_open
an_element_is_assigned = refl

-- ---- forall

-- integer :: i, j, a(3)
abbrev in_forall : List Op → List Op
in_forall ops = scalar 105 ∷ scalar 106 ∷ array 97 3 ∷ ops

-- forall (i = 1:3) a(i) = a(4-i)
swapped : decided
    (in_forall
    (forall 4 ((105 ∷ []) ∷ []) (yields (integers (1 ∷ 3 ∷ 1 ∷ [])) (3 ∷ 4 ∷ 5 ∷ []))
    (assign 4 (yields (number 4 ∷ operation binary.Sub 7 6 ∷ element 2 8 ∷ load 9 ∷ []) (10 ∷ [])) (yields (element 2 6 ∷ []) (11 ∷ [])) ∷ []) ∷ [])) ≡ right_side 4 8 true ∷ []
unfolding ops_open
swapped = refl

-- forall (i = 1:3) a(i/2 + 1) = i
an_index_in_an_expression : decided
    (in_forall
    (forall 3 ((105 ∷ []) ∷ []) (yields (integers (1 ∷ 3 ∷ 1 ∷ [])) (3 ∷ 4 ∷ 5 ∷ []))
    (assign 3 (yields [] (6 ∷ [])) (yields (number 2 ∷ operation binary.Div 6 7 ∷ number 1 ∷ operation binary.Add 8 9 ∷ element 2 10 ∷ []) (11 ∷ [])) ∷ []) ∷ [])) ≡ checked 3 8 ∷ []
unfolding ops_open
an_index_in_an_expression = refl

-- forall (i = 1:3, j = 1:3) a(i) = 1
an_index_without_use : decided
    (in_forall
    (forall 3 ((105 ∷ []) ∷ (106 ∷ []) ∷ []) (yields (integers (1 ∷ 3 ∷ 1 ∷ [])) (3 ∷ 4 ∷ 5 ∷ 3 ∷ 4 ∷ 5 ∷ []))
    (assign 3 (yields (number 1 ∷ []) (8 ∷ [])) (yields (element 2 6 ∷ []) (9 ∷ [])) ∷ []) ∷ [])) ≡ checked 3 8 ∷ []
unfolding ops_open
an_index_without_use = refl

-- forall (i = 1:3, j = 1:3, i < a(j)) a(j) = 0: the mask reads the element that is written, at the same combination.
a_mask_of_combinations : decided
    (in_forall
    (forall 3 ((105 ∷ []) ∷ (106 ∷ []) ∷ []) (yields (integers (1 ∷ 3 ∷ 1 ∷ [])) (3 ∷ 4 ∷ 5 ∷ 3 ∷ 4 ∷ 5 ∷ []))
    (forall_mask 3 (yields (element 2 7 ∷ load 8 ∷ comparison binary.Lt 6 9 ∷ []) (10 ∷ [])) ∷ assign 3 (yields (number 0 ∷ []) (11 ∷ [])) (yields (element 2 7 ∷ []) (12 ∷ [])) ∷ []) ∷ [])) ≡
    mask 3 8 false ∷ checked 3 13 ∷ []
unfolding ops_open
a_mask_of_combinations = refl

-- forall (i = 1:3) a(a(i)) = 0: the subscript is read, and needs a check in any case
an_element_by_an_element : decided
    (in_forall
    (forall 3 ((105 ∷ []) ∷ []) (yields (integers (1 ∷ 3 ∷ 1 ∷ [])) (3 ∷ 4 ∷ 5 ∷ []))
    (assign 3 (yields (number 0 ∷ []) (7 ∷ [])) (yields (element 2 6 ∷ load 8 ∷ element 2 9 ∷ []) (10 ∷ [])) ∷ []) ∷ [])) ≡ checked 3 8 ∷ []
unfolding ops_open
an_element_by_an_element = refl
