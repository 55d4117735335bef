-- Boxes of boxes: to which variable they refer, and how what is reached through them lies to one another.
use Rattle.std.proofs.Common.{◌≡◌, refl, ℕ, false, List, [], ◌∷◌, map, None}
use Rattle.hlfir_ops.specs.declared.kinds.Elem.TheVariants.{I32}
use Rattle.hlfir_ops.specs.declared.kinds.ValueKind.TheVariants as kind
use Rattle.hlfir_ops.specs.declared.what.What.TheVariants as what
use Rattle.hlfir_ops.specs.declared.op.Op.{Op}
use Rattle.hlfir_ops.specs.Trees.{op_of, region_of}
use Rattle.hlfir_ops.specs.Rules.{KeepsRules, are_defined, operands_fit, result_fits, is_used_once, yields_of, sides_of, realloc_of, where_of, forall_of, lists_fit, declares_fit, limits_fit}
use Rattle.alias_test.specs.declared.designator.Relation.{Relation}
use Rattle.alias_test.specs.declared.designator.Relation.TheVariants.{Same, Disjoint, May}
use Rattle.alias_test.specs.Givers.{givers_of, variable_of}
use Rattle.alias_test.specs.Normal.{designator_at}
use Rattle.alias_test.specs.Relations.{relation}
use Rattle.alias_test.proofs.NormalRows.{ops_open, gives, number, declares, range, element, lower, upper}
use Rattle.alias_test.proofs.RelationRows.{relations_open}

abbrev box : ℕ → Op
box n = gives what.Boxed (n ∷ []) (kind.Allocatable I32 1)

abbrev yields : ℕ → Op
yields n = op_of what.Yield 0 (record { number = n } ∷ []) None []

-- p(1:2) = p(1:2). On the right stand box 1 of p and box 2 of this box; 1, 2 and 3; p(1:2) by either box; p(2:3) and p(3) by the second; the bounds by either;
-- p(:) by either. On the left stand such boxes, and p(1:2) by the second as value 20.
abbrev through_boxes : List Op
through_boxes = declares (kind.Allocatable I32 1)
    ∷ op_of (what.Assign false) 0 [] None
    (region_of
    (box 0 ∷ box 1
    ∷ number 1 ∷ number 2 ∷ number 3
    ∷ range (1 ∷ 3 ∷ 4 ∷ 3 ∷ []) ∷ range (2 ∷ 3 ∷ 4 ∷ 3 ∷ [])
    ∷ range (2 ∷ 4 ∷ 5 ∷ 3 ∷ []) ∷ element (2 ∷ 5 ∷ [])
    ∷ lower 1 ∷ upper 1 ∷ lower 2 ∷ upper 2
    ∷ range (1 ∷ 10 ∷ 11 ∷ 3 ∷ []) ∷ range (2 ∷ 12 ∷ 13 ∷ 3 ∷ [])
    ∷ yields 6 ∷ [])
    ∷ region_of (box 0 ∷ box 16 ∷ number 1 ∷ number 2 ∷ range (17 ∷ 18 ∷ 19 ∷ 18 ∷ []) ∷ yields 20 ∷ [])
    ∷ [])
    ∷ []

a_box_of_a_box_keeps_the_rules : KeepsRules (record { name = 109 ∷ []; ops = through_boxes })
unfolding ops_open are_defined operands_fit result_fits is_used_once yields_of sides_of realloc_of where_of forall_of lists_fit declares_fit limits_fit
a_box_of_a_box_keeps_the_rules = refl

abbrev var_of : ℕ → ℕ
var_of n = (designator_at (givers_of through_boxes) n).var

each_is_of_p : map var_of (0 ∷ 1 ∷ 2 ∷ 6 ∷ 7 ∷ 8 ∷ 9 ∷ 14 ∷ 15 ∷ 17 ∷ 20 ∷ []) ≡ 0 ∷ 0 ∷ 0 ∷ 0 ∷ 0 ∷ 0 ∷ 0 ∷ 0 ∷ 0 ∷ 0 ∷ 0 ∷ []
unfolding ops_open
each_is_of_p = refl

abbrev lies : ℕ → ℕ → Relation
lies m n = relation (designator_at (givers_of through_boxes) m) (designator_at (givers_of through_boxes) n)

-- by either box: p; the same section; the bounds that are kept
by_either_box : lies 1 2 ∷ lies 6 7 ∷ lies 14 15 ∷ [] ≡ Same ∷ Same ∷ Same ∷ []
unfolding ops_open relations_open
by_either_box = refl

-- the section with itself on the left, with one that shares 2, and with an element past it
one_section : lies 6 20 ∷ lies 6 8 ∷ lies 6 9 ∷ [] ≡ Same ∷ May ∷ Disjoint ∷ []
unfolding ops_open relations_open
one_section = refl

-- two variables, of which each stands under two more boxes
two_variables :
    map (variable_of (givers_of (declares (kind.Allocatable I32 1) ∷ declares (kind.Allocatable I32 1) ∷ box 0 ∷ box 1 ∷ box 2 ∷ box 3 ∷ box 5 ∷ box 4 ∷ []))) (0 ∷ 1 ∷ 2 ∷ 3 ∷ 4 ∷ 5 ∷ 6 ∷ 7 ∷ []) ≡
    0 ∷ 1 ∷ 0 ∷ 1 ∷ 0 ∷ 1 ∷ 1 ∷ 0 ∷ []
unfolding ops_open
two_variables = refl

-- No module that keeps the rules has a box of itself, of a later value or of none.
boxes_of_no_earlier_value : map (variable_of (givers_of (box 0 ∷ box 2 ∷ box 1 ∷ box 9 ∷ []))) (0 ∷ 1 ∷ 2 ∷ 3 ∷ []) ≡ 0 ∷ 1 ∷ 1 ∷ 3 ∷ []
unfolding ops_open
boxes_of_no_earlier_value = refl
