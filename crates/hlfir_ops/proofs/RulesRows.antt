-- Small modules and the rules that they break.
use Rattle.std.proofs.Common.{◌≡◌, refl, ℕ, suc, Bool, true, false, List, [], ◌∷◌, ◌++◌, map, Some, None, pos}
use Rattle.ws_space.specs.Shapes.{shape_of}
use Rattle.hlfir_ops.specs.declared.kinds.Elem.TheVariants.{I32}
use Rattle.hlfir_ops.specs.declared.kinds.ValueKind.{ValueKind}
use Rattle.hlfir_ops.specs.declared.kinds.ValueKind.TheVariants as kind
use Rattle.hlfir_ops.specs.declared.what.What.{What}
use Rattle.hlfir_ops.specs.declared.what.What.TheVariants as what
use Rattle.hlfir_ops.specs.declared.what.SubKind.TheVariants as sub
use Rattle.hlfir_ops.specs.declared.op.ValueId.{ValueId}
use Rattle.hlfir_ops.specs.declared.op.Op.{Op}
use Rattle.hlfir_ops.specs.declared.op.Module.{Module}
use Rattle.hlfir_ops.specs.Trees.{op_of, region_of}
use Rattle.hlfir_ops.specs.Opened.{trees_open}
use Rattle.hlfir_ops.specs.RulesPlaces.{Site, module_sites}
use Rattle.hlfir_ops.specs.Rules.{Facts, facts_of, kept, are_defined, operands_fit, result_fits, is_used_once, yields_of, sides_of, realloc_of, where_of, forall_of, lists_fit, declares_fit, limits_fit}

-- what lets the rules compute on a module that is written out
unfoldable rules_open : Unit {0}
unfolding trees_open are_defined operands_fit result_fits is_used_once yields_of sides_of realloc_of where_of forall_of lists_fit declares_fit limits_fit
    Rattle.hlfir_ops.specs.declared.op.Op.TheViews.out-Op Rattle.hlfir_ops.specs.declared.op.Op.TheViews.out-Region
    Rattle.hlfir_ops.specs.declared.op.Op.TheBlock.shown-the_row-Op-1 denote.Hole.Carrier.out denote.Hole.Carrier.shown
rules_open = tt

-- ---- the faults of a module: the place of each op in printed order, and the number of a rule that it breaks

abbrev broken_from : ℕ → ℕ → List Bool → List (ℕ × ℕ)
broken_from place rule [] = []
broken_from place rule (true ∷ bs) = broken_from place (suc rule) bs
broken_from place rule (false ∷ bs) = (place, rule) ∷ broken_from place (suc rule) bs

abbrev faults_from : Facts → ℕ → List Site → List (ℕ × ℕ)
faults_from f place [] = []
faults_from f place (s ∷ ss) = broken_from place 1 (kept f s.place s.op) ++ faults_from f (suc place) ss

abbrev faults : Module → List (ℕ × ℕ)
faults m = faults_from (facts_of m) 0 (module_sites m)

-- ---- short words for ops

abbrev v : ℕ → ValueId
v n = record { number = n }

abbrev numbers : List ℕ → List ValueId
numbers = map v

abbrev gives : What → List ℕ → ValueKind → Op
gives w os k = op_of w 0 (numbers os) (Some k) []

abbrev i32 : ValueKind
i32 = kind.Scalar I32

abbrev number : ℕ → Op
number n = gives (what.Constant (pos n)) [] i32

abbrev yields : List ℕ → Op
yields os = op_of what.Yield 0 (numbers os) None []

abbrev assign : ℕ → List Op → List Op → Op
assign line right left = op_of (what.Assign false) line [] None (region_of right ∷ region_of left ∷ [])

abbrev main_of : List Op → Module
main_of ops = record { name = 109 ∷ 97 ∷ 105 ∷ 110 ∷ []; ops = ops }

-- ---- an array that is filled, and shifted in a workshare

abbrev a_kind : ValueKind
a_kind = kind.Declared I32 (shape_of (record { lower = pos 1; extent = 5 } ∷ []))

abbrev shift : ValueKind → ℕ → Module
shift items first_yield = main_of
    (gives (what.Declare (97 ∷ [])) [] a_kind
    ∷ assign 2 (number 1 ∷ number 2 ∷ number 3 ∷ number 4 ∷ number 5 ∷ gives what.Vector (1 ∷ 2 ∷ 3 ∷ 4 ∷ 5 ∷ []) items ∷ yields (first_yield ∷ []) ∷ []) (yields (0 ∷ []) ∷ [])
    ∷ op_of what.Workshare 3 [] None
    (region_of
    (assign 4
    (number 1 ∷ number 4 ∷ number 1 ∷ gives (what.Designate (sub.Range ∷ [])) (0 ∷ 7 ∷ 8 ∷ 9 ∷ []) (kind.Section I32 1) ∷ yields (10 ∷ []) ∷ [])
    (number 2 ∷ number 5 ∷ number 1 ∷ gives (what.Designate (sub.Range ∷ [])) (0 ∷ 11 ∷ 12 ∷ 13 ∷ []) (kind.Section I32 1) ∷ yields (14 ∷ []) ∷ [])
    ∷ [])
    ∷ [])
    ∷ [])

kept_by_shift : faults (shift (kind.Array I32 1) 6) ≡ []
unfolding rules_open
kept_by_shift = refl

-- the constructor's value is not used
unused_vector : faults (shift (kind.Array I32 1) 1) ≡ (7, 4) ∷ []
unfolding rules_open
unused_vector = refl

-- The constructor's value has a wrong rank, which the assignment meets first.
wrong_rank : faults (shift (kind.Array I32 2) 6) ≡ (1, 6) ∷ (7, 3) ∷ []
unfolding rules_open
wrong_rank = refl
