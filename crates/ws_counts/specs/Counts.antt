-- The steps of a statement, and what they count.
use Rattle.std.specs.Prelude.{ℕ, ◌+◌, ◌*◌, max, Bool, true, false, if◌then◌else◌, List, [], ◌∷◌, ◌++◌, map, Option, Some, None}
use Rattle.std.specs.List.{flat_map}
use Rattle.ws_tree.specs.declared.stmt.Body.{Body}
use Rattle.ws_tree.specs.declared.stmt.Body.TheVariants.{Forall'}
use Rattle.ws_types.specs.declared.types.Row.{Row}
use Rattle.ws_types.specs.Steps.{Mask, Assignment, Step, where_steps}
use Rattle.ws_types.specs.Tables.{inner}
use Rattle.ws_counts.specs.declared.tally.Piece.{Piece}
use Rattle.ws_counts.specs.declared.tally.Piece.TheVariants as piece
use Rattle.ws_counts.specs.Pieces.{pieces, mask_pieces, header_pieces, forall_pieces}

-- ---- the steps of an assignment, WHERE or FORALL, each as the pieces in it

-- a mask of a WHERE
abbrev pub test_pieces : List Row → Mask → List Piece
test_pieces t m = mask_pieces t false m.test

abbrev pub sides_pieces : List Row → Option Assignment → List Piece
sides_pieces t None = []
sides_pieces t (Some a) = pieces t false false a.left ++ pieces t false false a.right

-- the new masks of the step, and its assignment
abbrev pub step_pieces : List Row → Step → List Piece
step_pieces t s = flat_map (test_pieces t) s.masks ++ sides_pieces t s.assignment

-- An assignment ends its step. What stands after the last one is a step of its own, and the pieces in front belong to the first step.
abbrev pub steps_from : List Piece → List Piece → List (List Piece)
steps_from [] [] = []
steps_from (p ∷ ps) [] = (p ∷ ps) ∷ []
steps_from ps (piece.Assigned ∷ qs) = ps ∷ steps_from [] qs
steps_from ps (q ∷ qs) = steps_from (ps ++ q ∷ []) qs

-- In a FORALL, header and mask belong to the step of the first assignment.
abbrev pub statement_steps : List Row → ℕ → Body → List (List Piece)
statement_steps t line (Forall' is mask _ block) = steps_from [] (header_pieces t is mask ++ forall_pieces (inner t is) block)
statement_steps t line body = map (step_pieces t) (where_steps line body)

-- ---- counts

-- what a piece counts as, which stands here once for each
pub record Counted : Type 0 where
  pub part : Bool
  pub reduction : Bool
  pub mask : Bool
  pub whole : Bool
  pub whole_in_mask : Bool

abbrev pub uncounted : Counted
uncounted = record { part = false; reduction = false; mask = false; whole = false; whole_in_mask = false }

abbrev pub counted_as : Piece → Counted
counted_as piece.Part = record uncounted { part = true }
counted_as piece.Reduction = record uncounted { reduction = true }
counted_as (piece.Whole mask) = record uncounted { whole = true; whole_in_mask = mask }
counted_as piece.Mask = record uncounted { mask = true }
counted_as piece.Assigned = uncounted

abbrev pub is_part : Piece → Bool
is_part = λ p. (counted_as p).part

abbrev pub is_reduction : Piece → Bool
is_reduction = λ p. (counted_as p).reduction

abbrev pub is_mask : Piece → Bool
is_mask = λ p. (counted_as p).mask

abbrev pub is_whole : Piece → Bool
is_whole = λ p. (counted_as p).whole

abbrev pub is_whole_in_mask : Piece → Bool
is_whole_in_mask = λ p. (counted_as p).whole_in_mask

abbrev pub how_many : (Piece → Bool) → List Piece → ℕ
how_many test [] = 0
how_many test (p ∷ ps) = (if test p then 1 else 0) + how_many test ps

abbrev pub parts_in : List Piece → ℕ
parts_in = how_many is_part

abbrev pub reductions_in : List Piece → ℕ
reductions_in = how_many is_reduction

abbrev pub masks_in : List Piece → ℕ
masks_in = how_many is_mask

-- vector subscripts that are evaluated whole
abbrev pub wholes_in : List Piece → ℕ
wholes_in = how_many is_whole

abbrev pub wholes_in_masks : List Piece → ℕ
wholes_in_masks = how_many is_whole_in_mask

abbrev pub step_phases : List Piece → ℕ
step_phases ps = 6 + masks_in ps + 3 * reductions_in ps + 2 * wholes_in ps

-- of a step after these steps of the same statement: 2, the masks of the statement up to its own, its reductions, and the vector subscripts that are
-- evaluated whole in these masks or in the step itself
abbrev pub step_temporaries : List Piece → List Piece → ℕ
step_temporaries before ps = 2 + masks_in (before ++ ps) + reductions_in ps + (wholes_in_masks before + wholes_in ps)

abbrev pub parts_of : List (List Piece) → ℕ
parts_of [] = 0
parts_of (s ∷ ss) = parts_in s + parts_of ss

abbrev pub phases_of : List (List Piece) → ℕ
phases_of [] = 0
phases_of (s ∷ ss) = step_phases s + phases_of ss

-- the greatest number of any step
abbrev pub temporaries_after : List Piece → List (List Piece) → ℕ
temporaries_after before [] = 0
temporaries_after before (s ∷ ss) = max (step_temporaries before s) (temporaries_after (before ++ s) ss)

abbrev pub temporaries_of : List (List Piece) → ℕ
temporaries_of ss = temporaries_after [] ss
