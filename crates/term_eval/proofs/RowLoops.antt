-- Loops that keep one answer for each row of columns.
use Rattle.std.proofs.Common.{◌≡◌, ℕ, ◌+◌, ◌<◌, ◌≤◌, List, [], length, map, drop, get_or, All, Ok, Result, ℤ, pos, sym, ap, ◌∙◌, arith}
use Rattle.ws_base.specs.declared.fault.FaultName.{FaultName}
use Rattle.ws_base.specs.Outcomes.{each, rows}
use Rattle.term_eval.specs.declared.stop.Stop.{Stop}
use Rattle.term_eval.specs.Made.{Stops, keeps, made_then}
use Rattle.term_eval.proofs.Columns.{rows-length, rows-at}
use Rattle.term_eval.proofs.Made.{one_more, stops_at, all_made}

module _ {X B : Type 0} (f : List ℤ → Result B FaultName) (at : List X) (cs : List (List ℤ)) (all : All (λ c. length c ≡ length at) cs) (i : ℕ) where
  -- what the loop has made from the rows before this one
  abbrev IsMade : List B → ℕ → Type 0
  IsMade made k = each f (rows at cs) ≡ made_then made (each f (drop k (rows at cs)))

  module _ (r : Result B FaultName) (row : List ℤ) (is : r ≡ f row) (row_is : row ≡ map (λ c. get_or c i (pos 0)) cs) (made : List B) (low : i < length at) where
    answer_is : r ≡ f (get_or (rows at cs) i [])
    answer_is = is ∙ ap f (row_is ∙ sym (rows-at at cs i [] all low))

    row_low : i < length (rows at cs)
    row_low = omega (arith, rows-length at cs all, low)

    pub row_kept : (new : List B) → keeps r made ≡ Ok new → IsMade made i → IsMade new (i + 1)
    row_kept new step before = one_more f (rows at cs) i [] r made new row_low answer_is step before

    pub row_stops : (s : Stop) → Stops s (keeps r made) → IsMade made i → Stops s (each f (rows at cs))
    row_stops s stops before = stops_at f (rows at cs) i [] r made s row_low answer_is stops before

  pub rows_made : (made : List B) → length at ≤ i → IsMade made i → each f (rows at cs) ≡ Ok made
  rows_made made past before = all_made f (rows at cs) i made (omega (arith, rows-length at cs all, past)) before
