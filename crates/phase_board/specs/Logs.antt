-- What a log tells.
use Rattle.std.specs.Prelude.{List, [], ◌∷◌, ◌++◌, Option, Some, None}
use Rattle.phase_board.specs.declared.close.ClosedBoard.{ClosedBoard}

-- where the boards are told, one more is
abbrev pub told_then : Option (List ClosedBoard) → ClosedBoard → Option (List ClosedBoard)
told_then None board = None
told_then (Some boards) board = Some (boards ++ board ∷ [])
