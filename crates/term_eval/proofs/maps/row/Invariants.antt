use Rattle.std.proofs.Common.{◌≡◌, map, take, get_or, pos}
use Rattle.term_eval.proofs.maps.row.Given as goal

abbrev pub invariant-loop-column : goal.invariant-loop-column
invariant-loop-column l = l.row ≡ map (λ c. get_or c l.at (pos 0)) (take l.column-index l.columns)
