use Rattle.std.proofs.Common.{◌≡◌, ◌∷◌, ◌++◌, replicate}
use Rattle.team_core.specs.Core.{blank}
use Rattle.phase_board.specs.Rule.{count_words}
use Rattle.phase_board.proofs.open.first_words.Given as goal

abbrev pub invariant-loop : goal.invariant-loop
invariant-loop l = l.words.items ≡ 0 ∷ (l.run.opening ++ count_words (replicate l.counter blank))
