use Rattle.phase_ops.proofs.Held.{key_held}
use Rattle.phase_board.proofs.close.ClosedBoard.key.Goals as goal

pub returns-clause-stands : goal.returns-clause-stands
returns-clause-stands c = λ s. let h = c.args.self.now.outcome.has_key s in (h.0, key_held _ _ h.1)
