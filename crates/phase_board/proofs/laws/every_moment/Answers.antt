use Rattle.phase_board.proofs.Moments.{sound_moment}
use Rattle.phase_board.proofs.laws.every_moment.Goals as goal

pub returns : goal.returns
returns c = sound_moment
