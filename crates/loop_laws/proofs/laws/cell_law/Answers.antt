use Rattle.loop_laws.proofs.Touched.{same_length, by_one, by_none}
use Rattle.loop_laws.proofs.laws.cell_law.Goals as goal

pub returns : goal.returns
returns c = λ l b count acts m n chunk is fit. (same_length l b count acts m n chunk is fit, by_one l b count acts m n chunk is fit, by_none l b count acts m n chunk is fit)
