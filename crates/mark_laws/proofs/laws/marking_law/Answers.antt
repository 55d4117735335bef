use Rattle.mark_laws.proofs.Marks.{marking_free, marking_key, marking_leaves}
use Rattle.mark_laws.proofs.laws.marking_law.Goals as goal

pub returns : goal.returns
returns c = λ l b count acts m n marks z from at w. (marking_free l b count acts m n marks z from at w, λ chunk is. (marking_key l b count acts m n marks z from at w chunk is, marking_leaves l b count acts m n marks z from at w chunk is))
