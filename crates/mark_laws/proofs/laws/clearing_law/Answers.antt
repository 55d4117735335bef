use Rattle.mark_laws.proofs.Marks.{clearing_free, clearing_key, clearing_leaves}
use Rattle.mark_laws.proofs.laws.clearing_law.Goals as goal

pub returns : goal.returns
returns c = λ l b count acts m n marks w. (clearing_free l b count acts m n marks w, λ chunk is. (clearing_key l b count acts m n marks w chunk is, clearing_leaves l b count acts m n marks w chunk is))
