use Rattle.mark_laws.proofs.Marks.{checking_free, checking_key, checking_leaves}
use Rattle.mark_laws.proofs.laws.checking_law.Goals as goal

pub returns : goal.returns
returns c = λ l b count acts m m' n marks z from act op at marked places w. (
  checking_free l b count acts m m' n marks z from act op at marked places w,
  λ chunk is. (checking_key l b count acts m m' n marks z from act op at marked places w chunk is, checking_leaves l b count acts m m' n marks z from act op at marked places w chunk is),
)
