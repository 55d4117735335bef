use Rattle.std.proofs.Common.{ℤ}
use Rattle.save_laws.proofs.Saves.{assigning_free, assigning_key, assigning_leaves}
use Rattle.save_laws.proofs.laws.assigning_law.Goals as goal

pub returns : goal.returns
returns c = λ l b count acts m m' n value target t a base ts few sv w. (
  assigning_free ℤ value target t a base ts count acts m m' n few sv w l b,
  λ chunk is. (assigning_key ℤ value target t a base ts count acts m m' n few sv w l b chunk is, assigning_leaves ℤ value target t a base ts count acts m m' n few sv w l b chunk is),
)
