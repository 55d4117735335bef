use Rattle.std.proofs.Common.{ℤ}
use Rattle.save_laws.proofs.Values.{values_free, values_key, values_leave}
use Rattle.save_laws.proofs.laws.value_assigning_law.Goals as goal

pub returns : goal.returns
returns c = λ l b count acts m m' n target value t ts sv w. (
  values_free ℤ target value t ts count acts m m' n sv w l b,
  λ chunk is. (values_key ℤ target value t ts count acts m m' n sv w l b chunk is, values_leave ℤ target value t ts count acts m m' n sv w l b chunk is),
)
