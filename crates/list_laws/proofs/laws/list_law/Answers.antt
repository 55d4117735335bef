use Rattle.std.proofs.Common.{None}
use Rattle.list_laws.proofs.Lists.{joins_join, both_free, both_end}
use Rattle.list_laws.proofs.laws.list_law.Goals as goal

pub returns : goal.returns
returns c = λ ps qs m f j next. (
  record { joins = joins_join None ps qs f.joins j; phases = λ chunk is. both_free ps qs m chunk (f.phases chunk is) (next chunk is) },
  λ chunk is. both_end ps qs m chunk (f.phases chunk is) (next chunk is),
)
