use Rattle.std.proofs.Common.{ℤ}
use Rattle.loop_laws.proofs.Placed.{as_many, row_at, place_of_row}
use Rattle.loop_laws.proofs.laws.rows_law.Goals as goal

pub returns : goal.returns
returns c = λ target value ts. (as_many ℤ target value ts, row_at ℤ target value ts, place_of_row ℤ target value ts)
