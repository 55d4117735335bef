use Rattle.value_laws.proofs.ClearExpressions.{clear-whole}
use Rattle.value_laws.proofs.laws.expressions_are_clear.Goals as goal

pub returns : goal.returns
returns c parts vectors base s n below g e sound h = clear-whole base s below parts vectors e n g sound h
