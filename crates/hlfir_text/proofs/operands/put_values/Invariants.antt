-- With the text of what is left it is the text of all.
use Rattle.std.proofs.Common.{◌≡◌, ◌++◌, drop}
use Rattle.hlfir_text.specs.OperandText.{values_text}
use Rattle.hlfir_text.proofs.operands.put_values.Given as goal

abbrev pub invariant-values : goal.invariant-values
invariant-values l = l.text.items ++ values_text l.form l.k (drop l.k l.values) ≡ l.fn.text.items ++ values_text l.form 0 l.values
