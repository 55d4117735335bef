-- With the text of what is left it is the text of all.
use Rattle.std.proofs.Common.{◌≡◌, ◌++◌, drop}
use Rattle.hlfir_text.specs.OperandText.{subs_text}
use Rattle.hlfir_text.proofs.operands.put_subs.Given as goal

abbrev pub invariant-subs : goal.invariant-subs
invariant-subs l = l.text.items ++ subs_text l.k (drop l.k l.subs) l.left ≡ l.fn.text.items ++ subs_text 0 l.subs l.fn.values
