-- With the text of what is left it is the text of all.
use Rattle.std.proofs.Common.{◌≡◌, ◌++◌, drop}
use Rattle.hlfir_text.specs.ModuleText.{names_text}
use Rattle.hlfir_text.proofs.printing.put_names.Given as goal

abbrev pub invariant-names : goal.invariant-names
invariant-names l = l.text.items ++ names_text l.k l.next (drop l.k l.names) ≡ l.fn.text.items ++ names_text 0 l.number l.names
