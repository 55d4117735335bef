-- So many regions are indented for.
use Rattle.std.proofs.Common.{◌≡◌, ◌++◌}
use Rattle.hlfir_text.specs.ModuleText.{indent}
use Rattle.hlfir_text.proofs.head.put_indent.Given as goal

abbrev pub invariant-depth : goal.invariant-depth
invariant-depth l = l.text.items ≡ l.fn.text.items ++ indent l.counter
