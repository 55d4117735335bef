-- With the text of what is left it is the text of all, and so for the numbers.
use Rattle.std.proofs.Common.{◌≡◌, ◌++◌, ◌+◌, drop}
use Rattle.hlfir_ops.specs.Numbers.{numbers_of, numbers_in}
use Rattle.hlfir_text.specs.ModuleText.{lines_of, lines_in}
use Rattle.hlfir_text.proofs.printing.+lines.Given as goal

abbrev pub invariant-put_ops-ops : goal.invariant-put_ops-ops
invariant-put_ops-ops l =
    (l.text.items ++ lines_of l.depth l.yields l.next (drop l.op-index l.ops) ≡ l.fn.text.items ++ lines_of l.depth l.yields l.number l.ops) × (l.next + numbers_of (drop l.op-index l.ops) ≡ l.number + numbers_of l.ops)

abbrev pub invariant-put_regions-regions : goal.invariant-put_regions-regions
invariant-put_regions-regions l =
    (l.text.items ++ lines_in l.depth l.what l.next l.k (drop l.k l.regions) ≡ l.fn.text.items ++ lines_in l.depth l.what l.number 0 l.regions) × (l.next + numbers_in l.what l.k (drop l.k l.regions) ≡ l.number + numbers_in l.what 0 l.regions)
