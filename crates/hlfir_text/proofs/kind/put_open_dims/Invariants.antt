-- So many dimensions stand there.
use Rattle.std.proofs.Common.{◌≡◌, ◌++◌}
use Rattle.hlfir_text.specs.KindText.{open_dims}
use Rattle.hlfir_text.proofs.kind.put_open_dims.Given as goal

abbrev pub invariant-dims : goal.invariant-dims
invariant-dims l = l.text.items ≡ l.fn.text.items ++ open_dims l.counter
