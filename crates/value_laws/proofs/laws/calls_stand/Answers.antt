use Rattle.std.specs.Prelude.{false}
use Rattle.value_laws.proofs.Calls.{abs-if, mod-if, modulo-if, merge-if}
use Rattle.value_laws.proofs.laws.calls_stand.Goals as goal

pub returns : goal.returns
returns c = record { abs = abs-if false; modulo = modulo-if false; remainder = mod-if false; merge = merge-if false }
