use Rattle.std.specs.Prelude.{true}
use Rattle.value_laws.proofs.Calls.{abs-if, mod-if, modulo-if, merge-if}
use Rattle.value_laws.proofs.laws.calls_are_settled.Goals as goal

pub returns : goal.returns
returns c = record { abs = abs-if true; modulo = modulo-if true; remainder = mod-if true; merge = merge-if true }
