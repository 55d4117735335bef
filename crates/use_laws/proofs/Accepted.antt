-- The laws on uses of values.
use Rattle.std.proofs.Common.{[], length, arith}
use Rattle.hlfir_ops.specs.Numbers.{kinds_of}
use Rattle.hlfir_ops.specs.RulesPlaces.{outermost}
use Rattle.lower_constructs.specs.Modules.{lowered}
use Rattle.use_laws.specs.Laws.{OperandsAreDefined, ArraysAreUsedOnce}
use Rattle.use_laws.proofs.Counting.{array-above}
use Rattle.use_laws.proofs.Uses.{used}
use Rattle.use_laws.proofs.Programs.{lowered-uses}
use Rattle.use_laws.proofs.Once.{counted-once}

-- no value has a number that is not given
pub operands-defined : OperandsAreDefined
operands-defined t accepted =
    let kinds = kinds_of (lowered t).ops in (lowered-uses t accepted (length kinds) (array-above (length kinds) 0 kinds (omega arith))).passing outermost []

pub arrays-used-once : ArraysAreUsedOnce
arrays-used-once t accepted = counted-once (used (lowered t).ops) outermost (lowered t).ops (λ k strict. omega (arith, (lowered-uses t accepted k strict).balanced))
