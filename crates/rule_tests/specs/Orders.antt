-- Lists of references to ops.
use Rattle.std.specs.Prelude.{List, map}
use Rattle.std.specs.Borrow.{Bor}
use Rattle.hlfir_ops.specs.declared.op.Op.{Op}

-- the ops that these refer to
abbrev pub ops_of : List (Bor Op) → List Op
ops_of = map (λ r. r.now)
