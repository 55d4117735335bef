-- Addresses and acts that are always the same.
use Rattle.std.specs.Prelude.{ℕ, false, List, [], ◌∷◌, ◌++◌, pos, negsuc}
use Rattle.phase_ops.specs.declared.phase.Source.TheVariants.{Fixed}
use Rattle.phase_ops.specs.declared.phase.Address.{Address}
use Rattle.phase_ops.specs.declared.phase.Micro.{Micro}
use Rattle.phase_ops.specs.declared.phase.Micro.TheVariants as op
use Rattle.phase_ops.specs.declared.phase.ScalarOp.TheVariants as scalar
use Rattle.phase_ops.specs.declared.phase.Act.{Act}

-- the cell whose number is this one and the register
abbrev pub from : ℕ → ℕ → Address
from base reg = record { base = Fixed (pos base); terms = record { reg = reg; step = Fixed (pos 1) } ∷ [] }

abbrev pub act : ℕ → List Micro → List Act
act line ops = record { line = line; ops = ops; whole = false } ∷ []

-- minus the number of the position, from 1
abbrev pub negative_ops : List Micro
negative_ops = op.Position ∷ op.Fixed (negsuc 0) ∷ op.Binary scalar.Sub 1 0 ∷ []

abbrev pub idle_act : ℕ → ℕ → Act
idle_act line a = record { line = line; ops = negative_ops ++ op.Store (from a 0) 2 ∷ []; whole = false }
