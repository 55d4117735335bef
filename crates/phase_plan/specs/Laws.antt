-- What holds of every plan.
use Rattle.std.specs.Prelude.{◌≡◌, map}
use Rattle.hlfir_ops.specs.declared.op.Module.{Module}
use Rattle.storage_owner.specs.Groups.{groups_of}
use Rattle.phase_plan.specs.Begun.{begins}

-- The groups of a plan are those that own cells: the same ops in the same order.
abbrev pub GroupsLaw : Type 0
GroupsLaw = (m : Module) → map (λ b. b.op) (begins m) ≡ groups_of m.ops
