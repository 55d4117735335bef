-- A phase that takes registers and does nothing.
use Rattle.std.specs.Prelude.{ℕ, true, [], ◌∷◌, replicate, pos}
use Rattle.phase_ops.specs.declared.phase.Micro.TheVariants.{Fixed}
use Rattle.phase_ops.specs.declared.phase.Act.{Act}
use Rattle.phase_ops.specs.declared.phase.Label.TheVariants.{Stage}
use Rattle.phase_ops.specs.declared.phase.Phase.{Phase}
use Rattle.phase_ops.specs.declared.phase.Phase.TheVariants.{Set}

-- so many ops, which load and store nothing
abbrev pub idle_act : ℕ → Act
idle_act ops = record { line = 5; ops = replicate ops (Fixed (pos 0)); whole = true }

abbrev pub idle : ℕ → Phase
idle ops = Set 5 Stage (idle_act ops ∷ [])
