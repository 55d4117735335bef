-- A small list of phases, computed.
use Rattle.std.proofs.Common.{◌≡◌, refl, false, List, [], ◌∷◌, ◌++◌, pos}
use Rattle.ws_base.specs.declared.fault.FaultName.TheVariants.{Overflow}
use Rattle.phase_ops.specs.declared.phase.Source.TheVariants.{Fixed}
use Rattle.phase_ops.specs.declared.phase.Address.{Address}
use Rattle.phase_ops.specs.declared.phase.Micro.TheVariants as op
use Rattle.phase_ops.specs.declared.phase.Label.TheVariants.{Stage}
use Rattle.phase_ops.specs.declared.phase.Phase.{Phase}
use Rattle.phase_ops.specs.declared.phase.Phase.TheVariants.{Set}
use Rattle.phase_ops.specs.Phases.{key_of, Failed, result}
use Rattle.list_laws.specs.Laws.{continued}

abbrev first_cell : Address
first_cell = record { base = Fixed (pos 0); terms = [] }

-- puts 1 into the cell
abbrev sets : List Phase
sets = Set 8 Stage (record { line = 8; ops = op.Fixed (pos 1) ∷ op.Store first_cell 0 ∷ []; whole = false } ∷ []) ∷ []

-- fails where the cell is 1
abbrev tests : List Phase
tests = Set 9 Stage (record { line = 9; ops = op.Load first_cell ∷ op.FailIf Overflow 0 ∷ []; whole = false } ∷ []) ∷ []

-- a fault of the second list stands behind the phases of the first
second_fails : result (sets ++ tests) (0 ∷ []) 1 ≡ Failed 1 (key_of 0 1 1 Overflow)
second_fails = refl

as_continued : continued 1 (λ x. result tests x 1) (result sets (0 ∷ []) 1) ≡ Failed 1 (key_of 0 1 1 Overflow)
as_continued = refl
