-- A small saved assignment, computed.
use Rattle.std.proofs.Common.{◌≡◌, refl, ℕ, false, [], ◌∷◌, pos}
use Rattle.phase_ops.specs.declared.phase.Source.TheVariants.{Fixed}
use Rattle.phase_ops.specs.declared.phase.Address.{Address}
use Rattle.phase_ops.specs.declared.phase.Micro.TheVariants as op
use Rattle.phase_ops.specs.declared.phase.Label.TheVariants.{Stage}
use Rattle.phase_ops.specs.Phases.{Finished, result}
use Rattle.save_laws.specs.Pairs.{Lap, loop}

-- the cell of the position, from this one on
abbrev at_position : ℕ → Address
at_position base = record { base = Fixed (pos base); terms = record { reg = 0; step = Fixed (pos 1) } ∷ [] }

-- two positions copy a cell each
abbrev copying : ℕ → ℕ → Lap
copying here there = record { line = 9; label = Stage; count = Fixed (pos 2); acts = record { line = 9; ops = op.Position ∷ op.Load (at_position here) ∷ op.Store (at_position there) 1 ∷ []; whole = false } ∷ [] }

-- `a(2:3) = a(1:2)` with a in the first three cells and the temporary behind it
shifts : result (loop (copying 0 3) ∷ loop (copying 3 1) ∷ []) (1 ∷ 2 ∷ 3 ∷ 0 ∷ 0 ∷ []) 1 ≡ Finished (1 ∷ 1 ∷ 2 ∷ 1 ∷ 2 ∷ [])
shifts = refl
