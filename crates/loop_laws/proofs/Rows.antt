-- Small loops, computed.
use Rattle.std.proofs.Common.{◌≡◌, refl, false, List, [], ◌∷◌, ℤ, pos, ◌+ℤ◌, Ok, Err}
use Rattle.std.specs.Prelude.{slice_index_or}
use Rattle.ws_base.specs.declared.fault.FaultName.TheVariants.{Overflow}
use Rattle.ws_base.specs.Numbers.{exact, default_half}
use Rattle.phase_ops.specs.declared.phase.Source.TheVariants.{Fixed}
use Rattle.phase_ops.specs.declared.phase.Address.{Address}
use Rattle.phase_ops.specs.declared.phase.Micro.TheVariants as op
use Rattle.phase_ops.specs.declared.phase.ScalarOp.TheVariants as scalar
use Rattle.phase_ops.specs.declared.phase.Label.TheVariants.{Stage}
use Rattle.phase_ops.specs.declared.phase.Phase.{Phase}
use Rattle.phase_ops.specs.declared.phase.Phase.TheVariants.{Loop}
use Rattle.phase_ops.specs.Phases.{key, key_of, after_phase}
use Rattle.loop_laws.specs.Moves.{Move, Makes, whole}

-- `a(1:3) = a(1:3) + 1`, with a in the first three cells
abbrev adds_one : List (Move ℤ)
adds_one = Makes (λ s. exact default_half (slice_index_or s 0 (pos 0) +ℤ pos 1)) ∷ []

abbrev its_cell : Address
its_cell = record { base = Fixed (pos 0); terms = record { reg = 0; step = Fixed (pos 1) } ∷ [] }

abbrev adding : Phase
adding = Loop 9 Stage (Fixed (pos 3)) (record { line = 9; ops = op.Position ∷ op.Load its_cell ∷ op.Fixed (pos 1) ∷ op.Binary scalar.Add 1 2 ∷ op.Store its_cell 3 ∷ []; whole = false } ∷ [])

-- two positions fail, and the first of them is told
fails_twice : whole adds_one ((0, pos 7 ∷ []) ∷ (1, pos 2147483647 ∷ []) ∷ (2, pos 2147483647 ∷ []) ∷ []) ≡ Err (record { move = 0; iteration = 1; name = Overflow })
fails_twice = refl

has_its_key : key adding (7 ∷ 2147483647 ∷ 2147483647 ∷ []) 2 ≡ key_of 0 3 2 Overflow
has_its_key = refl

-- none fails, in units of 2
gives_all : whole adds_one ((0, pos 7 ∷ []) ∷ (1, pos 8 ∷ []) ∷ (2, pos 9 ∷ []) ∷ []) ≡ Ok ((0, pos 8 ∷ pos 7 ∷ []) ∷ (1, pos 9 ∷ pos 8 ∷ []) ∷ (2, pos 10 ∷ pos 9 ∷ []) ∷ [])
gives_all = refl

leaves_all : after_phase adding (7 ∷ 8 ∷ 9 ∷ []) 2 ≡ 8 ∷ 9 ∷ 10 ∷ []
leaves_all = refl
