-- A run of ops that stores nothing, inside an act.
use Rattle.std.specs.Prelude.{◌≡◌, ℕ, ◌+◌, ◌*◌, ℤ, pos, List, [], ◌∷◌, ◌++◌, length}
use Rattle.ws_base.specs.declared.fault.FaultName.{FaultName}
use Rattle.phase_ops.specs.declared.effect.Effect.TheVariants.{Fault}
use Rattle.phase_ops.specs.declared.effect.Turn.{Turn}
use Rattle.phase_ops.specs.declared.effect.Turn.TheVariants.{Next, Shut, Fails, Does}
use Rattle.phase_ops.specs.declared.phase.Micro.{Micro}
use Rattle.phase_ops.specs.declared.phase.Micro.TheVariants as micro
use Rattle.phase_ops.specs.Phases.{Cells, looks, divisors, turn, Spot, Event, Makes, plain, ops_events}
use Rattle.ws_base.specs.Words.{fault_number}

-- where the ops lead: through, with all registers; out of the act by a gate; or to a fault of the op with this number
pub data Ran : Type 0 where
  Through : List ℤ → Ran
  Out : Ran
  Broke : ℕ → FaultName → Ran

abbrev pub stepped : ℕ → (ℤ → Ran) → Turn → Ran
stepped k next (Next z) = next z
stepped k next Shut = Out
stepped k next (Fails n) = Broke k n
stepped k next (Does e) = next (pos 0)

-- the ops at the iteration i, with the registers so far
abbrev pub ran : ℕ → Cells → List ℤ → List Micro → Ran
ran i m regs [] = Through regs
ran i m regs (op ∷ ops) = stepped (length regs) (λ z. ran i m (regs ++ z ∷ []) ops) (turn i m regs op)

abbrev pub seen_next : (ℤ → List Event) → Turn → List Event
seen_next next (Next z) = next z
seen_next next Shut = []
seen_next next (Fails n) = []
seen_next next (Does e) = next (pos 0)

-- what they load and divide by
abbrev pub seen : ℕ → Cells → List ℤ → List Micro → List Event
seen i m regs [] = []
seen i m regs (op ∷ ops) = plain (looks m regs op) (divisors m op) (seen_next (λ z. seen i m (regs ++ z ∷ []) ops) (turn i m regs op))

abbrev pub StoresNothing : Micro → Type 0
StoresNothing (micro.Store a r) = ⊥
StoresNothing (micro.Least a r) = ⊥
StoresNothing _ = Unit {0}

abbrev pub AllStoreNothing : List Micro → Type 0
AllStoreNothing [] = Unit {0}
AllStoreNothing (op ∷ ops) = StoresNothing op × AllStoreNothing ops

-- what comes behind
abbrev pub onward : Spot → List Micro → Cells → (Cells → List ℤ → List Event) → Ran → List Event
onward s more m rest (Through regs) = ops_events s more m regs rest
onward s more m rest Out = rest m []
onward s more m rest (Broke k n) = Makes (Fault (((s.act * 1048576 + k) * 1048576 + s.element) * 16 + fault_number n)) ∷ []

-- The ops of an act from a run of them on.
abbrev pub SegmentLaw : Type 0
SegmentLaw =
    (s : Spot) (ops more : List Micro) (m : Cells) (regs : List ℤ) (rest : Cells → List ℤ → List Event) → AllStoreNothing ops
    → ops_events s (ops ++ more) m regs rest ≡ seen s.iteration m regs ops ++ onward s more m rest (ran s.iteration m regs ops)
