-- The steps of a core, and whole schedules of them.
use Rattle.std.specs.Prelude.{◌≡◌, ◌≢◌, ◌⊎◌, ℕ, eqb, cond, List, [], ◌∷◌, length}
use mathlib.Core.Option.{Option, none, some}
use lib.ListN.{get_elem?}
use Rattle.team_core.specs.declared.member.MemberState.{MemberState}
use Rattle.team_core.specs.declared.member.MemberState.TheVariants.{Ready, Within, Out, Arrived, Ended}
use Rattle.team_core.specs.declared.member.StepKind.{StepKind}
use Rattle.team_core.specs.declared.member.StepKind.TheVariants.{Claim, Look, Put, Note, Finish, Arrive, See, Verdict}
use Rattle.team_core.specs.declared.member.StepKind.TheVariants as kind
use Rattle.phase_ops.specs.declared.effect.Effect.{Effect}
use Rattle.phase_ops.specs.declared.effect.Effect.TheVariants.{Store, Least, Fault}
use Rattle.phase_ops.specs.Free.{In}
use Rattle.phase_ops.specs.Course.{Course, work_at}
use Rattle.team_core.specs.declared.state.CoreState.{CoreState}
use Rattle.team_core.specs.declared.state.Member.{Member}
use Rattle.team_core.specs.Core.{claims, acts, finishes, arrives, sees, judges}

-- the member m does the next effect of its unit, where that is a Store, a Least or a Fault
abbrev pub put_or : CoreState → ℕ → Member → ℕ → ℕ → Option Effect → Option CoreState
put_or k m x u d (some (Store c v)) = some (acts k m x (Store c v) u d)
put_or k m x u d _ = none

abbrev pub least_or : CoreState → ℕ → Member → ℕ → ℕ → Option Effect → Option CoreState
least_or k m x u d (some (Least c v)) = some (acts k m x (Least c v) u d)
least_or k m x u d _ = none

abbrev pub note_or : CoreState → ℕ → Member → ℕ → ℕ → Option Effect → Option CoreState
note_or k m x u d (some (Fault f)) = some (acts k m x (Fault f) u d)
note_or k m x u d _ = none

-- the core after a step of the kind, where the state allows it
abbrev pub stepped : Course → CoreState → ℕ → Member → StepKind → MemberState → Option CoreState
stepped c k m x Claim Ready = some (claims c k m x)
stepped c k m x Look Ready = some k
stepped c k m x Look (Within u d) = some k
stepped c k m x Put (Within u d) = put_or k m x u d (get_elem? ((work_at c x.phase).effects u) d)
stepped c k m x kind.Least (Within u d) = least_or k m x u d (get_elem? ((work_at c x.phase).effects u) d)
stepped c k m x Note (Within u d) = note_or k m x u d (get_elem? ((work_at c x.phase).effects u) d)
stepped c k m x Finish (Within u d) = cond (eqb d (length ((work_at c x.phase).effects u))) (some (finishes k m x)) none
stepped c k m x Arrive Out = some (arrives k m x)
stepped c k m x See Arrived = cond x.full none (some (sees c k m x))
stepped c k m x Verdict Arrived = cond x.full (some (judges c k m x)) none
stepped c k m x _ _ = none

abbrev pub of_member : Course → CoreState → ℕ → StepKind → Option Member → Option CoreState
of_member c k m kind none = none
of_member c k m kind (some x) = stepped c k m x kind x.state

abbrev pub or_same : CoreState → Option CoreState → CoreState
or_same k none = k
or_same k (some k') = k'

-- a step that is not allowed changes nothing
abbrev pub happens : Course → CoreState → ℕ × StepKind → CoreState
happens c k e = or_same k (of_member c k e.0 e.1 (get_elem? k.members e.0))

abbrev pub run : Course → CoreState → List (ℕ × StepKind) → CoreState
run c k [] = k
run c k (e ∷ es) = run c (happens c k e) es

-- the next effect of the member m is a Store or a Least of this cell
abbrev pub Stores : Course → CoreState → ℕ → ℕ → Type 0
Stores c k m cell =
    (x : Member) × (u : ℕ) × (d : ℕ) × (value : ℕ) × (get_elem? k.members m ≡ some x) × (x.state ≡ Within u d)
    × ((get_elem? ((work_at c x.phase).effects u) d ≡ some (Store cell value)) ⊎ (get_elem? ((work_at c x.phase).effects u) d ≡ some (Least cell value)))

-- The cells that a member in this state reads before its next step. A member past its units reads none.
abbrev pub Reads : Course → Member → MemberState → ℕ → Type 0
Reads c x Ready cell = In cell (work_at c x.phase).parameter
Reads c x (Within u d) cell = In cell ((work_at c x.phase).reads u)
Reads c x Out cell = ⊥
Reads c x Arrived cell = ⊥
Reads c x Ended cell = ⊥

-- the member j may read the cell
abbrev pub MayRead : Course → CoreState → ℕ → ℕ → Type 0
MayRead c k j cell = (x : Member) × (get_elem? k.members j ≡ some x) × Reads c x x.state cell

-- no other member may read a cell that the member m is about to change
abbrev pub IsSafeStore : Course → CoreState → ℕ → Type 0
IsSafeStore c k m = (cell j : ℕ) → Stores c k m cell → j ≢ m → MayRead c k j cell → ⊥
