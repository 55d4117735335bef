-- A core over a list of phases.
use Rattle.std.specs.Prelude.{◌≡◌, ◌≢◌, ◌↔◌, ℕ, ◌<◌, List, length}
use Rattle.std.specs.Prelude as std
use mathlib.Core.Option.{some}
use Rattle.phase_ops.specs.declared.phase.Phase.{Phase}
use Rattle.phase_ops.specs.Phases.{Cells}
use Rattle.phase_ops.specs.Course.{Course, course}
use Rattle.team_core.specs.declared.member.MemberState.TheVariants.{Ended}
use Rattle.team_core.specs.declared.member.StepKind.{StepKind}
use Rattle.team_core.specs.declared.member.StepKind.TheVariants.{Look}
use Rattle.team_core.specs.declared.state.CoreState.{CoreState}
use Rattle.team_core.specs.declared.team.Core.{Core}
use Rattle.team_core.specs.declared.units.PhaseUnits.{PhaseUnits}
use Rattle.team_core.specs.Core.{member_of}
use Rattle.team_core.specs.Runs.{stepped}
use Rattle.team_core.specs.Machines.{Holds}
use Rattle.team_core.specs.Laws.{MayStart, Closing}
use Rattle.team_core.specs.Units.{IsEntered}

abbrev pub state_of : Core → CoreState
state_of k = k.machine.state

-- the cells that the core began with, its team and its chunk
abbrev pub opening_of : Core → Cells
opening_of k = k.machine.work.opening

abbrev pub team_of : Core → ℕ
team_of k = k.machine.work.team

abbrev pub chunk_of : Core → ℕ
chunk_of k = k.chunk

abbrev pub course_of : List Phase → Core → Course
course_of ps k = course ps (opening_of k) (chunk_of k) (team_of k)

-- the course of the units that the core works on
abbrev pub units_course : List Phase → PhaseUnits → Course
units_course ps w = course ps w.opening w.chunk w.team

-- a core that was started with these phases
pub record IsCore (ps : List Phase) (k : Core) : Type 0 where
  pub may : MayStart ps (opening_of k) (team_of k) (chunk_of k)
  pub course_is : units_course ps k.machine.work ≡ course_of ps k
  pub holds : Holds (units_course ps k.machine.work) k.machine.state k.machine.pending k.machine.work.phase (IsEntered k.machine.work ps)
  pub sizes : (k.machine.team ≡ team_of k) × (k.machine.count ≡ length ps)

-- of the same run
abbrev pub IsSameRun : Core → Core → Type 0
IsSameRun k k' = (opening_of k' ≡ opening_of k) × (team_of k' ≡ team_of k) × (chunk_of k' ≡ chunk_of k)

-- a step of the member's is allowed, and leaves k'
abbrev pub Steps : Course → CoreState → ℕ → StepKind → CoreState → Type 0
Steps c k m kind k' = stepped c k m (member_of k m) kind (member_of k m).state ≡ some k'

-- the kind of step other than a look that the core allows to the member, which has none where it has ended
pub record IsNext (c : Course) (k : CoreState) (m : ℕ) (next : std.Option StepKind) : Type 0 where
  pub allows : (kind : StepKind) → next ≡ std.Some kind → (kind ≢ Look) × ((k' : CoreState) × Steps c k m kind k')
  pub only : (kind : StepKind) (k' : CoreState) → kind ≢ Look → Steps c k m kind k' → next ≡ std.Some kind
  pub none : (next ≡ std.None) ↔ ((member_of k m).state ≡ Ended)

-- where a member has ended, the phases are run up to the first with a key, or all are
abbrev pub ClosesWhenEnded : List Phase → Core → Type 0
ClosesWhenEnded ps k = (m : ℕ) → m < team_of k → (member_of (state_of k) m).state ≡ Ended → (entered : ℕ) × Closing ps (opening_of k) (chunk_of k) (state_of k) entered
