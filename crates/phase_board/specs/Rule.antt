-- The rule of a board's table: a list of steps of the core of which the words and the views tell.
use Rattle.std.specs.Prelude.{◌≡◌, ◌⊎◌, ℕ, suc, ◌<◌, ◌≤◌, cond, ltb, eqb, false, List, [], ◌∷◌, ◌++◌, length, take, slice_index}
use mathlib.Core.Option.{Option, none, some}
use lib.ListN.{get_elem?}
use Rattle.atomic_table.specs.Table.{State, Me, Step}
use Rattle.phase_ops.specs.Phases.{none_yet, lay}
use Rattle.phase_ops.specs.Free.{In}
use Rattle.phase_ops.specs.Course.{Course, course, memory_after, work_at, key_at}
use Rattle.team_core.specs.declared.member.MemberState.{MemberState}
use Rattle.team_core.specs.declared.member.MemberState.TheVariants.{Ready, Within, Out, Arrived, Ended}
use Rattle.team_core.specs.declared.member.StepKind.{StepKind}
use Rattle.team_core.specs.declared.member.StepKind.TheVariants.{See}
use Rattle.team_core.specs.declared.state.Counts.{Counts}
use Rattle.team_core.specs.declared.state.CoreState.{CoreState}
use Rattle.team_core.specs.declared.state.Member.{Member}
use Rattle.team_core.specs.Core.{counts_at, member, first_state, start}
use Rattle.team_core.specs.Machines.{Keyless}
use Rattle.team_core.specs.Runs.{happens, run}
use Rattle.team_core.specs.Laws.{MayStart}
use Rattle.phase_board.specs.declared.plays.Run.{Run}
use Rattle.phase_board.specs.declared.plays.View.{View}
use Rattle.phase_board.specs.declared.plays.Role.{Role}
use Rattle.phase_board.specs.declared.plays.Role.TheVariants.{Waiting, Of, Spent}

abbrev pub course_of : Run → Course
course_of r = course r.phases r.opening r.chunk r.team

abbrev pub four : Counts → List ℕ
four n = n.numbers.claimed ∷ n.numbers.finished ∷ n.numbers.arrived ∷ n.key ∷ []

abbrev pub count_words : List Counts → List ℕ
count_words [] = []
count_words (n ∷ ns) = n.numbers.claimed ∷ n.numbers.finished ∷ n.numbers.arrived ∷ n.key ∷ count_words ns

-- an unused word, the cells, and four words for each phase
abbrev pub words_of : CoreState → List ℕ
words_of k = 0 ∷ (k.cells ++ count_words k.counts)

-- A seat stands for the members that it owns, each in the state that its view says, and its view has what the member has found at
-- barriers.
abbrev pub Stands : Run → CoreState → (ℕ → List ℕ) → (ℕ → ℕ) → ℕ → List ℕ → Role → Type 0
Stands r k found owner seat sights (Waiting n) = (m : ℕ) → n ≤ m → m < r.team → (owner m ≡ seat) × (get_elem? k.members m ≡ some (member 0 (first_state (length r.phases)) false)) × (found m ≡ [])
Stands r k found owner seat sights (Of m t st full) = (owner m ≡ seat) × (get_elem? k.members m ≡ some (member t st full)) × (sights ≡ found m)
Stands r k found owner seat sights Spent = Unit {0}

-- a view tells the run's constants, but for a spent one
abbrev pub IsOf : Run → View → Type 0
IsOf r v = (v.role ≡ Spent) ⊎ (v.run ≡ r)

abbrev pub S : Type 0
S = Unit {0}

-- how many have arrived behind the member's phase
abbrev pub arrived_at : CoreState → Option Member → List ℕ
arrived_at k none = []
arrived_at k (some x) = (counts_at k x.phase).numbers.arrived ∷ []

-- what a step of the member m finds at its barrier: only a See looks there
abbrev pub sight : CoreState → ℕ → StepKind → List ℕ
sight k m See = arrived_at k (get_elem? k.members m)
sight k m _ = []

-- what the member m has found at barriers after these steps too, the last first
abbrev pub found_in : Course → CoreState → ℕ → List ℕ → List (ℕ × StepKind) → List ℕ
found_in c k m had [] = had
found_in c k m had (e ∷ es) = found_in c (happens c k e) m (cond (eqb e.0 m) (sight k m e.1) [] ++ had) es

-- the same from the start on
abbrev pub found_by : Course → List (ℕ × StepKind) → ℕ → List ℕ
found_by c steps m = found_in c (start c) m [] steps

-- a list of steps of the core leads from its start to this state
pub record Kept (r : Run) (s : State S View) : Type 0 where
  pub may : MayStart r.phases r.opening r.team r.chunk
  pub core : CoreState
  pub steps : List (ℕ × StepKind)
  pub core_is : core ≡ run (course_of r) (start (course_of r)) steps
  pub words_are : s.words ≡ words_of core
  pub owner : ℕ → ℕ
  pub seats : (seat : ℕ) (v : View) → get_elem? s.views seat ≡ some v → IsOf r v × Stands r core (found_by (course_of r) steps) owner seat v.sights v.role

-- a seat's role, and what its member has found at barriers
abbrev pub view : Run → Role → List ℕ → View
view r role sights = record { run = r; role = role; sights = sights }

abbrev pub base_view : Run → View
base_view r = view r (Waiting 0) []

abbrev Sat : Type 0
Sat = Me S View

abbrev pub with_role : Sat → Role → Sat
with_role me role = (view me.0.run role me.0.sights, me.1)

abbrev pub claimed_role : Course → ℕ → Role → Role
claimed_role c found (Of m t st full) = Of m t (cond (ltb found (work_at c t).units) (Within found 0) Out) false
claimed_role c found (Waiting n) = Waiting n
claimed_role c found Spent = Spent

abbrev pub phase_of : Role → ℕ
phase_of (Of m t st full) = t
phase_of (Waiting n) = 0
phase_of Spent = 0

-- a member that claims is at a phase before which none has a key
abbrev pub claimed : Step S → Sat → ℕ → Sat → Type 0
claimed st me found me' =
    (me' ≡ with_role me (claimed_role (course_of me.0.run) found me.0.role)) × Keyless (course_of me.0.run) (phase_of me.0.role)
    × MayStart me.0.run.phases me.0.run.opening me.0.run.team me.0.run.chunk

abbrev pub acted_state : MemberState → MemberState
acted_state (Within u d) = Within u (suc d)
acted_state Ready = Ready
acted_state Out = Out
acted_state Arrived = Arrived
acted_state Ended = Ended

abbrev pub state_to : (MemberState → MemberState) → Role → Role
state_to f (Of m t st full) = Of m t (f st) false
state_to f (Waiting n) = Waiting n
state_to f Spent = Spent

-- a count of effects that fits a word, one more too
abbrev pub HasFewDone : Role → Type 0
HasFewDone (Of m t (Within u d) full) = d < 4611686018427387904
HasFewDone _ = Unit {0}

-- a Put, a Least or a Note
abbrev pub acted : Step S → Sat → ℕ → Sat → Type 0
acted st me found me' = (me' ≡ with_role me (state_to acted_state me.0.role)) × HasFewDone me.0.role

abbrev pub finished : Step S → Sat → ℕ → Sat → Type 0
finished st me found me' = me' ≡ with_role me (state_to (λ _. Ready) me.0.role)

abbrev pub arrived : Step S → Sat → ℕ → Sat → Type 0
arrived st me found me' = me' ≡ with_role me (state_to (λ _. Arrived) me.0.role)

-- the value at the phase's start, laid over by the done effects of the seat's own unit
abbrev pub Looked : Course → ℕ → ℕ → Role → Type 0
Looked c cell found (Of m t (Within u d) full) = In cell ((work_at c t).reads u) → found ≡ slice_index (lay (memory_after c t) (take d ((work_at c t).effects u))) cell
Looked c cell found (Of m t Ready full) = In cell (work_at c t).parameter → found ≡ slice_index (memory_after c t) cell
Looked c cell found _ = Unit {0}

abbrev pub looked : Step S → Sat → ℕ → Sat → Type 0
looked st me found me' = (me' ≡ me) × ((cell : ℕ) → st.word ≡ suc cell → Looked (course_of me.0.run) cell found me.0.role)

abbrev pub seen_role : Course → ℕ → Role → Role
seen_role c found (Of m t st full) = Of m t Arrived (eqb found c.team)
seen_role c found (Waiting n) = Waiting n
seen_role c found Spent = Spent

abbrev pub seen_view : View → ℕ → View
seen_view v found = view v.run (seen_role (course_of v.run) found v.role) (found ∷ v.sights)

abbrev pub seen : Step S → Sat → ℕ → Sat → Type 0
seen st me found me' = (me' ≡ (seen_view me.0 found, me.1)) × (found ≤ me.0.run.team)

abbrev pub judged_role : Course → ℕ → Role → Role
judged_role c found (Of m t st full) = cond (ltb found none_yet) (Of m t Ended false) (cond (eqb (suc t) c.count) (Of m t Ended false) (Of m (suc t) Ready false))
judged_role c found (Waiting n) = Waiting n
judged_role c found Spent = Spent

abbrev pub judges_play : Step S → Sat → ℕ → Sat → Type 0
judges_play st me found me' = (me' ≡ with_role me (judged_role (course_of me.0.run) found me.0.role)) × (found ≡ key_at (course_of me.0.run) (phase_of me.0.role))

abbrev pub left_role : Role → Role
left_role (Waiting n) = Waiting (suc n)
left_role (Of m t st full) = Of m t st full
left_role Spent = Spent

abbrev pub right_role : Run → Role → Role
right_role r (Waiting n) = Of n 0 (first_state (length r.phases)) false
right_role r (Of m t st full) = Spent
right_role r Spent = Spent

abbrev pub cut_left : View → View
cut_left v = view v.run (left_role v.role) v.sights

abbrev pub cut_right : View → View
cut_right v = view v.run (right_role v.run v.role) []

abbrev pub spent_view : View
spent_view = record { run = record { phases = []; opening = []; team = 0; chunk = 0 }; role = Spent; sights = [] }

-- what is known of a phase that a member has entered
pub record AtPhase (r : Run) (t : ℕ) : Type 0 where
  pub may : MayStart r.phases r.opening r.team r.chunk
  pub there : t < length r.phases
  pub keyless : Keyless (course_of r) t

-- what is known of a member that holds a unit
pub record InUnit (r : Run) (t u d : ℕ) : Type 0 where
  pub may : MayStart r.phases r.opening r.team r.chunk
  pub there : t < length r.phases
  pub keyless : Keyless (course_of r) t
  pub unit : u < (work_at (course_of r) t).units
  pub done : d ≤ length ((work_at (course_of r) t).effects u)

-- what is known of a member in this state
abbrev pub IsKnown : Run → ℕ → MemberState → Type 0
IsKnown r t Ready = AtPhase r t
IsKnown r t (Within u d) = InUnit r t u d
IsKnown r t Out = AtPhase r t
IsKnown r t Arrived = AtPhase r t
IsKnown r t Ended = Unit {0}
