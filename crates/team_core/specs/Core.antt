-- A team over a list of phases.
use Rattle.std.specs.Prelude.{◌≡◌, ◌⊎◌, ℕ, suc, ◌+◌, ◌<◌, ◌≤◌, cond, ltb, eqb, Bool, true, false, List, map, length, slice_index_or, slice_set, replicate}
use mathlib.Core.Option.{some}
use lib.ListN.{get_elem?}
use Rattle.team_core.specs.declared.member.MemberState.{MemberState}
use Rattle.team_core.specs.declared.member.MemberState.TheVariants.{Ready, Within, Out, Arrived, Ended}
use Rattle.phase_ops.specs.declared.effect.Effect.{Effect}
use Rattle.phase_ops.specs.Phases.{none_yet}
use Rattle.phase_ops.specs.Course.{Memory, apply, Course, memory_after, work_at, key_at}
use Rattle.team_core.specs.declared.state.Numbers.{Numbers}
use Rattle.team_core.specs.declared.state.Counts.{Counts}
use Rattle.team_core.specs.declared.state.Member.{Member}
use Rattle.team_core.specs.declared.state.CoreState.{CoreState}
use Rattle.team_core.specs.Front.{Front}

abbrev pub blank : Counts
blank = record { numbers = record { claimed = 0; finished = 0; arrived = 0 }; key = none_yet }

abbrev pub counts_at : CoreState → ℕ → Counts
counts_at k t = slice_index_or k.counts t blank

-- all have left the phase
abbrev pub settled : Course → ℕ → Counts
settled c t = record { numbers = record { claimed = (work_at c t).units + c.team; finished = (work_at c t).units; arrived = c.team }; key = none_yet }

-- a member's state in the phase t, where it is there or at the barrier before it
abbrev pub state_in : ℕ → Member → MemberState
state_in t x = cond (ltb x.phase t) Ready x.state

-- Where a member may stand. A mark stands only where all have arrived. A member is at the front, where it has ended only if that is
-- full and has a key, or at the barrier before it; or all phases are done, and it has ended at the last.
abbrev pub Place : Course → CoreState → ℕ → Member → Type 0
Place c k front x =
    (x.full ≡ true → (counts_at k x.phase).numbers.arrived ≡ c.team)
    × (((x.state ≡ Ended → ((counts_at k front).numbers.arrived ≡ c.team) × ((counts_at k front).key < none_yet)) × (x.phase ≡ front) × (front < c.count))
    ⊎ ((x.state ≡ Arrived) × (suc x.phase ≡ front))
    ⊎ ((x.state ≡ Ended) × (front ≡ c.count) × ((suc x.phase ≡ c.count) ⊎ (c.count ≡ 0))))

-- Before the front all members have left each phase without a key, behind it nothing is done, and the front is that of a team in
-- these states.
pub record Sound (c : Course) (k : CoreState) : Type 0 where
  pub front : ℕ
  pub sized : length k.counts ≡ c.count
  pub team_is : length k.members ≡ c.team
  pub cells_are : length k.cells ≡ length c.opening
  pub within : front ≤ c.count
  pub keyless : (t : ℕ) → t < front → key_at c t ≡ none_yet
  pub before : (t : ℕ) → t < front → counts_at k t ≡ settled c t
  pub here : front < c.count → Front (work_at c front) (memory_after c front, none_yet) (counts_at k front).numbers (k.cells, (counts_at k front).key) (map (state_in front) k.members)
  pub whole : front ≡ c.count → k.cells ≡ memory_after c front
  pub waiting : front < c.count → ((counts_at k front).numbers.arrived < c.team) ⊎ ((counts_at k front).key < none_yet)
  pub later : (t : ℕ) → front < t → counts_at k t ≡ blank
  pub places : (m : ℕ) (x : Member) → get_elem? k.members m ≡ some x → Place c k front x

-- sound, with this front
abbrev pub SoundAt : Course → ℕ → CoreState → Type 0
SoundAt c t k = (s : Sound c k) × (s.front ≡ t)

abbrev pub member : ℕ → MemberState → Bool → Member
member t s f = record { phase = t; state = s; full = f }

-- the core after a member's step at a phase
abbrev pub core_after : CoreState → ℕ → ℕ → Memory → Numbers → Member → CoreState
core_after k m t now n x = record { cells = now.0; counts = slice_set k.counts t (record { numbers = n; key = now.1 }); members = slice_set k.members m x }

-- a step that changes a member alone
abbrev pub core_with : CoreState → ℕ → Member → CoreState
core_with k m x = record { cells = k.cells; counts = k.counts; members = slice_set k.members m x }

abbrev pub nobody : Member
nobody = member 0 Ready false

abbrev pub member_of : CoreState → ℕ → Member
member_of k m = slice_index_or k.members m nobody

-- the member is one of the team, and its phase has words
pub record IsPlaced (k : CoreState) (m : ℕ) : Type 0 where
  pub one : m < length k.members
  pub at_phase : (member_of k m).phase < length k.counts

-- The steps of the member m, which is x

-- of a phase that has so many units
abbrev pub claims_of : ℕ → CoreState → ℕ → Member → CoreState
claims_of units k m x =
    let a : Counts = counts_at k x.phase in
    core_after k m x.phase (k.cells, a.key) (record a.numbers { claimed = a.numbers.claimed + 1 })
    (member x.phase (cond (ltb a.numbers.claimed units) (Within a.numbers.claimed 0) Out) false)

abbrev pub claims : Course → CoreState → ℕ → Member → CoreState
claims c k m x = claims_of (work_at c x.phase).units k m x

-- a Put, a Least or a Note
abbrev pub acts : CoreState → ℕ → Member → Effect → ℕ → ℕ → CoreState
acts k m x e u d = core_after k m x.phase (apply e (k.cells, (counts_at k x.phase).key)) (counts_at k x.phase).numbers (member x.phase (Within u (suc d)) false)

abbrev pub finishes : CoreState → ℕ → Member → CoreState
finishes k m x =
    let a : Counts = counts_at k x.phase in
    core_after k m x.phase (k.cells, a.key) (record a.numbers { finished = a.numbers.finished + 1 }) (member x.phase Ready false)

abbrev pub arrives : CoreState → ℕ → Member → CoreState
arrives k m x =
    let a : Counts = counts_at k x.phase in
    core_after k m x.phase (k.cells, a.key) (record a.numbers { arrived = a.numbers.arrived + 1 }) (member x.phase Arrived false)

-- in a team of this size
abbrev pub sees_of : ℕ → CoreState → ℕ → Member → CoreState
sees_of team k m x = core_with k m (member x.phase Arrived (eqb (counts_at k x.phase).numbers.arrived team))

abbrev pub sees : Course → CoreState → ℕ → Member → CoreState
sees c k m x = sees_of c.team k m x

-- of so many phases
abbrev pub judged : ℕ → CoreState → Member → Member
judged count k x = cond (ltb (counts_at k x.phase).key none_yet) (member x.phase Ended false) (cond (eqb (suc x.phase) count) (member x.phase Ended false) (member (suc x.phase) Ready false))

abbrev pub judges_of : ℕ → CoreState → ℕ → Member → CoreState
judges_of count k m x = core_with k m (judged count k x)

abbrev pub judges : Course → CoreState → ℕ → Member → CoreState
judges c k m x = judges_of c.count k m x

abbrev pub first_state : ℕ → MemberState
first_state count = cond (eqb count 0) Ended Ready

-- over these cells, for so many members and phases
abbrev pub start_of : List ℕ → ℕ → ℕ → CoreState
start_of opening team count = record { cells = opening; counts = replicate count blank; members = replicate team (member 0 (first_state count) false) }

abbrev pub start : Course → CoreState
start c = start_of c.opening c.team c.count

-- the phases are run up to the first with a key, or all are: the cells, and how many phases were entered
pub record Ending (c : Course) (k : CoreState) (entered : ℕ) : Type 0 where
  pub within : entered ≤ c.count
  pub cells_are : k.cells ≡ memory_after c entered
  pub earlier : (t : ℕ) → suc t < entered → (counts_at k t).key ≡ none_yet
  pub keys : (t : ℕ) → t < entered → (counts_at k t).key ≡ key_at c t
  pub stopped : entered < c.count → (t : ℕ) × (suc t ≡ entered) × ((counts_at k t).key < none_yet)
  pub finished : (t : ℕ) → t < entered → (counts_at k t).numbers.finished ≡ (work_at c t).units
  pub untouched : (t : ℕ) → entered ≤ t → counts_at k t ≡ blank
