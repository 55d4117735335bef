-- What holds of a team after every list of steps.
use Rattle.std.specs.Prelude.{slice_index, take, ◌≡◌, ℕ, suc, ◌<◌, ◌≤◌, List, length, slice_index_or}
use mathlib.Core.Option.{some}
use lib.ListN.{get_elem?}
use Rattle.team_core.specs.declared.member.MemberState.TheVariants.{Ended}
use Rattle.team_core.specs.declared.member.StepKind.{StepKind}
use Rattle.phase_ops.specs.declared.phase.Phase.{Phase}
use Rattle.phase_ops.specs.Phases.{Cells, none_yet, units, key, after}
use Rattle.phase_ops.specs.Free.{FreeList, IsChunk}
use Rattle.phase_ops.specs.Course.{Course, Safe, course, no_phase}
use Rattle.team_core.specs.declared.state.CoreState.{CoreState}
use Rattle.team_core.specs.declared.state.Member.{Member}
use Rattle.team_core.specs.Core.{Sound, counts_at, start}
use Rattle.phase_ops.specs.Phases.{lay}
use Rattle.phase_ops.specs.Free.{In}
use Rattle.phase_ops.specs.Course.{memory_after, work_at}
use Rattle.team_core.specs.Machines.{CanRun}
use Rattle.team_core.specs.declared.member.MemberState.TheVariants.{Ready, Within}
use Rattle.team_core.specs.Runs.{stepped, run, IsSafeStore}

-- a step of the kind keeps a sound core
abbrev pub Keeps : StepKind → Type 0
Keeps kind = (c : Course) (k k' : CoreState) (m : ℕ) (x : Member) → Safe c → Sound c k → get_elem? k.members m ≡ some x → stepped c k m x kind x.state ≡ some k' → Sound c k'

-- whatever its phases do, a core whose units are free of races is sound after every list of steps, and each store is safe
pub record EverySchedule : Type 0 where
  pub sound : (c : Course) (steps : List (ℕ × StepKind)) → Safe c → 0 < c.team → Sound c (run c (start c) steps)
  pub apart : (c : Course) (k : CoreState) (m : ℕ) → Safe c → Sound c k → IsSafeStore c k m

-- a team that may begin these phases
pub record MayStart (ps : List Phase) (opening : Cells) (team chunk : ℕ) : Type 0 where
  pub someone : 1 ≤ team
  pub team_small : team ≤ 64
  pub chunk_is : IsChunk chunk
  pub few : length ps ≤ 512
  pub free : FreeList ps opening

abbrev pub phase_at : List Phase → ℕ → Phase
phase_at ps t = slice_index_or ps t no_phase

-- The phases are run up to the first with a key, or all are. Each of these has its key and each of its units finished once, and
-- the cells are those that they leave.
pub record Closing (ps : List Phase) (opening : Cells) (chunk : ℕ) (k : CoreState) (entered : ℕ) : Type 0 where
  pub within : entered ≤ length ps
  pub cells_are : k.cells ≡ after ps opening chunk entered
  pub keys : (t : ℕ) → t < entered → (counts_at k t).key ≡ key (phase_at ps t) (after ps opening chunk t) chunk
  pub earlier : (t : ℕ) → suc t < entered → (counts_at k t).key ≡ none_yet
  pub stopped : entered < length ps → (t : ℕ) × (suc t ≡ entered) × ((counts_at k t).key < none_yet)
  pub finished : (t : ℕ) → t < entered → (counts_at k t).numbers.finished ≡ units (phase_at ps t) (after ps opening chunk t) chunk

-- What a member reads: in its unit the phase's start, laid over by what it has done itself, and before it claims the phase's start.
pub record ReadsLaw : Type 0 where
  pub within : (c : Course) (k : CoreState) (m : ℕ) (x : Member) (u d cell : ℕ) → Safe c → Sound c k → get_elem? k.members m ≡ some x → x.state ≡ Within u d → In cell ((work_at c x.phase).reads u)
      → slice_index k.cells cell ≡ slice_index (lay (memory_after c x.phase) (take d ((work_at c x.phase).effects u))) cell
  pub before : (c : Course) (k : CoreState) (m : ℕ) (x : Member) (cell : ℕ) → Safe c → Sound c k → get_elem? k.members m ≡ some x → x.state ≡ Ready → In cell (work_at c x.phase).parameter
      → slice_index k.cells cell ≡ slice_index (memory_after c x.phase) cell

-- The same for phases free of races, whose numbers fit their words. Where some member has ended, the core has closed.
pub record EveryTeam : Type 0 where
  pub can : (ps : List Phase) (opening : Cells) (team chunk : ℕ) → MayStart ps opening team chunk → CanRun (course ps opening chunk team)
  pub sound : (ps : List Phase) (opening : Cells) (team chunk : ℕ) (steps : List (ℕ × StepKind)) → MayStart ps opening team chunk
      → Sound (course ps opening chunk team) (run (course ps opening chunk team) (start (course ps opening chunk team)) steps)
  pub apart : (ps : List Phase) (opening : Cells) (team chunk : ℕ) (k : CoreState) (m : ℕ) → MayStart ps opening team chunk → Sound (course ps opening chunk team) k → IsSafeStore (course ps opening chunk team) k m
  pub closes : (ps : List Phase) (opening : Cells) (team chunk : ℕ) (k : CoreState) (m : ℕ) (x : Member) → MayStart ps opening team chunk → Sound (course ps opening chunk team) k
      → get_elem? k.members m ≡ some x → x.state ≡ Ended → (entered : ℕ) × Closing ps opening chunk k entered
