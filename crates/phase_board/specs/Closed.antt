-- What a board gives when it is closed.
use Rattle.std.specs.Prelude.{◌≡◌, ℕ, suc, ◌-◌, ◌<◌, ◌≤◌, cond, ltb, nat_lt, if◌then◌else◌, List, length, slice_index, sum}
use Rattle.phase_ops.specs.Phases.{Cells, none_yet, units, key, after, Outcome, Finished, Failed, result}
use Rattle.phase_ops.specs.Faults.{HoldsKey}
use Rattle.team_core.specs.declared.state.CoreState.{CoreState}
use Rattle.team_core.specs.Laws.{MayStart, phase_at}
use Rattle.team_core.specs.Core.{Ending, counts_at}
use Rattle.phase_board.specs.declared.plays.Run.{Run}
use Rattle.phase_board.specs.Rule.{course_of, words_of}

-- the words are those of a core that has ended
abbrev pub AreClosed : Run → List ℕ → Type 0
AreClosed r words =
    (k : CoreState) × (words ≡ words_of k) × (length k.cells ≡ length r.opening) × (length k.counts ≡ length r.phases) × (entered : ℕ) × Ending (course_of r) k entered × ((t : ℕ) → t < length r.phases → (counts_at k t).numbers.finished ≤ 65536)
    × MayStart r.phases r.opening r.team r.chunk

-- how many units of the phase t were finished, where so many phases were entered
abbrev pub finished_of : Run → ℕ → ℕ → ℕ
finished_of r entered t = cond (ltb t entered) (units (phase_at r.phases t) (after r.phases r.opening r.chunk t) r.chunk) 0

-- all phases have run and left these cells, or the last of so many has this key
abbrev pub outcome_of : ℕ → ℕ → Cells → Outcome
outcome_of entered key_found closing = if nat_lt key_found none_yet then Failed (entered - 1) key_found else Finished closing

-- The phases were run up to the first with a key, or all were: how many, the key of the last of them, the cells that they leave,
-- and how many units of each were finished.
pub record IsOutcome (r : Run) (entered key_found : ℕ) (closing finished : List ℕ) : Type 0 where
  pub within : entered ≤ length r.phases
  pub as_many : length finished ≡ length r.phases
  pub cells_are : closing ≡ after r.phases r.opening r.chunk entered
  pub earlier : (t : ℕ) → suc t < entered → key (phase_at r.phases t) (after r.phases r.opening r.chunk t) r.chunk ≡ none_yet
  pub last : (t : ℕ) → suc t ≡ entered → key (phase_at r.phases t) (after r.phases r.opening r.chunk t) r.chunk ≡ key_found
  pub none : entered ≡ 0 → key_found ≡ none_yet
  pub stopped : entered < length r.phases → key_found < none_yet
  pub result_is : result r.phases r.opening r.chunk ≡ outcome_of entered key_found closing
  pub has_key : key_found < none_yet → (0 < entered) × HoldsKey (phase_at r.phases (entered - 1)) key_found
  pub few : sum finished ≤ 33554432
  pub finished_are : (t : ℕ) → t < length r.phases → slice_index finished t ≡ finished_of r entered t
