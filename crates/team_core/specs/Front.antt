-- One phase of a team's work: how far the team is in it.
use Rattle.std.specs.Prelude.{◌≡◌, ℕ, zero, suc, ◌+◌, ◌<◌, ◌≤◌, min, Bool, true, false, List, [], ◌++◌, length, take, count_by}
use mathlib.Core.Option.{some}
use lib.ListN.{get_elem?}
use Rattle.team_core.specs.declared.member.MemberState.{MemberState}
use Rattle.team_core.specs.declared.member.MemberState.TheVariants.{Ready, Within, Out, Arrived, Ended}
use Rattle.phase_ops.specs.declared.effect.Effect.{Effect}
use Rattle.team_core.specs.declared.state.Numbers.{Numbers}
use Rattle.phase_ops.specs.Course.{Memory, lay_both, Work}

-- a member that has left the units of its phase
abbrev pub is_past : MemberState → Bool
is_past Ready = false
is_past (Within u d) = false
is_past Out = true
is_past Arrived = true
is_past Ended = true

-- a member that holds a unit
abbrev pub is_within : MemberState → Bool
is_within (Within u d) = true
is_within _ = false

-- a member that has arrived at the barrier
abbrev pub is_there : MemberState → Bool
is_there Arrived = true
is_there Ended = true
is_there _ = false

-- the first `done u` effects of each unit below k, in order of unit
abbrev pub laid : Work → (ℕ → ℕ) → ℕ → List Effect
laid w done zero = []
laid w done (suc k) = laid w done k ++ take (done k) (w.effects k)

-- The numbers and the memory are those of a team whose members have these states. Of each unit so many effects are done, and
-- the cells are the phase's start, laid over by these.
pub record Front (w : Work) (start : Memory) (n : Numbers) (now : Memory) (states : List MemberState) : Type 0 where
  pub claimed_is : n.claimed ≡ min n.claimed w.units + count_by is_past states
  pub past : 0 < count_by is_past states → w.units ≤ n.claimed
  pub finished_is : n.finished + count_by is_within states ≡ min n.claimed w.units
  pub arrived_is : n.arrived ≡ count_by is_there states
  pub done : ℕ → ℕ
  pub held : (m u d : ℕ) → get_elem? states m ≡ some (Within u d) → (u < n.claimed) × (u < w.units) × (d ≤ length (w.effects u)) × (done u ≡ d)
  pub apart : (i j u d e : ℕ) → get_elem? states i ≡ some (Within u d) → get_elem? states j ≡ some (Within u e) → i ≡ j
  pub free : (u : ℕ) → u < n.claimed → u < w.units → ((m d : ℕ) → get_elem? states m ≡ some (Within u d) → ⊥) → done u ≡ length (w.effects u)
  pub later : (u : ℕ) → n.claimed ≤ u → done u ≡ 0
  pub now_is : now ≡ lay_both start (laid w done w.units)
