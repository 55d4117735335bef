-- What holds of a board between any two steps.
use Rattle.std.specs.Prelude.{◌≡◌, ℕ, Bool}
use mathlib.Core.Option.{some}
use lib.ListN.{get_elem?}
use Rattle.atomic_table.specs.Table.{State}
use Rattle.team_core.specs.declared.member.MemberState.{MemberState}
use Rattle.team_core.specs.declared.member.MemberState.TheVariants.{Within}
use Rattle.team_core.specs.declared.state.CoreState.{CoreState}
use Rattle.team_core.specs.Core.{Sound, member}
use Rattle.team_core.specs.Runs.{IsSafeStore}
use Rattle.phase_board.specs.declared.plays.Run.{Run}
use Rattle.phase_board.specs.declared.plays.View.{View}
use Rattle.phase_board.specs.declared.plays.Role.TheVariants.{Of}
use Rattle.phase_board.specs.Rule.{course_of, words_of, S}

-- the pass of this number is the member m at the phase t, in this state and with or without the mark
abbrev pub Stays : Run → State S View → ℕ → ℕ → ℕ → MemberState → Bool → Type 0
Stays r s pass m t st full = (v : View) × (get_elem? s.views pass ≡ some v) × (v.run ≡ r) × (v.role ≡ Of m t st full)

-- the pass holds the unit u of the phase t
abbrev pub HoldsUnit : Run → State S View → ℕ → ℕ → ℕ → Type 0
HoldsUnit r s pass t u = (m d : ℕ) × (full : Bool) × Stays r s pass m t (Within u d) full

-- The words are those of a sound core, in which each pass is the member that it says and in the state that it says. No member
-- may store or lessen a cell that another may read. A unit is held by one pass alone.
pub record IsSoundMoment (r : Run) (s : State S View) : Type 0 where
  pub core : CoreState
  pub sound : Sound (course_of r) core
  pub words_are : s.words ≡ words_of core
  pub members_are : (pass m t : ℕ) (st : MemberState) (full : Bool) → Stays r s pass m t st full → get_elem? core.members m ≡ some (member t st full)
  pub safe : (m : ℕ) → IsSafeStore (course_of r) core m
  pub held_once : (t t' u i j : ℕ) → HoldsUnit r s i t u → HoldsUnit r s j t' u → i ≡ j
