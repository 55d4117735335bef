-- What a board gives when it is prepared.
use Rattle.std.specs.Prelude.{◌≡◌, ℕ, ◌<◌, false, List, [], length, slice_index_or}
use Rattle.team_core.specs.Core.{first_state}
use Rattle.phase_board.specs.declared.board.Board.{Board}
use Rattle.phase_board.specs.Held.{Held}
use Rattle.phase_board.specs.Passes.{IsWhole}

-- the pass of this member, in its first state
pub record IsNew (b : Board) (member : ℕ) (p : Held) : Type 0 where
  pub of : IsWhole b p
  pub member_is : p.member ≡ member
  pub phase_is : p.phase ≡ 0
  pub state_is : p.state ≡ first_state (length b.run.phases)
  pub full_is : p.full ≡ false
  pub unsighted : p.sights ≡ []

abbrev pub AllNew : Board → List Held → Type 0
AllNew b passes = (i : ℕ) (d : Held) → i < length passes → IsNew b i (slice_index_or passes i d)
