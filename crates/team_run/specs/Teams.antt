-- Passes that may be driven.
use Rattle.std.specs.Prelude.{ℕ, ◌<◌, List, length, slice_index_or}
use Rattle.team_core.specs.declared.member.MemberState.{MemberState}
use Rattle.team_core.specs.declared.member.MemberState.TheVariants.{Ready, Within, Out, Arrived, Ended}
use Rattle.phase_board.specs.declared.board.Board.{Board}
use Rattle.phase_board.specs.Held.{Held}
use Rattle.phase_board.specs.Passes.{IsWhole}

-- the member holds no unit
abbrev pub HoldsNone : MemberState → Type 0
HoldsNone Ready = Unit {0}
HoldsNone (Within u d) = ⊥
HoldsNone Out = Unit {0}
HoldsNone Arrived = Unit {0}
HoldsNone Ended = Unit {0}

-- a pass of the board that holds no unit
abbrev pub IsFree : Board → Held → Type 0
IsFree b p = IsWhole b p × HoldsNone p.state

abbrev pub AllFree : Board → List Held → Type 0
AllFree b passes = (i : ℕ) (d : Held) → i < length passes → IsFree b (slice_index_or passes i d)
