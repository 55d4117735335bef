-- What callers see of a pass.
use Rattle.std.specs.Prelude.{ℕ, ℤ, Bool, List}
use Rattle.atomic_table.specs.Seated.{TableId}
use Rattle.team_core.specs.declared.member.MemberState.{MemberState}
use Rattle.phase_board.specs.declared.plays.Run.{Run}

pub record Held : Type 0 where
  pub table : TableId
  pub run : Run
  pub member : ℕ
  pub phase : ℕ
  pub state : MemberState
  pub full : Bool
  -- how many it has found to have arrived, the last first
  pub sights : List ℕ
  pub registers : List ℤ
