-- A pass in a unit as a place where the unit's loads and effects go.
use Rattle.std.specs.Prelude.{◌≡◌, ℕ, [], false, take, drop}
use Rattle.phase_ops.specs.Phases.{lay}
use Rattle.phase_ops.specs.Course.{memory_after, work_at}
use Rattle.act_eval.specs.Sites.{View}
use Rattle.team_core.specs.declared.member.MemberState.{MemberState}
use Rattle.team_core.specs.declared.member.MemberState.TheVariants.{Ready, Within, Out, Arrived, Ended}
use Rattle.atomic_table.specs.Seated.{TableId}
use Rattle.phase_board.specs.declared.plays.Run.{Run}
use Rattle.phase_board.specs.declared.board.Board.{Board}
use Rattle.phase_board.specs.Held.{Held}
use Rattle.phase_board.specs.Passes.{IsPassOf}
use Rattle.phase_board.specs.Rule.{course_of, InUnit}

-- the effects that are left of the unit, the phase's start laid over by those that are done, and what the unit may read
abbrev pub view_at : Run → ℕ → MemberState → View
view_at r t (Within u d) = record {
  left = drop d ((work_at (course_of r) t).effects u);
  cells = lay (memory_after (course_of r) t) (take d ((work_at (course_of r) t).effects u));
  may = (work_at (course_of r) t).reads u;
}
view_at r t _ = record { left = []; cells = []; may = [] }

abbrev pub view_of : Held → View
view_of p = view_at p.run p.phase p.state

-- the pass holds a unit
abbrev pub HoldsUnit : Run → ℕ → MemberState → Type 0
HoldsUnit r t (Within u d) = InUnit r t u d
HoldsUnit r t Ready = ⊥
HoldsUnit r t Out = ⊥
HoldsUnit r t Arrived = ⊥
HoldsUnit r t Ended = ⊥

abbrev pub Belongs : Board → Held → Type 0
Belongs b p = IsPassOf b p × HoldsUnit p.run p.phase p.state

-- a pass, as it was when it claimed a unit
pub record Claimed : Type 0 where
  pub pass : Held
  pub unit : ℕ

abbrev pub no_table : TableId
no_table = record { words = 0; slots = 0; views_name = 0; atom = 0; block = 0; offset = 0; slot_names = [] }

abbrev pub nobody : Claimed
nobody = record {
  pass = record { table = no_table; run = record { phases = []; opening = []; team = 0; chunk = 0 }; member = 0; phase = 0; state = Ended; full = false; sights = []; registers = [] };
  unit = 0;
}

-- it holds the unit still, and nothing but its state has changed
abbrev pub Holds : Claimed → Held → Type 0
Holds k p = (d : ℕ) × (p ≡ record k.pass { state = Within k.unit d; full = p.full })
