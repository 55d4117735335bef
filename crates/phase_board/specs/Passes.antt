-- What callers say of a pass.
use Rattle.std.specs.Prelude.{◌≡◌, ℕ, suc, ◌<◌, cond, ltb, eqb, Bool, true, false, List, length, slice_index, slice_index_or}
use mathlib.Core.Option.{some}
use lib.ListN.{get_elem?}
use Rattle.phase_ops.specs.declared.effect.Effect.{Effect}
use Rattle.phase_ops.specs.declared.phase.Phase.{Phase}
use Rattle.phase_ops.specs.Phases.{none_yet}
use Rattle.phase_ops.specs.Course.{work_at}
use Rattle.team_core.specs.declared.member.MemberState.{MemberState}
use Rattle.team_core.specs.declared.member.MemberState.TheVariants.{Ready, Within, Ended}
use Rattle.team_core.specs.Laws.{phase_at}
use Rattle.team_core.specs.Units.{AreShort}
use Rattle.phase_board.specs.declared.steps.Seen.{Seen}
use Rattle.phase_board.specs.declared.steps.Seen.TheVariants.{All, NotYet}
use Rattle.phase_board.specs.declared.steps.Verdict.{Verdict}
use Rattle.phase_board.specs.declared.steps.Verdict.TheVariants.{Go, Stopped}
use Rattle.phase_board.specs.declared.board.Board.{Board}
use Rattle.phase_board.specs.Held.{Held}
use Rattle.phase_board.specs.Rule.{course_of}

abbrev pub IsPassOf : Board → Held → Type 0
IsPassOf b p = (p.table ≡ b.table.shared.table_id) × (p.run ≡ b.run)

-- so many registers are enough for each act of the phases
abbrev pub AreEnough : List Phase → ℕ → Type 0
AreEnough ps registers = (t : ℕ) → t < length ps → AreShort (phase_at ps t) registers

-- a pass of the board that has its registers
abbrev pub IsWhole : Board → Held → Type 0
IsWhole b p = IsPassOf b p × AreEnough b.run.phases (length p.registers)

-- the pass in another state, without the mark
abbrev pub in_state : Held → MemberState → Held
in_state p st = record p { state = st; full = false }

-- this is the next effect of the unit that the pass holds
abbrev pub IsNext : Board → Held → Effect → Type 0
IsNext b p e = (u : ℕ) × (d : ℕ) × (p.state ≡ Within u d) × (get_elem? ((work_at (course_of b.run) p.phase).effects u) d ≡ some e)

-- the word that the pass has loaded last at a barrier
abbrev pub last_sight : Held → ℕ
last_sight p = slice_index p.sights 0

abbrev pub is_all : Seen → Bool
is_all All = true
is_all NotYet = false

-- what a phase with this key tells
abbrev pub verdict_of : ℕ → Verdict
verdict_of key = cond (ltb key none_yet) (Stopped key) Go

-- the pass behind a phase with this key, one of so many
abbrev pub judged_pass : ℕ → ℕ → Held → Held
judged_pass count key p = cond (ltb key none_yet) (in_state p Ended) (cond (eqb (suc p.phase) count) (in_state p Ended) (record p { phase = suc p.phase; state = Ready; full = false }))

-- all are passes of the board, and have ended
abbrev pub AllDone : Board → List Held → Type 0
AllDone b passes = (i : ℕ) (d : Held) → i < length passes → IsPassOf b (slice_index_or passes i d) × ((slice_index_or passes i d).state ≡ Ended)
