-- The number of iterations, as a member finds it before it does anything in its phase.
use Rattle.std.specs.Int.{w64, cast_signed}
use Rattle.std.proofs.Common.{◌≡◌, inl, ℕ, ◌<◌, ◌≤◌, Bool, length, take, sym, refl, ap, ◌∙◌, subst, arith, slice_index, ℤ, pos, ◌≤ℤ◌}
use Rattle.phase_ops.specs.declared.phase.Source.{Source}
use Rattle.phase_ops.specs.declared.phase.Source.TheVariants.{Cell}
use Rattle.phase_ops.specs.Phases.{Cells, source, source_cells, parameter, unit_reads, lay}
use Rattle.phase_ops.specs.Free.{In}
use Rattle.phase_ops.specs.Course.{memory_after, work_at}
use Rattle.phase_ops.proofs.Members.{in_left}
use Rattle.team_core.specs.declared.member.MemberState.{MemberState}
use Rattle.team_core.specs.declared.member.MemberState.TheVariants.{Ready, Within, Out, Arrived, Ended}
use Rattle.team_core.specs.Laws.{phase_at}
use Rattle.team_core.specs.Units.{HasNumber, HasCount}
use Rattle.team_core.proofs.Entering.{enters_well}
use Rattle.team_core.proofs.Lengths.{memory_long}
use Rattle.phase_board.specs.declared.plays.Run.{Run}
use Rattle.phase_board.specs.declared.plays.Role.TheVariants.{Of}
use Rattle.phase_board.specs.Rule.{course_of, Looked, AtPhase, IsKnown}
use Rattle.phase_board.specs.Looking.{HasDoneNothing}

-- a look of the parameter answers the phase's start
pub looked_start : (r : Run) (m t : ℕ) (st : MemberState) (full : Bool) (cell found : ℕ) → HasDoneNothing st → In cell (work_at (course_of r) t).parameter → Looked (course_of r) cell found (Of m t st full)
    → found ≡ slice_index (memory_after (course_of r) t) cell
looked_start r m t Ready full cell found n i l = l i
looked_start r m t (Within u d) full cell found n i l =
    l (in_left cell (parameter (phase_at r.phases t)) (unit_reads (phase_at r.phases t) (memory_after (course_of r) t) r.chunk u) i)
    ∙ ap (λ (k : ℕ). slice_index (lay (memory_after (course_of r) t) (take k ((work_at (course_of r) t).effects u))) cell) n
looked_start r m t Out full cell found n i l = absurd n
looked_start r m t Arrived full cell found n i l = absurd n
looked_start r m t Ended full cell found n i l = absurd n

module _ (r : Run) (t : ℕ) (few : t ≤ length r.phases) (s : Source) (cell : ℕ) (is : s ≡ Cell cell) (number : HasNumber (memory_after (course_of r) t) s) where
  abbrev m : Cells
  m = memory_after (course_of r) t

  pub in_source : In cell (source_cells s)
  in_source = subst (λ (x : Source). In cell (source_cells x)) (sym is) (inl refl)

  pub cell_there : cell < length r.opening
  cell_there = let l = number.there cell in_source in let e = memory_long r.phases r.opening r.chunk r.team t few in omega (arith, l, e)

  pub value_is : (found : ℕ) → found ≡ slice_index m cell → source m s ≡ cast_signed w64 found
  value_is found e = ap (source m) is ∙ ap (cast_signed w64) (sym e)

  pub value_low : (found : ℕ) → found ≡ slice_index m cell → pos 0 ≤ℤ cast_signed w64 found
  value_low found e = subst (λ (z : ℤ). pos 0 ≤ℤ z) (value_is found e) number.low

  pub value_high : (found : ℕ) → found ≡ slice_index m cell → cast_signed w64 found ≤ℤ pos 65536
  value_high found e = subst (λ (z : ℤ). z ≤ℤ pos 65536) (value_is found e) number.high

known_phase : (r : Run) (t : ℕ) (st : MemberState) → HasDoneNothing st → IsKnown r t st → AtPhase r t
known_phase r t Ready n k = k
known_phase r t (Within u d) n k = record { may = k.may; there = k.there; keyless = k.keyless }
known_phase r t Out n k = absurd n
known_phase r t Arrived n k = absurd n
known_phase r t Ended n k = absurd n

pub known_count : (r : Run) (t : ℕ) (st : MemberState) → HasDoneNothing st → IsKnown r t st → HasCount (phase_at r.phases t) (memory_after (course_of r) t)
known_count r t st n k =
    let a = known_phase r t st n k in
    let well = (enters_well r.phases r.opening r.team r.chunk t (memory_after (course_of r) t) a.may (record { there = a.there; keyless = a.keyless; cells_are = refl })).0 in
    record { there = well.there; low = well.count.0; high = well.count.1 }

pub known_there : (r : Run) (t : ℕ) (st : MemberState) → HasDoneNothing st → IsKnown r t st → t < length r.phases
known_there r t st n k = (known_phase r t st n k).there
