use Rattle.std.specs.Vec.{with_items}
use Rattle.std.proofs.lemmas.List.{with_items_is}
use Rattle.std.proofs.Common.{◌≡◌, ℕ, List, length, get_or, sym, refl, ap, ◌∙◌, subst}
use Rattle.phase_ops.specs.declared.phase.Phase.{Phase}
use Rattle.phase_ops.specs.Phases.{Cells, natural, first_strand, strand_count}
use Rattle.phase_ops.specs.Free.{count_value}
use Rattle.phase_ops.specs.Course.{no_phase}
use Rattle.team_core.specs.Laws.{phase_at}
use Rattle.team_core.specs.Scratches.{openings}
use Rattle.team_core.specs.Units.{nowhere, IsPlaceOf}
use Rattle.team_core.specs.declared.units.PhaseUnits.{PhaseUnits}
use Rattle.team_core.proofs.Lengths.{any_default}
use Rattle.team_core.proofs.Places.{unit_value, still_entered}
use Rattle.team_core.proofs.units.PhaseUnitsUnitWorkPhaseList.effect.Goals as goal

module _ (c : goal.After-set) where
  abbrev w : PhaseUnits
  w = c.args.self.now

  abbrev m : Cells
  m = openings w.scratch.cells

  phase_is : c.index-as_slice-self.result ≡ phase_at c.args.phases.now w.phase
  phase_is = c.index-as_slice-self.is ∙ ap (λ (l : List Phase). get_or l w.phase c.index-as_slice-self.result) c.as_slice.ensures ∙ any_default c.args.phases.now w.phase c.index-as_slice-self.result no_phase c.requires.ready.there

  strands : (c.strands_of-first.result.0 ≡ first_strand c.index-as_slice-self.result c.chunks-chunks.result.chunk c.args.unit) × (c.strands_of-first.result.1 ≡ strand_count c.index-as_slice-self.result m c.chunks-chunks.result.chunk c.args.unit)
  strands = c.strands_of-first.ensures m (c.chunks-chunks.ensures.1 ∙ c.requires.ready.count_is ∙ ap (λ (p : Phase). natural (count_value p m)) (sym phase_is))

  first_is : c.strands_of-first.result.0 ≡ first_strand (phase_at c.args.phases.now w.phase) w.chunk c.args.unit
  first_is = strands.0 ∙ (λ i. first_strand (phase_is i) (c.chunks-chunks.ensures.0 i) c.args.unit)

  count_is : c.strands_of-first.result.1 ≡ strand_count (phase_at c.args.phases.now w.phase) m w.chunk c.args.unit
  count_is = strands.1 ∙ (λ i. strand_count (phase_is i) m (c.chunks-chunks.ensures.0 i) c.args.unit)

  place_is : IsPlaceOf (get_or w.places c.args.member nowhere) w.phase c.args.unit c.args.done (first_strand (phase_at c.args.phases.now w.phase) w.chunk c.args.unit) c.place_of-last.result
  place_is = subst (λ (n : ℕ). IsPlaceOf (get_or w.places c.args.member nowhere) w.phase c.args.unit c.args.done n c.place_of-last.result) first_is c.place_of-last.ensures

  registers_long : length (with_items w.registers c.find_effect-found.new.registers).items ≡ length w.registers.items
  registers_long =
      let long : length c.find_effect-found.new.registers ≡ length w.registers.items = c.find_effect-found.ensures.long ∙ ap length c.as_mut_slice.ensures.value in
      ap length (with_items_is w.registers c.find_effect-found.new.registers (long ∙ sym w.registers.ok.0)) ∙ long

pub returns-clause-value : goal.returns-clause-value
returns-clause-value c =
    unit_value (w c) c.args.phases.now c.requires.ready c.args.member c.args.unit c.args.done c.requires.member c.place_of-last.result (place_is c) c.index-as_slice-self.result c.chunks-chunks.result.chunk
    c.strands_of-first.result.0 c.strands_of-first.result.1 (phase_is c) c.chunks-chunks.ensures.0 (first_is c) (count_is c) c.find_effect-found.result.effect c.find_effect-found.ensures.value

pub returns-clause-ready : goal.returns-clause-ready
returns-clause-ready c =
    still_entered (w c) c.args.phases.now c.requires.ready c.args.member c.args.unit c.args.done c.requires.member c.place_of-last.result (place_is c) c.index-as_slice-self.result c.chunks-chunks.result.chunk
    c.strands_of-first.result.0 c.strands_of-first.result.1 (phase_is c) c.chunks-chunks.ensures.0 (first_is c) (count_is c) c.find_effect-found.result.strand c.find_effect-found.result.before c.find_effect-found.ensures.place
    _ refl refl refl refl refl c.set.ensures (registers_long c) c.find_effect-found.ensures.opening c.find_effect-found.ensures.rounds
