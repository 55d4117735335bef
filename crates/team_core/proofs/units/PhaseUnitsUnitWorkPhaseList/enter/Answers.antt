use Rattle.std.proofs.Common.{◌≡◌, List, length, get_or, sym, ap, ◌∙◌, subst, arith}
use Rattle.phase_ops.specs.declared.phase.Phase.{Phase}
use Rattle.phase_ops.specs.Phases.{Cells, natural}
use Rattle.phase_ops.specs.Free.{WellFormed, count_value}
use Rattle.phase_ops.specs.Course.{no_phase}
use Rattle.act_eval.specs.Strands.{PartialsFit}
use Rattle.team_core.specs.Laws.{phase_at}
use Rattle.team_core.specs.Units.{HasCount}
use Rattle.team_core.proofs.Entering.{enters_well}
use Rattle.team_core.proofs.Lengths.{memory_long, any_default}
use Rattle.team_core.proofs.Rehearsals.{opening_long}
use Rattle.team_core.proofs.units.PhaseUnitsUnitWorkPhaseList.enter.Goals as goal

pub open-requires : goal.open-requires
open-requires c =
    let w = c.args.self.now in
    let e = c.requires.enters in
    let there = e.there in
    ap length e.cells_are ∙ memory_long c.args.phases.now w.opening w.chunk w.team c.args.phase (omega (arith, there)) ∙ sym c.requires.made.long

pub count_of-self-requires : goal.count_of-self-requires
count_of-self-requires c =
    let w = c.args.self.now in
    let well = (enters_well c.args.phases.now w.opening w.team w.chunk c.args.phase c.args.cells.now c.requires.made.may c.requires.enters).0 in
    let is : c.index-as_slice-phase.result ≡ phase_at c.args.phases.now c.args.phase = (let b = c.requires.enters.there in c.index-as_slice-phase.is ∙ ap (λ (l : List Phase). get_or l c.args.phase c.index-as_slice-phase.result) c.as_slice.ensures ∙ any_default c.args.phases.now c.args.phase c.index-as_slice-phase.result no_phase b) in
    subst (λ (p : Phase). HasCount p c.args.cells.now) (sym is) (record { there = well.there; low = well.count.0; high = well.count.1 })

pub returns-clause-ready : goal.returns-clause-ready
returns-clause-ready c =
    let w = c.args.self.now in
    let e = c.requires.enters in
    let known = enters_well c.args.phases.now w.opening w.team w.chunk c.args.phase c.args.cells.now c.requires.made.may e in
    let is : c.index-as_slice-phase.result ≡ phase_at c.args.phases.now c.args.phase = (let b = c.requires.enters.there in c.index-as_slice-phase.is ∙ ap (λ (l : List Phase). get_or l c.args.phase c.index-as_slice-phase.result) c.as_slice.ensures ∙ any_default c.args.phases.now c.args.phase c.index-as_slice-phase.result no_phase b) in
    let opened = c.open.ensures.opening in
    let there = e.there in
    let long : length c.open.new.self.cells ≡ length w.opening = sym (opening_long c.open.new.self.cells) ∙ ap length opened ∙ ap length e.cells_are ∙ memory_long c.args.phases.now w.opening w.chunk w.team c.args.phase (omega (arith, there)) in
    record {
      made = record { may = c.requires.made.may; long = long; placed = c.requires.made.placed; places = c.requires.made.places; short = c.requires.made.short };
      there = e.there;
      opening_is = opened ∙ e.cells_are;
      small = c.open.ensures.small;
      rounds = c.open.ensures.rounds;
      chunks = record { few = c.count_of-self.ensures.few; chunk_is = c.requires.made.may.chunk_is };
      count_is = c.count_of-self.ensures.value ∙ (λ i. natural (count_value (is i) (sym opened i)));
      well = subst (λ (m : Cells). WellFormed (phase_at c.args.phases.now c.args.phase) m w.chunk) (sym opened) known.0;
      partials = subst (λ (m : Cells). PartialsFit (phase_at c.args.phases.now c.args.phase) m w.chunk) (sym opened) known.1;
    }
