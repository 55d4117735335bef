use Rattle.std.proofs.Common.{[], length, ap, ◌∙◌}
use lib.ListN.{get_elem?}
use Rattle.team_core.specs.Scratches.{Search}
use Rattle.team_core.proofs.Rehearsals.{begun, begins, ended}
use Rattle.team_core.proofs.rehearsal.try_strand.Goals as goal

pub run_strand-requires-clause-belongs : goal.run_strand-requires-clause-belongs
run_strand-requires-clause-belongs g c =
    begun g.K.Searched.search c.args.phase.now c.args.scratch.now c.args.chunks.chunk c.args.chunks.count c.args.strand (length c.args.registers.now) c.requires.search c.requires.can c.requires.rounds c.requires.fresh c.requires.there

pub run_strand-requires-clause-begins : goal.run_strand-requires-clause-begins
run_strand-requires-clause-begins g c =
    ([], begins g.K.Searched.search c.args.phase.now c.args.scratch.now c.args.chunks.chunk c.args.chunks.count c.args.strand (length c.args.registers.now) c.requires.search c.requires.can c.requires.rounds c.requires.fresh c.requires.there)

pub returns-clause-seen : goal.returns-clause-seen
returns-clause-seen g c =
    let b = begins g.K.Searched.search c.args.phase.now c.args.scratch.now c.args.chunks.chunk c.args.chunks.count c.args.strand (length c.args.registers.now) c.requires.search c.requires.can c.requires.rounds c.requires.fresh c.requires.there in
    (ended g.K.Searched.search c.run_strand.new.hand c.run_strand.ensures.belongs (c.run_strand.ensures.left [] b)).0 ∙ ap (λ (k : Search). length k.effects) c.requires.search

pub returns-clause-found : goal.returns-clause-found
returns-clause-found g c =
    let b = begins g.K.Searched.search c.args.phase.now c.args.scratch.now c.args.chunks.chunk c.args.chunks.count c.args.strand (length c.args.registers.now) c.requires.search c.requires.can c.requires.rounds c.requires.fresh c.requires.there in
    (ended g.K.Searched.search c.run_strand.new.hand c.run_strand.ensures.belongs (c.run_strand.ensures.left [] b)).1 ∙ ap (λ (k : Search). get_elem? k.effects k.wanted) c.requires.search
