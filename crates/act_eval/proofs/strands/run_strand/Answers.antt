use Rattle.std.proofs.Common.{ℕ, ◌+◌, List, sym, ap, ◌∙◌, subst}
use Rattle.phase_ops.specs.declared.effect.Effect.{Effect}
use Rattle.phase_ops.specs.declared.phase.Act.{Act}
use Rattle.phase_ops.specs.Phases.{acts_events}
use Rattle.phase_ops.specs.Free.{acts_of}
use Rattle.act_eval.specs.Sites.{View, Comes}
use Rattle.act_eval.specs.Strands.{PartBegins, JoinBegins}
use Rattle.act_eval.proofs.StrandSteps.{room_at, set_comes, loop_comes, part_begins, join_begins}
use Rattle.act_eval.proofs.strands.run_strand.Goals as goal

pub run_acts-requires-clause-room : goal.run_acts-requires-clause-room
run_acts-requires-clause-room g c = room_at c.args.phase.now _ c.as_slice.result.now (ap acts_of c.in-Set.is ∙ sym c.as_slice.ensures) c.requires.room

pub run_acts-requires-in-Loop-clause-room : goal.run_acts-requires-in-Loop-clause-room
run_acts-requires-in-Loop-clause-room g c = room_at c.args.phase.now _ c.as_slice-in-Loop.result.now (ap acts_of c.in-Loop.is ∙ sym c.as_slice-in-Loop.ensures) c.requires.room

pub run_acts-requires-clause-comes : goal.run_acts-requires-clause-comes
run_acts-requires-clause-comes g c =
    let v : View = g.S.Site.view c.args.site.now c.args.hand.now in
    subst (λ (as' : List Act). (x : List Effect) × Comes v (acts_events 0 0 as' v.cells) x) (sym c.as_slice.ensures)
    (c.requires.begins.0, set_comes v c.args.phase.now c.args.chunks.chunk c.args.strand c.requires.begins.0 c.in-Set.line c.in-Set.label c.in-Set.acts c.in-Set.is c.requires.begins.1)

pub run_acts-requires-in-Loop-clause-comes : goal.run_acts-requires-in-Loop-clause-comes
run_acts-requires-in-Loop-clause-comes g c =
    let v : View = g.S.Site.view c.args.site.now c.args.hand.now in
    subst (λ (as' : List Act). (x : List Effect) × Comes v (acts_events c.args.strand 0 as' v.cells) x) (sym c.as_slice-in-Loop.ensures)
    (c.requires.begins.0, loop_comes v c.args.phase.now c.args.chunks.chunk c.args.strand c.requires.begins.0 c.in-Loop.line c.in-Loop.label c.in-Loop.count c.in-Loop.acts c.in-Loop.is c.requires.begins.1)

pub run_part_of-requires-clause-begins : goal.run_part_of-requires-clause-begins
run_part_of-requires-clause-begins g c =
    let v : View = g.S.Site.view c.args.site.now c.args.hand.now in
    let more : List Effect = c.requires.begins.0 in
    let b = part_begins v c.args.phase.now c.args.chunks.chunk c.args.chunks.count c.args.strand more c.in-Part.line c.in-Part.count c.in-Part.act c.in-Part.kind c.in-Part.temp c.in-Part.first c.in-Part.is c.requires.strand c.requires.begins.1 in
    (more, subst (λ (x : ℕ × ℕ × ℕ). PartBegins v c.in-Part.kind c.in-Part.act x.0 x.1 x.2 more) (λ i. (sym c.start-from.ensures.value i, sym c.size-size.ensures i, sym c.from.ensures i + sym c.from-in-Part.ensures i)) b)

pub run_join_of-requires-clause-begins : goal.run_join_of-requires-clause-begins
run_join_of-requires-clause-begins g c =
    let v : View = g.S.Site.view c.args.site.now c.args.hand.now in
    let more : List Effect = c.requires.begins.0 in
    let b = join_begins v c.args.phase.now c.args.chunks.chunk c.args.chunks.count c.args.strand more c.in-Join.line c.in-Join.count c.in-Join.kind c.in-Join.temp c.in-Join.first c.in-Join.slot c.in-Join.is c.requires.strand c.requires.begins.1 in
    (more, subst (λ (x : ℕ). JoinBegins v c.in-Join.kind c.in-Join.first x c.in-Join.slot more) (sym c.units-units.ensures) b)

pub returns-in-Set-clause-left : goal.returns-in-Set-clause-left
returns-in-Set-clause-left g c = λ more h.
    let v : View = g.S.Site.view c.args.site.now c.args.hand.now in
    c.run_acts.ensures.left more (subst (λ (as' : List Act). Comes v (acts_events 0 0 as' v.cells) more) (sym c.as_slice.ensures)
    (set_comes v c.args.phase.now c.args.chunks.chunk c.args.strand more c.in-Set.line c.in-Set.label c.in-Set.acts c.in-Set.is h))

pub returns-in-Loop-clause-left : goal.returns-in-Loop-clause-left
returns-in-Loop-clause-left g c = λ more h.
    let v : View = g.S.Site.view c.args.site.now c.args.hand.now in
    c.run_acts-in-Loop.ensures.left more (subst (λ (as' : List Act). Comes v (acts_events c.args.strand 0 as' v.cells) more) (sym c.as_slice-in-Loop.ensures)
    (loop_comes v c.args.phase.now c.args.chunks.chunk c.args.strand more c.in-Loop.line c.in-Loop.label c.in-Loop.count c.in-Loop.acts c.in-Loop.is h))

pub returns-in-Part-clause-left : goal.returns-in-Part-clause-left
returns-in-Part-clause-left g c = λ more h.
    let v : View = g.S.Site.view c.args.site.now c.args.hand.now in
    let b = part_begins v c.args.phase.now c.args.chunks.chunk c.args.chunks.count c.args.strand more c.in-Part.line c.in-Part.count c.in-Part.act c.in-Part.kind c.in-Part.temp c.in-Part.first c.in-Part.is c.requires.strand h in
    c.run_part_of.ensures.left more
    (subst (λ (x : ℕ × ℕ × ℕ). PartBegins v c.in-Part.kind c.in-Part.act x.0 x.1 x.2 more) (λ i. (sym c.start-from.ensures.value i, sym c.size-size.ensures i, sym c.from.ensures i + sym c.from-in-Part.ensures i)) b)

pub returns-in-Join-clause-left : goal.returns-in-Join-clause-left
returns-in-Join-clause-left g c = λ more h.
    let v : View = g.S.Site.view c.args.site.now c.args.hand.now in
    let b = join_begins v c.args.phase.now c.args.chunks.chunk c.args.chunks.count c.args.strand more c.in-Join.line c.in-Join.count c.in-Join.kind c.in-Join.temp c.in-Join.first c.in-Join.slot c.in-Join.is c.requires.strand h in
    c.run_join_of.ensures.left more (subst (λ (x : ℕ). JoinBegins v c.in-Join.kind c.in-Join.first x c.in-Join.slot more) (sym c.units-units.ensures) b)
