use Rattle.std.proofs.Common.{ℕ, ◌+◌, ◌-◌, ◌∙◌}
use Rattle.phase_ops.specs.Phases.{each_from, strand_effects}
use Rattle.act_eval.specs.Sites.{View}
use Rattle.act_eval.proofs.InOrder.{strand_has, strand_begins, strand_led}
use Rattle.act_eval.proofs.strands.run_strands.Goals as goal

pub run_strand-requires-clause-strand : goal.run_strand-requires-clause-strand
run_strand-requires-clause-strand g c =
    let v₀ : View = g.S.Site.view c.args.site.now c.args.hand.now in let v : View = g.S.Site.view c.args.site.now c.strands.hand in
    let b = c.requires.begins in let i = c.strands.invariant in
    strand_has v₀ c.args.phase.now c.args.chunks.chunk c.args.chunks.count c.args.unit c.strands_of-first.result.0 c.strands_of-first.result.1 b (c.strands_of-first.ensures v₀.cells b.count_is)
    v c.strands.strand c.strands.auto.strand c.strands-test.true i.left i.cells i.may

pub run_strand-requires-clause-begins : goal.run_strand-requires-clause-begins
run_strand-requires-clause-begins g c =
    let v₀ : View = g.S.Site.view c.args.site.now c.args.hand.now in let v : View = g.S.Site.view c.args.site.now c.strands.hand in
    let b = c.requires.begins in let i = c.strands.invariant in
    let first : ℕ = c.strands_of-first.result.0 in let count : ℕ = c.strands_of-first.result.1 in (
      each_from (strand_effects c.args.phase.now v₀.cells c.args.chunks.chunk) (c.strands.strand + 1) (first + count - (c.strands.strand + 1)),
      strand_begins v₀ c.args.phase.now c.args.chunks.chunk c.args.chunks.count c.args.unit first count b (c.strands_of-first.ensures v₀.cells b.count_is) v c.strands.strand c.strands.auto.strand c.strands-test.true i.left i.cells i.may,
    )

pub strands-preserved : goal.strands-preserved
strands-preserved g c =
    let v₀ : View = g.S.Site.view c.args.site.now c.args.hand.now in let v : View = g.S.Site.view c.args.site.now c.strands.hand in
    let v' : View = g.S.Site.view c.args.site.now c.run_strand.new.hand in
    let b = c.requires.begins in let i = c.strands.invariant in
    let first : ℕ = c.strands_of-first.result.0 in let count : ℕ = c.strands_of-first.result.1 in
    let e = c.strands_of-first.ensures v₀.cells b.count_is in
    let begins = strand_begins v₀ c.args.phase.now c.args.chunks.chunk c.args.chunks.count c.args.unit first count b e v c.strands.strand c.strands.auto.strand c.strands-test.true i.left i.cells i.may in
    let left = c.run_strand.ensures.left (each_from (strand_effects c.args.phase.now v₀.cells c.args.chunks.chunk) (c.strands.strand + 1) (first + count - (c.strands.strand + 1))) begins in
    record {
      belongs = c.run_strand.ensures.belongs;
      left = left;
      cells = strand_led v₀ c.args.phase.now c.args.chunks.chunk c.args.chunks.count c.args.unit first count b e v c.strands.strand c.strands.auto.strand c.strands-test.true i.left i.cells i.may v' c.run_strand.ensures.led left;
      may = c.run_strand.ensures.led.may_is ∙ i.may;
      long = c.run_strand.ensures.long ∙ i.long;
    }
