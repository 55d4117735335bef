use Rattle.std.proofs.Common.{ℕ, ◌+◌, ◌-◌, List, [], sym, ap, ◌∙◌, arith}
use lib.ListN.{get_elem?}
use Rattle.phase_ops.specs.declared.effect.Effect.{Effect}
use Rattle.phase_ops.specs.Phases.{Cells, each_from, strand_effects}
use Rattle.team_core.specs.Scratches.{openings}
use Rattle.team_core.proofs.Rehearsals.{open_each, more_behind, tried_here, tried_later}
use Rattle.team_core.proofs.rehearsal.find_effect.Goals as goal

pub returns-then-is_some-clause-value : goal.returns-then-is_some-clause-value
returns-then-is_some-clause-value c =
    let m : Cells = openings c.args.scratch.now.cells in
    let f : ℕ → List Effect = strand_effects c.args.phase.now m c.args.chunks.chunk in
    tried_here c.args.phase.now c.args.chunks.chunk c.loop-strand.strand c.loop-strand.left m _ (c.begin.ensures.opening ∙ c.loop-strand.invariant.opening) c.try_strand.new.scratch.found _ c.begin.ensures.fresh.wanted_is c.try_strand.ensures.found
    (each_from f (c.loop-strand.strand + 1) (c.args.end - (c.loop-strand.strand + 1))) (sym c.is_some.ensures ∙ c.if-is_some.true)
    ∙ sym (c.loop-strand.invariant.left ∙ ap (λ (l : List Effect). get_elem? l c.loop-strand.left) (open_each f c.loop-strand.strand c.args.end c.loop-strand-test.true))

pub overflow_sub-left : goal.overflow_sub-left
overflow_sub-left c = (tried_later c.args.phase.now c.args.chunks.chunk c.loop-strand.strand c.loop-strand.left (openings c.args.scratch.now.cells) _ (c.begin.ensures.opening ∙ c.loop-strand.invariant.opening) c.try_strand.new.scratch.found _ c.begin.ensures.fresh.wanted_is c.try_strand.ensures.found
    [] (sym c.is_some.ensures ∙ c.if-is_some.false) c.try_strand.new.scratch.seen c.try_strand.ensures.seen).1

pub loop-strand-preserved : goal.loop-strand-preserved
loop-strand-preserved c =
    let m : Cells = openings c.args.scratch.now.cells in
    let f : ℕ → List Effect = strand_effects c.args.phase.now m c.args.chunks.chunk in
    let strand : ℕ = c.loop-strand.strand in
    let same = c.begin.ensures.opening ∙ c.loop-strand.invariant.opening in
    let later = tried_later c.args.phase.now c.args.chunks.chunk strand c.loop-strand.left m _ same c.try_strand.new.scratch.found _ c.begin.ensures.fresh.wanted_is c.try_strand.ensures.found
    (each_from f (strand + 1) (c.args.end - (strand + 1))) (sym c.is_some.ensures ∙ c.if-is_some.false) c.try_strand.new.scratch.seen c.try_strand.ensures.seen in
    record {
      opening = c.try_strand.ensures.opening ∙ same;
      rounds = c.try_strand.ensures.rounds;
      long = c.try_strand.ensures.long ∙ c.loop-strand.invariant.long;
      behind = (let b = c.loop-strand.invariant.behind in let e = more_behind f c.args.first strand c.try_strand.new.scratch.seen c.loop-strand.auto.strand later.0 in let l = later.1 in omega (arith, b, e, l));
      left = c.loop-strand.invariant.left ∙ ap (λ (l : List Effect). get_elem? l c.loop-strand.left) (open_each f strand c.args.end c.loop-strand-test.true) ∙ later.2;
    }
