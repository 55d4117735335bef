use Rattle.std.proofs.lemmas.Int.{to_z-of_z}
use Rattle.std.proofs.Math.Facts.{sfits_to_z}
use Rattle.std.proofs.lemmas.List.{drop_all}
use Rattle.phase_ops.specs.declared.phase.Source.TheVariants.{Fixed}
use Rattle.phase_ops.specs.declared.phase.Term.{Term}
use Rattle.phase_ops.proofs.Members.{in_left, in_right}
use Rattle.act_eval.proofs.Addresses.{step_law, finish_law, term_next, term_load}
use Rattle.std.proofs.Common.{sym, subst, ap, ◌∙◌, ◌≡◌, ◌+◌, ◌≤◌, List, [], length, drop, slice_index_or, ℤ, pos, ◌+ℤ◌, ◌*ℤ◌, to_z, of_z}
use Rattle.std.specs.Int.{w64, int_wrap}
use Rattle.phase_ops.specs.Phases.{Cells, source, source_cells, register, terms, term_cells}
use Rattle.phase_ops.specs.Free.{In}
use Rattle.act_eval.specs.Sites.{View, Small}
use Rattle.act_eval.proofs.ops.address_at.Goals as goal

abbrev no_term : Term
no_term = record { reg = 0; step = Fixed (pos 0) }

-- src/lib.rt:76:9
pub source_at-sum-requires-clause-loads : goal.source_at-sum-requires-clause-loads
source_at-sum-requires-clause-loads g c = λ n h. c.requires.loads n (in_left n (source_cells c.args.place.now.base) (term_cells c.args.place.now.terms) h)

-- src/lib.rt:78:5
pub loop-at-init : goal.loop-at-init
loop-at-init g c = record {
  belongs = c.source_at-sum.ensures.belongs;
  same = c.source_at-sum.ensures.same;
  terms_are = c.as_slice-terms.ensures;
  sum = ap (λ (z : ℤ). int_wrap w64 (z +ℤ terms (g.S.Site.view c.args.site.now c.args.hand.now).cells c.args.registers.now c.args.place.now.terms)) (to_z-of_z w64 c.source_at-sum.result (record { sfits = c.source_at-sum.type_inv }) ∙ c.source_at-sum.ensures.value);
}

-- src/lib.rt:79:13
pub source_at-step-requires-clause-loads : goal.source_at-step-requires-clause-loads
source_at-step-requires-clause-loads g c = λ n h. subst (λ (v : View). In n v.may × Small n) (sym c.loop-at.invariant.same)
    (c.requires.loads n (in_right n (source_cells c.args.place.now.base) (term_cells c.args.place.now.terms)
    (subst (λ (l : List Term). In n (term_cells l)) c.loop-at.invariant.terms_are (term_load n c.as_slice-terms.result.now c.loop-at.at no_term c.loop-at-test.true h))))

-- src/lib.rt:78:5
pub loop-at-preserved : goal.loop-at-preserved
loop-at-preserved g c =
    let m : Cells = (g.S.Site.view c.args.site.now c.args.hand.now).cells in
    let regs : List ℤ = c.args.registers.now in
    let t : Term = slice_index_or c.as_slice-terms.result.now c.loop-at.at no_term in
    let rest : ℤ = terms m regs (drop (c.loop-at.at + 1) c.args.place.now.terms) in
    let total : ℤ = int_wrap w64 (source m c.args.place.now.base +ℤ terms m regs c.args.place.now.terms) in
    let r : to_z w64 (of_z w64 c.get.result) ≡ register regs t.reg = to_z-of_z w64 c.get.result (record { sfits = c.get.type_inv }) ∙ c.get.ensures in
    let s : to_z w64 (of_z w64 c.source_at-step.result) ≡ source m t.step = to_z-of_z w64 c.source_at-step.result (record { sfits = c.source_at-step.type_inv }) ∙ c.source_at-step.ensures.value ∙ ap (λ (v : View). source v.cells t.step) c.loop-at.invariant.same in
    let next : terms m regs (drop c.loop-at.at c.args.place.now.terms) ≡ register regs t.reg *ℤ source m t.step +ℤ rest =
    subst (λ (l : List Term). terms m regs (drop c.loop-at.at l) ≡ register regs t.reg *ℤ source m t.step +ℤ terms m regs (drop (c.loop-at.at + 1) l)) c.loop-at.invariant.terms_are (term_next m regs c.as_slice-terms.result.now c.loop-at.at no_term c.loop-at-test.true) in
    let is : to_z w64 (of_z w64 c.plus_times-sum.result) ≡ int_wrap w64 (to_z w64 c.loop-at.sum-bits +ℤ int_wrap w64 (register regs t.reg *ℤ source m t.step)) =
    to_z-of_z w64 c.plus_times-sum.result (record { sfits = c.plus_times-sum.type_inv }) ∙ c.plus_times-sum.ensures ∙ (λ i. int_wrap w64 (to_z w64 c.loop-at.sum-bits +ℤ int_wrap w64 (r i *ℤ s i))) in
    record {
      belongs = c.source_at-step.ensures.belongs;
      same = c.source_at-step.ensures.same ∙ c.loop-at.invariant.same;
      terms_are = c.loop-at.invariant.terms_are;
      sum = ap (λ (z : ℤ). int_wrap w64 (z +ℤ rest)) is
          ∙ step_law (to_z w64 c.loop-at.sum-bits) (register regs t.reg *ℤ source m t.step) rest total (sym (ap (λ (z : ℤ). int_wrap w64 (to_z w64 c.loop-at.sum-bits +ℤ z)) next) ∙ c.loop-at.invariant.sum);
    }

-- src/lib.rt:70:1
pub returns-clause-value : goal.returns-clause-value
returns-clause-value g c =
    let m : Cells = (g.S.Site.view c.args.site.now c.args.hand.now).cells in
    let regs : List ℤ = c.args.registers.now in
    let z : ℤ = source m c.args.place.now.base +ℤ terms m regs c.args.place.now.terms in
    let sum : ℤ = to_z w64 c.loop-at.sum-bits in
    let over : drop c.loop-at.at c.args.place.now.terms ≡ [] = drop_all c.loop-at.at c.args.place.now.terms (subst (λ (l : List Term). length l ≤ c.loop-at.at) c.loop-at.invariant.terms_are c.loop-at-test.false) in
    c.cast_unsigned.ensures ∙ finish_law z sum (sfits_to_z c.loop-at.auto.sum) (sym (ap (λ (l : List Term). int_wrap w64 (sum +ℤ terms m regs l)) over) ∙ c.loop-at.invariant.sum) c.requires.small

-- src/lib.rt:70:1
pub returns-clause-same : goal.returns-clause-same
returns-clause-same g c = c.loop-at.invariant.same
