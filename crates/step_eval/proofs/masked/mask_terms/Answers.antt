use Rattle.std.proofs.Common.{subst, sym, All, List, [], ◌∷◌}
use Rattle.std.proofs.lemmas.List.Elements.{All-nil, All-cons, All-append}
use Rattle.step_eval.specs.declared.construct.MaskTerm.{MaskTerm}
use Rattle.step_eval.specs.Masked.{IsSmallMask}
use Rattle.step_eval.proofs.MaskTerms.{Made, begins, goes_on, ends}
use Rattle.step_eval.proofs.masked.mask_terms.Goals as goal

pub loop-mask-init : goal.loop-mask-init
loop-mask-init c = record {
  made = let P : List MaskTerm → Type 0 = λ l. Made c.args.world.now c.args.shape_line c.args.masks.now 0 l in subst P (sym c.new-terms.ensures) (begins c.args.world.now c.args.shape_line c.args.masks.now);
  small = let P : List MaskTerm → Type 0 = λ l. All IsSmallMask l in subst P (sym c.new-terms.ensures) (All-nil IsSmallMask);
}

pub loop-mask-preserved : goal.loop-mask-preserved
loop-mask-preserved c =
    let new : MaskTerm = record { line = c.mask-item.result.line; under = c.mask-item.result.under; term = c.in_ok-term.term } in
    let small : IsSmallMask new = record { small = c.in_ok-term.ensures.small; narrow = c.in_ok-term.ensures.narrow } in
    let P : List MaskTerm → Type 0 = λ l. All IsSmallMask l in
    record {
      made = goes_on c.args.world.now c.args.shape_line c.args.masks.now c.loop-mask.mask-index c.mask-item.result c.loop-mask.terms c.loop-mask-test.true c.mask-item.is c.loop-mask.invariant.made c.in_ok-term.term c.push.new.self c.in_ok-term.ensures.value c.in_ok-push.ensures.ok;
      small = subst P (sym c.in_ok-push.ensures.ok) (All-append IsSmallMask c.loop-mask.terms (new ∷ []) c.loop-mask.invariant.small (All-cons IsSmallMask new [] small (All-nil IsSmallMask)));
    }

pub returns : goal.returns
returns c = record {
  value = ends c.args.world.now c.args.shape_line c.args.masks.now c.loop-mask.mask-index c.loop-mask.terms c.loop-mask-test.false c.loop-mask.invariant.made;
  small = c.loop-mask.invariant.small;
}
