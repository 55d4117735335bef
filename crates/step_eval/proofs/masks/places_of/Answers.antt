use Rattle.std.proofs.Common.{sym, ◌∙◌}
use Rattle.step_eval.proofs.Splits.{split_there, split_absent}
use Rattle.step_eval.proofs.masks.places_of.Goals as goal

pub returns-in-None-clause-value : goal.returns-in-None-clause-value
returns-in-None-clause-value c = c.new.ensures ∙ sym (split_absent c.args.evaluated.now c.args.number c.args.want (sym c.in-None.ensures))

pub returns-in_ok-copy-in-Some-clause-value : goal.returns-in_ok-copy-in-Some-clause-value
returns-in_ok-copy-in-Some-clause-value c =
    c.in_ok-copy-in-Some.ensures ∙ (c.chosen-places.ensures ∙ sym (split_there c.args.evaluated.now c.args.number c.args.want c.in-Some.mask.now (sym c.in-Some.ensures)))
