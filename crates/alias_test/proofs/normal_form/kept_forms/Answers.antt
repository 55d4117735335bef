use Rattle.alias_test.proofs.Whole.{kept_next}
use Rattle.alias_test.proofs.normal_form.kept_forms.Goals as goal

pub each-preserved : goal.each-preserved
each-preserved c = kept_next c.args.var c.each.before c.in_ok-whole_form.field-0 c.each.forms c.push.new.self c.in_ok-whole_form.ensures c.in_ok-push.ensures.ok c.each.invariant
