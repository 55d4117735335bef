use Rattle.std.proofs.Common.{w32, rules}
use Rattle.std.proofs.lemmas.Int.{to_z-of_z}
use Rattle.ws_space.specs.Shapes.{dims}
use Rattle.alias_test.specs.Normal.{declared_forms}
use Rattle.alias_test.proofs.Whole.{declared_next}
use Rattle.alias_test.proofs.normal_form.declared_forms.Goals as goal

pub each-preserved : goal.each-preserved
each-preserved c =
    declared_next c.args.var c.each.dim (dims c.args.shape.now) c.in-Some.d _ c.upper_of.result c.in_ok-whole_form.field-0 c.each.forms c.push.new.self (declared_forms c.args.var 1 (dims c.args.shape.now)) c.in-Some.ensures (to_z-of_z w32 c.in-Some.d.lower (search rules)) c.upper_of.ensures
    c.in_ok-whole_form.ensures c.in_ok-push.ensures.ok c.each.invariant
