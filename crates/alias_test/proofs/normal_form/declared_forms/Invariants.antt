-- The forms so far and those of the dimensions that are left are all the forms.
use Rattle.std.proofs.Common.{◌≡◌, ◌++◌, ◌-◌, drop}
use Rattle.ws_space.specs.Shapes.{dims}
use Rattle.alias_test.specs.Normal.{declared_forms}
use Rattle.alias_test.proofs.normal_form.declared_forms.Given as goal

abbrev pub invariant-each : goal.invariant-each
invariant-each l = l.forms ++ declared_forms l.var l.dim (drop (l.dim - 1) (dims l.shape)) ≡ declared_forms l.var 1 (dims l.shape)
