-- These are the forms of the dimensions so far.
use Rattle.std.proofs.Common.{◌≡◌}
use Rattle.alias_test.specs.Normal.{kept_forms}
use Rattle.alias_test.proofs.normal_form.kept_forms.Given as goal

abbrev pub invariant-each : goal.invariant-each
invariant-each l = l.forms ≡ kept_forms l.var l.before
