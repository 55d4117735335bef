-- The forms so far and those of the subscripts that are left are all the forms.
use Rattle.std.proofs.Common.{◌≡◌, ◌++◌, drop}
use Rattle.alias_test.specs.Givers.{ops_at}
use Rattle.alias_test.specs.Normal.{forms_of}
use Rattle.alias_test.proofs.normal_form.forms_of.Given as goal

abbrev pub invariant-each : goal.invariant-each
invariant-each l = l.forms ++ forms_of (ops_at l.table) (drop l.sub-index l.subs) l.rest ≡ forms_of (ops_at l.table) l.subs l.operands
