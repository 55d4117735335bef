use Rattle.std.proofs.Common.{◌∙◌, ap}
use Rattle.alias_test.specs.Givers.{ops_at}
use Rattle.alias_test.proofs.Dimensions.{result_has_dimensions}
use Rattle.alias_test.proofs.normal_form.designator_of.Goals as goal

pub returns-clause-dimensions : goal.returns-clause-dimensions
returns-clause-dimensions c =
    result_has_dimensions c.args.module.now c.args.v (ops_at c.as_slice.result.now) c.designator_in.result c.requires.kept c.requires.designates (ap ops_at c.as_slice.ensures.value ∙ c.in_ok-table.ensures) c.designator_in.ensures.normal
