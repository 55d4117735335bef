use Rattle.form_laws.proofs.Forms.{operands-fit, results-fit}
use Rattle.form_laws.proofs.laws.every_op_has_its_form.Goals as goal

pub returns-clause-operands : goal.returns-clause-operands
returns-clause-operands c = operands-fit

pub returns-clause-results : goal.returns-clause-results
returns-clause-results c = results-fit
