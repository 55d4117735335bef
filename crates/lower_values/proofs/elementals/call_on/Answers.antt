use Rattle.std.proofs.Common.{ap, ◌∙◌}
use Rattle.lower_values.specs.Operations.{operation, what_of, call_elem, total_or, call_on}
use Rattle.lower_values.proofs.Appended.{if-by}
use Rattle.lower_values.proofs.elementals.call_on.Goals as goal

pub returns-in-Some : goal.returns-in-Some
unfolding call_on
returns-in-Some c =
    let xs = c.args.xs.now in
    if-by c.total.result c.args.build.now c.total.new.build (ap (λ r. total_or r xs (operation (what_of c.args.word) (call_elem c.args.word xs) xs)) c.in-Some.ensures) c.total.ensures

pub returns-in-None : goal.returns-in-None
unfolding call_on
returns-in-None c =
    let xs = c.args.xs.now in
    let spelled = ap (λ w. operation w c.call_elem.result xs) c.what_of.ensures ∙ ap (λ e. operation (what_of c.args.word) e xs) c.call_elem.ensures in
    if-by c.operation.result c.args.build.now c.operation.new.build (spelled ∙ ap (λ r. total_or r xs (operation (what_of c.args.word) (call_elem c.args.word xs) xs)) c.in-None.ensures) c.operation.ensures
