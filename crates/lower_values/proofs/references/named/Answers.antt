use Rattle.std.proofs.Common.{Some, None}
use Rattle.lower_values.proofs.Appended.{appends-done, if-map}
use Rattle.lower_values.proofs.Named.{appends-named}
use Rattle.lower_values.proofs.references.named.Goals as goal

pub returns-in-Some : goal.returns-in-Some
returns-in-Some c = appends-named c.args.names.now c.args.name.now (Some c.in-Some.value) c.in-Some.ensures (appends-done c.args.names.now c.args.build.now _)

pub returns-in-None : goal.returns-in-None
returns-in-None c = if-map c.variable_or_truth.result (λ x h. appends-named c.args.names.now c.args.name.now None c.in-None.ensures h) c.variable_or_truth.ensures
