use Rattle.std.proofs.Common.{refl, ap}
use Rattle.lower_values.specs.References.{boxed}
use Rattle.lower_values.proofs.Appended.{appends-by, if-map}
use Rattle.lower_values.proofs.Named.{appends-reference}
use Rattle.lower_values.proofs.references.reference.Goals as goal

pub returns : goal.returns
returns c = if-map c.boxed.result (λ x h. appends-reference c.args.names.now c.args.name.now (appends-by (ap boxed c.declare_of.ensures) refl (h c.args.names.now))) c.boxed.ensures
