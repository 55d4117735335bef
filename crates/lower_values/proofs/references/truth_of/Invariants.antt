use Rattle.std.proofs.Common.{◌≡◌, drop}
use Rattle.lower_values.specs.References.{truth_of}
use Rattle.lower_values.proofs.references.truth_of.Given as goal

abbrev pub invariant-each : goal.invariant-each
invariant-each l = truth_of l.truths l.name ≡ truth_of (drop l.truth-index l.truths) l.name
