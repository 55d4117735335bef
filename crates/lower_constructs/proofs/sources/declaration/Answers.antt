use Rattle.std.proofs.Common.{refl, ap, ◌∙◌}
use Rattle.hlfir_ops.specs.declared.what.What.TheVariants as what
use Rattle.lower_values.specs.Lowerings.{giving}
use Rattle.lower_values.proofs.Appended.{appends-by}
use Rattle.lower_constructs.proofs.Parts.{declaration-is}
use Rattle.lower_constructs.proofs.sources.declaration.Goals as goal

pub returns : goal.returns
returns c = λ names k.
    let v = c.args.variable.now in
    let form = ap (λ x. giving (what.Declare x) c.new.result v.declare.kind) c.in_ok-name.ensures ∙ ap (λ os. giving (what.Declare v.name) os v.declare.kind) c.new.ensures in
    declaration-is names k v (appends-by form refl (c.in_ok-give.ensures names))
