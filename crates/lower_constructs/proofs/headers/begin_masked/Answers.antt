use Rattle.std.proofs.Common.{refl, ap, []}
use Rattle.lower_values.specs.Lowerings.{statement_of}
use Rattle.lower_values.proofs.Appended.{appends-by, if-map}
use Rattle.lower_constructs.proofs.Filling.{stands}
use Rattle.lower_constructs.proofs.headers.begin_masked.Goals as goal

pub value_region-requires : goal.value_region-requires
value_region-requires c = let names = c.args.names.now in stands names c.args.what c.args.line c.new.result [] c.args.build.now c.begin_statement.new.build (c.in_ok-begin_statement.ensures names)

pub returns : goal.returns
returns c =
    let begun = appends-by (ap (λ os. statement_of c.args.what c.args.line os []) c.new.ensures) refl (c.in_ok-begin_statement.ensures c.args.names.now) in
    if-map c.value_region.result (λ done h. h.next c.args.what c.args.line [] [] c.args.build.now begun) c.value_region.ensures
