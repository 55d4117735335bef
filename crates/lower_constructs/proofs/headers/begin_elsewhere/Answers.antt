use Rattle.std.proofs.Common.{refl, sym, ap, ◌∙◌, []}
use Rattle.hlfir_ops.specs.declared.what.What.TheVariants as what
use Rattle.lower_values.specs.Lowerings.{statement_of}
use Rattle.lower_values.proofs.Appended.{appends-by, if-map}
use Rattle.lower_constructs.specs.Lists.{mask_of}
use Rattle.lower_constructs.proofs.headers.begin_elsewhere.Goals as goal

pub returns-in-Some : goal.returns-in-Some
returns-in-Some c =
    if-map c.begin_masked.result (λ done h. appends-by (ap (λ m. statement_of what.Elsewhere c.args.line [] (mask_of m)) (sym c.in-Some.is)) refl h) c.begin_masked.ensures

pub returns-in-None : goal.returns-in-None
returns-in-None c =
    let form = ap (λ os. statement_of what.Elsewhere c.args.line os []) c.new.ensures ∙ ap (λ m. statement_of what.Elsewhere c.args.line [] (mask_of m)) (sym c.in-None.is) in
    if-map c.begin_statement.result (λ done h. appends-by form refl (h c.args.names.now)) c.begin_statement.ensures
