use Rattle.std.proofs.Common.{refl, ap, ◌∙◌, [], ◌∷◌}
use Rattle.hlfir_ops.specs.declared.what.What.TheVariants as what
use Rattle.lower_values.specs.Lowerings.{statement_of}
use Rattle.lower_assign.specs.Statements.{all_yielded}
use Rattle.lower_values.proofs.Appended.{appends-by}
use Rattle.lower_constructs.specs.Modules.{triples}
use Rattle.lower_constructs.proofs.Filling.{stands, inside, fills-one, yields-all}
use Rattle.lower_constructs.proofs.headers.begin_forall.Goals as goal

pub enter_region-requires : goal.enter_region-requires
enter_region-requires c = let names = c.args.names.now in stands names (what.Forall c.in_ok-index_names.index_names) c.args.line c.new.result [] c.args.build.now c.begin_statement.new.build (c.in_ok-begin_statement.ensures names)

pub leave_region-requires : goal.leave_region-requires
leave_region-requires c =
    let names = c.args.names.now in
    let some = stands names (what.Forall c.in_ok-index_names.index_names) c.args.line c.new.result [] c.args.build.now c.begin_statement.new.build (c.in_ok-begin_statement.ensures names) in
    inside c.begin_statement.new.build c.enter_region.new.self c.act.new.build some c.in_ok-enter_region.ensures.entered (yields-all (triples c.args.indexes.now) c.in_ok-all.ensures (c.in_ok-act.ensures names))

pub returns : goal.returns
returns c =
    let names = c.args.names.now in
    let yields = yields-all (triples c.args.indexes.now) c.in_ok-all.ensures (c.in_ok-act.ensures names) in
    let filled = fills-one c.begin_statement.new.build c.enter_region.new.self c.act.new.build c.leave_region.new.self c.in_ok-enter_region.ensures.entered yields c.leave_region.ensures in
    let w = what.Forall c.in_ok-index_names.index_names in
    let form = ap (λ os. statement_of w c.args.line os (all_yielded (triples c.args.indexes.now) ∷ [])) c.new.ensures
    ∙ ap (λ xs. statement_of (what.Forall xs) c.args.line [] (all_yielded (triples c.args.indexes.now) ∷ [])) c.in_ok-index_names.ensures in
    appends-by form refl (filled.next w c.args.line c.new.result [] c.args.build.now (c.in_ok-begin_statement.ensures names))
