use Rattle.std.proofs.Common.{refl, ap, ◌∙◌, [], ◌∷◌}
use Rattle.hlfir_ops.specs.declared.what.What.TheVariants as what
use Rattle.lower_values.specs.Lowerings.{statement_of}
use Rattle.lower_assign.specs.Statements.{all_yielded}
use Rattle.lower_values.proofs.Appended.{appends-by}
use Rattle.lower_constructs.specs.Modules.{triple}
use Rattle.lower_constructs.proofs.Filling.{stands, inside, fills-one, yields-all}
use Rattle.lower_constructs.proofs.headers.begin_loop.Goals as goal

pub enter_region-requires : goal.enter_region-requires
enter_region-requires c = let names = c.args.names.now in stands names what.DoLoop c.args.line c.in_ok-operands.operands [] c.args.build.now c.begin_statement.new.build (c.in_ok-begin_statement.ensures names)

pub leave_region-requires : goal.leave_region-requires
leave_region-requires c =
    let names = c.args.names.now in
    let some = stands names what.DoLoop c.args.line c.in_ok-operands.operands [] c.args.build.now c.begin_statement.new.build (c.in_ok-begin_statement.ensures names) in
    inside c.begin_statement.new.build c.enter_region.new.self c.act.new.build some c.in_ok-enter_region.ensures.entered (yields-all (triple c.args.l.now c.args.u.now c.args.s.now) c.in_ok-three.ensures (c.in_ok-act.ensures names))

pub returns : goal.returns
returns c =
    let names = c.args.names.now in
    let header = triple c.args.l.now c.args.u.now c.args.s.now in
    let yields = yields-all header c.in_ok-three.ensures (c.in_ok-act.ensures names) in
    let filled = fills-one c.begin_statement.new.build c.enter_region.new.self c.act.new.build c.leave_region.new.self c.in_ok-enter_region.ensures.entered yields c.leave_region.ensures in
    let form = ap (λ os. statement_of what.DoLoop c.args.line os (all_yielded header ∷ [])) c.in_ok-operands.ensures
    ∙ ap (λ d. statement_of what.DoLoop c.args.line (d.value ∷ []) (all_yielded header ∷ [])) c.declare_of-declare.ensures in
    appends-by form refl (filled.next what.DoLoop c.args.line c.in_ok-operands.operands [] c.args.build.now (c.in_ok-begin_statement.ensures names))
