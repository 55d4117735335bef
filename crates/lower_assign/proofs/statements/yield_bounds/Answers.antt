use Rattle.hlfir_ops.specs.declared.what.What.TheVariants.{Yield}
use Rattle.lower_values.specs.Lowerings.{acting}
use Rattle.lower_assign.specs.Statements.{all_bounds}
use Rattle.lower_values.proofs.Appended.{appends-next, if-map}
use Rattle.lower_assign.proofs.statements.yield_bounds.Goals as goal

pub returns : goal.returns
returns c =
    let names = c.args.names.now in
    if-map c.act.result (λ y h. appends-next names (all_bounds c.args.bounds.now) (acting Yield) c.args.build.now c.all_bounds.new.build c.act.new.build c.in_ok-values.values tt c.in_ok-values.ensures (h names)) c.act.ensures
