use Rattle.std.proofs.Common.{◌∙◌, sym}
use Rattle.alias_test.specs.Givers.{ops_at}
use Rattle.alias_test.proofs.Boxes.{held_at-earlier, variable_of-box, variable_of-itself}
use Rattle.alias_test.proofs.variable.variable_of.Goals as goal

pub boxes-preserved : goal.boxes-preserved
boxes-preserved c = c.boxes.invariant ∙ variable_of-box (ops_at c.args.table.now) c.boxes.at.number c.in-Some.held (sym c.in-Some.ensures)

pub boxes-smaller : goal.boxes-smaller
boxes-smaller c = held_at-earlier (ops_at c.args.table.now) c.boxes.at.number c.in-Some.held (sym c.in-Some.ensures)

pub returns : goal.returns
returns c = sym (c.boxes.invariant ∙ variable_of-itself (ops_at c.args.table.now) c.boxes.at.number (sym c.in_default.ensures))
