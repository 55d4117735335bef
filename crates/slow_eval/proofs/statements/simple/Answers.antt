use Rattle.std.proofs.Common.{sym, ap}
use Rattle.array_meaning.specs.Program as program
use Rattle.slow_eval.proofs.Ends.{same_leaves}
use Rattle.slow_eval.proofs.Forms.{assign_small, forall_small, simple_masked, simple_forall}
use Rattle.slow_eval.proofs.statements.simple.Goals as goal

pub assign-requires-clause-left : goal.assign-requires-clause-left
assign-requires-clause-left c = (assign_small c.args.body.now c.in-Assign.left c.in-Assign.right c.in-Assign.is c.requires.small).0

pub assign-requires-clause-right : goal.assign-requires-clause-right
assign-requires-clause-right c = (assign_small c.args.body.now c.in-Assign.left c.in-Assign.right c.in-Assign.is c.requires.small).1

pub run_forall-requires-clause-small : goal.run_forall-requires-clause-small
run_forall-requires-clause-small c = forall_small c.args.body.now c.in-Forall.indexes c.as_slice.result.now c.in-Forall.mask c.in-Forall.block c.as_slice-in-Forall.result.now c.in-Forall.is c.as_slice.ensures c.as_slice-in-Forall.ensures c.requires.small

pub returns-in-Assign-clause-value : goal.returns-in-Assign-clause-value
returns-in-Assign-clause-value c = same_leaves c.assign.result _ _ c.assign.new.world (ap (program.simple c.args.world.now c.args.line) (sym c.in-Assign.is)) c.assign.ensures.value

pub returns-in-Masked-clause-value : goal.returns-in-Masked-clause-value
returns-in-Masked-clause-value c = same_leaves c.run_where.result _ _ c.run_where.new.world (simple_masked c.args.world.now c.args.line c.args.body.now c.in-Masked.mask c.in-Masked.block c.in-Masked.rest c.in-Masked.is) c.run_where.ensures.value

pub returns-in-Forall-clause-value : goal.returns-in-Forall-clause-value
returns-in-Forall-clause-value c =
    same_leaves c.run_forall.result _ _ c.run_forall.new.world
    (simple_forall c.args.world.now c.args.line c.args.body.now c.in-Forall.indexes c.as_slice.result.now c.in-Forall.mask c.in-Forall.block c.as_slice-in-Forall.result.now c.in-Forall.is c.as_slice.ensures c.as_slice-in-Forall.ensures)
    c.run_forall.ensures.value
