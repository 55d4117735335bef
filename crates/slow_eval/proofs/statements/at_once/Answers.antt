use Rattle.slow_eval.specs.Machine.{state, source}
use Rattle.slow_eval.proofs.SameNames.{simple_names, allocated_names, deallocated_names}
use Rattle.slow_eval.proofs.Ends.{changed_goes_on}
use Rattle.slow_eval.proofs.Forms.{parts_small, items_small, allocate_leaves, deallocate_leaves, read_leaves, simple_leaves}
use Rattle.slow_eval.proofs.statements.at_once.Goals as goal

pub allocate-requires-clause-small : goal.allocate-requires-clause-small
allocate-requires-clause-small c = parts_small c.args.body.now c.in-Allocate.parts c.as_slice.result.now c.in-Allocate.is c.as_slice.ensures c.requires.small

pub read-requires-clause-small : goal.read-requires-clause-small
read-requires-clause-small c = items_small c.args.body.now c.in-Read.items c.as_slice-in-Read.result.now c.in-Read.is c.as_slice-in-Read.ensures c.requires.small

pub returns-in-Allocate-clause-value : goal.returns-in-Allocate-clause-value
returns-in-Allocate-clause-value c =
    allocate_leaves c.allocate.result (source c.args.input.now c.args.machine.now) c.args.line c.args.body.now c.in-Allocate.parts c.as_slice.result.now (state c.args.machine.now) c.allocate.new.world c.in-Allocate.is c.as_slice.ensures c.allocate.ensures.value

pub returns-in-Allocate-clause-kept : goal.returns-in-Allocate-clause-kept
returns-in-Allocate-clause-kept c =
    changed_goes_on c.args.input.now c.args.machine.now c.allocate.new.world c.allocate.result _ c.requires.ready (allocated_names c.args.machine.now.world c.args.line c.as_slice.result.now) c.allocate.ensures.value c.allocate.ensures.kept

pub returns-in-Deallocate-clause-value : goal.returns-in-Deallocate-clause-value
returns-in-Deallocate-clause-value c =
    deallocate_leaves c.deallocate.result (source c.args.input.now c.args.machine.now) c.args.line c.args.body.now c.in-Deallocate.names c.as_slice-in-Deallocate.result.now (state c.args.machine.now) c.deallocate.new.world c.in-Deallocate.is c.as_slice-in-Deallocate.ensures c.deallocate.ensures.value

pub returns-in-Deallocate-clause-kept : goal.returns-in-Deallocate-clause-kept
returns-in-Deallocate-clause-kept c =
    changed_goes_on c.args.input.now c.args.machine.now c.deallocate.new.world c.deallocate.result _ c.requires.ready (deallocated_names c.args.machine.now.world c.args.line c.as_slice-in-Deallocate.result.now) c.deallocate.ensures.value c.deallocate.ensures.kept

pub returns-in-Read-clause-value : goal.returns-in-Read-clause-value
returns-in-Read-clause-value c =
    read_leaves c.read.result (source c.args.input.now c.args.machine.now) c.args.line c.args.body.now c.in-Read.items c.as_slice-in-Read.result.now (state c.args.machine.now) (state c.read.new.machine) c.in-Read.is c.as_slice-in-Read.ensures c.read.ensures.value

pub returns-in_default-clause-value : goal.returns-in_default-clause-value
returns-in_default-clause-value c =
    simple_leaves c.simple.result (source c.args.input.now c.args.machine.now) c.args.line c.args.body.now (state c.args.machine.now) c.simple.new.world c.in_default.not-Allocate c.in_default.not-Deallocate c.in_default.not-Read c.simple.ensures.value

pub returns-in_default-clause-kept : goal.returns-in_default-clause-kept
returns-in_default-clause-kept c =
    changed_goes_on c.args.input.now c.args.machine.now c.simple.new.world c.simple.result _ c.requires.ready (simple_names c.args.machine.now.world c.args.line c.args.body.now) c.simple.ensures.value c.simple.ensures.kept
