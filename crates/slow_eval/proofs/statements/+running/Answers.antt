use Rattle.std.proofs.Common.{rules, arith, ◌∙◌, sym, ap, refl, Ok, lit<, FitsSigned, to_z, of_z, w64}
use Rattle.std.proofs.lemmas.Int.{to_z-of_z}
use Rattle.ws_space.specs.Faults.{at_line}
use Rattle.ws_space.specs.Runs.{run_of, ticked, assigned_scalar, iterations, loop_end}
use Rattle.ws_space.specs.Shapes.{count}
use Rattle.ws_space.specs.Subscripts.{stepped}
use Rattle.array_meaning.specs.Program.{statement, statement_list}
use Rattle.slow_eval.specs.Machine.{state, source}
use Rattle.slow_eval.proofs.Ends.{end_first, counts_go_on, world_stays, goes_further, on_further, stays_on, leaves_then, same_halts}
use Rattle.slow_eval.proofs.Blocks.{loop_small, shared_small}
use Rattle.slow_eval.proofs.Forms.{iterated}
use Rattle.slow_eval.proofs.InOrder.{small_at, statements_next, statements_stop, statements_end}
use Rattle.slow_eval.proofs.BodyWeights.{stmts_weight, of_loop, of_stmts, below}
use Rattle.slow_eval.proofs.Between.{value_integer, widened, first_value, next_fits, next_is}
use Rattle.slow_eval.proofs.Iterated.{once, iterations_begin, iterations_go_on, iterations_stop, iterations_end, integer_here}
use Rattle.slow_eval.proofs.CountedForms.{counted_leaves}
use Rattle.slow_eval.proofs.DoForms.{loop_tick_halts, loop_header_halts, loop_leaves, region_tick_halts, region_run_leaves}
use Rattle.slow_eval.proofs.statements.+running.Goals as goal

-- ---- one iteration

pub iteration-returns-in_err-tick-clause-value : goal.iteration-returns-in_err-tick-clause-value
iteration-returns-in_err-tick-clause-value t c =
    let h = end_first c.in_err-tick.field-0.0 (run_of (ticked c.args.line 1 (state c.args.machine.now))) (λ r. statement_list (source c.args.input.now c.args.machine.now) c.args.block.now (assigned_scalar r c.args.var.now c.args.value)) c.in_err-tick.ensures.value in
    search rules

pub iteration-statements-requires : goal.iteration-statements-requires
iteration-statements-requires t c =
    let first = counts_go_on c.args.input.now c.args.machine.now c.tick.new.machine c.requires.ready c.in_ok-tick.ensures.others in
    (below t (stmts_weight c.args.block.now) 1 2 c.decreases (lit< tt), ((c.in_ok-set_scalar.ensures.kept c.args.input.now first.ready).ready, c.requires.small))

pub iteration-returns-clause-value : goal.iteration-returns-clause-value
iteration-returns-clause-value t c =
    let first = counts_go_on c.args.input.now c.args.machine.now c.tick.new.machine c.requires.ready c.in_ok-tick.ensures.others in
    let set = goes_further c.args.input.now c.args.machine.now c.tick.new.machine c.set_scalar.new.machine first (c.in_ok-set_scalar.ensures.kept c.args.input.now first.ready) in
    let same = to_z-of_z w64 c.args.value c.ranges.value in
    iterated c.statements.result (source c.args.input.now c.args.machine.now) (source c.args.input.now c.set_scalar.new.machine) c.args.line c.args.var.now c.args.value c.args.block.now (state c.args.machine.now) (state c.tick.new.machine) (state c.set_scalar.new.machine) (state c.statements.new.machine)
    c.in_ok-tick.ensures.value (c.in_ok-set_scalar.ensures.value ∙ ap (assigned_scalar (state c.tick.new.machine) c.args.var.now) same) set.source c.statements.ensures.value

pub iteration-returns-clause-kept : goal.iteration-returns-clause-kept
iteration-returns-clause-kept t c =
    let first = counts_go_on c.args.input.now c.args.machine.now c.tick.new.machine c.requires.ready c.in_ok-tick.ensures.others in
    let set = goes_further c.args.input.now c.args.machine.now c.tick.new.machine c.set_scalar.new.machine first (c.in_ok-set_scalar.ensures.kept c.args.input.now first.ready) in
    on_further c.statements.result c.args.input.now c.args.machine.now c.set_scalar.new.machine c.statements.new.machine set c.statements.ensures.kept

-- ---- all iterations

pub iterations-each_iteration-init : goal.iterations-each_iteration-init
iterations-each_iteration-init t c = record {
  value = widened c.args.triplet.now.l c.from-value.result (record { sfits = c.fits-triplet.0.1 }) c.from-value.ensures ∙ sym (first_value c.args.triplet.now);
  rest = iterations_begin (source c.args.input.now c.args.machine.now) c.args.line c.args.var.now c.args.triplet.now c.args.block.now c.iteration_count-number.result (state c.args.machine.now);
  goes_on = stays_on c.args.input.now c.args.machine.now c.requires.ready;
}

pub iterations-iteration-requires : goal.iterations-iteration-requires
iterations-iteration-requires t c =
    let integer = integer_here c.args.triplet.now c.each_iteration.k c.iteration_count-number.result (to_z w64 c.each_iteration.value-bits) c.requires.stride c.iteration_count-number.ensures c.each_iteration-test.true (record { sfits = c.fits-triplet.0.1 }) (record { sfits = c.fits-triplet.1.0.1 }) c.each_iteration.invariant.value in
    (below t (stmts_weight c.args.block.now) 2 3 c.decreases (lit< tt), (c.each_iteration.invariant.goes_on.ready, (c.requires.small, integer)))

pub iterations-returns-in_err-iteration-clause-value : goal.iterations-returns-in_err-iteration-clause-value
iterations-returns-in_err-iteration-clause-value t c =
    let h = iterations_stop (source c.args.input.now c.args.machine.now) c.args.line c.args.var.now c.args.triplet.now c.args.block.now (source c.args.input.now c.each_iteration.machine) (iterations (once (source c.args.input.now c.args.machine.now) c.args.line c.args.var.now c.args.triplet.now c.args.block.now) c.iteration_count-number.result 0 (state c.args.machine.now)).end c.iteration_count-number.result c.each_iteration.k (to_z w64 c.each_iteration.value-bits) (state c.each_iteration.machine) c.in_err-iteration.field-0.0 c.each_iteration.invariant.value c.each_iteration-test.true c.each_iteration.invariant.goes_on.source c.in_err-iteration.ensures.value c.each_iteration.invariant.rest in
    let same = ap (λ n. (iterations (once (source c.args.input.now c.args.machine.now) c.args.line c.args.var.now c.args.triplet.now c.args.block.now) n 0 (state c.args.machine.now)).end) c.iteration_count-number.ensures in
    let halts = same_halts c.in_err-iteration.field-0.0 (iterations (once (source c.args.input.now c.args.machine.now) c.args.line c.args.var.now c.args.triplet.now c.args.block.now) c.iteration_count-number.result 0 (state c.args.machine.now)).end (iterations (once (source c.args.input.now c.args.machine.now) c.args.line c.args.var.now c.args.triplet.now c.args.block.now) (count c.args.triplet.now) 0 (state c.args.machine.now)).end same h in
    search rules

pub iterations-overflow_add-value : goal.iterations-overflow_add-value
iterations-overflow_add-value t c =
    let integer = integer_here c.args.triplet.now c.each_iteration.k c.iteration_count-number.result (to_z w64 c.each_iteration.value-bits) c.requires.stride c.iteration_count-number.ensures c.each_iteration-test.true (record { sfits = c.fits-triplet.0.1 }) (record { sfits = c.fits-triplet.1.0.1 }) c.each_iteration.invariant.value in
    next_fits (to_z w64 c.each_iteration.value-bits) c.args.triplet.now.s c.from-value-in-each_iteration.result integer (record { sfits = c.fits-triplet.1.1.0.1 }) c.from-value-in-each_iteration.ensures

pub iterations-each_iteration-preserved : goal.iterations-each_iteration-preserved
iterations-each_iteration-preserved t c =
    let integer = integer_here c.args.triplet.now c.each_iteration.k c.iteration_count-number.result (to_z w64 c.each_iteration.value-bits) c.requires.stride c.iteration_count-number.ensures c.each_iteration-test.true (record { sfits = c.fits-triplet.0.1 }) (record { sfits = c.fits-triplet.1.0.1 }) c.each_iteration.invariant.value in
    record {
      value = next_is c.args.triplet.now c.each_iteration.k (to_z w64 c.each_iteration.value-bits) c.from-value-in-each_iteration.result c.each_iteration.invariant.value integer (record { sfits = c.fits-triplet.1.1.0.1 }) c.from-value-in-each_iteration.ensures;
      rest = iterations_go_on (source c.args.input.now c.args.machine.now) c.args.line c.args.var.now c.args.triplet.now c.args.block.now (source c.args.input.now c.each_iteration.machine) (iterations (once (source c.args.input.now c.args.machine.now) c.args.line c.args.var.now c.args.triplet.now c.args.block.now) c.iteration_count-number.result 0 (state c.args.machine.now)).end c.iteration_count-number.result c.each_iteration.k (to_z w64 c.each_iteration.value-bits) (state c.each_iteration.machine) (state c.iteration.new.machine) c.each_iteration.invariant.value c.each_iteration.invariant.goes_on.source c.in_ok-iteration.ensures.value c.each_iteration.invariant.rest;
      goes_on = goes_further c.args.input.now c.args.machine.now c.each_iteration.machine c.iteration.new.machine c.each_iteration.invariant.goes_on c.in_ok-iteration.ensures.kept;
    }

pub iterations-returns-clause-value : goal.iterations-returns-clause-value
iterations-returns-clause-value t c =
    ap (λ n. (iterations (once (source c.args.input.now c.args.machine.now) c.args.line c.args.var.now c.args.triplet.now c.args.block.now) n 0 (state c.args.machine.now)).end) (sym c.iteration_count-number.ensures)
    ∙ iterations_end (source c.args.input.now c.args.machine.now) c.args.line c.args.var.now c.args.triplet.now c.args.block.now (iterations (once (source c.args.input.now c.args.machine.now) c.args.line c.args.var.now c.args.triplet.now c.args.block.now) c.iteration_count-number.result 0 (state c.args.machine.now)).end c.iteration_count-number.result c.each_iteration.k (state c.each_iteration.machine) c.each_iteration.auto.k-end c.each_iteration-test.false c.each_iteration.invariant.rest

pub iterations-returns-clause-last : goal.iterations-returns-clause-last
iterations-returns-clause-last t c =
    c.each_iteration.invariant.value ∙ ap (stepped c.args.triplet.now) (omega (arith, c.each_iteration.auto.k-end, c.each_iteration-test.false) ∙ c.iteration_count-number.ensures)

pub iterations-returns-clause-kept : goal.iterations-returns-clause-kept
iterations-returns-clause-kept t c = c.each_iteration.invariant.goes_on

-- ---- DO

pub looped-returns-in_err-last-clause-value : goal.looped-returns-in_err-last-clause-value
looped-returns-in_err-last-clause-value t c =
    let h = end_first c.in_err-last.field-0.0 (iterations (once (source c.args.input.now c.args.machine.now) c.args.line c.args.var.now c.args.triplet.now c.args.block.now) (count c.args.triplet.now) 0 (state c.args.machine.now)) (λ r. run_of (at_line c.args.line (loop_end c.args.var.now c.args.triplet.now r))) c.in_err-last.ensures.value in
    search rules

pub looped-iterations-requires : goal.looped-iterations-requires
looped-iterations-requires t c = (below t (stmts_weight c.args.block.now) 3 4 c.decreases (lit< tt), (c.requires.ready, (c.requires.small, c.requires.stride)))

pub looped-returns-clause-value : goal.looped-returns-clause-value
looped-returns-clause-value t c =
    let fits : FitsSigned w64 c.in_ok-last.last = search rules in
    leaves_then c.finish_loop.result (iterations (once (source c.args.input.now c.args.machine.now) c.args.line c.args.var.now c.args.triplet.now c.args.block.now) (count c.args.triplet.now) 0 (state c.args.machine.now)) (λ r. run_of (at_line c.args.line (loop_end c.args.var.now c.args.triplet.now r))) (state c.iterations.new.machine) (state c.finish_loop.new.machine) c.in_ok-last.ensures.value (c.finish_loop.ensures.value c.args.triplet.now (to_z-of_z w64 c.in_ok-last.last fits ∙ c.in_ok-last.ensures.last))

pub looped-returns-clause-kept : goal.looped-returns-clause-kept
looped-returns-clause-kept t c = on_further c.finish_loop.result c.args.input.now c.args.machine.now c.iterations.new.machine c.finish_loop.new.machine c.in_ok-last.ensures.kept (c.finish_loop.ensures.kept c.args.input.now c.in_ok-last.ensures.kept.ready)

-- ---- a statement

pub statement-returns-in_err-tick-in-Loop-clause-value : goal.statement-returns-in_err-tick-in-Loop-clause-value
statement-returns-in_err-tick-in-Loop-clause-value t c =
    let h = loop_tick_halts (source c.args.input.now c.args.machine.now) c.args.line c.args.body.now c.in-Loop.var c.in-Loop.l c.in-Loop.u c.in-Loop.s c.in-Loop.block (state c.args.machine.now) c.in-Loop.is c.in_err-tick-in-Loop.field-0.0 c.in_err-tick-in-Loop.ensures.value in
    search rules

pub statement-loop_header-requires-clause-world : goal.statement-loop_header-requires-clause-world
statement-loop_header-requires-clause-world t c = world_stays c.args.machine.now c.tick.new.machine c.in_ok-tick-in-Loop.ensures.others c.requires.ready.world

pub statement-loop_header-requires-clause-l : goal.statement-loop_header-requires-clause-l
statement-loop_header-requires-clause-l t c = (loop_small c.args.body.now c.in-Loop.var c.in-Loop.l c.in-Loop.u c.in-Loop.s c.in-Loop.block c.in-Loop.block c.in-Loop.is refl c.requires.small).first

pub statement-loop_header-requires-clause-u : goal.statement-loop_header-requires-clause-u
statement-loop_header-requires-clause-u t c = (loop_small c.args.body.now c.in-Loop.var c.in-Loop.l c.in-Loop.u c.in-Loop.s c.in-Loop.block c.in-Loop.block c.in-Loop.is refl c.requires.small).last

pub statement-loop_header-requires-clause-s : goal.statement-loop_header-requires-clause-s
statement-loop_header-requires-clause-s t c = (loop_small c.args.body.now c.in-Loop.var c.in-Loop.l c.in-Loop.u c.in-Loop.s c.in-Loop.block c.in-Loop.block c.in-Loop.is refl c.requires.small).stride

pub statement-returns-in_err-triplet-in-Loop-clause-value : goal.statement-returns-in_err-triplet-in-Loop-clause-value
statement-returns-in_err-triplet-in-Loop-clause-value t c =
    let first = counts_go_on c.args.input.now c.args.machine.now c.tick.new.machine c.requires.ready c.in_ok-tick-in-Loop.ensures.others in
    let h = loop_header_halts (source c.args.input.now c.args.machine.now) c.args.line c.args.body.now c.in-Loop.var c.in-Loop.l c.in-Loop.u c.in-Loop.s c.in-Loop.block (state c.args.machine.now) c.in-Loop.is (source c.args.input.now c.tick.new.machine) (state c.tick.new.machine) c.in_err-triplet-in-Loop.field-0.0 c.in_ok-tick-in-Loop.ensures.value first.source c.in_err-triplet-in-Loop.ensures.value in
    search rules

pub statement-looped-requires : goal.statement-looped-requires
statement-looped-requires t c =
    let first = counts_go_on c.args.input.now c.args.machine.now c.tick.new.machine c.requires.ready c.in_ok-tick-in-Loop.ensures.others in
    let small = loop_small c.args.body.now c.in-Loop.var c.in-Loop.l c.in-Loop.u c.in-Loop.s c.in-Loop.block c.as_slice.result.now c.in-Loop.is c.as_slice.ensures c.requires.small in
    (of_loop t c.args.body.now c.in-Loop.var c.in-Loop.l c.in-Loop.u c.in-Loop.s c.in-Loop.block c.as_slice.result.now c.decreases c.in-Loop.is c.as_slice.ensures, (first.ready, (small.stmts, c.in_ok-triplet-in-Loop.ensures.stride)))

pub statement-returns-in_err-tick-in-Shared-clause-value : goal.statement-returns-in_err-tick-in-Shared-clause-value
statement-returns-in_err-tick-in-Shared-clause-value t c =
    let h = region_tick_halts (source c.args.input.now c.args.machine.now) c.args.line c.args.body.now c.in-Shared.block (state c.args.machine.now) c.in-Shared.is c.in_err-tick-in-Shared.field-0.0 c.len.result c.len.ensures c.in_err-tick-in-Shared.ensures.value in
    search rules

pub statement-region-requires-clause-world : goal.statement-region-requires-clause-world
statement-region-requires-clause-world t c = world_stays c.args.machine.now c.tick-in-Shared.new.machine c.in_ok-tick-in-Shared.ensures.others c.requires.ready.world

pub statement-region-requires-clause-small : goal.statement-region-requires-clause-small
statement-region-requires-clause-small t c = shared_small c.args.body.now c.in-Shared.block c.as_slice-in-Shared.result.now c.in-Shared.is c.as_slice-in-Shared.ensures c.requires.small

pub statement-returns-in_ok-triplet-in-Loop-clause-value : goal.statement-returns-in_ok-triplet-in-Loop-clause-value
statement-returns-in_ok-triplet-in-Loop-clause-value t c =
    let first = counts_go_on c.args.input.now c.args.machine.now c.tick.new.machine c.requires.ready c.in_ok-tick-in-Loop.ensures.others in
    loop_leaves (source c.args.input.now c.args.machine.now) c.args.line c.args.body.now c.in-Loop.var c.in-Loop.l c.in-Loop.u c.in-Loop.s c.in-Loop.block (state c.args.machine.now) c.in-Loop.is c.looped.result (source c.args.input.now c.tick.new.machine) c.as_slice.result.now (state c.tick.new.machine) (state c.looped.new.machine) c.in_ok-triplet-in-Loop.triplet c.as_slice.ensures c.in_ok-tick-in-Loop.ensures.value first.source c.in_ok-triplet-in-Loop.ensures.value c.looped.ensures.value

pub statement-returns-in_ok-triplet-in-Loop-clause-kept : goal.statement-returns-in_ok-triplet-in-Loop-clause-kept
statement-returns-in_ok-triplet-in-Loop-clause-kept t c =
    let first = counts_go_on c.args.input.now c.args.machine.now c.tick.new.machine c.requires.ready c.in_ok-tick-in-Loop.ensures.others in
    on_further c.looped.result c.args.input.now c.args.machine.now c.tick.new.machine c.looped.new.machine first c.looped.ensures.kept

pub statement-returns-in_ok-tick-in-Shared-clause-value : goal.statement-returns-in_ok-tick-in-Shared-clause-value
statement-returns-in_ok-tick-in-Shared-clause-value t c =
    let first = counts_go_on c.args.input.now c.args.machine.now c.tick-in-Shared.new.machine c.requires.ready c.in_ok-tick-in-Shared.ensures.others in
    region_run_leaves (source c.args.input.now c.args.machine.now) c.args.line c.args.body.now c.in-Shared.block (state c.args.machine.now) c.in-Shared.is c.region.result (source c.args.input.now c.tick-in-Shared.new.machine) c.as_slice-in-Shared.result.now c.len.result (state c.tick-in-Shared.new.machine) (state c.region.new.machine) c.as_slice-in-Shared.ensures c.len.ensures c.in_ok-tick-in-Shared.ensures.value first.source c.region.ensures.value

pub statement-returns-in_ok-tick-in-Shared-clause-kept : goal.statement-returns-in_ok-tick-in-Shared-clause-kept
statement-returns-in_ok-tick-in-Shared-clause-kept t c =
    let first = counts_go_on c.args.input.now c.args.machine.now c.tick-in-Shared.new.machine c.requires.ready c.in_ok-tick-in-Shared.ensures.others in
    on_further c.region.result c.args.input.now c.args.machine.now c.tick-in-Shared.new.machine c.region.new.machine first (c.region.ensures.kept c.args.input.now first.ready)

pub statement-returns-in-Assign-clause-value : goal.statement-returns-in-Assign-clause-value
statement-returns-in-Assign-clause-value t c = counted_leaves (source c.args.input.now c.args.machine.now) c.args.line (state c.args.machine.now) c.counted.result c.args.body.now (state c.counted.new.machine) c.in-Assign.is c.counted.ensures.value

-- ---- statements, one after another

pub statements-statement-requires : goal.statements-statement-requires
statements-statement-requires t c =
    (of_stmts t c.args.block.now c.each.stmt-index c.stmt-item.result c.decreases c.each-test.true c.stmt-item.is, (c.each.invariant.goes_on.ready, small_at c.args.block.now c.each.stmt-index c.stmt-item.result c.each-test.true c.stmt-item.is c.requires.small))

pub statements-returns-in_err-statement-clause-value : goal.statements-returns-in_err-statement-clause-value
statements-returns-in_err-statement-clause-value t c =
    let h = statements_stop (statement_list (source c.args.input.now c.args.machine.now) c.args.block.now (state c.args.machine.now)).end (source c.args.input.now c.args.machine.now) (source c.args.input.now c.each.machine) c.args.block.now c.each.stmt-index c.stmt-item.result (state c.each.machine) c.in_err-statement.field-0.0 c.each-test.true c.stmt-item.is c.each.invariant.goes_on.source c.in_err-statement.ensures.value c.each.invariant.rest in
    search rules

pub statements-each-preserved : goal.statements-each-preserved
statements-each-preserved t c = record {
  rest = statements_next (statement_list (source c.args.input.now c.args.machine.now) c.args.block.now (state c.args.machine.now)).end (source c.args.input.now c.args.machine.now) (source c.args.input.now c.each.machine) c.args.block.now c.each.stmt-index c.stmt-item.result (state c.each.machine) (state c.statement.new.machine) c.each-test.true c.stmt-item.is c.each.invariant.goes_on.source c.in_ok-statement.ensures.value c.each.invariant.rest;
  goes_on = goes_further c.args.input.now c.args.machine.now c.each.machine c.statement.new.machine c.each.invariant.goes_on c.in_ok-statement.ensures.kept;
}

pub statements-each-init : goal.statements-each-init
statements-each-init t c = record { rest = refl; goes_on = stays_on c.args.input.now c.args.machine.now c.requires.ready }

pub statements-returns-clause-value : goal.statements-returns-clause-value
statements-returns-clause-value t c = statements_end (statement_list (source c.args.input.now c.args.machine.now) c.args.block.now (state c.args.machine.now)).end (source c.args.input.now c.args.machine.now) c.args.block.now c.each.stmt-index (state c.each.machine) c.each-test.false c.each.invariant.rest

pub statements-returns-clause-kept : goal.statements-returns-clause-kept
statements-returns-clause-kept t c = c.each.invariant.goes_on
