use Rattle.std.proofs.Common.{refl, arith}
use Rattle.step_eval.specs.declared.events.Event.{Event}
use Rattle.step_eval.specs.declared.events.Event.TheVariants.{Mask}
use Rattle.step_eval.specs.Masked.{control_of}
use Rattle.step_eval.proofs.Followed.{stmts_step, stmts_end, elses_done, elses_cut, elses_end, construct_done}
use Rattle.step_eval.proofs.events.+events.Goals as goal

pub elses-returns-in-None : goal.elses-returns-in-None
elses-returns-in-None t c =
    elses_cut c.args.under c.elses_each.left c.args.rest.now c.elses_each.part-index c.part-item.result c.args.events.now.items c.elses_each.events.items c.stmts.new.events.items c.args.number c.elses_each.next c.in_ok-last-in-None.last c.as_slice-block.result.now
    c.elses_each-test.true c.part-item.is c.in-None.is c.as_slice-block.ensures c.in_ok-last-in-None.ensures c.elses_each.invariant

pub elses-elses_each-preserved : goal.elses-elses_each-preserved
elses-elses_each-preserved t c =
    elses_done c.args.under c.elses_each.left c.args.rest.now c.elses_each.part-index c.part-item.result c.in-Some.test _ c.args.events.now.items c.elses_each.events.items c.push.new.self.items c.stmts-in-Some.new.events.items c.args.number c.elses_each.next c.in_ok-first-in-Some.first c.in_ok-last-in-Some.last c.as_slice-block.result.now
    c.elses_each-test.true c.part-item.is c.in-Some.is refl c.in_ok-push-in-Some.ensures.items c.in_ok-first-in-Some.ensures c.as_slice-block.ensures c.in_ok-last-in-Some.ensures c.elses_each.invariant

pub elses-returns : goal.elses-returns
elses-returns t c = elses_end c.args.under c.elses_each.left c.args.rest.now c.elses_each.part-index c.args.events.now.items c.elses_each.events.items c.args.number c.elses_each.next c.elses_each-test.false c.elses_each.invariant

pub inside-returns-in_ok-last-in-Masked : goal.inside-returns-in_ok-last-in-Masked
inside-returns-in_ok-last-in-Masked t c =
    construct_done c.args.events.now.items c.push-in-Masked.new.self.items c.stmts.new.events.items c.elses.new.events.items c.args.number c.in_ok-first-in-Masked.first c.in_ok-next-in-Masked.next c.in_ok-last-in-Masked.last c.args.under c.args.line c.in-Masked.mask c.as_slice.result.now c.in-Masked.block c.as_slice-in-Masked.result.now c.in-Masked.rest c.args.body.now _
    c.in-Masked.is refl c.in_ok-push-in-Masked.ensures.items c.in_ok-first-in-Masked.ensures c.as_slice.ensures c.as_slice-in-Masked.ensures c.in_ok-next-in-Masked.ensures c.in_ok-last-in-Masked.ensures

pub stmts-stmts_each-preserved : goal.stmts-stmts_each-preserved
stmts-stmts_each-preserved t c =
    stmts_step (control_of c.args.under) c.args.block.now c.stmts_each.stmt-index c.stmt-item.result c.args.events.now.items c.stmts_each.events.items c.inside.new.events.items c.args.number c.stmts_each.next c.in_ok-next.next c.stmts_each-test.true c.stmt-item.is c.in_ok-next.ensures c.stmts_each.invariant

pub stmts-returns : goal.stmts-returns
stmts-returns t c = stmts_end (control_of c.args.under) c.args.block.now c.stmts_each.stmt-index c.args.events.now.items c.stmts_each.events.items c.args.number c.stmts_each.next c.stmts_each-test.false c.stmts_each.invariant
