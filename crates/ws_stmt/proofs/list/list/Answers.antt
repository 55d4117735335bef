use Rattle.std.proofs.Common.{◌<◌, length, ap, arith}
use Rattle.ws_expr.proofs.Heads as heads
use Rattle.ws_expr.proofs.Lists as parts_read
use Rattle.ws_stmt.proofs.Lists as lists
use Rattle.ws_stmt.proofs.list.list.Goals as goal

pub returns-in_err-x-clause-complete : goal.returns-in_err-x-clause-complete
returns-in_err-x-clause-complete g c = λ xs rest d h.
    let b = lists.parts d in
    heads.failing _ c.from_residual.result c.in_err-x.field-0.0 c.from_residual.ensures.1 (c.in_err-x.ensures.complete b.x b.after b.read (lists.ends_more b.others h.0))

pub items-init : goal.items-init
items-init g c =
    let is = parts_read.pushed c.new-items.result c.in_ok-x.x c.in_ok-push.ensures c.new-items.ensures in
    record {
      shorter = c.in_ok-x.ensures.shorter;
      sound = lists.first_by _ _ _ is c.in_ok-x.ensures.sound;
      complete = λ xs rest d h.
          let b = lists.parts d in
          let got = c.in_ok-x.ensures.complete b.x b.after b.read (lists.ends_more b.others h.0) in
          parts_read.begins_at b is got.0 got.1;
    }

pub returns-in_err-x-2-clause-complete : goal.returns-in_err-x-2-clause-complete
returns-in_err-x-2-clause-complete g c = λ xs rest d h.
    let n = lists.next_part c.in-Some.ensures.some (c.items.invariant.complete xs rest d h) h.1 in
    heads.failing _ c.from_residual-in_err-x-2.result c.in_err-x-2.field-0.0 c.from_residual-in_err-x-2.ensures.1 (c.in_err-x-2.ensures.complete n.x n.after n.read (lists.ends_more n.others h.0))

pub items-preserved : goal.items-preserved
items-preserved g c =
    let f_length = ap length c.in-Some.ensures.some.0.2 in
    record {
      shorter = omega (arith, c.in_ok-x-2.ensures.shorter, c.items.invariant.shorter, f_length);
      sound = lists.next_by _ _ c.in-Some.ensures.some.0 c.in_ok-push-2.ensures c.items.invariant.sound c.in_ok-x-2.ensures.sound;
      complete = λ xs rest d h.
          let n = lists.next_part c.in-Some.ensures.some (c.items.invariant.complete xs rest d h) h.1 in
          let got = c.in_ok-x-2.ensures.complete n.x n.after n.read (lists.ends_more n.others h.0) in
          parts_read.next_at n c.in_ok-push-2.ensures got.0 got.1;
    }

pub returns-clause-complete : goal.returns-clause-complete
returns-clause-complete g c = λ xs rest d h. lists.all_read (λ us x vs p. g.met.R.Reader.begun c.args.reader.now us x vs p) c.in_default.ensures.none (c.items.invariant.complete xs rest d h)
