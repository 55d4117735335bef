use Rattle.std.proofs.Common.{◌≡◌, get_or, pos, arith, rules}
use Rattle.std.proofs.lemmas.Int.{to_z-of_z}
use Rattle.std.proofs.lemmas.Grind.{common_steps}
use Rattle.ws_base.specs.Numbers.{unary_value, default_half}
use Rattle.term_eval.proofs.Made.{keeps-length, one_more, stops_at}
use Rattle.term_eval.proofs.maps.unary_map.Goals as goal

pub returns-in_err-keep : goal.returns-in_err-keep
returns-in_err-keep c =
    let value : c.unary_value.result ≡ unary_value default_half c.args.op (get_or c.args.operand.now c.loop-value.value-index (pos 0)) = grind (arith, to_z-of_z, common_steps) in
    let stops = stops_at (unary_value default_half c.args.op) c.args.operand.now c.loop-value.value-index (pos 0) c.unary_value.result c.loop-value.made c.in_err-keep.field-0.0 c.loop-value-test.true value c.in_err-keep.ensures.err c.loop-value.invariant.same in
    search (rules, stops)

pub loop-value-preserved : goal.loop-value-preserved
loop-value-preserved c =
    let value : c.unary_value.result ≡ unary_value default_half c.args.op (get_or c.args.operand.now c.loop-value.value-index (pos 0)) = grind (arith, to_z-of_z, common_steps) in
    record {
      as_many = let more = keeps-length c.unary_value.result c.loop-value.made c.keep.new.made c.in_ok-keep.ensures.ok in omega arith;
      same = one_more (unary_value default_half c.args.op) c.args.operand.now c.loop-value.value-index (pos 0) c.unary_value.result c.loop-value.made c.keep.new.made c.loop-value-test.true value c.in_ok-keep.ensures.ok c.loop-value.invariant.same;
    }
