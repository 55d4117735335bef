use Rattle.std.proofs.Common.{◌∙◌, arith, rules}
use Rattle.ws_base.specs.Numbers.{call_value, default_half}
use Rattle.term_eval.proofs.Made.{keeps-length}
use Rattle.term_eval.proofs.RowLoops.{row_kept, row_stops, rows_made}
use Rattle.term_eval.proofs.maps.call_map.Goals as goal

pub returns-in_err-keep : goal.returns-in_err-keep
returns-in_err-keep c =
    let stops = row_stops (call_value default_half c.args.word) c.args.places.now c.args.columns.now c.requires.columns c.loop-i.i c.call_value.result c.as_slice.result.now c.call_value.ensures (c.as_slice.ensures ∙ c.in_ok-values.ensures) c.loop-i.made c.loop-i-test.true c.in_err-keep.field-0.0 c.in_err-keep.ensures.err c.loop-i.invariant.same in
    search (rules, stops)

pub loop-i-preserved : goal.loop-i-preserved
loop-i-preserved c = record {
  as_many = let more = keeps-length c.call_value.result c.loop-i.made c.keep.new.made c.in_ok-keep.ensures.ok in omega arith;
  same = row_kept (call_value default_half c.args.word) c.args.places.now c.args.columns.now c.requires.columns c.loop-i.i c.call_value.result c.as_slice.result.now c.call_value.ensures (c.as_slice.ensures ∙ c.in_ok-values.ensures) c.loop-i.made c.loop-i-test.true c.keep.new.made c.in_ok-keep.ensures.ok c.loop-i.invariant.same;
}

pub returns : goal.returns
returns c = rows_made (call_value default_half c.args.word) c.args.places.now c.args.columns.now c.requires.columns c.loop-i.i c.loop-i.made (omega arith) c.loop-i.invariant.same
