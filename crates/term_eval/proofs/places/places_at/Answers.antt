use Rattle.std.proofs.Common.{ap, ◌∙◌, arith, rules}
use Rattle.ws_space.specs.Shapes.{dims, place}
use Rattle.term_eval.proofs.Made.{keeps-length}
use Rattle.term_eval.proofs.RowLoops.{row_kept, row_stops, rows_made}
use Rattle.term_eval.proofs.places.places_at.Goals as goal

pub returns-in_err-keep : goal.returns-in_err-keep
returns-in_err-keep c =
    let value = c.place.ensures.value ∙ ap (λ d. place d c.as_slice-in-loop-i.result.now) (c.as_slice.ensures ∙ c.in_ok-dims.ensures) in
    let stops = row_stops (place (dims c.args.array.now.shape)) c.args.places.now c.args.columns.now c.requires.columns c.loop-i.i c.place.result c.as_slice-in-loop-i.result.now value (c.as_slice-in-loop-i.ensures ∙ c.in_ok-subscripts.ensures) c.loop-i.made c.loop-i-test.true c.in_err-keep.field-0.0 c.in_err-keep.ensures.err c.loop-i.invariant.same in
    search (rules, stops)

pub loop-i-preserved : goal.loop-i-preserved
loop-i-preserved c = record {
  as_many = let more = keeps-length c.place.result c.loop-i.made c.keep.new.made c.in_ok-keep.ensures.ok in omega arith;
  same = row_kept (place (dims c.args.array.now.shape)) c.args.places.now c.args.columns.now c.requires.columns c.loop-i.i c.place.result c.as_slice-in-loop-i.result.now (c.place.ensures.value ∙ ap (λ d. place d c.as_slice-in-loop-i.result.now) (c.as_slice.ensures ∙ c.in_ok-dims.ensures)) (c.as_slice-in-loop-i.ensures ∙ c.in_ok-subscripts.ensures) c.loop-i.made c.loop-i-test.true c.keep.new.made c.in_ok-keep.ensures.ok c.loop-i.invariant.same;
}

pub returns : goal.returns
returns c = rows_made (place (dims c.args.array.now.shape)) c.args.places.now c.args.columns.now c.requires.columns c.loop-i.i c.loop-i.made (omega arith) c.loop-i.invariant.same
