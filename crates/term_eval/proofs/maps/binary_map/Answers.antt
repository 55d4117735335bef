use Rattle.std.proofs.Common.{◌≡◌, ◌∷◌, [], get_or, pos, length, refl, arith, rules}
use Rattle.std.proofs.lemmas.Int.{to_z-of_z}
use Rattle.std.proofs.lemmas.Grind.{common_steps}
use Rattle.ws_base.specs.Numbers.{binary_value, default_half}
use Rattle.ws_space.specs.Maps.{pair_value}
use Rattle.term_eval.proofs.Columns.{two}
use Rattle.term_eval.proofs.Made.{keeps-length}
use Rattle.term_eval.proofs.RowLoops.{row_kept, row_stops, rows_made}
use Rattle.term_eval.proofs.maps.binary_map.Goals as goal

pub returns-in_err-keep : goal.returns-in_err-keep
returns-in_err-keep c =
    let all = two (length c.args.places.now) c.args.left.now c.args.right.now c.requires.left c.requires.right in
    let value : c.binary_value.result ≡ binary_value default_half c.args.op (get_or c.args.left.now c.loop-i.i (pos 0)) (get_or c.args.right.now c.loop-i.i (pos 0)) = grind (arith, to_z-of_z, common_steps) in
    let stops = row_stops (pair_value c.args.op) c.args.places.now (c.args.left.now ∷ c.args.right.now ∷ []) all c.loop-i.i c.binary_value.result (get_or c.args.left.now c.loop-i.i (pos 0) ∷ get_or c.args.right.now c.loop-i.i (pos 0) ∷ []) value refl c.loop-i.made c.loop-i-test.true c.in_err-keep.field-0.0 c.in_err-keep.ensures.err c.loop-i.invariant.same in
    search (rules, stops)

pub loop-i-preserved : goal.loop-i-preserved
loop-i-preserved c =
    let all = two (length c.args.places.now) c.args.left.now c.args.right.now c.requires.left c.requires.right in
    let value : c.binary_value.result ≡ binary_value default_half c.args.op (get_or c.args.left.now c.loop-i.i (pos 0)) (get_or c.args.right.now c.loop-i.i (pos 0)) = grind (arith, to_z-of_z, common_steps) in
    record {
      as_many = let more = keeps-length c.binary_value.result c.loop-i.made c.keep.new.made c.in_ok-keep.ensures.ok in omega arith;
      same = row_kept (pair_value c.args.op) c.args.places.now (c.args.left.now ∷ c.args.right.now ∷ []) all c.loop-i.i c.binary_value.result (get_or c.args.left.now c.loop-i.i (pos 0) ∷ get_or c.args.right.now c.loop-i.i (pos 0) ∷ []) value refl c.loop-i.made c.loop-i-test.true c.keep.new.made c.in_ok-keep.ensures.ok c.loop-i.invariant.same;
    }

pub returns : goal.returns
returns c =
    let all = two (length c.args.places.now) c.args.left.now c.args.right.now c.requires.left c.requires.right in
    rows_made (pair_value c.args.op) c.args.places.now (c.args.left.now ∷ c.args.right.now ∷ []) all c.loop-i.i c.loop-i.made (omega arith) c.loop-i.invariant.same
