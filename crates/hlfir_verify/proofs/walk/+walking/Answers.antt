use Rattle.std.proofs.Common.{◌≡◌, ℕ, ◌+◌, ◌∙◌, ◌++◌, sym, ap, subst, List, Result, Ok, Err, length, take}
use Rattle.hlfir_ops.specs.declared.op.Op.{out-Op}
use Rattle.hlfir_ops.specs.declared.op.Region.{out-Region}
use Rattle.hlfir_ops.specs.Numbers.{op_numbers}
use Rattle.hlfir_ops.specs.RulesPlaces.{own_defined}
use Rattle.hlfir_verify.specs.declared.ending.VerifyEnd.{VerifyEnd}
use Rattle.rule_limits.specs.Arounds.{around_seen}
use Rattle.hlfir_verify.specs.Looks.{facts_seen}
use Rattle.hlfir_verify.specs.Verdicts.{judged, verdicts}
use Rattle.hlfir_verify.proofs.Rising.{kept_more}
use Rattle.hlfir_verify.proofs.Judged.{Told, here, inside_op, op_numbered, next_judged, stops_at, stops_first, next_numbered, region_sites, region_judged, stops_in, region_numbered}
use Rattle.hlfir_verify.proofs.walk.+walking.Goals as goal

pub walk_ops-returns-in_err-judge-clause-verdict : goal.walk_ops-returns-in_err-judge-clause-verdict
walk_ops-returns-in_err-judge-clause-verdict t c =
    let a = around_seen c.args.around in
    let ops = c.args.ops.now in
    let w = c.each.walk in
    let e = c.in_err-judge.field-0.0 in
    stops_at (facts_seen c.args.look.now) a ops c.each.i c.index-ops-i.result w.number w.place c.judge.new.walk.place w.defined.items c.from_residual.result e _ c.each-test.true c.index-ops-i.is
    c.each.invariant.verdict c.from_residual.ensures.1 (stops_first (facts_seen c.args.look.now) (here a ops c.each.i w.number w.defined.items) c.index-ops-i.result w.place c.judge.new.walk.place e c.in_err-judge.ensures.verdict)

pub walk_ops-returns-in_err-walk_regions-clause-verdict : goal.walk_ops-returns-in_err-walk_regions-clause-verdict
walk_ops-returns-in_err-walk_regions-clause-verdict t c =
    let f = facts_seen c.args.look.now in
    let a = around_seen c.args.around in
    let ops = c.args.ops.now in
    let w = c.each.walk in
    let e = c.in_err-walk_regions.field-0.0 in
    stops_at f a ops c.each.i c.index-ops-i.result w.number w.place c.walk_regions.new.walk.place w.defined.items c.from_residual-in_err-walk_regions.result e _ c.each-test.true c.index-ops-i.is
    c.each.invariant.verdict c.from_residual-in_err-walk_regions.ensures.1
    (subst (Told (Err e) c.walk_regions.new.walk.place)
    (inside_op f (here a ops c.each.i w.number w.defined.items) c.index-ops-i.result c.as_slice.result.now w.place c.judge.new.walk.place c.judge.new.walk.number c.judge.new.walk.defined.items c.in_ok-judge.ensures.verdict c.in_ok-judge.ensures.number
    c.in_ok-judge.ensures.defined c.as_slice.ensures) c.in_err-walk_regions.ensures.verdict)

pub walk_ops-each-preserved : goal.walk_ops-each-preserved
walk_ops-each-preserved t c =
    let f = facts_seen c.args.look.now in
    let a = around_seen c.args.around in
    let ops = c.args.ops.now in
    let w = c.each.walk in
    let op = c.index-ops-i.result in
    let same : c.as_slice.result.now ≡ (out-Op op).regions = c.as_slice.ensures in
    let number : c.define_own.new.walk.number ≡ op_numbers op + w.number =
    c.in-Ok.ensures.number ∙ (c.in_ok-walk_regions.ensures.number ∙ op_numbered op c.as_slice.result.now w.number c.judge.new.walk.number c.in_ok-judge.ensures.number same) in
    let defined : c.define_own.new.walk.defined.items ≡ w.defined.items ++ own_defined w.number (out-Op op).kind =
    c.in-Ok.ensures.defined ∙ ap (λ l. l ++ own_defined w.number (out-Op op).kind) (c.in_ok-walk_regions.ensures.defined ∙ c.in_ok-judge.ensures.defined) in
    let passed =
    sym (inside_op f (here a ops c.each.i w.number w.defined.items) op c.as_slice.result.now w.place c.judge.new.walk.place c.judge.new.walk.number c.judge.new.walk.defined.items c.in_ok-judge.ensures.verdict c.in_ok-judge.ensures.number
    c.in_ok-judge.ensures.defined same)
    ∙ (c.in_ok-walk_regions.ensures.verdict ∙ ap (λ (p : ℕ). let r : Result ℕ VerifyEnd = Ok p in r) (sym c.in-Ok.ensures.place)) in record {
      verdict = c.each.invariant.verdict ∙ next_judged f a ops c.each.i op w.number c.define_own.new.walk.number w.place c.define_own.new.walk.place w.defined.items c.define_own.new.walk.defined.items c.each-test.true c.index-ops-i.is passed number defined;
      number = c.each.invariant.number ∙ next_numbered ops c.each.i op w.number c.define_own.new.walk.number c.each-test.true c.index-ops-i.is number;
      kept = ap (take (length c.args.walk.now.defined.items)) defined ∙ kept_more c.args.walk.now.defined.items w.defined.items (own_defined w.number (out-Op op).kind) c.each.invariant.kept;
    }

pub walk_regions-returns-in_err-walk_region-clause-verdict : goal.walk_regions-returns-in_err-walk_region-clause-verdict
walk_regions-returns-in_err-walk_region-clause-verdict t c =
    let f = facts_seen c.args.look.now in
    let a = around_seen c.args.around in
    let w = c.each.walk in
    let region = c.index-regions-k.result in
    let e = c.in_err-walk_region.field-0.0 in
    let place = c.walk_region.new.walk.place in
    stops_in f a c.args.what.now c.args.regions.now c.each.k region w.number w.place place c.args.walk.now.defined.items c.from_residual.result e _ c.each-test.true c.index-regions-k.is c.each.invariant.verdict c.from_residual.ensures.1
    (subst (λ (l : List ℕ). Told (Err e) place (judged w.place (verdicts f (region_sites a c.args.what.now c.each.k w.number l (out-Region region).ops)))) c.each.invariant.kept c.in_err-walk_region.ensures.verdict)

pub walk_regions-each-preserved : goal.walk_regions-each-preserved
walk_regions-each-preserved t c =
    let f = facts_seen c.args.look.now in
    let a = around_seen c.args.around in
    let w = c.each.walk in
    let what = c.args.what.now in
    let regions = c.args.regions.now in
    let region = c.index-regions-k.result in
    let passed = ap (λ l. judged w.place (verdicts f (region_sites a what c.each.k w.number l (out-Region region).ops))) (sym c.each.invariant.kept) ∙ c.in_ok-walk_region.ensures.verdict in record {
      verdict = c.each.invariant.verdict ∙ region_judged f a what regions c.each.k region w.number c.walk_region.new.walk.number w.place c.walk_region.new.walk.place c.args.walk.now.defined.items c.each-test.true c.index-regions-k.is passed c.in_ok-walk_region.ensures.number;
      number = c.each.invariant.number ∙ region_numbered what regions c.each.k region w.number c.walk_region.new.walk.number c.each-test.true c.index-regions-k.is c.in_ok-walk_region.ensures.number;
      kept = c.in_ok-walk_region.ensures.defined ∙ c.each.invariant.kept;
    }
