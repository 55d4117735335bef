use Rattle.std.proofs.Common.{◌≡◌, ◌∙◌, ap, sym, arith, take}
use Rattle.std.proofs.lemmas.Grind.{common_steps}
use Rattle.ws_sema.specs.Declarations.{is_declared}
use Rattle.ws_sema.proofs.Headers.{next_decl, next_constant, no_decl}
use Rattle.ws_sema.proofs.Seen.{next_seen}
use Rattle.ws_sema.proofs.decl.check_decls.Goals as goal

pub each-preserved : goal.each-preserved
each-preserved c = record {
  constants = c.each.invariant.constants ∙ next_constant c.each.constants.items c.keep.new.constants.items c.args.decls.now c.each.i c.index-decls-i.result c.each-test.true c.index-decls-i.is c.in_ok-keep.ensures;
  found = c.each.invariant.found ∙ next_decl c.each.constants.items c.keep.new.constants.items c.args.decls.now c.each.i c.index-decls-i.result c.each.found c.check_decl.new.found c.each-test.true c.index-decls-i.is (grind (arith, common_steps)) c.in_ok-keep.ensures;
  seen = next_seen c.each.seen c.is_seen.new.seen c.args.decls.now c.each.i c.index-decls-i.result c.as_str.result.now c.each-test.true c.index-decls-i.is c.as_str.ensures c.each.invariant.seen c.in_ok-again.ensures.noted;
}

pub check_decl-requires : goal.check_decl-requires
check_decl-requires c =
    let known : c.in_ok-again.again ≡ is_declared (take c.each.i c.args.decls.now) c.index-decls-i.result.name = c.in_ok-again.ensures.before ∙ c.each.invariant.seen c.as_str.result.now ∙ ap (is_declared (take c.each.i c.args.decls.now)) c.as_str.ensures in
    grind (arith, common_steps, known)

pub returns-clause-faults : goal.returns-clause-faults
returns-clause-faults c = sym (c.each.invariant.found ∙ no_decl c.each.constants.items c.args.decls.now c.each.i c.each.found (omega arith))
