use Rattle.slow_eval.proofs.Declares.{declares_none, declares_next, next_is_small, all_constants, all_variables, nothing_known, nothing_alone, no_vars}
use Rattle.slow_eval.proofs.declarations.declared.Goals as goal

pub each-init : goal.each-init
each-init c = record {
  declares = declares_none c.args.decls.now c.new.result c.new-vars.result c.new.ensures c.new-vars.ensures c.requires;
  world = nothing_known c.new.result c.new-2.result c.new-3.result c.new.ensures c.new-3.ensures;
  alone = nothing_alone c.new.result c.new-2.result c.new-3.result c.new-2.ensures c.new-3.ensures;
  vars = no_vars c.new-vars.result c.new-vars.ensures;
}

pub declare-requires-clause-small : goal.declare-requires-clause-small
declare-requires-clause-small c = next_is_small c.args.decls.now c.each.decl-index c.decl-item.result c.each.known.constants c.each.vars c.each-test.true c.decl-item.is c.each.invariant.declares

pub each-preserved : goal.each-preserved
each-preserved c = record {
  declares = declares_next c.args.decls.now c.each.decl-index c.decl-item.result c.each.known.constants c.declare.new.known.constants c.each.vars c.declare.new.vars c.each-test.true c.decl-item.is c.in_ok-declare.ensures.constants c.in_ok-declare.ensures.variables c.each.invariant.declares;
  world = c.in_ok-declare.ensures.world;
  alone = c.in_ok-declare.ensures.alone;
  vars = c.in_ok-declare.ensures.small;
}

pub returns-clause-constants : goal.returns-clause-constants
returns-clause-constants c = all_constants c.args.decls.now c.each.decl-index c.each.known.constants c.each.vars c.each-test.false c.each.invariant.declares

pub returns-clause-variables : goal.returns-clause-variables
returns-clause-variables c = all_variables c.args.decls.now c.each.decl-index c.each.known.constants c.each.vars c.each-test.false c.each.invariant.declares
