use Rattle.std.proofs.Common.{[], ◌∷◌, ◌++◌, ◌∙◌, ap}
use Rattle.slow_eval.proofs.Declares.{named, not_named, all_named}
use Rattle.slow_eval.proofs.declarations.allocatables.Goals as goal
use Rattle.slow_eval.proofs.declarations.allocatables.Goals.{then-decl+in_ok-copy+in_ok-push, else-decl}

pub each-preserved : goal.each-preserved
each-preserved c =
    elim c.if-decl.branch [
      | then-decl+in_ok-copy+in_ok-push w ↦ named (λ d. d.allocatable) c.args.decls.now c.each.decl-index c.decl-item.result c.each.names c.if-decl.names c.each-test.true c.decl-item.is w.if-decl.true
          (w.names-is ∙ w.in_ok-push.ensures.ok ∙ ap (λ n. c.each.names ++ n ∷ []) w.in_ok-copy.ensures) c.each.invariant
      | else-decl w ↦ not_named (λ d. d.allocatable) c.args.decls.now c.each.decl-index c.decl-item.result c.each.names c.if-decl.names c.each-test.true c.decl-item.is w.if-decl.false w.names-is c.each.invariant
    ]

pub returns : goal.returns
returns c = all_named (λ d. d.allocatable) c.args.decls.now c.each.decl-index c.each.names c.each-test.false c.each.invariant
