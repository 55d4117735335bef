-- What opens the constructors of the trees, so that a walk over a tree that the code names computes by its clauses.
unfoldable pub trees_open : Unit {0}
unfolding
    Rattle.ws_tree.specs.declared.expr.Expr.TheBlock.hidden-the_row-Expr-1 Rattle.ws_tree.specs.declared.expr.Expr.TheBlock.hidden-the_row-Expr-2 Rattle.ws_tree.specs.declared.expr.Expr.TheBlock.hidden-the_row-Sub-0
    Rattle.ws_tree.specs.declared.stmt.Body.TheBlock.hidden-the_row-Stmt-0 Rattle.ws_tree.specs.declared.stmt.Body.TheBlock.hidden-the_row-Else-1
    Rattle.ws_tree.specs.declared.stmt.Body.TheViews.roll-Else denote.Hole.Carrier.roll denote.Hole.Carrier.hidden
trees_open = tt
