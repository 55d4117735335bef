-- What opens the constructors of the trees, so that a walk over a tree that the code names computes by its clauses.
unfoldable pub trees_open : Unit {0}
unfolding
    Rattle.hlfir_ops.specs.declared.op.Op.TheBlock.hidden-the_row-Region-0 Rattle.hlfir_ops.specs.declared.op.Op.TheBlock.hidden-the_row-Op-1
    Rattle.hlfir_ops.specs.declared.op.Op.TheViews.roll-Op Rattle.hlfir_ops.specs.declared.op.Op.TheViews.roll-Region denote.Hole.Carrier.roll denote.Hole.Carrier.hidden
trees_open = tt
