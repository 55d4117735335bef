-- What opens so that ops that are written out compute.
use Rattle.hlfir_ops.specs.Opened.{trees_open}

unfoldable pub everything : Unit {0}
unfolding trees_open
    Rattle.hlfir_ops.specs.declared.op.Op.TheViews.out-Op Rattle.hlfir_ops.specs.declared.op.Op.TheViews.out-Region
    Rattle.hlfir_ops.specs.declared.op.Op.TheBlock.shown-the_row-Op-1 denote.Hole.Carrier.out denote.Hole.Carrier.shown
everything = tt
