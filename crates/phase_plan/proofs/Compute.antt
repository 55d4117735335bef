-- What opens so that the phases of a module that is written out compute.
use Rattle.std.specs.Fmt
use Rattle.hlfir_ops.specs.Opened.{trees_open}
use Rattle.hlfir_ops.specs.Rules.{are_defined, operands_fit, result_fits, is_used_once, yields_of, sides_of, realloc_of, where_of, forall_of, lists_fit, declares_fit, limits_fit}
use Rattle.alias_test.specs.Givers.{variable_of}
use Rattle.alias_test.specs.Normal.{designator_at}
use Rattle.alias_test.specs.Relations.{constants_of, same_range, relation}
use Rattle.alias_test.specs.Symbols.{trees_at, tree_at, parts_at, symbol_of, symbol_at}

unfoldable pub plans_open : Unit {0}
unfolding trees_open constants_of same_range relation designator_at variable_of trees_at tree_at parts_at symbol_of symbol_at Rattle.std.specs.Fmt.digits
    Rattle.hlfir_ops.specs.declared.op.Op.TheViews.out-Op Rattle.hlfir_ops.specs.declared.op.Op.TheViews.out-Region
    Rattle.hlfir_ops.specs.declared.op.Op.TheBlock.shown-the_row-Op-1 denote.Hole.Carrier.out denote.Hole.Carrier.shown
plans_open = tt

-- and so that its rules are judged
unfoldable pub rules_open : Unit {0}
unfolding are_defined operands_fit result_fits is_used_once yields_of sides_of realloc_of where_of forall_of lists_fit declares_fit limits_fit
rules_open = tt
