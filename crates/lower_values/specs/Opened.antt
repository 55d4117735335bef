-- What opens so that the lowering of an expression that is written out computes.
use Rattle.ws_tree.specs.Opened.{trees_open}
use Rattle.hlfir_ops.specs.Opened as ops
use Rattle.lower_values.specs.Lowerings.{done, ◌>>=◌, scoped, in_turn, giving, acting, statement_of, giving_by}
use Rattle.lower_values.specs.Operations.{on_scalars, at_position, at_positions, element, at_each, operation, in_parentheses, call_on, vector}
use Rattle.lower_values.specs.References.{boxed, reference, loaded, named, bound, designated, inquiry}
use Rattle.lower_values.specs.Values.{folded, part_of}

unfoldable pub values_open : Unit {0}
unfolding trees_open ops.trees_open done ◌>>=◌ scoped in_turn giving acting statement_of giving_by on_scalars at_position at_positions element at_each operation in_parentheses call_on vector boxed reference loaded named bound designated inquiry folded part_of
values_open = tt
