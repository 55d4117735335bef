-- What opens so that the lowering of a tree that is written out computes.
use Rattle.lower_values.specs.Opened.{values_open}
use Rattle.lower_assign.specs.Statements.{left, assignment, bounds_of, all_bounds, allocation, deallocation, reading}

unfoldable pub lowerings_open : Unit {0}
unfolding values_open left assignment bounds_of all_bounds allocation deallocation reading
lowerings_open = tt
