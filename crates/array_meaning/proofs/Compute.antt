-- What opens so that the run of a tree that is written out computes.
use Rattle.std.specs.Fmt
use Rattle.ws_tree.specs.Opened.{trees_open}
use Rattle.ws_space.specs.Runs.{iteration}
use Rattle.array_meaning.specs.Terms.{terms_open}
use Rattle.array_meaning.specs.Where.{run_where}
use Rattle.array_meaning.specs.Forall.{run_forall}
use Rattle.array_meaning.specs.Program.{statements, statement, run}

unfoldable pub everything : Unit {0}
unfolding trees_open terms_open run_where run_forall iteration statements statement run Rattle.std.specs.Fmt.digits
everything = tt
