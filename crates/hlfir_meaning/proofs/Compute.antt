-- What opens so that the run of a module that is written out computes.
use Rattle.std.specs.Fmt
use Rattle.ws_space.specs.Runs.{iteration}
use Rattle.hlfir_ops.specs.Opened.{trees_open}
use Rattle.hlfir_meaning.specs.Masks.{run_masked}
use Rattle.hlfir_meaning.specs.Combinations.{run_forall}
use Rattle.hlfir_meaning.specs.Statements.{statements, statement, loop, loop_body}
use Rattle.hlfir_meaning.specs.Meaning.{meaning}
use Rattle.hlfir_ops.specs.Rules.{are_defined, operands_fit, result_fits, is_used_once, yields_of, sides_of, realloc_of, where_of, forall_of, lists_fit, declares_fit, limits_fit}

unfoldable pub everything : Unit {0}
unfolding trees_open run_masked run_forall iteration statements statement loop loop_body meaning Rattle.std.specs.Fmt.digits
    Rattle.hlfir_ops.specs.declared.op.Op.TheViews.out-Op Rattle.hlfir_ops.specs.declared.op.Op.TheViews.out-Region
    Rattle.hlfir_ops.specs.declared.op.Op.TheBlock.shown-the_row-Op-1 denote.Hole.Carrier.out denote.Hole.Carrier.shown
everything = tt

-- and so that its rules are judged
unfoldable pub rules_open : Unit {0}
unfolding are_defined operands_fit result_fits is_used_once yields_of sides_of realloc_of where_of forall_of lists_fit declares_fit limits_fit
rules_open = tt
