-- FORALL means what its source means.
use Rattle.std.specs.Prelude.{List, Option}
use Rattle.ws_tree.specs.declared.expr.Expr.{Expr}
use Rattle.ws_tree.specs.declared.stmt.Index.{Index}
use Rattle.ws_tree.specs.declared.stmt.Body.TheVariants.{Forall'}
use Rattle.world_laws.specs.Meanings.{SimpleMeans}

abbrev pub ForallsMean : Type 0
ForallsMean = (indexes : List Index) (mask : Option Expr) (c : _) (block : _) → SimpleMeans (Forall' indexes mask c block)
