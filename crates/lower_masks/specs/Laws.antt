-- The module of a source keeps the rules of its ops, and means what the source means.
use Rattle.ws_tree.specs.declared.stmt.Tree.{Tree}
use Rattle.ws_sema.specs.Checks.{IsAccepted}
use Rattle.hlfir_ops.specs.Rules.{KeepsRules}
use Rattle.lower_constructs.specs.Modules.{lowered}
pub use Rattle.world_laws.specs.Meanings.{ProgramsMean}

abbrev pub EveryModuleKeepsTheRules : Type 0
EveryModuleKeepsTheRules = (t : Tree) → IsAccepted t → KeepsRules (lowered t)
