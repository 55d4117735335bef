-- How the op of a statement comes by its regions.
use Rattle.std.specs.Prelude.{⊤, ℕ, List, ◌++◌}
use Rattle.hlfir_ops.specs.declared.what.What.{What}
use Rattle.hlfir_ops.specs.declared.op.ValueId.{ValueId}
use Rattle.hlfir_ops.specs.Built.{Built}
use Rattle.lower_values.specs.declared.names.Names.{Names}
use Rattle.lower_values.specs.Lowerings.{Lowering, statement_of, Appends}

-- where a statement's op stands last with some regions, it has these after them now
pub record Fills (names : Names) (qs : List (Lowering ⊤)) (old new : Built) : Type 0 where
  pub next : (w : What) (line : ℕ) (operands : List ValueId) (ps : List (Lowering ⊤)) (before : Built) → Appends names (statement_of w line operands ps) before old tt → Appends names (statement_of w line operands (ps ++ qs)) before new tt
