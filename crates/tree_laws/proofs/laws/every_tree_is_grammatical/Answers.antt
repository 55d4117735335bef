use Rattle.tree_laws.proofs.Expressions.{side, designator}
use Rattle.tree_laws.proofs.Moves.{good_move}
use Rattle.tree_laws.proofs.Units.{law}
use Rattle.tree_laws.proofs.laws.every_tree_is_grammatical.Goals as goal

-- src/laws.rt:6:1
pub returns : goal.returns
returns c = law (good_move side designator)
