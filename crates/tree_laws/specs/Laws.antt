-- What holds of every tree that is parsed.
use Rattle.std.specs.Prelude.{List}
use Rattle.ws_lex.specs.declared.token.Token.{Token}
use Rattle.ws_tree.specs.declared.stmt.Tree.{Tree}
use Rattle.ws_tree.specs.Grammatical.{IsGrammatical}
use Rattle.ws_parse.specs.Blocks.{IsUnit}

-- the tree of a unit is one that the grammar can give
abbrev pub EveryTreeIsGrammatical : Type 0
EveryTreeIsGrammatical = (runs : List (List Token)) (t : Tree) → IsUnit runs t → IsGrammatical t
