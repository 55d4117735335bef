use Rattle.std.proofs.Common.{List, length}
use Rattle.ws_lex.specs.declared.token.Sign.TheVariants as sign
use Rattle.ws_lex.specs.declared.token.Token.{Token}
use Rattle.ws_stmt.specs.Statements.{Attributes, ReadsAttributes}
use Rattle.ws_stmt.specs.Parsing.{Lacks, seen}
use Rattle.ws_stmt.proofs.Declarations.{More}
use Rattle.ws_stmt.proofs.declare.attributes.Given as goal

abbrev pub decreases-attributes : goal.decreases-attributes
decreases-attributes l = length l.rest

abbrev pub invariant-attributes : goal.invariant-attributes
invariant-attributes l = record {
  sound : ReadsAttributes l.tokens (seen l.found) l.rest;
  complete : (a : Attributes) (rest : List Token) → ReadsAttributes l.tokens a rest → Lacks sign.Comma rest → More (seen l.found) l.rest a rest;
}
