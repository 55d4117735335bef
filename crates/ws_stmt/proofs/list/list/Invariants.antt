use Rattle.std.proofs.Common.{◌<◌, List, length}
use Rattle.ws_lex.specs.declared.token.Token.{Token}
use Rattle.ws_expr.specs.declared.reading.Gathered.{Gathered}
use Rattle.ws_stmt.specs.Statements.{Lists}
use Rattle.ws_stmt.specs.Parsing.{EndsList}
use Rattle.ws_expr.proofs.Lists.{More}
use Rattle.ws_stmt.proofs.list.list.Given as goal

abbrev pub decreases-items : goal.decreases-items
decreases-items g l = length l.rest

abbrev pub invariant-items : goal.invariant-items
invariant-items g l = record {
  shorter : length l.rest < length l.tokens;
  sound : Lists (g.R.Reader.reads l.reader) l.tokens l.items l.rest;
  complete : (xs : Gathered _) (rest : List Token) → Lists (g.R.Reader.reads l.reader) l.tokens xs rest → EndsList (g.R.Reader.begins l.reader) rest → More (g.R.Reader.reads l.reader) l.items l.rest xs rest;
}
