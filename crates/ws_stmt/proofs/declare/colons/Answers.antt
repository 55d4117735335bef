use Rattle.std.proofs.Common.{◌≡◌, ◌<◌, ◌≤◌, List, [], ◌∷◌, Option, Some, None, length, refl, sym, ap, ◌∙◌, arith}
use Rattle.ws_lex.specs.declared.token.Sign.TheVariants as sign
use Rattle.ws_lex.specs.declared.token.Token.{Token}
use Rattle.ws_expr.specs.Grammar.{Reads, ReadsSubs}
use Rattle.ws_expr.proofs.Heads as heads
use Rattle.ws_stmt.specs.Statements as statements
use Rattle.ws_stmt.proofs.Parts as parts
use Rattle.ws_stmt.proofs.Declarations as decls
use Rattle.ws_stmt.specs.Statements.ReadsColons.{colons}
use Rattle.ws_stmt.proofs.declare.colons.Goals as goal

pub returns-in-Some-clause-sound : goal.returns-in-Some-clause-sound
returns-in-Some-clause-sound c = colons c.in-Some.ensures.some

pub returns-in-Some-clause-complete : goal.returns-in-Some-clause-complete
returns-in-Some-clause-complete c = λ rest d h. decls.colons_some c.in-Some.ensures.some h d

pub returns-then-some-clause-complete : goal.returns-then-some-clause-complete
returns-then-some-clause-complete c = λ rest d h. decls.colons_needed c.if-some.true c.in-None.ensures.none d

pub returns-else-some-clause-sound : goal.returns-else-some-clause-sound
returns-else-some-clause-sound c = decls.no_colons_by c.if-some.false

pub returns-else-some-clause-complete : goal.returns-else-some-clause-complete
returns-else-some-clause-complete c = λ rest d h. decls.colons_none c.in-None.ensures.none d
