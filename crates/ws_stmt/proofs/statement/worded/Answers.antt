use Rattle.std.proofs.Common.{◌≡◌, ◌<◌, ◌≤◌, List, [], ◌∷◌, Option, Some, None, length, refl, sym, ap, ◌∙◌, arith}
use Rattle.ws_lex.specs.declared.token.Sign.TheVariants as sign
use Rattle.ws_lex.specs.declared.token.Token.{Token}
use Rattle.ws_expr.specs.Grammar.{Reads, ReadsSubs}
use Rattle.ws_expr.proofs.Heads as heads
use Rattle.ws_stmt.specs.Statements as statements
use Rattle.ws_stmt.proofs.Parts as parts
use Rattle.ws_stmt.proofs.Declarations as decls
use Rattle.ws_stmt.proofs.Forms as forms
use Rattle.ws_stmt.specs.declared.form.Form.TheVariants as form
use Rattle.ws_tree.specs.declared.stmt.Body.TheVariants as body
use Rattle.ws_expr.specs.declared.reading.Reading.{Reading}
use Rattle.ws_expr.specs.declared.reading.Gathered.{Gathered}
use Rattle.ws_stmt.specs.Statements.{said, Lists}
use Rattle.ws_stmt.proofs.statement.worded.Goals as goal

pub returns-in-Some-clause-sound : goal.returns-in-Some-clause-sound
returns-in-Some-clause-sound c = record { g = c.in-Some.form; there = c.in-Some.is; is = c.said.ensures }
