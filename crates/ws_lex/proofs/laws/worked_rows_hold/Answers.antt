use Rattle.ws_lex.proofs.Rows.{line_rows-hold, statement_rows-hold, directive_rows-hold, token_rows-hold, before_rows-hold}
use Rattle.ws_lex.proofs.laws.worked_rows_hold.Goals as goal

pub returns : goal.returns
returns c = record {
  lines = line_rows-hold;
  statements = statement_rows-hold;
  directives = directive_rows-hold;
  tokens = token_rows-hold;
  before = before_rows-hold;
}
