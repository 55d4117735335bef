-- The worked rows, by computation.
use Rattle.std.specs.Prelude.{refl}
use Rattle.ws_lex.specs.Rows.{Hold, line_rows, statement_rows, directive_rows, token_rows, before_rows}

pub line_rows-hold : Hold line_rows
line_rows-hold = (refl, (refl, (refl, (refl, (refl, (refl, (refl, (refl, (refl, (refl, (refl, (refl, tt))))))))))))

pub statement_rows-hold : Hold statement_rows
statement_rows-hold = (refl, (refl, (refl, (refl, (refl, (refl, (refl, (refl, (refl, (refl, (refl, (refl, (refl, tt)))))))))))))

pub directive_rows-hold : Hold directive_rows
directive_rows-hold = (refl, (refl, (refl, (refl, (refl, (refl, (refl, tt)))))))

pub token_rows-hold : Hold token_rows
token_rows-hold = (refl, (refl, (refl, (refl, (refl, (refl, (refl, (refl, tt))))))))

pub before_rows-hold : Hold before_rows
before_rows-hold = (refl, (refl, (refl, (refl, (refl, tt)))))
