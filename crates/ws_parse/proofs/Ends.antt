-- The line of an early end, from a place on.
use Rattle.std.proofs.Common.{ℕ, List, [], ◌∷◌, if◌then◌else◌}
use Rattle.ws_lex.specs.declared.token.Token.{Token}
use Rattle.ws_parse.specs.Blocks.{is_end}

-- where the last token before these has this line
abbrev pub end_from : ℕ → List Token → ℕ
end_from line [] = line
end_from line (t ∷ ts) = if is_end t.what then t.line else end_from t.line ts
