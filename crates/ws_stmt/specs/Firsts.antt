-- What the first tokens say of what is read.
use Rattle.std.proofs.Common.{◌≡◌, ℕ, List, ◌∷◌, true, false, if◌then◌else◌, refl, sym, ap, ◌∙◌, subst}
use Rattle.ws_lex.specs.declared.token.Sign.TheVariants as sign
use Rattle.ws_lex.specs.declared.token.Token.{Token}
use Rattle.ws_lex.specs.declared.token.TokenKind.{TokenKind}
use Rattle.ws_lex.specs.declared.token.TokenKind.TheVariants.{Word, Sign}
use Rattle.ws_tree.specs.declared.stmt.Index.{Index}
use Rattle.ws_expr.specs.declared.reading.Reading.{Reading}
use Rattle.ws_expr.specs.Parsing.{Follows}
use Rattle.ws_stmt.specs.Roles.{is_becomes, begins_becomes}
use Rattle.ws_stmt.specs.Statements.{Names, ReadsIndex}
use Rattle.ws_stmt.specs.Parsing.{begins_index, is_name}

becomes_at : {us vs : List Token} → Follows sign.Becomes us vs → begins_becomes us ≡ true
becomes_at f = ap begins_becomes f.2 ∙ ap is_becomes f.1

index_at : {x : List ℕ} {ts us : List Token} → Names x ts us → begins_becomes us ≡ true → begins_index ts ≡ true
index_at {us = us} n h = ap begins_index n.2 ∙ go n.0.what n.1
  where
    go : (k : TokenKind) {x : List ℕ} → k ≡ Word x → (if◌then◌else◌ (is_name k) (begins_becomes us) false) ≡ true
    go k is = subst (λ (j : TokenKind). (if◌then◌else◌ (is_name j) (begins_becomes us) false) ≡ true) (sym is) h

pub index_begins : {ts rest : List Token} {i : Reading Index} → ReadsIndex sign.Colon ts i rest → begins_index ts ≡ true
index_begins d = index_at d.names (becomes_at d.becomes)
