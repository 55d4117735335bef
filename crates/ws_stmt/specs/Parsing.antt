-- What the functions that read parts of statements ensure: what may follow a part, and the lists.
use Rattle.std.specs.Prelude.{◌≡◌, ◌||◌, codes, ℕ, Bool, true, false, Option, Some, None, List, [], ◌∷◌, if◌then◌else◌, ⊤}
use Rattle.ws_lex.specs.declared.token.Sign.{Sign as Sign'}
use Rattle.ws_lex.specs.declared.token.Sign.TheVariants as sign
use Rattle.ws_lex.specs.declared.token.Token.{Token}
use Rattle.ws_lex.specs.declared.token.TokenKind.{TokenKind}
use Rattle.ws_lex.specs.declared.token.TokenKind.TheVariants.{Word, Sign}
use Rattle.ws_expr.specs.Parsing.{Follows}
use Rattle.ws_stmt.specs.Roles.{is_word, is_becomes, begins_becomes}
use Rattle.ws_stmt.specs.declared.attributes.Attributes.{Attributes as Attributes'}
use Rattle.ws_stmt.specs.Statements.{Attributes}

-- the sign does not stand at the front
abbrev pub Lacks : Sign' → List Token → Type 0
Lacks s ts = (rest : List Token) → Follows s ts rest → ⊥

-- what may follow a part of a list, and a part of a statement
abbrev pub ending : TokenKind → Bool
ending (Sign sign.Comma) = true
ending (Sign sign.Close) = true
ending (Sign sign.DoubleColon) = true
ending _ = false

abbrev pub ends : List Token → Bool
ends [] = true
ends (t ∷ ts) = ending t.what

abbrev pub Ends : List Token → Type 0
Ends ts = ends ts ≡ true

-- a comma and a further part of a list
abbrev pub Continues : (List Token → Bool) → List Token → List Token → Type 0
Continues begins ts rest = Follows sign.Comma ts rest × (begins rest ≡ true)

-- what may follow a list
abbrev pub EndsList : (List Token → Bool) → List Token → Type 0
EndsList begins ts = Ends ts × ((rest : List Token) → Continues begins ts rest → ⊥)

abbrev pub is_name : TokenKind → Bool
is_name (Word x) = true
is_name _ = false

-- name =
abbrev pub begins_index : List Token → Bool
begins_index [] = false
begins_index (t ∷ ts) = if is_name t.what then begins_becomes ts else false

-- what stands between the parts of an index
abbrev pub is_mark : Sign' → Bool
is_mark sign.Colon = true
is_mark sign.Comma = true
is_mark _ = false

abbrev pub seen : Attributes' → Attributes
seen a = record { constant = a.constant; allocatable = a.allocatable; dimension = a.dimension.now; some = a.some }

-- what follows `KIND =`, where that stands at the front
abbrev pub after_kind : List Token → List Token
after_kind (t ∷ u ∷ ts) = if is_word (codes "kind") t.what then (if is_becomes u.what then ts else t ∷ u ∷ ts) else t ∷ u ∷ ts
after_kind ts = ts
