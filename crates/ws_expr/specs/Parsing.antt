-- What the functions that read expressions ensure.
use Rattle.std.specs.Prelude.{Bool, true, false, ◌≡◌, ◌≢◌, ◌≤◌, ℕ, ⊤, ◌&&◌, nat_le, if◌then◌else◌, Option, Some, None, List, [], ◌∷◌, Result, Ok, Err}
use Rattle.ws_lex.specs.declared.token.Sign.{Sign as Sign'}
use Rattle.ws_lex.specs.declared.token.Sign.TheVariants as sign
use Rattle.ws_lex.specs.declared.token.Token.{Token}
use Rattle.ws_lex.specs.declared.token.TokenKind.{TokenKind}
use Rattle.ws_lex.specs.declared.token.TokenKind.TheVariants.{Sign}
use Rattle.ws_tree.specs.declared.expr.Expr.{Expr}
use Rattle.ws_expr.specs.declared.reading.Reading.{Reading}
use Rattle.ws_expr.specs.declared.reading.Gathered.{Gathered}
use Rattle.ws_expr.specs.declared.calls.Callee.{Callee}
use Rattle.ws_tree.specs.declared.expr.Sub.{Sub}
use Rattle.ws_expr.specs.Readings.{unary, callee, call, part}
use Rattle.ws_base.specs.declared.op.BinOp.{BinOp}
use Rattle.ws_base.specs.declared.op.UnOp.{UnOp}
use Rattle.ws_expr.specs.declared.parse.Failed.{Failed}
use Rattle.ws_expr.specs.declared.parse.Failed.TheVariants as failed
use Rattle.ws_expr.specs.Ranks.{rank, left_rank, sign_rank, operand_rank, joining, leading}
use Rattle.ws_expr.specs.Grammar.{Reads, ReadsArguments, ReadsSubs}

-- no operator that binds tighter than r follows, and no parenthesis
abbrev pub Stops : ℕ → List Token → Type 0
Stops r [] = ⊤
Stops r (t ∷ ts) = (t.what ≢ Sign sign.Open) × ((op : BinOp) → joining t.what ≡ Some op → r ≤ rank op)

abbrev pub admitted : ℕ → ℕ → Option BinOp → Option BinOp
admitted bound r None = None
admitted bound r (Some op) = if nat_le bound (left_rank op) && nat_le (rank op) r then Some op else None

-- the operator at the front, if it may follow an expression of rank `bound` in one of rank r
abbrev pub next_op : ℕ → ℕ → List Token → Option BinOp
next_op bound r [] = None
next_op bound r (t ∷ ts) = admitted bound r (joining t.what)

-- `op` is the operator at the front, and `rest` follows it
pub record Joins (bound r : ℕ) (ts : List Token) (op : BinOp) (rest : List Token) : Type 0 where
  pub token : Token
  pub is : ts ≡ token ∷ rest
  pub joins : joining token.what ≡ Some op
  pub left : bound ≤ left_rank op
  pub low : rank op ≤ r

pub record Leads (r : ℕ) (ts : List Token) (op : UnOp) (rest : List Token) : Type 0 where
  pub token : Token
  pub is : ts ≡ token ∷ rest
  pub leads : leading token.what ≡ Some op
  pub low : sign_rank op ≤ r

abbrev pub preceding : ℕ → Option UnOp → Option UnOp
preceding r None = None
preceding r (Some op) = if nat_le (sign_rank op) r then Some op else None

abbrev pub first_op : ℕ → List Token → Option UnOp
first_op r [] = None
first_op r (t ∷ ts) = preceding r (leading t.what)

abbrev pub Refuses : Failed → Type 0
Refuses failed.Memory = ⊤
Refuses failed.Syntax = ⊥

-- What a function of the parser answers: a value, if the memory is there.
abbrev pub Answers : {X : Type 0} → Result X Failed → (X → Type 0) → Type 0
Answers (Ok x) P = P x
Answers (Err e) P = Refuses e

-- the sign s and then `rest`
abbrev pub Follows : Sign' → List Token → List Token → Type 0
Follows s ts rest = (t : Token) × (t.what ≡ Sign s) × (ts ≡ t ∷ rest)

-- The first operand of an expression of rank at most r, and a bound of its own rank: a power, or a sign with its operand.
pub data Head (r : ℕ) : ℕ → List Token → Reading Expr → List Token → Type 0 where
  of_power : {ts rest : List Token} {e : Reading Expr} → Reads 1 ts e rest → Head r 1 ts e rest
  of_sign : {t : Token} {op : UnOp} {ts rest : List Token} {a : Reading Expr} →
      leading t.what ≡ Some op → sign_rank op ≤ r → Reads (operand_rank op) ts a rest → Head r (sign_rank op) (t ∷ ts) (unary op a) rest

-- ---- what may follow

-- a list of subscripts, which stands in round brackets
abbrev pub closing_subs : TokenKind → Bool
closing_subs (Sign sign.Close) = true
closing_subs _ = false

-- a list in brackets
abbrev pub closing : TokenKind → Bool
closing (Sign sign.CloseSquare) = true
closing (Sign sign.CloseSlash) = true
closing k = closing_subs k

-- a subscript
abbrev pub listing : TokenKind → Bool
listing (Sign sign.Comma) = true
listing k = closing_subs k

-- a part of a subscript
abbrev pub ending : TokenKind → Bool
ending (Sign sign.Colon) = true
ending (Sign sign.DoubleColon) = true
ending k = listing k

-- there is a first token, and it passes the test
abbrev pub first_is : (TokenKind → Bool) → List Token → Bool
first_is test [] = false
first_is test (t ∷ ts) = test t.what

abbrev pub closes_subs : List Token → Bool
closes_subs = first_is closing_subs

abbrev pub ends_part : List Token → Bool
ends_part = first_is ending

abbrev pub ClosesSubs : List Token → Type 0
ClosesSubs ts = closes_subs ts ≡ true

abbrev pub Closes : List Token → Type 0
Closes ts = first_is closing ts ≡ true

abbrev pub EndsSub : List Token → Type 0
EndsSub ts = first_is listing ts ≡ true

abbrev pub EndsPart : List Token → Type 0
EndsPart ts = ends_part ts ≡ true

-- the call or the subscripted name that x and `(` begin, and the tokens after these
pub data Opened (x : List ℕ) : List Token → Reading Expr → List Token → Type 0 where
  of_call : {w : Callee} {q : Token} {ts rest : List Token} {es : Gathered Expr} →
      callee x ≡ Some w → ReadsArguments ts es (q ∷ rest) → q.what ≡ Sign sign.Close → Opened x ts (call w es) rest
  of_part : {q : Token} {ts rest : List Token} {subs : Gathered Sub} →
      callee x ≡ None → ReadsSubs ts subs (q ∷ rest) → q.what ≡ Sign sign.Close → Opened x ts (part x subs) rest
