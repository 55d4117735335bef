-- The tokens of a text.
use Rattle.std.specs.Prelude.{ℕ, zero, suc, Bool, true, false, ◌-◌, ◌≡◌, ◌≢◌, ◌≤◌, ◌<◌, List, [], ◌∷◌, ◌++◌, map, take, length, nat_lt, Option, Some, None, ⊤, if◌then◌else◌, All, Contains}
use Rattle.ws_lex.specs.declared.piece.Shape.{Shape}
use Rattle.ws_lex.specs.declared.piece.Shape.TheVariants as shape
use Rattle.ws_lex.specs.declared.piece.Spelled.{Spelled}
use Rattle.ws_lex.specs.declared.token.Token.{Token}
use Rattle.ws_lex.specs.declared.token.TokenKind.{TokenKind}
use Rattle.ws_lex.specs.declared.token.LexEnd.{LexEnd}
use Rattle.ws_lex.specs.declared.token.LexEnd.TheVariants.{Syntax, Memory}
use Rattle.ws_lex.specs.declared.token.TokenKind.TheVariants.{Word, Digits, Sign, Foreign, Directive, End}
use Rattle.ws_lex.specs.Lines.{lines, plain}
use Rattle.ws_lex.specs.declared.piece.Cell.{Cell}
use Rattle.ws_lex.specs.Text.{text}
use Rattle.ws_lex.specs.Spelling.{spell}

abbrev pub bytes_of : List Cell → List ℕ
bytes_of = map (λ c. c.byte)

-- a piece of the text: its line, its shape and its bytes
pub record Piece : Type 0 where
  pub line : ℕ
  pub shape : Shape
  pub bytes : List ℕ

abbrev pub piece : ℕ → List ℕ → Spelled → Piece
piece n bs s = record { line = n; shape = s.shape; bytes = take s.size bs }

-- the pieces after the first k bytes
abbrev pub pieces_after : ℕ → List Cell → List Piece
pieces_after k [] = []
pieces_after (suc k) (c ∷ cs) = pieces_after k cs
pieces_after zero (c ∷ cs) = piece c.line (bytes_of (c ∷ cs)) (spell (bytes_of (c ∷ cs))) ∷ pieces_after ((spell (bytes_of (c ∷ cs))).size - 1) cs

abbrev pub pieces : List Cell → List Piece
pieces = pieces_after 0

-- ---- the lines that break the source form

abbrev pub breaks_of : ℕ → Shape → List ℕ
breaks_of n shape.Word = []
breaks_of n shape.Digits = []
breaks_of n (shape.Sign s) = []
breaks_of n shape.Foreign = []
breaks_of n shape.Directive = []
breaks_of n shape.Separator = []
breaks_of n shape.Blank = []
breaks_of n shape.Broken = n ∷ []

abbrev pub breaks : List Piece → List ℕ
breaks [] = []
breaks (p ∷ ps) = breaks_of p.line p.shape ++ breaks ps

pub record IsLeast (n : ℕ) (ns : List ℕ) : Type 0 where
  pub there : Contains ns n
  pub least : All (λ m. n ≤ m) ns

-- ---- statements

-- a statement's pieces up to its `;`, and the line of that
pub record Statement : Type 0 where
  pub pieces : List Piece
  pub last : ℕ

abbrev pub before_first : Piece → List Statement → List Statement
before_first p [] = []
before_first p (s ∷ ss) = record { pieces = p ∷ s.pieces; last = s.last } ∷ ss

abbrev pub closed : ℕ → Shape → List Statement → List Statement
closed n shape.Word ss = ss
closed n shape.Digits ss = ss
closed n (shape.Sign s) ss = ss
closed n shape.Foreign ss = ss
closed n shape.Directive ss = ss
closed n shape.Separator ss = record { pieces = []; last = n } ∷ ss
closed n shape.Blank ss = ss
closed n shape.Broken ss = ss

abbrev pub statements : List Piece → List Statement
statements [] = []
statements (p ∷ ps) = before_first p (closed p.line p.shape (statements ps))

abbrev pub token : ℕ → TokenKind → List Token
token n what = record { line = n; ends = false; what = what } ∷ []

-- the token that a piece is
abbrev pub token_of : ℕ → Shape → List ℕ → List Token
token_of n shape.Word bs = token n (Word bs)
token_of n shape.Digits bs = token n (Digits bs)
token_of n (shape.Sign s) bs = token n (Sign s)
token_of n shape.Foreign bs = token n Foreign
token_of n shape.Directive bs = token n Directive
token_of n shape.Separator bs = []
token_of n shape.Blank bs = []
token_of n shape.Broken bs = []

abbrev pub tokens_in : List Piece → List Token
tokens_in [] = []
tokens_in (p ∷ ps) = token_of p.line p.shape p.bytes ++ tokens_in ps

abbrev pub ending : Token → Token
ending t = record t { ends = true }

-- the last token marked
abbrev pub ended : List Token → List Token
ended [] = []
ended (t ∷ []) = ending t ∷ []
ended (t ∷ u ∷ ts) = t ∷ ended (u ∷ ts)

-- the statement ends on a line before the one given, if any is
abbrev pub is_kept : Option ℕ → ℕ → Bool
is_kept None last = true
is_kept (Some line) last = nat_lt last line

-- the tokens of the statements that end on a line before `line`; of all where None is given
abbrev pub tokens_before : Option ℕ → List Statement → List Token
tokens_before line [] = []
tokens_before line (s ∷ ss) = (if is_kept line s.last then ended (tokens_in s.pieces) else []) ++ tokens_before line ss

-- ---- of a source

abbrev pub lines_of : List ℕ → List (List ℕ)
lines_of source = lines (map plain source)

abbrev pub pieces_of : List ℕ → List Piece
pieces_of source = pieces (text (lines_of source))

abbrev pub end_token : ℕ → Token
end_token n = record { line = n; ends = false; what = End }

-- the tokens of a source that nowhere breaks the form
abbrev pub tokens_of : List ℕ → List Token
tokens_of source = tokens_before None (statements (pieces_of source)) ++ end_token (suc (length (lines_of source))) ∷ []

pub record IsTokens (source : List ℕ) (tokens : List Token) : Type 0 where
  pub unbroken : breaks (pieces_of source) ≡ []
  pub value : tokens ≡ tokens_of source

-- no piece breaks the form
abbrev pub IsWhole : Statement → Type 0
IsWhole s = All (λ p. p.shape ≢ shape.Broken) s.pieces

-- the first line that breaks the form, and the statements that end on a line before it, each of them whole
pub record IsBroken (source : List ℕ) (line : ℕ) (before : List Token) : Type 0 where
  pub first : IsLeast line (breaks (pieces_of source))
  pub whole : All (λ s. s.last < line → IsWhole s) (statements (pieces_of source))
  pub value : before ≡ tokens_before (Some line) (statements (pieces_of source))

abbrev pub IsLexEnd : List ℕ → LexEnd → Type 0
IsLexEnd source (Syntax line before) = IsBroken source line before
IsLexEnd source Memory = ⊤
