-- What the functions that read pieces ensure, one piece at a time.
use Rattle.std.specs.Prelude.{ℕ, false, List, [], ◌∷◌, ◌++◌, nat_le, if◌then◌else◌, Option, Some, None}
use Rattle.ws_lex.specs.declared.piece.Shape.{Shape}
use Rattle.ws_lex.specs.declared.piece.Shape.TheVariants as shape
use Rattle.ws_lex.specs.declared.token.Token.{Token}
use Rattle.ws_lex.specs.declared.token.TokenKind.{TokenKind}
use Rattle.ws_lex.specs.Tokens.{token_of, ended, is_kept, Piece, Statement, statements, tokens_in, tokens_before}

abbrev pub smaller : Option ℕ → ℕ → Option ℕ
smaller None n = Some n
smaller (Some m) n = Some (if nat_le m n then m else n)

abbrev pub least_from : Option ℕ → List ℕ → Option ℕ
least_from best [] = best
least_from best (n ∷ ns) = least_from (smaller best n) ns

abbrev pub token : ℕ → TokenKind → Token
token n what = record { line = n; ends = false; what = what }

abbrev pub kept : Option ℕ → ℕ → List Token → List Token
kept limit last begun = if is_kept limit last then ended begun else []

-- the tokens of the statement that a piece ends
abbrev pub completes : Option ℕ → List Token → ℕ → Shape → List Token
completes limit begun line shape.Word = []
completes limit begun line shape.Digits = []
completes limit begun line (shape.Sign s) = []
completes limit begun line shape.Foreign = []
completes limit begun line shape.Directive = []
completes limit begun line shape.Separator = kept limit line begun
completes limit begun line shape.Blank = []
completes limit begun line shape.Broken = []

-- what stands of the statement after a piece
abbrev pub goes_on : List Token → ℕ → Shape → List ℕ → List Token
goes_on begun line shape.Word bytes = begun ++ token_of line shape.Word bytes
goes_on begun line shape.Digits bytes = begun ++ token_of line shape.Digits bytes
goes_on begun line (shape.Sign s) bytes = begun ++ token_of line (shape.Sign s) bytes
goes_on begun line shape.Foreign bytes = begun ++ token_of line shape.Foreign bytes
goes_on begun line shape.Directive bytes = begun ++ token_of line shape.Directive bytes
goes_on begun line shape.Separator bytes = []
goes_on begun line shape.Blank bytes = begun ++ token_of line shape.Blank bytes
goes_on begun line shape.Broken bytes = begun ++ token_of line shape.Broken bytes

-- the tokens from here on, where a statement has begun
abbrev pub completed : Option ℕ → List Token → List Statement → List Token
completed limit begun [] = []
completed limit begun (s ∷ ss) = kept limit s.last (begun ++ tokens_in s.pieces) ++ tokens_before limit ss

abbrev pub collected : Option ℕ → List Token → List Piece → List Token
collected limit begun ps = completed limit begun (statements ps)
