-- Small sources with their answers, worked by hand, one or more for each rule of the source form.
use Prim.Native.String.{String}
use Rattle.std.specs.Prelude.{◌≡◌, ℕ, ◌+◌, List, [], ◌∷◌, ◌++◌, codes, Option, Some, None, if◌then◌else◌}
use Rattle.ws_lex.specs.declared.token.Sign.{Sign as Sign'}
use Rattle.ws_lex.specs.declared.token.Sign.TheVariants as sign
use Rattle.ws_lex.specs.declared.token.Token.{Token}
use Rattle.ws_lex.specs.declared.token.TokenKind.{TokenKind}
use Rattle.ws_lex.specs.declared.token.TokenKind.TheVariants.{Word, Digits, Sign, Foreign, Directive, End}
use Rattle.ws_lex.specs.Steps.{least_from}
use Rattle.ws_lex.specs.Tokens.{breaks, pieces_of, statements, tokens_before, tokens_of}

abbrev pub spelling : Sign' → String
spelling sign.Plus = "+"
spelling sign.Minus = "-"
spelling sign.Star = "*"
spelling sign.Slash = "/"
spelling sign.Power = "**"
spelling sign.Equal = "=="
spelling sign.NotEqual = "/="
spelling sign.Less = "<"
spelling sign.LessEqual = "<="
spelling sign.Greater = ">"
spelling sign.GreaterEqual = ">="
spelling sign.Not = ".not."
spelling sign.And = ".and."
spelling sign.Or = ".or."
spelling sign.Eqv = ".eqv."
spelling sign.Neqv = ".neqv."
spelling sign.True = ".true."
spelling sign.False = ".false."
spelling sign.Open = "("
spelling sign.Close = ")"
spelling sign.OpenSquare = "["
spelling sign.CloseSquare = "]"
spelling sign.OpenSlash = "(/"
spelling sign.CloseSlash = "/)"
spelling sign.Comma = ","
spelling sign.Colon = ":"
spelling sign.DoubleColon = "::"
spelling sign.Becomes = "="

-- a token as a word: `%` for a foreign one, `!` for a directive, `$` for the end
abbrev pub kind_text : TokenKind → List ℕ
kind_text (Word x) = x
kind_text (Digits x) = x
kind_text (Sign s) = codes (spelling s)
kind_text Foreign = codes "%"
kind_text Directive = codes "!"
kind_text End = codes "$"

-- each token after its line, with `;` after the last of a statement
abbrev pub shown : List Token → List ℕ
shown [] = []
shown (t ∷ ts) = ((48 + t.line) ∷ 58 ∷ kind_text t.what) ++ ((if t.ends then codes "; " else codes " ") ++ shown ts)

abbrev pub answer_by : Option ℕ → List ℕ → List ℕ
answer_by None source = shown (tokens_of source)
answer_by (Some n) source = codes "refused " ++ ((48 + n) ∷ codes ": ") ++ shown (tokens_before (Some n) (statements (pieces_of source)))

-- the answer as a text: the tokens, or the first broken line and what is kept before it
abbrev pub answer : List ℕ → List ℕ
answer source = answer_by (least_from None (breaks (pieces_of source))) source

-- a source and its answer
abbrev pub Row : Type 0
Row = List ℕ × List ℕ

abbrev row : String → String → Row
row source text = (codes source, codes text)

abbrev pub Hold : List Row → Type 0
Hold [] = Unit {0}
Hold (r ∷ rs) = (answer r.0 ≡ r.1) × Hold rs

-- lines, their comments and widths, and names
abbrev pub line_rows : List Row
line_rows =
    row "INTEGER :: A(2)\nA = [1, &\n  2] ! two\nA(1) = A(2); A(2) = 9\nEND\n" "1:integer 1::: 1:a 1:( 1:2 1:); 2:a 2:= 2:[ 2:1 2:, 3:2 3:]; 4:a 4:( 4:1 4:) 4:= 4:a 4:( 4:2 4:); 4:a 4:( 4:2 4:) 4:= 4:9; 5:end; 6:$ " ∷
    row "a = 1\r\nb = 2" "1:a 1:= 1:1; 2:b 2:= 2:2; 3:$ " ∷
    row "a = 1\nend\r" "refused 2: 1:a 1:= 1:1; " ∷
    row "n = 1\r\r\n" "refused 1: " ∷
    row "" "1:$ " ∷
    row "a\n\n" "1:a; 3:$ " ∷
    row "a\t=\t1\n" "1:a 1:= 1:1; 2:$ " ∷
    row "n = 1 ! \"?`'\n" "1:n 1:= 1:1; 2:$ " ∷
    row "                                                                                                                                    ! c\n                                                                                                                                     \n !cccccccccccccccccccccccccccccccccccccccccccccccccccccccccccccccccccccccccccccccccccccccccccccccccccccccccccccccccccccccccccccccccccccccccccc\n" "refused 2: " ∷
    row "!$omp                                                                                                                               ! c\n!$omp                                                                                                                                ! c\n" "refused 2: 1:!; " ∷
    row "aaaaaaaaaaaaaaaaaaaaaaaaaaaaaaaaaaaaaaaaaaaaaaaaaaaaaaaaaaaaaaa\n" "1:aaaaaaaaaaaaaaaaaaaaaaaaaaaaaaaaaaaaaaaaaaaaaaaaaaaaaaaaaaaaaaa; 2:$ " ∷
    row "x = &\naaaaaaaaaaaaaaaaaaaaaaaaaaaaaaaaaaaaaaaa&\n&aaaaaaaaaaaaaaaaaaaaaaaa\n" "refused 2: " ∷
    []

-- `;` and `&`
abbrev pub statement_rows : List Row
statement_rows =
    row ";n = 1;;\nend\n" "1:n 1:= 1:1; 2:end; 3:$ " ∷
    row "n = 1; &\nn = q\nend\n" "1:n 1:= 1:1; 2:n 2:= 2:q; 3:end; 4:$ " ∷
    row "print *, ?\nend\n" "refused 1: " ∷
    row "end\nn = 3 &" "refused 2: 1:end; " ∷
    row "n = 1 &\n& &\n& + 1\nend\n" "1:n 1:= 1:1 3:+ 3:1; 4:end; 5:$ " ∷
    row "ab&\n  &cd &\n! c\n\n&*2\n" "1:abcd 5:* 5:2; 6:$ " ∷
    row "ab&\ncd\n" "1:ab 2:cd; 3:$ " ∷
    row "n = 1 &\n & ! c\n+ 1\n" "refused 2: " ∷
    row "n = 1 &\n!$ x\n! c\n" "refused 1: " ∷
    row "n = & 1\n" "refused 1: " ∷
    row "& n = 1\n" "refused 1: " ∷
    row "n = 1 &\n                                                                                                                                     \n" "refused 1: " ∷
    row "n = 1 &\n                                                                                                                                     \n+ 1\n" "refused 2: " ∷
    []

-- directives, and lines that begin `!$` and a blank
abbrev pub directive_rows : List Row
directive_rows =
    row "!$omp parallel; n = 1\n" "refused 1: " ∷
    row "!$ n = ?\nend\n" "1:%; 2:end; 3:$ " ∷
    row "n = 1 &\n!$ x\n+ 1\nend\n" "2:%; 1:n 1:= 1:1 3:+ 3:1; 4:end; 5:$ " ∷
    row "!$omp parallel &\n!$omp& default\nend\n" "1:! 1:parallel 1:%; 3:end; 4:$ " ∷
    row "n = 1 &\n!$OMP end parallel\n" "refused 2: " ∷
    row " !$OMP\tparallel ! c ?\n!$omp\n!$ompx ?\n!$x\n" "1:! 1:parallel; 2:!; 5:$ " ∷
    row "!$omp 'a;b'\n" "1:! 1:%; 2:$ " ∷
    []

-- tokens
abbrev pub token_rows : List Row
token_rows =
    row "t = 1.true.\n" "refused 1: " ∷
    row "print *, 'it''s ! &'//\"a'\"\nn = 1\n" "1:print 1:* 1:, 1:% 1:% 1:% 1:%; 2:n 2:= 2:1; 3:$ " ∷
    row "print 'a &\n& b'\n" "refused 1: " ∷
    row "t = 1.eq.2 .and. .true..or..false.\n" "1:t 1:= 1:1 1:== 1:2 1:.and. 1:.true. 1:.or. 1:.false.; 2:$ " ∷
    row "1. 1.5e+3 .5 2d0 1_4 2e 1.eq\n" "1:% 1:% 1:% 1:% 1:% 1:2 1:e 1:% 1:eq; 2:$ " ∷
    row "a(1::2)=(/1/)**b=>c%d(/=x/)<=:::\n" "1:a 1:( 1:1 1::: 1:2 1:) 1:= 1:(/ 1:1 1:/) 1:** 1:b 1:% 1:c 1:% 1:d 1:(/ 1:= 1:x 1:/) 1:<= 1::: 1::; 2:$ " ∷
    row "a . b\n" "refused 1: " ∷
    row "print 'a;b'; n = 1\n" "1:print 1:%; 1:n 1:= 1:1; 2:$ " ∷
    []

-- what is kept of a source that is refused
abbrev pub before_rows : List Row
before_rows =
    row "a = 1; b = 2\nc = 3 &\n+ ?\n" "refused 3: 1:a 1:= 1:1; 1:b 1:= 1:2; " ∷
    row "a = 1\nb = 2; c = ?\n" "refused 2: 1:a 1:= 1:1; " ∷
    row "n = 1 &\n!$ x\n+ ?\n" "refused 3: 2:%; " ∷
    row "a = 1 &\n; b = 2\nc = ?\n" "refused 3: 1:a 1:= 1:1; 2:b 2:= 2:2; " ∷
    row "a = 1 &\n& ;\n?\n" "refused 3: 1:a 1:= 1:1; " ∷
    []
