-- The longest token at the front of a text.
use Rattle.std.specs.Prelude.{ℕ, suc, Bool, false, not, ◌&&◌, ◌||◌, ◌+◌, List, [], ◌∷◌, ◌++◌, drop, length, codes, nat_eq, nat_lt, nat_le, if◌then◌else◌}
use Rattle.ws_lex.specs.declared.token.Sign.TheVariants as sign
use Rattle.ws_lex.specs.declared.piece.Shape.{Shape}
use Rattle.ws_lex.specs.declared.piece.Shape.TheVariants.{Word, Digits, Sign, Foreign, Directive, Separator, Blank, Broken}
use Rattle.ws_lex.specs.declared.piece.Spelled.{Spelled}
use Rattle.ws_lex.specs.Lines.{starts, is_quote}

abbrev pub is_letter : ℕ → Bool
is_letter b = nat_le 97 b && nat_le b 122

abbrev pub is_digit : ℕ → Bool
is_digit b = nat_le 48 b && nat_le b 57

abbrev pub is_word_byte : ℕ → Bool
is_word_byte b = is_letter b || (is_digit b || nat_eq b 95)

-- how many bytes at the front pass the test
abbrev pub digit_run : List ℕ → ℕ
digit_run [] = 0
digit_run (b ∷ bs) = if is_digit b then suc (digit_run bs) else 0

abbrev pub word_run : List ℕ → ℕ
word_run [] = 0
word_run (b ∷ bs) = if is_word_byte b then suc (word_run bs) else 0

abbrev pub first : List ℕ → ℕ
first [] = 0
first (b ∷ bs) = b

abbrev pub spelled : ℕ → Shape → Spelled
spelled n s = record { size = n; shape = s }

-- ---- the tokens of one spelling

abbrev pub dot_operators : List (List ℕ × Shape)
dot_operators =
    (codes ".eq.", Sign sign.Equal) ∷ (codes ".ne.", Sign sign.NotEqual) ∷ (codes ".lt.", Sign sign.Less) ∷
    (codes ".le.", Sign sign.LessEqual) ∷ (codes ".gt.", Sign sign.Greater) ∷ (codes ".ge.", Sign sign.GreaterEqual) ∷
    (codes ".not.", Sign sign.Not) ∷ (codes ".and.", Sign sign.And) ∷ (codes ".or.", Sign sign.Or) ∷
    (codes ".eqv.", Sign sign.Eqv) ∷ (codes ".neqv.", Sign sign.Neqv) ∷ []

abbrev pub truth_values : List (List ℕ × Shape)
truth_values = (codes ".true.", Sign sign.True) ∷ (codes ".false.", Sign sign.False) ∷ []

abbrev pub pairs : List (List ℕ × Shape)
pairs =
    (codes "**", Sign sign.Power) ∷ (codes "==", Sign sign.Equal) ∷ (codes "/=", Sign sign.NotEqual) ∷
    (codes "<=", Sign sign.LessEqual) ∷ (codes ">=", Sign sign.GreaterEqual) ∷ (codes "(/", Sign sign.OpenSlash) ∷
    (codes "/)", Sign sign.CloseSlash) ∷ (codes "::", Sign sign.DoubleColon) ∷ (codes "//", Foreign) ∷ (codes "=>", Foreign) ∷ []

-- blanks, `;` and the `!` of a directive are pieces too
abbrev pub singles : List (List ℕ × Shape)
singles =
    (codes " ", Blank) ∷ (codes ";", Separator) ∷ (codes "!", Directive) ∷ (codes "%", Foreign) ∷
    (codes "+", Sign sign.Plus) ∷ (codes "-", Sign sign.Minus) ∷ (codes "*", Sign sign.Star) ∷ (codes "/", Sign sign.Slash) ∷
    (codes "<", Sign sign.Less) ∷ (codes ">", Sign sign.Greater) ∷ (codes "(", Sign sign.Open) ∷ (codes ")", Sign sign.Close) ∷
    (codes "[", Sign sign.OpenSquare) ∷ (codes "]", Sign sign.CloseSquare) ∷ (codes ",", Sign sign.Comma) ∷
    (codes ":", Sign sign.Colon) ∷ (codes "=", Sign sign.Becomes) ∷ []

-- the first of the table that begins a text
abbrev pub fixed : List (List ℕ × Shape) → List ℕ → Spelled
fixed [] bs = spelled 1 Broken
fixed (f ∷ fs) bs = if starts f.0 bs then spelled (length f.0) f.1 else fixed fs bs

-- ---- numbers

abbrev pub begins_one : List (List ℕ × Shape) → List ℕ → Bool
begins_one [] bs = false
begins_one (f ∷ fs) bs = starts f.0 bs || begins_one fs bs

abbrev pub begins_dot_operator : List ℕ → Bool
begins_dot_operator bs = begins_one dot_operators bs

-- `.` and digits, where the `.` begins no dot operator
abbrev pub fraction : List ℕ → ℕ
fraction bs = if nat_eq (first bs) 46 && not (begins_dot_operator bs) then 1 + digit_run (drop 1 bs) else 0

-- with the digits after `e` or `d` and a sign
abbrev pub exponent_of : ℕ → ℕ → ℕ
exponent_of front digits = if nat_eq digits 0 then 0 else front + digits

abbrev pub is_sign : ℕ → Bool
is_sign b = nat_eq b 43 || nat_eq b 45

abbrev pub is_exponent_letter : ℕ → Bool
is_exponent_letter b = nat_eq b 101 || nat_eq b 100

abbrev pub exponent : List ℕ → ℕ
exponent bs =
    if is_exponent_letter (first bs)
    then (if is_sign (first (drop 1 bs)) then exponent_of 2 (digit_run (drop 2 bs)) else exponent_of 1 (digit_run (drop 1 bs)))
    else 0

-- `_` and what follows
abbrev pub kind_suffix : List ℕ → ℕ
kind_suffix bs = if nat_eq (first bs) 95 then word_run bs else 0

abbrev pub shape_of_number : ℕ → ℕ → Shape
shape_of_number digits size = if nat_eq digits size then Digits else Foreign

abbrev pub real_size : List ℕ → ℕ → ℕ
real_size bs n = n + exponent (drop n bs)

abbrev pub number_size : List ℕ → ℕ → ℕ
number_size bs n = n + kind_suffix (drop n bs)

abbrev pub number_length : List ℕ → ℕ
number_length bs = number_size bs (real_size bs (digit_run bs + fraction (drop (digit_run bs) bs)))

-- ---- quoted text

-- how many bytes stand before the quote
abbrev pub before_quote : ℕ → List ℕ → ℕ
before_quote q [] = 0
before_quote q (b ∷ bs) = if nat_eq q b then 0 else suc (before_quote q bs)

-- `rest` follows the opening quote
abbrev pub quoted : ℕ → List ℕ → Spelled
quoted q rest = if nat_lt (before_quote q rest) (length rest) then spelled (before_quote q rest + 2) Foreign else spelled 1 Broken

abbrev pub word_of : ℕ → Spelled
word_of n = if nat_le n 63 then spelled n Word else spelled n Broken

abbrev pub begins_number : List ℕ → Bool
begins_number bs = is_digit (first bs) || (nat_eq (first bs) 46 && is_digit (first (drop 1 bs)))

-- the longest token at the front of a text, or a blank
abbrev pub spell : List ℕ → Spelled
spell bs =
    if is_letter (first bs) then word_of (word_run bs) else
    (if begins_number bs then spelled (number_length bs) (shape_of_number (digit_run bs) (number_length bs)) else
    (if is_quote (first bs) then quoted (first bs) (drop 1 bs) else
    (if nat_eq (first bs) 46 then fixed (dot_operators ++ truth_values) bs else
    fixed (pairs ++ singles) bs)))
