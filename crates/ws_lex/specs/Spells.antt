-- What spells a token, whatever is taken: the longest such front of a text is the token there.
use Rattle.std.specs.Prelude.{◌≡◌, ◌≢◌, ◌≤◌, ◌<◌, ◌⊎◌, ◌+◌, ℕ, Bool, true, false, not, ◌&&◌, List, [], ◌∷◌, ◌++◌, length, take, drop, nat_eq, if◌then◌else◌}
use Rattle.std.specs.List.{list_all}
use Rattle.ws_lex.specs.declared.piece.Shape.{Shape}
use Rattle.ws_lex.specs.declared.piece.Shape.TheVariants as shape
use Rattle.ws_lex.specs.Spelling.{is_letter, is_digit, is_word_byte, is_sign, is_exponent_letter, begins_dot_operator, dot_operators, truth_values, pairs, singles, spell}

-- a letter followed by letters, digits and `_`
abbrev pub is_name : List ℕ → Bool
is_name [] = false
is_name (b ∷ bs) = is_letter b && list_all is_word_byte bs

-- one digit or more
abbrev pub is_digits : List ℕ → Bool
is_digits [] = false
is_digits (b ∷ bs) = is_digit b && list_all is_digit bs

-- nothing, or `.` and digits
abbrev pub is_fraction : List ℕ → Bool
is_fraction [] = true
is_fraction (b ∷ bs) = nat_eq b 46 && list_all is_digit bs

abbrev pub is_signed : List ℕ → Bool
is_signed [] = false
is_signed (b ∷ bs) = if is_sign b then is_digits bs else is_digits (b ∷ bs)

-- nothing, or `e` or `d`, a sign where wanted, and digits
abbrev pub is_exponent : List ℕ → Bool
is_exponent [] = true
is_exponent (b ∷ bs) = is_exponent_letter b && is_signed bs

-- nothing, or `_` and the word that follows
abbrev pub is_kind : List ℕ → Bool
is_kind [] = true
is_kind (b ∷ bs) = nat_eq b 95 && list_all is_word_byte bs

-- the number begins with a digit, or with `.` and a digit
abbrev pub is_begun : List ℕ → List ℕ → Bool
is_begun [] [] = false
is_begun [] (b ∷ bs) = is_digits bs
is_begun (d ∷ ds) bs = true

-- a digit string, alone or in a real literal or before a kind. A `.` that begins a dot operator belongs to no number.
pub record IsNumber (bytes : List ℕ) (rest : List ℕ) : Type 0 where
  pub whole : List ℕ
  pub fraction : List ℕ
  pub exponent : List ℕ
  pub kind : List ℕ
  pub value : bytes ++ rest ≡ whole ++ (fraction ++ (exponent ++ (kind ++ rest)))
  pub size : length bytes ≡ length whole + (length fraction + (length exponent + length kind))
  pub digits : list_all is_digit whole ≡ true
  pub some : is_begun whole fraction ≡ true
  pub point : is_fraction fraction ≡ true
  pub no_operator : (fraction ≡ []) ⊎ (begins_dot_operator (fraction ++ (exponent ++ (kind ++ rest))) ≡ false)
  pub power : is_exponent exponent ≡ true
  pub named : is_kind kind ≡ true

-- a quote, bytes other than it, and the quote again
pub record IsQuoted (quote : ℕ) (bytes : List ℕ) : Type 0 where
  pub inner : List ℕ
  pub value : bytes ≡ quote ∷ (inner ++ quote ∷ [])
  pub free : list_all (λ b. not (nat_eq quote b)) inner ≡ true

-- an entry of the table has this spelling and shape
abbrev pub IsOneOf : List (List ℕ × Shape) → Shape → List ℕ → Type 0
IsOneOf [] s bytes = ⊥
IsOneOf (f ∷ fs) s bytes = ((s ≡ f.1) × (bytes ≡ f.0)) ⊎ IsOneOf fs s bytes

abbrev pub all_fixed : List (List ℕ × Shape)
all_fixed = (dot_operators ++ truth_values) ++ (pairs ++ singles)

-- the bytes, where the rest follows, spell a token. Each number spells a `Foreign`, and digits alone spell a `Digits` too.
abbrev pub Spells : Shape → List ℕ → List ℕ → Type 0
Spells shape.Word bytes rest = is_name bytes ≡ true
Spells shape.Digits bytes rest = is_digits bytes ≡ true
Spells shape.Foreign bytes rest = IsNumber bytes rest ⊎ (IsQuoted 34 bytes ⊎ (IsQuoted 39 bytes ⊎ IsOneOf all_fixed shape.Foreign bytes))
Spells shape.Broken bytes rest = ⊥
Spells s bytes rest = IsOneOf all_fixed s bytes

-- no longer front of the text spells a token
abbrev pub IsLongest : List ℕ → Type 0
IsLongest text = (s : Shape) (bytes rest : List ℕ) → bytes ++ rest ≡ text → Spells s bytes rest → length bytes ≤ (spell text).size

-- the piece taken is one that is spelled there, or broken
abbrev pub IsSpelled : List ℕ → Type 0
IsSpelled text = (spell text).shape ≢ shape.Broken → Spells (spell text).shape (take (spell text).size text) (drop (spell text).size text)

-- where the piece is broken, no front spells a token but a name of more than 63 bytes
abbrev pub IsNothing : List ℕ → Type 0
IsNothing text =
    (spell text).shape ≡ shape.Broken →
    (s : Shape) (bytes rest : List ℕ) → bytes ++ rest ≡ text → Spells s bytes rest → (s ≡ shape.Word) × (63 < (spell text).size)
