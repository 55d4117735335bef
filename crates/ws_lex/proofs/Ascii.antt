-- A name and a digit string are text.
use Rattle.std.proofs.Common.{◌≡◌, ◌<◌, ◌+◌, ◌-◌, ℕ, suc, Bool, true, false, List, [], ◌∷◌, length, take, drop, refl, sym, ap, ◌∙◌, arith, subst, ◌++◌, true≢false}
use Rattle.std.specs.Prelude.{nat_eq, nat_le, nat_lt, ◌&&◌, if◌then◌else◌, All, IsAscii}
use Rattle.std.specs.List.{list_all}
use Rattle.std.proofs.lemmas.List.Elements.{All-nil, All-cons}
use Rattle.std.proofs.lemmas.Str.Ascii.{IsAscii-from_all}
use Rattle.std.proofs.lemmas.Slice.{between_to_end}
use Rattle.ws_lex.specs.declared.piece.Shape.{Shape}
use Rattle.ws_lex.specs.declared.piece.Shape.TheVariants.{Word, Digits, Foreign, Broken}
use Rattle.ws_lex.specs.declared.piece.Spelled.{Spelled}
use Rattle.ws_lex.specs.Spelling.{spell, spelled, is_digit, is_word_byte, word_run, digit_run, word_of, number_length, shape_of_number, quoted, before_quote, begins_number, fixed, pairs, singles, dot_operators, truth_values, first, is_letter}
use Rattle.ws_lex.specs.Lines.{starts, is_quote}
use Rattle.ws_lex.specs.Within.{IsText}

abbrev IsSmall : ℕ → Type 0
IsSmall b = b < 128

is_word_byte-small : (b : ℕ) → is_word_byte b ≡ true → IsSmall b
is_word_byte-small b h = grind arith

is_digit-small : (b : ℕ) → is_digit b ≡ true → IsSmall b
is_digit-small b h = grind arith

longer : (t : Bool) (b n : ℕ) (bs : List ℕ) → (t ≡ true → IsSmall b) → All IsSmall (take n bs) → All IsSmall (take (if t then suc n else 0) (b ∷ bs))
longer true b n bs small more = All-cons IsSmall b (take n bs) (small refl) more
longer false b n bs small more = All-nil IsSmall

word_run-small : (bs : List ℕ) → All IsSmall (take (word_run bs) bs)
word_run-small [] = All-nil IsSmall
word_run-small (b ∷ bs) = longer (is_word_byte b) b (word_run bs) bs (is_word_byte-small b) (word_run-small bs)

digit_run-small : (bs : List ℕ) → All IsSmall (take (digit_run bs) bs)
digit_run-small [] = All-nil IsSmall
digit_run-small (b ∷ bs) = longer (is_digit b) b (digit_run bs) bs (is_digit-small b) (digit_run-small bs)

record HasText (s : Spelled) (bs : List ℕ) : Type 0 where
  text : IsText s.shape (take s.size bs)

either : {bs : List ℕ} {x y : Spelled} (t : Bool) → HasText x bs → HasText y bs → HasText (if t then x else y) bs
either true this that = this
either false this that = that

word-text : (bs : List ℕ) (n : ℕ) (t : Bool) → IsAscii (take n bs) → HasText (if t then spelled n Word else spelled n Broken) bs
word-text bs n true ascii = record { text = ascii }
word-text bs n false ascii = record { text = tt }

same_number : (m n : ℕ) → nat_eq m n ≡ true → m ≡ n
same_number m n h = grind arith

number-text : (bs : List ℕ) (d n : ℕ) (t : Bool) → nat_eq d n ≡ t → IsAscii (take d bs) → HasText (spelled n (if t then Digits else Foreign)) bs
number-text bs d n true is ascii = record { text = subst (λ k. IsAscii (take k bs)) (same_number d n is) ascii }
number-text bs d n false is ascii = record { text = tt }

-- the shape is neither that of a name nor that of a digit string
abbrev is_fixed : Shape → Bool
is_fixed Word = false
is_fixed Digits = false
is_fixed _ = true

fixed-shape : (s : Shape) (bs : List ℕ) → is_fixed s ≡ true → IsText s bs
fixed-shape Word bs h = absurd (true≢false (sym h))
fixed-shape Digits bs h = absurd (true≢false (sym h))
fixed-shape _ bs h = tt

both : (a b : Bool) → (a && b) ≡ true → (a ≡ true) × (b ≡ true)
both true true h = (refl, refl)
both true false h = absurd (true≢false (sym h))
both false b h = absurd (true≢false (sym h))

fixed-text : (table : List (List ℕ × Shape)) (bs : List ℕ) → list_all (λ f. is_fixed f.1) table ≡ true → HasText (fixed table bs) bs
fixed-text [] bs h = record { text = tt }
fixed-text (f ∷ fs) bs h =
    let parts = both (is_fixed f.1) (list_all (λ g. is_fixed g.1) fs) h in
    either (starts f.0 bs)
    (record { text = fixed-shape f.1 (take (length f.0) bs) parts.0 })
    (fixed-text fs bs parts.1)

quoted-text : (bs rest : List ℕ) (q : ℕ) → HasText (quoted q rest) bs
quoted-text bs rest q =
    either (nat_lt (before_quote q rest) (length rest)) (record { text = tt }) (record { text = tt })

spell-text : (bs : List ℕ) → HasText (spell bs) bs
spell-text bs =
    either (is_letter (first bs)) (word-text bs (word_run bs) (nat_le (word_run bs) 63) (IsAscii-from_all _ (word_run-small bs)))
    (either (begins_number bs) (number-text bs (digit_run bs) (number_length bs) (nat_eq (digit_run bs) (number_length bs)) refl (IsAscii-from_all _ (digit_run-small bs)))
    (either (is_quote (first bs)) (quoted-text bs (drop 1 bs) (first bs))
    (either (nat_eq (first bs) 46) (fixed-text (dot_operators ++ truth_values) bs refl) (fixed-text (pairs ++ singles) bs refl))))

pub piece-text : (bytes : List ℕ) (at : ℕ) (s : Spelled) → s ≡ spell (take (length bytes - at) (drop at bytes)) → IsText s.shape (take (at + s.size - at) (drop at bytes))
piece-text bytes at s is =
    let n : s.size ≡ at + s.size - at = omega arith in
    let e : s ≡ spell (drop at bytes) = is ∙ ap spell (between_to_end bytes at (length bytes) (omega arith)) in
    subst (λ k. IsText s.shape (take k (drop at bytes))) n (subst (λ t. HasText t (drop at bytes)) (sym e) (spell-text (drop at bytes))).text
