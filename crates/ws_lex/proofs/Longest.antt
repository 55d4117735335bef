-- The token taken at the front of a text is the longest that is spelled there.
use Rattle.std.proofs.Common.{◌≡◌, ◌≤◌, ◌<◌, ◌+◌, ◌⊎◌, ℕ, suc, Bool, true, false, ◌&&◌, List, [], ◌∷◌, ◌++◌, length, drop, refl, sym, ap, ◌∙◌, arith, subst, inl, inr, true≢false}
use Rattle.std.specs.Prelude.{nat_eq, nat_le, nat_lt, not, ◌||◌, if◌then◌else◌}
use Rattle.std.specs.List.{list_all}
use Rattle.std.proofs.Math.Seq.{drop-append_seam}
use Rattle.std.proofs.lemmas.List.{drop-drop}
use Rattle.ws_lex.specs.declared.piece.Shape.{Shape}
use Rattle.ws_lex.specs.declared.piece.Shape.TheVariants as shape
use Rattle.ws_lex.specs.declared.piece.Spelled.{Spelled}
use Rattle.ws_lex.specs.Lines.{starts, is_quote}
use Rattle.ws_lex.specs.Spelling.{is_letter, is_digit, is_word_byte, is_sign, is_exponent_letter, begins_dot_operator, begins_number, digit_run, word_run, first, fraction, exponent_of, exponent, kind_suffix, real_size, number_size, number_length, shape_of_number, before_quote, quoted, word_of, spelled, fixed, dot_operators, truth_values, pairs, singles, spell}
use Rattle.ws_lex.specs.Spells.{is_name, is_digits, is_fraction, is_signed, is_exponent, is_kind, is_begun, IsNumber, IsQuoted, IsOneOf, Spells, IsLongest, all_fixed}

pub both : (a b : Bool) → (a && b) ≡ true → (a ≡ true) × (b ≡ true)
both true true h = (refl, refl)
both true false h = absurd (true≢false (sym h))
both false b h = absurd (true≢false (sym h))

when : (b : Bool) (x y : Spelled) → b ≡ true → (if b then x else y).size ≡ x.size
when b x y h = rw h refl

unless : (b : Bool) (x y : Spelled) → b ≡ false → (if b then x else y).size ≡ y.size
unless b x y h = rw h refl

-- ---- runs

add : (b : Bool) (m n : ℕ) → b ≡ true → m ≤ n → suc m ≤ (if b then suc n else 0)
add b m n h l = rw h (omega (arith, l))

word_run-front : (bs rest : List ℕ) → list_all is_word_byte bs ≡ true → length bs ≤ word_run (bs ++ rest)
word_run-front [] rest h = omega arith
word_run-front (b ∷ bs) rest h =
    let parts = both (is_word_byte b) (list_all is_word_byte bs) h in
    add (is_word_byte b) (length bs) (word_run (bs ++ rest)) parts.0 (word_run-front bs rest parts.1)

-- the digits are the whole run, or another digit follows
abbrev Reaches : ℕ → ℕ → Type 0 → Type 0
Reaches n most Short = (n ≡ most) ⊎ ((n ≤ most) × Short)

more : (b : Bool) (m n : ℕ) (Short : Type 0) → b ≡ true → Reaches m n Short → Reaches (suc m) (if b then suc n else 0) Short
more b m n Short h (inl e) = inl (rw h (ap suc e))
more b m n Short h (inr k) = inr (rw h (omega (arith, k.0)), k.1)

none-follows : (b : Bool) (n : ℕ) (c : Bool) → b ≡ c → Reaches 0 (if b then suc n else 0) (b ≡ true)
none-follows b n true h = inr (omega arith, h)
none-follows b n false h = inl (rw h refl)

digit_run-front : (ds rest : List ℕ) → list_all is_digit ds ≡ true → Reaches (length ds) (digit_run (ds ++ rest)) (is_digit (first rest) ≡ true)
digit_run-front [] [] h = inl refl
digit_run-front [] (b ∷ rest) h = none-follows (is_digit b) (digit_run rest) (is_digit b) refl
digit_run-front (d ∷ ds) rest h =
    let parts = both (is_digit d) (list_all is_digit ds) h in
    more (is_digit d) (length ds) (digit_run (ds ++ rest)) (is_digit (first rest) ≡ true) parts.0 (digit_run-front ds rest parts.1)

-- ---- which byte begins what

digit-no_point : (b : ℕ) → is_digit b ≡ true → nat_eq b 46 ≡ true → ⊥
digit-no_point b h k = grind arith

digit-no_letter : (b : ℕ) → is_digit b ≡ true → is_exponent_letter b ≡ true → ⊥
digit-no_letter b h k = grind arith

digit-no_bar : (b : ℕ) → is_digit b ≡ true → nat_eq b 95 ≡ true → ⊥
digit-no_bar b h k = grind arith

letter-no_point : (b : ℕ) → is_exponent_letter b ≡ true → nat_eq b 46 ≡ false
letter-no_point b h = grind arith

bar-no_point : (b : ℕ) → nat_eq b 95 ≡ true → nat_eq b 46 ≡ false
bar-no_point b h = grind arith

bar-no_letter : (b : ℕ) → nat_eq b 95 ≡ true → is_exponent_letter b ≡ false
bar-no_letter b h = grind arith

pub digit-no_name : (b : ℕ) → is_digit b ≡ true → is_letter b ≡ false
digit-no_name b h = grind arith

bar-word : (b : ℕ) → nat_eq b 95 ≡ true → is_word_byte b ≡ true
bar-word b h = grind arith

-- a digit at the front: none of the later parts of a number is there
kind-empty : (ki rest : List ℕ) → is_kind ki ≡ true → is_digit (first (ki ++ rest)) ≡ true → ki ≡ []
kind-empty [] rest h d = refl
kind-empty (b ∷ bs) rest h d = absurd (digit-no_bar b d (both (nat_eq b 95) (list_all is_word_byte bs) h).0)

exponent-empty : (ex ki rest : List ℕ) → is_exponent ex ≡ true → is_kind ki ≡ true → is_digit (first (ex ++ (ki ++ rest))) ≡ true → (ex ≡ []) × (ki ≡ [])
exponent-empty [] ki rest h k d = (refl, kind-empty ki rest k d)
exponent-empty (b ∷ bs) ki rest h k d = absurd (digit-no_letter b d (both (is_exponent_letter b) (is_signed bs) h).0)

fraction-empty : (fr ex ki rest : List ℕ) → is_fraction fr ≡ true → is_exponent ex ≡ true → is_kind ki ≡ true → is_digit (first (fr ++ (ex ++ (ki ++ rest)))) ≡ true →
    (fr ≡ []) × ((ex ≡ []) × (ki ≡ []))
fraction-empty [] ex ki rest f h k d = (refl, exponent-empty ex ki rest h k d)
fraction-empty (b ∷ bs) ex ki rest f h k d = absurd (digit-no_point b d (both (nat_eq b 46) (list_all is_digit bs) f).0)

-- ---- the parts of a number, each with what the code takes there

fraction-none : (bs : List ℕ) → nat_eq (first bs) 46 ≡ false → fraction bs ≡ 0
fraction-none bs h = rw h refl

exponent-none : (bs : List ℕ) → is_exponent_letter (first bs) ≡ false → exponent bs ≡ 0
exponent-none bs h = rw h refl

pub same_number : (m n : ℕ) → nat_eq m n ≡ true → m ≡ n
same_number m n h = grind arith

kind-bar : (bs rest : List ℕ) → list_all is_word_byte bs ≡ true → suc (length bs) ≤ kind_suffix (95 ∷ (bs ++ rest))
kind-bar bs rest h = omega (arith, word_run-front bs rest h)

kind-reach : (ki rest : List ℕ) → is_kind ki ≡ true → length ki ≤ kind_suffix (ki ++ rest)
kind-reach [] rest h = omega arith
kind-reach (b ∷ bs) rest h =
    let parts = both (nat_eq b 95) (list_all is_word_byte bs) h in
    subst (λ x. suc (length bs) ≤ kind_suffix (x ∷ (bs ++ rest))) (sym (same_number b 95 parts.0)) (kind-bar bs rest parts.1)

Reaches-map : (n m : ℕ) (S T : Type 0) → (S → T) → Reaches n m S → Reaches n m T
Reaches-map n m S T f (inl e) = inl e
Reaches-map n m S T f (inr k) = inr (k.0, f k.1)

point-if : (b : Bool) (m n : ℕ) (S : Type 0) → b ≡ false → Reaches m n S → Reaches (suc m) (if true && not b then 1 + n else 0) S
point-if b m n S h (inl e) = inl (rw h (omega (arith, e)))
point-if b m n S h (inr k) = inr (rw h (omega (arith, k.0)), k.1)

fraction-point : (ds r : List ℕ) → list_all is_digit ds ≡ true → begins_dot_operator (46 ∷ (ds ++ r)) ≡ false →
    Reaches (suc (length ds)) (fraction (46 ∷ (ds ++ r))) (is_digit (first r) ≡ true)
fraction-point ds r all h = point-if (begins_dot_operator (46 ∷ (ds ++ r))) (length ds) (digit_run (ds ++ r)) (is_digit (first r) ≡ true) h (digit_run-front ds r all)

fraction-reach : (fr ex ki rest : List ℕ) → is_fraction fr ≡ true → is_exponent ex ≡ true → is_kind ki ≡ true →
    (fr ≡ []) ⊎ (begins_dot_operator (fr ++ (ex ++ (ki ++ rest))) ≡ false) →
    Reaches (length fr) (fraction (fr ++ (ex ++ (ki ++ rest)))) ((ex ≡ []) × (ki ≡ []))
fraction-reach [] [] [] rest f h k o = inr (omega arith, (refl, refl))
fraction-reach [] [] (b ∷ bs) rest f h k o = inl (sym (fraction-none ((b ∷ bs) ++ rest) (bar-no_point b (both (nat_eq b 95) (list_all is_word_byte bs) k).0)))
fraction-reach [] (b ∷ bs) ki rest f h k o = inl (sym (fraction-none ((b ∷ bs) ++ (ki ++ rest)) (letter-no_point b (both (is_exponent_letter b) (is_signed bs) h).0)))
fraction-reach (b ∷ ds) ex ki rest f h k (inl e) = absurd (cc)
fraction-reach (b ∷ ds) ex ki rest f h k (inr o) =
    let parts = both (nat_eq b 46) (list_all is_digit ds) f in
    let r = ex ++ (ki ++ rest) in
    let e = same_number b 46 parts.0 in
    Reaches-map (suc (length ds)) (fraction (b ∷ (ds ++ r))) (is_digit (first r) ≡ true) ((ex ≡ []) × (ki ≡ [])) (exponent-empty ex ki rest h k)
    (subst (λ x. Reaches (suc (length ds)) (fraction (x ∷ (ds ++ r))) (is_digit (first r) ≡ true)) (sym e)
    (fraction-point ds r parts.1 (subst (λ x. begins_dot_operator (x ∷ (ds ++ r)) ≡ false) e o)))

exponent_of-reach : (front n m : ℕ) (S : Type 0) → 0 < n → Reaches n m S → Reaches (front + n) (exponent_of front m) S
exponent_of-reach front n m S some (inl e) = let z : nat_eq m 0 ≡ false = grind arith in inl (rw z (omega (arith, e)))
exponent_of-reach front n m S some (inr k) = let l = k.0 in let z : nat_eq m 0 ≡ false = grind arith in inr (rw z (omega (arith, k.0)), k.1)

some-digits : (ds r : List ℕ) → is_digits ds ≡ true → (0 < length ds) × Reaches (length ds) (digit_run (ds ++ r)) (is_digit (first r) ≡ true)
some-digits [] r h = absurd (true≢false (sym h))
some-digits (d ∷ ds) r h = (omega arith, digit_run-front (d ∷ ds) r h)

signed-reach : (c : ℕ) (ds r : List ℕ) (s : Bool) → is_sign c ≡ s → (if s then is_digits ds else is_digits (c ∷ ds)) ≡ true →
    Reaches (suc (suc (length ds))) (if is_sign c then exponent_of 2 (digit_run (ds ++ r)) else exponent_of 1 (digit_run (c ∷ (ds ++ r)))) (is_digit (first r) ≡ true)
signed-reach c ds r true is h =
    let n : suc (suc (length ds)) ≡ 2 + length ds = omega arith in
    rw is (rw n (exponent_of-reach 2 (length ds) (digit_run (ds ++ r)) (is_digit (first r) ≡ true) (some-digits ds r h).0 (some-digits ds r h).1))
signed-reach c ds r false is h =
    let n : suc (suc (length ds)) ≡ 1 + suc (length ds) = omega arith in
    rw is (rw n (exponent_of-reach 1 (suc (length ds)) (digit_run (c ∷ (ds ++ r))) (is_digit (first r) ≡ true) (some-digits (c ∷ ds) r h).0 (some-digits (c ∷ ds) r h).1))

letter-if : (b : Bool) (n m : ℕ) (S : Type 0) → b ≡ true → Reaches n m S → Reaches n (if b then m else 0) S
letter-if b n m S h k = rw h k

exponent-reach : (ex ki rest : List ℕ) → is_exponent ex ≡ true → is_kind ki ≡ true → Reaches (length ex) (exponent (ex ++ (ki ++ rest))) (ki ≡ [])
exponent-reach [] [] rest h k = inr (omega arith, refl)
exponent-reach [] (b ∷ bs) rest h k = inl (sym (exponent-none ((b ∷ bs) ++ rest) (bar-no_letter b (both (nat_eq b 95) (list_all is_word_byte bs) k).0)))
exponent-reach (b ∷ []) ki rest h k = absurd (true≢false (sym (both (is_exponent_letter b) false h).1))
exponent-reach (b ∷ c ∷ ds) ki rest h k =
    let parts = both (is_exponent_letter b) (is_signed (c ∷ ds)) h in
    let r = ki ++ rest in
    let most = if is_sign c then exponent_of 2 (digit_run (ds ++ r)) else exponent_of 1 (digit_run (c ∷ (ds ++ r))) in
    letter-if (is_exponent_letter b) (suc (suc (length ds))) most (ki ≡ []) parts.0
    (Reaches-map (suc (suc (length ds))) most (is_digit (first r) ≡ true) (ki ≡ []) (kind-empty ki rest k) (signed-reach c ds r (is_sign c) refl parts.1))

-- ---- the whole number, from its end

-- what follows a part that was taken whole
after-part : (text part rest : List ℕ) (n : ℕ) → drop n text ≡ part ++ rest → drop (n + length part) text ≡ rest
after-part text part rest n e = sym (drop-drop (length part) n text) ∙ (ap (drop (length part)) e ∙ drop-append_seam part rest)

from-kind : (text ki rest : List ℕ) (n : ℕ) → drop n text ≡ ki ++ rest → is_kind ki ≡ true → n + length ki ≤ number_size text n
from-kind text ki rest n e k = omega (arith, subst (λ l. length ki ≤ kind_suffix l) (sym e) (kind-reach ki rest k))

from-exponent-by : (text ex ki rest : List ℕ) (n : ℕ) → drop n text ≡ ex ++ (ki ++ rest) → is_kind ki ≡ true →
    Reaches (length ex) (exponent (drop n text)) (ki ≡ []) → n + (length ex + length ki) ≤ number_size text (real_size text n)
from-exponent-by text ex ki rest n e k (inl is) =
    let whole = from-kind text ki rest (n + length ex) (after-part text ex (ki ++ rest) n e) k in
    let there = subst (λ m. (n + length ex) + length ki ≤ number_size text (n + m)) is whole in
    omega (arith, there)
from-exponent-by text ex ki rest n e k (inr short) =
    let none : length ki ≡ 0 = ap length short.1 in
    omega (arith, none, short.0)

from-exponent : (text ex ki rest : List ℕ) (n : ℕ) → drop n text ≡ ex ++ (ki ++ rest) → is_exponent ex ≡ true → is_kind ki ≡ true →
    n + (length ex + length ki) ≤ number_size text (real_size text n)
from-exponent text ex ki rest n e h k =
    from-exponent-by text ex ki rest n e k (subst (λ l. Reaches (length ex) (exponent l) (ki ≡ [])) (sym e) (exponent-reach ex ki rest h k))

from-fraction-by : (text fr ex ki rest : List ℕ) (n : ℕ) → drop n text ≡ fr ++ (ex ++ (ki ++ rest)) → is_exponent ex ≡ true → is_kind ki ≡ true →
    Reaches (length fr) (fraction (drop n text)) ((ex ≡ []) × (ki ≡ [])) →
    n + (length fr + (length ex + length ki)) ≤ number_size text (real_size text (n + fraction (drop n text)))
from-fraction-by text fr ex ki rest n e h k (inl is) =
    let whole = from-exponent text ex ki rest (n + length fr) (after-part text fr (ex ++ (ki ++ rest)) n e) h k in
    let there = subst (λ m. (n + length fr) + (length ex + length ki) ≤ number_size text (real_size text (n + m))) is whole in
    omega (arith, there)
from-fraction-by text fr ex ki rest n e h k (inr short) =
    let none : length ki ≡ 0 = ap length short.1.1 in
    let no_power : length ex ≡ 0 = ap length short.1.0 in
    omega (arith, none, no_power, short.0)

from-fraction : (text fr ex ki rest : List ℕ) (n : ℕ) → drop n text ≡ fr ++ (ex ++ (ki ++ rest)) → is_fraction fr ≡ true → is_exponent ex ≡ true → is_kind ki ≡ true →
    (fr ≡ []) ⊎ (begins_dot_operator (fr ++ (ex ++ (ki ++ rest))) ≡ false) →
    n + (length fr + (length ex + length ki)) ≤ number_size text (real_size text (n + fraction (drop n text)))
from-fraction text fr ex ki rest n e f h k o =
    from-fraction-by text fr ex ki rest n e h k (subst (λ l. Reaches (length fr) (fraction l) ((ex ≡ []) × (ki ≡ []))) (sym e) (fraction-reach fr ex ki rest f h k o))

from-whole-by : (wh fr ex ki rest : List ℕ) → is_fraction fr ≡ true → is_exponent ex ≡ true → is_kind ki ≡ true →
    (fr ≡ []) ⊎ (begins_dot_operator (fr ++ (ex ++ (ki ++ rest))) ≡ false) →
    Reaches (length wh) (digit_run (wh ++ (fr ++ (ex ++ (ki ++ rest))))) ((fr ≡ []) × ((ex ≡ []) × (ki ≡ []))) →
    length wh + (length fr + (length ex + length ki)) ≤ number_length (wh ++ (fr ++ (ex ++ (ki ++ rest))))
from-whole-by wh fr ex ki rest f h k o (inl is) =
    let text = wh ++ (fr ++ (ex ++ (ki ++ rest))) in
    let whole = from-fraction text fr ex ki rest (length wh) (drop-append_seam wh (fr ++ (ex ++ (ki ++ rest)))) f h k o in
    subst (λ m. length wh + (length fr + (length ex + length ki)) ≤ number_size text (real_size text (m + fraction (drop m text)))) is whole
from-whole-by wh fr ex ki rest f h k o (inr short) =
    let no_kind : length ki ≡ 0 = ap length short.1.1.1 in
    let no_power : length ex ≡ 0 = ap length short.1.1.0 in
    let no_point : length fr ≡ 0 = ap length short.1.0 in
    omega (arith, no_kind, no_power, no_point, short.0)

number-whole : (wh fr ex ki rest : List ℕ) → list_all is_digit wh ≡ true → is_fraction fr ≡ true → is_exponent ex ≡ true → is_kind ki ≡ true →
    (fr ≡ []) ⊎ (begins_dot_operator (fr ++ (ex ++ (ki ++ rest))) ≡ false) →
    length wh + (length fr + (length ex + length ki)) ≤ number_length (wh ++ (fr ++ (ex ++ (ki ++ rest))))
number-whole wh fr ex ki rest d f h k o =
    let r = fr ++ (ex ++ (ki ++ rest)) in
    from-whole-by wh fr ex ki rest f h k o
    (Reaches-map (length wh) (digit_run (wh ++ r)) (is_digit (first r) ≡ true) ((fr ≡ []) × ((ex ≡ []) × (ki ≡ []))) (fraction-empty fr ex ki rest f h k) (digit_run-front wh r d))

-- ---- each token, at the front of a text

pub letter-word : (b : ℕ) → is_letter b ≡ true → is_word_byte b ≡ true
letter-word b h = rw h refl

word-size : (b : Bool) (n : ℕ) → (if b then spelled n shape.Word else spelled n shape.Broken).size ≡ n
word-size true n = refl
word-size false n = refl

spell-word : (bs : List ℕ) → is_letter (first bs) ≡ true → (spell bs).size ≡ word_run bs
spell-word bs h =
    when (is_letter (first bs)) (word_of (word_run bs))
    (if begins_number bs then spelled (number_length bs) (shape_of_number (digit_run bs) (number_length bs)) else
    (if is_quote (first bs) then quoted (first bs) (drop 1 bs) else
    (if nat_eq (first bs) 46 then fixed (dot_operators ++ truth_values) bs else fixed (pairs ++ singles) bs))) h ∙
    word-size (nat_le (word_run bs) 63) (word_run bs)

spell-number : (bs : List ℕ) → is_letter (first bs) ≡ false → begins_number bs ≡ true → (spell bs).size ≡ number_length bs
spell-number bs plain h =
    let number = spelled (number_length bs) (shape_of_number (digit_run bs) (number_length bs)) in
    let other = if is_quote (first bs) then quoted (first bs) (drop 1 bs) else
    (if nat_eq (first bs) 46 then fixed (dot_operators ++ truth_values) bs else fixed (pairs ++ singles) bs) in
    unless (is_letter (first bs)) (word_of (word_run bs)) (if begins_number bs then number else other) plain ∙
    when (begins_number bs) number other h

name-longest : (bytes rest : List ℕ) → is_name bytes ≡ true → length bytes ≤ (spell (bytes ++ rest)).size
name-longest [] rest h = absurd (true≢false (sym h))
name-longest (b ∷ bs) rest h =
    let parts = both (is_letter b) (list_all is_word_byte bs) h in
    let run = add (is_word_byte b) (length bs) (word_run (bs ++ rest)) (letter-word b parts.0) (word_run-front bs rest parts.1) in
    omega (arith, spell-word (b ∷ (bs ++ rest)) parts.0, run)

or_left : (a b : Bool) → a ≡ true → (a || b) ≡ true
or_left a b h = rw h refl

-- whether a number begins here, by its first two parts
pub number-begins : (wh fr later : List ℕ) → list_all is_digit wh ≡ true → is_begun wh fr ≡ true → is_fraction fr ≡ true →
    (is_letter (first (wh ++ (fr ++ later))) ≡ false) × (begins_number (wh ++ (fr ++ later)) ≡ true)
number-begins [] [] later d s f = absurd (true≢false (sym s))
number-begins [] (b ∷ []) later d s f = absurd (true≢false (sym s))
number-begins [] (b ∷ c ∷ ds) later d s f =
    let e = same_number b 46 (both (nat_eq b 46) (list_all is_digit (c ∷ ds)) f).0 in
    let digit : is_digit c ≡ true = (both (is_digit c) (list_all is_digit ds) s).0 in
    subst (λ x. (is_letter x ≡ false) × (begins_number (x ∷ c ∷ (ds ++ later)) ≡ true)) (sym e) (refl, digit)
number-begins (d ∷ ds) fr later all s f =
    let digit = (both (is_digit d) (list_all is_digit ds) all).0 in
    (digit-no_name d digit, or_left (is_digit d) (nat_eq d 46 && is_digit (first (ds ++ (fr ++ later)))) digit)

number-longest : (bytes rest : List ℕ) → IsNumber bytes rest → length bytes ≤ (spell (bytes ++ rest)).size
number-longest bytes rest n =
    let later = n.exponent ++ (n.kind ++ rest) in
    let text = n.whole ++ (n.fraction ++ later) in
    let begins = number-begins n.whole n.fraction later n.digits n.some n.point in
    let whole = number-whole n.whole n.fraction n.exponent n.kind rest n.digits n.point n.power n.named n.no_operator in
    let size = spell-number text begins.0 begins.1 in
    subst (λ l. length bytes ≤ (spell l).size) (sym n.value) (omega (arith, n.size, whole, size))

-- a digit string is a number without the other parts
pub number-of_digits : (d : ℕ) (ds rest : List ℕ) → is_digits (d ∷ ds) ≡ true → IsNumber (d ∷ ds) rest
number-of_digits d ds rest h = record {
  whole = d ∷ ds;
  fraction = [];
  exponent = [];
  kind = [];
  value = refl;
  size = omega arith;
  digits = h;
  some = refl;
  point = refl;
  no_operator = inl refl;
  power = refl;
  named = refl;
}

digits-longest : (bytes rest : List ℕ) → is_digits bytes ≡ true → length bytes ≤ (spell (bytes ++ rest)).size
digits-longest [] rest h = absurd (true≢false (sym h))
digits-longest (d ∷ ds) rest h = number-longest (d ∷ ds) rest (number-of_digits d ds rest h)

-- ---- quoted text

itself : (q : ℕ) → nat_eq q q ≡ true
itself q = grind arith

other : (b : Bool) → not b ≡ true → b ≡ false
other true h = absurd (true≢false (sym h))
other false h = refl

pub before_quote-inner : (q : ℕ) (inner rest : List ℕ) → list_all (λ b. not (nat_eq q b)) inner ≡ true → before_quote q ((inner ++ q ∷ []) ++ rest) ≡ length inner
before_quote-inner q [] rest h = rw (itself q) refl
before_quote-inner q (b ∷ bs) rest h =
    let parts = both (not (nat_eq q b)) (list_all (λ c. not (nat_eq q c)) bs) h in
    rw (other (nat_eq q b) parts.0) (ap suc (before_quote-inner q bs rest parts.1))

pub length-quoted : (q : ℕ) (inner rest : List ℕ) → length inner < length ((inner ++ q ∷ []) ++ rest)
length-quoted q [] rest = omega arith
length-quoted q (b ∷ bs) rest = omega (arith, length-quoted q bs rest)

length-closed : (q : ℕ) (inner : List ℕ) → length (inner ++ q ∷ []) ≡ suc (length inner)
length-closed q [] = refl
length-closed q (b ∷ bs) = ap suc (length-closed q bs)

quoted-if : (n m : ℕ) → n < m → (if nat_lt n m then spelled (n + 2) shape.Foreign else spelled 1 shape.Broken).size ≡ n + 2
quoted-if n m h = let e : nat_lt n m ≡ true = grind arith in rw e refl

quoted-size : (q : ℕ) (inner rest : List ℕ) → list_all (λ b. not (nat_eq q b)) inner ≡ true → (quoted q ((inner ++ q ∷ []) ++ rest)).size ≡ length inner + 2
quoted-size q inner rest h =
    let text = (inner ++ q ∷ []) ++ rest in
    let e = before_quote-inner q inner rest h in
    quoted-if (before_quote q text) (length text) (omega (arith, e, length-quoted q inner rest)) ∙ ap (λ n. n + 2) e

double-longest : (bytes rest : List ℕ) → IsQuoted 34 bytes → length bytes ≤ (spell (bytes ++ rest)).size
double-longest bytes rest h =
    subst (λ l. length l ≤ (spell (l ++ rest)).size) (sym h.value) (omega (arith, length-closed 34 h.inner, quoted-size 34 h.inner rest h.free))

single-longest : (bytes rest : List ℕ) → IsQuoted 39 bytes → length bytes ≤ (spell (bytes ++ rest)).size
single-longest bytes rest h =
    subst (λ l. length l ≤ (spell (l ++ rest)).size) (sym h.value) (omega (arith, length-closed 39 h.inner, quoted-size 39 h.inner rest h.free))

-- ---- the tokens of one spelling

some-if : (b : Bool) (x y : Spelled) → 1 ≤ x.size → 1 ≤ y.size → 1 ≤ (if b then x else y).size
some-if true x y h k = h
some-if false x y h k = k

is_some : (n : ℕ) → nat_le 1 n ≡ true → 1 ≤ n
is_some n h = grind arith

fixed-some : (table : List (List ℕ × Shape)) (bs : List ℕ) → list_all (λ f. nat_le 1 (length f.0)) table ≡ true → 1 ≤ (fixed table bs).size
fixed-some [] bs h = omega arith
fixed-some (f ∷ fs) bs h =
    let parts = both (nat_le 1 (length f.0)) (list_all (λ g. nat_le 1 (length g.0)) fs) h in
    some-if (starts f.0 bs) (spelled (length f.0) f.1) (fixed fs bs) (is_some (length f.0) parts.0) (fixed-some fs bs parts.1)

abbrev pub Each : (List ℕ → Type 0) → List (List ℕ × Shape) → Type 0
Each P [] = Unit {0}
Each P (f ∷ fs) = P f.0 × Each P fs

pub one-of : (P : List ℕ → Type 0) (table : List (List ℕ × Shape)) (s : Shape) (bytes : List ℕ) → Each P table → IsOneOf table s bytes → P bytes
one-of P [] s bytes all h = absurd h
one-of P (f ∷ fs) s bytes all (inl e) = subst P (sym e.1) all.0
one-of P (f ∷ fs) s bytes all (inr h) = one-of P fs s bytes all.1 h

abbrev TakesWhole : List ℕ → Type 0
TakesWhole bytes = (rest : List ℕ) → length bytes ≤ (spell (bytes ++ rest)).size

each-whole : Each TakesWhole all_fixed
each-whole = (
  (λ rest. omega arith),
  (
    (λ rest. omega arith),
    (
      (λ rest. omega arith),
      (
        (λ rest. omega arith),
        (
          (λ rest. omega arith),
          (
            (λ rest. omega arith),
            (
              (λ rest. omega arith),
              (
                (λ rest. omega arith),
                (
                  (λ rest. omega arith),
                  (
                    (λ rest. omega arith),
                    (
                      (λ rest. omega arith),
                      (
                        (λ rest. omega arith),
                        (
                          (λ rest. omega arith),
                          (
                            (λ rest. omega arith),
                            (
                              (λ rest. omega arith),
                              (
                                (λ rest. omega arith),
                                (
                                  (λ rest. omega arith),
                                  (
                                    (λ rest. omega arith),
                                    (
                                      (λ rest. omega arith),
                                      (
                                        (λ rest. omega arith),
                                        (
                                          (λ rest. omega arith),
                                          (
                                            (λ rest. omega arith),
                                            (
                                              (λ rest. omega arith),
                                              (
                                                (λ rest. fixed-some (pairs ++ singles) (32 ∷ rest) refl),
                                                (
                                                  (λ rest. fixed-some (pairs ++ singles) (59 ∷ rest) refl),
                                                  (
                                                    (λ rest. fixed-some (pairs ++ singles) (33 ∷ rest) refl),
                                                    (
                                                      (λ rest. fixed-some (pairs ++ singles) (37 ∷ rest) refl),
                                                      (
                                                        (λ rest. fixed-some (pairs ++ singles) (43 ∷ rest) refl),
                                                        (
                                                          (λ rest. fixed-some (pairs ++ singles) (45 ∷ rest) refl),
                                                          (
                                                            (λ rest. fixed-some (pairs ++ singles) (42 ∷ rest) refl),
                                                            (
                                                              (λ rest. fixed-some (pairs ++ singles) (47 ∷ rest) refl),
                                                              (
                                                                (λ rest. fixed-some (pairs ++ singles) (60 ∷ rest) refl),
                                                                (
                                                                  (λ rest. fixed-some (pairs ++ singles) (62 ∷ rest) refl),
                                                                  (
                                                                    (λ rest. fixed-some (pairs ++ singles) (40 ∷ rest) refl),
                                                                    (
                                                                      (λ rest. fixed-some (pairs ++ singles) (41 ∷ rest) refl),
                                                                      (
                                                                        (λ rest. fixed-some (pairs ++ singles) (91 ∷ rest) refl),
                                                                        (
                                                                          (λ rest. fixed-some (pairs ++ singles) (93 ∷ rest) refl),
                                                                          (
                                                                            (λ rest. fixed-some (pairs ++ singles) (44 ∷ rest) refl),
                                                                            (
                                                                              (λ rest. fixed-some (pairs ++ singles) (58 ∷ rest) refl),
                                                                              (
                                                                                (λ rest. fixed-some (pairs ++ singles) (61 ∷ rest) refl),
                                                                                tt,
                                                                              ),
                                                                            ),
                                                                          ),
                                                                        ),
                                                                      ),
                                                                    ),
                                                                  ),
                                                                ),
                                                              ),
                                                            ),
                                                          ),
                                                        ),
                                                      ),
                                                    ),
                                                  ),
                                                ),
                                              ),
                                            ),
                                          ),
                                        ),
                                      ),
                                    ),
                                  ),
                                ),
                              ),
                            ),
                          ),
                        ),
                      ),
                    ),
                  ),
                ),
              ),
            ),
          ),
        ),
      ),
    ),
  ),
)

fixed-longest : (s : Shape) (bytes rest : List ℕ) → IsOneOf all_fixed s bytes → length bytes ≤ (spell (bytes ++ rest)).size
fixed-longest s bytes rest h = one-of TakesWhole all_fixed s bytes each-whole h rest

foreign-longest : (bytes rest : List ℕ) → Spells shape.Foreign bytes rest → length bytes ≤ (spell (bytes ++ rest)).size
foreign-longest bytes rest (inl n) = number-longest bytes rest n
foreign-longest bytes rest (inr (inl q)) = double-longest bytes rest q
foreign-longest bytes rest (inr (inr (inl q))) = single-longest bytes rest q
foreign-longest bytes rest (inr (inr (inr f))) = fixed-longest shape.Foreign bytes rest f

spells-longest : (s : Shape) (bytes rest : List ℕ) → Spells s bytes rest → length bytes ≤ (spell (bytes ++ rest)).size
spells-longest shape.Word bytes rest h = name-longest bytes rest h
spells-longest shape.Digits bytes rest h = digits-longest bytes rest h
spells-longest (shape.Sign s) bytes rest h = fixed-longest (shape.Sign s) bytes rest h
spells-longest shape.Foreign bytes rest h = foreign-longest bytes rest h
spells-longest shape.Directive bytes rest h = fixed-longest shape.Directive bytes rest h
spells-longest shape.Separator bytes rest h = fixed-longest shape.Separator bytes rest h
spells-longest shape.Blank bytes rest h = fixed-longest shape.Blank bytes rest h
spells-longest shape.Broken bytes rest h = absurd h

pub longest : (text : List ℕ) → IsLongest text
longest text s bytes rest e h = subst (λ l. length bytes ≤ (spell l).size) e (spells-longest s bytes rest h)
