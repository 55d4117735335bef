-- The token taken at the front of a text is spelled there, and nothing is spelled where none is taken.
use Rattle.std.proofs.Common.{◌≡◌, ◌≢◌, ◌<◌, ◌+◌, ◌⊎◌, ℕ, suc, Bool, true, false, ◌&&◌, List, [], ◌∷◌, ◌++◌, length, take, drop, refl, sym, ap, ◌∙◌, arith, subst, inl, inr, true≢false, length-append}
use Rattle.std.specs.Prelude.{nat_eq, nat_le, nat_lt, not, ◌||◌, if◌then◌else◌}
use Rattle.std.specs.List.{list_all}
use Rattle.std.proofs.lemmas.List.{drop-drop, take-append-drop}
use Rattle.ws_lex.specs.declared.piece.Shape.{Shape}
use Rattle.ws_lex.specs.declared.piece.Shape.TheVariants as shape
use Rattle.ws_lex.specs.declared.piece.Spelled.{Spelled}
use Rattle.ws_lex.specs.Lines.{starts, is_quote}
use Rattle.ws_lex.specs.Spelling.{is_letter, is_digit, is_word_byte, is_sign, is_exponent_letter, begins_dot_operator, begins_number, digit_run, word_run, first, fraction, exponent_of, exponent, kind_suffix, real_size, number_size, number_length, shape_of_number, before_quote, quoted, word_of, spelled, fixed, dot_operators, truth_values, pairs, singles, spell}
use Rattle.ws_lex.specs.Spells.{is_name, is_digits, is_fraction, is_signed, is_exponent, is_kind, is_begun, IsNumber, IsQuoted, IsOneOf, Spells, IsSpelled, all_fixed}
use Rattle.ws_lex.proofs.Longest.{both, letter-word, same_number}

and_both : (a b : Bool) → a ≡ true → b ≡ true → (a && b) ≡ true
and_both a b h k = rw h k

-- what the piece is, where it is not broken, is spelled at the front
record HasToken (s : Spelled) (bs : List ℕ) : Type 0 where
  token : s.shape ≢ shape.Broken → Spells s.shape (take s.size bs) (drop s.size bs)

branch : (bs : List ℕ) (b : Bool) (x y : Spelled) → (b ≡ true → HasToken x bs) → (b ≡ false → HasToken y bs) → HasToken (if b then x else y) bs
branch bs true x y h k = h refl
branch bs false x y h k = k refl

broken : (bs : List ℕ) (n : ℕ) → HasToken (spelled n shape.Broken) bs
broken bs n = record { token = λ h. absurd (h refl) }

-- ---- runs

all-if : (p : ℕ → Bool) (t : Bool) (b n : ℕ) (bs : List ℕ) → p b ≡ t → list_all p (take n bs) ≡ true → list_all p (take (if t then suc n else 0) (b ∷ bs)) ≡ true
all-if p true b n bs h k = and_both (p b) (list_all p (take n bs)) h k
all-if p false b n bs h k = refl

word-all : (bs : List ℕ) → list_all is_word_byte (take (word_run bs) bs) ≡ true
word-all [] = refl
word-all (b ∷ bs) = all-if is_word_byte (is_word_byte b) b (word_run bs) bs refl (word-all bs)

digit-all : (bs : List ℕ) → list_all is_digit (take (digit_run bs) bs) ≡ true
digit-all [] = refl
digit-all (b ∷ bs) = all-if is_digit (is_digit b) b (digit_run bs) bs refl (digit-all bs)

name-if : (t : Bool) (b n : ℕ) (bs : List ℕ) → t ≡ true → is_letter b ≡ true → list_all is_word_byte (take n bs) ≡ true → is_name (take (if t then suc n else 0) (b ∷ bs)) ≡ true
name-if t b n bs h letter more = rw h (and_both (is_letter b) (list_all is_word_byte (take n bs)) letter more)

word-name : (bs : List ℕ) → is_letter (first bs) ≡ true → is_name (take (word_run bs) bs) ≡ true
word-name [] h = absurd (true≢false (sym h))
word-name (b ∷ bs) h = name-if (is_word_byte b) b (word_run bs) bs (letter-word b h) h (word-all bs)

word-token : (bs : List ℕ) (t : Bool) → is_letter (first bs) ≡ true → HasToken (if t then spelled (word_run bs) shape.Word else spelled (word_run bs) shape.Broken) bs
word-token bs true h = record { token = λ n. word-name bs h }
word-token bs false h = broken bs (word_run bs)

-- ---- the parts of a number

digits-if : (t : Bool) (b n : ℕ) (bs : List ℕ) → t ≡ true → is_digit b ≡ true → list_all is_digit (take n bs) ≡ true → is_digits (take (if t then suc n else 0) (b ∷ bs)) ≡ true
digits-if t b n bs h digit more = rw h (and_both (is_digit b) (list_all is_digit (take n bs)) digit more)

-- one digit or more, where a digit is first
digits-some : (bs : List ℕ) → is_digit (first bs) ≡ true → is_digits (take (digit_run bs) bs) ≡ true
digits-some [] h = absurd (true≢false (sym h))
digits-some (b ∷ bs) h = digits-if (is_digit b) b (digit_run bs) bs h h (digit-all bs)

digit-no_dot : (c : ℕ) (ds : List ℕ) → is_digit c ≡ true → begins_dot_operator (46 ∷ c ∷ ds) ≡ false
digit-no_dot c ds h =
    let e : nat_eq 101 c ≡ false = grind arith in
    let n : nat_eq 110 c ≡ false = grind arith in
    let l : nat_eq 108 c ≡ false = grind arith in
    let g : nat_eq 103 c ≡ false = grind arith in
    let a : nat_eq 97 c ≡ false = grind arith in
    let o : nat_eq 111 c ≡ false = grind arith in
    rw (e, n, l, g, a, o) refl

fraction-if : (t : Bool) (n : ℕ) (bs : List ℕ) → list_all is_digit (take n bs) ≡ true → is_fraction (take (if t then 1 + n else 0) (46 ∷ bs)) ≡ true
fraction-if true n bs h = let e : 1 + n ≡ suc n = omega arith in rw e h
fraction-if false n bs h = refl

fraction-by : (t : Bool) (b : ℕ) (bs : List ℕ) → nat_eq b 46 ≡ t → is_fraction (take (if t && not (begins_dot_operator (b ∷ bs)) then 1 + digit_run bs else 0) (b ∷ bs)) ≡ true
fraction-by true b bs h =
    subst (λ x. is_fraction (take (if true && not (begins_dot_operator (x ∷ bs)) then 1 + digit_run bs else 0) (x ∷ bs)) ≡ true) (sym (same_number b 46 h))
    (fraction-if (not (begins_dot_operator (46 ∷ bs))) (digit_run bs) bs (digit-all bs))
fraction-by false b bs h = refl

fraction-spelled : (bs : List ℕ) → is_fraction (take (fraction bs) bs) ≡ true
fraction-spelled [] = refl
fraction-spelled (b ∷ bs) = fraction-by (nat_eq b 46) b bs refl

fraction-free-if : (a o : Bool) (n : ℕ) (bs : List ℕ) → (take (if a && not o then 1 + n else 0) bs ≡ []) ⊎ (o ≡ false)
fraction-free-if a false n bs = inr refl
fraction-free-if true true n bs = inl refl
fraction-free-if false true n bs = inl refl

fraction-free : (bs : List ℕ) → (take (fraction bs) bs ≡ []) ⊎ (begins_dot_operator bs ≡ false)
fraction-free bs = fraction-free-if (nat_eq (first bs) 46) (begins_dot_operator bs) (digit_run (drop 1 bs)) bs

kind-by : (t : Bool) (b : ℕ) (bs : List ℕ) → nat_eq b 95 ≡ t → is_kind (take (if t then word_run (b ∷ bs) else 0) (b ∷ bs)) ≡ true
kind-by true b bs h = subst (λ x. is_kind (take (word_run (x ∷ bs)) (x ∷ bs)) ≡ true) (sym (same_number b 95 h)) (word-all bs)
kind-by false b bs h = refl

kind-spelled : (bs : List ℕ) → is_kind (take (kind_suffix bs) bs) ≡ true
kind-spelled [] = refl
kind-spelled (b ∷ bs) = kind-by (nat_eq b 95) b bs refl

run-some : (ds : List ℕ) (t : Bool) → is_digit (first ds) ≡ t → nat_eq (digit_run ds) 0 ≡ false → is_digits (take (digit_run ds) ds) ≡ true
run-some [] t is h = absurd (true≢false h)
run-some (d ∷ ds) true is h = digits-some (d ∷ ds) is
run-some (d ∷ ds) false is h = let e : nat_eq (if is_digit d then suc (digit_run ds) else 0) 0 ≡ true = rw is refl in absurd (true≢false (sym e ∙ h))

signed-digits : (c : ℕ) (ds : List ℕ) (t : Bool) → is_digit c ≡ t → is_sign c ≡ false → nat_eq (if t then suc (digit_run ds) else 0) 0 ≡ false →
    is_signed (take (if t then suc (digit_run ds) else 0) (c ∷ ds)) ≡ true
signed-digits c ds true is no_sign h = rw no_sign (and_both (is_digit c) (list_all is_digit (take (digit_run ds) ds)) is (digit-all ds))
signed-digits c ds false is no_sign h = absurd (true≢false h)

without_sign : (bs : List ℕ) → is_sign (first bs) ≡ false → nat_eq (digit_run bs) 0 ≡ false → is_signed (take (digit_run bs) bs) ≡ true
without_sign [] no_sign h = absurd (true≢false h)
without_sign (c ∷ ds) no_sign h = signed-digits c ds (is_digit c) refl no_sign h

plain-power : (z : Bool) (b : ℕ) (bs : List ℕ) → nat_eq (digit_run bs) 0 ≡ z → is_exponent_letter b ≡ true → is_sign (first bs) ≡ false →
    is_exponent (take (if z then 0 else 1 + digit_run bs) (b ∷ bs)) ≡ true
plain-power true b bs h letter no_sign = refl
plain-power false b bs h letter no_sign =
    let e : 1 + digit_run bs ≡ suc (digit_run bs) = omega arith in
    rw e (and_both (is_exponent_letter b) (is_signed (take (digit_run bs) bs)) letter (without_sign bs no_sign h))

signed-power : (z : Bool) (b c : ℕ) (ds : List ℕ) → nat_eq (digit_run ds) 0 ≡ z → is_exponent_letter b ≡ true → is_sign c ≡ true →
    is_exponent (take (if z then 0 else 2 + digit_run ds) (b ∷ c ∷ ds)) ≡ true
signed-power true b c ds h letter sign = refl
signed-power false b c ds h letter sign =
    let e : 2 + digit_run ds ≡ suc (suc (digit_run ds)) = omega arith in
    let more : is_signed (c ∷ take (digit_run ds) ds) ≡ true = rw sign (run-some ds (is_digit (first ds)) refl h) in
    rw e (and_both (is_exponent_letter b) (is_signed (c ∷ take (digit_run ds) ds)) letter more)

power-by : (s : Bool) (b : ℕ) (bs : List ℕ) → is_exponent_letter b ≡ true → is_sign (first bs) ≡ s →
    is_exponent (take (if s then exponent_of 2 (digit_run (drop 1 bs)) else exponent_of 1 (digit_run bs)) (b ∷ bs)) ≡ true
power-by true b [] letter h = absurd (true≢false (sym h))
power-by true b (c ∷ ds) letter h = signed-power (nat_eq (digit_run ds) 0) b c ds refl letter h
power-by false b bs letter h = plain-power (nat_eq (digit_run bs) 0) b bs refl letter h

exponent-by : (t : Bool) (b : ℕ) (bs : List ℕ) → is_exponent_letter b ≡ t →
    is_exponent (take (if t then (if is_sign (first bs) then exponent_of 2 (digit_run (drop 1 bs)) else exponent_of 1 (digit_run bs)) else 0) (b ∷ bs)) ≡ true
exponent-by true b bs h = power-by (is_sign (first bs)) b bs h refl
exponent-by false b bs h = refl

exponent-spelled : (bs : List ℕ) → is_exponent (take (exponent bs) bs) ≡ true
exponent-spelled [] = refl
exponent-spelled (b ∷ bs) = exponent-by (is_exponent_letter b) b bs refl

-- ---- the whole number

begun-point : (bs : List ℕ) → is_digit (first bs) ≡ true → is_begun [] (take (fraction (46 ∷ bs)) (46 ∷ bs)) ≡ true
begun-point [] h = absurd (true≢false (sym h))
begun-point (c ∷ ds) h =
    let e : 1 + digit_run (c ∷ ds) ≡ suc (digit_run (c ∷ ds)) = omega arith in
    let f : fraction (46 ∷ c ∷ ds) ≡ suc (digit_run (c ∷ ds)) = ap (λ o. if true && not o then 1 + digit_run (c ∷ ds) else 0) (digit-no_dot c ds h) ∙ e in
    ap (λ n. is_begun [] (take n (46 ∷ c ∷ ds))) f ∙ digits-some (c ∷ ds) h

begun-by : (t : Bool) (b : ℕ) (bs : List ℕ) → is_digit b ≡ t → (t || (nat_eq b 46 && is_digit (first bs))) ≡ true →
    let n = if t then suc (digit_run bs) else 0 in
    is_begun (take n (b ∷ bs)) (take (fraction (drop n (b ∷ bs))) (drop n (b ∷ bs))) ≡ true
begun-by true b bs is h = refl
begun-by false b bs is h =
    let parts = both (nat_eq b 46) (is_digit (first bs)) h in
    subst (λ x. is_begun [] (take (fraction (x ∷ bs)) (x ∷ bs)) ≡ true) (sym (same_number b 46 parts.0)) (begun-point bs parts.1)

number-begun : (bs : List ℕ) → begins_number bs ≡ true → is_begun (take (digit_run bs) bs) (take (fraction (drop (digit_run bs) bs)) (drop (digit_run bs) bs)) ≡ true
number-begun [] h = absurd (true≢false (sym h))
number-begun (b ∷ bs) h = begun-by (is_digit b) b bs refl h

-- a part of a text, and what follows it
seam : (n m : ℕ) (bs : List ℕ) → drop n bs ≡ take m (drop n bs) ++ drop (n + m) bs
seam n m bs = sym (take-append-drop m (drop n bs)) ∙ ap (λ l. take m (drop n bs) ++ l) (drop-drop m n bs)

number-is : (bs : List ℕ) → begins_number bs ≡ true → IsNumber (take (number_length bs) bs) (drop (number_length bs) bs)
number-is bs h =
    let d = digit_run bs in
    let p = d + fraction (drop d bs) in
    let q = real_size bs p in
    let n = number_size bs q in
    let wh = take d bs in
    let fr = take (fraction (drop d bs)) (drop d bs) in
    let ex = take (exponent (drop p bs)) (drop p bs) in
    let ki = take (kind_suffix (drop q bs)) (drop q bs) in
    let rest = drop n bs in
    let e3 : drop q bs ≡ ki ++ rest = seam q (kind_suffix (drop q bs)) bs in
    let e2 : drop p bs ≡ ex ++ (ki ++ rest) = seam p (exponent (drop p bs)) bs ∙ ap (λ l. ex ++ l) e3 in
    let e1 : drop d bs ≡ fr ++ (ex ++ (ki ++ rest)) = seam d (fraction (drop d bs)) bs ∙ ap (λ l. fr ++ l) e2 in
    let e0 : bs ≡ wh ++ (fr ++ (ex ++ (ki ++ rest))) = sym (take-append-drop d bs) ∙ ap (λ l. wh ++ l) e1 in
    let v : take n bs ++ rest ≡ wh ++ (fr ++ (ex ++ (ki ++ rest))) = take-append-drop n bs ∙ e0 in
    let l0 = length-append (take n bs) rest in
    let l1 = length-append wh (fr ++ (ex ++ (ki ++ rest))) in
    let l2 = length-append fr (ex ++ (ki ++ rest)) in
    let l3 = length-append ex (ki ++ rest) in
    let l4 = length-append ki rest in
    let lv = ap length v in
    record {
      whole = wh;
      fraction = fr;
      exponent = ex;
      kind = ki;
      value = v;
      size = omega (arith, l0, l1, l2, l3, l4, lv);
      digits = digit-all bs;
      some = number-begun bs h;
      point = fraction-spelled (drop d bs);
      no_operator = subst (λ l. (fr ≡ []) ⊎ (begins_dot_operator l ≡ false)) e1 (fraction-free (drop d bs));
      power = exponent-spelled (drop p bs);
      named = kind-spelled (drop q bs);
    }

no-run : (bs : List ℕ) → is_digit (first bs) ≡ false → digit_run bs ≡ 0
no-run [] h = refl
no-run (b ∷ bs) h = rw h refl

-- digits alone
digits-alone : (bs : List ℕ) (t : Bool) → is_digit (first bs) ≡ t → begins_number bs ≡ true → digit_run bs ≡ number_length bs → is_digits (take (number_length bs) bs) ≡ true
digits-alone bs true is h e = ap (λ n. is_digits (take n bs)) (sym e) ∙ digits-some bs is
digits-alone bs false is h e =
    let d = digit_run bs in
    let f = fraction (drop d bs) in
    let none : d ≡ 0 = no-run bs is in
    let n : number_length bs ≡ (d + f + exponent (drop (d + f) bs)) + kind_suffix (drop (real_size bs (d + f)) bs) = refl in
    let point : f ≡ 0 = omega (arith, none, n, e) in
    let begun : is_begun (take 0 bs) (take 0 (drop d bs)) ≡ true =
    ap (λ m. is_begun (take m bs) (take 0 (drop d bs))) (sym none) ∙ (ap (λ m. is_begun (take d bs) (take m (drop d bs))) (sym point) ∙ number-begun bs h) in
    absurd (true≢false (sym begun))

number-token : (bs : List ℕ) (t : Bool) → nat_eq (digit_run bs) (number_length bs) ≡ t → begins_number bs ≡ true →
    HasToken (spelled (number_length bs) (if t then shape.Digits else shape.Foreign)) bs
number-token bs true e h = record { token = λ n. digits-alone bs (is_digit (first bs)) refl h (same_number (digit_run bs) (number_length bs) e) }
number-token bs false e h = record { token = λ n. inl (number-is bs h) }

-- ---- quoted text

closing-if : (t : Bool) (q b : ℕ) (bs : List ℕ) → nat_eq q b ≡ t →
    (before_quote q bs < length bs → take (before_quote q bs + 1) bs ≡ take (before_quote q bs) bs ++ q ∷ []) →
    (if t then 0 else suc (before_quote q bs)) < suc (length bs) →
    take ((if t then 0 else suc (before_quote q bs)) + 1) (b ∷ bs) ≡ take (if t then 0 else suc (before_quote q bs)) (b ∷ bs) ++ q ∷ []
closing-if true q b bs is more h = ap (λ x. x ∷ []) (sym (same_number q b is))
closing-if false q b bs is more h =
    let n = before_quote q bs in
    let e : suc n + 1 ≡ suc (n + 1) = omega arith in
    ap (λ m. take m (b ∷ bs)) e ∙ ap (λ l. b ∷ l) (more (omega (arith, h)))

closing : (q : ℕ) (bs : List ℕ) → before_quote q bs < length bs → take (before_quote q bs + 1) bs ≡ take (before_quote q bs) bs ++ q ∷ []
closing q [] h = absurd (omega (arith, h))
closing q (b ∷ bs) h = closing-if (nat_eq q b) q b bs refl (closing q bs) h

free-if : (t : Bool) (q b : ℕ) (bs : List ℕ) → nat_eq q b ≡ t → list_all (λ c. not (nat_eq q c)) (take (before_quote q bs) bs) ≡ true →
    list_all (λ c. not (nat_eq q c)) (take (if t then 0 else suc (before_quote q bs)) (b ∷ bs)) ≡ true
free-if true q b bs is more = refl
free-if false q b bs is more = and_both (not (nat_eq q b)) (list_all (λ c. not (nat_eq q c)) (take (before_quote q bs) bs)) (ap not is) more

free-of : (q : ℕ) (bs : List ℕ) → list_all (λ c. not (nat_eq q c)) (take (before_quote q bs) bs) ≡ true
free-of q [] = refl
free-of q (b ∷ bs) = free-if (nat_eq q b) q b bs refl (free-of q bs)

quoted-is : (q : ℕ) (rest : List ℕ) → before_quote q rest < length rest → IsQuoted q (take (before_quote q rest + 2) (q ∷ rest))
quoted-is q rest h =
    let n = before_quote q rest in
    let e : n + 2 ≡ suc (n + 1) = omega arith in
    record {
      inner = take n rest;
      value = ap (λ m. take m (q ∷ rest)) e ∙ ap (λ l. q ∷ l) (closing q rest h);
      free = free-of q rest;
    }

quoted-token : (q : ℕ) (rest : List ℕ) (t : Bool) → nat_lt (before_quote q rest) (length rest) ≡ t → (IsQuoted q (take (before_quote q rest + 2) (q ∷ rest)) → Spells shape.Foreign (take (before_quote q rest + 2) (q ∷ rest)) (drop (before_quote q rest + 2) (q ∷ rest))) →
    HasToken (if t then spelled (before_quote q rest + 2) shape.Foreign else spelled 1 shape.Broken) (q ∷ rest)
quoted-token q rest true is f = let l : before_quote q rest < length rest = grind arith in record { token = λ n. f (quoted-is q rest l) }
quoted-token q rest false is f = broken (q ∷ rest) 1

quote-token : (q : ℕ) (rest : List ℕ) (a b : Bool) → nat_eq q 34 ≡ a → nat_eq q 39 ≡ b → (a || b) ≡ true → HasToken (quoted q rest) (q ∷ rest)
quote-token q rest true b is other h =
    subst (λ x. HasToken (quoted x rest) (x ∷ rest)) (sym (same_number q 34 is)) (quoted-token 34 rest (nat_lt (before_quote 34 rest) (length rest)) refl (λ k. inr (inl k)))
quote-token q rest false true is other h =
    subst (λ x. HasToken (quoted x rest) (x ∷ rest)) (sym (same_number q 39 other)) (quoted-token 39 rest (nat_lt (before_quote 39 rest) (length rest)) refl (λ k. inr (inr (inl k))))
quote-token q rest false false is other h = absurd (true≢false (sym h))

quote-front : (bs : List ℕ) → is_quote (first bs) ≡ true → HasToken (quoted (first bs) (drop 1 bs)) bs
quote-front [] h = absurd (true≢false (sym h))
quote-front (q ∷ rest) h = quote-token q rest (nat_eq q 34) (nat_eq q 39) refl refl h

-- ---- the tokens of one spelling

abbrev pub is_fixed : Shape → Bool
is_fixed shape.Word = false
is_fixed shape.Digits = false
is_fixed shape.Broken = false
is_fixed _ = true

fixed-spells : (s : Shape) (bytes rest : List ℕ) → is_fixed s ≡ true → IsOneOf all_fixed s bytes → Spells s bytes rest
fixed-spells shape.Word bytes rest h k = absurd (true≢false (sym h))
fixed-spells shape.Digits bytes rest h k = absurd (true≢false (sym h))
fixed-spells shape.Broken bytes rest h k = absurd (true≢false (sym h))
fixed-spells shape.Foreign bytes rest h k = inr (inr (inr k))
fixed-spells (shape.Sign s) bytes rest h k = k
fixed-spells shape.Directive bytes rest h k = k
fixed-spells shape.Separator bytes rest h k = k
fixed-spells shape.Blank bytes rest h k = k

abbrev IsPart : List (List ℕ × Shape) → Type 0
IsPart table = (s : Shape) (bytes : List ℕ) → IsOneOf table s bytes → IsOneOf all_fixed s bytes

starts-take : (front bs : List ℕ) → starts front bs ≡ true → take (length front) bs ≡ front
starts-take [] bs h = refl
starts-take (x ∷ xs) [] h = absurd (true≢false (sym h))
starts-take (x ∷ xs) (b ∷ bs) h =
    let parts = both (nat_eq x b) (starts xs bs) h in
    ap (λ y. y ∷ take (length xs) bs) (sym (same_number x b parts.0)) ∙ ap (λ l. x ∷ l) (starts-take xs bs parts.1)

fixed-token : (table : List (List ℕ × Shape)) (bs : List ℕ) → list_all (λ f. is_fixed f.1) table ≡ true → IsPart table → HasToken (fixed table bs) bs
fixed-token [] bs h part = broken bs 1
fixed-token (f ∷ fs) bs h part =
    let parts = both (is_fixed f.1) (list_all (λ g. is_fixed g.1) fs) h in
    branch bs (starts f.0 bs) (spelled (length f.0) f.1) (fixed fs bs)
    (λ is. record { token = λ n. fixed-spells f.1 (take (length f.0) bs) (drop (length f.0) bs) parts.0 (part f.1 (take (length f.0) bs) (inl (refl, starts-take f.0 bs is))) })
    (λ is. fixed-token fs bs parts.1 (λ s bytes k. part s bytes (inr k)))

one-left : (xs ys : List (List ℕ × Shape)) (s : Shape) (bytes : List ℕ) → IsOneOf xs s bytes → IsOneOf (xs ++ ys) s bytes
one-left [] ys s bytes h = absurd h
one-left (x ∷ xs) ys s bytes (inl e) = inl e
one-left (x ∷ xs) ys s bytes (inr h) = inr (one-left xs ys s bytes h)

one-right : (xs ys : List (List ℕ × Shape)) (s : Shape) (bytes : List ℕ) → IsOneOf ys s bytes → IsOneOf (xs ++ ys) s bytes
one-right [] ys s bytes h = h
one-right (x ∷ xs) ys s bytes h = inr (one-right xs ys s bytes h)

spell-token : (bs : List ℕ) → HasToken (spell bs) bs
spell-token bs =
    let word = word_of (word_run bs) in
    let number = spelled (number_length bs) (shape_of_number (digit_run bs) (number_length bs)) in
    let quote = quoted (first bs) (drop 1 bs) in
    let dots = fixed (dot_operators ++ truth_values) bs in
    let marks = fixed (pairs ++ singles) bs in
    let dot_or_mark = if nat_eq (first bs) 46 then dots else marks in
    let quote_or_mark = if is_quote (first bs) then quote else dot_or_mark in
    let no_word = if begins_number bs then number else quote_or_mark in
    branch bs (is_letter (first bs)) word no_word (λ h. word-token bs (nat_le (word_run bs) 63) h)
    (λ a. branch bs (begins_number bs) number quote_or_mark (λ h. number-token bs (nat_eq (digit_run bs) (number_length bs)) refl h)
    (λ b. branch bs (is_quote (first bs)) quote dot_or_mark (quote-front bs)
    (λ c. branch bs (nat_eq (first bs) 46) dots marks
    (λ d. fixed-token (dot_operators ++ truth_values) bs refl (λ s bytes k. one-left (dot_operators ++ truth_values) (pairs ++ singles) s bytes k))
    (λ d. fixed-token (pairs ++ singles) bs refl (λ s bytes k. one-right (dot_operators ++ truth_values) (pairs ++ singles) s bytes k)))))

pub taken-is-spelled : (text : List ℕ) → IsSpelled text
taken-is-spelled text = (spell-token text).token
