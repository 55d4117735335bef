-- Where no token is taken none is spelled, but for a name of more than 63 bytes.
use Rattle.std.proofs.Common.{◌≡◌, ◌≢◌, ◌<◌, ◌+◌, ℕ, Bool, true, false, List, [], ◌∷◌, ◌++◌, length, drop, refl, sym, ◌∙◌, arith, subst, inl, inr, ◌⊎◌, true≢false}
use Rattle.std.specs.Prelude.{nat_eq, nat_le, nat_lt, not, if◌then◌else◌}
use Rattle.std.specs.List.{list_all}
use Rattle.ws_lex.specs.declared.piece.Shape.{Shape}
use Rattle.ws_lex.specs.declared.piece.Shape.TheVariants as shape
use Rattle.ws_lex.specs.declared.piece.Spelled.{Spelled}
use Rattle.ws_lex.specs.Lines.{starts, is_quote}
use Rattle.ws_lex.specs.Spelling.{is_letter, is_word_byte, begins_number, digit_run, word_run, first, number_length, shape_of_number, before_quote, quoted, word_of, spelled, fixed, dot_operators, truth_values, pairs, singles, spell}
use Rattle.ws_lex.specs.Spells.{is_name, is_digits, IsNumber, IsQuoted, IsOneOf, Spells, IsNothing, all_fixed}
use Rattle.ws_lex.proofs.Longest.{both, number-begins, number-of_digits, before_quote-inner, length-quoted, Each, one-of}
use Rattle.ws_lex.proofs.Taken.{is_fixed}

when-is : (b : Bool) (x y : Spelled) → b ≡ true → (if b then x else y) ≡ x
when-is b x y h = rw h refl

unless-is : (b : Bool) (x y : Spelled) → b ≡ false → (if b then x else y) ≡ y
unless-is b x y h = rw h refl

unbroken : (s : Shape) → is_fixed s ≡ true → s ≢ shape.Broken
unbroken shape.Broken h b = absurd (true≢false (sym h))
unbroken shape.Word h b = absurd (true≢false (sym h))
unbroken shape.Digits h b = absurd (true≢false (sym h))
unbroken (shape.Sign s) h b = cc
unbroken shape.Foreign h b = cc
unbroken shape.Directive h b = cc
unbroken shape.Separator h b = cc
unbroken shape.Blank h b = cc

-- ---- names

is_long : (n : ℕ) → nat_le n 63 ≡ false → 63 < n
is_long n h = grind arith

word-long : (n : ℕ) (t : Bool) → nat_le n 63 ≡ t → (if t then spelled n shape.Word else spelled n shape.Broken).shape ≡ shape.Broken →
    63 < (if t then spelled n shape.Word else spelled n shape.Broken).size
word-long n true is h = absurd (cc)
word-long n false is h = is_long n is

spell-word-is : (bs : List ℕ) → is_letter (first bs) ≡ true → spell bs ≡ word_of (word_run bs)
spell-word-is bs h =
    when-is (is_letter (first bs)) (word_of (word_run bs))
    (if begins_number bs then spelled (number_length bs) (shape_of_number (digit_run bs) (number_length bs)) else
    (if is_quote (first bs) then quoted (first bs) (drop 1 bs) else
    (if nat_eq (first bs) 46 then fixed (dot_operators ++ truth_values) bs else fixed (pairs ++ singles) bs))) h

name-long : (bytes rest : List ℕ) → is_name bytes ≡ true → (spell (bytes ++ rest)).shape ≡ shape.Broken → 63 < (spell (bytes ++ rest)).size
name-long [] rest h broken = absurd (true≢false (sym h))
name-long (b ∷ bs) rest h broken =
    let e = spell-word-is (b ∷ (bs ++ rest)) (both (is_letter b) (list_all is_word_byte bs) h).0 in
    let n = word_run (b ∷ (bs ++ rest)) in
    subst (λ s. 63 < s.size) (sym e) (word-long n (nat_le n 63) refl (subst (λ s. s.shape ≡ shape.Broken) e broken))

-- ---- numbers

number-unbroken : (t : Bool) (n : ℕ) → (spelled n (if t then shape.Digits else shape.Foreign)).shape ≢ shape.Broken
number-unbroken true n b = cc
number-unbroken false n b = cc

spell-number-is : (bs : List ℕ) → is_letter (first bs) ≡ false → begins_number bs ≡ true → spell bs ≡ spelled (number_length bs) (shape_of_number (digit_run bs) (number_length bs))
spell-number-is bs plain h =
    let number = spelled (number_length bs) (shape_of_number (digit_run bs) (number_length bs)) in
    let other = if is_quote (first bs) then quoted (first bs) (drop 1 bs) else
    (if nat_eq (first bs) 46 then fixed (dot_operators ++ truth_values) bs else fixed (pairs ++ singles) bs) in
    unless-is (is_letter (first bs)) (word_of (word_run bs)) (if begins_number bs then number else other) plain ∙
    when-is (begins_number bs) number other h

number-taken : (bytes rest : List ℕ) → IsNumber bytes rest → (spell (bytes ++ rest)).shape ≢ shape.Broken
number-taken bytes rest n broken =
    let later = n.exponent ++ (n.kind ++ rest) in
    let text = n.whole ++ (n.fraction ++ later) in
    let begins = number-begins n.whole n.fraction later n.digits n.some n.point in
    let e = spell-number-is text begins.0 begins.1 in
    number-unbroken (nat_eq (digit_run text) (number_length text)) (number_length text)
    (subst (λ s. s.shape ≡ shape.Broken) e (subst (λ l. (spell l).shape ≡ shape.Broken) n.value broken))

digits-taken : (bytes rest : List ℕ) → is_digits bytes ≡ true → (spell (bytes ++ rest)).shape ≢ shape.Broken
digits-taken [] rest h = absurd (true≢false (sym h))
digits-taken (d ∷ ds) rest h = number-taken (d ∷ ds) rest (number-of_digits d ds rest h)

-- ---- quoted text

closed-by : (t : Bool) (n : ℕ) → t ≡ true → (if t then spelled (n + 2) shape.Foreign else spelled 1 shape.Broken).shape ≢ shape.Broken
closed-by true n h b = cc
closed-by false n h b = absurd (true≢false (sym h))

is_less : (n m : ℕ) → n < m → nat_lt n m ≡ true
is_less n m h = grind arith

quoted-taken : (q : ℕ) (inner rest : List ℕ) → list_all (λ b. not (nat_eq q b)) inner ≡ true → (quoted q ((inner ++ q ∷ []) ++ rest)).shape ≢ shape.Broken
quoted-taken q inner rest h =
    let text = (inner ++ q ∷ []) ++ rest in
    let e = before_quote-inner q inner rest h in
    closed-by (nat_lt (before_quote q text) (length text)) (before_quote q text)
    (is_less (before_quote q text) (length text) (omega (arith, e, length-quoted q inner rest)))

double-taken : (bytes rest : List ℕ) → IsQuoted 34 bytes → (spell (bytes ++ rest)).shape ≢ shape.Broken
double-taken bytes rest h = subst (λ l. (spell (l ++ rest)).shape ≢ shape.Broken) (sym h.value) (quoted-taken 34 h.inner rest h.free)

single-taken : (bytes rest : List ℕ) → IsQuoted 39 bytes → (spell (bytes ++ rest)).shape ≢ shape.Broken
single-taken bytes rest h = subst (λ l. (spell (l ++ rest)).shape ≢ shape.Broken) (sym h.value) (quoted-taken 39 h.inner rest h.free)

-- ---- the tokens of one spelling

abbrev IsTaken : List ℕ → Type 0
IsTaken bytes = (rest : List ℕ) → (spell (bytes ++ rest)).shape ≢ shape.Broken

longer-taken : Each IsTaken ((dot_operators ++ truth_values) ++ pairs)
longer-taken = (
  (λ rest. unbroken _ refl),
  (
    (λ rest. unbroken _ refl),
    (
      (λ rest. unbroken _ refl),
      (
        (λ rest. unbroken _ refl),
        (
          (λ rest. unbroken _ refl),
          (
            (λ rest. unbroken _ refl),
            (
              (λ rest. unbroken _ refl),
              (
                (λ rest. unbroken _ refl),
                (
                  (λ rest. unbroken _ refl),
                  (
                    (λ rest. unbroken _ refl),
                    (
                      (λ rest. unbroken _ refl),
                      (
                        (λ rest. unbroken _ refl),
                        (
                          (λ rest. unbroken _ refl),
                          (
                            (λ rest. unbroken _ refl),
                            (
                              (λ rest. unbroken _ refl),
                              (
                                (λ rest. unbroken _ refl),
                                (
                                  (λ rest. unbroken _ refl),
                                  (
                                    (λ rest. unbroken _ refl),
                                    (
                                      (λ rest. unbroken _ refl),
                                      (
                                        (λ rest. unbroken _ refl),
                                        (
                                          (λ rest. unbroken _ refl),
                                          (
                                            (λ rest. unbroken _ refl),
                                            (
                                              (λ rest. unbroken _ refl),
                                              tt,
                                            ),
                                          ),
                                        ),
                                      ),
                                    ),
                                  ),
                                ),
                              ),
                            ),
                          ),
                        ),
                      ),
                    ),
                  ),
                ),
              ),
            ),
          ),
        ),
      ),
    ),
  ),
)

pick : (t : Bool) (n : ℕ) (s : Shape) (more : Spelled) → s ≢ shape.Broken → more.shape ≢ shape.Broken → (if t then spelled n s else more).shape ≢ shape.Broken
pick true n s more h k = h
pick false n s more h k = k

pick-first : (t : Bool) (n : ℕ) (s : Shape) (more : Spelled) → t ≡ true → s ≢ shape.Broken → (if t then spelled n s else more).shape ≢ shape.Broken
pick-first true n s more is h = h
pick-first false n s more is h = absurd (true≢false (sym is))

-- an entry of the table begins the text
found : (table : List (List ℕ × Shape)) (s : Shape) (bytes bs : List ℕ) → list_all (λ f. is_fixed f.1) table ≡ true → IsOneOf table s bytes → starts bytes bs ≡ true →
    (fixed table bs).shape ≢ shape.Broken
found [] s bytes bs all h is = absurd h
found (f ∷ fs) s bytes bs all (inl e) is =
    let parts = both (is_fixed f.1) (list_all (λ g. is_fixed g.1) fs) all in
    pick-first (starts f.0 bs) (length f.0) f.1 (fixed fs bs) (subst (λ l. starts l bs ≡ true) e.1 is) (unbroken f.1 parts.0)
found (f ∷ fs) s bytes bs all (inr h) is =
    let parts = both (is_fixed f.1) (list_all (λ g. is_fixed g.1) fs) all in
    pick (starts f.0 bs) (length f.0) f.1 (fixed fs bs) (unbroken f.1 parts.0) (found fs s bytes bs parts.1 h is)

abbrev IsAlone : List ℕ → Type 0
IsAlone bytes = (rest : List ℕ) → (spell (bytes ++ rest) ≡ fixed (pairs ++ singles) (bytes ++ rest)) × (starts bytes (bytes ++ rest) ≡ true)

singles-alone : Each IsAlone singles
singles-alone = (
  (λ rest. (refl, refl)),
  (
    (λ rest. (refl, refl)),
    (
      (λ rest. (refl, refl)),
      (
        (λ rest. (refl, refl)),
        (
          (λ rest. (refl, refl)),
          (
            (λ rest. (refl, refl)),
            (
              (λ rest. (refl, refl)),
              (
                (λ rest. (refl, refl)),
                (
                  (λ rest. (refl, refl)),
                  (
                    (λ rest. (refl, refl)),
                    (
                      (λ rest. (refl, refl)),
                      (
                        (λ rest. (refl, refl)),
                        (
                          (λ rest. (refl, refl)),
                          (
                            (λ rest. (refl, refl)),
                            (
                              (λ rest. (refl, refl)),
                              (
                                (λ rest. (refl, refl)),
                                (
                                  (λ rest. (refl, refl)),
                                  tt,
                                ),
                              ),
                            ),
                          ),
                        ),
                      ),
                    ),
                  ),
                ),
              ),
            ),
          ),
        ),
      ),
    ),
  ),
)

one-right : (xs ys : List (List ℕ × Shape)) (s : Shape) (bytes : List ℕ) → IsOneOf ys s bytes → IsOneOf (xs ++ ys) s bytes
one-right [] ys s bytes h = h
one-right (x ∷ xs) ys s bytes h = inr (one-right xs ys s bytes h)

later : (x : List ℕ × Shape) (xs ys : List (List ℕ × Shape)) (s : Shape) (bytes : List ℕ) → IsOneOf xs s bytes ⊎ IsOneOf ys s bytes → IsOneOf (x ∷ xs) s bytes ⊎ IsOneOf ys s bytes
later x xs ys s bytes (inl h) = inl (inr h)
later x xs ys s bytes (inr h) = inr h

one-split : (xs ys : List (List ℕ × Shape)) (s : Shape) (bytes : List ℕ) → IsOneOf (xs ++ ys) s bytes → IsOneOf xs s bytes ⊎ IsOneOf ys s bytes
one-split [] ys s bytes h = inr h
one-split (x ∷ xs) ys s bytes (inl e) = inl (inl e)
one-split (x ∷ xs) ys s bytes (inr h) = later x xs ys s bytes (one-split xs ys s bytes h)

single-fixed : (s : Shape) (bytes rest : List ℕ) → IsOneOf singles s bytes → (spell (bytes ++ rest)).shape ≢ shape.Broken
single-fixed s bytes rest h =
    let alone = one-of IsAlone singles s bytes singles-alone h rest in
    subst (λ t. t.shape ≢ shape.Broken) (sym alone.0)
    (found (pairs ++ singles) s bytes (bytes ++ rest) refl (one-right pairs singles s bytes h) alone.1)

fixed-by : (s : Shape) (bytes rest : List ℕ) → IsOneOf ((dot_operators ++ truth_values) ++ pairs) s bytes ⊎ IsOneOf singles s bytes → (spell (bytes ++ rest)).shape ≢ shape.Broken
fixed-by s bytes rest (inl h) = one-of IsTaken ((dot_operators ++ truth_values) ++ pairs) s bytes longer-taken h rest
fixed-by s bytes rest (inr h) = single-fixed s bytes rest h

fixed-taken : (s : Shape) (bytes rest : List ℕ) → IsOneOf all_fixed s bytes → (spell (bytes ++ rest)).shape ≢ shape.Broken
fixed-taken s bytes rest h = fixed-by s bytes rest (one-split ((dot_operators ++ truth_values) ++ pairs) singles s bytes h)

foreign-taken : (bytes rest : List ℕ) → Spells shape.Foreign bytes rest → (spell (bytes ++ rest)).shape ≢ shape.Broken
foreign-taken bytes rest (inl n) = number-taken bytes rest n
foreign-taken bytes rest (inr (inl q)) = double-taken bytes rest q
foreign-taken bytes rest (inr (inr (inl q))) = single-taken bytes rest q
foreign-taken bytes rest (inr (inr (inr f))) = fixed-taken shape.Foreign bytes rest f

only-names : (s : Shape) (bytes rest : List ℕ) → Spells s bytes rest → (spell (bytes ++ rest)).shape ≡ shape.Broken → (s ≡ shape.Word) × (63 < (spell (bytes ++ rest)).size)
only-names shape.Word bytes rest h b = (refl, name-long bytes rest h b)
only-names shape.Digits bytes rest h b = absurd (digits-taken bytes rest h b)
only-names (shape.Sign s) bytes rest h b = absurd (fixed-taken (shape.Sign s) bytes rest h b)
only-names shape.Foreign bytes rest h b = absurd (foreign-taken bytes rest h b)
only-names shape.Directive bytes rest h b = absurd (fixed-taken shape.Directive bytes rest h b)
only-names shape.Separator bytes rest h b = absurd (fixed-taken shape.Separator bytes rest h b)
only-names shape.Blank bytes rest h b = absurd (fixed-taken shape.Blank bytes rest h b)
only-names shape.Broken bytes rest h b = absurd h

pub nothing-spelled : (text : List ℕ) → IsNothing text
nothing-spelled text broken s bytes rest e h =
    subst (λ l. (s ≡ shape.Word) × (63 < (spell l).size)) e (only-names s bytes rest h (subst (λ l. (spell l).shape ≡ shape.Broken) (sym e) broken))
