-- Lists of bytes: the first line, the blanks at the end.
use Rattle.std.proofs.Common.{◌≡◌, ◌≢◌, ◌≤◌, ◌<◌, ◌+◌, ◌-◌, ℕ, zero, suc, Bool, true, false, ◌&&◌, List, [], ◌∷◌, ◌++◌, length, take, drop, get_or, refl, sym, ap, ◌∙◌, arith}
use Rattle.std.specs.Prelude.{nat_eq, if◌then◌else◌}
use Rattle.std.proofs.lemmas.List.{take_more}
use Rattle.std.proofs.lemmas.Slice.{between_to_end}
use Rattle.ws_lex.specs.Lines.{lines, without_return, in_front, trim, is_blank, all_blank}

same : (a b : ℕ) → a ≡ b → nat_eq a b ≡ true
same a b h = grind arith

other : (a b : ℕ) → a ≢ b → nat_eq a b ≡ false
other a b h = grind arith

at_return : (b : Bool) (x : ℕ) (ls : List (List ℕ)) → (if b && true then [] ∷ ls else in_front x ([] ∷ ls)) ≡ (if b then [] else x ∷ []) ∷ ls
at_return true x ls = refl
at_return false x ls = refl

no_return : (b : Bool) (x : ℕ) (ls ms : List (List ℕ)) → (if b && false then ls else ms) ≡ ms
no_return true x ls ms = refl
no_return false x ls ms = refl

-- the first line goes up to the first LF
pub line-cut : (xs : List ℕ) (i : ℕ) → i < length xs → get_or xs i 0 ≡ 10 → ((k : ℕ) → k < i → get_or xs k 0 ≢ 10) →
    lines xs ≡ without_return (take i xs) ∷ lines (drop (i + 1) xs)
line-cut [] i h is before = absurd (omega (arith, h))
line-cut (x ∷ xs) zero h is before = let e : nat_eq x 10 ≡ true = same x 10 is in rw e refl
line-cut (x ∷ []) (suc i) h is before = absurd (omega (arith, h))
line-cut (x ∷ y ∷ ys) (suc zero) h is before =
    let e : nat_eq x 10 ≡ false = other x 10 (before 0 (omega arith)) in
    let f : nat_eq y 10 ≡ true = same y 10 is in
    rw e (rw f (at_return (nat_eq x 13) x (lines ys)))
line-cut (x ∷ y ∷ ys) (suc (suc j)) h is before =
    let e : nat_eq x 10 ≡ false = other x 10 (before 0 (omega arith)) in
    let f : nat_eq y 10 ≡ false = other y 10 (before 1 (omega arith)) in
    let n : suc (suc j) + 1 ≡ suc (suc j + 1) = omega arith in
    let ih = line-cut (y ∷ ys) (suc j) (omega (arith, h)) is (λ k l. before (suc k) (omega (arith, l))) in
    rw n (rw e (ap (λ b. if nat_eq x 13 && b then lines (y ∷ ys) else in_front x (lines (y ∷ ys))) f ∙ no_return (nat_eq x 13) x _ _ ∙ ap (in_front x) ih))

pub line-last : (xs : List ℕ) → 0 < length xs → ((k : ℕ) → k < length xs → get_or xs k 0 ≢ 10) → lines xs ≡ xs ∷ []
line-last [] h before = absurd (omega (arith, h))
line-last (x ∷ []) h before =
    let e : nat_eq x 10 ≡ false = other x 10 (before 0 (omega arith)) in
    rw e (no_return (nat_eq x 13) x _ _)
line-last (x ∷ y ∷ ys) h before =
    let e : nat_eq x 10 ≡ false = other x 10 (before 0 (omega arith)) in
    let f : nat_eq y 10 ≡ false = other y 10 (before 1 (omega arith)) in
    let ih = line-last (y ∷ ys) (omega arith) (λ k l. before (suc k) (omega (arith, l))) in
    rw e (ap (λ b. if nat_eq x 13 && b then lines (y ∷ ys) else in_front x (lines (y ∷ ys))) f ∙ no_return (nat_eq x 13) x _ _ ∙ ap (in_front x) ih)

pub return-yes : (xs : List ℕ) (b : ℕ) → b ≡ 13 → without_return (xs ++ b ∷ []) ≡ xs
return-yes [] b h = let e = same b 13 h in rw e refl
return-yes (x ∷ []) b h = let e = same b 13 h in rw e refl
return-yes (x ∷ y ∷ xs) b h = ap (λ l. x ∷ l) (return-yes (y ∷ xs) b h)

pub return-no : (xs : List ℕ) (b : ℕ) → b ≢ 13 → without_return (xs ++ b ∷ []) ≡ xs ++ b ∷ []
return-no [] b h = let e = other b 13 h in rw e refl
return-no (x ∷ []) b h = let e = other b 13 h in rw e refl
return-no (x ∷ y ∷ xs) b h = ap (λ l. x ∷ l) (return-no (y ∷ xs) b h)

all_blank-blank : (xs : List ℕ) → all_blank (xs ++ 32 ∷ []) ≡ all_blank xs
all_blank-blank [] = refl
all_blank-blank (x ∷ xs) = ap (λ b. is_blank x && b) (all_blank-blank xs)

and_false : (b : Bool) → b && false ≡ false
and_false true = refl
and_false false = refl

all_blank-other : (xs : List ℕ) (b : ℕ) → b ≢ 32 → all_blank (xs ++ b ∷ []) ≡ false
all_blank-other [] b h = let e = other b 32 h in rw e refl
all_blank-other (x ∷ xs) b h = ap (λ c. is_blank x && c) (all_blank-other xs b h) ∙ and_false (is_blank x)

pub trim-blank : (xs : List ℕ) → trim (xs ++ 32 ∷ []) ≡ trim xs
trim-blank [] = refl
trim-blank (x ∷ xs) = ap (λ b. if is_blank x && b then [] else x ∷ trim (xs ++ 32 ∷ [])) (all_blank-blank xs) ∙ ap (λ l. if is_blank x && all_blank xs then [] else x ∷ l) (trim-blank xs)

pub trim-other : (xs : List ℕ) (b : ℕ) → b ≢ 32 → trim (xs ++ b ∷ []) ≡ xs ++ b ∷ []
trim-other [] b h = let e = other b 32 h in rw e refl
trim-other (x ∷ xs) b h = ap (λ c. if is_blank x && c then [] else x ∷ trim (xs ++ b ∷ [])) (all_blank-other xs b h) ∙ (ap (λ c. if c then [] else x ∷ trim (xs ++ b ∷ [])) (and_false (is_blank x)) ∙ ap (λ l. x ∷ l) (trim-other xs b h))

last-of : (xs : List ℕ) (s : ℕ) → 0 < s → s ≤ length xs → take s xs ≡ take (s - 1) xs ++ get_or xs (s - 1) 0 ∷ []
last-of xs s some within = let e : s ≡ (s - 1) + 1 = omega arith in ap (λ n. take n xs) e ∙ take_more xs (s - 1) 0 (omega arith)

pub trim-less : (xs : List ℕ) (s : ℕ) → 0 < s → s ≤ length xs → get_or xs (s - 1) 0 ≡ 32 → trim (take s xs) ≡ trim xs → trim (take (s - 1) xs) ≡ trim xs
trim-less xs s some within is same =
    sym (trim-blank (take (s - 1) xs)) ∙ (ap (λ b. trim (take (s - 1) xs ++ b ∷ [])) (sym is) ∙ (ap trim (sym (last-of xs s some within)) ∙ same))

pub trim-done : (xs : List ℕ) (s : ℕ) → 0 < s → s ≤ length xs → get_or xs (s - 1) 0 ≢ 32 → trim (take s xs) ≡ trim xs → take s xs ≡ trim xs
trim-done xs s some within is same =
    last-of xs s some within ∙ (sym (trim-other (take (s - 1) xs) (get_or xs (s - 1) 0) is) ∙ (ap trim (sym (last-of xs s some within)) ∙ same))

pub trim-none : (xs : List ℕ) (s : ℕ) → s ≤ 0 → trim (take s xs) ≡ trim xs → take s xs ≡ trim xs
trim-none xs zero none same = same
trim-none xs (suc s) none same = absurd (omega (arith, none))

pub line-first : (xs ls : List ℕ) (i : ℕ) → ls ≡ without_return (take i xs) → i < length xs → get_or xs i 0 ≡ 10 → ((k : ℕ) → k < i → get_or xs k 0 ≢ 10) →
    lines xs ≡ ls ∷ lines (take (length xs - (i + 1)) (drop (i + 1) xs))
line-first xs ls i line h is before =
    line-cut xs i h is before ∙ (ap (λ l. l ∷ lines (drop (i + 1) xs)) (sym line) ∙ ap (λ r. ls ∷ lines r) (sym (between_to_end xs (i + 1) (length xs) (omega arith))))

pub line-only : (xs : List ℕ) (i : ℕ) → 0 < length xs → length xs ≤ i → ((k : ℕ) → k < i → get_or xs k 0 ≢ 10) →
    lines xs ≡ xs ∷ lines (take (length xs - length xs) (drop (length xs) xs))
line-only xs i some all before =
    let none : length xs - length xs ≡ 0 = omega arith in
    rw none (line-last xs some (λ k h. before k (omega (arith, h))))
