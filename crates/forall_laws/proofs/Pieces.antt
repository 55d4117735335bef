-- The ops of one index in the region of all: those up to the one that gives the last of its three values.
use Rattle.std.proofs.Common.{◌≡◌, refl, sym, ap, ◌∙◌, subst, ℕ, ◌+◌, ◌<◌, ◌≤◌, Bool, true, false, nat_le, if◌then◌else◌, List, [], ◌∷◌, ◌++◌, arith}
use Rattle.hlfir_ops.specs.declared.op.Op.{Op}
use Rattle.hlfir_ops.specs.Numbers.{op_numbers, numbers_of}
use Rattle.hlfir_meaning.specs.Combinations.{up_to, after, greater}
use Rattle.forall_laws.proofs.LastOps.{IsLast}

-- each op begins at this number or before it
abbrev pub StartsUpTo : ℕ → ℕ → List Op → Type 0
StartsUpTo last n [] = Unit {0}
StartsUpTo last n (op ∷ ops) = (n ≤ last) × StartsUpTo last (op_numbers op + n) ops

pub starts-below : (last n : ℕ) (ops : List Op) → n + numbers_of ops ≤ last → StartsUpTo last n ops
starts-below last n [] h = tt
starts-below last n (op ∷ ops) h = (omega (arith, h), starts-below last (op_numbers op + n) ops (omega (arith, h)))

pub starts-append : (last n : ℕ) (xs ys : List Op) → StartsUpTo last n xs → StartsUpTo last (n + numbers_of xs) ys → StartsUpTo last n (xs ++ ys)
starts-append last n [] ys h g = subst (λ k. StartsUpTo last k ys) (let e : n + 0 ≡ n = omega arith in e) g
starts-append last n (op ∷ xs) ys h g =
    (h.0, starts-append last (op_numbers op + n) xs ys h.1 (subst (λ k. StartsUpTo last k ys) (let e : n + (op_numbers op + numbers_of xs) ≡ (op_numbers op + n) + numbers_of xs = omega arith in e) g))

pub starts-last : (last n : ℕ) (ops : List Op) (number : ℕ) → IsLast n ops number → number ≤ last → StartsUpTo last n ops
starts-last last n ops number h l =
    let e = h.place in
    subst (StartsUpTo last n) (sym h.all) (starts-append last n h.before (h.op ∷ []) (starts-below last n h.before (omega (arith, e, l))) (omega (arith, e, l), tt))

le_true : (m n : ℕ) → m ≤ n → nat_le m n ≡ true
le_true m n h = grind (arith, h)

le_false : (m n : ℕ) → n < m → nat_le m n ≡ false
le_false m n h = grind (arith, h)

none_up_to : (last n : ℕ) (ys : List Op) → last < n → up_to last n ys ≡ []
none_up_to last n [] h = refl
none_up_to last n (y ∷ ys) h = ap (λ b. if b then y ∷ up_to last (op_numbers y + n) ys else []) (le_false n last h)

all_after : (last n : ℕ) (ys : List Op) → last < n → after last n ys ≡ ys
all_after last n [] h = refl
all_after last n (y ∷ ys) h = ap (λ b. if b then after last (op_numbers y + n) ys else y ∷ ys) (le_false n last h)

pub up_to-piece : (last n : ℕ) (xs ys : List Op) → StartsUpTo last n xs → last < n + numbers_of xs → up_to last n (xs ++ ys) ≡ xs
up_to-piece last n [] ys s h = none_up_to last n ys (omega (arith, h))
up_to-piece last n (x ∷ xs) ys s h = ap (λ b. if b then x ∷ up_to last (op_numbers x + n) (xs ++ ys) else []) (le_true n last s.0) ∙ ap (λ l. x ∷ l) (up_to-piece last (op_numbers x + n) xs ys s.1 (omega (arith, h)))

pub after-piece : (last n : ℕ) (xs ys : List Op) → StartsUpTo last n xs → last < n + numbers_of xs → after last n (xs ++ ys) ≡ ys
after-piece last n [] ys s h = all_after last n ys (omega (arith, h))
after-piece last n (x ∷ xs) ys s h = ap (λ b. if b then after last (op_numbers x + n) (xs ++ ys) else x ∷ (xs ++ ys)) (le_true n last s.0) ∙ after-piece last (op_numbers x + n) xs ys s.1 (omega (arith, h))

greater_by : (m n : ℕ) (b : Bool) → nat_le m n ≡ b → n ≤ (if b then n else m)
greater_by m n true h = omega arith
greater_by m n false h = let l : n ≤ m = grind (arith, h) in l

pub greater-right : (m n : ℕ) → n ≤ greater m n
greater-right m n = greater_by m n (nat_le m n) refl

below_by : (m n high : ℕ) (b : Bool) → m < high → n < high → (if b then n else m) < high
below_by m n high true h g = g
below_by m n high false h g = h

pub greater-below : (m n high : ℕ) → m < high → n < high → greater m n < high
greater-below m n high h g = below_by m n high (nat_le m n) h g
