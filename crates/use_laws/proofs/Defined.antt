-- Numbers that are defined at a place.
use Rattle.std.proofs.Common.{◌≡◌, refl, inl, inr, ◌⊎◌, ℕ, true, List, [], ◌∷◌, ◌++◌, map}
use Rattle.std.specs.Prelude.{◌==◌}
use Rattle.std.proofs.lemmas.Bool.{eq-eqb, or_left, or_right, and_from}
use Rattle.hlfir_ops.specs.declared.op.ValueId.{ValueId}
use Rattle.hlfir_ops.specs.Rules.{is_in, are_defined}

abbrev pub In : List ℕ → ℕ → Type 0
In [] x = ⊥
In (y ∷ ys) x = (y ≡ x) ⊎ In ys x

pub in-first : (xs ys : List ℕ) (x : ℕ) → In xs x → In (xs ++ ys) x
in-first [] ys x h = absurd h
in-first (y ∷ xs) ys x (inl e) = inl e
in-first (y ∷ xs) ys x (inr h) = inr (in-first xs ys x h)

pub in-after : (xs ys : List ℕ) (x : ℕ) → In ys x → In (xs ++ ys) x
in-after [] ys x h = h
in-after (y ∷ xs) ys x h = inr (in-after xs ys x h)

pub in-is_in : (xs : List ℕ) (x : ℕ) → In xs x → is_in xs x ≡ true
in-is_in [] x h = absurd h
in-is_in (y ∷ xs) x (inl e) = or_left (y == x) (is_in xs x) (eq-eqb y x e)
in-is_in (y ∷ xs) x (inr h) = or_right (y == x) (is_in xs x) (in-is_in xs x h)

-- each of these is one of those
abbrev pub AllIn : List ℕ → List ℕ → Type 0
AllIn D [] = Unit {0}
AllIn D (x ∷ xs) = In D x × AllIn D xs

abbrev pub numbers : List ValueId → List ℕ
numbers = map (λ v. v.number)

pub in-are_defined : (D : List ℕ) (vs : List ValueId) → AllIn D (numbers vs) → are_defined D vs ≡ true
unfolding are_defined
in-are_defined D [] h = refl
in-are_defined D (v ∷ vs) h = and_from (is_in D v.number) (are_defined D vs) (in-is_in D v.number h.0) (in-are_defined D vs h.1)

pub all-both : (D xs ys : List ℕ) → AllIn D xs → AllIn D ys → AllIn D (xs ++ ys)
all-both D [] ys a b = b
all-both D (x ∷ xs) ys a b = (a.0, all-both D xs ys a.1 b)

-- what is defined at one place is defined at the other
pub record Grows (D E : List ℕ) : Type 0 where
  pub kept : (x : ℕ) → In D x → In E x

pub grows-then : (D E F : List ℕ) → Grows D E → Grows E F → Grows D F
grows-then D E F g h = record { kept = λ x i. h.kept x (g.kept x i) }

pub grows-more : (D more : List ℕ) → Grows D (D ++ more)
grows-more D more = record { kept = λ x h. in-first D more x h }

pub all-grown : (D E xs : List ℕ) → Grows D E → AllIn D xs → AllIn E xs
all-grown D E [] g h = tt
all-grown D E (x ∷ xs) g h = (g.kept x h.0, all-grown D E xs g h.1)
