-- Members of lists.
use Rattle.std.proofs.Common.{◌≢◌, ◌⊎◌, inl, inr, ℕ, zero, suc, ◌+◌, ◌<◌, ◌≤◌, List, [], ◌∷◌, ◌++◌, sym, subst, arith}
use mathlib.Core.Logic.{dite}
use native.Mathlib.Decide.{ℕ_discrete}
use Rattle.phase_ops.specs.Phases.{each_from}
use Rattle.phase_ops.specs.Free.{In}

pub in_left : {A : Type 0} (x : A) (xs ys : List A) → In x xs → In x (xs ++ ys)
in_left x [] ys h = elim h [ ]
in_left x (z ∷ xs) ys (inl e) = inl e
in_left x (z ∷ xs) ys (inr h) = inr (in_left x xs ys h)

pub in_right : {A : Type 0} (x : A) (xs ys : List A) → In x ys → In x (xs ++ ys)
in_right x [] ys h = h
in_right x (z ∷ xs) ys h = inr (in_right x xs ys h)

pub in_either : {A : Type 0} (x : A) (xs ys : List A) → In x (xs ++ ys) → In x xs ⊎ In x ys
in_either x [] ys h = inr h
in_either x (z ∷ xs) ys (inl e) = inl (inl e)
in_either x (z ∷ xs) ys (inr h) = more (in_either x xs ys h)
  where
    more : In x xs ⊎ In x ys → In x (z ∷ xs) ⊎ In x ys
    more (inl h) = inl (inr h)
    more (inr h) = inr h

-- a member of a joined list is one of some part
pub from_each : {A : Type 0} (x : A) (f : ℕ → List A) (from n : ℕ) → In x (each_from f from n) → (s : ℕ) × (from ≤ s) × (s < from + n) × In x (f s)
from_each x f from zero h = elim h [ ]
from_each x f from (suc n) h = pick (from_each x f (suc from) n) (in_either x (f from) (each_from f (suc from) n) h)
  where
    pick : (In x (each_from f (suc from) n) → (s : ℕ) × (suc from ≤ s) × (s < suc from + n) × In x (f s)) → In x (f from) ⊎ In x (each_from f (suc from) n) → (s : ℕ) × (from ≤ s) × (s < from + suc n) × In x (f s)
    pick more (inl h) = (from, omega arith, omega arith, h)
    pick more (inr h) = let r = more h in let a = r.1 in let b = r.2 in (r.0, omega arith, omega arith, r.3)

pub to_each : {A : Type 0} (x : A) (f : ℕ → List A) (from n s : ℕ) → from ≤ s → s < from + n → In x (f s) → In x (each_from f from n)
to_each x f from zero s a b h = absurd (omega arith)
to_each x f from (suc n) s a b h = dite (ℕ_discrete s from)
    (λ e. in_left x (f from) (each_from f (suc from) n) (subst (λ (k : ℕ). In x (f k)) e h))
    (λ e. in_right x (f from) (each_from f (suc from) n) (to_each x f (suc from) n s (let l : suc from ≤ s = le_suc from s a (λ z. e (sym z)) in l) (omega arith) h))
  where
    le_suc : (a b : ℕ) → a ≤ b → a ≢ b → suc a ≤ b
    le_suc a b l n = omega (arith, l, n)
