-- Places of a section, dimension by dimension.
use Rattle.std.proofs.Common.{subst, ℕ, zero, suc, ◌*◌, ◌<◌, List, [], ◌∷◌, All, arith}
use Rattle.std.specs.Prelude.{◌/◌, ◌%◌}
use Rattle.std.proofs.Math.Nat.{div-lt_iff_lt-mul, mod-lt, mul_comm}
use Rattle.std.proofs.lemmas.List.Elements.{All-nil, All-cons, All-head, All-tail}
use Rattle.ws_space.specs.Shapes.{Extents, size}
use Rattle.ws_space.specs.Sections.{here, beyond}
use Rattle.hlfir_meaning.specs.Selections.{array_operand}
use Rattle.value_laws.specs.Standing.{AreIn}

some-extent : (n k p : ℕ) → p < n * k → zero < n
some-extent zero k p h = absurd (none k p h)
  where
    none : (k p : ℕ) → p < zero * k → ⊥
    none k p h = omega (arith, h)
some-extent (suc n) k p h = omega arith

slower : (n k p : ℕ) → p < n * k → p / n < k
slower n k p h = (div-lt_iff_lt-mul (some-extent n k p h)).1 (subst (λ m. p < m) (mul_comm n k) h)

each-slower : (n k : ℕ) (at : List ℕ) → All (λ p. p < n * k) at → All (λ p. p < k) (beyond n at)
each-slower n k [] h = All-nil (λ p. p < k)
each-slower n k (p ∷ at) h = All-cons (λ q. q < k) (p / n) (beyond n at) (slower n k p (All-head (λ q. q < n * k) p at h)) (each-slower n k at (All-tail (λ q. q < n * k) p at h))

each-faster : (n k : ℕ) (at : List ℕ) → All (λ p. p < n * k) at → All (λ p. p < n) (here n at)
each-faster n k [] h = All-nil (λ p. p < n)
each-faster n k (p ∷ at) h = All-cons (λ q. q < n) (p % n) (here n at) (mod-lt p (some-extent n k p (All-head (λ q. q < n * k) p at h))) (each-faster n k at (All-tail (λ q. q < n * k) p at h))

module _ (n : ℕ) (e : Extents) (at : List ℕ) (h : AreIn at (array_operand (n ∷ e))) where
  places : All (λ p. p < n * size e) at
  places = All-head (λ f. All (λ p. p < size f) at) (n ∷ e) [] h

  pub here-in : All (λ p. p < n) (here n at)
  here-in = each-faster n (size e) at places

  slower_in : (f : Extents) → All (λ p. p < size f) (beyond n at) → AreIn (beyond n at) (array_operand f)
  slower_in [] g = All-nil (λ k. All (λ p. p < size k) (beyond n at))
  slower_in (m ∷ ms) g = All-cons (λ k. All (λ p. p < size k) (beyond n at)) (m ∷ ms) [] g (All-nil (λ k. All (λ p. p < size k) (beyond n at)))

  pub beyond-in : AreIn (beyond n at) (array_operand e)
  beyond-in = slower_in e (each-slower n (size e) at places)
