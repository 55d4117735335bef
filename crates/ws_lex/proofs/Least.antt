-- The least number of a list.
use Rattle.std.proofs.Common.{◌≡◌, ◌≤◌, ◌<◌, ◌⊎◌, ℕ, suc, Bool, true, false, List, [], ◌∷◌, refl, sym, ap, ◌∙◌, arith, Option, Some, None, inl, inr, ⊎_elim, true≢false}
use Rattle.std.specs.Prelude.{nat_le, if◌then◌else◌, All, Contains}
use Rattle.std.proofs.lemmas.List.Elements.{All-cons}
use Rattle.ws_lex.specs.Tokens.{IsLeast}
use Rattle.ws_lex.specs.Steps.{least_from}

abbrev value : Option ℕ → ℕ
value None = 0
value (Some n) = n

abbrev is_none : Option ℕ → Bool
is_none None = true
is_none (Some n) = false

-- k is the least of m and the list
record Least (m : ℕ) (ns : List ℕ) (k : ℕ) : Type 0 where
  low : k ≤ m
  there : (k ≡ m) ⊎ Contains ns k
  least : All (λ n. k ≤ n) ns

here : (n : ℕ) (ns : List ℕ) (k : ℕ) → k ≡ n → Contains (n ∷ ns) k
here n ns k h = (0, omega arith, sym h)

later : (n : ℕ) (ns : List ℕ) (k : ℕ) → Contains ns k → Contains (n ∷ ns) k
later n ns k h = (suc h.0, omega (arith, h.1), h.2)

is_le : (m n : ℕ) → nat_le m n ≡ true → m ≤ n
is_le m n h = grind arith

is_lt : (m n : ℕ) → nat_le m n ≡ false → n < m
is_lt m n h = grind arith

either : (m n w : ℕ) (ns : List ℕ) (k : ℕ) (b : Bool) → w ≡ (if b then m else n) → Least w ns k → nat_le m n ≡ b → Least m (n ∷ ns) k
either m n w ns k true is h low =
    let le = is_le m n low in
    record {
      low = omega (arith, h.low, is);
      there = ⊎_elim (λ e. inl (e ∙ is)) (λ q. inr (later n ns k q)) h.there;
      least = All-cons (λ x. k ≤ x) n ns (omega (arith, h.low, is, le)) h.least;
    }
either m n w ns k false is h low =
    let le = is_lt m n low in
    record {
      low = omega (arith, h.low, is, le);
      there = inr (⊎_elim (λ e. here n ns k (e ∙ is)) (λ q. later n ns k q) h.there);
      least = All-cons (λ x. k ≤ x) n ns (omega (arith, h.low, is)) h.least;
    }

least-some : (m : ℕ) (ns : List ℕ) (k : ℕ) → least_from (Some m) ns ≡ Some k → Least m ns k
least-some m [] k h =
    let e : m ≡ k = ap value h in
    record { low = omega (arith, e); there = inl (sym e); least = λ j d l. absurd (omega (arith, l)) }
least-some m (n ∷ ns) k h = either m n (if nat_le m n then m else n) ns k (nat_le m n) refl (least-some (if nat_le m n then m else n) ns k h) refl

pub least-is : (ns : List ℕ) (k : ℕ) → least_from None ns ≡ Some k → IsLeast k ns
least-is [] k h = absurd (true≢false (ap is_none h))
least-is (n ∷ ns) k h =
    let l = least-some n ns k h in
    record {
      there = ⊎_elim (λ e. here n ns k e) (λ q. later n ns k q) l.there;
      least = All-cons (λ x. k ≤ x) n ns l.low l.least;
    }

some-stays : (m : ℕ) (ns : List ℕ) → is_none (least_from (Some m) ns) ≡ false
some-stays m [] = refl
some-stays m (n ∷ ns) = some-stays (if nat_le m n then m else n) ns

pub least-none : (ns : List ℕ) → least_from None ns ≡ None → ns ≡ []
least-none [] h = refl
least-none (n ∷ ns) h = absurd (true≢false (sym (ap is_none h) ∙ some-stays n ns))
