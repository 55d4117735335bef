-- Numbers that two runs have in common.
use Rattle.std.proofs.Common.{◌≡◌, refl, sym, ◌∙◌, subst, ℕ, suc, ◌+◌, ◌*◌, ◌/◌, ◌<◌, ◌≤◌, pos, ◌-ℤ◌, ◌↔◌, IsTrue, Bool, false, arith}
use Rattle.std.specs.Prelude.{nat_lt}
use Rattle.std.specs.Int.{◌∣◌}
use Rattle.std.proofs.Math.Nat.{dvd-mul_left, div-mul_cancel, div-lt_iff_lt-mul, mul-le-mul_right}
use Rattle.std.proofs.lemmas.Bool.{false≢true, ltb-true, lt-ltb}
use Rattle.std.proofs.lemmas.Int.{ints}
use Rattle.alias_test.specs.declared.run.Run.{Run}
use Rattle.alias_test.specs.Runs.{Reaches, IsLeastReach, stands_at, Meet}

-- The second run begins so far after the first.
abbrev pub IsAfter : Run → Run → ℕ → Type 0
IsAfter p q d = pos d ≡ q.first -ℤ p.first

places : (p q : Run) (d k j : ℕ) → IsAfter p q d → stands_at p k ≡ stands_at q j → k * p.step ≡ d + j * q.step
places p q d k j after same = omega (arith, ints)

same_number : (p q : Run) (d k j : ℕ) → IsAfter p q d → k * p.step ≡ d + j * q.step → stands_at q j ≡ stands_at p k
same_number p q d k j after same = omega (arith, ints)

-- the places of a common number
reached : (p q : Run) (d : ℕ) (m : Meet p q) → IsAfter p q d → m.1.0 * p.step ≡ d + m.2.0 * q.step
reached p q d m after = places p q d m.1.0 m.2.0 after (sym m.1.2 ∙ m.2.2)

reaches : (p q : Run) (d : ℕ) (m : Meet p q) → IsAfter p q d → Reaches p.step q.step d m.2.0
reaches p q d m after = let P : ℕ → Type 0 = λ x. p.step ∣ x in subst P (reached p q d m after) (dvd-mul_left p.step m.1.0)

pub meets_none : (p q : Run) (d : ℕ) → IsAfter p q d → ((j : ℕ) → Reaches p.step q.step d j → ⊥) → IsTrue false ↔ Meet p q
meets_none p q d after none = (λ e. absurd (false≢true e), λ m. absurd (none m.2.0 (reaches p q d m after)))

-- where the least place that reaches is past the second run
pub meets_past : (p q : Run) (d j i : ℕ) → IsAfter p q d → IsLeastReach p.step q.step d j → i ≡ j → q.count ≤ i → IsTrue (nat_lt i q.count) ↔ Meet p q
meets_past p q d j i after least is past = (
  (λ e. let h : i < q.count = ltb-true i q.count e in absurd (omega arith)),
  (λ m. let h : j ≤ m.2.0 = least.least m.2.0 (reaches p q d m after) in let l : m.2.0 < q.count = m.2.1 in absurd (omega arith)),
)

meet : (p q : Run) (d j : ℕ) → IsAfter p q d → IsLeastReach p.step q.step d j → j < q.count → (d + j * q.step) / p.step < p.count → Meet p q
meet p q d j after least below h = (stands_at q j, ((d + j * q.step) / p.step, h, same_number p q d ((d + j * q.step) / p.step) j after (div-mul_cancel p.step least.reaches)), (j, below, refl))

within : (p q : Run) (d j : ℕ) → IsAfter p q d → IsLeastReach p.step q.step d j → Meet p q → (d + j * q.step) / p.step < p.count
within p q d j after least m =
    let h : j ≤ m.2.0 = least.least m.2.0 (reaches p q d m after) in
    let low : j * q.step ≤ m.2.0 * q.step = mul-le-mul_right q.step h in
    let high : suc m.1.0 * p.step ≤ p.count * p.step = mul-le-mul_right p.step m.1.1 in
    (div-lt_iff_lt-mul p.rises).1 (omega (arith, reached p q d m after, p.rises))

pub meets_first : (p q : Run) (d j d' i s t : ℕ) → IsAfter p q d → IsLeastReach p.step q.step d j → i ≡ j → i < q.count → d' ≡ d → s ≡ q.step → t ≡ p.step → IsTrue (nat_lt ((d' + i * s) / t) p.count) ↔ Meet p q
meets_first p q d j d' i s t after least is below ed es et =
    let h : j < q.count = omega arith in
    rw (ed, es, et, is) (
      (λ e. meet p q d j after least h (ltb-true ((d + j * q.step) / p.step) p.count e)),
      (λ m. lt-ltb ((d + j * q.step) / p.step) p.count (within p q d j after least m)),
    )

pub meets_swapped : (p q : Run) (b : Bool) → (IsTrue b ↔ Meet q p) → IsTrue b ↔ Meet p q
meets_swapped p q b h = (λ e. let m : Meet q p = h.0 e in (m.0, m.2, m.1), λ m. h.1 (m.0, m.2, m.1))
