-- The values of an index lie between its first and its last, so they are default integers.
use Rattle.std.proofs.Common.{◌≡◌, ◌≢◌, refl, sym, ap, ◌∙◌, subst, ℕ, zero, suc, ◌+◌, ◌*◌, ◌/◌, ◌%◌, ◌<◌, ◌≤◌, Bool, true, false, List, [], ◌∷◌, map, filter, length, get_or, All, ℤ, pos, negsuc, neg_ℤ, unsigned_abs, ◌+ℤ◌, ◌-ℤ◌, ◌*ℤ◌, ◌≤ℤ◌, arith}
use Rattle.std.specs.Prelude.{int_lt}
use Rattle.std.proofs.lemmas.Bool.{lt-ltb, ltb-true}
use Rattle.std.proofs.lemmas.Int.{ints}
use Rattle.std.proofs.lemmas.List.Elements.{All-nil, All-cons, All-head, All-tail, filter_passes}
use Rattle.std.proofs.Math.Nat.{mod-lt, div-lt_iff_lt-mul, zero-mul}
use Rattle.ws_base.specs.Numbers.{default_half}
use Rattle.ws_space.specs.declared.shape.Triplet.{Triplet}
use Rattle.ws_space.specs.Shapes.{count, size, places_from}
use Rattle.ws_space.specs.Combinations.{lengths, indexes_at}
use Rattle.ws_space.specs.Subscripts.{is_up_to_end, stepped, selected}
use Rattle.ws_space.proofs.Counts.{length-selected, get_or-selected}
use Rattle.ws_space.proofs.Distances.{true_le}
use Rattle.term_eval.specs.Limits.{IsInteger}
use Rattle.step_eval.specs.Combinations.{IsAxis}

-- ---- between two default integers

lt_true : (m : ℕ) → int_lt (pos 0) (pos (suc m)) ≡ true
lt_true m = lt-ltb 0 (suc m) (omega arith)

between : (a z b : ℤ) → IsInteger a → IsInteger b → a ≤ℤ z → z ≤ℤ b → IsInteger z
between a (pos n) (pos m) h k low high = let below : m < default_half = ltb-true m default_half k in lt-ltb n default_half (omega (arith, ints, below, high))
between a (pos n) (negsuc m) h k low high = let f : ⊥ = omega (arith, ints, high) in absurd f
between (pos m) (negsuc n) b h k low high = let f : ⊥ = omega (arith, ints, low) in absurd f
between (negsuc m) (negsuc n) b h k low high = let below : m < default_half = ltb-true m default_half h in lt-ltb n default_half (omega (arith, ints, below, low))

step_between : (l u s : ℤ) (k : ℕ) → s ≢ pos 0 → is_up_to_end (record { l = l; u = u; s = s }) (l +ℤ pos k *ℤ s) ≡ true → IsInteger l → IsInteger u → IsInteger (l +ℤ pos k *ℤ s)
step_between l u (pos zero) k h e first last = absurd (h refl)
step_between l u (pos (suc m)) k h e first last =
    let high : (l +ℤ pos (k * suc m)) ≤ℤ u = true_le _ _ (rw (lt_true m) at e) in
    between l (l +ℤ pos (k * suc m)) u first last (omega (arith, ints)) high
step_between l u (negsuc m) k h e first last =
    let low : u ≤ℤ (l +ℤ neg_ℤ (pos (k * suc m))) = true_le _ _ e in
    between u (l +ℤ neg_ℤ (pos (k * suc m))) l last first low (omega (arith, ints))

stepped_integer : (t : Triplet) (k : ℕ) → IsAxis t → k < count t → IsInteger (stepped t k)
stepped_integer t k h low =
    let P : ℤ → Type 0 = λ z. is_up_to_end t z ≡ true in
    let passes : All P (selected t) = filter_passes (is_up_to_end t) (map (stepped t) (places_from 0 (suc (unsigned_abs (t.u -ℤ t.l))))) in
    let n : length (selected t) ≡ count t = length-selected t h.stride in
    step_between t.l t.u t.s k h.stride (subst P (get_or-selected t k (pos 0) h.stride low) (passes k (pos 0) (omega (arith, n, low)))) h.first h.last

-- ---- the indexes of a combination

positive : (n m p : ℕ) → p < n * m → 0 < n
positive zero m p h = absurd (omega (arith, zero-mul m, h))
positive (suc n) m p h = omega arith

pub indexes_integers : (ts : List Triplet) (p : ℕ) → All IsAxis ts → p < size (lengths ts) → All IsInteger (indexes_at ts p)
indexes_integers [] p h low = All-nil IsInteger
indexes_integers (t ∷ ts) p h low =
    let some : 0 < count t = positive (count t) (size (lengths ts)) p low in
    let rest : p / count t < size (lengths ts) = (div-lt_iff_lt-mul some).1 (omega (arith, low)) in
    All-cons IsInteger (stepped t (p % count t)) (indexes_at ts (p / count t)) (stepped_integer t (p % count t) (All-head IsAxis t ts h) (mod-lt p some)) (indexes_integers ts (p / count t) (All-tail IsAxis t ts h) rest)
