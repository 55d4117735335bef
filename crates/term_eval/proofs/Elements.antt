-- Shapes, their sizes and their places.
use Rattle.std.proofs.Common.{◌≡◌, ℕ, zero, suc, ◌+◌, ◌-◌, ◌*◌, ◌<◌, ◌≤◌, min, List, [], ◌∷◌, ◌++◌, length, take, drop, get_or, replicate, ℤ, refl, sym, ap, ◌∙◌, arith}
use Rattle.std.proofs.Math.Nat.{mul-le-mul_left, mul-le-mul_right, zero-mul}
use Rattle.ws_space.specs.Shapes.{Extents, size, places_from, all_places}
use Rattle.ws_space.specs.Maps.{everywhere_same}
use Rattle.ws_space.proofs.Places.{length-places_from}
use Rattle.term_eval.proofs.Front.{parts_of}

-- ---- sizes

one_le : (m : ℕ) → 1 ≤ suc m
one_le m = omega arith

grows : (m s : ℕ) → s ≤ suc m * s
grows m s = omega (arith, mul-le-mul_right s (one_le m))

few : (n s rest r : ℕ) → (s ≤ 65536 → rest ≡ s) → r ≡ min (n * rest) 18446744073709551615 → n * s ≤ 65536 → r ≡ n * s
few zero s rest r same is h = is ∙ rw (zero-mul rest, zero-mul s) refl
few (suc m) s rest r same is h =
    let e : rest ≡ s = same (omega (arith, grows m s, h)) in
    let p : r ≡ min (suc m * s) 18446744073709551615 = is ∙ ap (λ k. min (suc m * k) 18446744073709551615) e in
    omega (arith, p, h)

many_more : (m s rest : ℕ) → (s ≤ 65536 → rest ≡ s) → (65536 < s → 65536 < rest) → 65536 < suc m * s → 65536 < suc m * rest
many_more m s rest same more h = grind (arith, grows m rest, same, more, h, mul-le-mul_left)

many : (n s rest r : ℕ) → (s ≤ 65536 → rest ≡ s) → (65536 < s → 65536 < rest) → r ≡ min (n * rest) 18446744073709551615 → 65536 < n * s → 65536 < r
many zero s rest r same more is h = absurd (omega (arith, h, zero-mul s))
many (suc m) s rest r same more is h = omega (arith, is, many_more m s rest same more h)

pub size-few : (xs : List ℕ) (rest r : ℕ) → 1 ≤ length xs → (size (take (length xs - 1) (drop 1 xs)) ≤ 65536 → rest ≡ size (take (length xs - 1) (drop 1 xs))) → r ≡ min (get_or xs 0 0 * rest) 18446744073709551615 → size xs ≤ 65536 → r ≡ size xs
size-few xs rest r some same is h =
    let e = parts_of xs 0 some in
    few (get_or xs 0 0) (size (take (length xs - 1) (drop 1 xs))) rest r same is (omega (arith, ap size e, h)) ∙ sym (ap size e)

pub size-many : (xs : List ℕ) (rest r : ℕ) → 1 ≤ length xs → (size (take (length xs - 1) (drop 1 xs)) ≤ 65536 → rest ≡ size (take (length xs - 1) (drop 1 xs))) → (65536 < size (take (length xs - 1) (drop 1 xs)) → 65536 < rest) → r ≡ min (get_or xs 0 0 * rest) 18446744073709551615 → 65536 < size xs → 65536 < r
size-many xs rest r some same more is h =
    let e = parts_of xs 0 some in
    many (get_or xs 0 0) (size (take (length xs - 1) (drop 1 xs))) rest r same more is (omega (arith, ap size e, h))

-- ---- all places

pub places_from-more : (k n : ℕ) → places_from k (suc n) ≡ places_from k n ++ (k + n) ∷ []
places_from-more k zero = ap (λ m. m ∷ []) (omega arith)
places_from-more k (suc n) = ap (λ l. k ∷ l) (places_from-more (suc k) n ∙ ap (λ m. places_from (suc k) n ++ m ∷ []) (omega arith))

pub few_places : (e : Extents) (at at' : List ℕ) → size e ≤ 65536 → at ≡ all_places e → at' ≡ at → length at' ≤ 65536
few_places e at at' h is same = omega (arith, ap length same, ap length is, length-places_from 0 (size e), h)

-- ---- one value at every place

pub everywhere_is : (v : ℤ) (at : List ℕ) → everywhere_same v at ≡ replicate (length at) v
everywhere_is v [] = refl
everywhere_is v (p ∷ at) = ap (λ l. v ∷ l) (everywhere_is v at)
