-- A list from an item on.
use Rattle.std.proofs.Common.{◌≡◌, ℕ, suc, ◌+◌, ◌-◌, ◌<◌, ◌≤◌, List, [], ◌∷◌, length, take, drop, get_or, sym, ap, ◌∙◌, add-one, arith}
use Rattle.std.proofs.Math.Seq.{drop-cons, take-length}

pub front : {A : Type 0} (xs : List A) (i : ℕ) (x : A) → i < length xs → x ≡ get_or xs i x → drop i xs ≡ x ∷ drop (i + 1) xs
front xs i x h is = drop-cons xs i x h ∙ (ap (λ y. y ∷ drop (suc i) xs) (sym is) ∙ ap (λ k. x ∷ drop k xs) (sym (add-one i)))

-- as a slice pattern takes it apart
pub parts_of : {A : Type 0} (xs : List A) (d : A) → 1 ≤ length xs → xs ≡ get_or xs 0 d ∷ take (length xs - 1) (drop 1 xs)
parts_of [] d h = absurd (omega (arith, h))
parts_of (x ∷ xs) d h =
    let n : suc (length xs) - 1 ≡ length xs = omega arith in
    ap (λ l. x ∷ l) (sym (take-length xs) ∙ ap (λ k. take k xs) (sym n))
