-- A list that is appended to bit by bit.
use Rattle.std.proofs.Common.{◌≡◌, refl, ap, sym, ◌∙◌, ℕ, suc, ◌+◌, ◌<◌, ◌≤◌, List, [], ◌∷◌, ◌++◌, map, length, drop, take, get_or, append_assoc, add-one}
use Rattle.std.proofs.Math.Seq.{drop-cons}
use Rattle.std.proofs.Math.ListN.{drop_of_length-le}
use Rattle.std.proofs.lemmas.List.{take_more}

-- the items from the i-th on
pub front : {X : Type 0} (xs : List X) (i : ℕ) (x : X) → i < length xs → x ≡ get_or xs i x → drop i xs ≡ x ∷ drop (i + 1) xs
front xs i x within is = drop-cons xs i x within ∙ ap (λ y. y ∷ drop (suc i) xs) (sym is) ∙ ap (λ k. x ∷ drop k xs) (sym (add-one i))

-- the items before the i-th, and that one
pub before_next : {X : Type 0} (xs : List X) (i : ℕ) (x : X) → i < length xs → x ≡ get_or xs i x → take (i + 1) xs ≡ take i xs ++ x ∷ []
before_next xs i x within is = take_more xs i x within ∙ ap (λ y. take i xs ++ y ∷ []) (sym is)

pub append_none : {X : Type 0} (xs : List X) → xs ++ [] ≡ xs
append_none [] = refl
append_none (x ∷ xs) = ap (λ ys. x ∷ ys) (append_none xs)

pub map_append : {X Y : Type 0} (f : X → Y) (xs ys : List X) → map f (xs ++ ys) ≡ map f xs ++ map f ys
map_append f [] ys = refl
map_append f (x ∷ xs) ys = ap (λ l. f x ∷ l) (map_append f xs ys)

-- a loop that appends what F gives for each item
pub next : {X Y : Type 0} (F : List X → List Y) (f : X → List Y) → ((x : X) (xs : List X) → F (x ∷ xs) ≡ f x ++ F xs) → (xs : List X) (i : ℕ) (x : X) (old now : List Y) →
    i < length xs → x ≡ get_or xs i x → now ≡ old ++ f x → old ++ F (drop i xs) ≡ now ++ F (drop (i + 1) xs)
next F f step xs i x old now within is more =
    ap (λ l. old ++ F l) (front xs i x within is)
    ∙ ap (λ l. old ++ l) (step x (drop (i + 1) xs))
    ∙ sym (append_assoc old (f x) (F (drop (i + 1) xs)))
    ∙ ap (λ l. l ++ F (drop (i + 1) xs)) (sym more)

pub done : {X Y : Type 0} (F : List X → List Y) → F [] ≡ [] → (xs : List X) (i : ℕ) (now : List Y) → length xs ≤ i → now ++ F (drop i xs) ≡ now
done F none xs i now h = ap (λ l. now ++ F l) (drop_of_length-le xs h) ∙ ap (λ l. now ++ l) none ∙ append_none now
