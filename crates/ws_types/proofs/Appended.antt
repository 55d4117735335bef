-- The least fault, found bit by bit.
use Rattle.std.proofs.Common.{◌≡◌, refl, ap, sym, ◌∙◌, take, ℕ, suc, ◌+◌, ◌<◌, ◌≤◌, List, [], ◌∷◌, ◌++◌, length, drop, get_or, Option, add-one}
use Rattle.std.proofs.Math.Seq.{drop-cons}
use Rattle.std.proofs.Math.ListN.{drop_of_length-le}
use Rattle.std.specs.List.{flat_map}
use Rattle.std.proofs.lemmas.List.{take_more}
use Rattle.ws_base.specs.declared.refusal.Refusal.{Refusal}
use Rattle.ws_types.specs.Kinds.{least_from, lesser}

pub least-append : (found : Option Refusal) (xs ys : List Refusal) → least_from found (xs ++ ys) ≡ least_from (least_from found xs) ys
unfolding least_from
least-append found [] ys = refl
least-append found (x ∷ xs) ys = least-append (lesser found x) xs ys

pub least-none : (found : Option Refusal) → least_from found [] ≡ found
unfolding least_from
least-none found = refl

pub ruleset least_rules = (least-append, least-none)

-- ---- a loop that folds in a list for each item

pub front : {X : Type 0} (xs : List X) (i : ℕ) (x : X) → i < length xs → x ≡ get_or xs i x → drop i xs ≡ x ∷ drop (i + 1) xs
front xs i x within is = drop-cons xs i x within ∙ ap (λ y. y ∷ drop (suc i) xs) (sym is) ∙ ap (λ k. x ∷ drop k xs) (sym (add-one i))

-- Appended lists are folded in one after the other.
module _ {S P : Type 0} (fold : S → List P → S) where
  pub next_of : {X : Type 0} → ((s : S) (xs ys : List P) → fold s (xs ++ ys) ≡ fold (fold s xs) ys) →
      (f : X → List P) (xs : List X) (i : ℕ) (x : X) (s now : S) → i < length xs → x ≡ get_or xs i x → now ≡ fold s (f x) → fold s (flat_map f (drop i xs)) ≡ fold now (flat_map f (drop (i + 1) xs))
  next_of appended f xs i x s now within is step =
      ap (λ l. fold s (flat_map f l)) (front xs i x within is)
      ∙ appended s (f x) (flat_map f (drop (i + 1) xs))
      ∙ ap (λ g. fold g (flat_map f (drop (i + 1) xs))) (sym step)

  pub done_of : {X : Type 0} → ((s : S) → fold s [] ≡ s) → (f : X → List P) (xs : List X) (i : ℕ) (s : S) → length xs ≤ i → fold s (flat_map f (drop i xs)) ≡ s
  done_of none f xs i s h = ap (λ l. fold s (flat_map f l)) (drop_of_length-le xs h) ∙ none s

-- ---- a loop that notes the faults of each item

pub next : {X : Type 0} (f : X → List Refusal) (xs : List X) (i : ℕ) (x : X) (found now : Option Refusal) → i < length xs → x ≡ get_or xs i x → now ≡ least_from found (f x) → least_from found (flat_map f (drop i xs)) ≡ least_from now (flat_map f (drop (i + 1) xs))
next = next_of least_from least-append

pub done : {X : Type 0} (f : X → List Refusal) (xs : List X) (i : ℕ) (found : Option Refusal) → length xs ≤ i → least_from found (flat_map f (drop i xs)) ≡ found
done = done_of least_from least-none

-- the items before the i-th, and that one
pub before : {X : Type 0} (xs : List X) (i : ℕ) (x : X) → i < length xs → x ≡ get_or xs i x → take (i + 1) xs ≡ take i xs ++ x ∷ []
before xs i x within is = take_more xs i x within ∙ ap (λ y. take i xs ++ y ∷ []) (sym is)
