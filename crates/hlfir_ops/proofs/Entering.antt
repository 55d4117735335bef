-- What is around after a region is entered.
use Rattle.std.proofs.Common.{◌≡◌, refl, sym, ap, ◌∙◌, ◌<◌, List, [], ◌∷◌, ◌++◌, length, drop, arith}
use Rattle.hlfir_ops.specs.declared.op.Op.{out-Op, roll-out-Op}
use Rattle.hlfir_ops.specs.Built.{Place, Built, Enters}

-- a list by its last item
record Split {A : Type 0} (xs : List A) : Type 0 where
  front : List A
  last : A
  is : xs ≡ front ++ last ∷ []

split : {A : Type 0} (x : A) (xs : List A) → Split (x ∷ xs)
split x [] = record { front = []; last = x; is = refl }
split x (y ∷ ys) = let s = split y ys in record { front = x ∷ s.front; last = s.last; is = ap (λ l. x ∷ l) s.is }

split_of : {A : Type 0} (xs : List A) → 0 < length xs → Split xs
split_of [] some = absurd (omega (arith, some))
split_of (x ∷ xs) some = split x xs

pub enters-around : (old new : Built) → 0 < length old.ops → Enters old new → (drop 1 new.around ≡ old.around) × (0 < length new.around)
enters-around old new some enters =
    let s = split_of old.ops some in
    let f = out-Op s.last in
    let is = enters s.front f.what f.line f.operands f.kind f.regions (s.is ∙ ap (λ o. s.front ++ o ∷ []) (sym (roll-out-Op s.last))) in
    let p : Place = record { before = s.front; what = f.what; line = f.line; operands = f.operands; kind = f.kind; regions = f.regions } in
    (ap (λ b. drop 1 b.around) is, omega (arith, ap (λ b. length b.around) is))
