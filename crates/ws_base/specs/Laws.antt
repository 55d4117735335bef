-- What the definitions of MODULO and of outcomes come to.
use Rattle.std.specs.Prelude.{◌≡◌, ◌↔◌, ◌<◌, ℕ, List, map, length, slice_index_or, Result, Ok, Err, Some, ℤ, pos, ◌+ℤ◌, ◌*ℤ◌, ◌≤ℤ◌, ◌<ℤ◌}
use Rattle.std.specs.List.{All, slice_get}
use Rattle.ws_base.specs.declared.fault.FaultName.{FaultName}
use Rattle.ws_base.specs.declared.fault.Trouble.{Trouble}
use Rattle.ws_base.specs.Outcomes.{each}

-- m differs from a by a multiple of b, and lies from 0 on the side of b, nearer than b
pub record IsModulo (a b m : ℤ) : Type 0 where
  pub quotient : ℤ
  pub differs : a ≡ quotient *ℤ b +ℤ m
  pub above : pos 0 <ℤ b → (pos 0 ≤ℤ m) × (m <ℤ b)
  pub below : b <ℤ pos 0 → (b <ℤ m) × (m ≤ℤ pos 0)

-- No item fails exactly where each has a value by itself, and those are the values.
abbrev pub EachAlone : {A B : Type 0} → (A → Result B FaultName) → List A → List B → Type 0
EachAlone f items values = (each f items ≡ Ok values) ↔ (map f items ≡ map Ok values)

-- The fault is that of the first item that fails.
pub record FailsFirst {A B : Type 0} (f : A → Result B FaultName) (items : List A) (t : Trouble) : Type 0 where
  pub fault : slice_get (map f items) t.element ≡ Some (Err t.name)
  pub before : (k : ℕ) → k < t.element → (value : B) × (slice_get (map f items) k ≡ Some (Ok value))

-- The items at these positions, in this order, have the values at these positions.
abbrev pub AnyOrder : {A B : Type 0} → (A → Result B FaultName) → List A → List B → List ℕ → A → B → Type 0
AnyOrder f items values order a b =
    each f items ≡ Ok values → All (λ k. k < length items) order → each f (map (λ k. slice_index_or items k a) order) ≡ Ok (map (λ k. slice_index_or values k b) order)
