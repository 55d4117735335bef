-- A list of values in the making, and what a computation gives unless memory fails.
use Rattle.std.specs.Prelude.{◌≡◌, ⊤, ℕ, ◌+◌, ◌<◌, List, [], ◌∷◌, ◌++◌, length, Result, Ok, Err}
use Rattle.ws_base.specs.declared.fault.FaultName.{FaultName}
use Rattle.ws_base.specs.Outcomes.{Staged}
use Rattle.term_eval.specs.declared.stop.Stop.{Stop}
use Rattle.term_eval.specs.declared.stop.Stop.TheVariants.{Memory, Failed}

abbrev pub Stops : {A : Type 0} → Stop → Staged A → Type 0
Stops Memory outcome = ⊤
Stops (Failed t) outcome = outcome ≡ Err t

-- the outcome, unless memory fails
abbrev pub Gives : {A : Type 0} → Result A Stop → Staged A → Type 0
Gives (Ok x) outcome = outcome ≡ Ok x
Gives (Err e) outcome = Stops e outcome

-- one more value; a fault has the place in the list at which it comes
abbrev pub keeps : {A : Type 0} → Result A FaultName → List A → Staged (List A)
keeps (Ok x) made = Ok (made ++ x ∷ [])
keeps (Err n) made = Err (record { element = length made; name = n })

-- values made before, and then the rest
abbrev pub made_then : {A : Type 0} → List A → Staged (List A) → Staged (List A)
made_then made (Ok rest) = Ok (made ++ rest)
made_then made (Err t) = Err (record { element = length made + t.element; name = t.name })

-- as many values as this, or a fault at one of so many places
abbrev pub IsAlong : {A : Type 0} → Result (List A) Stop → ℕ → Type 0
IsAlong (Ok xs) n = length xs ≡ n
IsAlong (Err Memory) n = ⊤
IsAlong (Err (Failed t)) n = t.element < n
