-- Faults of a source, and the least of them.
use Rattle.std.specs.Prelude.{ℕ, ◌≡◌, ◌≤◌, ◌<◌, ◌⊎◌, Bool, ◌&&◌, ◌||◌, nat_lt, nat_eq, if◌then◌else◌, List, [], ◌∷◌, Option, Some, None}
use Rattle.ws_base.specs.declared.refusal.RefusalKind.{RefusalKind}
use Rattle.ws_base.specs.declared.refusal.Refusal.{Refusal}
use Rattle.ws_base.specs.Words.{kind_number}

-- this line has a fault of this kind where the rule is broken
unfoldable pub when : Bool → ℕ → RefusalKind → List Refusal
when broken line kind = if broken then record { line = line; kind = kind } ∷ [] else []

-- an earlier line, or on one line a lesser kind
abbrev pub precedes : Refusal → Refusal → Bool
precedes a b = nat_lt a.line b.line || (nat_eq a.line b.line && nat_lt (kind_number a.kind) (kind_number b.kind))

abbrev pub lesser : Option Refusal → Refusal → Option Refusal
lesser None r = Some r
lesser (Some q) r = if precedes r q then Some r else Some q

-- the least of what was found before and these faults
unfoldable pub least_from : Option Refusal → List Refusal → Option Refusal
least_from found [] = found
least_from found (r ∷ rs) = least_from (lesser found r) rs

-- on an earlier line, or on the same one and of no greater kind
abbrev pub IsNotAfter : Refusal → Refusal → Type 0
IsNotAfter a b = (a.line < b.line) ⊎ ((a.line ≡ b.line) × (kind_number a.kind ≤ kind_number b.kind))

abbrev pub IsAmong : Refusal → List Refusal → Type 0
IsAmong r [] = ⊥
IsAmong r (f ∷ fs) = (r ≡ f) ⊎ IsAmong r fs

abbrev pub IsBeforeAll : Refusal → List Refusal → Type 0
IsBeforeAll r [] = Unit {0}
IsBeforeAll r (f ∷ fs) = IsNotAfter r f × IsBeforeAll r fs

-- one of the faults, on the first line that has one, and there of the least kind
abbrev pub IsLeast : Refusal → List Refusal → Type 0
IsLeast r faults = IsAmong r faults × IsBeforeAll r faults
