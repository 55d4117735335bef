-- Outcomes in order: the first fault, or the value.
use Rattle.std.specs.Prelude.{suc, List, [], ◌∷◌, map, Result, Ok, Err, ℤ}
use Rattle.ws_base.specs.declared.fault.FaultName.{FaultName}
use Rattle.ws_base.specs.declared.fault.Trouble.{Trouble}
use Rattle.ws_base.specs.Numbers.{Exact}

infixl 10 ◌>>=◌
abbrev pub ◌>>=◌ : {A B E : Type 0} → Result A E → (A → Result B E) → Result B E
(Ok x) >>= f = f x
(Err e) >>= f = Err e

infixl 10 ◌>>◌
abbrev pub ◌>>◌ : {A B E : Type 0} → Result A E → Result B E → Result B E
p >> q = p >>= (λ _. q)

-- A `Trouble` is a fault without its line. Where a list of values is made, its element is the place in the list, from 0.
abbrev pub Staged : Type 0 → Type 0
Staged A = Result A Trouble

abbrev pub trouble : {A : Type 0} → FaultName → Staged A
trouble n = Err (record { element = 0; name = n })

abbrev pub scalar_of : Exact → Staged ℤ
scalar_of (Ok z) = Ok z
scalar_of (Err n) = trouble n

abbrev pub later : Trouble → Trouble
later t = record { element = suc t.element; name = t.name }

abbrev pub joined : {B : Type 0} → Result B FaultName → Staged (List B) → Staged (List B)
joined (Err n) rest = trouble n
joined (Ok y) (Ok ys) = Ok (y ∷ ys)
joined (Ok y) (Err t) = Err (later t)

-- One operation at each item. Its fault is that at the first item where it fails.
abbrev pub each : {A B : Type 0} → (A → Result B FaultName) → List A → Staged (List B)
each f [] = Ok []
each f (x ∷ xs) = joined (f x) (each f xs)

-- the k-th of each list: columns as rows, where the first argument says how many
abbrev pub pair_up : {A : Type 0} → List A → List (List A) → List (List A)
pair_up (x ∷ xs) (r ∷ rs) = (x ∷ r) ∷ pair_up xs rs
pair_up _ _ = []

abbrev pub rows : {A X : Type 0} → List X → List (List A) → List (List A)
rows at [] = map (λ _. []) at
rows at (c ∷ cs) = pair_up c (rows at cs)
