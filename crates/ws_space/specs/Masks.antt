-- Control and pending masks as the places that they leave.
use Rattle.std.specs.Prelude.{ℕ, zero, suc, Bool, true, false, not, if◌then◌else◌, List, [], ◌∷◌, map, ℤ}
use Rattle.ws_base.specs.Numbers.{is_true}
use Rattle.ws_space.specs.Shapes.{Extents, all_places}

abbrev pub same_truth : Bool → Bool → Bool
same_truth true b = b
same_truth false b = not b

-- the places whose value is true, or those whose value is false
abbrev pub chosen : Bool → List ℕ → List ℤ → List ℕ
chosen want (p ∷ ps) (v ∷ vs) = if same_truth want (is_true v) then p ∷ chosen want ps vs else chosen want ps vs
chosen want _ _ = []

-- An evaluated mask: of the places that its control left, those where it is true, and those where it is false.
-- The first are the control of its block, and the second the pending mask of what follows.
pub record Split : Type 0 where
  pub shape : Extents
  pub yes : List ℕ
  pub no : List ℕ

abbrev pub split_by : Extents → List ℕ → List ℤ → Split
split_by e places xs = record { shape = e; yes = chosen true places xs; no = chosen false places xs }

-- where a mask or an assignment is active: everywhere, or where the mask of that number, among the places it was evaluated for, is true, or false
pub data Control : Type 0 where
  everywhere : Control
  held failed : ℕ → Control

abbrev pub split_at : List Split → ℕ → Split
split_at [] k = record { shape = []; yes = []; no = [] }
split_at (s ∷ ss) zero = s
split_at (s ∷ ss) (suc k) = split_at ss k

abbrev pub active : List Split → Extents → Control → List ℕ
active ss e everywhere = all_places e
active ss e (held k) = (split_at ss k).yes
active ss e (failed k) = (split_at ss k).no

abbrev pub shapes_of : List Split → List Extents
shapes_of = map (λ s. s.shape)
