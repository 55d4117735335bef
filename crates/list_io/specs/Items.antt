-- The items that a READ takes from the data.
use Rattle.std.specs.Prelude.{ℕ, zero, suc, ◌+◌, ◌-◌, ◌*◌, ◌==◌, Bool, true, false, ◌&&◌, ◌||◌, nat_le, if◌then◌else◌, List, [], ◌∷◌, map, length, drop, Option, Some, None, Result, Ok, Err, ℤ, pos, neg_ℤ, codes, bytes_eq}
use Rattle.ws_base.specs.declared.fault.FaultName.{FaultName}
use Rattle.ws_base.specs.declared.fault.FaultName.TheVariants.{DataEnd, DataBad}
use Rattle.ws_base.specs.Numbers.{truth, in_range, default_half}
use Rattle.ws_base.specs.Outcomes.{◌>>=◌, Staged}
use Rattle.list_io.specs.declared.item.Item.{Item}
use Rattle.list_io.specs.declared.item.Item.TheVariants as item

-- ---- where an item begins and ends

abbrev pub is_space : ℕ → Bool
is_space c = c == 32 || c == 9 || c == 13 || c == 10

abbrev pub is_comma : ℕ → Bool
is_comma c = c == 44

abbrev pub after_spaces : List ℕ → List ℕ
after_spaces [] = []
after_spaces (c ∷ cs) = elim (is_space c) [ true ↦ after_spaces cs | false ↦ c ∷ cs ]

-- one comma, where it stands first
abbrev pub after_comma : List ℕ → List ℕ
after_comma [] = []
after_comma (c ∷ cs) = if is_comma c then cs else c ∷ cs

-- `first` is true for the first value of a READ
abbrev pub item_from : Bool → List ℕ → List ℕ
item_from true bytes = after_spaces bytes
item_from false bytes = after_spaces (after_comma (after_spaces bytes))

-- the bytes of the item that stands first
abbrev pub item_bytes : List ℕ → List ℕ
item_bytes [] = []
item_bytes (c ∷ cs) = elim (is_space c || is_comma c) [ true ↦ [] | false ↦ c ∷ item_bytes cs ]

-- ---- what an item spells

abbrev pub is_digit : ℕ → Bool
is_digit c = nat_le 48 c && nat_le c 57

abbrev pub lower_case : ℕ → ℕ
lower_case c = if nat_le 65 c && nat_le c 90 then c + 32 else c

abbrev pub digits_value : ℕ → List ℕ → Option ℕ
digits_value n [] = Some n
digits_value n (c ∷ cs) = elim (is_digit c) [ true ↦ digits_value (10 * n + (c - 48)) cs | false ↦ None ]

abbrev pub natural : List ℕ → Option ℕ
natural [] = None
natural (c ∷ cs) = digits_value 0 (c ∷ cs)

abbrev pub signed : Bool → Option ℕ → Option ℤ
signed negative None = None
signed true (Some n) = Some (neg_ℤ (pos n))
signed false (Some n) = Some (pos n)

-- an optional sign and digits
abbrev pub integer : List ℕ → Option ℤ
integer [] = None
integer (c ∷ cs) = if c == 43 then signed false (natural cs) else (if c == 45 then signed true (natural cs) else signed false (natural (c ∷ cs)))

abbrev pub is_one_of : List (List ℕ) → List ℕ → Bool
is_one_of [] word = false
is_one_of (w ∷ ws) word = bytes_eq w word || is_one_of ws word

abbrev pub truth_word : List ℕ → Option Bool
truth_word word =
    if is_one_of (codes "t" ∷ codes "true" ∷ codes ".t." ∷ codes ".true." ∷ []) word then Some true
    else (if is_one_of (codes "f" ∷ codes "false" ∷ codes ".f." ∷ codes ".false." ∷ []) word then Some false else None)

-- a value in any case of letters, which ends here
abbrev pub number_or_bad : Option ℤ → ℕ → Item
number_or_bad (Some z) end = if in_range default_half z then item.Number z end else item.Bad
number_or_bad None end = item.Bad

abbrev pub spelled_by : Option Bool → Option ℤ → ℕ → Item
spelled_by (Some b) z end = item.Truth b end
spelled_by None z end = number_or_bad z end

abbrev pub spelled : List ℕ → ℕ → Item
spelled word end = spelled_by (truth_word (map lower_case word)) (integer word) end

-- The item that stands first in a text that begins at this place of the data.
abbrev pub item_at : ℕ → List ℕ → Item
item_at from [] = item.End
item_at from (c ∷ cs) = spelled (item_bytes (c ∷ cs)) (from + length (item_bytes (c ∷ cs)))

abbrev pub next_item : List ℕ → ℕ → Bool → Item
next_item bytes at first =
    let rest = item_from first (drop at bytes) in
    item_at (length bytes - length rest) rest

-- ---- the values of one READ

-- a value of the wanted type, which is LOGICAL where the first argument is true
abbrev pub typed : Bool → Item → Result (ℤ × ℕ) FaultName
typed true (item.Truth b end) = Ok (truth b, end)
typed false (item.Number z end) = Ok (z, end)
typed is_truth item.End = Err DataEnd
typed is_truth _ = Err DataBad

-- the element of a fault is the number of the value in the statement
abbrev pub numbered : {A : Type 0} → ℕ → Result A FaultName → Staged A
numbered k (Ok x) = Ok x
numbered k (Err n) = Err (record { element = k; name = n })

-- the next n values from this place on, where some were taken before, and the place after them
abbrev pub take_values : List ℕ → Bool → ℕ → ℕ → ℕ → Staged (List ℤ × ℕ)
take_values bytes is_truth before zero at = Ok ([], at)
take_values bytes is_truth before (suc n) at = do
  v ← numbered (suc before) (typed is_truth (next_item bytes at (before == 0)))
  vs ← take_values bytes is_truth (suc before) n v.1
  Ok (v.0 ∷ vs.0, vs.1)

abbrev pub after_line : List ℕ → List ℕ
after_line [] = []
after_line (c ∷ cs) = elim (c == 10) [ true ↦ cs | false ↦ after_line cs ]

-- the place after the current line
abbrev pub next_line : List ℕ → ℕ → ℕ
next_line bytes at = length bytes - length (after_line (drop at bytes))
