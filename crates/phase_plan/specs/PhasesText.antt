-- The phases of a module as text.
use Rattle.std.specs.Prelude.{ℕ, suc, Bool, true, false, List, [], ◌∷◌, ◌++◌, Option, Some, None, codes, decimal}
use Rattle.std.specs.List.{flat_map}
use Rattle.ws_base.specs.declared.op.CallWord.{CallWord}
use Rattle.ws_base.specs.declared.op.CallWord.TheVariants as word
use Rattle.hlfir_ops.specs.declared.op.Module.{Module}
use Rattle.assign_schedule.specs.Saved.{saved}
use Rattle.phase_ops.specs.declared.phase.Label.{Label}
use Rattle.phase_ops.specs.declared.phase.Label.TheVariants as label
use Rattle.phase_plan.specs.Outlines.{Outline, set, loop, part, join, Group, outlines}

abbrev pub temp_text : ℕ → List ℕ
temp_text n = codes "t" ++ decimal n

-- these words and a temporary, where there is one
abbrev pub with_temp : List ℕ → Option ℕ → List ℕ
with_temp words (Some n) = words ++ temp_text n
with_temp words None = []

abbrev pub label_text : Label → List ℕ
label_text label.Stage = codes "stage"
label_text (label.Vector temp) = codes "vector " ++ temp_text temp
label_text (label.Mask temp) = codes "mask" ++ with_temp (codes " ") temp
label_text (label.Save temp addresses) = codes "save " ++ temp_text temp ++ with_temp (codes " addresses ") addresses
label_text (label.Assign name from at) = codes "assign " ++ name ++ with_temp (codes " from ") from ++ with_temp (codes " at ") at
label_text label.Clear = codes "clear marks"
label_text (label.Mark temp) = codes "mark " ++ temp_text temp
label_text (label.Check temp) = codes "check " ++ temp_text temp

abbrev pub reduction_text : CallWord → List ℕ
reduction_text word.Sum = codes "sum"
reduction_text word.Product = codes "product"
reduction_text word.Minval = codes "minval"
reduction_text word.Maxval = codes "maxval"
reduction_text word.Count = codes "count"
reduction_text word.Any = codes "any"
reduction_text word.All = codes "all"
reduction_text _ = []

abbrev pub line_text : ℕ → List ℕ
line_text line = codes " line " ++ decimal line ++ codes " "

abbrev pub outline_text : Outline → List ℕ
outline_text (set line l) = codes "single" ++ line_text line ++ label_text l
outline_text (loop line l over) = codes "loop" ++ line_text line ++ label_text l
outline_text (part line word temp over) = codes "part" ++ line_text line ++ reduction_text word ++ codes " " ++ temp_text temp
outline_text (join line word temp over) = codes "join" ++ line_text line ++ reduction_text word

-- from the phase of this number on
abbrev pub outlines_text : ℕ → List Outline → List ℕ
outlines_text n [] = []
outlines_text n (p ∷ ps) = codes "  " ++ decimal n ++ codes " " ++ outline_text p ++ codes "\n" ++ outlines_text (suc n) ps

abbrev pub group_word : Bool → List ℕ
group_word true = codes "region"
group_word false = codes "serial"

abbrev pub group_text : Group → List ℕ
group_text g = group_word g.shared ++ codes " line " ++ decimal g.line ++ codes "\n" ++ outlines_text 1 g.phases

abbrev pub phases_text : Module → List ℕ
phases_text m = codes "phases " ++ m.name ++ codes "\n" ++ flat_map group_text (outlines m (saved m))
