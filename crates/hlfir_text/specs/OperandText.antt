-- Operands as text. One that is missing is left out, and one that is too many for a designator too.
use Rattle.std.specs.Prelude.{ℕ, suc, ◌%◌, ◌==◌, if◌then◌else◌, List, [], ◌∷◌, ◌++◌, take, drop, codes, decimal}
use Rattle.hlfir_ops.specs.declared.op.ValueId.{ValueId}
use Rattle.hlfir_ops.specs.declared.what.SubKind.{SubKind}
use Rattle.hlfir_ops.specs.declared.what.SubKind.TheVariants as sub
use Rattle.hlfir_text.specs.declared.form.Form.{Form}
use Rattle.hlfir_text.specs.declared.form.Form.TheVariants.{Listed, Spaced, Pairs, Triples, Triplet}

abbrev pub value_text : ℕ → List ℕ
value_text number = codes "%" ++ decimal number

-- ---- separators

abbrev pub first_separator : Form → List ℕ
first_separator Triplet = []
first_separator _ = codes " "

abbrev pub next_separator : Form → ℕ → List ℕ
next_separator Listed k = codes ", "
next_separator Spaced k = codes " "
next_separator Pairs k = if k % 2 == 0 then codes ", " else codes ":"
next_separator Triples k = if k % 3 == 0 then codes ", " else codes ":"
next_separator Triplet k = codes ":"

-- what stands before the operand of this number, counted from 0
abbrev pub separator : Form → ℕ → List ℕ
separator form k = if k == 0 then first_separator form else next_separator form k

-- these operands, of which the first has this number
abbrev pub values_text : Form → ℕ → List ValueId → List ℕ
values_text form k [] = []
values_text form k (v ∷ vs) = separator form k ++ value_text v.number ++ values_text form (suc k) vs

-- ---- designators

-- how many operands a dimension takes
abbrev pub width : SubKind → ℕ
width sub.One = 1
width sub.Range = 3
width sub.Vector = 1

abbrev pub sub_word : SubKind → List ℕ
sub_word sub.One = []
sub_word sub.Range = []
sub_word sub.Vector = codes "vector "

abbrev pub comma : ℕ → List ℕ
comma k = if k == 0 then [] else codes ", "

-- these dimensions, of which the first has this number
abbrev pub subs_text : ℕ → List SubKind → List ValueId → List ℕ
subs_text k [] operands = []
subs_text k (s ∷ ss) operands = comma k ++ sub_word s ++ values_text Triplet 0 (take (width s) operands) ++ subs_text (suc k) ss (drop (width s) operands)

abbrev pub designator_text : List SubKind → List ValueId → List ℕ
designator_text subs operands = values_text Listed 0 (take 1 operands) ++ codes " (" ++ subs_text 0 subs (drop 1 operands) ++ codes ")"
