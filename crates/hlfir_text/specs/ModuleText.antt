-- A module as text. An op that breaks rules has a text too: its regions stand between braces in their order.
use Rattle.std.specs.Prelude.{ℕ, zero, suc, ◌+◌, ◌==◌, if◌then◌else◌, List, [], ◌∷◌, ◌++◌, length, ℤ, Option, Some, None, codes, decimal}
use mathlib.Core.Former.{Count}
use Rattle.hlfir_ops.specs.declared.kinds.ValueKind.{ValueKind}
use Rattle.hlfir_ops.specs.declared.what.What.{What}
use Rattle.hlfir_ops.specs.declared.what.What.TheVariants as what
use Rattle.hlfir_ops.specs.declared.op.ValueId.{ValueId}
use Rattle.hlfir_ops.specs.declared.op.Op.{Op, Op'}
use Rattle.hlfir_ops.specs.declared.op.Region.{Region, Region', out-Region}
use Rattle.hlfir_ops.specs.declared.op.Module.{Module}
use Rattle.hlfir_ops.specs.Lines.{has_line}
use Rattle.hlfir_ops.specs.Numbers.{names_in, own_numbers, op_numbers, ops_numbers, numbers_of}
use Rattle.hlfir_ops.specs.Trees.{Ops, end_ops, more_ops, Regions, end_regions, more_regions}
use Rattle.hlfir_text.specs.declared.form.Form.{Form}
use Rattle.hlfir_text.specs.declared.form.Form.TheVariants.{Listed}
use Rattle.hlfir_text.specs.KindText.{kind_part}
use Rattle.hlfir_text.specs.OperandText.{value_text}
pub use Rattle.hlfir_text.specs.OpText.{indent, name_text, names_text, index_text, truth_word, constant_text, word, mark, own_part, operands_text, yields_in, between}

-- ---- the line of an op

abbrev pub result_part : ℕ → Option ValueKind → List ℕ
result_part number None = []
result_part number (Some k) = value_text number ++ codes " = "

abbrev pub line_part : What → ℕ → List ℕ
line_part w line = if has_line w then codes " @" ++ decimal line else []

-- the words of an op between its result and its operands
abbrev pub words_text : What → ℕ → Option ValueKind → List ℕ
words_text w line k = word w ++ line_part w line ++ mark w ++ own_part w k

-- the line up to its regions
abbrev pub head_text : ℕ → Form → ℕ → What → ℕ → List ValueId → Option ValueKind → List ℕ
head_text depth yields number w line operands k = indent depth ++ result_part number k ++ words_text w line k ++ operands_text yields w operands ++ kind_part k

-- ---- regions

-- ELSEWHERE without a mask has one region
abbrev pub lone_part : What → ℕ → List ℕ
lone_part what.Elsewhere count = if count == 1 then codes " do" else []
lone_part _ count = []

-- what stands before the region of this number, counted from 0, whose first value has this number
abbrev pub opening : ℕ → What → ℕ → ℕ → List ℕ
opening depth w number k = if k == 0 then codes " {\n" else between depth w number k

-- what closes the block of an ELSEWHERE is the next ELSEWHERE, or the end of its WHERE
abbrev pub brace : ℕ → What → List ℕ
brace depth what.Elsewhere = []
brace depth _ = indent depth ++ codes "}\n"

-- what stands after so many regions
abbrev pub closing : ℕ → What → ℕ → List ℕ
closing depth w k = if k == 0 then codes "\n" else brace depth w

-- the third region of a WHERE adds no indentation
abbrev pub depth_in : ℕ → What → ℕ → ℕ
depth_in depth what.Masked k = if k == 2 then depth else depth + 1
depth_in depth _ k = depth + 1

abbrev pub count : {m : Count} → Regions m → ℕ
count end_regions = 0
count (more_regions r rs) = suc (count rs)

-- ---- trees; the first value that they give has this number

abbrev mutual
  pub op_text : ℕ → Form → ℕ → Op → List ℕ
  op_text depth yields number (Op' w line operands k _ regions) =
      head_text depth yields number w line operands k ++ lone_part w (count regions) ++ regions_text depth w (number + own_numbers k) 0 regions

  pub regions_text : {m : Count} → ℕ → What → ℕ → ℕ → Regions m → List ℕ
  regions_text depth w number k end_regions = closing depth w k
  regions_text depth w number k (more_regions (Region' _ ops) regions) =
      opening depth w number k ++ ops_text (depth_in depth w k) (yields_in w) (number + length (names_in w k)) ops ++ regions_text depth w (number + length (names_in w k) + ops_numbers ops) (suc k) regions

  pub ops_text : {m : Count} → ℕ → Form → ℕ → Ops m → List ℕ
  ops_text depth yields number end_ops = []
  ops_text depth yields number (more_ops op ops) = op_text depth yields number op ++ ops_text depth yields (number + op_numbers op) ops

-- the same over lists

abbrev pub lines_of : ℕ → Form → ℕ → List Op → List ℕ
lines_of depth yields number [] = []
lines_of depth yields number (op ∷ ops) = op_text depth yields number op ++ lines_of depth yields (number + op_numbers op) ops

-- the ops of the region of this number, with what stands before them
abbrev pub region_lines : ℕ → What → ℕ → ℕ → List Op → List ℕ
region_lines depth w number k ops = opening depth w number k ++ lines_of (depth_in depth w k) (yields_in w) (number + length (names_in w k)) ops

abbrev pub lines_in : ℕ → What → ℕ → ℕ → List Region → List ℕ
lines_in depth w number k [] = closing depth w k
lines_in depth w number k (region ∷ regions) =
    region_lines depth w number k (out-Region region).ops ++ lines_in depth w (number + length (names_in w k) + numbers_of (out-Region region).ops) (suc k) regions

abbrev pub module_text : Module → List ℕ
module_text m = codes "module " ++ m.name ++ codes "\n" ++ lines_of 0 Listed 0 m.ops
