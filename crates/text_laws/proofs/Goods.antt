-- Ops whose lines stand for them, with as many regions as their form has.
use Rattle.std.proofs.Common.{◌≡◌, ℕ, suc, true, List, ◌++◌, codes}
use mathlib.Core.Former.{Count}
use Rattle.hlfir_ops.specs.declared.what.What.{What}
use Rattle.hlfir_ops.specs.declared.what.What.TheVariants as what
use Rattle.hlfir_ops.specs.declared.op.Op.{Op, Op'}
use Rattle.hlfir_ops.specs.declared.op.Region.{Region'}
use Rattle.hlfir_ops.specs.Numbers.{op_numbers, ops_numbers}
use Rattle.hlfir_ops.specs.Trees.{Ops, end_ops, more_ops, Regions, end_regions, more_regions}
use Rattle.hlfir_ops.specs.RulesForms.{has_regions}
use Rattle.hlfir_text.specs.declared.form.Form.{Form}
use Rattle.hlfir_text.specs.OperandText.{first_separator}
use Rattle.hlfir_text.specs.ModuleText.{count, op_text, ops_text}
use Rattle.text_laws.specs.Shown.{shown_op, shown_ops}
use Rattle.text_laws.proofs.Heads.{IsPlain}
use Rattle.text_laws.proofs.Indents.{ended}

abbrev pub IsSome : {m : Count} → Ops m → Type 0
IsSome end_ops = ⊥
IsSome (more_ops op ops) = Unit {0}

-- the third region of a WHERE has ops
abbrev pub IsFilled : {m : Count} → What → Regions m → Type 0
IsFilled what.Masked (more_regions a (more_regions b (more_regions (Region' _ ops) end_regions))) = IsSome ops
IsFilled _ _ = Unit {0}

abbrev mutual
  pub IsGood : Op → Type 0
  IsGood (Op' w line operands k _ regions) = IsPlain w line operands k × (has_regions w (count regions) ≡ true) × IsFilled w regions × AreGood regions

  pub AreGood : {m : Count} → Regions m → Type 0
  AreGood end_regions = Unit {0}
  AreGood (more_regions (Region' _ ops) regions) = EachGood ops × AreGood regions

  pub EachGood : {m : Count} → Ops m → Type 0
  EachGood end_ops = Unit {0}
  EachGood (more_ops op ops) = IsGood op × EachGood ops

-- ---- what is shown of trees that have the same text

abbrev pub OpLaw : Op → Type 0
OpLaw op = (depth : ℕ) (y : Form) (number : ℕ) (other : Op) (s t : List ℕ) → first_separator y ≡ codes " " → IsGood op → IsGood other → ended (suc depth) s ≡ true → ended (suc depth) t ≡ true →
    op_text depth y number op ++ s ≡ op_text depth y number other ++ t → (shown_op op ≡ shown_op other) × (op_numbers op ≡ op_numbers other) × (s ≡ t)

abbrev pub OpsLaw : {m : Count} → Ops m → Type 0
OpsLaw ops = (depth : ℕ) (y : Form) (number : ℕ) (m : Count) (others : Ops m) (s t : List ℕ) → first_separator y ≡ codes " " → EachGood ops → EachGood others → ended depth s ≡ true → ended depth t ≡ true →
    ops_text depth y number ops ++ s ≡ ops_text depth y number others ++ t → (shown_ops ops ≡ shown_ops others) × (ops_numbers ops ≡ ops_numbers others) × (s ≡ t)

abbrev pub EachLaw : {m : Count} → Regions m → Type 0
EachLaw end_regions = Unit {0}
EachLaw (more_regions (Region' _ ops) regions) = OpsLaw ops × EachLaw regions
