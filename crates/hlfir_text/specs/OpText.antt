-- What each op is as text: its words, its operands, and what stands between its regions.
use Rattle.std.specs.Prelude.{ℕ, zero, suc, ◌==◌, Bool, if◌then◌else◌, List, [], ◌∷◌, ◌++◌, ℤ, Option, Some, codes, decimal}
use Rattle.std.specs.Fmt.{signed_decimal}
use Rattle.ws_base.specs.Numbers.{is_true}
use Rattle.ws_base.specs.declared.name.Name.{Name}
use Rattle.hlfir_ops.specs.declared.kinds.Elem.TheVariants.{I1}
use Rattle.hlfir_ops.specs.declared.kinds.ValueKind.{ValueKind}
use Rattle.hlfir_ops.specs.declared.kinds.ValueKind.TheVariants as kind
use Rattle.hlfir_ops.specs.declared.what.What.{What}
use Rattle.hlfir_ops.specs.declared.what.What.TheVariants as what
use Rattle.hlfir_ops.specs.declared.op.ValueId.{ValueId}
use Rattle.hlfir_ops.specs.Numbers.{names_in}
use Rattle.hlfir_text.specs.declared.form.Form.{Form}
use Rattle.hlfir_text.specs.declared.form.Form.TheVariants.{Listed, Spaced, Pairs, Triples}
use Rattle.hlfir_text.specs.OperandText.{value_text, comma, values_text, designator_text}
use Rattle.hlfir_text.specs.WordText.{unary_word, binary_word, bound_word, reduction_word}

-- two blanks for each region
abbrev pub indent : ℕ → List ℕ
indent zero = []
indent (suc depth) = indent depth ++ codes "  "

abbrev pub truth_word : ℤ → List ℕ
truth_word v = if is_true v then codes "true" else codes "false"

abbrev pub constant_text : Option ValueKind → ℤ → List ℕ
constant_text (Some (kind.Scalar I1)) v = truth_word v
constant_text _ v = signed_decimal v

abbrev pub name_text : ℕ → Name → List ℕ
name_text number x = value_text number ++ codes " \"" ++ x ++ codes "\""

-- the index names of a FORALL, of which the first has this place and this number
abbrev pub names_text : ℕ → ℕ → List Name → List ℕ
names_text k number [] = []
names_text k number (x ∷ xs) = comma k ++ name_text number x ++ names_text (suc k) (suc number) xs

-- the line between its two regions
abbrev pub index_text : ℕ → ℕ → List Name → List ℕ
index_text depth number names = indent depth ++ codes "} index " ++ names_text 0 number names ++ codes " {\n"

-- ---- the text of each op

-- The words of an op, what stands after its line, the name of a variable or the value of a constant, its operands where the yields have this form, and the
-- form of the yields in its regions. `between` stands between two regions of this depth, where the next value and region have these numbers.
pub record OpText : Type 0 where
  pub word : List ℕ
  pub mark : List ℕ
  pub own : Option ValueKind → List ℕ
  pub operands : Form → List ValueId → List ℕ
  pub yields : Form
  pub between : ℕ → ℕ → ℕ → List ℕ

abbrev pub plain : List ℕ → OpText
plain w = record { word = w; mark = []; own = λ k. []; operands = λ yields os. values_text Listed 0 os; yields = Listed; between = λ depth number k. indent depth ++ codes "} {\n" }

-- one that continues the statement of the op before it has `also`
abbrev pub item : List ℕ → Bool → OpText
item w also = record (plain w) { mark = if also then codes " also" else [] }

-- The line of an ELSEWHERE begins by closing the block before it, and the third region of a WHERE has no braces.
abbrev pub op_text_of : What → OpText
op_text_of (what.Declare name) = record (plain (codes "hlfir.declare")) { own = λ k. codes " \"" ++ name ++ codes "\"" }
op_text_of (what.Assign realloc) = record (plain (codes "hlfir.region_assign")) { mark = if realloc then codes " realloc" else []; between = λ depth number k. indent depth ++ codes "} to {\n" }
op_text_of what.Masked = record (plain (codes "hlfir.where")) { between = λ depth number k. if k == 1 then indent depth ++ codes "} do {\n" else [] }
op_text_of what.Elsewhere = record (plain (codes "} elsewhere")) { between = λ depth number k. indent depth ++ codes "} do {\n" }
op_text_of (what.Forall names) = record (plain (codes "hlfir.forall")) { yields = Triples; between = λ depth number k. index_text depth number (names_in (what.Forall names) k) }
op_text_of what.ForallMask = plain (codes "hlfir.forall_mask")
op_text_of what.Workshare = plain (codes "omp.workshare")
op_text_of what.DoLoop = plain (codes "fir.do_loop")
op_text_of (what.Allocmem also) = record (item (codes "fir.allocmem") also) { yields = Pairs }
op_text_of (what.Freemem also) = item (codes "fir.freemem") also
op_text_of (what.Read also) = item (codes "ws.read") also
op_text_of what.Yield = record (plain (codes "hlfir.yield")) { operands = λ yields os. values_text yields 0 os }
op_text_of what.YieldElement = plain (codes "hlfir.yield_element")
op_text_of (what.Constant value) = record (plain (codes "arith.constant")) { own = λ k. codes " " ++ constant_text k value }
op_text_of (what.Unary op) = plain (unary_word op)
op_text_of (what.Binary op) = plain (binary_word op)
op_text_of what.Select = plain (codes "arith.select")
op_text_of what.Load = plain (codes "hlfir.load")
op_text_of what.Boxed = plain (codes "hlfir.box")
op_text_of (what.Bound w dim) = record (plain (bound_word w)) { operands = λ yields os. values_text Listed 0 os ++ codes ", " ++ decimal dim }
op_text_of what.Size = plain (codes "hlfir.size")
op_text_of what.Allocated = plain (codes "hlfir.allocated")
op_text_of (what.Designate subs) = record (plain (codes "hlfir.designate")) { operands = λ yields os. designator_text subs os }
op_text_of what.Vector = record (plain (codes "hlfir.vector")) { operands = λ yields os. values_text Spaced 0 os }
op_text_of what.AsExpr = plain (codes "hlfir.as_expr")
op_text_of what.Elemental = plain (codes "hlfir.elemental")
op_text_of what.Apply = plain (codes "hlfir.apply")
op_text_of (what.Reduce r) = plain (reduction_word r)

abbrev pub word : What → List ℕ
word w = (op_text_of w).word

abbrev pub mark : What → List ℕ
mark w = (op_text_of w).mark

abbrev pub own_part : What → Option ValueKind → List ℕ
own_part w k = (op_text_of w).own k

abbrev pub operands_text : Form → What → List ValueId → List ℕ
operands_text yields w operands = (op_text_of w).operands yields operands

abbrev pub yields_in : What → Form
yields_in w = (op_text_of w).yields

abbrev pub between : ℕ → What → ℕ → ℕ → List ℕ
between depth w number k = (op_text_of w).between depth number k
