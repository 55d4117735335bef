-- The text of an op by its fields, and the texts of lists step by step.
use Rattle.std.proofs.Common.{◌≡◌, refl, sym, ap, ◌∙◌, ℕ, suc, ◌+◌, List, [], ◌∷◌, ◌++◌, length, arith, append_assoc}
use Rattle.hlfir_ops.specs.declared.what.What.{What}
use Rattle.hlfir_ops.specs.declared.op.Op.{Op, out-Op, roll-Op, roll-out-Op}
use Rattle.hlfir_ops.specs.declared.op.Region.{Region, out-Region, roll-Region, roll-out-Region}
use Rattle.hlfir_ops.specs.declared.op.Op.TheBlock.{hidden-the_row-Region-0, hidden-the_row-Op-1}
use Rattle.hlfir_ops.specs.Opened.{trees_open}
use Rattle.hlfir_ops.specs.Numbers.{names_in, own_numbers, op_numbers, ops_numbers, numbers_of, numbers_in}
use Rattle.hlfir_ops.proofs.Numbered.{ops_numbers-list, op_numbers-parts}
use Rattle.hlfir_text.specs.declared.form.Form.{Form}
use Rattle.hlfir_text.specs.OpText.{yields_in}
use Rattle.hlfir_text.specs.ModuleText.{head_text, lone_part, opening, depth_in, count, op_text, regions_text, ops_text, lines_of, region_lines, lines_in}

-- ---- trees

ops_text-list : (depth : ℕ) (yields : Form) (number : ℕ) (ops : List Op) → ops_text depth yields number (hidden-the_row-Op-1 ops) ≡ lines_of depth yields number ops
unfolding trees_open
ops_text-list depth yields number [] = refl
ops_text-list depth yields number (op ∷ ops) = ap (λ t. op_text depth yields number op ++ t) (ops_text-list depth yields (number + op_numbers op) ops)

regions_front : (depth : ℕ) (w : What) (number k : ℕ) (region : Region) (regions : List Region) → regions_text depth w number k (hidden-the_row-Region-0 (roll-Region (out-Region region) ∷ regions)) ≡
    opening depth w number k ++ ops_text (depth_in depth w k) (yields_in w) (number + length (names_in w k)) (hidden-the_row-Op-1 (out-Region region).ops) ++
    regions_text depth w (number + length (names_in w k) + ops_numbers (hidden-the_row-Op-1 (out-Region region).ops)) (suc k) (hidden-the_row-Region-0 regions)
unfolding trees_open
regions_front depth w number k region regions = refl

regions_text-list : (depth : ℕ) (w : What) (number k : ℕ) (regions : List Region) → regions_text depth w number k (hidden-the_row-Region-0 regions) ≡ lines_in depth w number k regions
unfolding trees_open
regions_text-list depth w number k [] = refl
regions_text-list depth w number k (region ∷ regions) =
    let ops = (out-Region region).ops in
    let first = number + length (names_in w k) in
    ap (λ r. regions_text depth w number k (hidden-the_row-Region-0 (r ∷ regions))) (sym (roll-out-Region region)) ∙ (regions_front depth w number k region regions ∙
    (ap (λ t. opening depth w number k ++ t ++ regions_text depth w (first + ops_numbers (hidden-the_row-Op-1 ops)) (suc k) (hidden-the_row-Region-0 regions)) (ops_text-list (depth_in depth w k) (yields_in w) first ops) ∙
    (ap (λ n. region_lines depth w number k ops ++ regions_text depth w (first + n) (suc k) (hidden-the_row-Region-0 regions)) (ops_numbers-list ops) ∙
    ap (λ t. region_lines depth w number k ops ++ t) (regions_text-list depth w (first + numbers_of ops) (suc k) regions))))

count-list : (regions : List Region) → count (hidden-the_row-Region-0 regions) ≡ length regions
unfolding trees_open
count-list [] = refl
count-list (r ∷ regions) = ap suc (count-list regions)

op_front : (depth : ℕ) (yields : Form) (number : ℕ) (op : Op) → op_text depth yields number (roll-Op (out-Op op)) ≡
    head_text depth yields number (out-Op op).what (out-Op op).line (out-Op op).operands (out-Op op).kind ++ lone_part (out-Op op).what (count (hidden-the_row-Region-0 (out-Op op).regions)) ++
    regions_text depth (out-Op op).what (number + own_numbers (out-Op op).kind) 0 (hidden-the_row-Region-0 (out-Op op).regions)
unfolding trees_open
op_front depth yields number op = refl

op_text-parts : (depth : ℕ) (yields : Form) (number : ℕ) (op : Op) → op_text depth yields number op ≡
    head_text depth yields number (out-Op op).what (out-Op op).line (out-Op op).operands (out-Op op).kind ++ lone_part (out-Op op).what (length (out-Op op).regions) ++ lines_in depth (out-Op op).what (number + own_numbers (out-Op op).kind) 0 (out-Op op).regions
op_text-parts depth yields number op =
    let f = out-Op op in
    let head = head_text depth yields number f.what f.line f.operands f.kind in
    ap (op_text depth yields number) (sym (roll-out-Op op)) ∙ (op_front depth yields number op ∙
    (ap (λ n. head ++ lone_part f.what n ++ regions_text depth f.what (number + own_numbers f.kind) 0 (hidden-the_row-Region-0 f.regions)) (count-list f.regions) ∙
    ap (λ t. head ++ lone_part f.what (length f.regions) ++ t) (regions_text-list depth f.what (number + own_numbers f.kind) 0 f.regions)))

-- ---- an op

pub op_put : (depth : ℕ) (yields : Form) (number first own size : ℕ) (op : Op) (regions : List Region) (before head word lone after : List ℕ) → head ≡ before ++ head_text depth yields number (out-Op op).what (out-Op op).line (out-Op op).operands (out-Op op).kind →
    size ≡ length (out-Op op).regions → word ≡ lone_part (out-Op op).what size → lone ≡ head ++ word → own ≡ own_numbers (out-Op op).kind → first ≡ number + own → regions ≡ (out-Op op).regions → after ≡ lone ++ lines_in depth (out-Op op).what first 0 regions →
    after ≡ before ++ op_text depth yields number op
op_put depth yields number first own size op regions before head word lone after h s w l o f r a =
    let p = out-Op op in
    let front = head_text depth yields number p.what p.line p.operands p.kind in
    let said = lone_part p.what (length p.regions) in
    let rest = lines_in depth p.what (number + own_numbers p.kind) 0 p.regions in
    let start : first ≡ number + own_numbers p.kind = f ∙ ap (λ n. number + n) o in
    let line : lone ≡ before ++ (front ++ said) = l ∙ (ap (λ t. head ++ t) (w ∙ ap (lone_part p.what) s) ∙ (ap (λ t. t ++ said) h ∙ append_assoc before front said)) in
    let lines : lines_in depth p.what first 0 regions ≡ rest = ap (λ n. lines_in depth p.what n 0 regions) start ∙ ap (lines_in depth p.what (number + own_numbers p.kind) 0) r in
    a ∙ (ap (λ t. lone ++ t) lines ∙ (ap (λ t. t ++ rest) line ∙ (append_assoc before (front ++ said) rest ∙ ap (λ t. before ++ t) (sym (op_text-parts depth yields number op)))))

pub op_counted : (number first own next : ℕ) (op : Op) (regions : List Region) → own ≡ own_numbers (out-Op op).kind → first ≡ number + own → regions ≡ (out-Op op).regions → next ≡ first + numbers_in (out-Op op).what 0 regions → next ≡ number + op_numbers op
op_counted number first own next op regions o f r n = omega (arith, o, f, n, ap (numbers_in (out-Op op).what 0) r, op_numbers-parts op)
