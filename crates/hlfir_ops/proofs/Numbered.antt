-- The numbers that an op takes, by its fields.
use Rattle.std.proofs.Common.{◌≡◌, refl, sym, ap, ◌∙◌, ℕ, suc, ◌+◌, List, [], ◌∷◌, ◌++◌, length, Option, arith, add_assoc, zero-add, add-zero}
use Rattle.hlfir_ops.specs.declared.kinds.ValueKind.{ValueKind}
use Rattle.hlfir_ops.specs.declared.what.What.{What}
use Rattle.hlfir_ops.specs.declared.op.ValueId.{ValueId}
use Rattle.hlfir_ops.specs.declared.op.Op.{Op, Op-F, out-Op, roll-Op, roll-out-Op, out-roll-Op}
use Rattle.hlfir_ops.specs.declared.op.Region.{Region, out-Region, roll-Region, roll-out-Region, out-roll-Region}
use Rattle.hlfir_ops.specs.declared.op.Op.TheBlock.{hidden-the_row-Region-0, hidden-the_row-Op-1}
use Rattle.hlfir_ops.specs.Opened.{trees_open}
use Rattle.hlfir_ops.specs.Trees.{op_of, region_of}
use Rattle.hlfir_ops.specs.Numbers.{names_in, own_numbers, op_numbers, regions_numbers, ops_numbers, numbers_of, numbers_in}

pub ops_numbers-list : (ops : List Op) → ops_numbers (hidden-the_row-Op-1 ops) ≡ numbers_of ops
unfolding trees_open
ops_numbers-list [] = refl
ops_numbers-list (op ∷ ops) = ap (λ n. op_numbers op + n) (ops_numbers-list ops)

regions_front : (what : What) (k : ℕ) (region : Region) (regions : List Region) → regions_numbers what k (hidden-the_row-Region-0 (roll-Region (out-Region region) ∷ regions)) ≡
    (length (names_in what k) + ops_numbers (hidden-the_row-Op-1 (out-Region region).ops)) + regions_numbers what (suc k) (hidden-the_row-Region-0 regions)
unfolding trees_open
regions_front what k region regions = refl

regions_numbers-list : (what : What) (k : ℕ) (regions : List Region) → regions_numbers what k (hidden-the_row-Region-0 regions) ≡ numbers_in what k regions
unfolding trees_open
regions_numbers-list what k [] = refl
regions_numbers-list what k (region ∷ regions) =
    ap (λ r. regions_numbers what k (hidden-the_row-Region-0 (r ∷ regions))) (sym (roll-out-Region region)) ∙ (regions_front what k region regions ∙
    (ap (λ n. (length (names_in what k) + n) + regions_numbers what (suc k) (hidden-the_row-Region-0 regions)) (ops_numbers-list (out-Region region).ops) ∙
    ap (λ n. (length (names_in what k) + numbers_of (out-Region region).ops) + n) (regions_numbers-list what (suc k) regions)))

op_front : (op : Op) → op_numbers (roll-Op (out-Op op)) ≡ own_numbers (out-Op op).kind + regions_numbers (out-Op op).what 0 (hidden-the_row-Region-0 (out-Op op).regions)
unfolding trees_open
op_front op = refl

pub op_numbers-parts : (op : Op) → op_numbers op ≡ own_numbers (out-Op op).kind + numbers_in (out-Op op).what 0 (out-Op op).regions
op_numbers-parts op = ap op_numbers (sym (roll-out-Op op)) ∙ (op_front op ∙ ap (λ n. own_numbers (out-Op op).kind + n) (regions_numbers-list (out-Op op).what 0 (out-Op op).regions))

pub op_numbers-op_of : (what : What) (line : ℕ) (operands : List ValueId) (kind : Option ValueKind) (regions : List Region) → op_numbers (op_of what line operands kind regions) ≡ own_numbers kind + numbers_in what 0 regions
op_numbers-op_of what line operands kind regions =
    let whole : Op-F Op Region = record { what = what; line = line; operands = operands; kind = kind; regions = regions } in
    op_numbers-parts (roll-Op whole) ∙ ap (λ f. own_numbers f.kind + numbers_in f.what 0 f.regions) (out-roll-Op whole)

pub numbers_of-append : (a b : List Op) → numbers_of (a ++ b) ≡ numbers_of a + numbers_of b
numbers_of-append [] b = sym (zero-add (numbers_of b))
numbers_of-append (op ∷ a) b = ap (λ n. op_numbers op + n) (numbers_of-append a b) ∙ sym (add_assoc (op_numbers op) (numbers_of a) (numbers_of b))

pub numbers_of-push : (ops : List Op) (op : Op) → numbers_of (ops ++ op ∷ []) ≡ numbers_of ops + op_numbers op
numbers_of-push ops op = numbers_of-append ops (op ∷ []) ∙ ap (λ n. numbers_of ops + n) (add-zero (op_numbers op))

suc_moves : (a b : ℕ) → suc a + b ≡ a + suc b
suc_moves a b = omega arith

pub numbers_in-push : (what : What) (k : ℕ) (regions : List Region) (ops : List Op) → numbers_in what k (regions ++ region_of ops ∷ []) ≡ numbers_in what k regions + (length (names_in what (k + length regions)) + numbers_of ops)
numbers_in-push what k [] ops =
    add-zero (length (names_in what k) + numbers_of (out-Region (region_of ops)).ops) ∙ (ap (λ f. length (names_in what k) + numbers_of f.ops) (out-roll-Region (record { ops = ops })) ∙
    (ap (λ n. length (names_in what n) + numbers_of ops) (sym (add-zero k)) ∙ sym (zero-add (length (names_in what (k + 0)) + numbers_of ops))))
numbers_in-push what k (region ∷ regions) ops =
    let here = length (names_in what k) + numbers_of (out-Region region).ops in
    ap (λ n. here + n) (numbers_in-push what (suc k) regions ops) ∙ (sym (add_assoc here (numbers_in what (suc k) regions) (length (names_in what (suc k + length regions)) + numbers_of ops)) ∙
    ap (λ n. (here + numbers_in what (suc k) regions) + (length (names_in what n) + numbers_of ops)) (suc_moves k (length regions)))
