-- The items of an op by its parts, and loops that add them.
use Rattle.std.proofs.Common.{◌≡◌, refl, ap, sym, ◌∙◌, ℕ, suc, ◌+◌, ◌<◌, List, [], ◌∷◌, ◌++◌, length, drop, get_or, arith, append_assoc, add-one, length-append}
use Rattle.hlfir_ops.specs.declared.what.What.{What}
use Rattle.hlfir_ops.specs.declared.op.Op.{Op, out-Op, roll-Op, roll-out-Op}
use Rattle.hlfir_ops.specs.declared.op.Region.{Region, out-Region, roll-Region, roll-out-Region}
use Rattle.hlfir_ops.specs.declared.op.Op.TheBlock.{hidden-the_row-Region-0, hidden-the_row-Op-1}
use Rattle.hlfir_ops.specs.Opened.{trees_open}
use Rattle.hlfir_ops.specs.Numbers.{names_in, own_numbers, op_numbers, ops_numbers, numbers_of, numbers_in, op_order, ops_order, order_of, order_in}
use Rattle.hlfir_ops.proofs.Numbered.{ops_numbers-list, op_numbers-parts}
use Rattle.rule_tests.proofs.Appended.{front}
use Rattle.assign_schedule.specs.declared.item.Around.{Around}
use Rattle.assign_schedule.specs.Items.{Item, around_inside, around_in, own_items, op_items, regions_items, ops_items, items_of, items_in}
use Rattle.assign_schedule.proofs.Counted.{op_order-length}

-- ---- the items of an op by its parts

ops_order-list : (ops : List Op) → ops_order (hidden-the_row-Op-1 ops) ≡ order_of ops
unfolding trees_open
ops_order-list [] = refl
ops_order-list (op ∷ ops) = ap (λ l. op_order op ++ l) (ops_order-list ops)

ops_items-list : (a : Around) (p n : ℕ) (ops : List Op) → ops_items a p n (hidden-the_row-Op-1 ops) ≡ items_of a p n ops
unfolding trees_open
ops_items-list a p n [] = refl
ops_items-list a p n (op ∷ ops) = ap (λ l. op_items a p n op ++ l) (ops_items-list a (length (op_order op) + p) (op_numbers op + n) ops)

regions_front : (a : Around) (w : What) (k p n : ℕ) (region : Region) (regions : List Region) → regions_items a w k p n (hidden-the_row-Region-0 (roll-Region (out-Region region) ∷ regions)) ≡
    ops_items (around_in a w k n) p (length (names_in w k) + n) (hidden-the_row-Op-1 (out-Region region).ops)
    ++ regions_items a w (suc k) (length (ops_order (hidden-the_row-Op-1 (out-Region region).ops)) + p) ((length (names_in w k) + ops_numbers (hidden-the_row-Op-1 (out-Region region).ops)) + n) (hidden-the_row-Region-0 regions)
unfolding trees_open
regions_front a w k p n region regions = refl

regions_items-list : (a : Around) (w : What) (k p n : ℕ) (regions : List Region) → regions_items a w k p n (hidden-the_row-Region-0 regions) ≡ items_in a w k p n regions
unfolding trees_open
regions_items-list a w k p n [] = refl
regions_items-list a w k p n (region ∷ regions) =
    let ops = (out-Region region).ops in
    let first = items_of (around_in a w k n) p (length (names_in w k) + n) ops in
    ap (λ r. regions_items a w k p n (hidden-the_row-Region-0 (r ∷ regions))) (sym (roll-out-Region region))
    ∙ (regions_front a w k p n region regions
    ∙ (ap (λ l. l ++ regions_items a w (suc k) (length (ops_order (hidden-the_row-Op-1 ops)) + p) ((length (names_in w k) + ops_numbers (hidden-the_row-Op-1 ops)) + n) (hidden-the_row-Region-0 regions))
    (ops_items-list (around_in a w k n) p (length (names_in w k) + n) ops)
    ∙ (ap (λ l. first ++ regions_items a w (suc k) (length l + p) ((length (names_in w k) + ops_numbers (hidden-the_row-Op-1 ops)) + n) (hidden-the_row-Region-0 regions)) (ops_order-list ops)
    ∙ (ap (λ m. first ++ regions_items a w (suc k) (length (order_of ops) + p) ((length (names_in w k) + m) + n) (hidden-the_row-Region-0 regions)) (ops_numbers-list ops)
    ∙ ap (λ l. first ++ l) (regions_items-list a w (suc k) (length (order_of ops) + p) ((length (names_in w k) + numbers_of ops) + n) regions)))))

op_front : (a : Around) (p n : ℕ) (op : Op) → op_items a p n (roll-Op (out-Op op)) ≡
    own_items a p (roll-Op (out-Op op)) ++ regions_items (around_inside a p (roll-Op (out-Op op))) (out-Op op).what 0 (suc p) (own_numbers (out-Op op).kind + n) (hidden-the_row-Region-0 (out-Op op).regions)
unfolding trees_open
op_front a p n op = refl

pub op_items-parts : (a : Around) (p n : ℕ) (op : Op) → op_items a p n op ≡ own_items a p op ++ items_in (around_inside a p op) (out-Op op).what 0 (suc p) (own_numbers (out-Op op).kind + n) (out-Op op).regions
op_items-parts a p n op =
    ap (op_items a p n) (sym (roll-out-Op op))
    ∙ (op_front a p n op
    ∙ (ap (λ o. own_items a p o ++ regions_items (around_inside a p o) (out-Op op).what 0 (suc p) (own_numbers (out-Op op).kind + n) (hidden-the_row-Region-0 (out-Op op).regions)) (roll-out-Op op)
    ∙ ap (λ l. own_items a p op ++ l) (regions_items-list (around_inside a p op) (out-Op op).what 0 (suc p) (own_numbers (out-Op op).kind + n) (out-Op op).regions)))

-- ---- an op, and those inside it

pub op_walked : (a inner : Around) (p n : ℕ) (op : Op) (regions : List Region) (old own now : List Item) (at from : ℕ) → inner ≡ around_inside a p op → regions ≡ (out-Op op).regions → own ≡ old ++ own_items a p op →
    at ≡ 1 + p → from ≡ own_numbers (out-Op op).kind + n → now ≡ own ++ items_in inner (out-Op op).what 0 at from regions → now ≡ old ++ op_items a p n op
op_walked a inner p n op regions old own now at from around same one place number more =
    more
    ∙ (ap (λ b. own ++ items_in b (out-Op op).what 0 at from regions) around
    ∙ (ap (λ rs. own ++ items_in (around_inside a p op) (out-Op op).what 0 at from rs) same
    ∙ (ap (λ q. own ++ items_in (around_inside a p op) (out-Op op).what 0 q from (out-Op op).regions) (let e : at ≡ suc p = omega (arith, place) in e)
    ∙ (ap (λ m. own ++ items_in (around_inside a p op) (out-Op op).what 0 (suc p) m (out-Op op).regions) number
    ∙ (ap (λ l. l ++ items_in (around_inside a p op) (out-Op op).what 0 (suc p) (own_numbers (out-Op op).kind + n) (out-Op op).regions) one
    ∙ (append_assoc old (own_items a p op) (items_in (around_inside a p op) (out-Op op).what 0 (suc p) (own_numbers (out-Op op).kind + n) (out-Op op).regions)
    ∙ ap (λ l. old ++ l) (sym (op_items-parts a p n op))))))))

pub op_placed : (p : ℕ) (op : Op) (regions : List Region) (at next : ℕ) → regions ≡ (out-Op op).regions → at ≡ 1 + p → next ≡ length (order_in regions) + at → next ≡ length (op_order op) + p
op_placed p op regions at next same one more = omega (arith, one, more, op_order-length op, ap (λ rs. length (order_in rs)) same)

pub op_numbered : (n : ℕ) (op : Op) (regions : List Region) (from next : ℕ) → regions ≡ (out-Op op).regions → from ≡ own_numbers (out-Op op).kind + n → next ≡ numbers_in (out-Op op).what 0 regions + from → next ≡ op_numbers op + n
op_numbered n op regions from next same one more = omega (arith, one, more, op_numbers-parts op, ap (numbers_in (out-Op op).what 0) same)

-- ---- loops

pub next_op : (a : Around) (ops : List Op) (i : ℕ) (op : Op) (p n q m : ℕ) (old now : List Item) → i < length ops → op ≡ get_or ops i op → now ≡ old ++ op_items a p n op → q ≡ length (op_order op) + p → m ≡ op_numbers op + n →
    old ++ items_of a p n (drop i ops) ≡ now ++ items_of a q m (drop (i + 1) ops)
next_op a ops i op p n q m old now within is more place number =
    let rest = drop (i + 1) ops in
    ap (λ l. old ++ items_of a p n l) (front ops i op within is)
    ∙ (sym (append_assoc old (op_items a p n op) (items_of a (length (op_order op) + p) (op_numbers op + n) rest))
    ∙ (ap (λ l. l ++ items_of a (length (op_order op) + p) (op_numbers op + n) rest) (sym more)
    ∙ (ap (λ x. now ++ items_of a x (op_numbers op + n) rest) (sym place) ∙ ap (λ x. now ++ items_of a q x rest) (sym number))))

pub next_place : (ops : List Op) (i : ℕ) (op : Op) (p q whole : ℕ) → i < length ops → op ≡ get_or ops i op → q ≡ length (op_order op) + p → whole ≡ length (order_of (drop i ops)) + p → whole ≡ length (order_of (drop (i + 1) ops)) + q
next_place ops i op p q whole within is place sum =
    let split : length (order_of (drop i ops)) ≡ length (op_order op) + length (order_of (drop (i + 1) ops)) = ap (λ l. length (order_of l)) (front ops i op within is) ∙ length-append (op_order op) (order_of (drop (i + 1) ops)) in
    omega (arith, split, place, sum)

pub next_number : (ops : List Op) (i : ℕ) (op : Op) (n m whole : ℕ) → i < length ops → op ≡ get_or ops i op → m ≡ op_numbers op + n → whole ≡ numbers_of (drop i ops) + n → whole ≡ numbers_of (drop (i + 1) ops) + m
next_number ops i op n m whole within is number sum =
    let split : numbers_of (drop i ops) ≡ op_numbers op + numbers_of (drop (i + 1) ops) = ap numbers_of (front ops i op within is) in omega (arith, split, number, sum)

pub next_region : (a : Around) (w : What) (regions : List Region) (k : ℕ) (region : Region) (p n q m : ℕ) (old now : List Item) → k < length regions → region ≡ get_or regions k region →
    now ≡ old ++ items_of (around_in a w k n) p (length (names_in w k) + n) (out-Region region).ops → q ≡ length (order_of (out-Region region).ops) + p → m ≡ (length (names_in w k) + numbers_of (out-Region region).ops) + n →
    old ++ items_in a w k p n (drop k regions) ≡ now ++ items_in a w (k + 1) q m (drop (k + 1) regions)
next_region a w regions k region p n q m old now within is more place number =
    let rest = drop (k + 1) regions in
    let ops = (out-Region region).ops in
    ap (λ l. old ++ items_in a w k p n l) (front regions k region within is)
    ∙ (sym (append_assoc old (items_of (around_in a w k n) p (length (names_in w k) + n) ops) (items_in a w (suc k) (length (order_of ops) + p) ((length (names_in w k) + numbers_of ops) + n) rest))
    ∙ (ap (λ l. l ++ items_in a w (suc k) (length (order_of ops) + p) ((length (names_in w k) + numbers_of ops) + n) rest) (sym more)
    ∙ (ap (λ x. now ++ items_in a w x (length (order_of ops) + p) ((length (names_in w k) + numbers_of ops) + n) rest) (sym (add-one k))
    ∙ (ap (λ x. now ++ items_in a w (k + 1) x ((length (names_in w k) + numbers_of ops) + n) rest) (sym place) ∙ ap (λ x. now ++ items_in a w (k + 1) q x rest) (sym number)))))

pub next_region_place : (regions : List Region) (k : ℕ) (region : Region) (p q whole : ℕ) → k < length regions → region ≡ get_or regions k region → q ≡ length (order_of (out-Region region).ops) + p →
    whole ≡ length (order_in (drop k regions)) + p → whole ≡ length (order_in (drop (k + 1) regions)) + q
next_region_place regions k region p q whole within is place sum =
    let ops = (out-Region region).ops in
    let split : length (order_in (drop k regions)) ≡ length (order_of ops) + length (order_in (drop (k + 1) regions)) = ap (λ l. length (order_in l)) (front regions k region within is) ∙ length-append (order_of ops) (order_in (drop (k + 1) regions)) in
    omega (arith, split, place, sum)

pub next_region_number : (w : What) (regions : List Region) (k : ℕ) (region : Region) (n m whole : ℕ) → k < length regions → region ≡ get_or regions k region → m ≡ (length (names_in w k) + numbers_of (out-Region region).ops) + n →
    whole ≡ numbers_in w k (drop k regions) + n → whole ≡ numbers_in w (k + 1) (drop (k + 1) regions) + m
next_region_number w regions k region n m whole within is number sum =
    let rest = drop (k + 1) regions in
    let split : numbers_in w k (drop k regions) ≡ (length (names_in w k) + numbers_of (out-Region region).ops) + numbers_in w (k + 1) rest =
    ap (numbers_in w k) (front regions k region within is) ∙ ap (λ x. (length (names_in w k) + numbers_of (out-Region region).ops) + numbers_in w x rest) (sym (add-one k)) in omega (arith, split, number, sum)
