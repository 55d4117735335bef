-- How many ops stand inside an op, by its parts.
use Rattle.std.proofs.Common.{◌≡◌, ap, sym, ◌∙◌, ℕ, ◌+◌, ◌<◌, List, length, drop, get_or, arith, length-append, add-one}
use Rattle.hlfir_ops.specs.declared.op.Op.{Op, out-Op}
use Rattle.hlfir_ops.specs.declared.op.Region.{Region, out-Region}
use Rattle.hlfir_ops.specs.Numbers.{op_order, order_of, order_in}
use Rattle.hlfir_ops.proofs.Order.{op_order-parts}
use Rattle.rule_tests.proofs.Appended.{front}

pub op_order-length : (op : Op) → length (op_order op) ≡ length (order_in (out-Op op).regions) + 1
op_order-length op = ap length (op_order-parts op) ∙ sym (add-one (length (order_in (out-Op op).regions)))

-- loops that add them up
pub next_op : (ops : List Op) (i : ℕ) (op : Op) (regions : List Region) (before inside count whole : ℕ) → i < length ops → op ≡ get_or ops i op → regions ≡ (out-Op op).regions → inside ≡ length (order_in regions) →
    count ≡ inside + (1 + before) → before + length (order_of (drop i ops)) ≡ whole → count + length (order_of (drop (i + 1) ops)) ≡ whole
next_op ops i op regions before inside count whole within is same counted more sum =
    let rest = length (order_of (drop (i + 1) ops)) in
    let split : length (order_of (drop i ops)) ≡ length (op_order op) + rest = ap (λ l. length (order_of l)) (front ops i op within is) ∙ length-append (op_order op) (order_of (drop (i + 1) ops)) in
    let own : length (op_order op) ≡ inside + 1 = op_order-length op ∙ (ap (λ rs. length (order_in rs) + 1) (sym same) ∙ ap (λ n. n + 1) (sym counted)) in omega (arith, split, own, more, sum)

pub next_region : (regions : List Region) (i : ℕ) (region : Region) (ops : List Op) (before inside count whole : ℕ) → i < length regions → region ≡ get_or regions i region → ops ≡ (out-Region region).ops → inside ≡ length (order_of ops) →
    count ≡ inside + before → before + length (order_in (drop i regions)) ≡ whole → count + length (order_in (drop (i + 1) regions)) ≡ whole
next_region regions i region ops before inside count whole within is same counted more sum =
    let rest = length (order_in (drop (i + 1) regions)) in
    let split : length (order_in (drop i regions)) ≡ length (order_of (out-Region region).ops) + rest = ap (λ l. length (order_in l)) (front regions i region within is) ∙ length-append (order_of (out-Region region).ops) (order_in (drop (i + 1) regions)) in
    let own : length (order_of (out-Region region).ops) ≡ inside = ap (λ l. length (order_of l)) (sym same) ∙ sym counted in omega (arith, split, own, more, sum)
