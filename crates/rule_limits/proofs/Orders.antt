-- Ops by reference, in printed order.
use Rattle.std.proofs.Common.{◌≡◌, refl, ap, sym, ◌∙◌, ℕ, ◌+◌, ◌<◌, List, [], ◌∷◌, ◌++◌, length, drop, get_or, append_assoc}
use Rattle.std.specs.Borrow.{Bor}
use Rattle.std.proofs.lemmas.List.{map-append}
use Rattle.hlfir_ops.specs.declared.op.Op.{Op, out-Op}
use Rattle.hlfir_ops.specs.declared.op.Region.{Region}
use Rattle.hlfir_ops.specs.Numbers.{op_order, order_of, order_in}
use Rattle.hlfir_ops.proofs.Order.{op_order-parts}
use Rattle.rule_tests.specs.Orders.{ops_of}
use Rattle.rule_tests.proofs.Appended.{next}

pub ruleset push_rules = (map-append)

-- a loop that appends each op and those inside it
pub next_op : (ops : List Op) (i : ℕ) (op : Op) (regions : List Region) (old pushed now : List (Bor Op)) → i < length ops → op ≡ get_or ops i op → regions ≡ (out-Op op).regions →
    ops_of pushed ≡ ops_of old ++ op ∷ [] → ops_of now ≡ ops_of pushed ++ order_in regions → ops_of old ++ order_of (drop i ops) ≡ ops_of now ++ order_of (drop (i + 1) ops)
next_op ops i op regions old pushed now within is same push more =
    next order_of op_order (λ _ _. refl) ops i op (ops_of old) (ops_of now) within is
    (more
    ∙ ap (λ rs. ops_of pushed ++ order_in rs) same
    ∙ ap (λ l. l ++ order_in (out-Op op).regions) push
    ∙ append_assoc (ops_of old) (op ∷ []) (order_in (out-Op op).regions)
    ∙ ap (λ l. ops_of old ++ l) (sym (op_order-parts op)))
