-- Totals over ops one after another, and over an op by its parts.
use Rattle.std.proofs.Common.{◌≡◌, sym, ap, ◌∙◌, ℕ, ◌+◌, List, [], ◌∷◌, ◌++◌, Option, add_assoc, zero-add, append-nil}
use Rattle.hlfir_ops.specs.declared.kinds.ValueKind.{ValueKind}
use Rattle.hlfir_ops.specs.declared.what.What.{What}
use Rattle.hlfir_ops.specs.declared.op.ValueId.{ValueId}
use Rattle.hlfir_ops.specs.declared.op.Op.{Op, Op-F, roll-Op, out-roll-Op}
use Rattle.hlfir_ops.specs.declared.op.Region.{Region, out-roll-Region}
use Rattle.hlfir_ops.specs.Trees.{op_of, region_of}
use Rattle.hlfir_ops.specs.Numbers.{op_order, order_of, order_in}
use Rattle.hlfir_ops.proofs.Order.{op_order-parts, order_of-append}
use Rattle.limit_laws.proofs.Costs.{Weight, weight, sum_of, total, total_in}

pub sum-append : (g : Weight) (xs ys : List Op) → sum_of g (xs ++ ys) ≡ sum_of g xs + sum_of g ys
sum-append g [] ys = sym (zero-add (sum_of g ys))
sum-append g (x ∷ xs) ys = ap (λ n. weight g x + n) (sum-append g xs ys) ∙ sym (add_assoc (weight g x) (sum_of g xs) (sum_of g ys))

pub total-append : (g : Weight) (xs ys : List Op) → total g (xs ++ ys) ≡ total g xs + total g ys
total-append g xs ys = ap (sum_of g) (order_of-append xs ys) ∙ sum-append g (order_of xs) (order_of ys)

-- an op by its fields
pub order-op : (w : What) (line : ℕ) (os : List ValueId) (k : Option ValueKind) (rs : List Region) → order_of (op_of w line os k rs ∷ []) ≡ op_of w line os k rs ∷ order_in rs
order-op w line os k rs =
    let whole : Op-F Op Region = record { what = w; line = line; operands = os; kind = k; regions = rs } in
    append-nil (op_order (roll-Op whole)) ∙ (op_order-parts (roll-Op whole) ∙ ap (λ f. roll-Op whole ∷ order_in f.regions) (out-roll-Op whole))

pub weight-op : (g : Weight) (w : What) (line : ℕ) (os : List ValueId) (k : Option ValueKind) (rs : List Region) → weight g (op_of w line os k rs) ≡ g w os
weight-op g w line os k rs =
    let whole : Op-F Op Region = record { what = w; line = line; operands = os; kind = k; regions = rs } in ap (λ f. g f.what f.operands) (out-roll-Op whole)

pub total-op : (g : Weight) (w : What) (line : ℕ) (os : List ValueId) (k : Option ValueKind) (rs : List Region) → total g (op_of w line os k rs ∷ []) ≡ g w os + total_in g rs
total-op g w line os k rs = ap (sum_of g) (order-op w line os k rs) ∙ ap (λ n. n + total_in g rs) (weight-op g w line os k rs)

pub order-region : (ops : List Op) (rs : List Region) → order_in (region_of ops ∷ rs) ≡ order_of ops ++ order_in rs
order-region ops rs = ap (λ r. order_of r.ops ++ order_in rs) (out-roll-Region (record { ops = ops }))

pub total-region : (g : Weight) (ops : List Op) (rs : List Region) → total_in g (region_of ops ∷ rs) ≡ total g ops + total_in g rs
total-region g ops rs = ap (sum_of g) (order-region ops rs) ∙ sum-append g (order_of ops) (order_in rs)
