-- The values of ops that stand one after another, among all values.
use Rattle.std.proofs.Common.{◌≡◌, refl, sym, ap, ◌∙◌, subst, ℕ, suc, ◌+◌, List, [], ◌∷◌, ◌++◌, length, map, Option, Some, None, append_assoc, append-nil, arith}
use Rattle.std.proofs.lemmas.List.{length-append, length-map}
use Rattle.hlfir_ops.specs.declared.kinds.ValueKind.{ValueKind}
use Rattle.hlfir_ops.specs.declared.what.What.{What}
use Rattle.hlfir_ops.specs.declared.op.ValueId.{ValueId}
use Rattle.hlfir_ops.specs.declared.op.Op.{Op, Op-F, roll-Op, out-roll-Op}
use Rattle.hlfir_ops.specs.declared.op.Region.{Region, out-roll-Region}
use Rattle.hlfir_ops.specs.Trees.{op_of, region_of}
use Rattle.hlfir_ops.specs.Numbers.{names_in, own_numbers, numbers_of}
use Rattle.hlfir_ops.specs.RulesValues.{Value, own_values, op_values, values_of, values_in, value_of_name}
use Rattle.hlfir_ops.proofs.Valued.{op_values-parts}
use Rattle.kind_laws.specs.Found.{Holds}
use Rattle.kind_laws.proofs.Counted.{values_of-length}

-- a part of all values, from this number on
pub record HoldsValues (vs : List Value) (n : ℕ) (part : List Value) : Type 0 where
  pub before : List Value
  pub after : List Value
  pub whole : vs ≡ before ++ (part ++ after)
  pub count : length before ≡ n

module _ (vs : List Value) where
  pub part-first : (n : ℕ) (xs ys : List Value) → HoldsValues vs n (xs ++ ys) → HoldsValues vs n xs
  part-first n xs ys h = record { before = h.before; after = ys ++ h.after; whole = h.whole ∙ ap (λ l. h.before ++ l) (append_assoc xs ys h.after); count = h.count }

  pub part-rest : (n m : ℕ) (xs ys : List Value) → m ≡ n + length xs → HoldsValues vs n (xs ++ ys) → HoldsValues vs m ys
  part-rest n m xs ys e h = record {
    before = h.before ++ xs;
    after = h.after;
    whole = h.whole ∙ (ap (λ l. h.before ++ l) (append_assoc xs ys h.after) ∙ sym (append_assoc h.before xs (ys ++ h.after)));
    count = omega (arith, length-append h.before xs, h.count, e);
  }

  pub part-of : (n : ℕ) (ops : List Op) → Holds vs n ops → HoldsValues vs n (values_of ops)
  part-of n ops h = record { before = h.before; after = h.after; whole = h.whole; count = h.count }

  pub of-part : (n : ℕ) (ops : List Op) → HoldsValues vs n (values_of ops) → Holds vs n ops
  of-part n ops h = record { before = h.before; after = h.after; whole = h.whole; count = h.count }

  -- ---- an op by its fields

  values-op : (w : What) (line : ℕ) (os : List ValueId) (k : Option ValueKind) (rs : List Region) → values_of (op_of w line os k rs ∷ []) ≡ own_values w k ++ values_in w 0 rs
  values-op w line os k rs =
      let whole : Op-F Op Region = record { what = w; line = line; operands = os; kind = k; regions = rs } in
      append-nil (op_values (roll-Op whole)) ∙ (op_values-parts (roll-Op whole) ∙ ap (λ f. own_values f.what f.kind ++ values_in f.what 0 f.regions) (out-roll-Op whole))

  pub regions-there : (n : ℕ) (w : What) (line : ℕ) (os : List ValueId) (k : Option ValueKind) (rs : List Region) → Holds vs n (op_of w line os k rs ∷ []) → HoldsValues vs (n + own_numbers k) (values_in w 0 rs)
  regions-there n w line os k rs h =
      part-rest n (n + own_numbers k) (own_values w k) (values_in w 0 rs) (own_count k) (subst (HoldsValues vs n) (values-op w line os k rs) (part-of n (op_of w line os k rs ∷ []) h))
    where
      own_count : (k : Option ValueKind) → n + own_numbers k ≡ n + length (own_values w k)
      own_count (Some x) = refl
      own_count None = refl

  values-region : (w : What) (k : ℕ) (ops : List Op) (rs : List Region) → values_in w k (region_of ops ∷ rs) ≡ (map value_of_name (names_in w k) ++ values_of ops) ++ values_in w (suc k) rs
  values-region w k ops rs = ap (λ r. (map value_of_name (names_in w k) ++ values_of r.ops) ++ values_in w (suc k) rs) (out-roll-Region (record { ops = ops }))

  pub names-there : (n : ℕ) (w : What) (k : ℕ) (ops : List Op) (rs : List Region) → HoldsValues vs n (values_in w k (region_of ops ∷ rs)) → HoldsValues vs n (map value_of_name (names_in w k))
  names-there n w k ops rs h =
      let names = map value_of_name (names_in w k) in
      part-first n names (values_of ops) (part-first n (names ++ values_of ops) (values_in w (suc k) rs) (subst (HoldsValues vs n) (values-region w k ops rs) h))

  pub region-there : (n : ℕ) (w : What) (k : ℕ) (ops : List Op) (rs : List Region) → HoldsValues vs n (values_in w k (region_of ops ∷ rs)) → Holds vs (n + length (names_in w k)) ops
  region-there n w k ops rs h =
      let names = map value_of_name (names_in w k) in
      of-part (n + length (names_in w k)) ops
      (part-rest n (n + length (names_in w k)) names (values_of ops) (omega (arith, length-map (names_in w k) value_of_name))
      (part-first n (names ++ values_of ops) (values_in w (suc k) rs) (subst (HoldsValues vs n) (values-region w k ops rs) h)))

  pub rest-there : (n : ℕ) (w : What) (k : ℕ) (ops : List Op) (rs : List Region) → HoldsValues vs n (values_in w k (region_of ops ∷ rs)) → HoldsValues vs (n + (length (names_in w k) + numbers_of ops)) (values_in w (suc k) rs)
  rest-there n w k ops rs h =
      let names = map value_of_name (names_in w k) in
      part-rest n (n + (length (names_in w k) + numbers_of ops)) (names ++ values_of ops) (values_in w (suc k) rs)
      (omega (arith, length-append names (values_of ops), length-map (names_in w k) value_of_name, values_of-length ops))
      (subst (HoldsValues vs n) (values-region w k ops rs) h)
