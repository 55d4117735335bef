-- Costs of lowerings one after another, and of single ops.
use Rattle.std.proofs.Common.{◌≡◌, sym, subst, ℕ, suc, ◌+◌, ◌≤◌, Bool, true, List, [], ◌∷◌, ◌++◌, length, Option, Some, None, arith, if◌then◌else◌}
use Rattle.hlfir_ops.specs.declared.kinds.ValueKind.{ValueKind}
use Rattle.hlfir_ops.specs.declared.what.What.{What}
use Rattle.hlfir_ops.specs.declared.op.ValueId.{ValueId}
use Rattle.hlfir_ops.specs.declared.op.Op.{Op}
use Rattle.hlfir_ops.specs.Trees.{op_of, region_of}
use Rattle.hlfir_ops.specs.Numbers.{numbers_of}
use Rattle.hlfir_ops.specs.RulesValues.{Value}
use Rattle.lower_values.specs.Scopes.{Scope}
use Rattle.lower_values.specs.Lowerings.{Lowering, done, ◌>>=◌ as ◌then◌, giving, acting}
use Rattle.limit_laws.proofs.Costs.{is_light, heavy, size, reduces, wholes, Costs}
use Rattle.limit_laws.proofs.Totals.{total-append, total-op, total-region}

module _ (vs : List Value) where
  pub costs-none : Costs vs [] 0 0 0
  costs-none = record { light = omega arith; size = omega arith; reductions = omega arith; wholes = omega arith }

  pub costs-append : (xs ys : List Op) (z r w z' r' w' : ℕ) → Costs vs xs z r w → Costs vs ys z' r' w' → Costs vs (xs ++ ys) (z + z') (r + r') (w + w')
  costs-append xs ys z r w z' r' w' a b = record {
    light = omega (arith, total-append heavy xs ys, a.light, b.light);
    size = omega (arith, total-append size xs ys, a.size, b.size);
    reductions = omega (arith, total-append reduces xs ys, a.reductions, b.reductions);
    wholes = omega (arith, total-append (wholes vs) xs ys, a.wholes, b.wholes);
  }

  pub costs-weaker : (xs : List Op) (z r w z' r' w' : ℕ) → Costs vs xs z r w → z ≤ z' → r ≤ r' → w ≤ w' → Costs vs xs z' r' w'
  costs-weaker xs z r w z' r' w' a hz hr hw = record {
    light = a.light;
    size = omega (arith, a.size, hz);
    reductions = omega (arith, a.reductions, hr);
    wholes = omega (arith, a.wholes, hw);
  }

  none_heavy : (b : Bool) → b ≡ true → (if b then 0 else 1) ≤ 0
  none_heavy b h = subst (λ c. (if c then 0 else 1) ≤ 0) (sym h) (omega arith)

  -- an op without regions
  pub costs-op : (w : What) (line : ℕ) (os : List ValueId) (k : Option ValueKind) → is_light w os ≡ true → Costs vs (op_of w line os k [] ∷ []) (suc (length os)) (reduces w os) (wholes vs w os)
  costs-op w line os k h = record {
    light = omega (arith, total-op heavy w line os k [], none_heavy (is_light w os) h);
    size = omega (arith, total-op size w line os k []);
    reductions = omega (arith, total-op reduces w line os k []);
    wholes = omega (arith, total-op (wholes vs) w line os k []);
  }

  -- an op with one region
  pub costs-around : (w : What) (line : ℕ) (os : List ValueId) (k : Option ValueKind) (ops : List Op) (z r v : ℕ) → is_light w os ≡ true → Costs vs ops z r v →
      Costs vs (op_of w line os k (region_of ops ∷ []) ∷ []) (suc (length os) + z) (reduces w os + r) (wholes vs w os + v)
  costs-around w line os k ops z r v h a = record {
    light = omega (arith, total-op heavy w line os k (region_of ops ∷ []), total-region heavy ops [], none_heavy (is_light w os) h, a.light);
    size = omega (arith, total-op size w line os k (region_of ops ∷ []), total-region size ops [], a.size);
    reductions = omega (arith, total-op reduces w line os k (region_of ops ∷ []), total-region reduces ops [], a.reductions);
    wholes = omega (arith, total-op (wholes vs) w line os k (region_of ops ∷ []), total-region (wholes vs) ops [], a.wholes);
  }

  -- ---- lowerings

  abbrev pub Spends : {A : Type 0} → Lowering A → Scope → ℕ → ℕ → ℕ → ℕ → Type 0
  Spends p s n z r w = Costs vs (p s n).ops z r w

  pub spends-done : {A : Type 0} (x : A) (s : Scope) (n : ℕ) → Spends (done x) s n 0 0 0
  unfolding done
  spends-done x s n = costs-none

  pub spends-then : {A B : Type 0} (p : Lowering A) (q : A → Lowering B) (s : Scope) (n z r w z' r' w' : ℕ) → Spends p s n z r w → Spends (q (p s n).made) s (n + numbers_of (p s n).ops) z' r' w' → Spends (p then q) s n (z + z') (r + r') (w + w')
  unfolding ◌then◌
  spends-then p q s n z r w z' r' w' a b = costs-append (p s n).ops (q (p s n).made s (n + numbers_of (p s n).ops)).ops z r w z' r' w' a b

  -- one lowering, then another, and what is made of both
  pub spends-both : {A B C : Type 0} (p : Lowering A) (q : Lowering B) (f : A → B → C) (s : Scope) (n z r w z' r' w' : ℕ) → Spends p s n z r w → Spends q s (n + numbers_of (p s n).ops) z' r' w' →
      Spends (p then (λ x. q then (λ y. done (f x y)))) s n (z + (z' + 0)) (r + (r' + 0)) (w + (w' + 0))
  spends-both p q f s n z r w z' r' w' a b =
      let m = n + numbers_of (p s n).ops in
      spends-then p (λ x. q then (λ y. done (f x y))) s n z r w (z' + 0) (r' + 0) (w' + 0) a
      (spends-then q (λ y. done (f (p s n).made y)) s m z' r' w' 0 0 0 b (spends-done (f (p s n).made (q s m).made) s (m + numbers_of (q s m).ops)))

  pub spends-giving : (w : What) (os : List ValueId) (k : ValueKind) (s : Scope) (n : ℕ) → is_light w os ≡ true → Spends (giving w os k) s n (suc (length os)) (reduces w os) (wholes vs w os)
  unfolding giving
  spends-giving w os k s n h = costs-op w s.line os (Some k) h

  pub spends-acting : (w : What) (os : List ValueId) (s : Scope) (n : ℕ) → is_light w os ≡ true → Spends (acting w os) s n (suc (length os)) (reduces w os) (wholes vs w os)
  unfolding acting
  spends-acting w os s n h = costs-op w s.line os None h
