-- What lowerings make, where the values of their ops stand in a table of values.
use Rattle.std.proofs.Common.{◌≡◌, refl, sym, ap, ◌∙◌, ℕ, ◌+◌, false, ◌&&◌, List, [], ◌∷◌, ◌++◌, length, Some, slice_get, append_assoc, arith}
use Rattle.std.proofs.lemmas.List.{length-append}
use Rattle.std.proofs.lemmas.Option.{slice_get_read}
use Rattle.std.proofs.Math.Seq.{get_or-append_seam}
use Rattle.hlfir_ops.specs.declared.kinds.ValueKind.{ValueKind}
use Rattle.hlfir_ops.specs.declared.what.What.{What}
use Rattle.hlfir_ops.specs.declared.op.ValueId.{ValueId}
use Rattle.hlfir_ops.specs.declared.op.Op.{Op, Op-F, roll-Op, out-roll-Op}
use Rattle.hlfir_ops.specs.declared.op.Region.{Region}
use Rattle.hlfir_ops.specs.Trees.{op_of}
use Rattle.hlfir_ops.specs.Numbers.{numbers_of}
use Rattle.hlfir_ops.specs.RulesValues.{Value, source_of, is_declares, own_values, values_of, values_in, value_at, is_allocatable}
use Rattle.hlfir_ops.proofs.Valued.{values_of-append, op_values-parts}
use Rattle.lower_values.specs.declared.operand.Operand.{Operand}
use Rattle.lower_values.specs.Scopes.{Scope}
use Rattle.lower_values.specs.Lowerings.{Lowering, done, ◌>>=◌, scoped, giving, giving_by, regions_from}
use Rattle.kind_laws.specs.Found.{Holds, Found}
use Rattle.kind_laws.proofs.Counted.{values_of-length}

-- ---- lists of values

pub value_here : (before rest : List Value) (x : Value) → slice_get (before ++ x ∷ rest) (length before) ≡ Some x
value_here before rest x =
    slice_get_read (before ++ x ∷ rest) (length (before ++ x ∷ rest)) (length before) x refl (let all = length-append before (x ∷ rest) in omega arith) (sym (get_or-append_seam before x rest x))

module _ (vs : List Value) where
  pub holds_first : (n : ℕ) (xs ys : List Op) → Holds vs n (xs ++ ys) → Holds vs n xs
  holds_first n xs ys h = record {
    before = h.before;
    after = values_of ys ++ h.after;
    whole = h.whole ∙ ap (λ l. h.before ++ l) (ap (λ l. l ++ h.after) (values_of-append xs ys) ∙ append_assoc (values_of xs) (values_of ys) h.after);
    count = h.count;
  }

  pub holds_after : (n : ℕ) (xs ys : List Op) → Holds vs n (xs ++ ys) → Holds vs (n + numbers_of xs) ys
  holds_after n xs ys h = record {
    before = h.before ++ values_of xs;
    after = h.after;
    whole = h.whole ∙ (ap (λ l. h.before ++ l) (ap (λ l. l ++ h.after) (values_of-append xs ys) ∙ append_assoc (values_of xs) (values_of ys) h.after) ∙ sym (append_assoc h.before (values_of xs) (values_of ys ++ h.after)));
    count = length-append h.before (values_of xs) ∙ (ap (λ m. m + length (values_of xs)) h.count ∙ ap (λ m. n + m) (values_of-length xs));
  }

  -- the own value of the first op
  own_at : (n : ℕ) (w : What) (line : ℕ) (operands : List ValueId) (k : ValueKind) (regions : List Region) (ops : List Op) →
      values_of (op_of w line operands (Some k) regions ∷ ops) ≡ record { kind = k; source = source_of w } ∷ (values_in w 0 regions ++ values_of ops)
  own_at n w line operands k regions ops =
      let whole : Op-F Op Region = record { what = w; line = line; operands = operands; kind = Some k; regions = regions } in
      ap (λ l. l ++ values_of ops) (op_values-parts (roll-Op whole) ∙ ap (λ f. own_values f.what f.kind ++ values_in f.what 0 f.regions) (out-roll-Op whole))

  pub own_value : (n : ℕ) (w : What) (line : ℕ) (operands : List ValueId) (k : ValueKind) (regions : List Region) (ops : List Op) → Holds vs n (op_of w line operands (Some k) regions ∷ ops) →
      value_at vs (record { number = n }) ≡ Some (record { kind = k; source = source_of w })
  own_value n w line operands k regions ops h =
      let x : Value = record { kind = k; source = source_of w } in
      ap (λ l. slice_get l n) (h.whole ∙ ap (λ l. h.before ++ (l ++ h.after)) (own_at n w line operands k regions ops))
      ∙ (ap (slice_get (h.before ++ x ∷ ((values_in w 0 regions ++ values_of ops) ++ h.after))) (sym h.count) ∙ value_here h.before ((values_in w 0 regions ++ values_of ops) ++ h.after) x)

  -- ---- what is made, from every number on from which the values of the ops stand

  abbrev pub Finds : {A : Type 0} → Scope → (A → Type 0) → Lowering A → Type 0
  Finds s P p = (n : ℕ) → Holds vs n (p s n).ops → P (p s n).made

  pub finds-done : {A : Type 0} (s : Scope) (P : A → Type 0) (x : A) → P x → Finds s P (done x)
  unfolding done
  finds-done s P x h n held = h

  pub finds-then : {A B : Type 0} (s : Scope) (P : A → Type 0) (Q : B → Type 0) (p : Lowering A) (q : A → Lowering B) → Finds s P p → ((x : A) → P x → Finds s Q (q x)) → Finds s Q (p >>= q)
  unfolding ◌>>=◌
  finds-then s P Q p q h g n held =
      let a = p s n in
      let b = q a.made s (n + numbers_of a.ops) in
      g a.made (h n (holds_first n a.ops b.ops held)) (n + numbers_of a.ops) (holds_after n a.ops b.ops held)

  -- whatever the first one makes
  pub finds-next : {A B : Type 0} (s : Scope) (Q : B → Type 0) (p : Lowering A) (q : A → Lowering B) → ((x : A) → Finds s Q (q x)) → Finds s Q (p >>= q)
  finds-next s Q p q g = finds-then s (λ _. Unit {0}) Q p q (λ n held. tt) (λ x _. g x)

  pub finds-scoped : {A : Type 0} (s : Scope) (P : A → Type 0) (f : Scope → Lowering A) → Finds s P (f s) → Finds s P (scoped f)
  unfolding scoped
  finds-scoped s P f h = h

  pub finds-giving : (s : Scope) (P : Operand → Type 0) (w : What) (operands : List ValueId) (k : ValueKind) →
      ((v : ValueId) → value_at vs v ≡ Some (record { kind = k; source = source_of w }) → P (record { value = v; kind = k })) → Finds s P (giving w operands k)
  unfolding giving
  finds-giving s P w operands k h n held = h (record { number = n }) (own_value n w s.line operands k [] [] held)

  pub finds-giving_by : (s : Scope) (P : Operand → Type 0) (w : What) (k : ValueKind) (p : Lowering (Unit {0})) →
      ((v : ValueId) → value_at vs v ≡ Some (record { kind = k; source = source_of w }) → P (record { value = v; kind = k })) → Finds s P (giving_by w k p)
  unfolding giving_by
  finds-giving_by s P w k p h n held = h (record { number = n }) (own_value n w s.line [] k (regions_from w s.line 0 (n + 1) (p ∷ []) s) [] held)

  -- ---- operands that are found

  -- what no declare gives
  pub found_value : (x : Operand) (w : What) → is_declares (source_of w) ≡ false → value_at vs x.value ≡ Some (record { kind = x.kind; source = source_of w }) → Found vs x
  found_value x w h is = record {
    value = record { kind = x.kind; source = source_of w };
    found = is;
    kind = refl;
    reached = ap (λ b. b && is_allocatable (Some x.kind)) h;
  }

  pub given_found : (s : Scope) (w : What) (operands : List ValueId) (k : ValueKind) → is_declares (source_of w) ≡ false → Finds s (Found vs) (giving w operands k)
  given_found s w operands k h = finds-giving s (Found vs) w operands k (λ v is. found_value (record { value = v; kind = k }) w h is)
