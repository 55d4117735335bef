-- What holds of all ops that a lowering gives.
use Rattle.std.proofs.Common.{◌≡◌, refl, ℕ, suc, ◌+◌, Bool, true, List, [], ◌∷◌, length, Some, None}
use Rattle.std.specs.Prelude.{⊤}
use Rattle.hlfir_ops.specs.declared.kinds.ValueKind.{ValueKind}
use Rattle.hlfir_ops.specs.declared.what.What.{What}
use Rattle.hlfir_ops.specs.declared.op.ValueId.{ValueId}
use Rattle.hlfir_ops.specs.declared.op.Op.{Op}
use Rattle.hlfir_ops.specs.Trees.{op_of}
use Rattle.hlfir_ops.specs.Numbers.{names_in, own_numbers, numbers_of}
use Rattle.lower_values.specs.Scopes.{Scope, inside}
use Rattle.lower_values.specs.Lowerings.{Lowering, done, ◌>>=◌, scoped, giving, acting, regions_from, holding, statement_of, giving_by}
use Rattle.place_laws.proofs.Printed.{Everywhere, EverywhereIn, everywhere-append, everywhere-op, in-region}

-- in this scope, from this number on
abbrev pub Makes : {A : Type 0} → (Op → Bool) → Lowering A → Scope → ℕ → Type 0
Makes T p s n = Everywhere T (p s n).ops

module _ (T : Op → Bool) (s : Scope) (n : ℕ) where
  pub makes-done : {A : Type 0} (x : A) → Makes T (done x) s n
  unfolding done
  makes-done x = refl

  pub makes-then : {A B : Type 0} (p : Lowering A) (q : A → Lowering B) → Makes T p s n → Makes T (q (p s n).made) s (n + numbers_of (p s n).ops) → Makes T (p >>= q) s n
  unfolding ◌>>=◌
  makes-then p q h g = everywhere-append T (p s n).ops (q (p s n).made s (n + numbers_of (p s n).ops)).ops h g

  pub makes-scoped : {A : Type 0} (f : Scope → Lowering A) → Makes T (f s) s n → Makes T (scoped f) s n
  unfolding scoped
  makes-scoped f h = h

  pub makes-giving : (w : What) (operands : List ValueId) (kind : ValueKind) → T (op_of w s.line operands (Some kind) []) ≡ true → Makes T (giving w operands kind) s n
  unfolding giving
  makes-giving w operands kind h = everywhere-op T w s.line operands (Some kind) [] h refl

  pub makes-acting : (w : What) (operands : List ValueId) → T (op_of w s.line operands None []) ≡ true → Makes T (acting w operands) s n
  unfolding acting
  makes-acting w operands h = everywhere-op T w s.line operands None [] h refl

  pub makes-statement : (w : What) (line : ℕ) (operands : List ValueId) (ps : List (Lowering ⊤)) →
      T (holding w line operands None ps s n) ≡ true → EverywhereIn T (regions_from w line 0 (n + own_numbers None) ps s) → Makes T (statement_of w line operands ps) s n
  unfolding statement_of
  makes-statement w line operands ps h g = everywhere-op T w line operands None (regions_from w line 0 (n + own_numbers None) ps s) h g

  pub makes-giving_by : (w : What) (kind : ValueKind) (p : Lowering ⊤) →
      T (holding w s.line [] (Some kind) (p ∷ []) s n) ≡ true → EverywhereIn T (regions_from w s.line 0 (n + own_numbers (Some kind)) (p ∷ []) s) → Makes T (giving_by w kind p) s n
  unfolding giving_by
  makes-giving_by w kind p h g = everywhere-op T w s.line [] (Some kind) (regions_from w s.line 0 (n + own_numbers (Some kind)) (p ∷ []) s) h g

  pub regions-none : (w : What) (line k : ℕ) → EverywhereIn T (regions_from w line k n [] s)
  regions-none w line k = refl

  pub regions-more : (w : What) (line k : ℕ) (p : Lowering ⊤) (ps : List (Lowering ⊤)) →
      Makes T p (inside w line k n s) (n + length (names_in w k)) →
      EverywhereIn T (regions_from w line (suc k) (n + (length (names_in w k) + numbers_of (p (inside w line k n s) (n + length (names_in w k))).ops)) ps s) →
      EverywhereIn T (regions_from w line k n (p ∷ ps) s)
  regions-more w line k p ps h g =
      let ops = (p (inside w line k n s) (n + length (names_in w k))).ops in
      in-region T ops (regions_from w line (suc k) (n + (length (names_in w k) + numbers_of ops)) ps s) h g

-- ---- in any scope, from any number on

abbrev pub Always : {A : Type 0} → (Op → Bool) → Lowering A → Type 0
Always T p = (s : Scope) (n : ℕ) → Makes T p s n

module _ (T : Op → Bool) where
  pub always-then : {A B : Type 0} (p : Lowering A) (q : A → Lowering B) → Always T p → ((x : A) → Always T (q x)) → Always T (p >>= q)
  always-then p q h g s n = makes-then T s n p q (h s n) (g (p s n).made s (n + numbers_of (p s n).ops))

  pub always-scoped : {A : Type 0} (f : Scope → Lowering A) → ((s : Scope) → Always T (f s)) → Always T (scoped f)
  always-scoped f h s n = makes-scoped T s n f (h s s n)

  -- all of these lowerings
  abbrev pub EachAlways : List (Lowering ⊤) → Type 0
  EachAlways [] = ⊤
  EachAlways (p ∷ ps) = Always T p × EachAlways ps

  pub regions-always : (w : What) (line k n : ℕ) (ps : List (Lowering ⊤)) (s : Scope) → EachAlways ps → EverywhereIn T (regions_from w line k n ps s)
  regions-always w line k n [] s h = regions-none T s n w line k
  regions-always w line k n (p ∷ ps) s h =
      regions-more T s n w line k p ps (h.0 (inside w line k n s) (n + length (names_in w k)))
      (regions-always w line (suc k) (n + (length (names_in w k) + numbers_of (p (inside w line k n s) (n + length (names_in w k))).ops)) ps s h.1)
