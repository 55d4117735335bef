-- ALLOCATE, DEALLOCATE and READ: one op for each item, of which the first one carries out them all.
use mathlib.Core.Path.{fun_ext}
use Rattle.std.proofs.Common.{◌≡◌, refl, sym, ap, ◌∙◌, subst, ℕ, suc, ◌+◌, Bool, true, false, List, [], ◌∷◌, ◌++◌, Ok, nat_lt, arith, if◌then◌else◌}
use Rattle.std.specs.Prelude.{⊤}
use Rattle.ws_space.specs.declared.state.State.{State}
use Rattle.ws_space.specs.Runs.{run_of, and_then}
use Rattle.hlfir_ops.specs.declared.op.Op.{Op, out-Op}
use Rattle.hlfir_ops.specs.Numbers.{op_numbers, numbers_of}
use Rattle.hlfir_ops.specs.RulesStatements.{is_also}
use Rattle.hlfir_meaning.specs.Statements.{Item, statement, statement_list, continued_in}
use Rattle.lower_values.specs.Scopes.{Scope}
use Rattle.lower_values.specs.Lowerings.{Lowering, done, ◌>>=◌, in_turn}
use Rattle.run_laws.proofs.InOrder.{and_then-done}
use Rattle.run_laws.proofs.Appended.{StartsAnew}

-- One op for each item. One that goes on in the statement of the op before it is skipped by itself.
pub record MakesItems {A : Type 0} (make : Bool → A → Lowering ⊤) : Type 0 where
  pub op : Bool → A → Scope → ℕ → Op
  pub alone : (b : Bool) (x : A) (s : Scope) (n : ℕ) → (make b x s n).ops ≡ op b x s n ∷ []
  pub also : (b : Bool) (x : A) (s : Scope) (n : ℕ) → is_also (out-Op (op b x s n)).what ≡ b
  pub skipped : (x : A) (s : Scope) (n : ℕ) (input : List ℕ) (m : ℕ) (is : List Item) (st : State) → statement input m (op true x s n) is st ≡ run_of (Ok st)

module _ {A : Type 0} (make : Bool → A → Lowering ⊤) (items : MakesItems make) (s : Scope) where
  abbrev turn : ℕ → A → Lowering ⊤
  turn k = make (nat_lt 0 k)

  abbrev ops_from : ℕ → List A → ℕ → List Op
  ops_from k xs n = (in_turn turn k xs s n).ops

  -- the items of the ops after the first one, from this number on
  abbrev pub later_items : List A → ℕ → List Item
  later_items [] n = []
  later_items (x ∷ xs) n = record { number = n; op = items.op true x s n } ∷ later_items xs (op_numbers (items.op true x s n) + n)

  front : (k : ℕ) (x : A) (xs : List A) (n : ℕ) → ops_from k (x ∷ xs) n ≡ (turn k x s n).ops ++ ops_from (suc k) xs (n + numbers_of (turn k x s n).ops)
  unfolding in_turn ◌>>=◌
  front k x xs n = refl

  none : (k n : ℕ) → ops_from k [] n ≡ []
  unfolding in_turn done
  none k n = refl

  ops-cons : (k : ℕ) (x : A) (xs : List A) (n : ℕ) → ops_from k (x ∷ xs) n ≡ items.op (nat_lt 0 k) x s n ∷ ops_from (suc k) xs (op_numbers (items.op (nat_lt 0 k) x s n) + n)
  ops-cons k x xs n =
      front k x xs n ∙ (ap (λ l. l ++ ops_from (suc k) xs (n + numbers_of l)) (items.alone (nat_lt 0 k) x s n)
      ∙ ap (λ m. items.op (nat_lt 0 k) x s n ∷ ops_from (suc k) xs m) (omega arith))

  is_later : (k : ℕ) → nat_lt 0 (suc k) ≡ true
  is_later k = grind arith

  later-cons : (k : ℕ) (x : A) (xs : List A) (n : ℕ) → ops_from (suc k) (x ∷ xs) n ≡ items.op true x s n ∷ ops_from (suc (suc k)) xs (op_numbers (items.op true x s n) + n)
  later-cons k x xs n = ops-cons (suc k) x xs n ∙ ap (λ b. items.op b x s n ∷ ops_from (suc (suc k)) xs (op_numbers (items.op b x s n) + n)) (is_later k)

  later_continued : (k : ℕ) (xs : List A) (n : ℕ) → continued_in n (ops_from (suc k) xs n) ≡ later_items xs n
  later_continued k [] n = ap (continued_in n) (none (suc k) n)
  later_continued k (x ∷ xs) n =
      let op = items.op true x s n in
      ap (continued_in n) (later-cons k x xs n)
      ∙ (ap (λ b. let r : List Item = if b then record { number = n; op = op } ∷ continued_in (op_numbers op + n) (ops_from (suc (suc k)) xs (op_numbers op + n)) else [] in r) (items.also true x s n)
      ∙ ap (λ l. let i : Item = record { number = n; op = op } in i ∷ l) (later_continued (suc k) xs (op_numbers op + n)))

  later_skipped : (input : List ℕ) (k : ℕ) (xs : List A) (n : ℕ) (st : State) → statement_list input n (ops_from (suc k) xs n) st ≡ run_of (Ok st)
  later_skipped input k [] n st = ap (λ l. statement_list input n l st) (none (suc k) n)
  later_skipped input k (x ∷ xs) n st =
      let op = items.op true x s n in
      let rest = ops_from (suc (suc k)) xs (op_numbers op + n) in
      ap (λ l. statement_list input n l st) (later-cons k x xs n)
      ∙ (ap (λ r. and_then r (λ q. statement_list input (op_numbers op + n) rest q)) (items.skipped x s n input n (continued_in (op_numbers op + n) rest) st)
      ∙ later_skipped input (suc k) xs (op_numbers op + n) st)

  -- the statement of several items
  pub items_run : (input : List ℕ) (x : A) (xs : List A) (n : ℕ) (st : State) →
      statement_list input n (in_turn turn 0 (x ∷ xs) s n).ops st ≡ statement input n (items.op false x s n) (later_items xs (op_numbers (items.op false x s n) + n)) st
  items_run input x xs n st =
      let op = items.op false x s n in
      let m = op_numbers op + n in
      let rest = ops_from 1 xs m in
      ap (λ l. statement_list input n l st) (ops-cons 0 x xs n)
      ∙ (ap (and_then (statement input n op (continued_in m rest) st)) (fun_ext (λ r. later_skipped input 0 xs m r))
      ∙ (and_then-done (statement input n op (continued_in m rest) st) ∙ ap (λ is. statement input n op is st) (later_continued 0 xs m)))

  pub items_anew : (xs : List A) (n : ℕ) → StartsAnew (in_turn turn 0 xs s n).ops
  items_anew [] n = subst StartsAnew (sym (none 0 n)) tt
  items_anew (x ∷ xs) n = subst StartsAnew (sym (ops-cons 0 x xs n)) (items.also false x s n)
