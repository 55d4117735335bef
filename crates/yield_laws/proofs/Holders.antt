-- Statements that hold regions, where each region is held among the values.
use Rattle.std.proofs.Common.{◌≡◌, refl, true, ap, ◌∙◌, ℕ, zero, suc, ◌+◌, ◌-◌, Bool, false, ◌||◌, List, [], ◌∷◌, length, All, Some, None, slice_get, if◌then◌else◌}
use Rattle.std.specs.Prelude.{⊤}
use Rattle.std.proofs.lemmas.List.Elements.{All-nil, All-cons, All-head, All-tail, All-weaker}
use Rattle.hlfir_ops.specs.declared.what.What.{What}
use Rattle.hlfir_ops.specs.declared.op.ValueId.{ValueId}
use Rattle.hlfir_ops.specs.declared.op.Op.{Op, Op-F, out-roll-Op}
use Rattle.hlfir_ops.specs.declared.op.Region.{Region}
use Rattle.hlfir_ops.specs.Trees.{op_of, region_of}
use Rattle.hlfir_ops.specs.Numbers.{names_in, own_numbers, numbers_of}
use Rattle.hlfir_ops.specs.RulesValues.{Value}
use Rattle.hlfir_ops.specs.RulesRegions.{is_yield, is_yield_element, parts_of, parts}
use Rattle.hlfir_ops.specs.RulesStatements.{no_allocatable}
use Rattle.lower_values.specs.Scopes.{Scope, inside}
use Rattle.lower_values.specs.Lowerings.{Lowering, done, ◌>>=◌, in_turn, statement_of}
use Rattle.kind_laws.specs.Found.{Holds, HoldsNames, RegionsHeld}
use Rattle.kind_laws.proofs.ScopesFound.{regions_are_held}
use Rattle.yield_laws.proofs.Right.{IsRight, AreRight}
use Rattle.yield_laws.proofs.Walking.{Walks, walks-done, walks-then}

-- the ops of a region
abbrev pub region_ops : What → ℕ → ℕ → ℕ → Lowering ⊤ → Scope → List Op
region_ops w line k n p s = (p (inside w line k n s) (n + length (names_in w k))).ops

-- the number after the region of this number
abbrev pub next_region : What → ℕ → ℕ → ℕ → Lowering ⊤ → Scope → ℕ
next_region w line k n p s = n + (length (names_in w k) + numbers_of (region_ops w line k n p s))

-- the number of the first value inside an op that gives none itself
abbrev pub first_inside : ℕ → ℕ
first_inside n = n + own_numbers None

abbrev pub AnyMade : ⊤ → Type 0
AnyMade x = ⊤

abbrev pub IsHeld : List Value → What → ℕ → ℕ → ℕ → Lowering ⊤ → Scope → Type 0
IsHeld vs w line k n p s = Holds vs (n + length (names_in w k)) (region_ops w line k n p s)

-- no yield, and right where a where or forall is around it or none
abbrev pub IsStatement : List Value → Bool → Op → Type 0
IsStatement vs m op = (parts_of (Some op) ≡ []) × IsRight vs m op

pub statements-right : (vs : List Value) (m : Bool) (ops : List Op) → All (IsStatement vs m) ops → AreRight vs m ops
statements-right vs m ops h = All-weaker (IsStatement vs m) (IsRight vs m) (λ op g. g.1) ops h

no_parts : (vs : List Value) (m : Bool) (ops : List Op) (k : ℕ) → All (IsStatement vs m) ops → parts_of (slice_get ops k) ≡ []
no_parts vs m [] k h = refl
no_parts vs m (op ∷ ops) zero h = (All-head (IsStatement vs m) op ops h).0
no_parts vs m (op ∷ ops) (suc k) h = no_parts vs m ops k (All-tail (IsStatement vs m) op ops h)

-- a list of statements yields nothing
pub statements-reached : (vs : List Value) (m : Bool) (ops : List Op) → All (IsStatement vs m) ops → no_allocatable vs (parts ops) ≡ true
statements-reached vs m ops h = ap (no_allocatable vs) (no_parts vs m ops (length ops - 1) h)

module _ (vs : List Value) (m : Bool) (s : Scope) (n : ℕ) where
  abbrev pub Statement : Lowering ⊤ → Type 0
  Statement p = Walks vs (IsStatement vs m) s n p AnyMade

  one : (w : What) (line : ℕ) (os : List ValueId) (rs : List Region) → (is_yield w || is_yield_element w) ≡ false → IsRight vs m (op_of w line os None rs) → All (IsStatement vs m) (op_of w line os None rs ∷ [])
  one w line os rs ends h =
      let f : Op-F Op Region = record { what = w; line = line; operands = os; kind = None; regions = rs } in
      All-cons (IsStatement vs m) (op_of w line os None rs) [] (ap (λ (g : Op-F Op Region). if is_yield g.what || is_yield_element g.what then g.operands else []) (out-roll-Op f) ∙ ap (λ b. if b then os else []) ends, h)
      (All-nil (IsStatement vs m))

  pub no-region : (w : What) (line : ℕ) (os : List ValueId) → (is_yield w || is_yield_element w) ≡ false → IsRight vs m (op_of w line os None []) → Statement (statement_of w line os [])
  unfolding statement_of
  no-region w line os ends h held = (one w line os [] ends h, tt)

  -- the regions from the one of this number on
  abbrev Held : What → ℕ → ℕ → ℕ → List (Lowering ⊤) → Type 0
  Held w line k i ps = RegionsHeld vs w line k i ps s

  pub one-region : (w : What) (line : ℕ) (os : List ValueId) (p : Lowering ⊤) → (is_yield w || is_yield_element w) ≡ false →
      (IsHeld vs w line 0 (first_inside n) p s → IsRight vs m (op_of w line os None (region_of (region_ops w line 0 (first_inside n) p s) ∷ []))) → Statement (statement_of w line os (p ∷ []))
  unfolding statement_of
  one-region w line os p ends h held =
      let all : Held w line 0 (first_inside n) (p ∷ []) = regions_are_held vs w line os None (p ∷ []) s n [] held in
      (one w line os (region_of (region_ops w line 0 (first_inside n) p s) ∷ []) ends (h all.1), tt)

  pub two-regions : (w : What) (line : ℕ) (os : List ValueId) (p q : Lowering ⊤) → (is_yield w || is_yield_element w) ≡ false →
      let first = region_ops w line 0 (first_inside n) p s in
      let k = next_region w line 0 (first_inside n) p s in
      let second = region_ops w line 1 k q s in
      (IsHeld vs w line 0 (first_inside n) p s → HoldsNames vs k (names_in w 1) → IsHeld vs w line 1 k q s → IsRight vs m (op_of w line os None (region_of first ∷ region_of second ∷ []))) → Statement (statement_of w line os (p ∷ q ∷ []))
  unfolding statement_of
  two-regions w line os p q ends h held =
      let k = next_region w line 0 (first_inside n) p s in
      let all : Held w line 0 (first_inside n) (p ∷ q ∷ []) = regions_are_held vs w line os None (p ∷ q ∷ []) s n [] held in
      let rest : Held w line 1 k (q ∷ []) = all.2 in
      (one w line os (region_of (region_ops w line 0 (first_inside n) p s) ∷ region_of (region_ops w line 1 k q s) ∷ []) ends (h all.1 rest.0 rest.1), tt)

  pub three-regions : (w : What) (line : ℕ) (os : List ValueId) (p q r : Lowering ⊤) → (is_yield w || is_yield_element w) ≡ false →
      let first = region_ops w line 0 (first_inside n) p s in
      let k = next_region w line 0 (first_inside n) p s in
      let second = region_ops w line 1 k q s in
      let j = next_region w line 1 k q s in
      let third = region_ops w line 2 j r s in
      (IsHeld vs w line 0 (first_inside n) p s → IsHeld vs w line 1 k q s → IsHeld vs w line 2 j r s → IsRight vs m (op_of w line os None (region_of first ∷ region_of second ∷ region_of third ∷ []))) → Statement (statement_of w line os (p ∷ q ∷ r ∷ []))
  unfolding statement_of
  three-regions w line os p q r ends h held =
      let k = next_region w line 0 (first_inside n) p s in
      let j = next_region w line 1 k q s in
      let all : Held w line 0 (first_inside n) (p ∷ q ∷ r ∷ []) = regions_are_held vs w line os None (p ∷ q ∷ r ∷ []) s n [] held in
      let rest : Held w line 1 k (q ∷ r ∷ []) = all.2 in
      let last : Held w line 2 j (r ∷ []) = rest.2 in
      let rs = region_of (region_ops w line 0 (first_inside n) p s) ∷ region_of (region_ops w line 1 k q s) ∷ region_of (region_ops w line 2 j r s) ∷ [] in
      (one w line os rs ends (h all.1 rest.1 last.1), tt)

-- ---- one statement after another

module _ (vs : List Value) (m : Bool) (s : Scope) where
  pub no-statement : (n : ℕ) → Statement vs m s n (done tt)
  no-statement n = walks-done vs (IsStatement vs m) s n tt AnyMade tt

  pub after : (n : ℕ) (p q : Lowering ⊤) → Statement vs m s n p → ((k : ℕ) → Statement vs m s k q) → Statement vs m s n (p >>= (λ _. q))
  after n p q h g = walks-then vs (IsStatement vs m) s n p (λ _. q) AnyMade AnyMade h (λ k x _. g k)

  pub in-turn : {A : Type 0} (P : A → Type 0) (f : ℕ → A → Lowering ⊤) (xs : List A) → All P xs → ((k : ℕ) (x : A) → P x → (n : ℕ) → Statement vs m s n (f k x)) → (k n : ℕ) → Statement vs m s n (in_turn f k xs)
  unfolding in_turn
  in-turn P f [] h g k n = no-statement n
  in-turn P f (x ∷ xs) h g k n = after n (f k x) (in_turn f (suc k) xs) (g k x (All-head P x xs h) n) (λ j. in-turn P f xs (All-tail P x xs h) g (suc k) j)
