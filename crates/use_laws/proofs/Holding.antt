-- Ops that hold regions.
use Rattle.std.proofs.Common.{◌≡◌, refl, sym, subst, ℕ, suc, ◌+◌, List, [], ◌∷◌, ◌++◌, map, length, Some, None, arith}
use Rattle.std.specs.Prelude.{⊤}
use Rattle.std.specs.List.{AllByRecursion}
use Rattle.std.proofs.lemmas.List.{length-append, length-map}
use Rattle.ws_types.specs.declared.types.Row.{Row}
use Rattle.hlfir_ops.specs.declared.kinds.ValueKind.{ValueKind}
use Rattle.hlfir_ops.specs.declared.what.What.{What}
use Rattle.hlfir_ops.specs.declared.op.ValueId.{ValueId}
use Rattle.hlfir_ops.specs.declared.op.Op.{Op}
use Rattle.hlfir_ops.specs.Trees.{op_of}
use Rattle.hlfir_ops.specs.Numbers.{names_in, numbers_of, kinds_of, kinds_in, kind_of_name}
use Rattle.hlfir_ops.specs.RulesPlaces.{from_number}
use Rattle.lower_values.specs.Scopes.{Scope, inside}
use Rattle.lower_values.specs.Lowerings.{Lowering, regions_from, statement_of, giving_by}
use Rattle.use_laws.proofs.Counting.{hits, IsArrayAt, array-first, array-rest, names_missed}
use Rattle.use_laws.proofs.Defined.{AllIn, numbers, Grows, grows-more}
use Rattle.use_laws.proofs.Standing.{Stands, stands-inside}
use Rattle.use_laws.proofs.Uses.{kinds_of-length, Inner, inner-none, inner-more, region_kinds}
use Rattle.use_laws.proofs.Walking.{Walked, Lowers, of_operand, nothing_held, op-inner, walked-value, walked-act}

-- in each region where the names of the scope stand, it owes nothing
abbrev pub IsRegion : ℕ → List Row → Lowering ⊤ → Type 0
IsRegion k t p = (s : Scope) (n : ℕ) (D : List ℕ) → Stands k t D s → Lowers k s n D p 0 nothing_held

module _ (k : ℕ) (w : What) (line : ℕ) (j n : ℕ) (D : List ℕ) (s : Scope) (p : Lowering ⊤) (ps : List (Lowering ⊤)) where
  -- what the values of a region and of the ones after it are
  ops : List Op
  ops = (p (inside w line j n s) (n + length (names_in w j))).ops

  next : ℕ
  next = n + (length (names_in w j) + numbers_of ops)

  region-split : IsArrayAt k n (kinds_in w j (regions_from w line j n (p ∷ ps) s)) →
      IsArrayAt k n (map kind_of_name (names_in w j)) × IsArrayAt k (n + length (names_in w j)) (kinds_of ops) × IsArrayAt k next (kinds_in w (suc j) (regions_from w line (suc j) next ps s))
  unfolding ops next
  region-split strict =
      let rest = regions_from w line (suc j) next ps s in
      let names = map kind_of_name (names_in w j) in
      let many : length names ≡ length (names_in w j) = length-map (names_in w j) kind_of_name in
      let whole : IsArrayAt k n ((names ++ kinds_of ops) ++ kinds_in w (suc j) rest) = subst (IsArrayAt k n) (region_kinds k j n D w ops rest) strict in
      let both = array-first k n (names ++ kinds_of ops) (kinds_in w (suc j) rest) whole in (
        array-first k n names (kinds_of ops) both,
        array-rest k n (n + length (names_in w j)) names (kinds_of ops) (omega (arith, many)) both,
        array-rest k n next (names ++ kinds_of ops) (kinds_in w (suc j) rest) (omega (arith, length-append names (kinds_of ops), many, kinds_of-length ops)) whole,
      )

  pub inner-next : (b c : ℕ) → IsArrayAt k n (kinds_in w j (regions_from w line j n (p ∷ ps) s)) →
      (IsArrayAt k n (map kind_of_name (names_in w j)) → Lowers k (inside w line j n s) (n + length (names_in w j)) (D ++ from_number n (names_in w j)) p b nothing_held) →
      ((m : ℕ) → IsArrayAt k m (kinds_in w (suc j) (regions_from w line (suc j) m ps s)) → Inner k (suc j) m D w (regions_from w line (suc j) m ps s) c) → Inner k j n D w (regions_from w line j n (p ∷ ps) s) (b + c)
  unfolding ops next
  inner-next b c strict g h =
      let parts = region-split strict in
      inner-more k j n D w ops (regions_from w line (suc j) next ps s) b c ((g parts.0).walked parts.1).uses (names_missed k n (names_in w j) parts.0) (h next parts.2)

module _ (k : ℕ) (t : List Row) (w : What) (line : ℕ) (D : List ℕ) (s : Scope) (stands : Stands k t D s) where
  inner-regions : (j n : ℕ) (ps : List (Lowering ⊤)) → AllByRecursion (IsRegion k t) ps → IsArrayAt k n (kinds_in w j (regions_from w line j n ps s)) → Inner k j n D w (regions_from w line j n ps s) 0
  inner-regions j n [] h strict = inner-none k j n D w
  inner-regions j n (p ∷ ps) h strict =
      inner-next k w line j n D s p ps 0 0 strict (λ names. h.0 (inside w line j n s) (n + length (names_in w j)) (D ++ from_number n (names_in w j)) (stands-inside k t D w line j n s names stands))
      (λ m later. inner-regions (suc j) m ps h.1 later)

  pub lowers-statement : (n : ℕ) (operands : List ValueId) (ps : List (Lowering ⊤)) (before : ℕ) → AllIn D (numbers operands) → before ≡ hits k (numbers operands) → AllByRecursion (IsRegion k t) ps →
      Lowers k s n D (statement_of w line operands ps) before nothing_held
  unfolding statement_of
  lowers-statement n operands ps before h e regions = record {
    walked = λ strict.
        let total : hits k (numbers operands) + 0 ≡ before = omega (arith, e) in
        let rs = regions_from w line 0 (n + 0) ps s in
        let number : n + 0 ≡ n = omega arith in
        let own : IsArrayAt k (n + 0) (kinds_in w 0 rs) = subst (λ m. IsArrayAt k m (kinds_in w 0 rs)) (sym number) (op-inner k s n D w line operands rs None strict) in
        subst (λ b. Walked k n D (op_of w line operands None rs ∷ []) b []) total (walked-act k s n D w line operands rs 0 h (inner-regions 0 (n + 0) ps regions own));
  }

-- an op that gives a value and holds one region, which may use what the op is owed
pub lowers-giving_by : (k : ℕ) (s : Scope) (n : ℕ) (D : List ℕ) (w : What) (kind : ValueKind) (p : Lowering ⊤) (before : ℕ) → ((r : Scope) (m : ℕ) (E : List ℕ) → Grows D E → Lowers k r m E p before nothing_held) →
    Lowers k s n D (giving_by w kind p) before of_operand
unfolding giving_by
lowers-giving_by k s n D w kind p before h = record {
  walked = λ strict.
      let rs = regions_from w s.line 0 (n + 1) (p ∷ []) s in
      let own : IsArrayAt k (n + 1) (kinds_in w 0 rs) = array-rest k n (n + 1) (kind ∷ []) (kinds_in w 0 rs) refl (op-inner k s n D w s.line [] rs (Some kind) strict) in
      let total : 0 + (before + 0) ≡ before = omega arith in
      let names = from_number (n + 1) (names_in w 0) in
      let inner = inner-next k w s.line 0 (n + 1) D s p [] before 0 own (λ _. h (inside w s.line 0 (n + 1) s) ((n + 1) + length (names_in w 0)) (D ++ names) (grows-more D names)) (λ m _. inner-none k 1 m D w) in
      subst (λ b. Walked k n D (op_of w s.line [] (Some kind) rs ∷ []) b (n ∷ [])) total (walked-value k s n D w s.line [] rs kind (before + 0) tt inner);
}
