-- The index names of a FORALL: their numbers, their columns, and their values in the combinations.
use Rattle.std.proofs.Common.{◌≡◌, refl, sym, ap, ◌∙◌, subst, ℕ, suc, ◌+◌, ◌<◌, ◌≤◌, Bool, true, false, ◌||◌, List, [], ◌∷◌, ◌++◌, length, Option, Some, None, ℤ, bytes_eq, if◌then◌else◌, true≢false, arith}
use Rattle.std.proofs.lemmas.Slice.Eq.{bytes_eq-Decides}
use Rattle.ws_base.specs.declared.name.Name.{Name}
use Rattle.ws_base.specs.declared.refusal.RefusalKind.TheVariants as kind
use Rattle.ws_space.specs.declared.shape.Triplet.{Triplet}
use Rattle.ws_space.specs.Values.{value_at}
use Rattle.ws_space.specs.Combinations.{indexes_at}
use Rattle.ws_tree.specs.declared.stmt.Index.{Index}
use Rattle.ws_types.specs.declared.constant.Constancy.TheVariants.{NotConstant}
use Rattle.ws_types.specs.declared.types.Row.{Row}
use Rattle.ws_types.specs.declared.types.Standing.TheVariants.{Index as Index'}
use Rattle.ws_types.specs.Names.{standing_of}
use Rattle.ws_types.specs.Constants as known
use Rattle.ws_types.specs.Tables.{inner}
use Rattle.ws_sema.specs.Statements.{is_listed, header_faults}
use Rattle.ws_sema.proofs.NoFaults.{none_first, none_after, not_broken}
use Rattle.array_meaning.specs.Stage1.{constant_of}
use Rattle.array_meaning.specs.Forall.{Combination, by_name}
use Rattle.hlfir_ops.specs.declared.op.ValueId.{ValueId}
use Rattle.hlfir_meaning.specs.Environments.{column, Environment, with_value}
use Rattle.hlfir_meaning.specs.Combinations.{index_column, with_indexes}
use Rattle.lower_values.specs.declared.names.Names.{Names}
use Rattle.lower_values.specs.Scopes.{Scope, Indexed, index_of}
use Rattle.kind_laws.specs.Standing.{NameIsKnown}
use Rattle.kind_laws.specs.Laws.{index_names}
use Rattle.kind_laws.proofs.ScopesKnown.{with_names, index_other}
use Rattle.value_laws.proofs.Walking.{with_value-here, with_value-other}
use Rattle.forall_laws.specs.Combined.{IndexStands}

-- ---- lists of indexes

listed_append : (before : List Index) (i : Index) (x : Name) → is_listed before x ≡ true → is_listed (before ++ i ∷ []) x ≡ true
listed_append [] i x h = absurd (true≢false (sym h))
listed_append (b ∷ before) i x h = by (listed_append before i x) (bytes_eq b.name x) h where
  by : (is_listed before x ≡ true → is_listed (before ++ i ∷ []) x ≡ true) → (c : Bool) → (c || is_listed before x) ≡ true → (c || is_listed (before ++ i ∷ []) x) ≡ true
  by rest true e = refl
  by rest false e = rest e

listed_last : (before : List Index) (i : Index) (x : Name) → bytes_eq i.name x ≡ true → is_listed (before ++ i ∷ []) x ≡ true
listed_last [] i x h = ap (λ b. b || false) h
listed_last (b ∷ before) i x h = by (listed_last before i x h) (bytes_eq b.name x) where
  by : is_listed (before ++ i ∷ []) x ≡ true → (c : Bool) → (c || is_listed (before ++ i ∷ []) x) ≡ true
  by rest true = refl
  by rest false = rest

-- no name stands twice
apart : (t b : List Row) (line : ℕ) (before is : List Index) (x : Name) → header_faults t b line before is ≡ [] → is_listed before x ≡ true → is_listed is x ≡ false
apart t b line before [] x f h = refl
apart t b line before (i ∷ is) x f h = by (apart t b line (before ++ i ∷ []) is x (none_after _ _ f) (listed_append before i x h)) (bytes_eq i.name x) refl where
  by : is_listed is x ≡ false → (c : Bool) → bytes_eq i.name x ≡ c → (c || is_listed is x) ≡ false
  by rest true same =
      let once = not_broken (is_listed before i.name) line kind.DoVariable (none_after _ _ (none_first _ _ (none_first _ _ (none_first _ _ (none_first _ _ f))))) in
      absurd (true≢false (sym h ∙ (ap (is_listed before) (sym ((bytes_eq-Decides i.name x).0 same)) ∙ once)))
  by rest false same = rest

-- a name of the header stands for an index
standing_index : (t : List Row) (is : List Index) (x : Name) → is_listed is x ≡ true → standing_of (inner t is) x ≡ Some Index'
standing_index t [] x h = absurd (true≢false (sym h))
standing_index t (i ∷ is) x h = by (standing_index t is x) (bytes_eq i.name x) h where
  by : (is_listed is x ≡ true → standing_of (inner t is) x ≡ Some Index') → (c : Bool) → (c || is_listed is x) ≡ true → (if c then Some Index' else standing_of (inner t is) x) ≡ Some Index'
  by rest true e = refl
  by rest false e = rest e

pub no_constant : (t : List Row) (is : List Index) (s : Scope) (x : Name) → NameIsKnown s x (standing_of (inner t is) x) → is_listed is x ≡ true → known.constant_of s.names.constants x ≡ NotConstant
no_constant t is s x h listed = let index : NameIsKnown s x (Some Index') = subst (NameIsKnown s x) (standing_index t is x listed) h in index.2

-- ---- values

abbrev rest_of : List ℤ → List ℤ
rest_of [] = []
rest_of (v ∷ vs) = vs

-- from the index of this place on
pub record AreFrom (ts : List Triplet) (k many : ℕ) (vals : ℕ → List ℤ) : Type 0 where
  pub same : (p j : ℕ) → value_at (vals p) j ≡ value_at (indexes_at ts p) (j + k)
  pub long : (p : ℕ) → length (vals p) ≡ many

indexes-long : (ts : List Triplet) (p : ℕ) → length (indexes_at ts p) ≡ length ts
indexes-long [] p = refl
indexes-long (t ∷ ts) p = let rest = indexes-long ts _ in ap suc rest

pub from_first : (ts : List Triplet) (many : ℕ) → length ts ≡ many → AreFrom ts 0 many (indexes_at ts)
from_first ts many h = record { same = λ p j. ap (value_at (indexes_at ts p)) (omega arith); long = λ p. indexes-long ts p ∙ h }

value_next : (vs : List ℤ) (j m : ℕ) → length vs ≡ suc m → value_at (rest_of vs) j ≡ value_at vs (suc j)
value_next [] j m h = absurd (omega (arith, h))
value_next (v ∷ vs) j m h = refl

rest-long : (vs : List ℤ) (m : ℕ) → length vs ≡ suc m → length (rest_of vs) ≡ m
rest-long [] m h = absurd (omega (arith, h))
rest-long (v ∷ vs) m h = omega (arith, h)

from_next : (ts : List Triplet) (k m : ℕ) (vals : ℕ → List ℤ) → AreFrom ts k (suc m) vals → AreFrom ts (suc k) m (λ p. rest_of (vals p))
from_next ts k m vals h = record {
  same = λ p j. value_next (vals p) j m (h.long p) ∙ (h.same p (suc j) ∙ ap (value_at (indexes_at ts p)) (omega arith));
  long = λ p. rest-long (vals p) m (h.long p);
}

named_here : (i : Index) (is : List Index) (vs : List ℤ) (m : ℕ) (x : Name) → length vs ≡ suc m → bytes_eq i.name x ≡ true → constant_of (by_name (i ∷ is) vs) x ≡ Some (value_at vs 0)
named_here i is [] m x long h = absurd (omega (arith, long))
named_here i is (v ∷ vs) m x long h = ap (λ b. if b then Some v else constant_of (by_name is vs) x) h

named_later : (i : Index) (is : List Index) (vs : List ℤ) (m : ℕ) (x : Name) → length vs ≡ suc m → bytes_eq i.name x ≡ false → constant_of (by_name is (rest_of vs)) x ≡ constant_of (by_name (i ∷ is) vs) x
named_later i is [] m x long h = absurd (omega (arith, long))
named_later i is (v ∷ vs) m x long h = sym (ap (λ b. if b then Some v else constant_of (by_name is vs) x) h)

-- ---- environments

module _ (at : List ℕ) (ts : List Triplet) where
  pub indexes-below : (n k : ℕ) (xs : List Name) (env : Environment) (j : ℕ) → j < n → with_indexes n k xs ts at env j ≡ env j
  indexes-below n k [] env j h = refl
  indexes-below n k (x ∷ xs) env j h =
      indexes-below (suc n) (suc k) xs (with_value n (column (index_column ts k at)) env) j (omega (arith, h)) ∙ with_value-other n j (column (index_column ts k at)) env h

  same_values : (of other : ℕ → Combination) (names : Names) (env : Environment) (n m : ℕ) (x : Name) (o : Option ValueId) → n ≤ m → ((p : ℕ) → constant_of (of p) x ≡ constant_of (other p) x) → IndexStands at of names env n x o → IndexStands at other names env m x o
  same_values of other names env n m x (Some v) l h g = record { values = g.values; low = omega (arith, l, g.low); found = g.found; combined = λ p. sym (h p) ∙ g.combined p; apart = g.apart }
  same_values of other names env n m x None l h g = λ p. sym (h p) ∙ g p

  pub index-stands : (t b : List Row) (line : ℕ) (names : Names) (n k : ℕ) (before is : List Index) (outer : List Indexed) (env : Environment) (vals : ℕ → List ℤ) (x : Name) → index_of outer x ≡ None → header_faults t b line before is ≡ [] →
      AreFrom ts k (length is) vals → (is_listed is x ≡ true → known.constant_of names.constants x ≡ NotConstant) →
      IndexStands at (λ p. by_name is (vals p)) names (with_indexes n k (index_names is) ts at env) (n + length is) x (index_of (with_names n is outer) x)
  index-stands t b line names n k before [] outer env vals x none f from g = subst (IndexStands at (λ p. by_name [] (vals p)) names (with_indexes n k [] ts at env) (n + 0) x) (sym none) (λ p. refl)
  index-stands t b line names n k before (i ∷ is) outer env vals x none f from g =
      let more : List Indexed = record { name = i.name; value = record { number = n } } ∷ outer in
      let next : Environment = with_value n (column (index_column ts k at)) env in
      by_name_here (bytes_eq i.name x) refl
      (λ same. index-stands t b line names (suc n) (suc k) (before ++ i ∷ []) is more next (λ p. rest_of (vals p)) x
      (ap (λ d. if d then Some (record { number = n }) else index_of outer x) same ∙ none) (none_after _ _ f) (from_next ts k (length is) vals from) (λ e. g (ap (λ d. d || is_listed is x) same ∙ e)))
    where
      more : List Indexed
      more = record { name = i.name; value = record { number = n } } ∷ outer

      next : Environment
      next = with_value n (column (index_column ts k at)) env

      by_name_here : (c : Bool) → bytes_eq i.name x ≡ c →
          (bytes_eq i.name x ≡ false → IndexStands at (λ p. by_name is (rest_of (vals p))) names (with_indexes (suc n) (suc k) (index_names is) ts at next) (suc n + length is) x (index_of (with_names (suc n) is more) x)) →
          IndexStands at (λ p. by_name (i ∷ is) (vals p)) names (with_indexes (suc n) (suc k) (index_names is) ts at next) (n + length (i ∷ is)) x (index_of (with_names (suc n) is more) x)
      by_name_here true same later =
          subst (IndexStands at (λ p. by_name (i ∷ is) (vals p)) names (with_indexes (suc n) (suc k) (index_names is) ts at next) (n + length (i ∷ is)) x)
          (sym (index_other (suc n) is more x (apart t b line (before ++ i ∷ []) is x (none_after _ _ f) (listed_last before i x same)) ∙ ap (λ d. if d then Some (record { number = n }) else index_of outer x) same))
          (record {
            values = λ p. value_at (indexes_at ts p) k;
            low = omega arith;
            found = indexes-below (suc n) (suc k) (index_names is) next n (omega arith) ∙ with_value-here n (column (index_column ts k at)) env;
            combined = λ p. named_here i is (vals p) (length is) x (from.long p) same ∙ ap Some (from.same p 0 ∙ ap (value_at (indexes_at ts p)) (omega arith));
            apart = g (ap (λ d. d || is_listed is x) same);
          })
      by_name_here false same later =
          same_values (λ p. by_name is (rest_of (vals p))) (λ p. by_name (i ∷ is) (vals p)) names (with_indexes (suc n) (suc k) (index_names is) ts at next) (suc n + length is) (n + length (i ∷ is)) x (index_of (with_names (suc n) is more) x)
          (omega arith) (λ p. named_later i is (vals p) (length is) x (from.long p) same) (later same)
