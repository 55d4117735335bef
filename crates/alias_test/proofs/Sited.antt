-- What the rules say of each op that gives a value: it keeps them where it stands, and its operands are values of earlier ops.
use Rattle.std.proofs.Common.{◌≡◌, refl, sym, ap, ◌∙◌, subst, inl, inr, ℕ, zero, suc, ◌+◌, ◌<◌, ◌≤◌, ◌==◌, Bool, true, List, [], ◌∷◌, ◌++◌, map, length, Option, Some, None, arith, eqb-true}
use Rattle.std.specs.Prelude.{slice_get, nat_lt}
use Rattle.std.specs.List.{list_all, list_any, AllByRecursion}
use Rattle.std.proofs.lemmas.Bool.{and_parts, and_from, or_cases, lt-ltb}
use Rattle.std.proofs.lemmas.List.{length-append, length-map}
use Rattle.std.proofs.lemmas.List.Folds.{list_all-append}
use mathlib.Core.Former.{Count}
use Rattle.ws_base.specs.declared.name.Name.{Name}
use Rattle.hlfir_ops.specs.declared.kinds.ValueKind.{ValueKind}
use Rattle.hlfir_ops.specs.declared.what.What.{What}
use Rattle.hlfir_ops.specs.declared.op.ValueId.{ValueId}
use Rattle.hlfir_ops.specs.declared.op.Op.{Op, Op', out-Op}
use Rattle.hlfir_ops.specs.declared.op.Region.{Region'}
use Rattle.hlfir_ops.specs.declared.op.Module.{Module}
use Rattle.hlfir_ops.specs.Trees.{Ops, end_ops, more_ops, Regions, end_regions, more_regions}
use Rattle.hlfir_ops.specs.Numbers.{names_in, own_numbers, op_numbers, regions_numbers, ops_numbers}
use Rattle.hlfir_ops.specs.RulesPlaces.{Around, Place, around_in, from_number, own_defined, op_sites, regions_sites, ops_sites, sites_of, outermost}
use Rattle.hlfir_ops.specs.Rules.{Facts, facts_of, is_in, keeps, KeepsRules}
use Rattle.hlfir_ops.proofs.Numbered.{op_numbers-parts}
use Rattle.alias_test.specs.Givers.{own_givers, op_givers, regions_givers, ops_givers, givers_of}
use Rattle.alias_test.specs.Symbols.{are_earlier}
use Rattle.alias_test.proofs.Numbers.{never}

-- ---- lists of numbers, and lists whose elements are numbered

-- All are below this one.
abbrev pub Below : ℕ → List ℕ → Type 0
Below n = AllByRecursion (λ d. d < n)

below_later : (n m : ℕ) (ds : List ℕ) → n ≤ m → Below n ds → Below m ds
below_later n m [] le b = tt
below_later n m (d ∷ ds) le b = (omega (arith, b.0), below_later n m ds le b.1)

below_append : (n : ℕ) (ds es : List ℕ) → Below n ds → Below n es → Below n (ds ++ es)
below_append n [] es a b = b
below_append n (d ∷ ds) es a b = (a.0, below_append n ds es a.1 b)

from_below : (n : ℕ) (names : List Name) → Below (length names + n) (from_number n names)
from_below n [] = tt
from_below n (name ∷ names) =
    let next : length names + suc n ≡ suc (length names) + n = omega arith in
    (omega arith, subst (λ m. Below m (from_number (suc n) names)) next (from_below (suc n) names))

own_below : (n m : ℕ) (k : Option ValueKind) → own_numbers k ≤ m → Below (m + n) (own_defined n k)
own_below n m (Some k) le = (omega arith, tt)
own_below n m None le = tt

-- P holds of each element by its number, and the first one has this number.
abbrev pub EachFrom : {X : Type 0} → (ℕ → X → Type 0) → ℕ → List X → Type 0
EachFrom P n [] = Unit {0}
EachFrom P n (x ∷ xs) = P n x × EachFrom P (suc n) xs

each_append : {X : Type 0} (P : ℕ → X → Type 0) (n m : ℕ) (xs ys : List X) → length xs ≡ m → EachFrom P n xs → EachFrom P (m + n) ys → EachFrom P n (xs ++ ys)
each_append P n m [] ys count a b = let none : m + n ≡ n = omega arith in subst (λ k. EachFrom P k ys) none b
each_append P n m (x ∷ xs) ys count a b = let next : m + n ≡ length xs + suc n = omega arith in (a.0, each_append P (suc n) (length xs) xs ys refl a.1 (subst (λ k. EachFrom P k ys) next b))

each_at : {X : Type 0} (P : ℕ → X → Type 0) (xs : List X) (n k m : ℕ) (x : X) → n + k ≡ m → EachFrom P n xs → slice_get xs k ≡ Some x → P m x
each_at P [] n k m x count a e = cc
each_at P (y ∷ ys) n zero m x count a e =
    let same : y ≡ x = cc in
    let here : n ≡ m = omega arith in
    subst (λ i. P i x) here (subst (P n) same a.0)
each_at P (y ∷ ys) n (suc k) m x count a e = each_at P ys (suc n) k m x (omega arith) a.1 e

both_parts : {A : Type 0} (p : A → Bool) (xs ys : List A) → list_all p (xs ++ ys) ≡ true → (list_all p xs ≡ true) × (list_all p ys ≡ true)
both_parts p xs ys h = and_parts (list_all p xs) (list_all p ys) (sym (list_all-append p xs ys) ∙ h)

-- ---- how many values ops give

length-own : (op : Op) (k : Option ValueKind) → length (own_givers op k) ≡ own_numbers k
length-own op (Some k) = refl
length-own op None = refl

length-both : {X : Type 0} (xs ys : List X) (m n : ℕ) → length xs ≡ m → length ys ≡ n → length (xs ++ ys) ≡ m + n
length-both xs ys m n a b = length-append xs ys ∙ (ap (λ k. k + length ys) a ∙ ap (λ k. m + k) b)

mutual
  length-op : (op : Op) → length (op_givers op) ≡ op_numbers op
  length-op (Op' w line os k g regions) =
      length-both (own_givers (Op' w line os k g regions) k) (regions_givers (Op' w line os k g regions) w 0 regions) (own_numbers k) (regions_numbers w 0 regions) (length-own (Op' w line os k g regions) k) (length-regions (Op' w line os k g regions) w 0 regions)

  length-regions : {m : Count} (op : Op) (w : What) (k : ℕ) (regions : Regions m) → length (regions_givers op w k regions) ≡ regions_numbers w k regions
  length-regions op w k end_regions = refl
  length-regions op w k (more_regions (Region' g ops) regions) =
      length-both (map (λ name. op) (names_in w k) ++ ops_givers ops) (regions_givers op w (suc k) regions) (length (names_in w k) + ops_numbers ops) (regions_numbers w (suc k) regions)
      (length-both (map (λ name. op) (names_in w k)) (ops_givers ops) (length (names_in w k)) (ops_numbers ops) (length-map (names_in w k) (λ name. op)) (length-ops ops)) (length-regions op w (suc k) regions)

  length-ops : {m : Count} (ops : Ops m) → length (ops_givers ops) ≡ ops_numbers ops
  length-ops end_ops = refl
  length-ops (more_ops op ops) = length-both (op_givers op) (ops_givers ops) (op_numbers op) (ops_numbers ops) (length-op op) (length-ops ops)

-- ---- what the rules say of an op

-- It keeps all rules at a place that comes no later than this number, and what is defined there has earlier numbers.
pub record IsJudged (f : Facts) (n : ℕ) (op : Op) : Type 0 where
  pub place : Place
  pub keeps_all : keeps f (record { place = place; op = op }) ≡ true
  pub no_later : place.number ≤ n
  pub defined : Below place.number place.defined

judged_later : (f : Facts) (n m : ℕ) (op : Op) → n ≤ m → IsJudged f n op → IsJudged f m op
judged_later f n m op le j = record { place = j.place; keeps_all = j.keeps_all; no_later = omega (arith, j.no_later); defined = j.defined }

own_judged : (f : Facts) (n : ℕ) (op : Op) (k : Option ValueKind) → IsJudged f n op → EachFrom (IsJudged f) n (own_givers op k)
own_judged f n op (Some kind) here = (here, tt)
own_judged f n op None here = tt

names_judged : (f : Facts) (n : ℕ) (op : Op) (names : List Name) → IsJudged f n op → EachFrom (IsJudged f) n (map (λ name. op) names)
names_judged f n op [] here = tt
names_judged f n op (name ∷ names) here = (here, names_judged f (suc n) op names (judged_later f n (suc n) op (omega arith) here))

-- what is defined behind this op
own_defined-below : (n : ℕ) (op : Op) (ds : List ℕ) → Below n ds → Below (op_numbers op + n) (ds ++ own_defined n (out-Op op).kind)
own_defined-below n op ds b =
    let count = op_numbers-parts op in
    below_append (op_numbers op + n) ds (own_defined n (out-Op op).kind) (below_later n (op_numbers op + n) ds (omega arith) b) (own_below n (op_numbers op) (out-Op op).kind (omega (arith, count)))

-- what is defined in the region that brings these names
names_below : (n : ℕ) (names : List Name) (ds : List ℕ) → Below n ds → Below (length names + n) (ds ++ from_number n names)
names_below n names ds b = below_append (length names + n) ds (from_number n names) (below_later n (length names + n) ds (omega arith) b) (from_below n names)

-- ---- trees

mutual
  op_judged : (f : Facts) (p : Place) (op : Op) → Below p.number p.defined → list_all (keeps f) (op_sites p op) ≡ true → EachFrom (IsJudged f) p.number (op_givers op)
  op_judged f p (Op' w line os k g regions) below h =
      let keep = and_parts (keeps f (record { place = p; op = Op' w line os k g regions })) (list_all (keeps f) (regions_sites p.around w 0 (own_numbers k + p.number) p.defined regions)) h in
      let here : IsJudged f p.number (Op' w line os k g regions) = record { place = p; keeps_all = keep.0; no_later = omega arith; defined = below } in
      each_append (IsJudged f) p.number (own_numbers k) (own_givers (Op' w line os k g regions) k) (regions_givers (Op' w line os k g regions) w 0 regions) (length-own (Op' w line os k g regions) k) (own_judged f p.number (Op' w line os k g regions) k here)
      (regions_judged f (Op' w line os k g regions) p.around w 0 (own_numbers k + p.number) p.defined regions (judged_later f p.number (own_numbers k + p.number) (Op' w line os k g regions) (omega arith) here)
      (below_later p.number (own_numbers k + p.number) p.defined (omega arith) below) keep.1)

  regions_judged : {m : Count} (f : Facts) (op : Op) (a : Around) (w : What) (k n : ℕ) (defined : List ℕ) (regions : Regions m) → IsJudged f n op → Below n defined → list_all (keeps f) (regions_sites a w k n defined regions) ≡ true →
      EachFrom (IsJudged f) n (regions_givers op w k regions)
  regions_judged f op a w k n defined end_regions here below h = tt
  regions_judged f op a w k n defined (more_regions (Region' g ops) regions) here below h =
      let names = length (names_in w k) in
      let behind = (length (names_in w k) + ops_numbers ops) + n in
      let keep = both_parts (keeps f) (ops_sites (around_in a w k) [] (length (names_in w k) + n) (defined ++ from_number n (names_in w k)) ops) (regions_sites a w (suc k) ((length (names_in w k) + ops_numbers ops) + n) defined regions) h in
      each_append (IsJudged f) n (names + ops_numbers ops) (map (λ name. op) (names_in w k) ++ ops_givers ops) (regions_givers op w (suc k) regions)
      (length-both (map (λ name. op) (names_in w k)) (ops_givers ops) names (ops_numbers ops) (length-map (names_in w k) (λ name. op)) (length-ops ops))
      (each_append (IsJudged f) n names (map (λ name. op) (names_in w k)) (ops_givers ops) (length-map (names_in w k) (λ name. op)) (names_judged f n op (names_in w k) here)
      (ops_judged f (around_in a w k) [] (length (names_in w k) + n) (defined ++ from_number n (names_in w k)) ops (names_below n (names_in w k) defined below) keep.0))
      (regions_judged f op a w (suc k) ((length (names_in w k) + ops_numbers ops) + n) defined regions (judged_later f n behind op (omega arith) here) (below_later n behind defined (omega arith) below) keep.1)

  ops_judged : {m : Count} (f : Facts) (a : Around) (before : List Op) (n : ℕ) (defined : List ℕ) (ops : Ops m) → Below n defined → list_all (keeps f) (ops_sites a before n defined ops) ≡ true → EachFrom (IsJudged f) n (ops_givers ops)
  ops_judged f a before n defined end_ops below h = tt
  ops_judged f a before n defined (more_ops op ops) below h =
      let place : Place = record { around = a; before = before; number = n; defined = defined } in
      let keep = both_parts (keeps f) (op_sites place op) (ops_sites a (before ++ op ∷ []) (op_numbers op + n) (defined ++ own_defined n (out-Op op).kind) ops) h in
      each_append (IsJudged f) n (op_numbers op) (op_givers op) (ops_givers ops) (length-op op) (op_judged f place op below keep.0)
      (ops_judged f a (before ++ op ∷ []) (op_numbers op + n) (defined ++ own_defined n (out-Op op).kind) ops (own_defined-below n op defined below) keep.1)

list_judged : (f : Facts) (a : Around) (before : List Op) (n : ℕ) (defined : List ℕ) (ops : List Op) → Below n defined → list_all (keeps f) (sites_of a before n defined ops) ≡ true → EachFrom (IsJudged f) n (givers_of ops)
list_judged f a before n defined [] below h = tt
list_judged f a before n defined (op ∷ ops) below h =
    let place : Place = record { around = a; before = before; number = n; defined = defined } in
    let keep = both_parts (keeps f) (op_sites place op) (sites_of a (before ++ op ∷ []) (op_numbers op + n) (defined ++ own_defined n (out-Op op).kind) ops) h in
    each_append (IsJudged f) n (op_numbers op) (op_givers op) (givers_of ops) (length-op op) (op_judged f place op below keep.0)
    (list_judged f a (before ++ op ∷ []) (op_numbers op + n) (defined ++ own_defined n (out-Op op).kind) ops (own_defined-below n op defined below) keep.1)

pub giver_judged : (m : Module) (n : ℕ) (op : Op) → KeepsRules m → slice_get (givers_of m.ops) n ≡ Some op → IsJudged (facts_of m) n op
giver_judged m n op kept at = each_at (IsJudged (facts_of m)) (givers_of m.ops) 0 n n op (omega arith) (list_judged (facts_of m) outermost [] 0 [] m.ops tt kept) at

-- ---- operands

is_in-below : (n v : ℕ) (ds : List ℕ) → Below n ds → is_in ds v ≡ true → v < n
is_in-below n v [] b h = never h
is_in-below n v (d ∷ ds) b h = elim (or_cases (d == v) (list_any (λ m. m == v) ds) h) [
  | inl e ↦ let same : d ≡ v = eqb-true d v e in omega (arith, b.0)
  | inr e ↦ is_in-below n v ds b.1 e
]

pub defined_earlier : (n m : ℕ) (ds : List ℕ) (os : List ValueId) → n ≤ m → Below n ds → list_all (λ (v : ValueId). is_in ds v.number) os ≡ true → are_earlier m os ≡ true
defined_earlier n m ds [] le b h = refl
defined_earlier n m ds (v ∷ os) le b h =
    let both = and_parts (is_in ds v.number) (list_all (λ (v : ValueId). is_in ds v.number) os) h in
    let first : v.number < n = is_in-below n v.number ds b both.0 in
    and_from (nat_lt v.number m) (are_earlier m os) (lt-ltb v.number m (omega arith)) (defined_earlier n m ds os le b both.1)
