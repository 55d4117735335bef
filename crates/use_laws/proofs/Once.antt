-- A value that is counted once is used once at its site.
use Rattle.std.proofs.Common.{◌≡◌, refl, sym, ap, ◌∙◌, subst, ℕ, suc, ◌+◌, Bool, true, false, List, [], ◌∷◌, ◌++◌, map, length, Option, Some, None, arith, append_assoc}
use Rattle.std.specs.Prelude.{◌==◌, not, ◌||◌, count_by}
use Rattle.std.specs.List.{list_all}
use Rattle.std.proofs.lemmas.Bool.{eq-eqb, and_from}
use Rattle.std.proofs.lemmas.List.{length-append, length-map, length_push}
use Rattle.std.proofs.lemmas.List.Folds.{list_all-append}
use mathlib.Core.Former.{Count}
use Rattle.hlfir_ops.specs.declared.kinds.ValueKind.{ValueKind}
use Rattle.hlfir_ops.specs.declared.what.What.{What}
use Rattle.hlfir_ops.specs.declared.op.Op.{Op, Op', out-Op}
use Rattle.hlfir_ops.specs.declared.op.Region.{Region'}
use Rattle.hlfir_ops.specs.Opened.{trees_open}
use Rattle.hlfir_ops.specs.Trees.{Ops, end_ops, more_ops, Regions, end_regions, more_regions}
use Rattle.hlfir_ops.specs.Numbers.{names_in, own_kinds, own_numbers, op_numbers, ops_numbers, kind_of_name, op_kinds, regions_kinds, ops_kinds, kinds_of}
use Rattle.hlfir_ops.specs.RulesValues.{is_expression}
use Rattle.hlfir_ops.specs.RulesPlaces.{Around, Place, Site, around_in, from_number, own_defined, op_sites, regions_sites, ops_sites, sites_of}
use Rattle.hlfir_ops.specs.Rules.{is_used_once}
use Rattle.hlfir_ops.proofs.NumberedKinds.{op_kinds-length}
use Rattle.use_laws.proofs.Counting.{hits, hit-same, count-hits, given, given-append, given-above, given-below, IsArrayAt, array-above, array-below, array-both}

module _ (used : List ℕ) where
  -- each value of these kinds, numbered from n on, is used once if it is that of an array expression
  abbrev AreUsedOnce : ℕ → List ValueKind → Type 0
  AreUsedOnce n [] = Unit {0}
  AreUsedOnce n (x ∷ xs) = (is_used_once used n (Some x) ≡ true) × AreUsedOnce (suc n) xs

  once-first : (n : ℕ) (xs ys : List ValueKind) → AreUsedOnce n (xs ++ ys) → AreUsedOnce n xs
  once-first n [] ys h = tt
  once-first n (x ∷ xs) ys h = (h.0, once-first (suc n) xs ys h.1)

  once-rest : (n m : ℕ) (xs ys : List ValueKind) → m ≡ length xs + n → AreUsedOnce n (xs ++ ys) → AreUsedOnce m ys
  once-rest n m [] ys e h = let same : n ≡ m = omega arith in subst (λ i. AreUsedOnce i ys) same h
  once-rest n m (x ∷ xs) ys e h = once-rest (suc n) m xs ys (omega arith) h.1

  -- ---- by counts

  once-false : (n : ℕ) (x : ValueKind) → is_expression (Some x) ≡ false → is_used_once used n (Some x) ≡ true
  unfolding is_used_once
  once-false n x e = ap (λ b. not b || (count_by (λ m. m == n) used == 1)) e

  once-true : (n : ℕ) (x : ValueKind) → is_expression (Some x) ≡ true → hits n used ≡ 1 → is_used_once used n (Some x) ≡ true
  unfolding is_used_once
  once-true n x e h = ap (λ b. not b || (count_by (λ m. m == n) used == 1)) e ∙ eq-eqb (count_by (λ m. m == n) used) 1 (count-hits n used ∙ h)

  module _ (kinds : List ValueKind) (counted : (k : ℕ) → IsArrayAt k 0 kinds → hits k used ≡ given k 0 kinds) where
    one-counted : (front : List ValueKind) (x : ValueKind) (xs : List ValueKind) (n : ℕ) → kinds ≡ front ++ x ∷ xs → n ≡ length front → is_expression (Some x) ≡ true → hits n used ≡ 1
    one-counted front x xs n whole number e =
        let low : 0 + length front ≡ n = omega arith in
        let strict = array-both n 0 n front (x ∷ xs) (omega arith) (array-above n 0 front (omega arith)) (λ _. e, array-below n (suc n) xs (omega arith)) in
        let total : given n 0 kinds ≡ given n 0 front + given n n (x ∷ xs) = ap (given n 0) whole ∙ (given-append n 0 front (x ∷ xs) ∙ ap (λ m. given n 0 front + given n m (x ∷ xs)) low) in
        counted n (subst (IsArrayAt n 0) (sym whole) strict) ∙ omega (arith, total, given-above n 0 front (omega arith), hit-same n n refl, given-below n (suc n) xs (omega arith))

    by-kind : (front : List ValueKind) (x : ValueKind) (xs : List ValueKind) (n : ℕ) (b : Bool) → kinds ≡ front ++ x ∷ xs → n ≡ length front → is_expression (Some x) ≡ b → is_used_once used n (Some x) ≡ true
    by-kind front x xs n true whole number e = once-true n x e (one-counted front x xs n whole number e)
    by-kind front x xs n false whole number e = once-false n x e

    once-from : (front rest : List ValueKind) (n : ℕ) → kinds ≡ front ++ rest → n ≡ length front → AreUsedOnce n rest
    once-from front [] n whole number = tt
    once-from front (x ∷ xs) n whole number = (
      by-kind front x xs n (is_expression (Some x)) whole number refl,
      once-from (front ++ x ∷ []) xs (suc n) (whole ∙ sym (append_assoc front (x ∷ []) xs)) (omega (arith, length_push front x)),
    )

    all-once : AreUsedOnce 0 kinds
    all-once = once-from [] kinds 0 refl refl

  -- ---- at the sites

  abbrev pub used_there : Site → Bool
  used_there x = is_used_once used x.place.number (out-Op x.op).kind

  ops_kinds-length : {m : Count} (ops : Ops m) → length (ops_kinds ops) ≡ ops_numbers ops
  ops_kinds-length end_ops = refl
  ops_kinds-length (more_ops op ops) =
      length-append (op_kinds op) (ops_kinds ops) ∙ (ap (λ n. n + length (ops_kinds ops)) (op_kinds-length op) ∙ ap (λ n. op_numbers op + n) (ops_kinds-length ops))

  own-once : (n : ℕ) (kind : Option ValueKind) → AreUsedOnce n (own_kinds kind) → is_used_once used n kind ≡ true
  unfolding is_used_once
  own-once n (Some x) h = h.0
  own-once n None h = refl

  kind-of_parts : (w : What) (line : ℕ) (operands : _) (kind : Option ValueKind) (g : _) (regions : _) → (out-Op (Op' w line operands kind g regions)).kind ≡ kind
  unfolding trees_open out-Op denote.Hole.Carrier.out
  kind-of_parts w line operands kind g regions = refl

  both-once : (here there : List Site) → list_all used_there here ≡ true → list_all used_there there ≡ true → list_all used_there (here ++ there) ≡ true
  both-once here there h g = list_all-append used_there here there ∙ and_from (list_all used_there here) (list_all used_there there) h g

  mutual
    op_once : (p : Place) (op : Op) → AreUsedOnce p.number (op_kinds op) → list_all used_there (op_sites p op) ≡ true
    op_once p (Op' w line operands kind g regions) h =
        and_from (is_used_once used p.number (out-Op (Op' w line operands kind g regions)).kind) (list_all used_there (regions_sites p.around w 0 (own_numbers kind + p.number) p.defined regions))
        (ap (is_used_once used p.number) (kind-of_parts w line operands kind g regions) ∙ own-once p.number kind (once-first p.number (own_kinds kind) (regions_kinds w 0 regions) h))
        (regions_once p.around w 0 (own_numbers kind + p.number) p.defined regions (once-rest p.number (own_numbers kind + p.number) (own_kinds kind) (regions_kinds w 0 regions) refl h))

    regions_once : {m : Count} (a : Around) (w : What) (k n : ℕ) (defined : List ℕ) (regions : Regions m) → AreUsedOnce n (regions_kinds w k regions) → list_all used_there (regions_sites a w k n defined regions) ≡ true
    regions_once a w k n defined end_regions h = refl
    regions_once a w k n defined (more_regions (Region' g ops) regions) h =
        let names = map kind_of_name (names_in w k) in
        let many : length names ≡ length (names_in w k) = length-map (names_in w k) kind_of_name in
        let both = once-first n (names ++ ops_kinds ops) (regions_kinds w (suc k) regions) h in
        let here = ops_sites (around_in a w k) [] (length (names_in w k) + n) (defined ++ from_number n (names_in w k)) ops in
        let there = regions_sites a w (suc k) ((length (names_in w k) + ops_numbers ops) + n) defined regions in
        both-once here there
        (ops_once (around_in a w k) [] (length (names_in w k) + n) (defined ++ from_number n (names_in w k)) ops (once-rest n (length (names_in w k) + n) names (ops_kinds ops) (omega (arith, many)) both))
        (regions_once a w (suc k) ((length (names_in w k) + ops_numbers ops) + n) defined regions
        (once-rest n ((length (names_in w k) + ops_numbers ops) + n) (names ++ ops_kinds ops) (regions_kinds w (suc k) regions) (omega (arith, length-append names (ops_kinds ops), many, ops_kinds-length ops)) h))

    ops_once : {m : Count} (a : Around) (before : List Op) (n : ℕ) (defined : List ℕ) (ops : Ops m) → AreUsedOnce n (ops_kinds ops) → list_all used_there (ops_sites a before n defined ops) ≡ true
    ops_once a before n defined end_ops h = refl
    ops_once a before n defined (more_ops op ops) h =
        let place : Place = record { around = a; before = before; number = n; defined = defined } in
        let there = ops_sites a (before ++ op ∷ []) (op_numbers op + n) (defined ++ own_defined n (out-Op op).kind) ops in
        both-once (op_sites place op) there (op_once place op (once-first n (op_kinds op) (ops_kinds ops) h))
        (ops_once a (before ++ op ∷ []) (op_numbers op + n) (defined ++ own_defined n (out-Op op).kind) ops
        (once-rest n (op_numbers op + n) (op_kinds op) (ops_kinds ops) (omega (arith, op_kinds-length op)) h))

  list_once : (a : Around) (before : List Op) (n : ℕ) (defined : List ℕ) (ops : List Op) → AreUsedOnce n (kinds_of ops) → list_all used_there (sites_of a before n defined ops) ≡ true
  list_once a before n defined [] h = refl
  list_once a before n defined (op ∷ ops) h =
      let place : Place = record { around = a; before = before; number = n; defined = defined } in
      let there = sites_of a (before ++ op ∷ []) (op_numbers op + n) (defined ++ own_defined n (out-Op op).kind) ops in
      both-once (op_sites place op) there (op_once place op (once-first n (op_kinds op) (kinds_of ops) h))
      (list_once a (before ++ op ∷ []) (op_numbers op + n) (defined ++ own_defined n (out-Op op).kind) ops
      (once-rest n (op_numbers op + n) (op_kinds op) (kinds_of ops) (omega (arith, op_kinds-length op)) h))

  pub counted-once : (a : Around) (ops : List Op) → ((k : ℕ) → IsArrayAt k 0 (kinds_of ops) → hits k used ≡ given k 0 (kinds_of ops)) → list_all used_there (sites_of a [] 0 [] ops) ≡ true
  counted-once a ops counted = list_once a [] 0 [] ops (all-once (kinds_of ops) counted)
