-- How ops use values: each operand is defined at its place, and uses are counted against the values that are given.
use Rattle.std.proofs.Common.{◌≡◌, refl, ap, ◌∙◌, ℕ, suc, ◌+◌, true, List, [], ◌∷◌, ◌++◌, map, length, Option, arith, append-nil}
use Rattle.std.specs.Prelude.{Bool, ◌&&◌}
use Rattle.std.specs.List.{list_all, flat_map}
use Rattle.std.proofs.lemmas.Bool.{and_from}
use Rattle.std.proofs.lemmas.List.{length-append, length-map}
use Rattle.std.proofs.lemmas.List.Concat.{flat_map-append}
use Rattle.std.proofs.lemmas.List.Folds.{list_all-append}
use Rattle.hlfir_ops.specs.declared.kinds.ValueKind.{ValueKind}
use Rattle.hlfir_ops.specs.declared.what.What.{What}
use Rattle.hlfir_ops.specs.declared.op.ValueId.{ValueId}
use Rattle.hlfir_ops.specs.declared.op.Op.{Op, Op-F, out-Op, out-roll-Op}
use Rattle.hlfir_ops.specs.declared.op.Region.{Region, Region-F, out-roll-Region}
use Rattle.hlfir_ops.specs.Trees.{op_of, region_of}
use Rattle.hlfir_ops.specs.Numbers.{names_in, own_kinds, own_numbers, numbers_of, kind_of_name, op_numbers, op_kinds, kinds_of, kinds_in, op_order, order_of, order_in}
use Rattle.hlfir_ops.specs.Rules.{operand_numbers, are_defined}
use Rattle.hlfir_ops.specs.RulesPlaces.{Around, Place, Site, around_in, from_number, op_sites, sites_of, sites_in}
use Rattle.hlfir_ops.proofs.NumberedKinds.{op_kinds-parts, op_kinds-length, kinds_of-append}
use Rattle.hlfir_ops.proofs.Order.{op_order-parts, order_of-append}
use Rattle.hlfir_ops.proofs.Sites.{op_sites-parts, defined_by, sites_of-append}
use Rattle.use_laws.proofs.Counting.{hits, hits-append, given, given-append}
use Rattle.use_laws.proofs.Defined.{AllIn, numbers, in-are_defined}

abbrev pub defined_there : Site → Bool
defined_there x = are_defined x.place.defined (out-Op x.op).operands

-- the number of the value at each use in these ops
abbrev pub used : List Op → List ℕ
used ops = flat_map operand_numbers (order_of ops)

-- Ops from number n on, where these numbers are defined. They owe `before` uses of the number k, and leave `after` to those that follow: each value is owed one.
pub record Uses (k n : ℕ) (D : List ℕ) (ops : List Op) (before after : ℕ) : Type 0 where
  pub passing : (a : Around) (front : List Op) → list_all defined_there (sites_of a front n D ops) ≡ true
  pub balanced : hits k (used ops) + after ≡ before + given k n (kinds_of ops)

-- the same of the regions of an op from the one of this number on, which leave none
pub record Inner (k j n : ℕ) (D : List ℕ) (w : What) (regions : List Region) (before : ℕ) : Type 0 where
  pub passing : (a : Around) → list_all defined_there (sites_in a w j n D regions) ≡ true
  pub balanced : hits k (flat_map operand_numbers (order_in regions)) ≡ before + given k n (kinds_in w j regions)

-- ---- lists

used-append : (k : ℕ) (xs ys : List Op) → hits k (used (xs ++ ys)) ≡ hits k (used xs) + hits k (used ys)
used-append k xs ys =
    ap (λ l. hits k (flat_map operand_numbers l)) (order_of-append xs ys)
    ∙ (ap (hits k) (flat_map-append operand_numbers (order_of xs) (order_of ys)) ∙ hits-append k (used xs) (used ys))

pub kinds_of-length : (ops : List Op) → length (kinds_of ops) ≡ numbers_of ops
kinds_of-length [] = refl
kinds_of-length (op ∷ ops) =
    length-append (op_kinds op) (kinds_of ops) ∙ (ap (λ n. n + length (kinds_of ops)) (op_kinds-length op) ∙ ap (λ n. op_numbers op + n) (kinds_of-length ops))

given-appended : (k n : ℕ) (xs ys : List Op) → given k n (kinds_of (xs ++ ys)) ≡ given k n (kinds_of xs) + given k (n + numbers_of xs) (kinds_of ys)
given-appended k n xs ys =
    ap (given k n) (kinds_of-append xs ys)
    ∙ (given-append k n (kinds_of xs) (kinds_of ys) ∙ ap (λ m. given k n (kinds_of xs) + given k (n + m) (kinds_of ys)) (kinds_of-length xs))

pub uses-none : (k n : ℕ) (D : List ℕ) (b : ℕ) → Uses k n D [] b b
uses-none k n D b = record { passing = λ a front. refl; balanced = omega arith }

-- what the first ones do not use is left to the ones after them
pub uses-append : (k n : ℕ) (D : List ℕ) (xs ys : List Op) (b c f e : ℕ) → Uses k n D xs b c → Uses k (n + numbers_of xs) (D ++ defined_by n xs) ys (c + f) e → Uses k n D (xs ++ ys) (b + f) e
uses-append k n D xs ys b c f e g h = record {
  passing = λ a front.
      let here = sites_of a front n D xs in
      let there = sites_of a (front ++ xs) (numbers_of xs + n) (D ++ defined_by n xs) ys in
      let number : numbers_of xs + n ≡ n + numbers_of xs = omega arith in
      let rest : list_all defined_there there ≡ true = ap (λ m. list_all defined_there (sites_of a (front ++ xs) m (D ++ defined_by n xs) ys)) number ∙ h.passing a (front ++ xs) in
      ap (list_all defined_there) (sites_of-append a front n D xs ys) ∙ (list_all-append defined_there here there ∙ and_from (list_all defined_there here) (list_all defined_there there) (g.passing a front) rest);
  balanced = omega (arith, used-append k xs ys, given-appended k n xs ys, g.balanced, h.balanced);
}

-- ---- an op by its parts

module _ (w : What) (line : ℕ) (operands : List ValueId) (kind : Option ValueKind) (regions : List Region) where
  whole : Op-F Op Region
  whole = record { what = w; line = line; operands = operands; kind = kind; regions = regions }

  op_passes : (n : ℕ) (D : List ℕ) (a : Around) (front : List Op) → list_all defined_there (sites_of a front n D (op_of w line operands kind regions ∷ [])) ≡
      (are_defined D operands && list_all defined_there (sites_in a w 0 (own_numbers kind + n) D regions))
  unfolding whole
  op_passes n D a front =
      let op = op_of w line operands kind regions in
      let p : Place = record { around = a; before = front; number = n; defined = D } in
      ap (list_all defined_there) (append-nil (op_sites p op) ∙ op_sites-parts p op)
      ∙ ap (λ (f : Op-F Op Region). are_defined D f.operands && list_all defined_there (sites_in a f.what 0 (own_numbers f.kind + n) D f.regions)) (out-roll-Op whole)

  op_used : (k : ℕ) → hits k (used (op_of w line operands kind regions ∷ [])) ≡ hits k (numbers operands) + hits k (flat_map operand_numbers (order_in regions))
  unfolding whole
  op_used k =
      let op = op_of w line operands kind regions in
      ap (λ l. hits k (flat_map operand_numbers l)) (append-nil (op_order op) ∙ op_order-parts op)
      ∙ (ap (λ (f : Op-F Op Region). hits k (numbers f.operands ++ flat_map operand_numbers (order_in f.regions))) (out-roll-Op whole) ∙ hits-append k (numbers operands) (flat_map operand_numbers (order_in regions)))

  pub op_kinds-is : kinds_of (op_of w line operands kind regions ∷ []) ≡ own_kinds kind ++ kinds_in w 0 regions
  unfolding whole
  op_kinds-is =
      let op = op_of w line operands kind regions in
      append-nil (op_kinds op) ∙ (op_kinds-parts op ∙ ap (λ (f : Op-F Op Region). own_kinds f.kind ++ kinds_in f.what 0 f.regions) (out-roll-Op whole))

  pub uses-op : (k n : ℕ) (D : List ℕ) (b : ℕ) → AllIn D (numbers operands) → Inner k 0 (n + own_numbers kind) D w regions b →
      Uses k n D (op_of w line operands kind regions ∷ []) (hits k (numbers operands) + b) (given k n (own_kinds kind))
  uses-op k n D b h inner = record {
    passing = λ a front.
        let number : own_numbers kind + n ≡ n + own_numbers kind = omega arith in
        op_passes n D a front
        ∙ and_from (are_defined D operands) (list_all defined_there (sites_in a w 0 (own_numbers kind + n) D regions)) (in-are_defined D operands h)
        (ap (λ m. list_all defined_there (sites_in a w 0 m D regions)) number ∙ inner.passing a);
    balanced = omega (arith, op_used k, inner.balanced, ap (given k n) op_kinds-is, given-append k n (own_kinds kind) (kinds_in w 0 regions));
  }

-- ---- regions

pub inner-none : (k j n : ℕ) (D : List ℕ) (w : What) → Inner k j n D w [] 0
inner-none k j n D w = record { passing = λ a. refl; balanced = refl }

module _ (k j n : ℕ) (D : List ℕ) (w : What) (ops : List Op) (rs : List Region) where
  pub region_kinds : kinds_in w j (region_of ops ∷ rs) ≡ (map kind_of_name (names_in w j) ++ kinds_of ops) ++ kinds_in w (suc j) rs
  region_kinds = ap (λ (f : Region-F Op Region). (map kind_of_name (names_in w j) ++ kinds_of f.ops) ++ kinds_in w (suc j) rs) (out-roll-Region (record { ops = ops }))

  region_given : given k n (kinds_in w j (region_of ops ∷ rs)) ≡
      (given k n (map kind_of_name (names_in w j)) + given k (n + length (names_in w j)) (kinds_of ops)) + given k (n + (length (names_in w j) + numbers_of ops)) (kinds_in w (suc j) rs)
  region_given =
      let names = map kind_of_name (names_in w j) in
      let many : length names ≡ length (names_in w j) = length-map (names_in w j) kind_of_name in
      let both : length (names ++ kinds_of ops) ≡ length (names_in w j) + numbers_of ops = omega (arith, length-append names (kinds_of ops), many, kinds_of-length ops) in
      ap (given k n) region_kinds
      ∙ (given-append k n (names ++ kinds_of ops) (kinds_in w (suc j) rs)
      ∙ (ap (λ m. m + given k (n + length (names ++ kinds_of ops)) (kinds_in w (suc j) rs)) (given-append k n names (kinds_of ops))
      ∙ (ap (λ m. (given k n names + given k (n + m) (kinds_of ops)) + given k (n + length (names ++ kinds_of ops)) (kinds_in w (suc j) rs)) many
      ∙ ap (λ m. (given k n names + given k (n + length (names_in w j)) (kinds_of ops)) + given k (n + m) (kinds_in w (suc j) rs)) both)))

  region_used : hits k (flat_map operand_numbers (order_in (region_of ops ∷ rs))) ≡ hits k (used ops) + hits k (flat_map operand_numbers (order_in rs))
  region_used =
      ap (λ (f : Region-F Op Region). hits k (flat_map operand_numbers (order_of f.ops ++ order_in rs))) (out-roll-Region (record { ops = ops }))
      ∙ (ap (hits k) (flat_map-append operand_numbers (order_of ops) (order_in rs)) ∙ hits-append k (used ops) (flat_map operand_numbers (order_in rs)))

  pub inner-more : (b c : ℕ) → Uses k (n + length (names_in w j)) (D ++ from_number n (names_in w j)) ops b 0 → given k n (map kind_of_name (names_in w j)) ≡ 0 →
      Inner k (suc j) (n + (length (names_in w j) + numbers_of ops)) D w rs c → Inner k j n D w (region_of ops ∷ rs) (b + c)
  inner-more b c g none h = record {
    passing = λ a.
        let E = D ++ from_number n (names_in w j) in
        let here = sites_of (around_in a w j) [] (length (names_in w j) + n) E ops in
        let there = sites_in a w (suc j) ((length (names_in w j) + numbers_of ops) + n) D rs in
        let first : length (names_in w j) + n ≡ n + length (names_in w j) = omega arith in
        let second : (length (names_in w j) + numbers_of ops) + n ≡ n + (length (names_in w j) + numbers_of ops) = omega arith in
        ap (λ (f : Region-F Op Region). list_all defined_there (sites_of (around_in a w j) [] (length (names_in w j) + n) E f.ops ++ sites_in a w (suc j) ((length (names_in w j) + numbers_of f.ops) + n) D rs))
        (out-roll-Region (record { ops = ops }))
        ∙ (list_all-append defined_there here there
        ∙ and_from (list_all defined_there here) (list_all defined_there there)
        (ap (λ m. list_all defined_there (sites_of (around_in a w j) [] m E ops)) first ∙ g.passing (around_in a w j) [])
        (ap (λ m. list_all defined_there (sites_in a w (suc j) m D rs)) second ∙ h.passing a));
    balanced = omega (arith, region_used, region_given, g.balanced, h.balanced, none);
  }
