-- What holds of all ops in printed order.
use Rattle.std.proofs.Common.{◌≡◌, refl, sym, ap, ◌∙◌, ℕ, suc, ◌+◌, Bool, true, ◌&&◌, List, [], ◌∷◌, ◌++◌, length, Option}
use Rattle.std.specs.List.{list_all}
use Rattle.std.proofs.lemmas.List.Folds.{list_all-append}
use Rattle.std.proofs.lemmas.Bool.{and_from, and_parts}
use mathlib.Core.Former.{Count}
use Rattle.hlfir_ops.specs.declared.kinds.ValueKind.{ValueKind}
use Rattle.hlfir_ops.specs.declared.what.What.{What}
use Rattle.hlfir_ops.specs.declared.op.ValueId.{ValueId}
use Rattle.hlfir_ops.specs.declared.op.Op.{Op, Op', out-Op, out-roll-Op}
use Rattle.hlfir_ops.specs.declared.op.Region.{Region, Region'}
use Rattle.hlfir_ops.specs.Trees.{Ops, end_ops, more_ops, Regions, end_regions, more_regions, op_of, region_of}
use Rattle.hlfir_ops.specs.Numbers.{names_in, own_numbers, op_numbers, ops_numbers, op_order, regions_order, ops_order, order_of, order_in}
use Rattle.hlfir_ops.specs.RulesPlaces.{Around, Place, Site, around_in, from_number, own_defined, op_sites, regions_sites, ops_sites, sites_of}
use Rattle.hlfir_ops.proofs.Order.{op_order-parts, order_of-append}
use Rattle.kind_laws.proofs.Ends.{ops-region_of}

module _ {A : Type 0} (test : A → Bool) where
  pub all-append : (xs ys : List A) → list_all test xs ≡ true → list_all test ys ≡ true → list_all test (xs ++ ys) ≡ true
  all-append xs ys h g = list_all-append test xs ys ∙ and_from (list_all test xs) (list_all test ys) h g

  pub all-weaker : (other : A → Bool) (xs : List A) → ((x : A) → test x ≡ true → other x ≡ true) → list_all test xs ≡ true → list_all other xs ≡ true
  all-weaker other [] f h = refl
  all-weaker other (x ∷ xs) f h = and_from (other x) (list_all other xs) (f x ((and_parts (test x) (list_all test xs) h).0)) (all-weaker other xs f ((and_parts (test x) (list_all test xs) h).1))

-- ---- a test of each site follows from one of each op in printed order; P says what is known of what is around

module _ (P : Around → Type 0) (inner : (a : Around) (w : What) (k : ℕ) → P (around_in a w k)) (test : Site → Bool) (T : Op → Bool) (fits : (s : Site) → P s.place.around → T s.op ≡ true → test s ≡ true) where
  mutual
    op_passes : (p : Place) (op : Op) → P p.around → list_all T (op_order op) ≡ true → list_all test (op_sites p op) ≡ true
    op_passes p (Op' w line operands kind h regions) around all =
        let here : Op = Op' w line operands kind h regions in
        let site : Site = record { place = p; op = here } in
        and_from (test site) (list_all test (regions_sites p.around w 0 (own_numbers kind + p.number) p.defined regions))
        (fits site around ((and_parts (T here) (list_all T (regions_order regions)) all).0))
        (regions_pass p.around w 0 (own_numbers kind + p.number) p.defined regions ((and_parts (T here) (list_all T (regions_order regions)) all).1))

    regions_pass : {m : Count} (a : Around) (w : What) (k n : ℕ) (d : List ℕ) (regions : Regions m) → list_all T (regions_order regions) ≡ true → list_all test (regions_sites a w k n d regions) ≡ true
    regions_pass a w k n d end_regions all = refl
    regions_pass a w k n d (more_regions (Region' _ ops) regions) all =
        let here = list_all-append T (ops_order ops) (regions_order regions) in
        let split : (list_all T (ops_order ops) && list_all T (regions_order regions)) ≡ true = sym here ∙ all in
        all-append test (ops_sites (around_in a w k) [] (length (names_in w k) + n) (d ++ from_number n (names_in w k)) ops) (regions_sites a w (suc k) ((length (names_in w k) + ops_numbers ops) + n) d regions)
        (ops_pass (around_in a w k) [] (length (names_in w k) + n) (d ++ from_number n (names_in w k)) ops (inner a w k) ((and_parts (list_all T (ops_order ops)) (list_all T (regions_order regions)) split).0))
        (regions_pass a w (suc k) ((length (names_in w k) + ops_numbers ops) + n) d regions ((and_parts (list_all T (ops_order ops)) (list_all T (regions_order regions)) split).1))

    ops_pass : {m : Count} (a : Around) (before : List Op) (n : ℕ) (d : List ℕ) (ops : Ops m) → P a → list_all T (ops_order ops) ≡ true → list_all test (ops_sites a before n d ops) ≡ true
    ops_pass a before n d end_ops around all = refl
    ops_pass a before n d (more_ops op ops) around all =
        let place : Place = record { around = a; before = before; number = n; defined = d } in
        let split : (list_all T (op_order op) && list_all T (ops_order ops)) ≡ true = sym (list_all-append T (op_order op) (ops_order ops)) ∙ all in
        all-append test (op_sites place op) (ops_sites a (before ++ op ∷ []) (op_numbers op + n) (d ++ own_defined n (out-Op op).kind) ops)
        (op_passes place op around ((and_parts (list_all T (op_order op)) (list_all T (ops_order ops)) split).0))
        (ops_pass a (before ++ op ∷ []) (op_numbers op + n) (d ++ own_defined n (out-Op op).kind) ops around ((and_parts (list_all T (op_order op)) (list_all T (ops_order ops)) split).1))

  pub all_pass : (a : Around) (before : List Op) (n : ℕ) (d : List ℕ) (ops : List Op) → P a → list_all T (order_of ops) ≡ true → list_all test (sites_of a before n d ops) ≡ true
  all_pass a before n d [] around all = refl
  all_pass a before n d (op ∷ ops) around all =
      let place : Place = record { around = a; before = before; number = n; defined = d } in
      let split : (list_all T (op_order op) && list_all T (order_of ops)) ≡ true = sym (list_all-append T (op_order op) (order_of ops)) ∙ all in
      all-append test (op_sites place op) (sites_of a (before ++ op ∷ []) (op_numbers op + n) (d ++ own_defined n (out-Op op).kind) ops)
      (op_passes place op around ((and_parts (list_all T (op_order op)) (list_all T (order_of ops)) split).0))
      (all_pass a (before ++ op ∷ []) (op_numbers op + n) (d ++ own_defined n (out-Op op).kind) ops around ((and_parts (list_all T (op_order op)) (list_all T (order_of ops)) split).1))

-- ---- an op by its parts

pub parts-op_of : (w : What) (line : ℕ) (operands : List ValueId) (kind : Option ValueKind) (regions : List Region) → out-Op (op_of w line operands kind regions) ≡ (record { what = w; line = line; operands = operands; kind = kind; regions = regions })
parts-op_of w line operands kind regions = out-roll-Op (record { what = w; line = line; operands = operands; kind = kind; regions = regions })

-- ---- what holds of all ops in printed order, list by list

abbrev pub Everywhere : (Op → Bool) → List Op → Type 0
Everywhere T ops = list_all T (order_of ops) ≡ true

abbrev pub EverywhereIn : (Op → Bool) → List Region → Type 0
EverywhereIn T regions = list_all T (order_in regions) ≡ true

module _ (T : Op → Bool) where
  pub everywhere-append : (xs ys : List Op) → Everywhere T xs → Everywhere T ys → Everywhere T (xs ++ ys)
  everywhere-append xs ys h g = ap (list_all T) (order_of-append xs ys) ∙ all-append T (order_of xs) (order_of ys) h g

  pub in-region : (ops : List Op) (regions : List Region) → Everywhere T ops → EverywhereIn T regions → EverywhereIn T (region_of ops ∷ regions)
  in-region ops regions h g = ap (λ l. list_all T (order_of l ++ order_in regions)) (ops-region_of ops) ∙ all-append T (order_of ops) (order_in regions) h g

  module _ (w : What) (line : ℕ) (operands : List ValueId) (kind : Option ValueKind) (regions : List Region) where
    pub everywhere-op : T (op_of w line operands kind regions) ≡ true → EverywhereIn T regions → Everywhere T (op_of w line operands kind regions ∷ [])
    everywhere-op h g =
        let op = op_of w line operands kind regions in
        let order : op_order op ≡ op ∷ order_in regions = op_order-parts op ∙ ap (λ f. op ∷ order_in f.regions) (parts-op_of w line operands kind regions) in
        all-append T (op_order op) [] (ap (list_all T) order ∙ and_from (T op) (list_all T (order_in regions)) h g) refl
