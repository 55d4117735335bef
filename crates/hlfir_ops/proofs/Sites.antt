-- The sites of ops: those of an op by its fields, of one list after another, and their printed order.
use Rattle.std.proofs.Common.{◌≡◌, refl, sym, ap, ◌∙◌, ℕ, suc, ◌+◌, List, [], ◌∷◌, ◌++◌, map, length, append_assoc, append-nil, arith}
use Rattle.std.proofs.lemmas.List.{map-append}
use mathlib.Core.Former.{Count}
use Rattle.hlfir_ops.specs.declared.what.What.{What}
use Rattle.hlfir_ops.specs.declared.op.Op.{Op, Op', out-Op, roll-Op, roll-out-Op}
use Rattle.hlfir_ops.specs.declared.op.Region.{Region, Region', out-Region, roll-Region, roll-out-Region}
use Rattle.hlfir_ops.specs.declared.op.Op.TheBlock.{hidden-the_row-Region-0, hidden-the_row-Op-1}
use Rattle.hlfir_ops.specs.Opened.{trees_open}
use Rattle.hlfir_ops.specs.Trees.{Ops, end_ops, more_ops, Regions, end_regions, more_regions}
use Rattle.hlfir_ops.specs.Numbers.{names_in, own_numbers, op_numbers, ops_numbers, numbers_of, op_order, regions_order, ops_order, order_of}
use Rattle.hlfir_ops.specs.RulesPlaces.{Around, Place, Site, around_in, from_number, own_defined, op_sites, regions_sites, ops_sites, sites_of, sites_in}
use Rattle.hlfir_ops.proofs.Numbered.{ops_numbers-list}

-- ---- sites of an op by its fields

ops_sites-list : (a : Around) (before : List Op) (n : ℕ) (d : List ℕ) (ops : List Op) → ops_sites a before n d (hidden-the_row-Op-1 ops) ≡ sites_of a before n d ops
unfolding trees_open
ops_sites-list a before n d [] = refl
ops_sites-list a before n d (op ∷ ops) =
    ap (λ l. op_sites (record { around = a; before = before; number = n; defined = d }) op ++ l) (ops_sites-list a (before ++ op ∷ []) (op_numbers op + n) (d ++ own_defined n (out-Op op).kind) ops)

regions_sites_front : (a : Around) (w : What) (k n : ℕ) (d : List ℕ) (region : Region) (regions : List Region) → regions_sites a w k n d (hidden-the_row-Region-0 (roll-Region (out-Region region) ∷ regions)) ≡
    ops_sites (around_in a w k) [] (length (names_in w k) + n) (d ++ from_number n (names_in w k)) (hidden-the_row-Op-1 (out-Region region).ops)
    ++ regions_sites a w (suc k) ((length (names_in w k) + ops_numbers (hidden-the_row-Op-1 (out-Region region).ops)) + n) d (hidden-the_row-Region-0 regions)
unfolding trees_open
regions_sites_front a w k n d region regions = refl

regions_sites-list : (a : Around) (w : What) (k n : ℕ) (d : List ℕ) (regions : List Region) → regions_sites a w k n d (hidden-the_row-Region-0 regions) ≡ sites_in a w k n d regions
unfolding trees_open
regions_sites-list a w k n d [] = refl
regions_sites-list a w k n d (region ∷ regions) =
    let ops = (out-Region region).ops in
    let first = ops_sites (around_in a w k) [] (length (names_in w k) + n) (d ++ from_number n (names_in w k)) (hidden-the_row-Op-1 ops) in
    ap (λ r. regions_sites a w k n d (hidden-the_row-Region-0 (r ∷ regions))) (sym (roll-out-Region region))
    ∙ (regions_sites_front a w k n d region regions
    ∙ (ap (λ m. first ++ regions_sites a w (suc k) ((length (names_in w k) + m) + n) d (hidden-the_row-Region-0 regions)) (ops_numbers-list ops)
    ∙ (ap (λ l. l ++ regions_sites a w (suc k) ((length (names_in w k) + numbers_of ops) + n) d (hidden-the_row-Region-0 regions)) (ops_sites-list (around_in a w k) [] (length (names_in w k) + n) (d ++ from_number n (names_in w k)) ops)
    ∙ ap (λ l. sites_of (around_in a w k) [] (length (names_in w k) + n) (d ++ from_number n (names_in w k)) ops ++ l) (regions_sites-list a w (suc k) ((length (names_in w k) + numbers_of ops) + n) d regions))))

op_sites_front : (p : Place) (op : Op) → op_sites p (roll-Op (out-Op op)) ≡
    record { place = p; op = roll-Op (out-Op op) } ∷ regions_sites p.around (out-Op op).what 0 (own_numbers (out-Op op).kind + p.number) p.defined (hidden-the_row-Region-0 (out-Op op).regions)
unfolding trees_open
op_sites_front p op = refl

-- the site of an op, and those in its regions
pub op_sites-parts : (p : Place) (op : Op) → op_sites p op ≡ record { place = p; op = op } ∷ sites_in p.around (out-Op op).what 0 (own_numbers (out-Op op).kind + p.number) p.defined (out-Op op).regions
op_sites-parts p op =
    let inner = regions_sites p.around (out-Op op).what 0 (own_numbers (out-Op op).kind + p.number) p.defined (hidden-the_row-Region-0 (out-Op op).regions) in
    ap (op_sites p) (sym (roll-out-Op op))
    ∙ (op_sites_front p op
    ∙ (ap (λ o. let s : Site = record { place = p; op = o } in s ∷ inner) (roll-out-Op op)
    ∙ ap (λ l. let s : Site = record { place = p; op = op } in s ∷ l) (regions_sites-list p.around (out-Op op).what 0 (own_numbers (out-Op op).kind + p.number) p.defined (out-Op op).regions)))

-- ---- one list after another

-- the numbers of the values that these ops give in their own list, from this number on
abbrev pub defined_by : ℕ → List Op → List ℕ
defined_by n [] = []
defined_by n (op ∷ ops) = own_defined n (out-Op op).kind ++ defined_by (op_numbers op + n) ops

none_before : (n : ℕ) → n ≡ 0 + n
none_before n = omega arith

pub sites_of-append : (a : Around) (before : List Op) (n : ℕ) (d : List ℕ) (xs ys : List Op) →
    sites_of a before n d (xs ++ ys) ≡ sites_of a before n d xs ++ sites_of a (before ++ xs) (numbers_of xs + n) (d ++ defined_by n xs) ys
sites_of-append a before n d [] ys =
    ap (λ b. sites_of a b n d ys) (sym (append-nil before)) ∙ (ap (λ e. sites_of a (before ++ []) n e ys) (sym (append-nil d)) ∙ ap (λ m. sites_of a (before ++ []) m (d ++ []) ys) (none_before n))
sites_of-append a before n d (op ∷ xs) ys =
    let first = op_sites (record { around = a; before = before; number = n; defined = d }) op in
    let d' = d ++ own_defined n (out-Op op).kind in
    let rest = sites_of a (before ++ op ∷ []) (op_numbers op + n) d' xs in
    ap (λ l. first ++ l) (sites_of-append a (before ++ op ∷ []) (op_numbers op + n) d' xs ys
    ∙ (ap (λ b. rest ++ sites_of a b (numbers_of xs + (op_numbers op + n)) (d' ++ defined_by (op_numbers op + n) xs) ys) (append_assoc before (op ∷ []) xs)
    ∙ (ap (λ m. rest ++ sites_of a (before ++ op ∷ xs) m (d' ++ defined_by (op_numbers op + n) xs) ys) (omega arith)
    ∙ ap (λ e. rest ++ sites_of a (before ++ op ∷ xs) ((op_numbers op + numbers_of xs) + n) e ys) (append_assoc d (own_defined n (out-Op op).kind) (defined_by (op_numbers op + n) xs)))))
    ∙ sym (append_assoc first rest (sites_of a (before ++ op ∷ xs) ((op_numbers op + numbers_of xs) + n) (d ++ (own_defined n (out-Op op).kind ++ defined_by (op_numbers op + n) xs)) ys))

pub defined_by-append : (n : ℕ) (xs ys : List Op) → defined_by n (xs ++ ys) ≡ defined_by n xs ++ defined_by (numbers_of xs + n) ys
defined_by-append n [] ys = ap (λ m. defined_by m ys) (none_before n)
defined_by-append n (op ∷ xs) ys =
    ap (λ l. own_defined n (out-Op op).kind ++ l) (defined_by-append (op_numbers op + n) xs ys ∙ ap (λ m. defined_by (op_numbers op + n) xs ++ defined_by m ys) (omega arith))
    ∙ sym (append_assoc (own_defined n (out-Op op).kind) (defined_by (op_numbers op + n) xs) (defined_by ((op_numbers op + numbers_of xs) + n) ys))

-- ---- they stand in printed order

abbrev pub op_there : Site → Op
op_there s = s.op

mutual
  op_in_order : (p : Place) (op : Op) → map op_there (op_sites p op) ≡ op_order op
  op_in_order p (Op' w line operands kind h regions) = ap (λ l. Op' w line operands kind h regions ∷ l) (regions_in_order p.around w 0 (own_numbers kind + p.number) p.defined regions)

  regions_in_order : {m : Count} (a : Around) (w : What) (k n : ℕ) (d : List ℕ) (regions : Regions m) → map op_there (regions_sites a w k n d regions) ≡ regions_order regions
  regions_in_order a w k n d end_regions = refl
  regions_in_order a w k n d (more_regions (Region' _ ops) regions) =
      let first = ops_sites (around_in a w k) [] (length (names_in w k) + n) (d ++ from_number n (names_in w k)) ops in
      let rest = regions_sites a w (suc k) ((length (names_in w k) + ops_numbers ops) + n) d regions in
      map-append op_there first rest
      ∙ (ap (λ l. l ++ map op_there rest) (ops_in_order (around_in a w k) [] (length (names_in w k) + n) (d ++ from_number n (names_in w k)) ops)
      ∙ ap (λ l. ops_order ops ++ l) (regions_in_order a w (suc k) ((length (names_in w k) + ops_numbers ops) + n) d regions))

  ops_in_order : {m : Count} (a : Around) (before : List Op) (n : ℕ) (d : List ℕ) (ops : Ops m) → map op_there (ops_sites a before n d ops) ≡ ops_order ops
  ops_in_order a before n d end_ops = refl
  ops_in_order a before n d (more_ops op ops) =
      let place : Place = record { around = a; before = before; number = n; defined = d } in
      let rest = ops_sites a (before ++ op ∷ []) (op_numbers op + n) (d ++ own_defined n (out-Op op).kind) ops in
      map-append op_there (op_sites place op) rest
      ∙ (ap (λ l. l ++ map op_there rest) (op_in_order place op)
      ∙ ap (λ l. op_order op ++ l) (ops_in_order a (before ++ op ∷ []) (op_numbers op + n) (d ++ own_defined n (out-Op op).kind) ops))

pub list_in_order : (a : Around) (before : List Op) (n : ℕ) (d : List ℕ) (ops : List Op) → map op_there (sites_of a before n d ops) ≡ order_of ops
list_in_order a before n d [] = refl
list_in_order a before n d (op ∷ ops) =
    let place : Place = record { around = a; before = before; number = n; defined = d } in
    let rest = sites_of a (before ++ op ∷ []) (op_numbers op + n) (d ++ own_defined n (out-Op op).kind) ops in
    map-append op_there (op_sites place op) rest
    ∙ (ap (λ l. l ++ map op_there rest) (op_in_order place op)
    ∙ ap (λ l. op_order op ++ l) (list_in_order a (before ++ op ∷ []) (op_numbers op + n) (d ++ own_defined n (out-Op op).kind) ops))
