-- Assignments and WHERE, wherever they stand.
use Rattle.std.proofs.Common.{◌≡◌, refl, sym, ◌∙◌, subst, ℕ, ◌+◌, ◌<◌, ◌≤◌, nat_lt, Bool, true, false, List, [], ◌∷◌, ◌++◌, None, arith, append-nil, append_assoc}
use Rattle.std.specs.Prelude.{⊤}
use Rattle.std.proofs.lemmas.Bool.{and_from}
use mathlib.Core.Former.{Count}
use Rattle.ws_tree.specs.declared.expr.Expr.{Expr}
use Rattle.ws_tree.specs.Trees.{Stmts, Elses, end_elses, more_elses}
use Rattle.ws_tree.specs.Grammatical.{IsSide, IsDesignator}
use Rattle.ws_types.specs.declared.types.Row.{Row}
use Rattle.ws_types.specs.Expressions.{faults}
use Rattle.ws_counts.specs.declared.tally.Piece.{Piece}
use Rattle.ws_counts.specs.declared.tally.Piece.TheVariants as piece
use Rattle.ws_counts.specs.Pieces as p
use Rattle.ws_sema.specs.declared.within.Within.{Within}
use Rattle.ws_sema.specs.Statements.{is_inside, assign_faults}
use Rattle.hlfir_ops.specs.declared.what.What.{What}
use Rattle.hlfir_ops.specs.declared.what.What.TheVariants as what
use Rattle.hlfir_ops.specs.declared.op.Op.{Op}
use Rattle.hlfir_ops.specs.declared.op.Region.{Region}
use Rattle.hlfir_ops.specs.Trees.{op_of, region_of}
use Rattle.hlfir_ops.specs.Numbers.{numbers_of, order_of, order_in}
use Rattle.hlfir_ops.proofs.Order.{order_of-append}
use Rattle.hlfir_ops.specs.RulesValues.{Value, values_in}
use Rattle.hlfir_ops.specs.RulesPlaces.{Around, around_in}
use Rattle.hlfir_ops.specs.Rules.{statement_fits}
use Rattle.lower_values.specs.Scopes.{Scope, inside}
use Rattle.lower_values.specs.Lowerings.{Lowering, regions_from}
use Rattle.lower_values.specs.Values.{value}
use Rattle.lower_assign.specs.Statements.{yielded, left}
use Rattle.lower_constructs.specs.Modules.{third, statements, elsewheres}
use Rattle.small_laws.proofs.NoFaults.{none_first, none_after}
use Rattle.kind_laws.specs.Standing.{Knows}
use Rattle.kind_laws.specs.Found.{Holds, ScopeIsFound}
use Rattle.kind_laws.specs.Laws.{TypesAreKnown, KindsAreTypes, ValuesAreFound}
use Rattle.limit_laws.proofs.Held.{HoldsValues, region-there, rest-there}
use Rattle.limit_laws.proofs.Passing.{Passing, RegionsPass, passing-light, passing-none, passing-append, regions-none, regions-more, passing-op}
use Rattle.limit_laws.proofs.Tallying.{pieces_are}
use Rattle.limit_laws.proofs.Walking.{Inner, First, inner-none, inner-more, first-assign, first-masked}
use Rattle.limit_laws.proofs.Sides.{SideCosts, side-costs, left-costs}
use Rattle.limit_laws.proofs.Totals.{order-region}
use Rattle.kind_laws.proofs.ScopesMoved.{knows-moved, found-moved}

-- ops inside a WHERE
pub record StandsIn (vs : List Value) (a : Around) (ops : List Op) (ps : List Piece) (extra : ℕ) : Type 0 where
  pub inner : Inner vs (order_of ops) ps extra
  pub passing : Passing vs a ops

-- a list of regions
pub record RegionsStandIn (vs : List Value) (a : Around) (w : What) (k : ℕ) (rs : List Region) (ps : List Piece) (extra : ℕ) : Type 0 where
  pub inner : Inner vs (order_in rs) ps extra
  pub passing : RegionsPass vs a w k rs

masked_fits : (vs : List Value) (a : Around) (op : Op) → a.masked ≡ true → statement_fits a.masked a.shared vs op ≡ true
masked_fits vs a op h = subst (λ m. statement_fits m a.shared vs op ≡ true) (sym h) refl

pub bodies_fit : (b : ℕ) → b < 65 → nat_lt b 65 ≡ true
bodies_fit b h = grind (arith, h)

module _ (types : TypesAreKnown) (kinds : KindsAreTypes) (found : ValuesAreFound) (vs : List Value) where
  -- ---- an assignment

  abbrev sides : Expr → Expr → List (Lowering ⊤)
  sides l r = yielded (value r) ∷ yielded (left l) ∷ []

  module _ (t : List Row) (w : Within) (line : ℕ) (l r : Expr) (s : Scope) (n : ℕ) (il : IsDesignator l) (ir : IsSide r) (f : assign_faults t w line l r ≡ []) (knows : Knows t s) (here : ScopeIsFound vs s) (realloc : Bool) where
    abbrev op : What
    op = what.Assign realloc

    abbrev rs : List Region
    rs = regions_from op line 0 (n + 0) (sides l r) s

    abbrev outer : Scope
    outer = inside op line 0 (n + 0) s

    abbrev right_ops : List Op
    right_ops = (yielded (value r) outer (n + 0 + 0)).ops

    abbrev left_first : ℕ
    left_first = n + 0 + (0 + numbers_of right_ops)

    abbrev left_ops : List Op
    left_ops = (yielded (left l) (inside op line 1 left_first s) (left_first + 0)).ops

    module _ (h : HoldsValues vs (n + 0) (values_in op 0 rs)) where
      right_costs : SideCosts vs right_ops (p.pieces t (is_inside w) false r)
      right_costs = side-costs types kinds found vs t (is_inside w) false outer (knows-moved t s outer.masked outer.line knows) (found-moved vs s outer.masked outer.line here) line (n + 0 + 0) r ir
          (none_after _ _ (none_first _ _ (none_first _ _ f)))
          (region-there vs (n + 0) op 0 right_ops (region_of left_ops ∷ []) h)

      left_costs : SideCosts vs left_ops (p.pieces t (is_inside w) false l)
      left_costs = left-costs types kinds found vs t (is_inside w) false (inside op line 1 left_first s) (knows-moved t s outer.masked outer.line knows) (found-moved vs s outer.masked outer.line here) line (left_first + 0) l il
          (none_first _ _ (none_first _ _ (none_first _ _ (none_first _ _ (none_first _ _ f)))))
          (region-there vs left_first op 1 left_ops [] (rest-there vs (n + 0) op 0 right_ops (region_of left_ops ∷ []) h))

      pub assign-first : First vs (order_of (op_of op line [] None rs ∷ [])) (p.assigned_pieces t (is_inside w) l r)
      assign-first = first-assign vs realloc line right_ops left_ops (p.pieces t (is_inside w) false l) (p.pieces t (is_inside w) false r) right_costs left_costs (pieces_are t (is_inside w) false l) (pieces_are t (is_inside w) false r)

      pub assign-regions : (a : Around) → RegionsPass vs a op 0 rs
      assign-regions a = regions-more vs a op 0 right_ops (region_of left_ops ∷ []) (passing-light vs (around_in a op 0) right_ops right_costs.light)
          (regions-more vs a op 1 left_ops [] (passing-light vs (around_in a op 1) left_ops left_costs.light) (regions-none vs a op 2))

  -- ---- a mask, and what it controls

  pub regions-inner : (ops : List Op) (rs : List Region) (ps qs : List Piece) (m k : ℕ) → Inner vs (order_of ops) ps m → Inner vs (order_in rs) qs k → Inner vs (order_in (region_of ops ∷ rs)) (ps ++ qs) (m + k)
  regions-inner ops rs ps qs m k f g = subst (λ l. Inner vs l (ps ++ qs) (m + k)) (sym (order-region ops rs)) (inner-more vs (order_of ops) (order_in rs) ps qs m k f g)

  pub inner-less : (ops : List Op) (ps : List Piece) (m k : ℕ) → m ≤ k → Inner vs ops ps m → Inner vs ops ps k
  inner-less ops ps m k h i = record { size = omega (arith, i.size, h); counts = i.counts }

  pub stands-none : (a : Around) → StandsIn vs a [] [] 0
  stands-none a = record { inner = inner-none vs; passing = passing-none vs a }

  pub stands-more : (a : Around) (xs ys : List Op) (ps qs : List Piece) (m k : ℕ) → StandsIn vs a xs ps m → StandsIn vs a ys qs k → StandsIn vs a (xs ++ ys) (ps ++ qs) (m + k)
  stands-more a xs ys ps qs m k f g = record {
    inner = subst (λ l. Inner vs l (ps ++ qs) (m + k)) (sym (order_of-append xs ys)) (inner-more vs (order_of xs) (order_of ys) ps qs m k f.inner g.inner);
    passing = passing-append vs a xs ys f.passing g.passing;
  }

  module _ (t : List Row) (w : What) (line : ℕ) (mask : Expr) (s : Scope) (n : ℕ) (im : IsSide mask) (mask_line : ℕ) (f : faults t false mask_line mask ≡ []) (knows : Knows t s) (here : ScopeIsFound vs s) where
    -- the region of a mask that stands at this number
    pub mask-costs : (masked : Bool) (own : ℕ) → Holds vs n (yielded (value mask) (record { names = s.names; indexes = s.indexes; masked = masked; line = own }) n).ops →
        SideCosts vs (yielded (value mask) (record { names = s.names; indexes = s.indexes; masked = masked; line = own }) n).ops (p.pieces t false true mask)
    mask-costs masked own h = side-costs types kinds found vs t false true (record { names = s.names; indexes = s.indexes; masked = masked; line = own }) (knows-moved t s masked own knows) (found-moved vs s masked own here) mask_line n mask im f h

  abbrev pub BlockStandsIn : {m : Count} → List Row → ℕ → Stmts m → Type 0
  BlockStandsIn t b block = (s : Scope) (n : ℕ) (a : Around) → Knows t s → ScopeIsFound vs s → a.masked ≡ true → a.bodies ≤ b → Holds vs n (statements block s n).ops → StandsIn vs a (statements block s n).ops (p.block_pieces t false block) 0

  -- Each ELSEWHERE adds a body.
  abbrev pub ElsesStandIn : {m : Count} → List Row → ℕ → Elses m → Type 0
  ElsesStandIn t b rest = (s : Scope) (n : ℕ) (a : Around) → Knows t s → ScopeIsFound vs s → a.masked ≡ true → 1 + a.bodies ≤ b → Holds vs n (elsewheres rest s n).ops → StandsIn vs a (elsewheres rest s n).ops (p.elses_pieces t false rest) 1

  third_in : {m : Count} (t : List Row) (line b n : ℕ) (s : Scope) (a : Around) (rest : Elses m) → Knows t s → ScopeIsFound vs s → a.bodies ≤ b → ElsesStandIn t (1 + b) rest →
      HoldsValues vs n (values_in what.Masked 2 (regions_from what.Masked line 2 n (third rest (elsewheres rest)) s)) →
      RegionsStandIn vs a what.Masked 2 (regions_from what.Masked line 2 n (third rest (elsewheres rest)) s) (p.elses_pieces t false rest) 1
  third_in t line b n s a end_elses knows here low each h = record { inner = inner-less [] [] 0 1 (omega arith) (inner-none vs); passing = regions-none vs a what.Masked 2 }
  third_in t line b n s a (more_elses e es) knows here low each h =
      let scope = inside what.Masked line 2 n s in
      let ops = (elsewheres (more_elses e es) scope (n + 0)).ops in
      let ps = p.elses_pieces t false (more_elses e es) in
      let r = each scope (n + 0) (around_in a what.Masked 2) (knows-moved t s scope.masked scope.line knows) (found-moved vs s scope.masked scope.line here) refl (omega (arith, low)) (region-there vs n what.Masked 2 ops [] h) in
      record {
        inner = subst (λ l. Inner vs l ps 1) (sym (order-region ops [] ∙ append-nil (order_of ops))) r.inner;
        passing = regions-more vs a what.Masked 2 ops [] r.passing (regions-none vs a what.Masked 3);
      }

  -- a WHERE: what it counts, and that its regions keep the limits
  pub record MaskedStands (a : Around) (line : ℕ) (rs : List Region) (ps : List Piece) : Type 0 where
    pub first : First vs (order_of (op_of what.Masked line [] None rs ∷ [])) ps
    pub passing : RegionsPass vs a what.Masked 0 rs

  module _ {m k : Count} (t : List Row) (line : ℕ) (mask : Expr) (block : Stmts m) (rest : Elses k) (s : Scope) (n b : ℕ) (a : Around) (knows : Knows t s) (here : ScopeIsFound vs s) (im : IsSide mask) (mask_line : ℕ) (f : faults t false mask_line mask ≡ []) where
    abbrev masked_regions : List Region
    masked_regions = regions_from what.Masked line 0 (n + 0) (yielded (value mask) ∷ statements block ∷ third rest (elsewheres rest)) s

    abbrev mask_scope : Scope
    mask_scope = inside what.Masked line 0 (n + 0) s

    abbrev mask_ops : List Op
    mask_ops = (yielded (value mask) mask_scope (n + 0 + 0)).ops

    abbrev block_first : ℕ
    block_first = n + 0 + (0 + numbers_of mask_ops)

    abbrev block_scope : Scope
    block_scope = inside what.Masked line 1 block_first s

    abbrev block_ops : List Op
    block_ops = (statements block block_scope (block_first + 0)).ops

    abbrev rest_first : ℕ
    rest_first = block_first + (0 + numbers_of block_ops)

    abbrev rest_regions : List Region
    rest_regions = regions_from what.Masked line 2 rest_first (third rest (elsewheres rest)) s

    pub masked-stands : a.bodies ≤ b → BlockStandsIn t (1 + b) block → ElsesStandIn t (1 + b) rest → HoldsValues vs (n + 0) (values_in what.Masked 0 masked_regions) →
        MaskedStands a line masked_regions ((p.mask_pieces t false mask ++ p.block_pieces t false block) ++ p.elses_pieces t false rest)
    masked-stands low each others h =
        let ms = p.pieces t false true mask in
        let bs = p.block_pieces t false block in
        let es = p.elses_pieces t false rest in
        let held = rest-there vs (n + 0) what.Masked 0 mask_ops (region_of block_ops ∷ rest_regions) h in
        let costs = mask-costs t what.Masked line mask s (n + 0 + 0) im mask_line f knows here mask_scope.masked mask_scope.line (region-there vs (n + 0) what.Masked 0 mask_ops (region_of block_ops ∷ rest_regions) h) in
        let body = each block_scope (block_first + 0) (around_in a what.Masked 1) (knows-moved t s block_scope.masked block_scope.line knows) (found-moved vs s block_scope.masked block_scope.line here) refl (omega (arith, low)) (region-there vs block_first what.Masked 1 block_ops rest_regions held) in
        let others' = third_in t line b rest_first s a rest knows here low others (rest-there vs block_first what.Masked 1 block_ops rest_regions held) in
        record {
          first = subst (λ ps. First vs (order_of (op_of what.Masked line [] None masked_regions ∷ [])) ps) (sym (append_assoc (piece.Mask ∷ ms) bs es))
              (first-masked vs what.Masked line mask_ops (region_of block_ops ∷ rest_regions) ms (bs ++ es) (λ c. refl) costs (pieces_are t false true mask)
              (regions-inner block_ops rest_regions bs es 0 1 body.inner others'.inner));
          passing = regions-more vs a what.Masked 0 mask_ops (region_of block_ops ∷ rest_regions) (passing-light vs (around_in a what.Masked 0) mask_ops costs.light)
              (regions-more vs a what.Masked 1 block_ops rest_regions body.passing others'.passing);
        }

  -- an op that keeps the limits by itself inside a WHERE
  module _ (line n b : ℕ) (a : Around) (masked : a.masked ≡ true) where
    pub assign_passes : (realloc : Bool) (rs : List Region) → RegionsPass vs a (what.Assign realloc) 0 rs → Passing vs a (op_of (what.Assign realloc) line [] None rs ∷ [])
    assign_passes realloc rs r = passing-op vs a (what.Assign realloc) line [] None rs (λ before. masked_fits vs a (op_of (what.Assign realloc) line [] None rs) masked) r

    pub masked_passes : (rs : List Region) → b < 65 → a.bodies ≤ b → RegionsPass vs a what.Masked 0 rs → Passing vs a (op_of what.Masked line [] None rs ∷ [])
    masked_passes rs low less r = passing-op vs a what.Masked line [] None rs (λ before. and_from _ _ (bodies_fit a.bodies (omega (arith, low, less))) (masked_fits vs a (op_of what.Masked line [] None rs) masked)) r

  pub elsewhere_passes : (line : ℕ) (a : Around) (rs : List Region) → RegionsPass vs a what.Elsewhere 0 rs → Passing vs a (op_of what.Elsewhere line [] None rs ∷ [])
  elsewhere_passes line a rs r = passing-op vs a what.Elsewhere line [] None rs (λ before. refl) r
