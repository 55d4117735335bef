-- FORALL: its mask, its assignments, and the whole of it.
use Rattle.std.proofs.Common.{◌≡◌, refl, sym, subst, ℕ, ◌+◌, ◌*◌, not, ◌&&◌, true, List, [], ◌∷◌, ◌++◌, length, map, Option, Some, None, arith, append-nil, append_assoc}
use Rattle.std.specs.Prelude.{⊤}
use mathlib.Core.Former.{Count}
use Rattle.ws_base.specs.declared.name.Name.{Name}
use Rattle.ws_base.specs.declared.refusal.RefusalKind.TheVariants as refusal
use Rattle.ws_tree.specs.declared.expr.Expr.{Expr}
use Rattle.ws_tree.specs.declared.stmt.Index.{Index}
use Rattle.ws_tree.specs.declared.stmt.Body.{Body}
use Rattle.ws_tree.specs.declared.stmt.Body.TheVariants.{Assign, Masked', Forall', Loop', Allocate, Deallocate, Read, Shared', Unsupported, TooDeep}
use Rattle.ws_tree.specs.Trees.{Stmts, end_stmts, more_stmts}
use Rattle.ws_tree.specs.Grammatical.{IsSide, IsOptional, IsHeader}
use Rattle.ws_types.specs.declared.types.Row.{Row}
use Rattle.ws_types.specs.Tables.{barred, inner}
use Rattle.ws_counts.specs.Pieces as p
use Rattle.ws_counts.specs.Counts.{parts_in, reductions_in, wholes_in}
use Rattle.ws_sema.specs.declared.within.Within.TheVariants as within
use Rattle.ws_sema.specs.Statements.{body_faults, block_faults, forall_mask_faults, forall_header_faults}
use Rattle.hlfir_ops.specs.declared.what.What.{What}
use Rattle.hlfir_ops.specs.declared.what.What.TheVariants as what
use Rattle.hlfir_ops.specs.declared.op.Op.{Op}
use Rattle.hlfir_ops.specs.declared.op.Region.{Region}
use Rattle.hlfir_ops.specs.Trees.{op_of, region_of}
use Rattle.hlfir_ops.specs.Numbers.{numbers_of, order_of}
use Rattle.hlfir_ops.specs.RulesValues.{Value, values_in, value_of_name}
use Rattle.hlfir_ops.specs.RulesPlaces.{Around, around_in}
use Rattle.lower_values.specs.Scopes.{Scope, inside}
use Rattle.lower_values.specs.Lowerings.{Lowering, done, ◌>>=◌ as ◌then◌, ◌>>◌ as ◌after◌, scoped, statement_of}
use Rattle.lower_values.specs.Values.{value}
use Rattle.lower_assign.specs.Statements.{yielded, all_yielded, is_whole_allocatable, assignment}
use Rattle.lower_values.specs.Lowerings.{acting}
use Rattle.lower_constructs.specs.Modules.{triples, forall_mask, statement, statements}
use Rattle.small_laws.proofs.NoFaults.{none_first, none_after, impossible}
use Rattle.kind_laws.specs.Standing.{Knows}
use Rattle.kind_laws.specs.Found.{Holds, HoldsNames, ScopeIsFound}
use Rattle.kind_laws.specs.Laws.{TypesAreKnown, KindsAreTypes, ValuesAreFound, index_names}
use Rattle.kind_laws.proofs.ScopesKnown.{header_known, forall_known}
use Rattle.kind_laws.proofs.ScopesFound.{inside_found}
use Rattle.limit_laws.proofs.Costs.{total, size, Costs}
use Rattle.limit_laws.proofs.Costing.{costs-weaker}
use Rattle.limit_laws.proofs.Held.{HoldsValues, regions-there, region-there, names-there, rest-there}
use Rattle.limit_laws.proofs.Passing.{RegionsPass, passing-light, regions-none, regions-more, passing-op}
use Rattle.limit_laws.proofs.Tallying.{pieces_are}
use Rattle.limit_laws.proofs.Walking.{First, Whole, first-inner, inner-none, first-masked, whole-forall}
use Rattle.kind_laws.proofs.ScopesMoved.{knows-moved, found-moved}
use Rattle.kind_laws.proofs.Held.{held-first, held-rest}
use Rattle.limit_laws.proofs.Formed.{IsFormed, AreFormed}
use Rattle.limit_laws.proofs.Sides.{side-costs, spends-all_yielded}
use Rattle.limit_laws.proofs.Headers.{header-costs, indexes_are}
use Rattle.limit_laws.proofs.Wheres.{StandsIn, assign-first, assign-regions, inner-less, stands-none, stands-more, assign_passes}

held_names : (vs : List Value) (n : ℕ) (names : List Name) → HoldsValues vs n (map value_of_name names) → HoldsNames vs n names
held_names vs n names h = record { before = h.before; after = h.after; whole = h.whole; count = h.count }

module _ (types : TypesAreKnown) (kinds : KindsAreTypes) (found : ValuesAreFound) (vs : List Value) where
  -- ---- the mask

  module _ (t : List Row) (line : ℕ) (e : Expr) (s : Scope) (n : ℕ) (a : Around) (knows : Knows t s) (here : ScopeIsFound vs s) (i : IsSide e) (f : forall_mask_faults t line (Some e) ≡ []) where
    abbrev mask_scope : Scope
    mask_scope = inside what.ForallMask s.line 0 (n + 0) s

    abbrev mask_ops : List Op
    mask_ops = (yielded (value e) mask_scope (n + 0 + 0)).ops

    mask-stands : Holds vs n (forall_mask (Some e) s n).ops → StandsIn vs a (forall_mask (Some e) s n).ops (p.mask_pieces t true e) 0
    unfolding forall_mask scoped statement_of
    mask-stands h =
        let held = region-there vs (n + 0) what.ForallMask 0 mask_ops [] (regions-there vs n what.ForallMask s.line [] None (region_of mask_ops ∷ []) h) in
        let costs = side-costs types kinds found vs t true true mask_scope (knows-moved t s mask_scope.masked mask_scope.line knows) (found-moved vs s mask_scope.masked mask_scope.line here) line (n + 0 + 0) e i (none_first _ _ f) held in
        record {
          inner = first-inner vs _ _ (subst (λ ps. First vs (order_of (op_of what.ForallMask s.line [] None (region_of mask_ops ∷ []) ∷ [])) ps) (append-nil (p.mask_pieces t true e))
              (first-masked vs what.ForallMask s.line mask_ops [] (p.pieces t true true e) [] (λ c. refl) costs (pieces_are t true true e) (inner-less types kinds found vs [] [] 0 1 (omega arith) (inner-none vs))));
          passing = passing-op vs a what.ForallMask s.line [] None (region_of mask_ops ∷ []) (λ before. refl)
              (regions-more vs a what.ForallMask 0 mask_ops [] (passing-light vs (around_in a what.ForallMask 0) mask_ops costs.light) (regions-none vs a what.ForallMask 1));
        }

  given-mask-stands : (t : List Row) (line : ℕ) (o : Option Expr) (s : Scope) (n : ℕ) (a : Around) → Knows t s → ScopeIsFound vs s → IsOptional o → forall_mask_faults t line o ≡ [] → Holds vs n (forall_mask o s n).ops → StandsIn vs a (forall_mask o s n).ops (p.given_mask_pieces t true o) 0
  unfolding forall_mask done
  given-mask-stands t line None s n a knows here i f h = stands-none types kinds found vs a
  given-mask-stands t line (Some e) s n a knows here i f h = mask-stands t line e s n a knows here i f h

  -- ---- assignments

  assigned-in : (t : List Row) (line b : ℕ) (body : Body) → IsFormed b body → body_faults t within.Forall line body ≡ [] → (s : Scope) (n : ℕ) (a : Around) → Knows t s → ScopeIsFound vs s → a.masked ≡ true → Holds vs n (statement line body s n).ops →
      StandsIn vs a (statement line body s n).ops (p.statement_pieces t true body) 0
  unfolding assignment scoped statement_of
  assigned-in t line b (Assign l r) i f s n a knows here masked h =
      let realloc = not s.masked && is_whole_allocatable s.names l in
      let held = regions-there vs n (what.Assign realloc) line [] None _ h in
      record {
        inner = first-inner vs _ _ (assign-first types kinds found vs t within.Forall line l r s n i.0 i.1 f knows here realloc held);
        passing = assign_passes types kinds found vs line n b a masked realloc _ (assign-regions types kinds found vs t within.Forall line l r s n i.0 i.1 f knows here realloc held a);
      }
  assigned-in t line b (Masked' mask c block d rest) i f s n a knows here masked h = impossible line refusal.Unsupported f
  assigned-in t line b (Forall' is mask c block) i f s n a knows here masked h = impossible line refusal.Unsupported f
  assigned-in t line b (Loop' x l u st c block) i f s n a knows here masked h = impossible line refusal.Unsupported f
  assigned-in t line b (Allocate ps) i f s n a knows here masked h = impossible line refusal.Unsupported f
  assigned-in t line b (Deallocate xs) i f s n a knows here masked h = impossible line refusal.Unsupported f
  assigned-in t line b (Read es) i f s n a knows here masked h = impossible line refusal.Unsupported f
  assigned-in t line b (Shared' c block) i f s n a knows here masked h = impossible line refusal.Unsupported f
  assigned-in t line b Unsupported i f s n a knows here masked h = impossible line refusal.Unsupported f
  assigned-in t line b TooDeep i f s n a knows here masked h = impossible line refusal.OverLimit f

  assignments-in : {m : Count} (t : List Row) (b : ℕ) (block : Stmts m) → AreFormed b block → block_faults t within.Forall block ≡ [] → (s : Scope) (n : ℕ) (a : Around) → Knows t s → ScopeIsFound vs s → a.masked ≡ true → Holds vs n (statements block s n).ops →
      StandsIn vs a (statements block s n).ops (p.forall_pieces t block) 0
  unfolding ◌then◌ done
  assignments-in t b end_stmts i f s n a knows here masked h = stands-none types kinds found vs a
  assignments-in t b (more_stmts line body rest) i f s n a knows here masked h =
      let m = n + numbers_of (statement line body s n).ops in
      stands-more types kinds found vs a (statement line body s n).ops (statements rest s m).ops (p.statement_pieces t true body) (p.forall_pieces t rest) 0 0
      (assigned-in t line b body i.0 (none_first _ _ f) s n a knows here masked (held-first vs (statement line body) (λ _. statements rest) s n h))
      (assignments-in t b rest i.1 (none_after _ _ f) s m a knows here masked (held-rest vs (statement line body) (λ _. statements rest) s n h))

  -- ---- the whole

  module _ {m : Count} (t : List Row) (line b : ℕ) (x : Index) (is : List Index) (mask : Option Expr) (block : Stmts m) (s : Scope) (n : ℕ) (a : Around) (knows : Knows t s) (here : ScopeIsFound vs s) (formed : IsHeader (x ∷ is) mask) (blocks : AreFormed b block)
      (f : forall_header_faults t line (x ∷ is) mask ≡ []) (g : block_faults (inner t (x ∷ is)) within.Forall block ≡ []) where
    abbrev op : What
    op = what.Forall (index_names (x ∷ is))

    abbrev body : Lowering ⊤
    body = forall_mask mask after statements block

    abbrev head_scope : Scope
    head_scope = inside op line 0 (n + 0) s

    abbrev head_ops : List Op
    head_ops = (all_yielded (triples (x ∷ is)) head_scope (n + 0 + 0)).ops

    abbrev body_first : ℕ
    body_first = n + 0 + (0 + numbers_of head_ops)

    abbrev body_scope : Scope
    body_scope = inside op line 1 body_first s

    abbrev body_number : ℕ
    body_number = body_first + length (index_names (x ∷ is))

    abbrev body_ops : List Op
    body_ops = (body body_scope body_number).ops

    abbrev rs : List Region
    rs = region_of head_ops ∷ region_of body_ops ∷ []

    pub record ForallStands : Type 0 where
      pub whole : Whole vs (order_of (op_of op line [] None rs ∷ [])) (p.header_pieces t (x ∷ is) mask ++ p.forall_pieces (inner t (x ∷ is)) block)
      pub passing : RegionsPass vs a op 0 rs

    pub forall-stands : HoldsValues vs (n + 0) (values_in op 0 rs) → ForallStands
    unfolding ◌then◌
    forall-stands h =
        let hs = p.indexes_pieces (barred t (x ∷ is)) (x ∷ is) in
        let ms = p.given_mask_pieces (inner t (x ∷ is)) true mask in
        let bs = p.forall_pieces (inner t (x ∷ is)) block in
        let known = header_known t s (x ∷ is) line (n + 0) knows in
        let head_held = region-there vs (n + 0) op 0 head_ops (region_of body_ops ∷ []) h in
        let headed = header-costs types kinds found vs (barred t (x ∷ is)) head_scope known (found-moved vs s head_scope.masked head_scope.line here) t line (n + 0 + 0) [] (x ∷ is) formed.1 (none_first _ _ f) (held-first vs (triples (x ∷ is)) (λ xs. acting what.Yield xs) head_scope (n + 0 + 0) head_held) in
        let costs : Costs vs head_ops (27 * parts_in hs + 1) (reductions_in hs) (wholes_in hs) = costs-weaker vs _ _ _ _ (27 * parts_in hs + 1) (reductions_in hs) (wholes_in hs)
        (spends-all_yielded vs (triples (x ∷ is)) head_scope (n + 0 + 0) (total size (triples (x ∷ is) head_scope (n + 0 + 0)).ops) (reductions_in hs) (wholes_in hs) (record { light = headed.light; size = omega arith; reductions = headed.reductions; wholes = headed.wholes }))
        (omega (arith, headed.size)) (omega arith) (omega arith) in
        let rest = rest-there vs (n + 0) op 0 head_ops (region_of body_ops ∷ []) h in
        let in_body = forall_known t s (x ∷ is) line line body_first (none_first _ _ f) knows in
        let names = held_names vs body_first (index_names (x ∷ is)) (names-there vs body_first op 1 body_ops [] rest) in
        let here_body = inside_found vs s op line 1 body_first names here in
        let body_held = region-there vs body_first op 1 body_ops [] rest in
        let later = body_number + numbers_of (forall_mask mask body_scope body_number).ops in
        let inner_around = around_in a op 1 in
        let stands = stands-more types kinds found vs inner_around (forall_mask mask body_scope body_number).ops (statements block body_scope later).ops ms bs 0 0
        (given-mask-stands (inner t (x ∷ is)) line mask body_scope body_number inner_around in_body here_body formed.2 (none_after _ _ f) (held-first vs (forall_mask mask) (λ _. statements block) body_scope body_number body_held))
        (assignments-in (inner t (x ∷ is)) b block blocks g body_scope later inner_around in_body here_body refl (held-rest vs (forall_mask mask) (λ _. statements block) body_scope body_number body_held)) in
        record {
          whole = subst (λ ps. Whole vs (order_of (op_of op line [] None rs ∷ [])) ps) (sym (append_assoc hs ms bs))
              (whole-forall vs op line head_ops body_ops _ (ms ++ bs) (λ c. refl) costs (indexes_are (barred t (x ∷ is)) (x ∷ is)).1 stands.inner);
          passing = regions-more vs a op 0 head_ops (region_of body_ops ∷ []) (passing-light vs (around_in a op 0) head_ops costs.light)
              (regions-more vs a op 1 body_ops [] stands.passing (regions-none vs a op 2));
        }
