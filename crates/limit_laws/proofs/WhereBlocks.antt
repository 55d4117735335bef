-- All that stands in a WHERE.
use Rattle.std.proofs.Common.{◌≡◌, refl, sym, ◌∙◌, subst, ℕ, ◌+◌, ◌≤◌, not, ◌&&◌, true, false, List, [], ◌∷◌, ◌++◌, Option, Some, None, arith, append-nil}
use Rattle.std.specs.Prelude.{⊤}
use mathlib.Core.Former.{Count}
use Rattle.ws_base.specs.declared.refusal.RefusalKind.TheVariants as refusal
use Rattle.ws_tree.specs.declared.expr.Expr.{Expr}
use Rattle.ws_tree.specs.declared.stmt.Body.{Body}
use Rattle.ws_tree.specs.declared.stmt.Body.TheVariants.{Assign, Masked', Forall', Loop', Allocate, Deallocate, Read, Shared', Unsupported, TooDeep}
use Rattle.ws_tree.specs.declared.stmt.Else.{Else'}
use Rattle.ws_tree.specs.Trees.{Stmts, end_stmts, more_stmts, Elses, end_elses, more_elses}
use Rattle.ws_tree.specs.Grammatical.{IsSide}
use Rattle.ws_types.specs.declared.types.Row.{Row}
use Rattle.ws_types.specs.Expressions.{faults}
use Rattle.ws_counts.specs.Pieces as p
use Rattle.ws_sema.specs.declared.within.Within.TheVariants as within
use Rattle.ws_sema.specs.Statements.{mask_rank, body_faults, block_faults, elses_faults}
use Rattle.hlfir_ops.specs.declared.what.What.TheVariants as what
use Rattle.hlfir_ops.specs.Trees.{region_of}
use Rattle.hlfir_ops.specs.Numbers.{numbers_of, order_of, order_in}
use Rattle.hlfir_ops.specs.RulesValues.{Value}
use Rattle.hlfir_ops.specs.RulesPlaces.{Around, around_in}
use Rattle.lower_values.specs.Scopes.{Scope, inside}
use Rattle.lower_values.specs.Lowerings.{Lowering, done, ◌>>=◌ as ◌then◌, scoped, statement_of}
use Rattle.lower_values.specs.Values.{value}
use Rattle.lower_assign.specs.Statements.{yielded, is_whole_allocatable, assignment}
use Rattle.lower_constructs.specs.Modules.{elsewhere, statement, statements, elsewheres}
use Rattle.small_laws.proofs.NoFaults.{none_first, none_after, impossible}
use Rattle.kind_laws.specs.Standing.{Knows}
use Rattle.kind_laws.specs.Found.{Holds, ScopeIsFound}
use Rattle.kind_laws.specs.Laws.{TypesAreKnown, KindsAreTypes, ValuesAreFound}
use Rattle.limit_laws.proofs.Totals.{order-region}
use Rattle.limit_laws.proofs.Held.{regions-there, region-there, rest-there}
use Rattle.limit_laws.proofs.Passing.{passing-light, regions-none, regions-more}
use Rattle.limit_laws.proofs.Tallying.{pieces_are}
use Rattle.limit_laws.proofs.Walking.{Inner, first-inner, inner-none, inner-op, first-masked}
use Rattle.kind_laws.proofs.ScopesMoved.{knows-moved, found-moved}
use Rattle.kind_laws.proofs.Held.{held-first, held-rest}
use Rattle.limit_laws.proofs.Formed.{IsFormed, AreFormed, AreElsesFormed}
use Rattle.limit_laws.proofs.Wheres.{StandsIn, BlockStandsIn, ElsesStandIn, assign-first, assign-regions, inner-less, stands-none, stands-more, mask-costs, masked-stands, assign_passes, masked_passes, elsewhere_passes}

module _ (types : TypesAreKnown) (kinds : KindsAreTypes) (found : ValuesAreFound) (vs : List Value) where
  module _ {m : Count} (t : List Row) (line b : ℕ) (block : Stmts m) (s : Scope) (n : ℕ) (a : Around) (knows : Knows t s) (here : ScopeIsFound vs s) (masked : a.masked ≡ true) (low : 1 + a.bodies ≤ b) (each : BlockStandsIn types kinds found vs t b block) where
    -- ELSEWHERE without a mask
    pub else-plain : Holds vs n (elsewhere line None (statements block) s n).ops → StandsIn vs a (elsewhere line None (statements block) s n).ops (p.block_pieces t false block) 1
    unfolding statement_of
    else-plain h =
        let scope = inside what.Elsewhere line 0 (n + 0) s in
        let ops = (statements block scope (n + 0 + 0)).ops in
        let rs = region_of ops ∷ [] in
        let ps = p.block_pieces t false block in
        let r = each scope (n + 0 + 0) (around_in a what.Elsewhere 0) (knows-moved t s scope.masked scope.line knows) (found-moved vs s scope.masked scope.line here) masked (omega (arith, low)) (region-there vs (n + 0) what.Elsewhere 0 ops [] (regions-there vs n what.Elsewhere line [] None rs h)) in
        let inner : Inner vs (order_in rs) ps 0 = subst (λ l. Inner vs l ps 0) (sym (order-region ops [] ∙ append-nil (order_of ops))) r.inner in
        record {
          inner = inner-op vs what.Elsewhere line [] rs ps 1 (omega (arith, inner.size)) (λ c k u. inner.counts c k u);
          passing = elsewhere_passes types kinds found vs line a rs (regions-more vs a what.Elsewhere 0 ops [] r.passing (regions-none vs a what.Elsewhere 1));
        }

    -- ELSEWHERE with a mask
    pub else-masked : (mask : Expr) → IsSide mask → (mask_line : ℕ) → faults t false mask_line mask ≡ [] → Holds vs n (elsewhere line (Some mask) (statements block) s n).ops →
        StandsIn vs a (elsewhere line (Some mask) (statements block) s n).ops (p.mask_pieces t false mask ++ p.block_pieces t false block) 0
    unfolding statement_of
    else-masked mask im mask_line f h =
        let scope = inside what.Elsewhere line 0 (n + 0) s in
        let mask_ops = (yielded (value mask) scope (n + 0 + 0)).ops in
        let next = n + 0 + (0 + numbers_of mask_ops) in
        let inner_scope = inside what.Elsewhere line 1 next s in
        let ops = (statements block inner_scope (next + 0)).ops in
        let rs = region_of mask_ops ∷ region_of ops ∷ [] in
        let ms = p.pieces t false true mask in
        let bs = p.block_pieces t false block in
        let held = regions-there vs n what.Elsewhere line [] None rs h in
        let costs = mask-costs types kinds found vs t what.Elsewhere line mask s (n + 0 + 0) im mask_line f knows here scope.masked scope.line (region-there vs (n + 0) what.Elsewhere 0 mask_ops (region_of ops ∷ []) held) in
        let r = each inner_scope (next + 0) (around_in a what.Elsewhere 1) (knows-moved t s inner_scope.masked inner_scope.line knows) (found-moved vs s inner_scope.masked inner_scope.line here) masked (omega (arith, low))
        (region-there vs next what.Elsewhere 1 ops [] (rest-there vs (n + 0) what.Elsewhere 0 mask_ops (region_of ops ∷ []) held)) in
        let inner : Inner vs (order_in (region_of ops ∷ [])) bs 1 = inner-less types kinds found vs (order_in (region_of ops ∷ [])) bs 0 1 (omega arith) (subst (λ l. Inner vs l bs 0) (sym (order-region ops [] ∙ append-nil (order_of ops))) r.inner) in
        record {
          inner = first-inner vs _ _ (first-masked vs what.Elsewhere line mask_ops (region_of ops ∷ []) ms bs (λ c. refl) costs (pieces_are t false true mask) inner);
          passing = elsewhere_passes types kinds found vs line a rs
              (regions-more vs a what.Elsewhere 0 mask_ops (region_of ops ∷ []) (passing-light vs (around_in a what.Elsewhere 0) mask_ops costs.light)
              (regions-more vs a what.Elsewhere 1 ops [] r.passing (regions-none vs a what.Elsewhere 2)));
        }

  mutual
    unfolding ◌then◌ done statement_of assignment scoped

    pub body-in : (t : List Row) (cl : ℕ) (cr : Option ℕ) (line b : ℕ) (body : Body) → IsFormed b body → body_faults t (within.Masked cl cr) line body ≡ [] → (s : Scope) (n : ℕ) (a : Around) → Knows t s → ScopeIsFound vs s → a.masked ≡ true → a.bodies ≤ b →
        Holds vs n (statement line body s n).ops → StandsIn vs a (statement line body s n).ops (p.where_pieces t false body) 0
    body-in t cl cr line b (Assign l r) i f s n a knows here masked low h =
        let realloc = not s.masked && is_whole_allocatable s.names l in
        let held = regions-there vs n (what.Assign realloc) line [] None _ h in
        record {
          inner = first-inner vs _ _ (assign-first types kinds found vs t (within.Masked cl cr) line l r s n i.0 i.1 f knows here realloc held);
          passing = assign_passes types kinds found vs line n b a masked realloc _ (assign-regions types kinds found vs t (within.Masked cl cr) line l r s n i.0 i.1 f knows here realloc held a);
        }
    body-in t cl cr line b (Masked' mask c block d rest) i f s n a knows here masked low h =
        let r = masked-stands types kinds found vs t line mask block rest s n b a knows here i.1 line (none_first _ _ (none_first _ _ (none_first _ _ f))) low
        (block-in t line (mask_rank t mask) (1 + b) block i.2 (none_after _ _ (none_first _ _ f)))
        (elses-in t line (mask_rank t mask) (1 + b) rest i.3 (none_after _ _ f))
        (regions-there vs n what.Masked line [] None _ h) in
        record { inner = first-inner vs _ _ r.first; passing = masked_passes types kinds found vs line n b a masked _ i.0 low r.passing }
    body-in t cl cr line b (Forall' is mask c block) i f s n a knows here masked low h = impossible line refusal.Unsupported f
    body-in t cl cr line b (Loop' x l u st c block) i f s n a knows here masked low h = impossible line refusal.Unsupported f
    body-in t cl cr line b (Allocate ps) i f s n a knows here masked low h = impossible line refusal.Unsupported f
    body-in t cl cr line b (Deallocate xs) i f s n a knows here masked low h = impossible line refusal.Unsupported f
    body-in t cl cr line b (Read es) i f s n a knows here masked low h = impossible line refusal.Unsupported f
    body-in t cl cr line b (Shared' c block) i f s n a knows here masked low h = impossible line refusal.Unsupported f
    body-in t cl cr line b Unsupported i f s n a knows here masked low h = impossible line refusal.Unsupported f
    body-in t cl cr line b TooDeep i f s n a knows here masked low h = impossible line refusal.OverLimit f

    pub block-in : {m : Count} (t : List Row) (cl : ℕ) (cr : Option ℕ) (b : ℕ) (block : Stmts m) → AreFormed b block → block_faults t (within.Masked cl cr) block ≡ [] → BlockStandsIn types kinds found vs t b block
    block-in t cl cr b end_stmts i f s n a knows here masked low h = stands-none types kinds found vs a
    block-in t cl cr b (more_stmts line body rest) i f s n a knows here masked low h =
        let m = n + numbers_of (statement line body s n).ops in
        stands-more types kinds found vs a (statement line body s n).ops (statements rest s m).ops (p.where_pieces t false body) (p.block_pieces t false rest) 0 0
        (body-in t cl cr line b body i.0 (none_first _ _ f) s n a knows here masked low (held-first vs (statement line body) (λ _. statements rest) s n h))
        (block-in t cl cr b rest i.1 (none_after _ _ f) s m a knows here masked low (held-rest vs (statement line body) (λ _. statements rest) s n h))

    pub elses-in : {m : Count} (t : List Row) (line : ℕ) (first : Option ℕ) (b : ℕ) (rest : Elses m) → AreElsesFormed b rest → elses_faults t line first rest ≡ [] → ElsesStandIn types kinds found vs t b rest
    elses-in t line first b end_elses i f s n a knows here masked low h = record { inner = inner-less types kinds found vs [] [] 0 1 (omega arith) (inner-none vs); passing = (stands-none types kinds found vs a).passing }
    elses-in t line first b (more_elses (Else' own (Some mask) c block) es) i f s n a knows here masked low h =
        let q : Lowering ⊤ = elsewhere own (Some mask) (statements block) in
        let m = n + numbers_of (q s n).ops in
        stands-more types kinds found vs a (q s n).ops (elsewheres es s m).ops (p.mask_pieces t false mask ++ p.block_pieces t false block) (p.elses_pieces t false es) 0 1
        (else-masked t own b block s n a knows here masked low (block-in t own _ b block i.1 (none_after _ _ (none_first _ _ f))) mask i.0 own (none_first _ _ (none_first _ _ (none_first _ _ f))) (held-first vs q (λ _. elsewheres es) s n h))
        (elses-in t line first b es i.2 (none_after _ _ f) s m a knows here masked low (held-rest vs q (λ _. elsewheres es) s n h))
    elses-in t line first b (more_elses (Else' own None c block) end_elses) i f s n a knows here masked low h =
        let q : Lowering ⊤ = elsewhere own None (statements block) in
        stands-more types kinds found vs a (q s n).ops [] (p.block_pieces t false block) [] 1 0
        (else-plain t own b block s n a knows here masked low (block-in t line first b block i.0 (none_first _ _ f)) (held-first vs q (λ _. elsewheres end_elses) s n h))
        (stands-none types kinds found vs a)
    elses-in t line first b (more_elses (Else' own None c block) (more_elses e es)) i f s n a knows here masked low h = absurd i.1
