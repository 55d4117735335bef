-- The events of the blocks of a WHERE, at any depth.
use Rattle.std.proofs.Common.{◌≡◌, refl, sym, subst, ℕ, ◌+◌, true, false, List, [], ◌∷◌, Some, None, arith}
use Rattle.std.specs.Prelude.{nat_eq}
use mathlib.Core.Former.{Count}
use Rattle.ws_base.specs.declared.refusal.RefusalKind.TheVariants as kind
use Rattle.ws_space.specs.Masks.{Control, held, failed}
use Rattle.ws_tree.specs.declared.expr.Expr.{Expr}
use Rattle.ws_tree.specs.declared.expr.Expr.TheVariants.{Number}
use Rattle.ws_tree.specs.declared.stmt.Body.{Body}
use Rattle.ws_tree.specs.declared.stmt.Body.TheVariants.{Assign, Masked', Forall', Loop', Allocate, Deallocate, Read, Shared', Unsupported, TooDeep}
use Rattle.ws_tree.specs.declared.stmt.Else.{Else'}
use Rattle.ws_tree.specs.Trees.{Stmts, end_stmts, more_stmts, Elses, end_elses, more_elses}
use Rattle.ws_tree.specs.Grammatical.{in_where, IsSide, IsBody, AreStmts, AreElses}
use Rattle.ws_tree.specs.Grammatical as grammar
use Rattle.ws_types.specs.declared.types.Row.{Row}
use Rattle.ws_types.specs.Expressions.{faults}
use Rattle.ws_types.specs.Steps as source
use Rattle.ws_sema.specs.declared.within.Within.TheVariants as within
use Rattle.ws_sema.specs.Statements.{rank_of, block_faults, body_faults, elses_faults}
use Rattle.ws_sema.proofs.NoFaults.{none_first, none_after, impossible}
use Rattle.ws_sema.proofs.Grammar.{where_parts}
use Rattle.hlfir_ops.specs.declared.what.What.TheVariants as what
use Rattle.hlfir_ops.specs.declared.op.Op.{Op}
use Rattle.hlfir_ops.specs.Trees.{op_of, region_of}
use Rattle.hlfir_ops.specs.Numbers.{op_numbers, numbers_of}
use Rattle.lower_values.specs.Scopes.{Scope, inside}
use Rattle.lower_values.specs.Lowerings.{done, ◌>>=◌}
use Rattle.lower_constructs.specs.Modules.{statement, statements, elsewheres, elsewhere}
use Rattle.kind_laws.proofs.Sides.{sides_are_expressions}
use Rattle.kind_laws.proofs.Faultless.{where_faultless}
use Rattle.world_laws.specs.Yields.{region}
use Rattle.world_laws.specs.Meanings.{ValuesMean, LeftsMean}
use Rattle.where_laws.proofs.Forms.{block_of, elsewheres_of, third_events, elsewhere-last, elsewhere-next}
use Rattle.where_laws.proofs.Alike.{Alike, alike_nothing, alike_both, alike_masking}
use Rattle.where_laws.proofs.WhereFacts.{TakesInWhere, mask_known}
use Rattle.where_laws.proofs.Regions.{InScope, region_scope, mask_stands}
use Rattle.where_laws.proofs.Constructs.{later_scope, then_ops, OneAlike, is_more, where_op, masked_ops, only, last_ops, its_mask, block_number, its_block, next_ops, assign_alike, block_then, where_alike}

pub third_is : {k : Count} (c : Control) (es : Elses k) (s : Scope) (n : ℕ) → elsewheres_of c n (elsewheres es s n).ops ≡ third_events (is_more es) c n (elsewheres es s n).ops
unfolding done
third_is c end_elses s n = refl
third_is c (more_elses e es) s n = refl

module _ (values : ValuesMean) (lefts : LeftsMean) (takes : TakesInWhere) (t : List Row) where
  -- an ELSEWHERE with a mask, where its block and what follows it are alike
  module _ {m k : Count} (c : Control) (line : ℕ) (test : Expr) (block : Stmts m) (rest : Elses k) (s : Scope) (n : ℕ) where
    abbrev next_op : Op
    next_op = op_of what.Elsewhere line [] None (region_of (its_mask what.Elsewhere line test block s n) ∷ region_of (its_block what.Elsewhere line test block s n) ∷ [])

    next_alike : InScope t true s n → IsSide test → faults t false line test ≡ [] →
        ((j : ℕ) (r : Scope) (o : ℕ) → InScope t true r o → Alike r.names (source.block (held j) block) (block_of (held j) o (statements block r o).ops)) →
        ((j : ℕ) (r : Scope) (o : ℕ) → InScope t true r o → Alike r.names (source.otherwise (failed j) rest) (elsewheres_of (failed j) o (elsewheres rest r o).ops)) →
        Alike s.names (source.masking line test c (λ j. source.both (source.block (held j) block) (source.otherwise (failed j) rest)))
        (elsewheres_of c n ((elsewhere line (Some test) (statements block) >>= (λ _. elsewheres rest)) s n).ops)
    next_alike h is f blocks elses =
        let here = inside what.Elsewhere line 0 (n + 0) s in
        let a = its_mask what.Elsewhere line test block s n in
        let z = its_block what.Elsewhere line test block s n in
        let two = block_number what.Elsewhere line test block s n in
        let after = n + (op_numbers next_op + 0) in
        let later = (elsewheres rest s after).ops in
        let mask = mask_stands values lefts t true line test here ((n + 0) + 0) n c (omega arith) (region_scope t true true s n what.Elsewhere line 0 (n + 0) ((n + 0) + 0) refl (omega arith) refl h) (sides_are_expressions t false line test is f) f in
        let P : source.Numbered = source.masking line test c (λ j. source.both (source.block (held j) block) (source.otherwise (failed j) rest)) in
        subst (λ l. Alike s.names P (elsewheres_of c n l)) (sym (then_ops (elsewhere line (Some test) (statements block)) (elsewheres rest) s n next_op (next_ops line block s n test)))
        (subst (Alike s.names P) (sym (elsewhere-next c line [] None n (λ d. elsewheres_of d (op_numbers next_op + n) later) what.Elsewhere a z))
        (alike_masking s.names line test (region n a) c _ _ mask (λ j.
        alike_both s.names (source.block (held j) block) (source.otherwise (failed j) rest) (block_of (held j) (numbers_of a + n) z) (elsewheres_of (failed j) (op_numbers next_op + n) later)
        (subst (λ o. Alike s.names (source.block (held j) block) (block_of (held j) o z)) (let at : two + 0 ≡ numbers_of a + n = omega arith in at)
        (blocks j (inside what.Elsewhere line 1 two s) (two + 0) (region_scope t true true s n what.Elsewhere line 1 two (two + 0) refl (omega arith) refl h)))
        (subst (λ o. Alike s.names (source.otherwise (failed j) rest) (elsewheres_of (failed j) o later)) (let at : after ≡ op_numbers next_op + n = omega arith in at)
        (elses j s after (later_scope t true s n after (omega arith) h))))))

    -- and one without
    abbrev last_op : Op
    last_op = op_of what.Elsewhere line [] None (region_of (only line block s n) ∷ [])

    last_alike : InScope t true s n → ((r : Scope) (o : ℕ) → InScope t true r o → Alike r.names (source.block c block) (block_of c o (statements block r o).ops)) →
        Alike s.names (source.block c block) (elsewheres_of c n ((elsewhere line None (statements block) >>= (λ _. elsewheres rest)) s n).ops)
    last_alike h block_stands =
        let a = only line block s n in
        let after = n + (op_numbers last_op + 0) in
        let later = (elsewheres rest s after).ops in
        subst (λ l. Alike s.names (source.block c block) (elsewheres_of c n l)) (sym (then_ops (elsewhere line None (statements block)) (elsewheres rest) s n last_op (last_ops line block s n)))
        (subst (Alike s.names (source.block c block)) (sym (elsewhere-last c line [] None n (λ d. elsewheres_of d (op_numbers last_op + n) later) what.Elsewhere a))
        (subst (λ o. Alike s.names (source.block c block) (block_of c o a)) (let at : (n + 0) + 0 ≡ n = omega arith in at)
        (block_stands (inside what.Elsewhere line 0 (n + 0) s) ((n + 0) + 0) (region_scope t true true s n what.Elsewhere line 0 (n + 0) ((n + 0) + 0) refl (omega arith) refl h))))

  -- ---- blocks of blocks

  mutual
    unfolding done

    pub block_alike : {m : Count} (c : Control) (place : grammar.Within) (room at rank : ℕ) (s : Scope) (n : ℕ) (ss : Stmts m) → InScope t true s n → nat_eq rank 0 ≡ false → AreStmts place room ss →
        block_faults t (within.Masked at (Some rank)) ss ≡ [] → Alike s.names (source.block c ss) (block_of c n (statements ss s n).ops)
    block_alike c place room at rank s n end_stmts h some g f = alike_nothing s.names
    block_alike c place room at rank s n (more_stmts line body rest) h some g f =
        let one = inside_alike c place room line at rank s n body h some g.0 (none_first _ _ f) in
        let next = n + (op_numbers one.op + 0) in
        block_then values lefts takes t c s n (statement line body) (statements rest) (source.inside c line body) (source.block c rest) one
        (block_alike c place room at rank s next rest (later_scope t true s n next (omega arith) h) some g.1 (none_after _ _ f))

    inside_alike : (c : Control) (place : grammar.Within) (room line at rank : ℕ) (s : Scope) (n : ℕ) (body : Body) → InScope t true s n → nat_eq rank 0 ≡ false → IsBody place room line body →
        body_faults t (within.Masked at (Some rank)) line body ≡ [] → OneAlike s n c (statement line body) (source.inside c line body)
    inside_alike c place room line at rank s n (Assign l r) h some g f = assign_alike values lefts takes t c line at rank s n l r h some g.0 g.1 f
    inside_alike c place room line at rank s n (Masked' test i block j rest) h some g f =
        let parts = where_parts place room line test i block j rest g in
        let good = where_faultless t (within.Masked at (Some rank)) line test i block j rest f in
        let known = mask_known t line (Some rank) test good.in_mask (none_after _ _ good.in_header) in
        let blocks : block_faults t (within.Masked line (Some known.type.rank)) block ≡ [] = subst (λ o. block_faults t (within.Masked line (rank_of o)) block ≡ []) known.typed good.in_block in
        let elses : elses_faults t line (Some known.type.rank) rest ≡ [] = subst (λ o. elses_faults t line (rank_of o) rest ≡ []) known.typed good.in_rest in
        record {
          op = where_op line test block rest s n;
          alone = masked_ops line s n (Masked' test i block j rest);
          events = where_alike values lefts takes t true c line test block rest s n h parts.0 good.in_mask
              (λ k r o g. block_alike (held k) parts.1.place parts.1.room line known.type.rank r o block g known.rank parts.1.stands blocks)
              (λ k r o g. subst (Alike r.names (source.otherwise (failed k) rest)) (third_is (failed k) rest r o) (elses_alike (failed k) parts.2.room line known.type.rank r o rest g known.rank parts.2.stands elses));
        }
    inside_alike c place room line at rank s n (Forall' is test i ss) h some g f = impossible line kind.Unsupported f
    inside_alike c place room line at rank s n (Loop' x l u st i ss) h some g f = impossible line kind.Unsupported f
    inside_alike c place room line at rank s n (Allocate ps) h some g f = impossible line kind.Unsupported f
    inside_alike c place room line at rank s n (Deallocate xs) h some g f = impossible line kind.Unsupported f
    inside_alike c place room line at rank s n (Read es) h some g f = impossible line kind.Unsupported f
    inside_alike c place room line at rank s n (Shared' i ss) h some g f = impossible line kind.Unsupported f
    inside_alike c place room line at rank s n Unsupported h some g f = impossible line kind.Unsupported f
    inside_alike c place room line at rank s n TooDeep h some g f = impossible line kind.OverLimit f

    pub elses_alike : {m : Count} (c : Control) (room at rank : ℕ) (s : Scope) (n : ℕ) (es : Elses m) → InScope t true s n → nat_eq rank 0 ≡ false → AreElses room es →
        elses_faults t at (Some rank) es ≡ [] → Alike s.names (source.otherwise c es) (elsewheres_of c n (elsewheres es s n).ops)
    elses_alike c room at rank s n end_elses h some g f = alike_nothing s.names
    elses_alike c room at rank s n (more_elses (Else' line (Some test) i block) rest) h some g f =
        let here = none_first _ _ f in
        let masks = none_first _ _ here in
        let fine = none_first _ _ masks in
        let known = mask_known t line (Some rank) test fine (none_after _ _ masks) in
        let blocks : block_faults t (within.Masked line (Some known.type.rank)) block ≡ [] = subst (λ o. block_faults t (within.Masked line (rank_of o)) block ≡ []) known.typed (none_after _ _ here) in
        next_alike c line test block rest s n h g.0 fine
        (λ k r o q. block_alike (held k) in_where room line known.type.rank r o block q known.rank g.1 blocks)
        (λ k r o q. elses_alike (failed k) room at rank r o rest q some g.2 (none_after _ _ f))
    elses_alike c room at rank s n (more_elses (Else' line None i block) rest) h some g f =
        last_alike c line (Number 0) block rest s n h (λ r o q. block_alike c in_where room at rank r o block q some g.0 (none_first _ _ f))
