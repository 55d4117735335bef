-- The events of a lowered WHERE stand for those of its source.
use Rattle.std.proofs.Common.{◌≡◌, refl, sym, ap, subst, ℕ, ◌+◌, ◌≤◌, Bool, true, false, not, ◌&&◌, List, [], ◌∷◌, ◌++◌, Some, None, arith}
use Rattle.std.specs.Prelude.{⊤, nat_eq}
use mathlib.Core.Former.{Count}
use Rattle.ws_space.specs.Masks.{Control, held, failed}
use Rattle.ws_tree.specs.declared.expr.Expr.{Expr}
use Rattle.ws_tree.specs.declared.stmt.Body.{Body}
use Rattle.ws_tree.specs.declared.stmt.Body.TheVariants.{Assign, Masked', Forall', Loop', Allocate, Deallocate, Read, Shared', Unsupported, TooDeep}
use Rattle.ws_tree.specs.Trees.{Stmts, Elses, end_elses, more_elses}
use Rattle.ws_tree.specs.Grammatical.{IsSide, IsDesignator}
use Rattle.ws_types.specs.declared.types.Row.{Row}
use Rattle.ws_types.specs.Expressions.{faults}
use Rattle.ws_types.specs.Steps as source
use Rattle.ws_sema.specs.declared.within.Within.TheVariants as within
use Rattle.ws_sema.specs.Statements.{left_faults, left_type, control_faults, body_faults}
use Rattle.ws_sema.proofs.NoFaults.{none_first, none_after}
use Rattle.hlfir_ops.specs.declared.what.What.{What}
use Rattle.hlfir_ops.specs.declared.what.What.TheVariants as what
use Rattle.hlfir_ops.specs.declared.op.Op.{Op}
use Rattle.hlfir_ops.specs.Trees.{op_of, region_of}
use Rattle.hlfir_ops.specs.Numbers.{op_numbers, numbers_of}
use Rattle.hlfir_meaning.specs.Steps as ops
use Rattle.lower_values.specs.Scopes.{Scope, inside}
use Rattle.lower_values.specs.Lowerings.{Lowering, ◌>>=◌, scoped, statement_of, regions_from}
use Rattle.lower_values.specs.Values.{value}
use Rattle.lower_assign.specs.Statements.{yielded, left, assignment, is_whole_allocatable}
use Rattle.lower_constructs.specs.Modules.{statement, statements, elsewheres, elsewhere, third}
use Rattle.kind_laws.proofs.Sides.{sides_are_expressions}
use Rattle.world_laws.specs.Yields.{region}
use Rattle.world_laws.specs.Meanings.{ValuesMean, LeftsMean}
use Rattle.where_laws.proofs.Forms.{block_of, third_regions, third_events, inside-assign, inside-masked}
use Rattle.where_laws.proofs.Alike.{Alike, alike_event, alike_both, alike_masking}
use Rattle.where_laws.proofs.WhereFacts.{TakesInWhere}
use Rattle.where_laws.proofs.Regions.{InScope, region_scope, mask_stands, assignment_stands}

-- ---- one op after another

pub later_scope : (t : List Row) (b : Bool) (s : Scope) (n m : ℕ) → n ≤ m → InScope t b s n → InScope t b s m
later_scope t b s n m low h = let few = h.declared in record { knows = h.knows; no_index = h.no_index; masked = h.masked; declared = omega (arith, few, low) }

pub then_ops : (p q : Lowering ⊤) (s : Scope) (n : ℕ) (op : Op) → (p s n).ops ≡ op ∷ [] → ((p >>= (λ _. q)) s n).ops ≡ op ∷ (q s (n + (op_numbers op + 0))).ops
unfolding ◌>>=◌
then_ops p q s n op h = ap (λ l. l ++ (q s (n + numbers_of l)).ops) h

-- one op, whose events stand for these
pub record OneAlike (s : Scope) (n : ℕ) (c : Control) (p : Lowering ⊤) (q : source.Numbered) : Type 0 where
  pub op : Op
  pub alone : (p s n).ops ≡ op ∷ []
  pub events : Alike s.names q (ops.inside c n op)

-- ---- ops with regions

abbrev pub is_more : {k : Count} → Elses k → Bool
is_more end_elses = false
is_more (more_elses e es) = true

-- the ops of a mask that is the first region of an op, and those of a block that is its second
module _ {m : Count} (w : What) (line : ℕ) (test : Expr) (block : Stmts m) (s : Scope) (n : ℕ) where
  abbrev pub its_mask : List Op
  its_mask = (yielded (value test) (inside w line 0 (n + 0) s) ((n + 0) + 0)).ops

  abbrev pub block_number : ℕ
  block_number = (n + 0) + (0 + numbers_of its_mask)

  abbrev pub its_block : List Op
  its_block = (statements block (inside w line 1 block_number s) (block_number + 0)).ops

module _ {m k : Count} (line : ℕ) (test : Expr) (block : Stmts m) (rest : Elses k) (s : Scope) (n : ℕ) where
  abbrev pub third_number : ℕ
  third_number = block_number what.Masked line test block s n + (0 + numbers_of (its_block what.Masked line test block s n))

  abbrev pub last : List Op
  last = (elsewheres rest (inside what.Masked line 2 third_number s) (third_number + 0)).ops

  abbrev pub where_op : Op
  where_op = op_of what.Masked line [] None (region_of (its_mask what.Masked line test block s n) ∷ region_of (its_block what.Masked line test block s n) ∷ third_regions (is_more rest) last)

third_list : {k : Count} (line n : ℕ) (rest : Elses k) (s : Scope) → regions_from what.Masked line 2 n (third rest (elsewheres rest)) s ≡ third_regions (is_more rest) (elsewheres rest (inside what.Masked line 2 n s) (n + 0)).ops
third_list line n end_elses s = refl
third_list line n (more_elses e es) s = refl

abbrev pub MaskedOps : ℕ → Scope → ℕ → Body → Type 0
MaskedOps line s n (Masked' test h block j rest) = (statement line (Masked' test h block j rest) s n).ops ≡ where_op line test block rest s n ∷ []
MaskedOps line s n body = Unit {0}

pub masked_ops : (line : ℕ) (s : Scope) (n : ℕ) (body : Body) → MaskedOps line s n body
unfolding statement_of
masked_ops line s n (Masked' test h block j rest) =
    ap (λ l. op_of what.Masked line [] None (region_of (its_mask what.Masked line test block s n) ∷ region_of (its_block what.Masked line test block s n) ∷ l) ∷ []) (third_list line (third_number line test block rest s n) rest s)
masked_ops line s n (Assign a b) = tt
masked_ops line s n (Forall' is test h ss) = tt
masked_ops line s n (Loop' x a b c h ss) = tt
masked_ops line s n (Allocate ps) = tt
masked_ops line s n (Deallocate xs) = tt
masked_ops line s n (Read es) = tt
masked_ops line s n (Shared' h ss) = tt
masked_ops line s n Unsupported = tt
masked_ops line s n TooDeep = tt

abbrev pub its_realloc : Scope → Expr → Bool
its_realloc s l = not s.masked && is_whole_allocatable s.names l

pub assign_ops : (line : ℕ) (l r : Expr) (s : Scope) (n : ℕ) → (statement line (Assign l r) s n).ops ≡
    op_of (what.Assign (its_realloc s l)) line [] None (regions_from (what.Assign (its_realloc s l)) line 0 (n + 0) (yielded (value r) ∷ yielded (left l) ∷ []) s) ∷ []
unfolding assignment scoped statement_of
assign_ops line l r s n = refl

-- ---- ELSEWHERE

module _ {m : Count} (line : ℕ) (block : Stmts m) (s : Scope) (n : ℕ) where
  abbrev pub only : List Op
  only = (statements block (inside what.Elsewhere line 0 (n + 0) s) ((n + 0) + 0)).ops

  pub last_ops : (elsewhere line None (statements block) s n).ops ≡ op_of what.Elsewhere line [] None (region_of only ∷ []) ∷ []
  unfolding statement_of
  last_ops = refl

  pub next_ops : (test : Expr) → (elsewhere line (Some test) (statements block) s n).ops ≡
      op_of what.Elsewhere line [] None (region_of (its_mask what.Elsewhere line test block s n) ∷ region_of (its_block what.Elsewhere line test block s n) ∷ []) ∷ []
  unfolding statement_of
  next_ops test = refl

-- ---- the events of each

module _ (values : ValuesMean) (lefts : LeftsMean) (takes : TakesInWhere) (t : List Row) where
  pub assign_alike : (c : Control) (line at rank : ℕ) (s : Scope) (n : ℕ) (l r : Expr) → InScope t true s n → nat_eq rank 0 ≡ false → IsDesignator l → IsSide r → body_faults t (within.Masked at (Some rank)) line (Assign l r) ≡ [] →
      OneAlike s n c (statement line (Assign l r)) (source.inside c line (Assign l r))
  assign_alike c line at rank s n l r h some is_left is f =
      let w = within.Masked at (Some rank) in
      let sides = none_first _ _ f in
      let left_fine : left_faults t false line l ≡ [] = none_first _ _ (none_first _ _ sides) in
      let right_fine : faults t false line r ≡ [] = none_after _ _ (none_first _ _ sides) in
      let fine : control_faults w (left_type t false l) ≡ [] = none_after _ _ f in
      let stands = assignment_stands values lefts t true line l r s n c h (takes t line at rank l r s h.knows some left_fine fine) (sides_are_expressions t false line r is right_fine) right_fine is_left left_fine in
      let whole = regions_from (what.Assign (its_realloc s l)) line 0 (n + 0) (yielded (value r) ∷ yielded (left l) ∷ []) s in
      record {
        op = op_of (what.Assign (its_realloc s l)) line [] None whole;
        alone = assign_ops line l r s n;
        events = subst (Alike s.names (source.inside c line (Assign l r))) (sym (inside-assign c line [] None n (its_realloc s l) whole))
            (alike_event s.names (source.assigned (record { line = line; left = l; right = r; under = c })) (ops.assigned (ops.assignment_of c line (its_realloc s l) n whole)) stands);
      }

  -- what follows in a block
  pub block_then : (c : Control) (s : Scope) (n : ℕ) (p q : Lowering ⊤) (e f : source.Numbered) → (one : OneAlike s n c p e) →
      (let next = n + (op_numbers one.op + 0) in Alike s.names f (block_of c next (q s next).ops)) → Alike s.names (source.both e f) (block_of c n ((p >>= (λ _. q)) s n).ops)
  block_then c s n p q e f one h =
      let next = n + (op_numbers one.op + 0) in
      let at : next ≡ op_numbers one.op + n = omega arith in
      subst (λ l. Alike s.names (source.both e f) (block_of c n l)) (sym (then_ops p q s n one.op one.alone))
      (alike_both s.names e f (ops.inside c n one.op) (block_of c (op_numbers one.op + n) (q s next).ops) one.events (subst (λ m. Alike s.names f (block_of c m (q s next).ops)) at h))

  -- a WHERE, where its blocks and what follows them are alike
  module _ {m k : Count} (b : Bool) (c : Control) (line : ℕ) (test : Expr) (block : Stmts m) (rest : Elses k) (s : Scope) (n : ℕ) where
    pub where_alike : InScope t b s n → IsSide test → faults t false line test ≡ [] →
        ((j : ℕ) (r : Scope) (o : ℕ) → InScope t true r o → Alike r.names (source.block (held j) block) (block_of (held j) o (statements block r o).ops)) →
        ((j : ℕ) (r : Scope) (o : ℕ) → InScope t true r o → Alike r.names (source.otherwise (failed j) rest) (third_events (is_more rest) (failed j) o (elsewheres rest r o).ops)) →
        Alike s.names (source.masking line test c (λ j. source.both (source.block (held j) block) (source.otherwise (failed j) rest))) (ops.inside c n (where_op line test block rest s n))
    where_alike h is f blocks elses =
        let here = inside what.Masked line 0 (n + 0) s in
        let a = its_mask what.Masked line test block s n in
        let z = its_block what.Masked line test block s n in
        let two = block_number what.Masked line test block s n in
        let three = third_number line test block rest s n in
        let mask = mask_stands values lefts t true line test here ((n + 0) + 0) n c (omega arith) (region_scope t b true s n what.Masked line 0 (n + 0) ((n + 0) + 0) refl (omega arith) refl h) (sides_are_expressions t false line test is f) f in
        subst (Alike s.names (source.masking line test c (λ j. source.both (source.block (held j) block) (source.otherwise (failed j) rest)))) (sym (inside-masked c line [] None n a z (is_more rest) (last line test block rest s n)))
        (alike_masking s.names line test (region n a) c _ _ mask (λ j.
        alike_both s.names (source.block (held j) block) (source.otherwise (failed j) rest) (block_of (held j) (numbers_of a + n) z) (third_events (is_more rest) (failed j) (numbers_of z + (numbers_of a + n)) (last line test block rest s n))
        (subst (λ o. Alike s.names (source.block (held j) block) (block_of (held j) o z)) (let at : two + 0 ≡ numbers_of a + n = omega arith in at)
        (blocks j (inside what.Masked line 1 two s) (two + 0) (region_scope t b true s n what.Masked line 1 two (two + 0) refl (omega arith) refl h)))
        (subst (λ o. Alike s.names (source.otherwise (failed j) rest) (third_events (is_more rest) (failed j) o (last line test block rest s n))) (let at : three + 0 ≡ numbers_of z + (numbers_of a + n) = omega arith in at)
        (elses j (inside what.Masked line 2 three s) (three + 0) (region_scope t b true s n what.Masked line 2 three (three + 0) refl (omega arith) refl h)))))
