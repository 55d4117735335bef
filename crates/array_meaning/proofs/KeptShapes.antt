-- A step leaves every variable allocated and bounded as it was, but for a left side that may change its shape.
use Rattle.std.proofs.Common.{◌≡◌, refl, sym, ap, ◌∙◌, ℕ, zero, suc, Bool, true, false, List, [], ◌∷◌, ◌++◌, Option, Some, None, Result, Ok, Err, IfOk, ℤ, bytes_eq, take}
use mathlib.Core.Former.{Count}
use Rattle.std.specs.Prelude.{map, if◌then◌else◌}
use Rattle.ws_base.specs.declared.fault.Fault.{Fault}
use Rattle.ws_space.specs.declared.shape.Dim.{Dim}
use Rattle.ws_space.specs.declared.state.ArrayValue.{ArrayValue}
use Rattle.ws_space.specs.declared.state.Var.{Var}
use Rattle.ws_space.specs.declared.state.VarState.{VarState}
use Rattle.ws_space.specs.declared.state.VarState.TheVariants.{Scalar, Array, Unallocated}
use Rattle.ws_space.specs.Shapes.{Extents, dims, shape_of, all_places, agreed}
use Rattle.ws_space.specs.Values.{state_of, with_state, kept, stored, first_repeat}
use Rattle.ws_space.specs.Faults.{at_line, at_lines, at_places}
use Rattle.ws_space.specs.Masks.{Split, active, shapes_of}
use Rattle.ws_space.specs.Combinations.{lengths}
use Rattle.ws_space.specs.Replace.{replaced, unless_repeated, filled}
use Rattle.ws_tree.specs.declared.expr.Expr.{Expr}
use Rattle.ws_tree.specs.declared.stmt.Body.{Body}
use Rattle.ws_tree.specs.declared.stmt.Body.TheVariants.{Assign, Masked', Forall', Loop', Allocate, Deallocate, Read, Shared', Unsupported, TooDeep}
use Rattle.ws_tree.specs.Trees.{Stmts, end_stmts, more_stmts}
use Rattle.array_meaning.specs.declared.world.World.{World}
use Rattle.array_meaning.specs.declared.term.Term.{Term}
use Rattle.array_meaning.specs.Stage2.{operands, values, targets, array_of}
use Rattle.array_meaning.specs.Stage1.{walk}
use Rattle.array_meaning.specs.Assign.{Target, selection, movable, target, target_name, step_shape, replaced_in, carried_out}
use Rattle.ws_types.specs.Steps.{Mask, Assignment, Step, where_steps}
use Rattle.array_meaning.specs.Where.{mask_terms, operands_of, splits_after, last_line, run_part, run_step, run_steps, run_where}
use Rattle.array_meaning.specs.Forall.{Combination, combination, header, mask_places, over, over_targets, replaced_over, first_line, forall_part, forall_block, run_forall}
use Rattle.array_meaning.specs.Laws.{KeepsShapes, WhereKeepsShapes, ForallKeepsShapes, dims_held, AssignmentKeepsShapes, MaskedAssignmentKeepsShapes, ForallAssignmentKeepsShapes}
use Rattle.array_meaning.proofs.Chains.{after_each, after_fact, at_line-keeps}
use Rattle.array_meaning.proofs.LeftSides.{Holds, Selects, selects}

-- ---- the variables

shape_at : (b : Bool) (v : Var) (vs : List Var) (x y : List ℕ) (s : VarState) → bytes_eq v.name x ≡ b →
    (dims_held s ≡ dims_held (state_of vs x) → dims_held (state_of (with_state vs x s) y) ≡ dims_held (state_of vs y)) →
    dims_held s ≡ dims_held (if b then v.state else state_of vs x) →
    dims_held (state_of (if b then record v { state = s } ∷ vs else v ∷ with_state vs x s) y) ≡ dims_held (state_of (v ∷ vs) y)
shape_at true v vs x y s e rest same = at_name (bytes_eq v.name y) where
  at_name : (c : Bool) → dims_held (if c then s else state_of vs y) ≡ dims_held (if c then v.state else state_of vs y)
  at_name true = same
  at_name false = refl
shape_at false v vs x y s e rest same = at_name (bytes_eq v.name y) where
  at_name : (c : Bool) → dims_held (if c then v.state else state_of (with_state vs x s) y) ≡ dims_held (if c then v.state else state_of vs y)
  at_name true = refl
  at_name false = rest same

with_state-shapes : (vs : List Var) (x y : List ℕ) (s : VarState) → dims_held s ≡ dims_held (state_of vs x) → dims_held (state_of (with_state vs x s) y) ≡ dims_held (state_of vs y)
with_state-shapes [] x y s same = refl
with_state-shapes (v ∷ vs) x y s same = shape_at (bytes_eq v.name x) v vs x y s refl (with_state-shapes vs x y s) same

-- ---- what a variable of these bounds holds

taken : (n : ℕ) (a b c : Dim) → dims (shape_of (take n (a ∷ b ∷ c ∷ []))) ≡ take n (a ∷ b ∷ c ∷ [])
taken zero a b c = refl
taken (suc zero) a b c = refl
taken (suc (suc zero)) a b c = refl
taken (suc (suc (suc zero))) a b c = refl
taken (suc (suc (suc (suc n)))) a b c = refl

kept-dims : (ds : List Dim) (xs : List ℤ) → dims (shape_of ds) ≡ ds → dims_held (kept ds xs) ≡ Some ds
kept-dims [] xs e = refl
kept-dims (d ∷ ds) xs e = ap (λ es. Some es) e

filled-dims : (a : ArrayValue) (ts : List ℕ) (xs : List ℤ) → dims_held (filled a ts xs) ≡ Some (dims a.shape)
filled-dims a ts xs = kept-dims (dims a.shape) (stored a.values ts xs) (taken a.shape.rank a.shape.d1 a.shape.d2 a.shape.d3)

unless_repeated-dims : (line : ℕ) (places : List ℕ) (o : Option ℕ) (a : ArrayValue) (ts : List ℕ) (xs : List ℤ) → IfOk (unless_repeated line places o (filled a ts xs)) (λ s. dims_held s ≡ Some (dims a.shape))
unless_repeated-dims line places None a ts xs = filled-dims a ts xs
unless_repeated-dims line places (Some k) a ts xs = tt

replaced-dims : (line : ℕ) (places : List ℕ) (a : ArrayValue) (ts : List ℕ) (xs : List ℤ) → IfOk (replaced line places a ts xs) (λ s. dims_held s ≡ Some (dims a.shape))
replaced-dims line places a ts xs = unless_repeated-dims line places (first_repeat ts) a ts xs

-- ---- the left side

holds-dims : (s : VarState) (a : ArrayValue) → Holds s a → dims_held s ≡ Some (dims a.shape)
holds-dims (Scalar v) a h = rw h refl
holds-dims (Array b) a h = rw h refl
holds-dims (Unallocated r) a h = absurd h

in_known : (line : ℕ) (places : List ℕ) (o : Option ArrayValue) (a : ArrayValue) (ts : List ℕ) (xs : List ℤ) → o ≡ Some a → IfOk (replaced_in line places o ts xs) (λ s. dims_held s ≡ Some (dims a.shape))
in_known line places o a ts xs e = rw e (replaced-dims line places a ts xs)

same_if_ok : (r : Result VarState Fault) (old new : Option (List Dim)) → old ≡ new → IfOk r (λ s. dims_held s ≡ new) → IfOk r (λ s. dims_held s ≡ old)
same_if_ok (Ok s) old new e h = h ∙ sym e
same_if_ok (Err f) old new e h = tt

carried_out-shapes : (w : World) (line : ℕ) (right : Expr) (r : Term) (e : Extents) (places : List ℕ) (old : VarState) (g : Target) → Selects old g → IfOk (carried_out w line right r e places g) (λ s. dims_held s ≡ dims_held old)
carried_out-shapes w line right r e places old (movable s) h = absurd h
carried_out-shapes w line right r e places old (selection t) h =
    after_each _ (at_places line places (values r places)) _ (λ xs. after_each _ (at_places line places (targets t places)) _ (λ ts.
    same_if_ok (replaced_in line places (array_of t) ts xs) (dims_held old) (Some (dims h.0.shape)) (holds-dims old h.0 h.2) (in_known line places (array_of t) h.0 ts xs h.1)))

-- ---- steps

pub plain : AssignmentKeepsShapes
plain w line left right still =
    after_each _ (at_line line (walk w right)) _ (λ r.
    after_fact (Selects (state_of w.vars (target_name left))) _ (at_line line (target false w left)) _ (at_line-keeps _ line (target false w left) (selects false w left still)) (λ t is.
    after_each _ (at_line line (step_shape (operands r) t)) _ (λ e.
    after_fact (λ s. dims_held s ≡ dims_held (state_of w.vars (target_name left))) _ (carried_out w line right r e (all_places e) t) _
    (carried_out-shapes w line right r e (all_places e) (state_of w.vars (target_name left)) t is) (λ s same y. with_state-shapes w.vars (target_name left) y s same))))

pub masked : MaskedAssignmentKeepsShapes
masked w ss ms a =
    after_each _ (mask_terms w a.line ms) _ (λ ts. after_each _ (at_line a.line (walk w a.right)) _ (λ r.
    after_fact (Selects (state_of w.vars (target_name a.left))) _ (at_line a.line (target true w a.left)) _ (at_line-keeps _ a.line (target true w a.left) (selects true w a.left refl)) (λ t is.
    after_each _ (at_line a.line (step_shape (shapes_of ss ++ operands_of ts ++ operands r) t)) _ (λ e. after_each _ (splits_after e ss ms ts) _ (λ all.
    after_fact (λ s. dims_held s ≡ dims_held (state_of w.vars (target_name a.left))) _ (carried_out w a.line a.right r e (active all e a.under) t) _
    (carried_out-shapes w a.line a.right r e (active all e a.under) (state_of w.vars (target_name a.left)) t is) (λ s same y. with_state-shapes w.vars (target_name a.left) y s same))))))

over-shapes : (line : ℕ) (places : List ℕ) (old : VarState) (ts : List ℕ) (xs : List ℤ) → IfOk (replaced_over line places old ts xs) (λ s. dims_held s ≡ dims_held old)
over-shapes line places (Array a) ts xs = replaced-dims line places a ts xs
over-shapes line places (Scalar v) ts xs = refl
over-shapes line places (Unallocated r) ts xs = refl

pub in_forall : ForallAssignmentKeepsShapes
in_forall w line left right places cs =
    after_each _ (at_places line places (over w right cs)) _ (λ xs. after_each _ (at_places line places (over_targets w left cs)) _ (λ ts.
    after_fact (λ s. dims_held s ≡ dims_held (state_of w.vars (target_name left))) _ (replaced_over line places (state_of w.vars (target_name left)) ts xs) _
    (over-shapes line places (state_of w.vars (target_name left)) ts xs) (λ s same y. with_state-shapes w.vars (target_name left) y s same)))

-- ---- constructs

kept_again : (w v : World) {R : Type 0} (r : Result R Fault) (f : R → World) → KeepsShapes w v → IfOk r (λ x. KeepsShapes v (f x)) → IfOk r (λ x. KeepsShapes w (f x))
kept_again w v (Ok x) f first h = λ y. h y ∙ first y
kept_again w v (Err e) f first h = tt

step-shapes : (w : World) (ss : List Split) (s : Step) → IfOk (run_step (w, ss) s) (λ r. KeepsShapes w r.0)
step-shapes w ss s = at_part s.masks s.assignment where
  at_part : (ms : List Mask) (a : Option Assignment) → IfOk (run_part (w, ss) ms a) (λ r. KeepsShapes w r.0)
  at_part ms None = after_each _ (mask_terms w (last_line 0 ms) ms) _ (λ ts. after_each _ (at_line (last_line 0 ms) (agreed (shapes_of ss ++ operands_of ts))) _ (λ e. after_each _ (splits_after e ss ms ts) _ (λ all y. refl)))
  at_part ms (Some a) = masked w ss ms a

steps-shapes : (w : World) (ss : List Split) (steps : List Step) → IfOk (run_steps (w, ss) steps) (KeepsShapes w)
steps-shapes w ss [] = λ y. refl
steps-shapes w ss (s ∷ more) = after_fact (λ r. KeepsShapes w r.0) _ (run_step (w, ss) s) _ (step-shapes w ss s) (λ r first. kept_again w r.0 (run_steps r more) (λ v. v) first (steps-shapes r.0 r.1 more))

pub where_construct : WhereKeepsShapes
unfolding run_where
where_construct w line body = steps-shapes w [] (where_steps line body)

part-shapes : (w : World) (line : ℕ) (body : Body) (places : List ℕ) (cs : List Combination) → IfOk (forall_part w line body places cs) (KeepsShapes w)
part-shapes w line (Assign left right) places cs = in_forall w line left right places cs
part-shapes w line (Masked' mask h block k rest) places cs = λ y. refl
part-shapes w line (Forall' indexes mask h block) places cs = λ y. refl
part-shapes w line (Loop' x l u s h block) places cs = λ y. refl
part-shapes w line (Allocate ps) places cs = λ y. refl
part-shapes w line (Deallocate xs) places cs = λ y. refl
part-shapes w line (Read es) places cs = λ y. refl
part-shapes w line (Shared' h block) places cs = λ y. refl
part-shapes w line Unsupported places cs = λ y. refl
part-shapes w line TooDeep places cs = λ y. refl

block-shapes : {m : Count} (w : World) (stmts : Stmts m) (places : List ℕ) (cs : List Combination) → IfOk (forall_block w stmts places cs) (KeepsShapes w)
block-shapes w end_stmts places cs = λ y. refl
block-shapes w (more_stmts line body rest) places cs =
    after_fact (KeepsShapes w) _ (forall_part w line body places cs) _ (part-shapes w line body places cs) (λ v first. kept_again w v (forall_block v rest places cs) (λ u. u) first (block-shapes v rest places cs))

pub forall_construct : ForallKeepsShapes
unfolding run_forall
forall_construct m w line indexes test stmts =
    after_each _ (at_lines line (first_line line stmts) (header w indexes)) _ (λ all.
    let places = all_places (lengths all) in
    after_each _ (mask_places w line test places (map (combination indexes all) places)) _ (λ active. block-shapes w stmts active (map (combination indexes all) active)))
