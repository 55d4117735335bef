-- No statement changes the named constants or which variables are allocatable.
use Rattle.std.proofs.Common.{◌≡◌, refl, ◌∙◌, ℕ, true, false, List, [], ◌∷◌, ◌++◌, Option, Some, None, Result, Ok, Err, IfOk, map}
use mathlib.Core.Former.{Count}
use Rattle.ws_base.specs.declared.fault.Fault.{Fault}
use Rattle.ws_space.specs.declared.state.Var.{Var}
use Rattle.ws_space.specs.Shapes.{size, all_places, agreed}
use Rattle.ws_space.specs.Values.{Name, state_of, with_state}
use Rattle.ws_space.specs.Faults.{at_line, at_lines, at_places}
use Rattle.ws_space.specs.Masks.{Split, active, shapes_of}
use Rattle.ws_space.specs.Combinations.{lengths}
use Rattle.ws_space.specs.Replace.{is_logical, allocated_with, freed}
use Rattle.list_io.specs.Items.{take_values}
use Rattle.ws_tree.specs.declared.expr.Expr.{Expr}
use Rattle.ws_tree.specs.declared.stmt.Part.{Part}
use Rattle.ws_tree.specs.declared.stmt.Stmt.{Stmt}
use Rattle.ws_tree.specs.declared.stmt.Body.{Body}
use Rattle.ws_tree.specs.declared.stmt.Body.TheVariants.{Assign, Masked', Forall', Loop', Allocate, Deallocate, Read, Shared', Unsupported, TooDeep}
use Rattle.ws_tree.specs.Trees.{Stmts, end_stmts, more_stmts}
use Rattle.ws_types.specs.Steps.{Mask, Assignment, Step, where_steps}
use Rattle.array_meaning.specs.declared.world.World.{World}
use Rattle.array_meaning.specs.Stage2.{operands}
use Rattle.array_meaning.specs.Stage1.{walk}
use Rattle.array_meaning.specs.Assign.{target, target_name, step_shape, carried_out, with_vars, assign}
use Rattle.array_meaning.specs.Where.{mask_terms, operands_of, splits_after, last_line, run_assignment, run_part, run_step, run_steps, run_where}
use Rattle.array_meaning.specs.Forall.{Combination, combination, header, mask_places, over, over_targets, replaced_over, first_line, forall_assign, forall_part, forall_block, run_forall}
use Rattle.array_meaning.specs.Program.{bound_dims, allocate, deallocate, selection_extents, read_into, read_item, read_items, simple, with_name}
use Rattle.array_meaning.proofs.Chains.{after_each, after_fact, at_line-keeps}
use Rattle.slow_eval.specs.Machine.{simple_list}

pub record KeepsNames (w v : World) : Type 0 where
  pub constants : v.constants ≡ w.constants
  pub allocatables : v.allocatables ≡ w.allocatables

same : (w : World) → KeepsNames w w
same w = record { constants = refl; allocatables = refl }

other_vars : (w : World) (vs : List Var) → KeepsNames w (with_vars w vs)
other_vars w vs = record { constants = refl; allocatables = refl }

again : {R E : Type 0} (w v : World) (r : Result R E) (f : R → World) → KeepsNames w v → IfOk r (λ x. KeepsNames v (f x)) → IfOk r (λ x. KeepsNames w (f x))
again w v (Ok x) f first h = record { constants = h.constants ∙ first.constants; allocatables = h.allocatables ∙ first.allocatables }
again w v (Err e) f first h = tt

-- ---- assignments

plain : (w : World) (line : ℕ) (left right : Expr) → IfOk (assign w line left right) (KeepsNames w)
plain w line left right =
    after_each _ (at_line line (walk w right)) _ (λ r. after_each _ (at_line line (target false w left)) _ (λ t. after_each _ (at_line line (step_shape (operands r) t)) _ (λ e.
    after_each _ (carried_out w line right r e (all_places e) t) _ (λ s. other_vars w (with_state w.vars (target_name left) s)))))

masked : (w : World) (ss : List Split) (ms : List Mask) (a : Assignment) → IfOk (run_assignment (w, ss) ms a) (λ r. KeepsNames w r.0)
masked w ss ms a =
    after_each _ (mask_terms w a.line ms) _ (λ ts. after_each _ (at_line a.line (walk w a.right)) _ (λ r. after_each _ (at_line a.line (target true w a.left)) _ (λ t.
    after_each _ (at_line a.line (step_shape (shapes_of ss ++ operands_of ts ++ operands r) t)) _ (λ e. after_each _ (splits_after e ss ms ts) _ (λ all.
    after_each _ (carried_out w a.line a.right r e (active all e a.under) t) _ (λ s. other_vars w (with_state w.vars (target_name a.left) s)))))))

in_forall : (w : World) (line : ℕ) (left right : Expr) (places : List ℕ) (cs : List Combination) → IfOk (forall_assign w line left right places cs) (KeepsNames w)
in_forall w line left right places cs =
    after_each _ (at_places line places (over w right cs)) _ (λ xs. after_each _ (at_places line places (over_targets w left cs)) _ (λ ts.
    after_each _ (replaced_over line places (state_of w.vars (target_name left)) ts xs) _ (λ s. other_vars w (with_state w.vars (target_name left) s))))

-- ---- WHERE

step_names : (w : World) (ss : List Split) (s : Step) → IfOk (run_step (w, ss) s) (λ r. KeepsNames w r.0)
step_names w ss s = at_part s.masks s.assignment where
  at_part : (ms : List Mask) (a : Option Assignment) → IfOk (run_part (w, ss) ms a) (λ r. KeepsNames w r.0)
  at_part ms None = after_each _ (mask_terms w (last_line 0 ms) ms) _ (λ ts. after_each _ (at_line (last_line 0 ms) (agreed (shapes_of ss ++ operands_of ts))) _ (λ e. after_each _ (splits_after e ss ms ts) _ (λ all. same w)))
  at_part ms (Some a) = masked w ss ms a

steps_names : (w : World) (ss : List Split) (steps : List Step) → IfOk (run_steps (w, ss) steps) (KeepsNames w)
steps_names w ss [] = same w
steps_names w ss (s ∷ more) = after_fact (λ r. KeepsNames w r.0) _ (run_step (w, ss) s) _ (step_names w ss s) (λ r first. again w r.0 (run_steps r more) (λ v. v) first (steps_names r.0 r.1 more))

where_names : (w : World) (line : ℕ) (body : Body) → IfOk (run_where w line body) (KeepsNames w)
unfolding run_where
where_names w line body = steps_names w [] (where_steps line body)

-- ---- FORALL

part_names : (w : World) (line : ℕ) (body : Body) (places : List ℕ) (cs : List Combination) → IfOk (forall_part w line body places cs) (KeepsNames w)
part_names w line (Assign left right) places cs = in_forall w line left right places cs
part_names w line (Masked' mask h block k rest) places cs = same w
part_names w line (Forall' indexes mask h block) places cs = same w
part_names w line (Loop' x l u s h block) places cs = same w
part_names w line (Allocate ps) places cs = same w
part_names w line (Deallocate xs) places cs = same w
part_names w line (Read es) places cs = same w
part_names w line (Shared' h block) places cs = same w
part_names w line Unsupported places cs = same w
part_names w line TooDeep places cs = same w

block_names : {m : Count} (w : World) (stmts : Stmts m) (places : List ℕ) (cs : List Combination) → IfOk (forall_block w stmts places cs) (KeepsNames w)
block_names w end_stmts places cs = same w
block_names w (more_stmts line body rest) places cs =
    after_fact (KeepsNames w) _ (forall_part w line body places cs) _ (part_names w line body places cs) (λ v first. again w v (forall_block v rest places cs) (λ u. u) first (block_names v rest places cs))

forall_names : {m : Count} (w : World) (line : ℕ) (indexes : _) (test : Option Expr) (stmts : Stmts m) → IfOk (run_forall w line indexes test stmts) (KeepsNames w)
unfolding run_forall
forall_names w line indexes test stmts =
    after_each _ (at_lines line (first_line line stmts) (header w indexes)) _ (λ all.
    let places = all_places (lengths all) in
    after_each _ (mask_places w line test places (map (combination indexes all) places)) _ (λ active. block_names w stmts active (map (combination indexes all) active)))

-- ---- statements

pub simple_names : (w : World) (line : ℕ) (body : Body) → IfOk (simple w line body) (KeepsNames w)
simple_names w line (Assign left right) = plain w line left right
simple_names w line (Masked' mask h block k rest) = where_names w line (Masked' mask h block k rest)
simple_names w line (Forall' indexes mask h block) = forall_names w line indexes mask block
simple_names w line (Loop' x l u s h block) = same w
simple_names w line (Allocate ps) = same w
simple_names w line (Deallocate xs) = same w
simple_names w line (Read es) = same w
simple_names w line (Shared' h block) = same w
simple_names w line Unsupported = same w
simple_names w line TooDeep = same w

pub simple_list_names : (w : World) (ts : List Stmt) → IfOk (simple_list w ts) (KeepsNames w)
simple_list_names w [] = same w
simple_list_names w (t ∷ ts) = after_fact (KeepsNames w) _ (simple w t.line t.body) _ (simple_names w t.line t.body) (λ v first. again w v (simple_list v ts) (λ u. u) first (simple_list_names v ts))

allocate_names : (w : World) (ps : List Part) → IfOk (allocate w ps) (KeepsNames w)
allocate_names w [] = same w
allocate_names w (p ∷ ps) = after_each _ (bound_dims w p.shape) _ (λ ds. after_each _ (allocated_with (state_of w.vars p.name) ds) _ (λ s.
    again w (with_name w p.name s) (allocate (with_name w p.name s) ps) (λ v. v) (other_vars w (with_state w.vars p.name s)) (allocate_names (with_name w p.name s) ps)))

pub allocated_names : (w : World) (line : ℕ) (ps : List Part) → IfOk (at_line line (allocate w ps)) (KeepsNames w)
allocated_names w line ps = at_line-keeps _ line (allocate w ps) (allocate_names w ps)

deallocate_names : (w : World) (xs : List Name) → IfOk (deallocate w xs) (KeepsNames w)
deallocate_names w [] = same w
deallocate_names w (x ∷ xs) = after_each _ (freed (state_of w.vars x)) _ (λ s. again w (with_name w x s) (deallocate (with_name w x s) xs) (λ v. v) (other_vars w (with_state w.vars x s)) (deallocate_names (with_name w x s) xs))

pub deallocated_names : (w : World) (line : ℕ) (xs : List Name) → IfOk (at_line line (deallocate w xs)) (KeepsNames w)
deallocated_names w line xs = at_line-keeps _ line (deallocate w xs) (deallocate_names w xs)

-- ---- READ

item_names : (input : List ℕ) (w : World) (before at : ℕ) (e : Expr) → IfOk (read_item input w before at e) (λ r. KeepsNames w r.0)
item_names input w before at e =
    after_each _ (target true w e) _ (λ t. after_each _ (take_values input (is_logical w.vars (target_name e)) before (size (selection_extents t)) at) _ (λ vs.
    after_each _ (read_into t vs.0) _ (λ s. other_vars w (with_state w.vars (target_name e) s))))

items_names : (input : List ℕ) (w : World) (before at : ℕ) (es : List Expr) → IfOk (read_items input w before at es) (λ r. KeepsNames w r.0)
items_names input w before at [] = same w
items_names input w before at (e ∷ es) = after_fact (λ r. KeepsNames w r.0) _ (read_item input w before at e) _ (item_names input w before at e) (λ r first. again w r.0 (read_items input r.0 r.1 r.2 es) (λ q. q.0) first (items_names input r.0 r.1 r.2 es))

pub read_names : (input : List ℕ) (w : World) (line before at : ℕ) (es : List Expr) → IfOk (at_line line (read_items input w before at es)) (λ r. KeepsNames w r.0)
read_names input w line before at es = at_line-keeps _ line (read_items input w before at es) (items_names input w before at es)
