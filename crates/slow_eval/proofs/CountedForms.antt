-- A statement that holds no other counts, and is executed at once.
use Rattle.std.proofs.Common.{◌≡◌, ◌⊎◌, inl, inr, refl, sym, ap, subst, ℕ, List, Option, Result, Ok, Err}
use Rattle.ws_space.specs.declared.state.State.{State}
use Rattle.ws_space.specs.Values.{Name}
use Rattle.ws_space.specs.Runs.{Run, run_of, and_then, ticked}
use Rattle.ws_tree.specs.declared.expr.Expr.{Expr}
use Rattle.ws_tree.specs.declared.stmt.Else.{Else}
use Rattle.ws_tree.specs.declared.stmt.Index.{Index}
use Rattle.ws_tree.specs.declared.stmt.Part.{Part}
use Rattle.ws_tree.specs.declared.stmt.Stmt.{Stmt}
use Rattle.ws_tree.specs.declared.stmt.Body.{Body}
use Rattle.ws_tree.specs.declared.stmt.Body.TheVariants.{Assign, Masked, Forall, Allocate, Deallocate, Read, Unsupported, TooDeep}
use Rattle.ws_tree.specs.Opened.{trees_open}
use Rattle.array_meaning.specs.declared.world.Source.{Source}
use Rattle.array_meaning.specs.Program.{at_once, statement}
use Rattle.step_eval.specs.declared.halt.Halt.{Halt}
use Rattle.step_eval.specs.Halts.{Leaves}
use Rattle.slow_eval.proofs.Ends.{same_leaves}

-- none of these is a DO or a region
abbrev pub HoldsNone : Body → Type 0
HoldsNone body =
    ((l : Expr) × (r : Expr) × (body ≡ Assign l r)) ⊎ (((m : Expr) × (ss : List Stmt) × (es : List Else) × (body ≡ Masked m ss es)) ⊎ (((is : List Index) × (m : Option Expr) × (ss : List Stmt) × (body ≡ Forall is m ss))
    ⊎ (((ps : List Part) × (body ≡ Allocate ps)) ⊎ (((xs : List Name) × (body ≡ Deallocate xs)) ⊎ (((es : List Expr) × (body ≡ Read es)) ⊎ ((body ≡ Unsupported) ⊎ (body ≡ TooDeep)))))))

abbrev pub Counts : Source → ℕ → State → Body → Type 0
Counts g line s body = and_then (run_of (ticked line 1 s)) (λ r. run_of (at_once g line body r)) ≡ statement g line body s

module _ (g : Source) (line : ℕ) (s : State) where
  as_form : (body b : Body) → body ≡ b → Counts g line s b → Counts g line s body
  as_form body b is h = subst (Counts g line s) (sym is) h

  assign_counts : (l r : Expr) → Counts g line s (Assign l r)
  unfolding statement
  assign_counts l r = refl

  masked_counts : (m : Expr) (ss : List Stmt) (es : List Else) → Counts g line s (Masked m ss es)
  unfolding trees_open statement
  masked_counts m ss es = refl

  forall_counts : (is : List Index) (m : Option Expr) (ss : List Stmt) → Counts g line s (Forall is m ss)
  unfolding trees_open statement
  forall_counts is m ss = refl

  allocate_counts : (ps : List Part) → Counts g line s (Allocate ps)
  unfolding statement
  allocate_counts ps = refl

  deallocate_counts : (xs : List Name) → Counts g line s (Deallocate xs)
  unfolding statement
  deallocate_counts xs = refl

  read_counts : (es : List Expr) → Counts g line s (Read es)
  unfolding statement
  read_counts es = refl

  unsupported_counts : Counts g line s Unsupported
  unfolding statement
  unsupported_counts = refl

  too_deep_counts : Counts g line s TooDeep
  unfolding statement
  too_deep_counts = refl

  counts : (body : Body) → HoldsNone body → Counts g line s body
  counts body (inl p) = as_form body (Assign p.0 p.1) p.2 (assign_counts p.0 p.1)
  counts body (inr (inl p)) = as_form body (Masked p.0 p.1 p.2) p.3 (masked_counts p.0 p.1 p.2)
  counts body (inr (inr (inl p))) = as_form body (Forall p.0 p.1 p.2) p.3 (forall_counts p.0 p.1 p.2)
  counts body (inr (inr (inr (inl p)))) = as_form body (Allocate p.0) p.1 (allocate_counts p.0)
  counts body (inr (inr (inr (inr (inl p))))) = as_form body (Deallocate p.0) p.1 (deallocate_counts p.0)
  counts body (inr (inr (inr (inr (inr (inl p)))))) = as_form body (Read p.0) p.1 (read_counts p.0)
  counts body (inr (inr (inr (inr (inr (inr (inl e))))))) = as_form body Unsupported e unsupported_counts
  counts body (inr (inr (inr (inr (inr (inr (inr e))))))) = as_form body TooDeep e too_deep_counts

  pub counted_leaves : {B : Type 0} (res : Result B Halt) (body : Body) (left : State) → HoldsNone body → Leaves res (and_then (run_of (ticked line 1 s)) (λ r. run_of (at_once g line body r))).end left → Leaves res (statement g line body s).end left
  counted_leaves res body left holds h = same_leaves res (and_then (run_of (ticked line 1 s)) (λ r. run_of (at_once g line body r))).end (statement g line body s).end left (ap (λ r. r.end) (counts body holds)) h
