-- Statements by their form.
use Rattle.std.proofs.Common.{◌≡◌, ◌≢◌, ◌≤◌, refl, sym, ap, ◌∙◌, subst, ℕ, Bool, true, false, List, [], ◌∷◌, length, All, Option, Result, Ok, Err, IfOk, ℤ, pos}
use Rattle.std.specs.Prelude.{if◌then◌else◌}
use Rattle.ws_base.specs.declared.fault.Fault.{Fault}
use Rattle.ws_base.specs.declared.fault.FaultName.TheVariants.{Overflow, ZeroStride}
use Rattle.ws_base.specs.Numbers.{int_eq, in_range, default_half}
use Rattle.ws_base.specs.Outcomes.{Staged, scalar_of, trouble, ◌>>=◌}
use Rattle.ws_space.specs.declared.shape.Triplet.{Triplet}
use Rattle.ws_space.specs.declared.state.State.{State}
use Rattle.ws_space.specs.Shapes.{count}
use Rattle.ws_space.specs.Subscripts.{stepped}
use Rattle.ws_space.specs.Values.{Name}
use Rattle.ws_space.specs.Faults.{at_line}
use Rattle.ws_space.specs.Runs.{Run, run_of, and_then, ticked, assigned_scalar, entered, loop_end, looped, loop_of}
use Rattle.ws_space.specs.Sections.{with_stride}
use Rattle.ws_tree.specs.declared.expr.Expr.{Expr}
use Rattle.ws_tree.specs.declared.stmt.Else.{Else}
use Rattle.ws_tree.specs.declared.stmt.Index.{Index}
use Rattle.ws_tree.specs.declared.stmt.Part.{Part}
use Rattle.ws_tree.specs.declared.stmt.Stmt.{Stmt}
use Rattle.ws_tree.specs.declared.stmt.Body.{Body}
use Rattle.ws_tree.specs.declared.stmt.Body.TheVariants.{Assign, Masked, Masked', Forall, Forall', Loop, Loop', Allocate, Deallocate, Read, Shared, Shared', Unsupported, TooDeep}
use Rattle.ws_tree.specs.Opened.{trees_open}
use Rattle.list_io.specs.Items.{next_line}
use Rattle.array_meaning.specs.declared.world.World.{World}
use Rattle.array_meaning.specs.declared.world.Source.{Source}
use Rattle.array_meaning.specs.Where.{run_where}
use Rattle.array_meaning.specs.Forall.{scalar, scalar_or, stepping}
use Rattle.array_meaning.specs.Program.{world, changed, with_vars_of, allocate, deallocate, read_items, read, simple, at_once, statement, statement_list}
use Rattle.array_meaning.proofs.Chains.{after_each}
use Rattle.term_eval.specs.Limits.{IsSmall, IsInteger}
use Rattle.step_eval.specs.declared.halt.Halt.{Halt}
use Rattle.step_eval.specs.declared.halt.Halt.TheVariants.{Memory, Faulted}
use Rattle.step_eval.specs.Halts.{Halts, Leaves}
use Rattle.slow_eval.specs.Machine.{simple_list, iteration_at}
use Rattle.step_eval.specs.Small.{IsSmallPart, IsSmallBody}
use Rattle.slow_eval.proofs.Ends.{end_then, end_first, same_halts, same_leaves, leaves_then, leaves_changed}

-- ---- limits

small_body : (whole body : Body) → whole ≡ body → IsSmallBody whole → IsSmallBody body
small_body whole body is h = subst IsSmallBody is h

pub assign_small : (whole : Body) (left right : Expr) → whole ≡ Assign left right → IsSmallBody whole → IsSmall left × IsSmall right
assign_small whole left right is h = small_body whole (Assign left right) is h

pub forall_small : (whole : Body) (indexes indexes' : List Index) (mask : Option Expr) (block block' : List Stmt) → whole ≡ Forall indexes mask block → indexes' ≡ indexes → block' ≡ block → IsSmallBody whole → IsSmallBody (Forall indexes' mask block')
forall_small whole indexes indexes' mask block block' is ie be h =
    small_body whole (Forall indexes' mask block') (is ∙ ap (λ i. Forall i mask block) (sym ie) ∙ ap (λ b. Forall indexes' mask b) (sym be)) h

pub parts_small : (whole : Body) (parts parts' : List Part) → whole ≡ Allocate parts → parts' ≡ parts → IsSmallBody whole → All IsSmallPart parts'
parts_small whole parts parts' is pe h = small_body whole (Allocate parts') (is ∙ ap Allocate (sym pe)) h

pub items_small : (whole : Body) (es es' : List Expr) → whole ≡ Read es → es' ≡ es → IsSmallBody whole → All IsSmall es'
items_small whole es es' is ee h = small_body whole (Read es') (is ∙ ap Read (sym ee)) h

-- ---- in a region

pub simple_masked : (w : World) (line : ℕ) (whole : Body) (mask : Expr) (block : List Stmt) (rest : List Else) → whole ≡ Masked mask block rest → run_where w line whole ≡ simple w line whole
unfolding trees_open
simple_masked w line whole mask block rest is = let P : Body → Type 0 = λ b. run_where w line b ≡ simple w line b in subst P (sym is) refl

pub simple_forall : (w : World) (line : ℕ) (whole : Body) (indexes indexes' : List Index) (mask : Option Expr) (block block' : List Stmt) → whole ≡ Forall indexes mask block → indexes' ≡ indexes → block' ≡ block →
    simple w line (Forall indexes' mask block') ≡ simple w line whole
simple_forall w line whole indexes indexes' mask block block' is ie be = ap (simple w line) (sym (is ∙ ap (λ i. Forall i mask block) (sym ie) ∙ ap (λ b. Forall indexes' mask b) (sym be)))

-- ---- outside regions

pub allocate_leaves : {B : Type 0} (res : Result B Halt) (g : Source) (line : ℕ) (whole : Body) (parts parts' : List Part) (s : State) (w : World) → whole ≡ Allocate parts → parts' ≡ parts →
    Leaves res (at_line line (allocate (world g s) parts')) w → Leaves res (at_once g line whole s) (with_vars_of s w)
allocate_leaves res g line whole parts parts' s w is pe h =
    same_leaves res (changed s (at_line line (allocate (world g s) parts'))) (at_once g line whole s) (with_vars_of s w) (ap (λ b. at_once g line b s) (ap Allocate pe ∙ sym is))
    (leaves_changed res (at_line line (allocate (world g s) parts')) s w h)

pub deallocate_leaves : {B : Type 0} (res : Result B Halt) (g : Source) (line : ℕ) (whole : Body) (names names' : List Name) (s : State) (w : World) → whole ≡ Deallocate names → names' ≡ names →
    Leaves res (at_line line (deallocate (world g s) names')) w → Leaves res (at_once g line whole s) (with_vars_of s w)
deallocate_leaves res g line whole names names' s w is ne h =
    same_leaves res (changed s (at_line line (deallocate (world g s) names'))) (at_once g line whole s) (with_vars_of s w) (ap (λ b. at_once g line b s) (ap Deallocate ne ∙ sym is))
    (leaves_changed res (at_line line (deallocate (world g s) names')) s w h)

pub read_leaves : {B : Type 0} (res : Result B Halt) (g : Source) (line : ℕ) (whole : Body) (es es' : List Expr) (s left : State) → whole ≡ Read es → es' ≡ es →
    Leaves res (at_line line (read g s es')) left → Leaves res (at_once g line whole s) left
read_leaves res g line whole es es' s left is ee h = same_leaves res (at_line line (read g s es')) (at_once g line whole s) left (ap (λ b. at_once g line b s) (ap Read ee ∙ sym is)) h

-- any other statement is one that may stand in a region
at_once_simple : (g : Source) (line : ℕ) (body : Body) (s : State) → ((ps : List Part) → body ≡ Allocate ps → ⊥) → ((xs : List Name) → body ≡ Deallocate xs → ⊥) → ((es : List Expr) → body ≡ Read es → ⊥) →
    changed s (simple (world g s) line body) ≡ at_once g line body s
at_once_simple g line (Assign left right) s a d r = refl
at_once_simple g line (Masked' mask h block k rest) s a d r = refl
at_once_simple g line (Forall' indexes mask h block) s a d r = refl
at_once_simple g line (Loop' x l u st h block) s a d r = refl
at_once_simple g line (Allocate ps) s a d r = absurd (a ps refl)
at_once_simple g line (Deallocate xs) s a d r = absurd (d xs refl)
at_once_simple g line (Read es) s a d r = absurd (r es refl)
at_once_simple g line (Shared' h block) s a d r = refl
at_once_simple g line Unsupported s a d r = refl
at_once_simple g line TooDeep s a d r = refl

pub simple_leaves : {B : Type 0} (res : Result B Halt) (g : Source) (line : ℕ) (body : Body) (s : State) (w : World) → ((ps : List Part) → body ≡ Allocate ps → ⊥) → ((xs : List Name) → body ≡ Deallocate xs → ⊥) → ((es : List Expr) → body ≡ Read es → ⊥) →
    Leaves res (simple (world g s) line body) w → Leaves res (at_once g line body s) (with_vars_of s w)
simple_leaves res g line body s w a d r h =
    same_leaves res (changed s (simple (world g s) line body)) (at_once g line body s) (with_vars_of s w) (at_once_simple g line body s a d r) (leaves_changed res (simple (world g s) line body) s w h)

-- ---- READ

mapped : {A B : Type 0} (line : ℕ) (r : Staged A) (f : A → B) (x : A) → at_line line r ≡ Ok x → at_line line (r >>= (λ y. Ok (f y))) ≡ Ok (f x)
mapped line (Ok y) f x is = ap (λ q. q >>= (λ z. Ok (f z))) is
mapped line (Err t) f x is = ap (λ q. q >>= (λ z. Ok (f z))) is

mapped_halts : {A B : Type 0} (line : ℕ) (e : Halt) (r : Staged A) (f : A → B) → Halts e (at_line line r) → Halts e (at_line line (r >>= (λ y. Ok (f y))))
mapped_halts line Memory r f h = tt
mapped_halts line (Faulted x) (Ok y) f h = ap (λ q. q >>= (λ z. Ok (f z))) h
mapped_halts line (Faulted x) (Err t) f h = ap (λ q. q >>= (λ z. Ok (f z))) h

pub read_done : (g : Source) (line : ℕ) (s : State) (es : List Expr) (w : World) (place n : ℕ) → at_line line (read_items g.input (world g s) 0 s.read_to es) ≡ Ok (w, place) → n ≡ next_line g.input place →
    at_line line (read g s es) ≡ Ok (record (with_vars_of s w) { read_to = n })
read_done g line s es w place n is ne =
    mapped line (read_items g.input (world g s) 0 s.read_to es) (λ r. record (with_vars_of s r.0) { read_to = next_line g.input r.1 }) (w, place) is ∙ ap (λ k. Ok (record (with_vars_of s w) { read_to = k })) (sym ne)

pub read_halts : (g : Source) (line : ℕ) (s : State) (es : List Expr) (e : Halt) → Halts e (at_line line (read_items g.input (world g s) 0 s.read_to es)) → Halts e (at_line line (read g s es))
read_halts g line s es e h = mapped_halts line e (read_items g.input (world g s) 0 s.read_to es) (λ r. record (with_vars_of s r.0) { read_to = next_line g.input r.1 }) h

-- ---- DO

stride_at : (t : Triplet) (b : Bool) → int_eq t.s (pos 0) ≡ b → IfOk (if b then trouble ZeroStride else Ok t) (λ r. r.s ≢ pos 0)
stride_at t true e = tt
stride_at t false e = λ z. let f : true ≡ false = sym (ap (λ x. int_eq x (pos 0)) z) ∙ e in absurd cc

stepping_strides : (w : World) (l u : Expr) (st : Option Expr) → IfOk (stepping w l u st) (λ t. t.s ≢ pos 0)
stepping_strides w l u st = after_each _ (scalar w l) _ (λ a. after_each _ (scalar w u) _ (λ b. after_each _ (scalar_or w (pos 1) st) _ (λ c. stride_at (record { l = a; u = b; s = c }) (int_eq c (pos 0)) refl)))

pub stride_of : (w : World) (l u : Expr) (st : Option Expr) (t : Triplet) → stepping w l u st ≡ Ok t → t.s ≢ pos 0
stride_of w l u st t is = let P : Staged Triplet → Type 0 = λ r. IfOk r (λ q. q.s ≢ pos 0) in subst P is (stepping_strides w l u st)

end_at : (line : ℕ) (x : Name) (t : Triplet) (s : State) (b : Bool) → in_range default_half (stepped t (count t)) ≡ b →
    at_line line (loop_end x t s) ≡ at_line line (scalar_of (if b then Ok (stepped t (count t)) else Err Overflow) >>= (λ v. Ok (assigned_scalar s x v)))
end_at line x t s b e = ap (λ c. at_line line (scalar_of (if c then Ok (stepped t (count t)) else Err Overflow) >>= (λ v. Ok (assigned_scalar s x v)))) e

pub loop_ends : (line : ℕ) (x : Name) (t : Triplet) (s r : State) (value : ℤ) → value ≡ stepped t (count t) → IsInteger value → r ≡ assigned_scalar s x value → at_line line (loop_end x t s) ≡ Ok r
loop_ends line x t s r value is integer re =
    end_at line x t s true (ap (in_range default_half) (sym is) ∙ integer) ∙ ap (λ v. Ok (assigned_scalar s x v)) (sym is) ∙ ap (λ q. Ok q) (sym re)

pub loop_overflows : (line : ℕ) (x : Name) (t : Triplet) (s : State) (value : ℤ) → value ≡ stepped t (count t) → in_range default_half value ≡ false → at_line line (loop_end x t s) ≡ Err (record { line = line; name = Overflow; element = 0 })
loop_overflows line x t s value is out = end_at line x t s false (ap (in_range default_half) (sym is) ∙ out)

pub iterated : {B : Type 0} (res : Result B Halt) (g here : Source) (line : ℕ) (x : Name) (value : ℤ) (block : List Stmt) (s s1 s2 left : State) → ticked line 1 s ≡ Ok s1 → s2 ≡ assigned_scalar s1 x value → here ≡ g →
    Leaves res (statement_list here block s2).end left → Leaves res (iteration_at g line x value block s).end left
iterated res g here line x value block s s1 s2 left tick set same h =
    leaves_then res (run_of (ticked line 1 s)) (λ r. statement_list g block (assigned_scalar r x value)) s1 left tick
    (same_leaves res (statement_list here block s2).end (statement_list g block (assigned_scalar s1 x value)).end left (ap (λ k. (statement_list k block s2).end) same ∙ ap (λ q. (statement_list g block q).end) set) h)

-- a DO whose header is known
pub loop_goes_on : {B : Type 0} (res : Result B Halt) (line : ℕ) (x : Name) (t : Triplet) (block : State → Run) (s left : State) (header : Result Triplet Fault) → header ≡ Ok t → Leaves res (looped line x t block s).end left → Leaves res (loop_of line x header block s).end left
loop_goes_on res line x t block s left header is h = same_leaves res (looped line x t block s).end (loop_of line x header block s).end left (ap (λ r. (loop_of line x r block s).end) (sym is)) h

pub loop_halts : (line : ℕ) (x : Name) (block : State → Run) (s : State) (header : Result Triplet Fault) (e : Halt) → Halts e header → Halts e (loop_of line x header block s).end
loop_halts line x block s header Memory h = tt
loop_halts line x block s header (Faulted f) h = ap (λ r. (loop_of line x r block s).end) h

pub once_counted : {B : Type 0} (res : Result B Halt) (g here : Source) (line : ℕ) (body : Body) (s s1 left : State) → ticked line 1 s ≡ Ok s1 → here ≡ g → Leaves res (at_once here line body s1) left →
    Leaves res (and_then (run_of (ticked line 1 s)) (λ r. run_of (at_once g line body r))).end left
once_counted res g here line body s s1 left tick same h =
    leaves_then res (run_of (ticked line 1 s)) (λ r. run_of (at_once g line body r)) s1 left tick (same_leaves res (at_once here line body s1) (at_once g line body s1) left (ap (λ k. at_once k line body s1) same) h)

pub region_leaves : {B : Type 0} (res : Result B Halt) (w w1 : World) (block : List Stmt) (s s1 : State) (v : World) → s1 ≡ s → w1 ≡ w → Leaves res (simple_list w1 block) v → Leaves res (changed s (simple_list w block)) (with_vars_of s1 v)
region_leaves res w w1 block s s1 v se we h =
    same_leaves res (changed s1 (simple_list w1 block)) (changed s (simple_list w block)) (with_vars_of s1 v) (ap (λ q. changed q (simple_list w1 block)) se ∙ ap (λ u. changed s (simple_list u block)) we) (leaves_changed res (simple_list w1 block) s1 v h)
