-- A step keeps the variables well formed.
use Rattle.std.proofs.Common.{◌≡◌, refl, sym, ◌∙◌, subst, ℕ, zero, suc, ◌<◌, Bool, true, false, List, [], ◌∷◌, ◌++◌, length, All, Option, Some, None, IfOk, ℤ, pos, bytes_eq, arith}
use Rattle.std.specs.Prelude.{◌==◌, if◌then◌else◌}
use Rattle.std.specs.List.{AllPass}
use Rattle.std.proofs.lemmas.List.Elements.{All-nil, All-cons, All-head, All-tail}
use Rattle.ws_space.specs.declared.shape.Dim.{Dim}
use Rattle.ws_space.specs.declared.shape.Shape.{Shape}
use Rattle.ws_space.specs.declared.state.ArrayValue.{ArrayValue}
use Rattle.ws_space.specs.declared.state.Var.{Var}
use Rattle.ws_space.specs.declared.state.VarState.{VarState}
use Rattle.ws_space.specs.declared.state.VarState.TheVariants.{Scalar, Array, Unallocated}
use Rattle.ws_space.specs.Shapes.{Extents, dims, shape_of, all_places}
use Rattle.ws_space.specs.Values.{value_at, stored_at, stored_from, stored, first_repeat, kept, state_of, with_state}
use Rattle.ws_space.specs.WellFormed.{is_value, IsArray, IsHeld, IsWellFormedVar}
use Rattle.ws_space.specs.Faults.{at_line, at_places}
use Rattle.ws_space.specs.Replace.{is_logical, filled, unless_repeated}
use Rattle.ws_space.specs.Masks.{active, shapes_of}
use Rattle.ws_tree.specs.declared.expr.Expr.{Expr}
use Rattle.array_meaning.specs.declared.world.World.{World}
use Rattle.array_meaning.specs.declared.term.Term.{Term}
use Rattle.array_meaning.specs.Stage2.{operands, values, targets, array_of}
use Rattle.array_meaning.specs.Stage1.{walk}
use Rattle.array_meaning.specs.Assign.{Target, selection, movable, target, target_name, step_shape, replaced_in, carried_out}
use Rattle.array_meaning.specs.Where.{mask_terms, operands_of, splits_after}
use Rattle.array_meaning.specs.Forall.{over, over_targets, replaced_over}
use Rattle.array_meaning.specs.Laws.{GivesValues, AssignmentKeepsWellFormed, MaskedAssignmentKeepsWellFormed, ForallAssignmentKeepsWellFormed}
use Rattle.array_meaning.proofs.Chains.{after_each, after_fact, at_line-keeps, at_places-keeps}
use Rattle.array_meaning.proofs.LeftSides.{Holds, Selects, selects}

-- ---- values that pass

abbrev pub Passes : Bool → ℤ → Type 0
Passes b z = is_value b z ≡ true

pub zero_passes : (b : Bool) → Passes b (pos 0)
zero_passes true = refl
zero_passes false = refl

pub value_at-passes : (b : Bool) (xs : List ℤ) (p : ℕ) → All (Passes b) xs → Passes b (value_at xs p)
value_at-passes b [] p h = zero_passes b
value_at-passes b (x ∷ xs) zero h = All-head (Passes b) x xs h
value_at-passes b (x ∷ xs) (suc p) h = value_at-passes b xs p (All-tail (Passes b) x xs h)

pub either : (b c : Bool) (y z : ℤ) → Passes b y → Passes b z → Passes b (if c then y else z)
either b true y z p q = p
either b false y z p q = q

stored_at-passes : (b : Bool) (ts : List ℕ) (xs : List ℤ) (p : ℕ) (old : ℤ) → All (Passes b) xs → Passes b old → Passes b (stored_at ts xs p old)
stored_at-passes b [] xs p old h o = o
stored_at-passes b (t ∷ ts) [] p old h o = o
stored_at-passes b (t ∷ ts) (x ∷ xs) p old h o = either b (t == p) x (stored_at ts xs p old) (All-head (Passes b) x xs h) (stored_at-passes b ts xs p old (All-tail (Passes b) x xs h) o)

pub stored_from-passes : (b : Bool) (k : ℕ) (ts : List ℕ) (xs olds : List ℤ) → All (Passes b) xs → All (Passes b) olds → All (Passes b) (stored_from k ts xs olds)
stored_from-passes b k ts xs [] h o = All-nil (Passes b)
stored_from-passes b k ts xs (old ∷ olds) h o =
    All-cons (Passes b) (stored_at ts xs k old) (stored_from (suc k) ts xs olds) (stored_at-passes b ts xs k old h (All-head (Passes b) old olds o))
    (stored_from-passes b (suc k) ts xs olds h (All-tail (Passes b) old olds o))

stored_from-length : (k : ℕ) (ts : List ℕ) (xs olds : List ℤ) → length (stored_from k ts xs olds) ≡ length olds
stored_from-length k ts xs [] = refl
stored_from-length k ts xs (old ∷ olds) = let rest = stored_from-length (suc k) ts xs olds in omega arith

-- ---- what a variable holds after a replacement

pub kept-held : (b : Bool) (ds : List Dim) (xs : List ℤ) → IsArray b (record { shape = shape_of ds; values = xs }) → IsHeld b (kept ds xs)
kept-held b [] xs is = absurd (let h : 0 < 0 = is.rank in omega arith)
kept-held b (d ∷ ds) xs is = is

pub filled-array : (b : Bool) (a : ArrayValue) (ts : List ℕ) (xs : List ℤ) → IsArray b a → All (Passes b) xs → IsHeld b (filled a ts xs)
filled-array b a ts xs is h =
    let P : Shape → Type 0 = λ s. IsArray b (record { shape = s; values = stored a.values ts xs }) in
    kept-held b (dims a.shape) (stored a.values ts xs) (subst P (sym is.unused) (record {
      shape = is.shape;
      rank = is.rank;
      unused = is.unused;
      extents = is.extents;
      as_many = stored_from-length 0 ts xs a.values ∙ is.as_many;
      values = stored_from-passes b 0 ts xs a.values h is.values;
    }))

pub filled-held : (b : Bool) (s : VarState) (a : ArrayValue) (ts : List ℕ) (xs : List ℤ) → IsHeld b s → Holds s a → All (Passes b) xs → IsHeld b (filled a ts xs)
filled-held b (Scalar v) a ts xs is same h =
    let P : ArrayValue → Type 0 = λ c. IsHeld b (filled c ts xs) in
    subst P (sym same) (value_at-passes b (stored (v ∷ []) ts xs) 0 (stored_from-passes b 0 ts xs (v ∷ []) h (All-cons (Passes b) v [] is (All-nil (Passes b)))))
filled-held b (Array c) a ts xs is same h =
    let P : ArrayValue → Type 0 = λ d. IsHeld b (filled d ts xs) in
    subst P (sym same) (filled-array b c ts xs is h)
filled-held b (Unallocated r) a ts xs is same h = absurd same

pub unless_repeated-held : (b : Bool) (line : ℕ) (places : List ℕ) (o : Option ℕ) (s : VarState) → IsHeld b s → IfOk (unless_repeated line places o s) (IsHeld b)
unless_repeated-held b line places None s h = h
unless_repeated-held b line places (Some k) s h = tt

in_known : (b : Bool) (line : ℕ) (places : List ℕ) (s : VarState) (o : Option ArrayValue) (a : ArrayValue) (ts : List ℕ) (xs : List ℤ) →
    IsHeld b s → Holds s a → All (Passes b) xs → o ≡ Some a → IfOk (replaced_in line places o ts xs) (IsHeld b)
in_known b line places s o a ts xs is same h e = rw e (unless_repeated-held b line places (first_repeat ts) (filled a ts xs) (filled-held b s a ts xs is same h))

pub carried_out-held : (b : Bool) (w : World) (line : ℕ) (right : Expr) (r : Term) (e : Extents) (places : List ℕ) (old : VarState) (g : Target) →
    Selects old g → IsHeld b old → GivesValues b r → IfOk (carried_out w line right r e places g) (IsHeld b)
carried_out-held b w line right r e places old (movable s) h is gives = absurd h
carried_out-held b w line right r e places old (selection t) h is gives =
    after_fact (AllPass (is_value b)) _ (at_places line places (values r places)) _ (at_places-keeps _ line places (values r places) (gives places)) (λ xs typed.
    after_each _ (at_places line places (targets t places)) _ (λ ts. in_known b line places old (array_of t) h.0 ts xs is h.2 typed h.1))

-- ---- the variables

with_state-at : (c b : Bool) (v : Var) (vs : List Var) (x : List ℕ) (s : VarState) → IsHeld (if c then v.truth else b) s → (IsHeld b s → All IsWellFormedVar (with_state vs x s)) → All IsWellFormedVar (v ∷ vs) →
    All IsWellFormedVar (if c then record v { state = s } ∷ vs else v ∷ with_state vs x s)
with_state-at true b v vs x s h rest is = All-cons IsWellFormedVar (record v { state = s }) vs h (All-tail IsWellFormedVar v vs is)
with_state-at false b v vs x s h rest is = All-cons IsWellFormedVar v (with_state vs x s) (All-head IsWellFormedVar v vs is) (rest h)

with_state-kept : (vs : List Var) (x : List ℕ) (s : VarState) → IsHeld (is_logical vs x) s → All IsWellFormedVar vs → All IsWellFormedVar (with_state vs x s)
with_state-kept [] x s h is = All-nil IsWellFormedVar
with_state-kept (v ∷ vs) x s h is = with_state-at (bytes_eq v.name x) (is_logical vs x) v vs x s h (λ g. with_state-kept vs x s g (All-tail IsWellFormedVar v vs is)) is

state_of-at : (c b : Bool) (v : Var) (s : VarState) → IsWellFormedVar v → IsHeld b s → IsHeld (if c then v.truth else b) (if c then v.state else s)
state_of-at true b v s h g = h
state_of-at false b v s h g = g

state_of-held : (vs : List Var) (x : List ℕ) → All IsWellFormedVar vs → IsHeld (is_logical vs x) (state_of vs x)
state_of-held [] x is = refl
state_of-held (v ∷ vs) x is = state_of-at (bytes_eq v.name x) (is_logical vs x) v (state_of vs x) (All-head IsWellFormedVar v vs is) (state_of-held vs x (All-tail IsWellFormedVar v vs is))

-- ---- steps

pub plain : AssignmentKeepsWellFormed
plain w line left right still is typed =
    let b = is_logical w.vars (target_name left) in
    let old = state_of w.vars (target_name left) in
    after_fact (GivesValues b) _ (at_line line (walk w right)) _ (at_line-keeps _ line (walk w right) typed) (λ r gives.
    after_fact (Selects old) _ (at_line line (target false w left)) _ (at_line-keeps _ line (target false w left) (selects false w left still)) (λ t sel.
    after_each _ (at_line line (step_shape (operands r) t)) _ (λ e.
    after_fact (IsHeld b) _ (carried_out w line right r e (all_places e) t) _ (carried_out-held b w line right r e (all_places e) old t sel (state_of-held w.vars (target_name left) is) gives)
    (λ s held. with_state-kept w.vars (target_name left) s held is))))

pub masked : MaskedAssignmentKeepsWellFormed
masked w ss ms a is typed =
    let b = is_logical w.vars (target_name a.left) in
    let old = state_of w.vars (target_name a.left) in
    after_each _ (mask_terms w a.line ms) _ (λ ts.
    after_fact (GivesValues b) _ (at_line a.line (walk w a.right)) _ (at_line-keeps _ a.line (walk w a.right) typed) (λ r gives.
    after_fact (Selects old) _ (at_line a.line (target true w a.left)) _ (at_line-keeps _ a.line (target true w a.left) (selects true w a.left refl)) (λ t sel.
    after_each _ (at_line a.line (step_shape (shapes_of ss ++ operands_of ts ++ operands r) t)) _ (λ e. after_each _ (splits_after e ss ms ts) _ (λ all.
    after_fact (IsHeld b) _ (carried_out w a.line a.right r e (active all e a.under) t) _
    (carried_out-held b w a.line a.right r e (active all e a.under) old t sel (state_of-held w.vars (target_name a.left) is) gives)
    (λ s held. with_state-kept w.vars (target_name a.left) s held is))))))

pub over-held : (b : Bool) (line : ℕ) (places : List ℕ) (old : VarState) (ts : List ℕ) (xs : List ℤ) → IsHeld b old → All (Passes b) xs → IfOk (replaced_over line places old ts xs) (IsHeld b)
over-held b line places (Array a) ts xs is h = unless_repeated-held b line places (first_repeat ts) (filled a ts xs) (filled-array b a ts xs is h)
over-held b line places (Scalar v) ts xs is h = is
over-held b line places (Unallocated r) ts xs is h = is

pub in_forall : ForallAssignmentKeepsWellFormed
in_forall w line left right places cs is typed =
    let b = is_logical w.vars (target_name left) in
    let old = state_of w.vars (target_name left) in
    after_fact (AllPass (is_value b)) _ (at_places line places (over w right cs)) _ (at_places-keeps _ line places (over w right cs) typed) (λ xs pass.
    after_each _ (at_places line places (over_targets w left cs)) _ (λ ts.
    after_fact (IsHeld b) _ (replaced_over line places old ts xs) _ (over-held b line places old ts xs (state_of-held w.vars (target_name left) is) pass)
    (λ s held. with_state-kept w.vars (target_name left) s held is)))
