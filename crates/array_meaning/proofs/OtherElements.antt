-- A replacement at once changes no element but its targets.
use Rattle.std.proofs.Common.{◌≡◌, refl, sym, ap, ◌∙◌, ℕ, zero, suc, ◌<◌, ◌+◌, Bool, true, false, subst, bytes_eq, List, [], ◌∷◌, Option, Some, None, IfOk, Ok, ℤ, arith}
use Rattle.std.specs.Prelude.{◌==◌, if◌then◌else◌}
use Rattle.ws_base.specs.Outcomes.{Staged, ◌>>=◌}
use Rattle.ws_space.specs.declared.shape.Dim.{Dim}
use Rattle.ws_space.specs.declared.state.Var.{Var}
use Rattle.ws_space.specs.declared.state.VarState.{VarState}
use Rattle.ws_space.specs.declared.state.VarState.TheVariants.{Array}
use Rattle.ws_tree.specs.declared.expr.Expr.{Expr}
use Rattle.array_meaning.specs.declared.world.World.{World}
use Rattle.ws_space.specs.declared.state.ArrayValue.{ArrayValue}
use Rattle.ws_space.specs.Shapes.{dims, extents_of, size}
use Rattle.ws_space.specs.Values.{value_at, is_among, stored_at, stored_from, stored, kept, first_repeat, state_of, with_state}
use Rattle.ws_space.specs.Faults.{at_places}
use Rattle.ws_space.specs.Replace.{replaced, unless_repeated, filled}
use Rattle.array_meaning.specs.Stage2.{values, targets, array_of}
use Rattle.array_meaning.specs.Assign.{replaced_in, target_name, with_target}
use Rattle.array_meaning.specs.Forall.{over, over_targets, replaced_over}
use Rattle.array_meaning.specs.Laws.{held_at, KeepsElements, AssignmentKeepsElements, ForallAssignmentKeepsElements}
use Rattle.array_meaning.proofs.Chains.{after_each, after_fact}
use Rattle.std.proofs.lemmas.Bool.{false≢true}

not_first : (p t : ℕ) (ts : List ℕ) → is_among p (t ∷ ts) ≡ false → ((t == p) ≡ false) × (is_among p ts ≡ false)
not_first p t ts h = (grind arith, grind arith)

stored_at-other : (ts : List ℕ) (xs : List ℤ) (p : ℕ) (old : ℤ) → is_among p ts ≡ false → stored_at ts xs p old ≡ old
stored_at-other [] xs p old h = refl
stored_at-other (t ∷ ts) [] p old h = refl
stored_at-other (t ∷ ts) (x ∷ xs) p old h =
    let parts = not_first p t ts h in
    ap (λ b. if b then x else stored_at ts xs p old) parts.0 ∙ stored_at-other ts xs p old parts.1

stored_from-other : (k : ℕ) (ts : List ℕ) (xs olds : List ℤ) (j : ℕ) → is_among (k + j) ts ≡ false → value_at (stored_from k ts xs olds) j ≡ value_at olds j
stored_from-other k ts xs [] j h = refl
stored_from-other k ts xs (old ∷ olds) zero h = stored_at-other ts xs k old (let e : k + 0 ≡ k = omega arith in ap (λ p. is_among p ts) (sym e) ∙ h)
stored_from-other k ts xs (old ∷ olds) (suc j) h = stored_from-other (suc k) ts xs olds j (let e : suc k + j ≡ k + suc j = omega arith in ap (λ p. is_among p ts) e ∙ h)

pub stored-other : (ts : List ℕ) (xs olds : List ℤ) (p : ℕ) → is_among p ts ≡ false → value_at (stored olds ts xs) p ≡ value_at olds p
stored-other ts xs olds p h = stored_from-other 0 ts xs olds p (let e : 0 + p ≡ p = omega arith in ap (λ q. is_among q ts) e ∙ h)

-- what a variable of these bounds holds is what it was given
held_at-kept : (ds : List Dim) (xs : List ℤ) (p : ℕ) → p < size (extents_of ds) → held_at (kept ds xs) p ≡ value_at xs p
held_at-kept [] xs zero h = refl
held_at-kept [] xs (suc p) h = absurd (omega arith)
held_at-kept (d ∷ ds) xs p h = refl

unless_repeated-keeps : (line : ℕ) (places : List ℕ) (o : Option ℕ) (a : ArrayValue) (ts : List ℕ) (xs : List ℤ) → IfOk (unless_repeated line places o (filled a ts xs)) (KeepsElements a ts)
unless_repeated-keeps line places None a ts xs = λ p within free. held_at-kept (dims a.shape) (stored a.values ts xs) p within ∙ stored-other ts xs a.values p free
unless_repeated-keeps line places (Some k) a ts xs = tt

pub replaced-keeps : (line : ℕ) (places : List ℕ) (a : ArrayValue) (ts : List ℕ) (xs : List ℤ) → IfOk (replaced line places a ts xs) (KeepsElements a ts)
replaced-keeps line places a ts xs = unless_repeated-keeps line places (first_repeat ts) a ts xs

in_known : (line : ℕ) (places : List ℕ) (o : Option ArrayValue) (a : ArrayValue) (ts : List ℕ) (xs : List ℤ) → o ≡ Some a → IfOk (replaced_in line places o ts xs) (KeepsElements a ts)
in_known line places o a ts xs e = rw e (replaced-keeps line places a ts xs)

at_known : (line : ℕ) (places : List ℕ) (o : Option ArrayValue) (a : ArrayValue) (r : Staged (List ℕ)) (ts : List ℕ) (xs : List ℤ) → o ≡ Some a → r ≡ Ok ts → IfOk (at_places line places r >>= (λ us. replaced_in line places o us xs)) (KeepsElements a ts)
at_known line places o a r ts xs e f = rw f (in_known line places o a ts xs e)

pub law : AssignmentKeepsElements
law w line right r e places t a ts is_array are_targets =
    after_each _ (at_places line places (values r places)) _ (λ xs. at_known line places (array_of t) a (targets t places) ts xs is_array are_targets)

-- ---- in a FORALL

state_at : (b : Bool) (v : Var) (vs : List Var) (x : List ℕ) (s : VarState) → bytes_eq v.name x ≡ b → (b ≡ false → state_of (with_state vs x s) x ≡ s) →
    state_of (if b then record v { state = s } ∷ vs else v ∷ with_state vs x s) x ≡ s
state_at true v vs x s e rest = rw e refl
state_at false v vs x s e rest = rw e (rest refl)

state_below : (b : Bool) (v : Var) (vs : List Var) (x : List ℕ) (a : ArrayValue) → bytes_eq v.name x ≡ b → state_of (v ∷ vs) x ≡ Array a → b ≡ false → state_of vs x ≡ Array a
state_below true v vs x a e is differs = absurd (false≢true (sym differs))
state_below false v vs x a e is differs = ap (λ z. if z then v.state else state_of vs x) (sym e) ∙ is

-- a variable that is there holds what it was given
state_of-with_state-same : (vs : List Var) (x : List ℕ) (s : VarState) (a : ArrayValue) → state_of vs x ≡ Array a → state_of (with_state vs x s) x ≡ s
state_of-with_state-same [] x s a is = cc
state_of-with_state-same (v ∷ vs) x s a is =
    state_at (bytes_eq v.name x) v vs x s refl (λ differs. state_of-with_state-same vs x s a (state_below (bytes_eq v.name x) v vs x a refl is differs))

abbrev keeps_in : Expr → ArrayValue → List ℕ → World → Type 0
keeps_in left a ts v = KeepsElements a ts (state_of v.vars (target_name left))

stored_in : (w : World) (line : ℕ) (left : Expr) (places : List ℕ) (o : VarState) (a : ArrayValue) (ts : List ℕ) (xs : List ℤ) → state_of w.vars (target_name left) ≡ Array a → o ≡ Array a →
    IfOk (replaced_over line places o ts xs >>= (λ s. Ok (with_target w left s))) (keeps_in left a ts)
stored_in w line left places o a ts xs is same = rw same
    (after_fact (KeepsElements a ts) (keeps_in left a ts) (replaced line places a ts xs) _ (replaced-keeps line places a ts xs)
    (λ s keeps. subst (KeepsElements a ts) (sym (state_of-with_state-same w.vars (target_name left) s a is)) keeps))

at_targets : (w : World) (line : ℕ) (left : Expr) (places : List ℕ) (r : Staged (List ℕ)) (a : ArrayValue) (ts : List ℕ) (xs : List ℤ) → state_of w.vars (target_name left) ≡ Array a → r ≡ Ok ts →
    IfOk (at_places line places r >>= (λ us. replaced_over line places (state_of w.vars (target_name left)) us xs >>= (λ s. Ok (with_target w left s)))) (keeps_in left a ts)
at_targets w line left places r a ts xs is e = rw e (stored_in w line left places (state_of w.vars (target_name left)) a ts xs is is)

pub in_forall : ForallAssignmentKeepsElements
in_forall w line left right places cs a ts is are_targets =
    after_each _ (at_places line places (over w right cs)) _ (λ xs. at_targets w line left places (over_targets w left cs) a ts xs is are_targets)
