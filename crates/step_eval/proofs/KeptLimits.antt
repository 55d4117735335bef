-- What the variables hold stays within the limits.
use Rattle.std.proofs.Common.{◌≡◌, ◌≤◌, refl, sym, ◌∙◌, ap, subst, ℕ, zero, suc, Bool, true, false, if◌then◌else◌, List, [], ◌∷◌, map, length, All, Ok, IfOk, ℤ, pos, arith}
use Rattle.std.specs.Prelude.{◌==◌}
use Rattle.std.proofs.lemmas.List.Elements.{All-nil, All-cons, All-head, All-tail}
use Rattle.std.proofs.lemmas.Bool.{eqb-true}
use Rattle.std.specs.Str.{bytes_eq}
use Rattle.ws_space.specs.declared.state.Var.{Var}
use Rattle.ws_space.specs.declared.state.VarState.{VarState}
use Rattle.ws_space.specs.declared.shape.Dim.{Dim}
use Rattle.ws_space.specs.declared.shape.TheConstants.{ELEMENT_LIMIT}
use Rattle.ws_space.specs.declared.state.ArrayValue.{ArrayValue}
use Rattle.ws_space.specs.Shapes.{Extents, dims, shape_of, extents_of, size}
use Rattle.ws_space.specs.Values.{Name, state_of, with_state, value_at, stored_at, stored_from, stored, kept}
use Rattle.ws_space.specs.Replace.{filled, handed_on, from_one}
use Rattle.ws_space.specs.WellFormed.{elements}
use Rattle.ws_space.proofs.Whole.{length-dims_le}
use Rattle.term_eval.specs.Limits.{IsVar, IsSmallState, IsSmallArray, IsSmallTerm, IsInteger, IsFew}
use Rattle.ws_base.specs.Outcomes.{Staged}
use Rattle.array_meaning.specs.declared.term.Term.{Term}
use Rattle.array_meaning.specs.Stage2.{values}
use Rattle.term_eval.proofs.SmallTerms.{values-integers}
use Rattle.step_eval.specs.Narrow.{AreDims, IsNarrow}

either : (b : Bool) (s t : VarState) → IsSmallState s → IsSmallState t → IsSmallState (if b then s else t)
either true s t h k = h
either false s t h k = k

pub state_held : (vs : List Var) (x : Name) → All IsVar vs → IsSmallState (state_of vs x)
state_held [] x h = refl
state_held (v ∷ vs) x h = either (bytes_eq v.name x) v.state (state_of vs x) (All-head IsVar v vs h) (state_held vs x (All-tail IsVar v vs h))

either_vars : (b : Bool) (vs ws : List Var) → All IsVar vs → All IsVar ws → All IsVar (if b then vs else ws)
either_vars true vs ws h k = h
either_vars false vs ws h k = k

pub vars_held : (vs : List Var) (x : Name) (s : VarState) → All IsVar vs → IsSmallState s → All IsVar (with_state vs x s)
vars_held [] x s h k = All-nil IsVar
vars_held (v ∷ vs) x s h k =
    either_vars (bytes_eq v.name x) (record v { state = s } ∷ vs) (v ∷ with_state vs x s)
    (All-cons IsVar (record v { state = s }) vs k (All-tail IsVar v vs h))
    (All-cons IsVar v (with_state vs x s) (All-head IsVar v vs h) (vars_held vs x s (All-tail IsVar v vs h) k))

-- ---- values

value_at_integer : (xs : List ℤ) (p : ℕ) → All IsInteger xs → IsInteger (value_at xs p)
value_at_integer [] p h = refl
value_at_integer (x ∷ xs) zero h = All-head IsInteger x xs h
value_at_integer (x ∷ xs) (suc p) h = value_at_integer xs p (All-tail IsInteger x xs h)

either_integer : (b : Bool) (y z : ℤ) → IsInteger y → IsInteger z → IsInteger (if b then y else z)
either_integer true y z h k = h
either_integer false y z h k = k

stored_at_integer : (ts : List ℕ) (xs : List ℤ) (p : ℕ) (old : ℤ) → All IsInteger xs → IsInteger old → IsInteger (stored_at ts xs p old)
stored_at_integer [] xs p old h o = o
stored_at_integer (t ∷ ts) [] p old h o = o
stored_at_integer (t ∷ ts) (x ∷ xs) p old h o = either_integer (t == p) x (stored_at ts xs p old) (All-head IsInteger x xs h) (stored_at_integer ts xs p old (All-tail IsInteger x xs h) o)

stored_integers : (k : ℕ) (ts : List ℕ) (xs olds : List ℤ) → All IsInteger xs → All IsInteger olds → All IsInteger (stored_from k ts xs olds)
stored_integers k ts xs [] h o = All-nil IsInteger
stored_integers k ts xs (old ∷ olds) h o =
    All-cons IsInteger (stored_at ts xs k old) (stored_from (suc k) ts xs olds) (stored_at_integer ts xs k old h (All-head IsInteger old olds o)) (stored_integers (suc k) ts xs olds h (All-tail IsInteger old olds o))

-- ---- dimensions

pub dims_shape_of : (ds : List Dim) → length ds ≤ 3 → dims (shape_of ds) ≡ ds
dims_shape_of [] h = refl
dims_shape_of (a ∷ []) h = refl
dims_shape_of (a ∷ b ∷ []) h = refl
dims_shape_of (a ∷ b ∷ c ∷ []) h = refl
dims_shape_of (a ∷ b ∷ c ∷ d ∷ more) h = absurd (omega (arith, h))

pub dims_are : (a : ArrayValue) (ds : List Dim) → ds ≡ dims a.shape → IsSmallArray a → AreDims ds
dims_are a ds is h = record { narrow = omega (arith, length-dims_le a.shape, ap length is); few = omega (arith, h.few, ap (λ l. size (extents_of l)) is) }

pub small_kept : (ds : List Dim) (xs : List ℤ) → AreDims ds → All IsInteger xs → IsSmallState (kept ds xs)
small_kept [] xs h is = value_at_integer xs 0 is
small_kept (d ∷ ds) xs h is =
    let same : dims (shape_of (d ∷ ds)) ≡ d ∷ ds = dims_shape_of (d ∷ ds) h.narrow in
    let n : elements (shape_of (d ∷ ds)) ≡ size (extents_of (d ∷ ds)) = ap (λ l. size (extents_of l)) same in
    record { few = omega (arith, n, h.few); values = is }

pub small_stored : (ts : List ℕ) (xs olds out : List ℤ) → out ≡ stored olds ts xs → All IsInteger xs → All IsInteger olds → All IsInteger out
small_stored ts xs olds out is h o = let P : List ℤ → Type 0 = λ l. All IsInteger l in subst P (sym is) (stored_integers 0 ts xs olds h o)

extents_from_one : (e : Extents) → extents_of (from_one e) ≡ e
extents_from_one [] = refl
extents_from_one (n ∷ ns) = ap (λ l. n ∷ l) (extents_from_one ns)

length_from_one : (e : Extents) → length (from_one e) ≡ length e
length_from_one [] = refl
length_from_one (n ∷ ns) = ap suc (length_from_one ns)

pub from_one_are : (e : Extents) (ds : List Dim) → ds ≡ from_one e → IsNarrow e → IsFew e → AreDims ds
from_one_are e ds is n f = record { narrow = omega (arith, n, length_from_one e, ap length is); few = omega (arith, f, ap size (extents_from_one e), ap (λ l. size (extents_of l)) is) }

extent_handed : (d : Dim) (b : Bool) → (d.extent == 0) ≡ b → (if b then record { lower = pos 1; extent = 0 } else d).extent ≡ d.extent
extent_handed d true e = sym (eqb-true d.extent 0 e)
extent_handed d false e = refl

extents_handed_on : (ds : List Dim) → extents_of (handed_on ds) ≡ extents_of ds
extents_handed_on [] = refl
extents_handed_on (d ∷ ds) = ap (λ n. n ∷ extents_of (handed_on ds)) (extent_handed d (d.extent == 0) refl) ∙ ap (λ l. d.extent ∷ l) (extents_handed_on ds)

length_handed_on : (ds : List Dim) → length (handed_on ds) ≡ length ds
length_handed_on [] = refl
length_handed_on (d ∷ ds) = ap suc (length_handed_on ds)

pub handed_on_are : (ds out : List Dim) → out ≡ handed_on ds → AreDims ds → AreDims out
handed_on_are ds out is h = record { narrow = omega (arith, h.narrow, length_handed_on ds, ap length is); few = omega (arith, h.few, ap size (extents_handed_on ds), ap (λ l. size (extents_of l)) is) }

length_extents : (ds : List Dim) → length (extents_of ds) ≡ length ds
length_extents [] = refl
length_extents (d ∷ ds) = ap suc (length_extents ds)

pub extents_narrow : (ds : List Dim) (e : Extents) → e ≡ extents_of ds → AreDims ds → IsNarrow e
extents_narrow ds e is h = omega (arith, h.narrow, length_extents ds, ap length is)

pub extents_few : (ds : List Dim) (e : Extents) → e ≡ extents_of ds → AreDims ds → IsFew e
extents_few ds e is h = omega (arith, h.few, ap size is)

-- ---- values of a term

pub values_integers : (t : Term) (at : List ℕ) (xs : List ℤ) → values t at ≡ Ok xs → IsSmallTerm t → All IsInteger xs
values_integers t at xs is h = let P : Staged (List ℤ) → Type 0 = λ r. IfOk r (All IsInteger) in subst P is (values-integers t h at)
