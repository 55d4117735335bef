-- One more effect of a unit is laid over what is there, whatever other units have done.
use Rattle.std.proofs.Common.{◌≡◌, ◌≢◌, inl, inr, ℕ, zero, suc, ◌<◌, ◌≤◌, min, List, [], ◌∷◌, ◌++◌, length, set, sym, refl, ap, ◌∙◌, subst, arith, slice_index, get_or-set_other, get_or-set_same}
use mathlib.Core.Logic.{dite}
use native.Mathlib.Decide.{ℕ_discrete, dec_le}
use Rattle.std.proofs.lemmas.List.{set_past, set_comm}
use Rattle.phase_ops.specs.declared.effect.Effect.{Effect}
use Rattle.phase_ops.specs.declared.effect.Effect.TheVariants.{Store, Least, Fault}
use Rattle.phase_ops.specs.Phases.{over}
use Rattle.phase_ops.specs.Free.{In, stored, lessened}
use Rattle.phase_ops.specs.Course.{Memory, apply, lay_both, Work, FreeOfRaces}

pub lay-append : (m : Memory) (xs ys : List Effect) → lay_both m (xs ++ ys) ≡ lay_both (lay_both m xs) ys
lay-append m [] ys = refl
lay-append m (x ∷ xs) ys = lay-append (apply x m) xs ys

abbrev Apart : Effect → Effect → Type 0
Apart (Store c x) (Store d y) = c ≢ d
Apart (Store c x) (Least d y) = c ≢ d
Apart (Least c x) (Store d y) = c ≢ d
Apart (Least c x) (Least d y) = Unit {0}
Apart (Store c x) (Fault k) = Unit {0}
Apart (Least c x) (Fault k) = Unit {0}
Apart (Fault k) f = Unit {0}

set_again : (m : List ℕ) (c a b : ℕ) → set (set m c a) c b ≡ set m c b
set_again [] c a b = refl
set_again (x ∷ m) zero a b = refl
set_again (x ∷ m) (suc c) a b = ap (λ (l : List ℕ). x ∷ l) (set_again m c a b)

store_least : (m : List ℕ) (c x d y : ℕ) → c ≢ d → set (set m c x) d (min (slice_index (set m c x) d) y) ≡ set (set m d (min (slice_index m d) y)) c x
store_least m c x d y a = ap (λ (z : ℕ). set (set m c x) d (min z y)) (get_or-set_other m c d x 0 (λ e. a (sym e))) ∙ set_comm m c d x (min (slice_index m d) y) a

least_least : (m : List ℕ) (c x d y : ℕ) → over (Least d y) (over (Least c x) m) ≡ over (Least c x) (over (Least d y) m)
least_least m c x d y = dite (ℕ_discrete c d)
    (λ e. subst (λ (z : ℕ). over (Least z y) (over (Least c x) m) ≡ over (Least c x) (over (Least z y) m)) e (same m c x y))
    (λ e. store_least m c (min (slice_index m c) x) d y e
    ∙ ap (λ (z : ℕ). set (set m d (min (slice_index m d) y)) c (min z x)) (sym (get_or-set_other m d c (min (slice_index m d) y) 0 e)))
  where
    same : (m : List ℕ) (c x y : ℕ) → over (Least c y) (over (Least c x) m) ≡ over (Least c x) (over (Least c y) m)
    same m c x y = dite (dec_le (length m) c)
        (λ big. once m c x y big ∙ sym (once m c y x big))
        (λ small. twice m c x y (omega (arith, small)) ∙ ap (λ (z : ℕ). set m c z) (let e : min (min (slice_index m c) x) y ≡ min (min (slice_index m c) y) x = omega arith in e) ∙ sym (twice m c y x (omega (arith, small))))
      where
        once : (m : List ℕ) (c x y : ℕ) → length m ≤ c → over (Least c y) (over (Least c x) m) ≡ m
        once m c x y big = ap (λ (l : List ℕ). over (Least c y) l) (set_past m c (min (slice_index m c) x) big) ∙ set_past m c (min (slice_index m c) y) big

        twice : (m : List ℕ) (c x y : ℕ) → c < length m → over (Least c y) (over (Least c x) m) ≡ set m c (min (min (slice_index m c) x) y)
        twice m c x y small = ap (λ (z : ℕ). set (set m c (min (slice_index m c) x)) c (min z y)) (get_or-set_same m c (min (slice_index m c) x) 0 small) ∙ set_again m c (min (slice_index m c) x) (min (min (slice_index m c) x) y)

apply_comm : (m : Memory) (e f : Effect) → Apart e f → apply f (apply e m) ≡ apply e (apply f m)
apply_comm m (Store c x) (Store d y) a = ap (λ (l : List ℕ). let z : Memory = (l, m.1) in z) (set_comm m.0 c d x y a)
apply_comm m (Store c x) (Least d y) a = ap (λ (l : List ℕ). let z : Memory = (l, m.1) in z) (store_least m.0 c x d y a)
apply_comm m (Least c x) (Store d y) a = ap (λ (l : List ℕ). let z : Memory = (l, m.1) in z) (sym (store_least m.0 d y c x (λ e. a (sym e))))
apply_comm m (Least c x) (Least d y) a = ap (λ (l : List ℕ). let z : Memory = (l, m.1) in z) (least_least m.0 c x d y)
apply_comm m (Store c x) (Fault k) a = refl
apply_comm m (Least c x) (Fault k) a = refl
apply_comm m (Fault k) (Store d y) a = refl
apply_comm m (Fault k) (Least d y) a = refl
apply_comm m (Fault k) (Fault j) a = ap (λ (l : ℕ). let z : Memory = (m.0, l) in z) (let e : min (min m.1 k) j ≡ min (min m.1 j) k = omega arith in e)

pub lay_comm : (m : Memory) (e : Effect) (fs : List Effect) → ((f : Effect) → In f fs → Apart e f) → lay_both (apply e m) fs ≡ apply e (lay_both m fs)
lay_comm m e [] a = refl
lay_comm m e (f ∷ fs) a = ap (λ (z : Memory). lay_both z fs) (apply_comm m e f (a f (inl refl))) ∙ lay_comm (apply f m) e fs (λ g h. a g (inr h))

-- a cell that the effect e names, among effects of which it is one
named : (cells : List Effect → List ℕ) (c : ℕ) (e : Effect) → ((es : List Effect) → In c (cells (e ∷ es))) → ((f : Effect) (es : List Effect) → In c (cells es) → In c (cells (f ∷ es))) → (es : List Effect) → In e es → In c (cells es)
named cells c e here later [] h = elim h [ ]
named cells c e here later (f ∷ es) (inl q) = subst (λ (z : Effect). In c (cells (z ∷ es))) q (here es)
named cells c e here later (f ∷ es) (inr h) = later f es (named cells c e here later es h)

stored_later : (c : ℕ) (f : Effect) (es : List Effect) → In c (stored es) → In c (stored (f ∷ es))
stored_later c (Store d w) es h = inr h
stored_later c (Least d w) es h = h
stored_later c (Fault k) es h = h

lessened_later : (c : ℕ) (f : Effect) (es : List Effect) → In c (lessened es) → In c (lessened (f ∷ es))
lessened_later c (Store d w) es h = h
lessened_later c (Least d w) es h = inr h
lessened_later c (Fault k) es h = h

pub stored_is : (c v : ℕ) (es : List Effect) → In (Store c v) es → In c (stored es)
stored_is c v = named stored c (Store c v) (λ es. inl refl) (stored_later c)

pub lessened_is : (c v : ℕ) (es : List Effect) → In (Least c v) es → In c (lessened es)
lessened_is c v = named lessened c (Least c v) (λ es. inl refl) (lessened_later c)

-- effects of different units are apart: what the proof of Put, Least and Note needs
pub units_apart : (w : Work) → FreeOfRaces w → (u v : ℕ) → u < w.units → v < w.units → u ≢ v → (e f : Effect) → In e (w.effects u) → In f (w.effects v) → Apart e f
units_apart w free u v hu hv n (Store c x) (Store d y) i j = λ s. n (free.stores u v c hu hv (stored_is c x (w.effects u) i) (subst (λ (z : ℕ). In z (stored (w.effects v))) (sym s) (stored_is d y (w.effects v) j)))
units_apart w free u v hu hv n (Store c x) (Least d y) i j = λ s. free.leasts v u d hv hu (lessened_is d y (w.effects v) j) (inl (subst (λ (z : ℕ). In z (stored (w.effects u))) s (stored_is c x (w.effects u) i)))
units_apart w free u v hu hv n (Least c x) (Store d y) i j = λ s. free.leasts u v c hu hv (lessened_is c x (w.effects u) i) (inl (subst (λ (z : ℕ). In z (stored (w.effects v))) (sym s) (stored_is d y (w.effects v) j)))
units_apart w free u v hu hv n (Least c x) (Least d y) i j = tt
units_apart w free u v hu hv n (Store c x) (Fault k) i j = tt
units_apart w free u v hu hv n (Least c x) (Fault k) i j = tt
units_apart w free u v hu hv n (Fault k) f i j = tt
