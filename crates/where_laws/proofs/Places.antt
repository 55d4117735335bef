-- The active places of a step lie inside the one shape of its operands.
use Rattle.std.proofs.Common.{◌≡◌, refl, sym, ap, subst, ℕ, zero, suc, ◌+◌, ◌<◌, Bool, true, false, List, [], ◌∷◌, ◌++◌, All, ℤ, arith, if◌then◌else◌}
use Rattle.std.proofs.lemmas.List.Elements.{All-nil, All-cons, All-head, All-tail, All-append}
use Rattle.ws_base.specs.Numbers.{is_true}
use Rattle.ws_space.specs.Shapes.{Extents, size, all_places}
use Rattle.ws_space.specs.Masks.{same_truth, chosen, Split, split_by, Control, everywhere, held, failed, split_at, active, shapes_of}
use Rattle.value_laws.specs.Standing.{AreIn}
use Rattle.value_laws.proofs.Evaluated.{below_end}

-- places of an array of this shape
abbrev pub AreWithin : Extents → List ℕ → Type 0
AreWithin e = All (λ p. p < size e)

-- all have this shape
abbrev pub HaveShape : Extents → List Extents → Type 0
HaveShape e = All (λ f. f ≡ e)

pub within_each : (e : Extents) (at : List ℕ) (es : List Extents) → AreWithin e at → HaveShape e es → AreIn at es
within_each e at [] h g = All-nil (λ f. AreWithin f at)
within_each e at (f ∷ es) h g =
    All-cons (λ f. AreWithin f at) f es (subst (λ x. AreWithin x at) (sym (All-head (λ x. x ≡ e) f es g)) h) (within_each e at es h (All-tail (λ x. x ≡ e) f es g))

pub all_within : (e : Extents) → AreWithin e (all_places e)
all_within e = below_end 0 (size e) (size e) (omega arith)

if_within : (e : Extents) (b : Bool) (p : ℕ) (rest : List ℕ) → p < size e → AreWithin e rest → AreWithin e (if b then p ∷ rest else rest)
if_within e true p rest h g = All-cons (λ q. q < size e) p rest h g
if_within e false p rest h g = g

chosen_within : (e : Extents) (want : Bool) (ps : List ℕ) (xs : List ℤ) → AreWithin e ps → AreWithin e (chosen want ps xs)
chosen_within e want [] xs h = All-nil (λ q. q < size e)
chosen_within e want (p ∷ ps) [] h = All-nil (λ q. q < size e)
chosen_within e want (p ∷ ps) (x ∷ xs) h =
    if_within e (same_truth want (is_true x)) p (chosen want ps xs) (All-head (λ q. q < size e) p ps h) (chosen_within e want ps xs (All-tail (λ q. q < size e) p ps h))

-- ---- splits

-- what a mask leaves lies inside its shape
pub record IsPlaced (s : Split) : Type 0 where
  pub yes : AreWithin s.shape s.yes
  pub no : AreWithin s.shape s.no

pub split_placed : (e : Extents) (ps : List ℕ) (xs : List ℤ) → AreWithin e ps → IsPlaced (split_by e ps xs)
split_placed e ps xs h = record { yes = chosen_within e true ps xs h; no = chosen_within e false ps xs h }

-- all masks so far have this shape, and leave places inside it
pub record AreSplit (e : Extents) (ss : List Split) : Type 0 where
  pub shapes : HaveShape e (shapes_of ss)
  pub places : All IsPlaced ss

pub none_split : (e : Extents) → AreSplit e []
none_split e = record { shapes = All-nil (λ f. f ≡ e); places = All-nil IsPlaced }

rest_split : (e : Extents) (s : Split) (ss : List Split) → AreSplit e (s ∷ ss) → AreSplit e ss
rest_split e s ss h = record { shapes = All-tail (λ f. f ≡ e) s.shape (shapes_of ss) h.shapes; places = All-tail IsPlaced s ss h.places }

shapes-append : (ss ts : List Split) → shapes_of (ss ++ ts) ≡ shapes_of ss ++ shapes_of ts
shapes-append [] ts = refl
shapes-append (s ∷ ss) ts = ap (λ l. s.shape ∷ l) (shapes-append ss ts)

pub more_split : (e : Extents) (ss : List Split) (s : Split) → s.shape ≡ e → IsPlaced s → AreSplit e ss → AreSplit e (ss ++ s ∷ [])
more_split e ss s same placed h = record {
  shapes = subst (HaveShape e) (sym (shapes-append ss (s ∷ []))) (All-append (λ f. f ≡ e) (shapes_of ss) (s.shape ∷ []) h.shapes (All-cons (λ f. f ≡ e) s.shape [] same (All-nil (λ f. f ≡ e))));
  places = All-append IsPlaced ss (s ∷ []) h.places (All-cons IsPlaced s [] placed (All-nil IsPlaced));
}

yes_within : (e : Extents) (ss : List Split) (k : ℕ) → AreSplit e ss → AreWithin e (split_at ss k).yes
yes_within e [] k h = All-nil (λ p. p < size e)
yes_within e (s ∷ ss) zero h = subst (λ f. AreWithin f s.yes) (All-head (λ f. f ≡ e) s.shape (shapes_of ss) h.shapes) (All-head IsPlaced s ss h.places).yes
yes_within e (s ∷ ss) (suc k) h = yes_within e ss k (rest_split e s ss h)

no_within : (e : Extents) (ss : List Split) (k : ℕ) → AreSplit e ss → AreWithin e (split_at ss k).no
no_within e [] k h = All-nil (λ p. p < size e)
no_within e (s ∷ ss) zero h = subst (λ f. AreWithin f s.no) (All-head (λ f. f ≡ e) s.shape (shapes_of ss) h.shapes) (All-head IsPlaced s ss h.places).no
no_within e (s ∷ ss) (suc k) h = no_within e ss k (rest_split e s ss h)

pub active_within : (e : Extents) (ss : List Split) (c : Control) → AreSplit e ss → AreWithin e (active ss e c)
active_within e ss everywhere h = all_within e
active_within e ss (held k) h = yes_within e ss k h
active_within e ss (failed k) h = no_within e ss k h

-- ---- conformance

pub have_first : (e : Extents) (xs ys : List Extents) → HaveShape e (xs ++ ys) → HaveShape e xs
have_first e [] ys h = All-nil (λ f. f ≡ e)
have_first e (x ∷ xs) ys h = All-cons (λ f. f ≡ e) x xs (All-head (λ f. f ≡ e) x (xs ++ ys) h) (have_first e xs ys (All-tail (λ f. f ≡ e) x (xs ++ ys) h))

pub have_after : (e : Extents) (xs ys : List Extents) → HaveShape e (xs ++ ys) → HaveShape e ys
have_after e [] ys h = h
have_after e (x ∷ xs) ys h = have_after e xs ys (All-tail (λ f. f ≡ e) x (xs ++ ys) h)
