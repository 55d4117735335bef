-- Ops that follow one another.
use Rattle.std.proofs.Common.{◌≡◌, inl, inr, refl, sym, ap, ◌∙◌, subst, ℕ, suc, ◌+◌, ◌<◌, List, [], ◌∷◌, ◌++◌, map, length, Option, Some, None, Ok, Err, ℤ, pos, ◌<ℤ◌, arith}
use Rattle.std.proofs.lemmas.List.{length-append, get_or_append_left, get_or-append-add}
use Rattle.ws_base.specs.Numbers.{Exact}
use Rattle.ws_base.specs.Outcomes.{Staged, joined, each, ◌>>=◌}
use Rattle.phase_ops.specs.declared.phase.Micro.{Micro}
use Rattle.phase_ops.specs.Phases.{looks, divisors, register}
use Rattle.phase_ops.specs.Free.{In}
use Rattle.act_laws.specs.Together.{Files, Scene, number_in, gives_at, with_op, with_ops, Stop, stop_at, first_stop, Level, MayRead, Ends, Follows}

-- ---- one list after another

pub with_ops-append : (s : Scene) (xs ys : List Micro) (files : Files) → with_ops s (xs ++ ys) files ≡ with_ops s ys (with_ops s xs files)
with_ops-append s [] ys files = refl
with_ops-append s (x ∷ xs) ys files = with_ops-append s xs ys (with_op s x files)

abbrev or_then : Option Stop → Option Stop → Option Stop
or_then None q = q
or_then (Some x) q = Some x

stop_at-then : (k : ℕ) (r : Staged (List ℤ)) (p q : Option Stop) → stop_at k r (or_then p q) ≡ or_then (stop_at k r p) q
stop_at-then k (Ok xs) p q = refl
stop_at-then k (Err t) p q = refl

first_stop-append : (s : Scene) (at : List ℕ) (k : ℕ) (files : Files) (xs ys : List Micro) →
    first_stop s at k files (xs ++ ys) ≡ or_then (first_stop s at k files xs) (first_stop s at (k + length xs) (with_ops s xs files) ys)
first_stop-append s at k files [] ys = ap (λ n. first_stop s at n files ys) (omega arith)
first_stop-append s at k files (x ∷ xs) ys =
    ap (stop_at k (each (gives_at s files x) at)) (first_stop-append s at (suc k) (with_op s x files) xs ys
    ∙ ap (λ n. or_then (first_stop s at (suc k) (with_op s x files) xs) (first_stop s at n (with_ops s xs (with_op s x files)) ys)) (omega arith))
    ∙ stop_at-then k (each (gives_at s files x) at) (first_stop s at (suc k) (with_op s x files) xs) (first_stop s at (k + length (x ∷ xs)) (with_ops s xs (with_op s x files)) ys)

-- ---- registers stay

pub Level-with_op : (s : Scene) (k : ℕ) (files : Files) (op : Micro) → Level k files → Level (suc k) (with_op s op files)
Level-with_op s k files op h p = length-append (files p) (number_in (gives_at s files op p) ∷ []) ∙ (let e = h p in omega (arith, e))

pub Level-with_ops : (s : Scene) (k : ℕ) (files : Files) (ops : List Micro) → Level k files → Level (k + length ops) (with_ops s ops files)
Level-with_ops s k files [] h p = let e = h p in omega (arith, e)
Level-with_ops s k files (op ∷ ops) h p = let e = Level-with_ops s (suc k) (with_op s op files) ops (Level-with_op s k files op h) p in omega (arith, e)

-- what was written stands as it was
pub kept : (s : Scene) (files : Files) (ops : List Micro) (p r : ℕ) → r < length (files p) → register (with_ops s ops files p) r ≡ register (files p) r
kept s files [] p r l = refl
kept s files (op ∷ ops) p r l =
    kept s (with_op s op files) ops p r (let e = length-append (files p) (number_in (gives_at s files op p) ∷ []) in omega (arith, e, l))
    ∙ get_or_append_left (files p) (number_in (gives_at s files op p) ∷ []) (pos 0) r l

pub length_grows : (s : Scene) (files : Files) (ops : List Micro) (p r : ℕ) → r < length (files p) → r < length (with_ops s ops files p)
length_grows s files [] p r l = l
length_grows s files (op ∷ ops) p r l = length_grows s (with_op s op files) ops p r (let e = length-append (files p) (number_in (gives_at s files op p) ∷ []) in omega (arith, e, l))

-- the last register
pub newest : (s : Scene) (k : ℕ) (files : Files) (op : Micro) (p : ℕ) → Level k files → register (with_op s op files p) k ≡ number_in (gives_at s files op p)
newest s k files op p h =
    ap (λ n. register (with_op s op files p) n) (let e = h p in let f : k ≡ length (files p) + 0 = omega (arith, e) in f)
    ∙ get_or-append-add (files p) (number_in (gives_at s files op p) ∷ []) 0 (pos 0)

-- ---- following a meaning step by step

-- ops after those at which the only place stops are not reached
MayRead-past : (s : Scene) (k : ℕ) (files : Files) (xs ys : List Micro) (p : ℕ) (stop : Stop) → first_stop s (p ∷ []) k files xs ≡ Some stop → MayRead s xs files p → MayRead s (xs ++ ys) files p
MayRead-past s k files [] ys p stop e h = let f : ⊥ = cc in absurd f
MayRead-past s k files (x ∷ xs) ys p stop e h = (h.0, h.1, λ z g. MayRead-past s (suc k) (with_op s x files) xs ys p stop (sym (ap (λ r. stop_at k (joined r (let q : Staged (List ℤ) = Ok [] in q)) (first_stop s (p ∷ []) (suc k) (with_op s x files) xs)) g) ∙ e) (h.2 z g))

-- ops after those that all pass are reached
MayRead-append : (s : Scene) (files : Files) (xs ys : List Micro) (p : ℕ) → MayRead s xs files p → MayRead s ys (with_ops s xs files) p → MayRead s (xs ++ ys) files p
MayRead-append s files [] ys p h more = more
MayRead-append s files (x ∷ xs) ys p h more = (h.0, h.1, λ z g. MayRead-append s (with_op s x files) xs ys p (h.2 z g) more)

module _ (s : Scene) (at : List ℕ) (k : ℕ) (files : Files) (xs ys : List Micro) where
  passed : first_stop s at k files xs ≡ None → first_stop s at k files (xs ++ ys) ≡ first_stop s at (k + length xs) (with_ops s xs files) ys
  passed h = first_stop-append s at k files xs ys ∙ ap (λ q. or_then q (first_stop s at (k + length xs) (with_ops s xs files) ys)) h

  after : {B : Type 0} (r : Staged B) (Q : B → Files → Type 0) → first_stop s at k files xs ≡ None → Ends s at (k + length xs) (with_ops s xs files) ys r Q → Ends s at k files (xs ++ ys) r Q
  after (Ok b) Q h f = (passed h ∙ f.0, subst (λ q. Q b q) (sym (with_ops-append s xs ys files)) f.1)
  after (Err t) Q h f = (f.0, passed h ∙ f.1)

  pub then_follows : {A B : Type 0} (r : Staged A) (f : A → Staged B) (P : A → Files → Type 0) (Q : B → Files → Type 0) → Follows s at k files xs r P
      → ((a : A) → P a (with_ops s xs files) → Follows s at (k + length xs) (with_ops s xs files) ys (f a) Q)
      → Follows s at k files (xs ++ ys) (r >>= f) Q
  then_follows (Ok a) f P Q h more = record {
    ends = after (f a) Q h.ends.0 (more a h.ends.1).ends;
    reads = λ p e. MayRead-append s files xs ys p (h.reads p e) ((more a h.ends.1).reads p e);
  }
  then_follows (Err t) f P Q h more = record {
    ends = (h.ends.0, first_stop-append s at k files xs ys ∙ ap (λ q. or_then q (first_stop s at (k + length xs) (with_ops s xs files) ys)) h.ends.1);
    reads = λ p e. MayRead-past s k files xs ys p (record { op = h.ends.0; trouble = t }) (subst (λ ps. first_stop s ps k files xs ≡ Some (record { op = h.ends.0; trouble = t })) e h.ends.1) (h.reads p e);
  }

-- nothing is done
pub follows_nothing : {A : Type 0} (s : Scene) (at : List ℕ) (k : ℕ) (files : Files) (a : A) (P : A → Files → Type 0) → P a files → Follows s at k files [] (Ok a) P
follows_nothing s at k files a P h = record { ends = (refl, h); reads = λ p e. tt }

ends_weaker : {A : Type 0} (s : Scene) (at : List ℕ) (k : ℕ) (files : Files) (ops : List Micro) (r : Staged A) (P Q : A → Files → Type 0) → ((a : A) → P a (with_ops s ops files) → Q a (with_ops s ops files)) → Ends s at k files ops r P → Ends s at k files ops r Q
ends_weaker s at k files ops (Ok a) P Q w h = (h.0, w a h.1)
ends_weaker s at k files ops (Err t) P Q w h = h

pub weaker : {A : Type 0} (s : Scene) (at : List ℕ) (k : ℕ) (files : Files) (ops : List Micro) (r : Staged A) (P Q : A → Files → Type 0) → ((a : A) → P a (with_ops s ops files) → Q a (with_ops s ops files)) → Follows s at k files ops r P → Follows s at k files ops r Q
weaker s at k files ops r P Q w h = record { ends = ends_weaker s at k files ops r P Q w h.ends; reads = h.reads }

-- ---- one op

-- what was given at each place
abbrev pub AreNumbers : (ℕ → Exact) → List ℕ → Staged (List ℤ) → Type 0
AreNumbers f at (Ok xs) = xs ≡ map (λ p. number_in (f p)) at
AreNumbers f at (Err t) = Unit {0}

one_more : (f : ℕ → Exact) (p : ℕ) (ps : List ℕ) (e : Exact) (r : Staged (List ℤ)) → f p ≡ e → AreNumbers f ps r → AreNumbers f (p ∷ ps) (joined e r)
one_more f p ps (Err n) r e h = tt
one_more f p ps (Ok z) (Ok ys) e h = λ i. number_in (sym e i) ∷ h i
one_more f p ps (Ok z) (Err t) e h = tt

pub AreNumbers-each : (f : ℕ → Exact) (at : List ℕ) → AreNumbers f at (each f at)
AreNumbers-each f [] = refl
AreNumbers-each f (p ∷ ps) = one_more f p ps (f p) (each f ps) refl (AreNumbers-each f ps)

abbrev pub IsLast : List ℕ → ℕ → List ℤ → Files → Type 0
IsLast at k xs after = xs ≡ map (λ p. register (after p) k) at

module _ (s : Scene) (at : List ℕ) (k : ℕ) (files : Files) (op : Micro) (level : Level k files) where
  last_column : (ps : List ℕ) → map (λ p. number_in (gives_at s files op p)) ps ≡ map (λ p. register (with_op s op files p) k) ps
  last_column [] = refl
  last_column (p ∷ ps) = λ i. sym (newest s k files op p level) i ∷ last_column ps i

  one_from : (r : Staged (List ℤ)) → each (gives_at s files op) at ≡ r → Ends s at k files (op ∷ []) r (IsLast at k)
  one_from (Ok xs) e = (ap (λ q. stop_at k q None) e, subst (AreNumbers (gives_at s files op) at) e (AreNumbers-each (gives_at s files op) at) ∙ last_column at)
  one_from (Err t) e = (k, ap (λ q. stop_at k q None) e)

  -- an op follows its own map
  pub follows_one : ((p : ℕ) → at ≡ p ∷ [] → ((c : ℕ) → In c (looks s.cells (files p) op) → In c s.may) × ((z : ℤ) → In z (divisors s.cells op) → pos 0 <ℤ z)) → Follows s at k files (op ∷ []) (each (gives_at s files op) at) (IsLast at k)
  follows_one h = record { ends = one_from (each (gives_at s files op) at) refl; reads = λ p e. ((h p e).0, (h p e).1, λ z g. tt) }

-- what is given everywhere
pub each_all : (f : ℕ → Exact) (g : ℕ → ℤ) (at : List ℕ) → ((p : ℕ) → In p at → f p ≡ Ok (g p)) → each f at ≡ Ok (map g at)
each_all f g [] h = refl
each_all f g (p ∷ ps) h = λ i. joined (h p (inl refl) i) (each_all f g ps (λ q l. h q (inr l)) i)

ends_map : {A B : Type 0} (s : Scene) (at : List ℕ) (k : ℕ) (files : Files) (ops : List Micro) (r : Staged A) (g : A → B) (P : A → Files → Type 0) (Q : B → Files → Type 0) → ((a : A) → P a (with_ops s ops files) → Q (g a) (with_ops s ops files)) → Ends s at k files ops r P → Ends s at k files ops (r >>= (λ a. Ok (g a))) Q
ends_map s at k files ops (Ok a) g P Q w h = (h.0, w a h.1)
ends_map s at k files ops (Err t) g P Q w h = h

-- the value is looked at in another way
pub follows_map : {A B : Type 0} (s : Scene) (at : List ℕ) (k : ℕ) (files : Files) (ops : List Micro) (r : Staged A) (g : A → B) (P : A → Files → Type 0) (Q : B → Files → Type 0) → ((a : A) → P a (with_ops s ops files) → Q (g a) (with_ops s ops files)) → Follows s at k files ops r P → Follows s at k files ops (r >>= (λ a. Ok (g a))) Q
follows_map s at k files ops r g P Q w h = record { ends = ends_map s at k files ops r g P Q w h.ends; reads = h.reads }
