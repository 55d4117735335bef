-- The values that the indexes of a FORALL give a name.
use Rattle.std.proofs.Common.{◌≡◌, refl, sym, ap, ◌∙◌, ℕ, ◌≤◌, Bool, true, false, List, [], ◌∷◌, map, length, drop, Option, Some, None, ℤ, bytes_eq}
use Rattle.std.specs.Prelude.{◌/◌, ◌%◌, if◌then◌else◌}
use Rattle.std.proofs.lemmas.Simd.{map-map}
use Rattle.std.proofs.Math.ListN.{drop_of_length-le}
use Rattle.std.proofs.Math.Nat.{div-one}
use Rattle.ws_space.specs.declared.shape.Triplet.{Triplet}
use Rattle.ws_space.specs.Shapes.{count}
use Rattle.ws_space.specs.Subscripts.{stepped}
use Rattle.ws_space.specs.Values.{Name}
use Rattle.ws_space.specs.Maps.{everywhere_same}
use Rattle.ws_space.specs.Sections.{beyond, triplet_column}
use Rattle.ws_tree.specs.declared.stmt.Index.{Index}
use Rattle.array_meaning.specs.declared.world.World.{World}
use Rattle.array_meaning.specs.Stage1.{constant_of}
use Rattle.array_meaning.specs.Forall.{Combination, combination, name_value}
use Rattle.step_eval.specs.Combinations.{combinations_at, index_values}

-- ---- places

pub beyond_one : (ps : List ℕ) → ps ≡ beyond 1 ps
beyond_one [] = refl
beyond_one (p ∷ ps) = ap (λ q. q ∷ ps) (sym (div-one p)) ∙ ap (λ l. p / 1 ∷ l) (beyond_one ps)

-- ---- what each combination gives a name

-- where there are values of an index, they are those of the name at all places
abbrev given_at : Option (List ℤ) → List ℕ → List (Option ℤ)
given_at (Some xs) ps = map Some xs
given_at None ps = map (λ _. None) ps

choice : (b : Bool) (f g : ℕ → Option ℤ) (ps : List ℕ) → map (λ p. if b then f p else g p) ps ≡ (if b then map f ps else map g ps)
choice true f g ps = refl
choice false f g ps = refl

further : (o : Option (List ℤ)) (h : ℕ → ℕ) (ps : List ℕ) → given_at o (map h ps) ≡ given_at o ps
further (Some xs) h ps = refl
further None h ps = map-map (λ _. None) h ps

lookups : (is : List Index) (ts : List Triplet) (x : Name) (ps : List ℕ) → map (λ p. constant_of (combination is ts p) x) ps ≡ given_at (index_values is ts x ps) ps
lookups [] ts x ps = refl
lookups (i ∷ is) [] x ps = refl
lookups (i ∷ is) (t ∷ ts) x ps =
    choice (bytes_eq i.name x) (λ p. Some (stepped t (p % count t))) (λ p. constant_of (combination is ts (p / count t)) x) ps
    ∙ at_test (bytes_eq i.name x) (lookups is ts x (beyond (count t) ps))
  where
    at_test : (b : Bool) → map (λ p. constant_of (combination is ts p) x) (beyond (count t) ps) ≡ given_at (index_values is ts x (beyond (count t) ps)) (beyond (count t) ps) →
        (if b then map (λ p. Some (stepped t (p % count t))) ps else map (λ p. constant_of (combination is ts (p / count t)) x) ps) ≡ given_at (if b then Some (triplet_column t ps) else index_values is ts x (beyond (count t) ps)) ps
    at_test true h = sym (map-map Some (λ p. stepped t (p % count t)) ps)
    at_test false h =
        sym (map-map (λ q. constant_of (combination is ts q) x) (λ p. p / count t) ps)
        ∙ (h ∙ further (index_values is ts x (beyond (count t) ps)) (λ p. p / count t) ps)

-- ---- names

abbrev given_or : World → Name → Option ℤ → ℤ
given_or w x (Some v) = v
given_or w x None = name_value w x []

name_at : (w : World) (x : Name) (c : Combination) → name_value w x c ≡ given_or w x (constant_of c x)
name_at w x c = by_case (constant_of c x) refl where
  by_case : (o : Option ℤ) → constant_of c x ≡ o → name_value w x c ≡ given_or w x (constant_of c x)
  by_case (Some v) e = rw e refl
  by_case None e = rw e refl

all_names : (w : World) (x : Name) (is : List Index) (ts : List Triplet) (ps : List ℕ) → map (name_value w x) (combinations_at is ts ps) ≡ map (given_or w x) (map (λ p. constant_of (combination is ts p) x) ps)
all_names w x is ts [] = refl
all_names w x is ts (p ∷ ps) = ap (λ v. v ∷ map (name_value w x) (combinations_at is ts ps)) (name_at w x (combination is ts p)) ∙ ap (λ l. given_or w x (constant_of (combination is ts p) x) ∷ l) (all_names w x is ts ps)

each_given : (w : World) (x : Name) (xs : List ℤ) → map (given_or w x) (map Some xs) ≡ xs
each_given w x [] = refl
each_given w x (v ∷ xs) = ap (λ l. v ∷ l) (each_given w x xs)

pub values_found : (w : World) (x : Name) (is : List Index) (ts : List Triplet) (ps : List ℕ) (xs : List ℤ) → Some xs ≡ index_values is ts x ps → xs ≡ map (name_value w x) (combinations_at is ts ps)
values_found w x is ts ps xs h = sym (all_names w x is ts ps ∙ (ap (map (given_or w x)) (lookups is ts x ps ∙ ap (λ o. given_at o ps) (sym h)) ∙ each_given w x xs))

pub values_absent : (w : World) (x : Name) (is : List Index) (ts : List Triplet) (ps : List ℕ) (v : ℤ) (xs : List ℤ) → None ≡ index_values is ts x ps → v ≡ name_value w x [] → xs ≡ everywhere_same v ps → xs ≡ map (name_value w x) (combinations_at is ts ps)
values_absent w x is ts ps v xs h e same =
    same ∙ (ap (λ u. everywhere_same u ps) e ∙ sym (all_names w x is ts ps ∙ (ap (map (given_or w x)) (lookups is ts x ps ∙ ap (λ o. given_at o ps) (sym h)) ∙ map-map (given_or w x) (λ _. None) ps)))

-- ---- no more indexes

no_axis : (is : List Index) (x : Name) (ps : List ℕ) → index_values is [] x ps ≡ None
no_axis [] x ps = refl
no_axis (i ∷ is) x ps = refl

pub no_more : (is : List Index) (ts : List Triplet) (x : Name) (ps : List ℕ) (all : Option (List ℤ)) (k : ℕ) → length ts ≤ k → all ≡ index_values (drop k is) (drop k ts) x ps → None ≡ all
no_more is ts x ps all k h before = sym (before ∙ (ap (λ l. index_values (drop k is) l x ps) (drop_of_length-le ts h) ∙ no_axis (drop k is) x ps))
