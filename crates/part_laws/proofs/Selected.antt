-- Selections that are related to picks: shapes, checks, the subscripts of an element, and columns.
use Rattle.std.proofs.Common.{◌≡◌, refl, sym, ap, ◌∙◌, subst, ℕ, suc, List, [], ◌∷◌, map, length, Ok, Err, ℤ}
use Rattle.ws_base.specs.Outcomes.{Staged, ◌>>=◌}
use Rattle.ws_space.specs.declared.shape.Dim.{Dim}
use Rattle.ws_space.specs.declared.shape.Triplet.{Triplet}
use Rattle.ws_space.specs.declared.state.ArrayValue.{ArrayValue}
use Rattle.ws_space.specs.Shapes.{Extents, count}
use Rattle.ws_space.specs.Values.{value_at}
use Rattle.ws_space.specs.Maps.{everywhere_same}
use Rattle.ws_space.specs.Sections.{here, beyond, triplet_column, elements_at, places_at, checked_subscript, checked_triplet}
use Rattle.array_meaning.specs.declared.term.Term.{Term}
use Rattle.array_meaning.specs.declared.term.Term.TheVariants.{Section}
use Rattle.array_meaning.specs.declared.term.Pick.{Pick}
use Rattle.array_meaning.specs.declared.term.Pick.TheVariants as pick
use Rattle.array_meaning.specs.declared.term.Pick.TheBlock.{hidden-the_row-Pick-0}
use Rattle.array_meaning.specs.Terms.{terms_open}
use Rattle.array_meaning.specs.Stage1 as source
use Rattle.array_meaning.specs.Stage2 as later
use Rattle.hlfir_meaning.specs.Environments.{Selection, complete, one, range, listed, through}
use Rattle.hlfir_meaning.specs.Selections.{array_operand, first_extent, extents, columns, checked, only}
use Rattle.hlfir_meaning.specs.Stage2.{targets}
use Rattle.value_laws.specs.Standing.{AreIn}
use Rattle.part_laws.specs.Selects.{IsVector, Selects, Agree}
use Rattle.part_laws.proofs.Columns.{here-in, beyond-in}

-- ---- shapes

pub picked-row : (ps : List Pick) → later.extents (hidden-the_row-Pick-0 ps) ≡ source.picked ps
unfolding terms_open
picked-row [] = refl
picked-row (p ∷ ps) = ap (later.extent p) (picked-row ps)

pub same-shapes : (ds : List Dim) (s : Selection) (ps : List Pick) → Selects ds s ps → extents s ≡ source.picked ps
same-shapes ds complete [] h = refl
same-shapes (d ∷ ds) (one i s) (pick.One j ∷ ps) h = same-shapes ds s ps h.1
same-shapes (d ∷ ds) (range t s) (pick.Range u ∷ ps) h = ap (λ e. count t ∷ e) (same-shapes ds s ps h.1) ∙ ap (λ v. count v ∷ source.picked ps) h.0
same-shapes (d ∷ ds) (listed n xs s) (pick.Vector t ∷ ps) h = ap (λ e. n ∷ e) (same-shapes ds s ps h.1) ∙ ap (λ m. m ∷ source.picked ps) (sym h.0.extent)
same-shapes (d ∷ ds) (through a inner s) (pick.Vector t ∷ ps) h = ap (λ e. first_extent (extents inner) ∷ e) (same-shapes ds s ps h.1) ∙ ap (λ m. m ∷ source.picked ps) (sym h.0.extent)
same-shapes _ _ _ h = absurd h

-- ---- elements

abbrev pub HasNone : Extents → Type 0
HasNone [] = Unit {0}
HasNone (n ∷ ns) = ⊥

pub same-only : (ds : List Dim) (s : Selection) (ps : List Pick) → Selects ds s ps → HasNone (extents s) → only s ≡ source.only ps
same-only ds complete [] h g = refl
same-only (d ∷ ds) (one i s) (pick.One j ∷ ps) h g = ap (λ is. i ∷ is) (same-only ds s ps h.1 g) ∙ ap (λ k. k ∷ source.only ps) h.0
same-only (d ∷ ds) (range t s) (pick.Range u ∷ ps) h g = absurd g
same-only (d ∷ ds) (listed n xs s) (pick.Vector t ∷ ps) h g = absurd g
same-only (d ∷ ds) (through a inner s) (pick.Vector t ∷ ps) h g = absurd g
same-only _ _ _ h g = absurd h

-- ---- columns

after_two : (r : Staged (List (List ℤ))) (f : List (List ℤ) → Staged (List ℤ)) (g : List ℤ → Staged (List (List ℤ))) → (r >>= (λ cs. f cs >>= g)) ≡ ((r >>= f) >>= g)
after_two (Ok cs) f g = refl
after_two (Err t) f g = refl

abbrev then_rest : List ℤ → Staged (List (List ℤ)) → Staged (List (List ℤ))
then_rest c r = r >>= (λ rest. Ok (c ∷ rest))

module _ (s : Selection) (ps : List Pick) (same : (at : List ℕ) → AreIn at (array_operand (extents s)) → columns s at ≡ later.columns (hidden-the_row-Pick-0 ps) at) where
  abbrev rest_at : ℕ → List ℕ → Staged (List (List ℤ))
  rest_at n at = later.columns (hidden-the_row-Pick-0 ps) (beyond n at)

  of_vector : (n : ℕ) (given : List ℕ → Staged (List ℤ)) (t : Term) → IsVector n given t → (at : List ℕ) → AreIn at (array_operand (n ∷ extents s)) →
      (given (here n at) >>= (λ c. then_rest c (columns s (beyond n at)))) ≡ later.columns (hidden-the_row-Pick-0 (pick.Vector t ∷ ps)) at
  unfolding terms_open
  of_vector n given t h at is =
      ap (λ r. given (here n at) >>= (λ c. then_rest c r)) (same (beyond n at) (beyond-in n (extents s) at is))
      ∙ (ap (λ r. r >>= (λ c. then_rest c (rest_at n at))) (h.values (here n at) (here-in n (extents s) at is))
      ∙ ap (λ k. later.values t (here k at) >>= (λ c. then_rest c (rest_at k at))) (sym h.extent))

  of_one : (i j : ℤ) → i ≡ j → (at : List ℕ) → AreIn at (array_operand (extents s)) → columns (one i s) at ≡ later.columns (hidden-the_row-Pick-0 (pick.One j ∷ ps)) at
  unfolding terms_open
  of_one i j h at is = ap (then_rest (everywhere_same i at)) (same at is) ∙ ap (λ k. then_rest (everywhere_same k at) (later.columns (hidden-the_row-Pick-0 ps) at)) h

  of_range : (t u : Triplet) → t ≡ u → (at : List ℕ) → AreIn at (array_operand (count t ∷ extents s)) → columns (range t s) at ≡ later.columns (hidden-the_row-Pick-0 (pick.Range u ∷ ps)) at
  unfolding terms_open
  of_range t u h at is =
      ap (then_rest (triplet_column t at)) (same (beyond (count t) at) (beyond-in (count t) (extents s) at is))
      ∙ ap (λ v. then_rest (triplet_column v at) (rest_at (count v) at)) h

pub same-columns : (ds : List Dim) (s : Selection) (ps : List Pick) → Selects ds s ps → (at : List ℕ) → AreIn at (array_operand (extents s)) → columns s at ≡ later.columns (hidden-the_row-Pick-0 ps) at
unfolding terms_open
same-columns ds complete [] h at is = refl
same-columns (d ∷ ds) (one i s) (pick.One j ∷ ps) h at is = of_one s ps (same-columns ds s ps h.1) i j h.0 at is
same-columns (d ∷ ds) (range t s) (pick.Range u ∷ ps) h at is = of_range s ps (same-columns ds s ps h.1) t u h.0 at is
same-columns (d ∷ ds) (listed n xs s) (pick.Vector t ∷ ps) h at is = of_vector s ps (same-columns ds s ps h.1) n (λ at. Ok (map (value_at xs) at)) t h.0 at is
same-columns (d ∷ ds) (through a inner s) (pick.Vector t ∷ ps) h at is =
    let n = first_extent (extents inner) in
    after_two (columns inner (here n at)) (elements_at a (here n at)) (λ c. then_rest c (columns s (beyond n at)))
    ∙ of_vector s ps (same-columns ds s ps h.1) n (λ at. columns inner at >>= elements_at a at) t h.0 at is
same-columns _ _ _ h at is = absurd h

module _ (a : ArrayValue) (ds : List Dim) (s : Selection) (ps : List Pick) (h : Selects ds s ps) (at : List ℕ) (is : AreIn at (array_operand (extents s))) where
  pub same-elements : (columns s at >>= elements_at a at) ≡ later.values (Section a ps) at
  unfolding terms_open
  same-elements = ap (λ r. r >>= elements_at a at) (same-columns ds s ps h at is)

  pub same-targets : targets a s at ≡ later.targets (Section a ps) at
  unfolding terms_open
  same-targets = ap (λ r. r >>= places_at a at) (same-columns ds s ps h at is)

-- ---- checks

pub agree-then : {A B C D : Type 0} (P : A → B → Type 0) (Q : C → D → Type 0) (q : Staged A) (r : Staged B) (f : A → Staged C) (g : B → Staged D) →
    Agree P q r → ((a : A) (b : B) → P a b → Agree Q (f a) (g b)) → Agree Q (q >>= f) (r >>= g)
agree-then P Q (Ok a) (Ok b) f g h k = k a b h
agree-then P Q (Err t) (Err u) f g h k = h
agree-then P Q (Ok a) (Err u) f g h k = absurd h
agree-then P Q (Err t) (Ok b) f g h k = absurd h

-- related, and of the rank that it had
abbrev pub StaysRelated : List Dim → Selection → Selection → List Pick → Type 0
StaysRelated ds s t ps = Selects ds t ps × (length (extents t) ≡ length (extents s))

module _ (d : Dim) (ds : List Dim) (s : Selection) (ps : List Pick) (h : Agree (StaysRelated ds s) (checked ds s) (source.checked ds ps)) where
  with_first : {X : Type 0} (r : Staged X) (f : X → Selection → Selection) (g : X → Pick) (old : Selection) →
      ((x : X) (t : Selection) (qs : List Pick) → StaysRelated ds s t qs → StaysRelated (d ∷ ds) old (f x t) (g x ∷ qs)) →
      Agree (StaysRelated (d ∷ ds) old) (r >>= (λ x. checked ds s >>= (λ rest. Ok (f x rest)))) ((r >>= (λ x. Ok (g x))) >>= (λ q. source.checked ds ps >>= (λ qs. Ok (q ∷ qs))))
  with_first (Ok x) f g old k = agree-then (StaysRelated ds s) (StaysRelated (d ∷ ds) old) (checked ds s) (source.checked ds ps) (λ rest. Ok (f x rest)) (λ qs. Ok (g x ∷ qs)) h (k x)
  with_first (Err t) f g old k = refl

pub same-checks : (ds : List Dim) (s : Selection) (ps : List Pick) → Selects ds s ps → Agree (StaysRelated ds s) (checked ds s) (source.checked ds ps)
same-checks [] complete [] h = (tt, refl)
same-checks (d ∷ ds) complete [] h = (tt, refl)
same-checks (d ∷ ds) (one i s) (pick.One j ∷ ps) h =
    subst (λ k. Agree (StaysRelated (d ∷ ds) (one i s)) (checked (d ∷ ds) (one i s)) (source.checked (d ∷ ds) (pick.One k ∷ ps))) h.0
    (with_first d ds s ps (same-checks ds s ps h.1) (checked_subscript d i) one pick.One (one i s) (λ x t qs g. ((refl, g.0), g.1)))
same-checks (d ∷ ds) (range t s) (pick.Range u ∷ ps) h =
    subst (λ k. Agree (StaysRelated (d ∷ ds) (range t s)) (checked (d ∷ ds) (range t s)) (source.checked (d ∷ ds) (pick.Range k ∷ ps))) h.0
    (with_first d ds s ps (same-checks ds s ps h.1) (checked_triplet d t) range pick.Range (range t s) (λ x v qs g. ((refl, g.0), ap suc g.1)))
same-checks (d ∷ ds) (listed n xs s) (pick.Vector t ∷ ps) h =
    with_first d ds s ps (same-checks ds s ps h.1) (let r : Staged ℕ = Ok n in r) (λ _. listed n xs) (λ _. pick.Vector t) (listed n xs s) (λ x v qs g. ((h.0, g.0), ap suc g.1))
same-checks (d ∷ ds) (through a inner s) (pick.Vector t ∷ ps) h =
    with_first d ds s ps (same-checks ds s ps h.1) (let r : Staged ArrayValue = Ok a in r) (λ _. through a inner) (λ _. pick.Vector t) (through a inner s) (λ x v qs g. ((h.0, g.0), ap suc g.1))
same-checks _ _ _ h = absurd h

pub agree-weaker : {A B : Type 0} (P Q : A → B → Type 0) (q : Staged A) (r : Staged B) → ((a : A) (b : B) → P a b → Q a b) → Agree P q r → Agree Q q r
agree-weaker P Q (Ok a) (Ok b) f h = f a b h
agree-weaker P Q (Err t) (Err u) f h = h
agree-weaker P Q (Ok a) (Err u) f h = absurd h
agree-weaker P Q (Err t) (Ok b) f h = absurd h
