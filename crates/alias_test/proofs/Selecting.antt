-- The elements of designators that are Disjoint or Same.
use Rattle.std.proofs.Common.{◌≡◌, refl, sym, ap, ◌∙◌, subst, ℕ, suc, Bool, true, false, not, ◌||◌, ◌==◌, if◌then◌else◌, List, [], ◌∷◌, map, get_or, ℤ, inl, inr, arith, eq-eqb, eqb-true}
use Rattle.std.specs.List.{Contains, flat_map}
use Rattle.std.proofs.lemmas.Bool.{false≢true, and_parts, or_cases, not-true}
use Rattle.std.proofs.lemmas.List.Elements.{Contains-append_cases, Contains-append_right}
use Rattle.ws_space.specs.Subscripts.{selected}
use Rattle.alias_test.specs.declared.designator.Relation.TheVariants.{Same, Disjoint, May}
use Rattle.alias_test.specs.declared.designator.Form.{Form}
use Rattle.alias_test.specs.declared.designator.Form.TheVariants.{Index, Range}
use Rattle.alias_test.specs.declared.designator.Designator.{Designator}
use Rattle.alias_test.specs.Relations.{constants_of, share_member, apart, alike, some_apart, all_alike, relation}
use Rattle.alias_test.specs.Elements.{Valuation, AgreesWith, subscripts_in, elements_from}
use Rattle.alias_test.specs.Laws.{DisjointHaveNoElementInCommon, SameHaveTheSameElements}
use Rattle.alias_test.proofs.Numbers.{never, Decides-share_member}
use Rattle.alias_test.proofs.Alike.{alike_subscripts}

-- ---- members of lists that are made of others

none : {X : Type 0} (x : X) → Contains [] x → ⊥
none x h = omega (arith, h.1)

first : {X : Type 0} (x : X) (xs : List X) → Contains (x ∷ xs) x
first x xs = (0, omega arith, refl)

only : {X : Type 0} (x y : X) → Contains (x ∷ []) y → x ≡ y
only x y h = let place : h.0 ≡ 0 = omega (arith, h.1) in subst (λ (n : ℕ). get_or (x ∷ []) n y ≡ y) place h.2

Contains-flat_map : {X Y : Type 0} (h : X → List Y) (xs : List X) (y : Y) → Contains (flat_map h xs) y → (x : X) × Contains xs x × Contains (h x) y
Contains-flat_map h [] y c = absurd (none y c)
Contains-flat_map h (x ∷ xs) y c = elim (Contains-append_cases (h x) (flat_map h xs) y c) [
  | inl here ↦ (x, first x xs, here)
  | inr later ↦ let r = Contains-flat_map h xs y later in (r.0, Contains-append_right (x ∷ []) xs r.0 r.1, r.2)
]

Contains-map : {X Y : Type 0} (g : X → Y) (xs : List X) (y : Y) → Contains (map g xs) y → (x : X) × Contains xs x × (g x ≡ y)
Contains-map g [] y c = absurd (none y c)
Contains-map g (x ∷ xs) y c = elim (Contains-append_cases (g x ∷ []) (map g xs) y c) [
  | inl here ↦ (x, first x xs, only (g x) y here)
  | inr later ↦ let r = Contains-map g xs y later in (r.0, Contains-append_right (x ∷ []) xs r.0 r.1, r.2)
]

-- ---- the subscripts of an element, dimension by dimension

abbrev HasElement : Valuation → ℕ → List Form → List ℤ → Type 0
HasElement v dim [] [] = Unit {0}
HasElement v dim [] (i ∷ is) = ⊥
HasElement v dim (f ∷ fs) [] = ⊥
HasElement v dim (f ∷ fs) (i ∷ is) = Contains (subscripts_in v dim f) i × HasElement v (suc dim) fs is

has_element : (v : Valuation) (dim : ℕ) (fs : List Form) (is : List ℤ) → Contains (elements_from v dim fs) is → HasElement v dim fs is
has_element v dim [] is c = subst (HasElement v dim []) (only [] is c) tt
has_element v dim (f ∷ fs) is c =
    let outer = Contains-flat_map (λ js. map (λ i. i ∷ js) (subscripts_in v dim f)) (elements_from v (suc dim) fs) is c in
    let inner = Contains-map (λ i. i ∷ outer.0) (subscripts_in v dim f) is outer.2 in
    subst (HasElement v dim (f ∷ fs)) inner.2 (inner.1, has_element v (suc dim) fs outer.0 outer.1)

-- ---- Disjoint

apart_lists : (is js : List ℤ) (i : ℤ) → not (share_member is js) ≡ true → Contains is i → Contains js i → ⊥
apart_lists is js i h a b = false≢true (sym (not-true (share_member is js) h) ∙ (Decides-share_member is js).1 (i, a, b))

apart_subscripts : (v w : Valuation) (dim : ℕ) (f g : Form) (i : ℤ) → apart f g ≡ true → Contains (subscripts_in v dim f) i → Contains (subscripts_in w dim g) i → ⊥
unfolding constants_of
apart_subscripts v w dim (Index m) (Index n) i h a b = apart_lists (m ∷ []) (n ∷ []) i h a b
apart_subscripts v w dim (Index m) (Range u) i h a b = apart_lists (m ∷ []) (selected u) i h a b
apart_subscripts v w dim (Range t) (Index n) i h a b = apart_lists (selected t) (n ∷ []) i h a b
apart_subscripts v w dim (Range t) (Range u) i h a b = apart_lists (selected t) (selected u) i h a b
apart_subscripts v w dim _ _ i h a b = never h

no_element : (v w : Valuation) (dim : ℕ) (fs gs : List Form) (is : List ℤ) → some_apart fs gs ≡ true → HasElement v dim fs is → HasElement w dim gs is → ⊥
no_element v w dim [] gs is h a b = never h
no_element v w dim (f ∷ fs) [] is h a b = never h
no_element v w dim (f ∷ fs) (g ∷ gs) [] h a b = a
no_element v w dim (f ∷ fs) (g ∷ gs) (i ∷ is) h a b = elim (or_cases (apart f g) (some_apart fs gs) h) [
  | inl here ↦ apart_subscripts v w dim f g i here a.0 b.0
  | inr later ↦ no_element v w (suc dim) fs gs is later a.1 b.1
]

where_disjoint : (n s t : Bool) → (if not n || s then Disjoint else (if t then Same else May)) ≡ Disjoint → n ≡ true → s ≡ true
where_disjoint true true t h e = refl
where_disjoint true false true h e = cc
where_disjoint true false false h e = cc
where_disjoint false s t h e = never e

some_dimension : (a b : Designator) → relation a b ≡ Disjoint → a.var ≡ b.var → some_apart a.forms b.forms ≡ true
unfolding relation
some_dimension a b h one = where_disjoint (a.var == b.var) (some_apart a.forms b.forms) (all_alike a.forms b.forms) h (eq-eqb a.var b.var one)

pub DisjointHaveNoElementInCommon-all : (a b : Designator) → DisjointHaveNoElementInCommon a b
DisjointHaveNoElementInCommon-all a b h one v w is ca cb = no_element v w 1 a.forms b.forms is (some_dimension a b h one) (has_element v 1 a.forms is ca) (has_element w 1 b.forms is cb)

-- ---- Same

same_elements : (v w : Valuation) (dim : ℕ) (fs gs : List Form) → AgreesWith v w → all_alike fs gs ≡ true → elements_from v dim fs ≡ elements_from w dim gs
same_elements v w dim [] [] agree h = refl
same_elements v w dim [] (g ∷ gs) agree h = never h
same_elements v w dim (f ∷ fs) [] agree h = never h
same_elements v w dim (f ∷ fs) (g ∷ gs) agree h =
    let both = and_parts (alike f g) (all_alike fs gs) h in
    ap (λ l. flat_map (λ is. map (λ i. i ∷ is) l) (elements_from v (suc dim) fs)) (alike_subscripts v w dim f g agree both.0)
    ∙ ap (flat_map (λ is. map (λ i. i ∷ is) (subscripts_in w dim g))) (same_elements v w (suc dim) fs gs agree both.1)

where_same : (n s t : Bool) → (if not n || s then Disjoint else (if t then Same else May)) ≡ Same → (n ≡ true) × (t ≡ true)
where_same true true t h = cc
where_same true false true h = (refl, refl)
where_same true false false h = cc
where_same false s t h = cc

pub SameHaveTheSameElements-all : (a b : Designator) → SameHaveTheSameElements a b
unfolding relation
SameHaveTheSameElements-all a b h =
    let both = where_same (a.var == b.var) (some_apart a.forms b.forms) (all_alike a.forms b.forms) h in
    (eqb-true a.var b.var both.0, λ v w agree. same_elements v w 1 a.forms b.forms agree both.1)
