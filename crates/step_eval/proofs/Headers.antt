-- What a header leaves: indexes that go from one default integer to another, and few combinations.
use Rattle.std.proofs.Common.{◌≡◌, ◌≢◌, refl, sym, ap, ◌∙◌, subst, ℕ, ◌<◌, ◌≤◌, ◌^◌, Bool, true, false, List, [], ◌∷◌, length, All, Option, Some, None, Ok, Err, IfOk, ℤ, pos, ◌+◌, arith}
use Rattle.std.specs.Prelude.{nat_lt, if◌then◌else◌}
use Rattle.std.proofs.lemmas.Bool.{ltb-false}
use Rattle.std.proofs.lemmas.List.Elements.{All-nil, All-cons, All-head, All-tail}
use Rattle.ws_base.specs.declared.fault.FaultName.TheVariants.{ZeroStride, TooLarge}
use Rattle.ws_base.specs.Numbers.{int_eq}
use Rattle.ws_base.specs.Outcomes.{Staged, trouble, ◌>>=◌}
use Rattle.ws_space.specs.declared.shape.Triplet.{Triplet}
use Rattle.ws_space.specs.declared.shape.TheConstants.{ELEMENT_LIMIT}
use Rattle.ws_space.specs.Shapes.{Extents, size, all_places}
use Rattle.ws_space.specs.Combinations.{lengths}
use Rattle.ws_space.specs.Masks.{chosen}
use Rattle.ws_space.specs.Sections.{with_stride, limited}
use Rattle.ws_tree.specs.declared.expr.Expr.{Expr}
use Rattle.ws_tree.specs.declared.stmt.Index.{Index}
use Rattle.array_meaning.specs.declared.world.World.{World}
use Rattle.array_meaning.specs.Stage1.{walk}
use Rattle.array_meaning.specs.Forall.{scalar, scalar_or, stepping, axes, header}
use Rattle.array_meaning.proofs.Chains.{after_each, after_fact}
use Rattle.term_eval.specs.Limits.{IsFew, IsInteger, IsSmall, IsSmallTerm, IsWorld}
use Rattle.term_eval.proofs.SmallWalk.{walk-small, value_of-integer}
use Rattle.step_eval.specs.Combinations.{AreCombinations, IsAxis}
use Rattle.step_eval.specs.Masked.{ArePlaces}
use Rattle.step_eval.specs.Small.{IsSmallIndex, IsSmallOption}
use Rattle.step_eval.proofs.Chosen.{chosen_below, chosen_places}
use Rattle.step_eval.proofs.Halted.{below_from}

-- ---- one index

not_zero : (s : ℤ) → int_eq s (pos 0) ≡ false → s ≢ pos 0
not_zero s h e = let f : true ≡ false = sym (ap (λ z. int_eq z (pos 0)) e) ∙ h in let g : ⊥ = cc in absurd g

stride_axis : (t : Triplet) (b : Bool) → int_eq t.s (pos 0) ≡ b → IsInteger t.l → IsInteger t.u → IfOk (if b then trouble ZeroStride else Ok t) IsAxis
stride_axis t true e first last = tt
stride_axis t false e first last = record { first = first; last = last; stride = not_zero t.s e }

scalar_integer : (w : World) → IsWorld w → (e : Expr) → IsSmall e → IfOk (scalar w e) IsInteger
scalar_integer w is e h = after_fact IsSmallTerm IsInteger (walk w e) _ (walk-small w is e h) (λ t k. value_of-integer t k)

stepping_axis : (w : World) → IsWorld w → (l u : Expr) (s : Option Expr) → IsSmall l → IsSmall u → IfOk (stepping w l u s) IsAxis
stepping_axis w is l u s hl hu =
    after_fact IsInteger IsAxis (scalar w l) _ (scalar_integer w is l hl) (λ l' first. after_fact IsInteger IsAxis (scalar w u) _ (scalar_integer w is u hu) (λ u' last.
    after_each IsAxis (scalar_or w (pos 1) s) _ (λ s'. stride_axis (record { l = l'; u = u'; s = s' }) (int_eq s' (pos 0)) refl first last)))

axes_axes : (w : World) → IsWorld w → (is : List Index) → All IsSmallIndex is → IfOk (axes w is) (All IsAxis)
axes_axes w good [] h = All-nil IsAxis
axes_axes w good (i ∷ is) h =
    let small : IsSmallIndex i = All-head IsSmallIndex i is h in
    after_fact IsAxis (All IsAxis) (stepping w i.l i.u i.s) _ (stepping_axis w good i.l i.u i.s small.0 small.1) (λ t axis.
    after_fact (All IsAxis) (All IsAxis) (axes w is) _ (axes_axes w good is (All-tail IsSmallIndex i is h)) (λ ts are. All-cons IsAxis t ts axis are))

-- ---- the header

limited_axes : (ts : List Triplet) (b : Bool) → nat_lt ELEMENT_LIMIT (size (lengths ts)) ≡ b → All IsAxis ts → IfOk (if b then trouble TooLarge else Ok ts) (λ us. IsFew (lengths us) × All IsAxis us)
limited_axes ts true e h = tt
limited_axes ts false e h = (ltb-false ELEMENT_LIMIT (size (lengths ts)) e, h)

header_is : (w : World) → IsWorld w → (is : List Index) → All IsSmallIndex is → IfOk (header w is) (λ us. IsFew (lengths us) × All IsAxis us)
header_is w good is h = after_fact (All IsAxis) _ (axes w is) _ (axes_axes w good is h) (λ ts are. limited_axes ts (nat_lt ELEMENT_LIMIT (size (lengths ts))) refl are)

pub header_axes : (w : World) (is : List Index) (ts : List Triplet) → header w is ≡ Ok ts → IsWorld w → All IsSmallIndex is → All IsAxis ts
header_axes w is ts e good h = (rw e at (header_is w good is h)).1

pub header_few : (w : World) (is : List Index) (ts : List Triplet) → header w is ≡ Ok ts → IsWorld w → All IsSmallIndex is → IsFew (lengths ts)
header_few w is ts e good h = (rw e at (header_is w good is h)).0

-- ---- places among all combinations

pub every_place_within : (ts : List Triplet) (e : Extents) (ps : List ℕ) → ps ≡ all_places e → e ≡ lengths ts → All IsAxis ts → length ps ≤ 2 ^ 31 → All (λ p. p < 2 ^ 31) ps → AreCombinations ts ps
every_place_within ts e ps is same h few below =
    let P : List ℕ → Type 0 = λ l. All (λ p. p < size (lengths ts)) l in
    record {
      axes = h;
      places = record { few = few; below = below };
      within = subst P (sym (is ∙ ap all_places same)) (below_from 0 (size (lengths ts)) (size (lengths ts)) (omega arith));
    }

pub chosen_combinations : (ts : List Triplet) (ps : List ℕ) (vs : List ℤ) (out : List ℕ) → out ≡ chosen true ps vs → AreCombinations ts ps → AreCombinations ts out
chosen_combinations ts ps vs out is h =
    let P : List ℕ → Type 0 = λ l. All (λ p. p < size (lengths ts)) l in
    record { axes = h.axes; places = chosen_places true ps vs out is h.places; within = subst P (sym is) (chosen_below (size (lengths ts)) true ps vs h.within) }
