-- The place of an element, dimension by dimension.
use Rattle.std.proofs.Common.{◌≡◌, refl, sym, ap, subst, ◌∙◌, ℕ, ◌+◌, ◌-◌, ◌*◌, ◌<◌, ◌≤◌, Bool, true, false, List, ◌∷◌, length, take, drop, get_or, Err, ℤ, pos, ◌-ℤ◌, arith}
use Rattle.ws_base.specs.declared.fault.FaultName.{FaultName}
use Rattle.ws_space.specs.declared.shape.Dim.{Dim}
use Rattle.ws_space.specs.Shapes.{extents_of, size, natural, within, distance, place}
use Rattle.ws_space.proofs.Distances.{distance_below}
use Rattle.ws_space.proofs.Whole.{plane_below, factor_below}
use Rattle.term_eval.specs.Limits.{IsFew}
use Rattle.term_eval.proofs.Front.{parts_of}

-- a subscript at a distance past the last one
outside_at : (d : Dim) (i : ℤ) (r : ℕ) (c : Bool) → pos r ≡ i -ℤ d.lower → d.extent ≤ r → within d i ≡ c → c ≡ false
outside_at d i r true e h w = let far : distance d.lower i ≡ r = ap natural (sym e) in absurd (omega (arith, distance_below d i w, far, h))
outside_at d i r false e h w = refl

pub outside : (d : Dim) (i : ℤ) (r : ℕ) → pos r ≡ i -ℤ d.lower → d.extent ≤ r → within d i ≡ false
outside d i r e h = outside_at d i r (within d i) e h refl

abbrev pub tail : {A : Type 0} → List A → List A
tail xs = take (length xs - 1) (drop 1 xs)

few-rest-of : (d : Dim) (ds : List Dim) (i : ℤ) → within d i ≡ true → IsFew (extents_of (d ∷ ds)) → IsFew (extents_of ds)
few-rest-of d ds i h few = factor_below d.extent (size (extents_of ds)) 65536 (omega (arith, distance_below d i h)) few

place-err-of : (d : Dim) (ds : List Dim) (i : ℤ) (is : List ℤ) (n : FaultName) → within d i ≡ true → place ds is ≡ Err n → place (d ∷ ds) (i ∷ is) ≡ Err n
place-err-of d ds i is n h e = rw (h, e) refl

module _ (ds : List Dim) (other d : Dim) (some : 1 ≤ length ds) (e : d ≡ get_or ds 0 other) where
  dims_are : ds ≡ d ∷ tail ds
  dims_are = parts_of ds other some ∙ ap (λ x. x ∷ tail ds) (sym e)

  pub few-rest : (i : ℤ) → within d i ≡ true → IsFew (extents_of ds) → IsFew (extents_of (tail ds))
  few-rest i h few = few-rest-of d (tail ds) i h (subst (λ l. IsFew (extents_of l)) dims_are few)

  pub place-below : (i : ℤ) (p far : ℕ) → (within d i ≡ true) × (far ≡ distance d.lower i) → p < size (extents_of (tail ds)) → far + d.extent * p < size (extents_of ds)
  place-below i p far h low =
      let same : size (extents_of ds) ≡ d.extent * size (extents_of (tail ds)) = ap (λ l. size (extents_of l)) dims_are in
      let own : far < d.extent = omega (arith, distance_below d i h.0, h.1) in
      omega (arith, same, plane_below d.extent (size (extents_of (tail ds))) far p own low)

  module _ (is : List ℤ) (i : ℤ) (some_subscripts : 1 ≤ length is) (f : i ≡ get_or is 0 (pos 0)) where
    both_are : place ds is ≡ place (d ∷ tail ds) (i ∷ tail is)
    both_are = ap (λ l. place l is) dims_are ∙ ap (place (d ∷ tail ds)) (parts_of is (pos 0) some_subscripts ∙ ap (λ j. j ∷ tail is) (sym f))

    pub place-err : (n : FaultName) → within d i ≡ true → Err n ≡ place (tail ds) (tail is) → Err n ≡ place ds is
    place-err n h r = sym (both_are ∙ place-err-of d (tail ds) i (tail is) n h (sym r))
