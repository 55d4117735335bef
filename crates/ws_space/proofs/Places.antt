-- Places and lists of subscripts undo one another.
use Rattle.std.proofs.Common.{◌≡◌, ℕ, zero, suc, ◌+◌, ◌*◌, ◌/◌, ◌%◌, ◌<◌, ℤ, pos, ◌+ℤ◌, Bool, true, false, List, [], ◌∷◌, ◌++◌, map, take, length, get_or, Ok, Err, Some, Result, if◌then◌else◌, refl, sym, ap, ◌∙◌, arith}
use Rattle.std.specs.List.{Contains, flat_map, slice_get}
use Rattle.std.proofs.lemmas.List.{length-map, length-append, length-take-le, get_or-map}
use Rattle.std.proofs.lemmas.List.Concat.{get_or-flat_map}
use Rattle.std.proofs.lemmas.Option.{slice_get-get_or, slice_get_read, get_or_from_slice_get, slice_get_within}
use Rattle.std.proofs.lemmas.Nat.{mod_below, div_below, div-add-mod', div-mul-add, mod-mul-add, mul-add-lt}
use Rattle.std.proofs.Math.Nat.{mul_comm}
use Rattle.ws_base.specs.declared.fault.FaultName.{FaultName}
use Rattle.ws_base.specs.declared.fault.FaultName.TheVariants.{Bounds}
use Rattle.ws_base.specs.Outcomes.{◌>>=◌}
use Rattle.ws_space.specs.declared.shape.Dim.{Dim}
use Rattle.ws_space.specs.Shapes.{extents_of, size, within, distance, place, places_from}
use Rattle.ws_space.specs.Subscripts.{subscripts, subscript_lists}
use Rattle.ws_space.proofs.Distances.{distance_of_sum, sum_of_distance, within_from_sum, within_bounds, distance_below}

pub length-places_from : (k n : ℕ) → length (places_from k n) ≡ n
length-places_from k zero = refl
length-places_from k (suc n) = ap suc (length-places_from (suc k) n)

pub get_or-places_from : (k n i d : ℕ) → i < n → get_or (places_from k n) i d ≡ k + i
get_or-places_from k zero i d h = absurd (omega arith)
get_or-places_from k (suc n) zero d h = omega arith
get_or-places_from k (suc n) (suc i) d h =
    let e : get_or (places_from (suc k) n) i d ≡ suc k + i = get_or-places_from (suc k) n i d (omega arith) in
    omega arith

-- lists of one length, joined end to end
module _ {X A : Type 0} (f : X → List A) (n : ℕ) (same : (x : X) → length (f x) ≡ n) where
  length-rows : (xs : List X) → length (flat_map f xs) ≡ length xs * n
  length-rows [] = omega arith
  length-rows (x ∷ xs) =
      let one : length (f x) ≡ n = same x in
      let more : length (flat_map f xs) ≡ length xs * n = length-rows xs in
      let all : length (f x ++ flat_map f xs) ≡ length (f x) + length (flat_map f xs) = length-append (f x) (flat_map f xs) in
      omega arith

  get_or-rows : (xs : List X) (q r : ℕ) (e : X) (d : A) → q < length xs → r < n → get_or (flat_map f xs) (q * n + r) d ≡ get_or (f (get_or xs q e)) r d
  get_or-rows xs q r e d hq hr =
      let row : length (f (get_or xs q e)) ≡ n = same (get_or xs q e) in
      let at : get_or (flat_map f xs) (length (flat_map f (take q xs)) + r) d ≡ get_or (f (get_or xs q e)) r d = get_or-flat_map f xs q r e d hq (omega arith) in
      let before : length (flat_map f (take q xs)) ≡ q * n = length-rows (take q xs) ∙ ap (λ k. k * n) (length-take-le q xs (omega arith)) in
      rw before at at

abbrev pub row : Dim → List ℤ → List (List ℤ)
row d is = map (λ i. i ∷ is) (subscripts d)

length-row : (d : Dim) (is : List ℤ) → length (row d is) ≡ d.extent
length-row d is = simp (length-map, length-places_from)

get_or-row : (d : Dim) (is : List ℤ) (r : ℕ) (x : List ℤ) → r < d.extent → get_or (row d is) r x ≡ (d.lower +ℤ pos r) ∷ is
get_or-row d is r x h =
    let f : ℕ → ℤ = λ k. d.lower +ℤ pos k in
    let n : length (places_from 0 d.extent) ≡ d.extent = length-places_from 0 d.extent in
    let m : length (subscripts d) ≡ d.extent = length-map (places_from 0 d.extent) f ∙ n in
    let at : get_or (places_from 0 d.extent) r 0 ≡ 0 + r = get_or-places_from 0 d.extent r 0 h in
    get_or-map (λ i. i ∷ is) (subscripts d) r (pos 0) x (omega arith) ∙ ap (λ i. i ∷ is) (get_or-map f (places_from 0 d.extent) r 0 (pos 0) (omega arith) ∙ ap f (at ∙ omega arith))

pub length-subscript_lists : (ds : List Dim) → length (subscript_lists ds) ≡ size (extents_of ds)
length-subscript_lists [] = refl
length-subscript_lists (d ∷ ds) =
    let rows : length (subscript_lists (d ∷ ds)) ≡ length (subscript_lists ds) * d.extent = length-rows (row d) d.extent (length-row d) (subscript_lists ds) in
    rows ∙ ap (λ k. k * d.extent) (length-subscript_lists ds) ∙ mul_comm (size (extents_of ds)) d.extent

-- the subscripts of the element at a place
abbrev pub element_at : List Dim → ℕ → List ℤ
element_at [] p = []
element_at (d ∷ ds) p = (d.lower +ℤ pos (p % d.extent)) ∷ element_at ds (p / d.extent)

positive : (n m p : ℕ) → p < n * m → 0 < n
positive zero m p h = absurd (omega arith)
positive (suc n) m p h = omega arith

pub get_or-subscript_lists : (ds : List Dim) (p : ℕ) (x : List ℤ) → p < size (extents_of ds) → get_or (subscript_lists ds) p x ≡ element_at ds p
get_or-subscript_lists [] zero x h = refl
get_or-subscript_lists [] (suc p) x h = absurd (omega arith)
get_or-subscript_lists (d ∷ ds) p x h =
    let some : 0 < d.extent = positive d.extent (size (extents_of ds)) p h in
    let turned : p < size (extents_of ds) * d.extent = rw (mul_comm (size (extents_of ds)) d.extent) h in
    let q : p / d.extent < size (extents_of ds) = div_below p d.extent (size (extents_of ds)) some turned in
    let r : p % d.extent < d.extent = mod_below p d.extent some in
    let n : length (subscript_lists ds) ≡ size (extents_of ds) = length-subscript_lists ds in
    let split : p / d.extent * d.extent + p % d.extent ≡ p = div-add-mod' p d.extent in
    let at : get_or (subscript_lists (d ∷ ds)) (p / d.extent * d.extent + p % d.extent) x ≡ get_or (row d (get_or (subscript_lists ds) (p / d.extent) [])) (p % d.extent) x = get_or-rows (row d) d.extent (length-row d) (subscript_lists ds) (p / d.extent) (p % d.extent) [] x (omega arith) r in
    ap (λ k. get_or (subscript_lists (d ∷ ds)) k x) (sym split) ∙ at ∙ get_or-row d (get_or (subscript_lists ds) (p / d.extent) []) (p % d.extent) x r ∙ ap (λ is. (d.lower +ℤ pos (p % d.extent)) ∷ is) (get_or-subscript_lists ds (p / d.extent) [] q)

pub place-element_at : (ds : List Dim) (p : ℕ) → p < size (extents_of ds) → place ds (element_at ds p) ≡ Ok p
place-element_at [] zero h = refl
place-element_at [] (suc p) h = absurd (omega arith)
place-element_at (d ∷ ds) p h =
    let some : 0 < d.extent = positive d.extent (size (extents_of ds)) p h in
    let turned : p < size (extents_of ds) * d.extent = rw (mul_comm (size (extents_of ds)) d.extent) h in
    let q : p / d.extent < size (extents_of ds) = div_below p d.extent (size (extents_of ds)) some turned in
    let r : p % d.extent < d.extent = mod_below p d.extent some in
    let split : p / d.extent * d.extent + p % d.extent ≡ p = div-add-mod' p d.extent in
    let turned' : d.extent * (p / d.extent) ≡ p / d.extent * d.extent = mul_comm d.extent (p / d.extent) in
    let whole : p % d.extent + d.extent * (p / d.extent) ≡ p = omega arith in
    rw (within_from_sum d (p % d.extent) r, place-element_at ds (p / d.extent) q, distance_of_sum d.lower (p % d.extent), whole) refl

-- what is known where a sum of outcomes succeeds
placed_tail : (r : Result ℕ FaultName) (a n p : ℕ) → (r >>= (λ q. Ok (a + n * q))) ≡ Ok p → (q : ℕ) × (r ≡ Ok q) × (a + n * q ≡ p)
placed_tail (Ok q) a n p h = (q, refl, cc)
placed_tail (Err e) a n p h = let f : ⊥ = cc in absurd f

pub record IsElement (ds : List Dim) (is : List ℤ) (p : ℕ) : Type 0 where
  pub below : p < size (extents_of ds)
  pub subscripts_are : element_at ds p ≡ is

placed_step : (d : Dim) (ds : List Dim) (i : ℤ) (is : List ℤ) (p q : ℕ) → within d i ≡ true → IsElement ds is q → distance d.lower i + d.extent * q ≡ p → IsElement (d ∷ ds) (i ∷ is) p
placed_step d ds i is p q inside rest e =
    let low = within_bounds d i inside in
    let r : distance d.lower i < d.extent = distance_below d i inside in
    let back : d.lower +ℤ pos (distance d.lower i) ≡ i = sum_of_distance d.lower i low.0 in
    let turned : d.extent * q ≡ q * d.extent = mul_comm d.extent q in
    let p_is : p ≡ q * d.extent + distance d.lower i = omega arith in
    let high : q * d.extent + distance d.lower i < d.extent * size (extents_of ds) = mul-add-lt q d.extent (distance d.lower i) (size (extents_of ds)) rest.below r in
    let quotient : p / d.extent ≡ q = rw p_is (div-mul-add q d.extent (distance d.lower i) r) in
    let remainder : p % d.extent ≡ distance d.lower i = rw p_is (mod-mul-add q d.extent (distance d.lower i) r) in
    record {
      below = rw p_is high;
      subscripts_are = rw (quotient, remainder, back, rest.subscripts_are) refl;
    }

from_inside : (d : Dim) (ds : List Dim) (i : ℤ) (is : List ℤ) (p : ℕ) → ((q : ℕ) → place ds is ≡ Ok q → IsElement ds is q) → (b : Bool) → within d i ≡ b → (if b then place ds is >>= (λ q. Ok (distance d.lower i + d.extent * q)) else Err Bounds) ≡ Ok p → IsElement (d ∷ ds) (i ∷ is) p
from_inside d ds i is p rest true inside e =
    let t = placed_tail (place ds is) (distance d.lower i) d.extent p e in
    placed_step d ds i is p t.0 inside (rest t.0 t.1) t.2
from_inside d ds i is p rest false inside e = let f : ⊥ = cc in absurd f

pub IsElement-from_place : (ds : List Dim) (is : List ℤ) (p : ℕ) → length is ≡ length ds → place ds is ≡ Ok p → IsElement ds is p
IsElement-from_place [] [] p n h = let e : 0 ≡ p = cc in record { below = omega arith; subscripts_are = refl }
IsElement-from_place [] (i ∷ is) p n h = absurd (omega arith)
IsElement-from_place (d ∷ ds) [] p n h = absurd (omega arith)
IsElement-from_place (d ∷ ds) (i ∷ is) p n h = from_inside d ds i is p (λ q. IsElement-from_place ds is q (omega arith)) (within d i) refl h

-- The place of a list of subscripts is where it stands among all.
pub slice_get-place : (ds : List Dim) (is : List ℤ) (p : ℕ) → length is ≡ length ds → place ds is ≡ Ok p → slice_get (subscript_lists ds) p ≡ Some is
slice_get-place ds is p n h =
    let e = IsElement-from_place ds is p n h in
    let m : length (subscript_lists ds) ≡ size (extents_of ds) = length-subscript_lists ds in
    let low : p < size (extents_of ds) = e.below in
    slice_get-get_or (subscript_lists ds) p [] (omega arith) ∙ ap Some (get_or-subscript_lists ds p [] low ∙ e.subscripts_are)

pub place-slice_get : (ds : List Dim) (is : List ℤ) (p : ℕ) → slice_get (subscript_lists ds) p ≡ Some is → place ds is ≡ Ok p
place-slice_get ds is p h =
    let low : p < length (subscript_lists ds) = slice_get_within (subscript_lists ds) p is h in
    let m : length (subscript_lists ds) ≡ size (extents_of ds) = length-subscript_lists ds in
    let below : p < size (extents_of ds) = omega arith in
    let at : is ≡ element_at ds p = sym (get_or_from_slice_get (subscript_lists ds) p is [] h) ∙ get_or-subscript_lists ds p [] below in
    rw at (place-element_at ds p below)

pub absent : (ds : List Dim) (is : List ℤ) → place ds is ≡ Err Bounds → Contains (subscript_lists ds) is → ⊥
absent ds is h has =
    let at : slice_get (subscript_lists ds) has.0 ≡ Some is = slice_get_read (subscript_lists ds) (length (subscript_lists ds)) has.0 is refl has.1 (sym has.2) in
    let e : place ds is ≡ Ok has.0 = place-slice_get ds is has.0 at in
    cc
