-- A subscript within a dimension is the lower bound and a distance below the extent.
use Rattle.std.proofs.Common.{◌≡◌, ℕ, ◌<◌, ℤ, pos, negsuc, ◌+ℤ◌, ◌-ℤ◌, ◌≤ℤ◌, Bool, true, false, ◌&&◌, refl, arith}
use Rattle.std.specs.Prelude.{int_le}
use Rattle.std.proofs.lemmas.Int.{ints}
use Rattle.ws_space.specs.declared.shape.Dim.{Dim}
use Rattle.ws_space.specs.Shapes.{natural, upper, within, distance}

pub distance_of_sum : (a : ℤ) (r : ℕ) → distance a (a +ℤ pos r) ≡ r
distance_of_sum a r = let e : (a +ℤ pos r) -ℤ a ≡ pos r = omega (arith, ints) in rw e refl

pos_natural : (z : ℤ) → pos 0 ≤ℤ z → pos (natural z) ≡ z
pos_natural (pos n) h = refl
pos_natural (negsuc n) h = let f : ⊥ = omega (arith, ints) in absurd f

pub sum_of_distance : (a i : ℤ) → a ≤ℤ i → a +ℤ pos (distance a i) ≡ i
sum_of_distance a i h =
    let e : pos (distance a i) ≡ i -ℤ a = pos_natural (i -ℤ a) (omega (arith, ints)) in
    omega (arith, ints)

pub le_true : (a b : ℤ) → a ≤ℤ b → int_le a b ≡ true
le_true a b h = grind (arith, ints)

pub true_le : (a b : ℤ) → int_le a b ≡ true → a ≤ℤ b
true_le a b h = grind (arith, ints)

both : (x y : Bool) → (x && y) ≡ true → (x ≡ true) × (y ≡ true)
both true y h = (refl, h)
both false y h = let f : ⊥ = cc in absurd f

pub within_from_sum : (d : Dim) (r : ℕ) → r < d.extent → within d (d.lower +ℤ pos r) ≡ true
within_from_sum d r h =
    rw (le_true d.lower (d.lower +ℤ pos r) (omega (arith, ints))) (le_true (d.lower +ℤ pos r) (upper d) (omega (arith, ints)))

pub within_bounds : (d : Dim) (i : ℤ) → within d i ≡ true → (d.lower ≤ℤ i) × (i ≤ℤ upper d)
within_bounds d i h =
    let parts = both (int_le d.lower i) (int_le i (upper d)) h in
    (true_le d.lower i parts.0, true_le i (upper d) parts.1)

pub distance_below : (d : Dim) (i : ℤ) → within d i ≡ true → distance d.lower i < d.extent
distance_below d i h =
    let parts = within_bounds d i h in
    let e : d.lower +ℤ pos (distance d.lower i) ≡ i = sum_of_distance d.lower i parts.0 in
    omega (arith, ints)
