-- The only member of a list, and the cell that an address names.
use Rattle.std.proofs.Common.{◌≡◌, inl, inr, ℕ, ◌+◌, [], ◌∷◌, arith, pos, ◌+ℤ◌, ◌*ℤ◌}
use Rattle.phase_ops.specs.Phases.{cell_of}
use Rattle.phase_ops.specs.Free.{In}

pub only : {A : Type 0} (x y : A) → In x (y ∷ []) → x ≡ y
only x y (inl e) = e
only x y (inr i) = elim i [ ]

-- the cell that an address names at the iteration i
pub address_is : (base i : ℕ) → cell_of (pos base +ℤ (pos i *ℤ pos 1 +ℤ pos 0)) ≡ base + i
address_is base i = omega arith
