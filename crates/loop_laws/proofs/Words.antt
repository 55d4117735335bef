-- Numbers that cells hold as words.
use Rattle.std.proofs.Common.{◌≡◌, ℕ, ◌<◌, ap, ◌∙◌, arith, slice_index, ℤ, pos, negsuc, SFits}
use Rattle.std.specs.Int.{w64, cast_signed}
use Rattle.std.proofs.lemmas.Int.{to_z-of_z}
use Rattle.phase_ops.specs.Phases.{Cells, cell_value, word}

pub pos_fits : (q : ℕ) → q < 9223372036854775808 → SFits w64 (pos q)
pos_fits q h = record { sfits = h }

pub negsuc_fits : (q : ℕ) → q < 65536 → SFits w64 (negsuc q)
negsuc_fits q h = record { sfits = omega (arith, h) }

pub read_back : (m : Cells) (c : ℕ) (z : ℤ) → SFits w64 z → slice_index m c ≡ word z → cell_value m c ≡ z
read_back m c z f e = ap (cast_signed w64) e ∙ to_z-of_z w64 z f
