-- The cells that a Join merges, one more at a time.
use Rattle.std.proofs.Common.{◌≡◌, ℕ, suc, ◌+◌, ◌-◌, ◌<◌, map, ap, ◌∙◌, arith, ℤ}
use Rattle.ws_base.specs.Numbers.{default_half}
use Rattle.ws_base.specs.declared.op.CallWord.{CallWord}
use Rattle.phase_ops.specs.Partials.{merge, merged}
use Rattle.phase_ops.specs.Phases.{Cells, cell_value, partial_cells}

abbrev pub merged_from : CallWord → Cells → ℕ → ℕ → ℕ → ℤ
merged_from k m first count at = merged default_half k (map (cell_value m) (partial_cells (first + (count - at)) at))

pub one_more : (k : CallWord) (m : Cells) (first count at : ℕ) (part : ℤ) → at < count → part ≡ merged_from k m first count at
    → merge default_half k (cell_value m (first + (count - 1 - at))) part ≡ merged_from k m first count (at + 1)
one_more k m first count at part h e =
    let i : first + (count - 1 - at) ≡ first + (count - (at + 1)) = omega (arith, h) in
    let j : first + (count - at) ≡ suc (first + (count - (at + 1))) = omega (arith, h) in
    let n : suc at ≡ at + 1 = omega arith in
    (λ x. merge default_half k (cell_value m (i x)) ((e ∙ ap (λ (y : ℕ). merged default_half k (map (cell_value m) (partial_cells y at))) j) x))
    ∙ ap (λ (y : ℕ). merged default_half k (map (cell_value m) (partial_cells (first + (count - (at + 1))) y))) n
