use Rattle.std.proofs.Common.{◌≡◌, ◌≤◌, ◌*ℤ◌, ℤ, unsigned_abs, to_z, of_z, w64, ap, ◌∙◌, arith, rules}
use Rattle.std.specs.Int.{w128}
use Rattle.std.proofs.lemmas.Int.{to_z-of_z, fits_signed_mul, fits_signed_from_abs}
use Rattle.ws_base.specs.Numbers.{exact, default_half}
use Rattle.value_ops.proofs.reductions.times.Goals as goal

held : (p v : ℤ) → unsigned_abs p ≤ 2147483649 → unsigned_abs v ≤ 9223372036854775808 → to_z w128 (of_z w128 (p *ℤ v)) ≡ p *ℤ v
held p v h k = to_z-of_z w128 (p *ℤ v) (fits_signed_mul w128 p v 2147483649 9223372036854775808 h k (omega arith))

pub returns-clause-same : goal.returns-clause-same
returns-clause-same c = λ r.
    let result : to_z w128 (of_z w128 c.clamped.result) ≡ c.clamped.result = to_z-of_z w128 c.clamped.result (fits_signed_from_abs w128 c.clamped.result (omega (arith, c.clamped.ensures.within))) in
    let product : to_z w128 (of_z w128 c.args.product) ≡ c.args.product = to_z-of_z w128 c.args.product c.ranges.product in
    let small : unsigned_abs c.args.value ≤ 9223372036854775808 = search rules in
    let operand : c.from.result ≡ c.args.value = c.from.ensures ∙ to_z-of_z w64 c.args.value c.ranges.value in
    let value : to_z w128 (of_z w128 c.from.result) ≡ c.args.value = rw operand (to_z-of_z w128 c.args.value (fits_signed_from_abs w128 c.args.value (omega (arith, small)))) in
    let e = c.clamped.ensures.same r in
    rw result (e ∙ ap (λ z. exact default_half (z *ℤ r)) (ap (λ z. to_z w128 (of_z w128 z)) (ap (λ z. z *ℤ to_z w128 (of_z w128 c.from.result)) product ∙ ap (λ z. c.args.product *ℤ z) value) ∙ held c.args.product c.args.value c.requires small))
