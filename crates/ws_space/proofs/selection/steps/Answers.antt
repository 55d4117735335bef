use Rattle.std.proofs.Common.{◌≡◌, ◌<◌, ◌^◌, ℤ, ◌+ℤ◌, ◌-ℤ◌, unsigned_abs, w64, to_z, of_z, arith}
use Rattle.std.proofs.lemmas.Int.{ints}
use Rattle.ws_space.proofs.Counts.{quotient_fits, divided}
use Rattle.ws_space.proofs.selection.steps.Goals as goal

abbrev wide : ℤ → ℤ
wide z = to_z w64 (of_z w64 z)

-- `u - l + s`, as the code has it
abbrev span : ℤ → ℤ → ℤ → ℤ
span u l s = wide (wide (wide u -ℤ wide l) +ℤ wide s)

pub nonzero_div-result : goal.nonzero_div-result
nonzero_div-result c =
    let small : unsigned_abs (span c.from.result c.from-2.result c.from-stride.result) < 2 ^ 63 = omega (arith, ints) in
    (omega (arith, ints), quotient_fits (span c.from.result c.from-2.result c.from-stride.result) (wide c.from-stride.result) small)

pub returns : goal.returns
returns c =
    let t = c.args.triplet.now in
    let small : unsigned_abs (span c.from.result c.from-2.result c.from-stride.result) < 2 ^ 63 = omega (arith, ints) in
    let whole : span c.from.result c.from-2.result c.from-stride.result ≡ t.u -ℤ t.l +ℤ t.s = omega (arith, ints) in
    let stride : wide c.from-stride.result ≡ t.s = omega (arith, ints) in
    divided (span c.from.result c.from-2.result c.from-stride.result) (wide c.from-stride.result) (t.u -ℤ t.l +ℤ t.s) t.s whole stride small
