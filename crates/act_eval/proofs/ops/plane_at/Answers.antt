use Rattle.std.proofs.lemmas.Int.{to_z-of_z}
use Rattle.act_eval.proofs.Addresses.{step_law, finish_law}
use Rattle.std.proofs.Common.{refl, ap, ◌∙◌, ◌≡◌, ℤ, pos, ◌+ℤ◌, ◌*ℤ◌, to_z, of_z}
use Rattle.std.specs.Int.{w64, int_wrap, cast_unsigned}
use Rattle.phase_ops.specs.Phases.{register}
use Rattle.act_eval.proofs.ops.plane_at.Goals as goal

pub returns : goal.returns
returns c =
    let p : ℤ = register c.args.registers.now c.args.first *ℤ c.args.near in
    let q : ℤ = register c.args.registers.now c.args.second *ℤ c.args.far in
    let total : ℤ = int_wrap w64 (c.args.base +ℤ (p +ℤ (q +ℤ pos 0))) in
    let b : to_z w64 (of_z w64 c.args.base) ≡ c.args.base = to_z-of_z w64 c.args.base c.ranges.base in
    let low : to_z w64 (of_z w64 c.get-low.result) ≡ register c.args.registers.now c.args.first = to_z-of_z w64 c.get-low.result (record { sfits = c.get-low.type_inv }) ∙ c.get-low.ensures in
    let high : to_z w64 (of_z w64 c.get-high.result) ≡ register c.args.registers.now c.args.second = to_z-of_z w64 c.get-high.result (record { sfits = c.get-high.type_inv }) ∙ c.get-high.ensures in
    let near : to_z w64 (of_z w64 c.args.near) ≡ c.args.near = to_z-of_z w64 c.args.near c.ranges.near in
    let far : to_z w64 (of_z w64 c.args.far) ≡ c.args.far = to_z-of_z w64 c.args.far c.ranges.far in
    let s : to_z w64 (of_z w64 c.plus_times-sum.result) ≡ c.plus_times-sum.result = to_z-of_z w64 c.plus_times-sum.result (record { sfits = c.plus_times-sum.type_inv }) in
    let a : to_z w64 (of_z w64 c.plus_times-all.result) ≡ c.plus_times-all.result = to_z-of_z w64 c.plus_times-all.result (record { sfits = c.plus_times-all.type_inv }) in
    let sum : c.plus_times-sum.result ≡ int_wrap w64 (c.args.base +ℤ int_wrap w64 p) = c.plus_times-sum.ensures ∙ (λ i. int_wrap w64 (b i +ℤ int_wrap w64 (low i *ℤ near i))) in
    let all : c.plus_times-all.result ≡ int_wrap w64 (c.plus_times-sum.result +ℤ int_wrap w64 q) = c.plus_times-all.ensures ∙ (λ i. int_wrap w64 (s i +ℤ int_wrap w64 (high i *ℤ far i))) in
    let first : int_wrap w64 (c.plus_times-sum.result +ℤ (q +ℤ pos 0)) ≡ total = ap (λ (z : ℤ). int_wrap w64 (z +ℤ (q +ℤ pos 0))) sum ∙ step_law c.args.base p (q +ℤ pos 0) total refl in
    c.cast_unsigned.ensures ∙ ap (λ (z : ℤ). cast_unsigned w64 z) a ∙ finish_law (c.args.base +ℤ (p +ℤ (q +ℤ pos 0))) c.plus_times-all.result (record { sfits = c.plus_times-all.type_inv })
    (ap (λ (z : ℤ). int_wrap w64 (z +ℤ pos 0)) all ∙ step_law c.plus_times-sum.result q (pos 0) total first) c.requires
