use Rattle.std.proofs.lemmas.Int.{to_z-of_z}
use Rattle.act_eval.proofs.Addresses.{step_law, finish_law}
use Rattle.std.proofs.Common.{refl, ap, ◌∙◌, ◌≡◌, ℤ, pos, ◌+ℤ◌, ◌*ℤ◌, to_z, of_z}
use Rattle.std.specs.Int.{w64, int_wrap, cast_unsigned}
use Rattle.phase_ops.specs.Phases.{register}
use Rattle.act_eval.proofs.ops.line_at.Goals as goal

pub returns : goal.returns
returns c =
    let p : ℤ = register c.args.registers.now c.args.reg *ℤ c.args.step in
    let b : to_z w64 (of_z w64 c.args.base) ≡ c.args.base = to_z-of_z w64 c.args.base c.ranges.base in
    let r : to_z w64 (of_z w64 c.get.result) ≡ register c.args.registers.now c.args.reg = to_z-of_z w64 c.get.result (record { sfits = c.get.type_inv }) ∙ c.get.ensures in
    let s : to_z w64 (of_z w64 c.args.step) ≡ c.args.step = to_z-of_z w64 c.args.step c.ranges.step in
    let q : to_z w64 (of_z w64 c.plus_times.result) ≡ c.plus_times.result = to_z-of_z w64 c.plus_times.result (record { sfits = c.plus_times.type_inv }) in
    let is : c.plus_times.result ≡ int_wrap w64 (c.args.base +ℤ int_wrap w64 p) = c.plus_times.ensures ∙ (λ i. int_wrap w64 (b i +ℤ int_wrap w64 (r i *ℤ s i))) in
    c.cast_unsigned.ensures ∙ ap (λ (z : ℤ). cast_unsigned w64 z) q ∙ finish_law (c.args.base +ℤ (p +ℤ pos 0)) c.plus_times.result (record { sfits = c.plus_times.type_inv })
    (ap (λ (z : ℤ). int_wrap w64 (z +ℤ pos 0)) is ∙ step_law c.args.base p (pos 0) (int_wrap w64 (c.args.base +ℤ (p +ℤ pos 0))) refl) c.requires
