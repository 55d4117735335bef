use Rattle.std.proofs.Common.{◌≡◌, ◌<◌, ◌+◌, ◌*ℤ◌, ℕ, suc, ℤ, pos, List, ◌∷◌, length, drop, get_or, sym, ap, ◌∙◌, arith, add-one}
use Rattle.std.specs.Int.{w128}
use Rattle.std.proofs.lemmas.Int.{to_z-of_z, fits_signed_from_abs}
use Rattle.std.proofs.lemmas.Grind.{common_steps}
use Rattle.std.proofs.Math.Seq.{drop-cons}
use Rattle.ws_base.specs.Numbers.{exact, default_half, product_of}
use Rattle.value_ops.proofs.Associated.{*ℤ_assoc}
use Rattle.value_ops.proofs.reductions.product.Goals as goal

one_more : (p q v : ℤ) (values : List ℤ) (i : ℕ) → i < length values → v ≡ get_or values i (pos 0) → ((r : ℤ) → exact default_half (q *ℤ r) ≡ exact default_half (p *ℤ v *ℤ r)) →
    exact default_half (p *ℤ product_of (drop i values)) ≡ exact default_half (product_of values) → exact default_half (q *ℤ product_of (drop (i + 1) values)) ≡ exact default_half (product_of values)
one_more p q v values i h is same before =
    let rest : List ℤ = drop (i + 1) values in
    let next : drop (suc i) values ≡ rest = ap (λ k. drop k values) (sym (add-one i)) in
    let front : drop i values ≡ v ∷ rest = drop-cons values i (pos 0) h ∙ (ap (λ x. x ∷ drop (suc i) values) (sym is) ∙ ap (λ xs. v ∷ xs) next) in
    same (product_of rest) ∙ ap (exact default_half) (*ℤ_assoc p v (product_of rest)) ∙ ap (λ xs. exact default_half (p *ℤ product_of xs)) (sym front) ∙ before

pub loop-value-preserved : goal.loop-value-preserved
loop-value-preserved c =
    rw (to_z-of_z w128 c.times-product.result (fits_signed_from_abs w128 c.times-product.result (omega (arith, c.times-product.ensures.within)))) (record {
      small = c.times-product.ensures.within;
      same = one_more _ c.times-product.result _ c.args.values.now c.loop-value.value-index c.loop-value-test.true (grind (arith, to_z-of_z, common_steps))
          c.times-product.ensures.same c.loop-value.invariant.same;
    })
