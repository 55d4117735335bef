use Rattle.std.proofs.lemmas.Int.{to_z-of_z}
use Rattle.phase_ops.specs.declared.phase.Micro.{Micro}
use Rattle.phase_ops.proofs.Members.{in_left, in_right}
use Rattle.std.proofs.Common.{inl, inr, sym, refl, subst, ap, ◌∙◌, ◌≡◌, ℕ, [], ◌∷◌, ℤ, pos, ◌<ℤ◌, to_z, of_z}
use Rattle.std.specs.Int.{w64}
use Rattle.phase_ops.specs.Phases.{Cells, source, source_cells, address, address_cells, looks, divisors}
use Rattle.phase_ops.specs.Free.{In}
use Rattle.act_eval.specs.Sites.{View, Small, named_cells}
use Rattle.act_eval.proofs.ops.turn_at.Goals as goal

pub source_at-by-requires-clause-loads : goal.source_at-by-requires-clause-loads
source_at-by-requires-clause-loads g c = λ n h. c.requires.loads n (subst (λ (z : Micro). In n (looks (g.S.Site.view c.args.site.now c.args.hand.now).cells c.args.registers.now z)) (sym c.in-Digit.is) (in_left n (source_cells c.in-Digit.by) (source_cells c.in-Digit.modulus) h))

pub source_at-modulus-requires-clause-loads : goal.source_at-modulus-requires-clause-loads
source_at-modulus-requires-clause-loads g c = λ n h. subst (λ (v : View). In n v.may × Small n) (sym c.source_at-by.ensures.same)
    (c.requires.loads n (subst (λ (z : Micro). In n (looks (g.S.Site.view c.args.site.now c.args.hand.now).cells c.args.registers.now z)) (sym c.in-Digit.is) (in_right n (source_cells c.in-Digit.by) (source_cells c.in-Digit.modulus) h)))

pub digit-requires : goal.digit-requires
digit-requires g c =
    let m : Cells = (g.S.Site.view c.args.site.now c.args.hand.now).cells in
    let by : to_z w64 (of_z w64 c.source_at-by.result) ≡ source m c.in-Digit.by = to_z-of_z w64 c.source_at-by.result (record { sfits = c.source_at-by.type_inv }) ∙ c.source_at-by.ensures.value in
    let modulus : to_z w64 (of_z w64 c.source_at-modulus.result) ≡ source m c.in-Digit.modulus = to_z-of_z w64 c.source_at-modulus.result (record { sfits = c.source_at-modulus.type_inv }) ∙ c.source_at-modulus.ensures.value ∙ ap (λ (v : View). source v.cells c.in-Digit.modulus) c.source_at-by.ensures.same in (
      subst (λ (z : ℤ). pos 0 <ℤ z) (sym by) (c.requires.positive (source m c.in-Digit.by) (subst (λ (z : Micro). In (source m c.in-Digit.by) (divisors m z)) (sym c.in-Digit.is) (inl refl))),
      subst (λ (z : ℤ). pos 0 <ℤ z) (sym modulus) (c.requires.positive (source m c.in-Digit.modulus) (subst (λ (z : Micro). In (source m c.in-Digit.modulus) (divisors m z)) (sym c.in-Digit.is) (inr (inl refl)))),
    )

pub address_at-cell-requires-clause-loads : goal.address_at-cell-requires-clause-loads
address_at-cell-requires-clause-loads g c = λ n h. c.requires.loads n (subst (λ (z : Micro). In n (looks (g.S.Site.view c.args.site.now c.args.hand.now).cells c.args.registers.now z)) (sym c.in-Load.is) (in_left n (address_cells c.in-Load.from) (address (g.S.Site.view c.args.site.now c.args.hand.now).cells c.args.registers.now c.in-Load.from ∷ []) h))

pub address_at-cell-requires-clause-small : goal.address_at-cell-requires-clause-small
address_at-cell-requires-clause-small g c = c.requires.small (address (g.S.Site.view c.args.site.now c.args.hand.now).cells c.args.registers.now c.in-Load.from) (subst (λ (z : Micro). In (address (g.S.Site.view c.args.site.now c.args.hand.now).cells c.args.registers.now c.in-Load.from) (named_cells (g.S.Site.view c.args.site.now c.args.hand.now).cells c.args.registers.now z)) (sym c.in-Load.is) (inl refl))

pub cell_at-requires-clause-loads : goal.cell_at-requires-clause-loads
cell_at-requires-clause-loads g c =
    let at : ℕ = address (g.S.Site.view c.args.site.now c.args.hand.now).cells c.args.registers.now c.in-Load.from in
    let h = c.requires.loads at (subst (λ (z : Micro). In at (looks (g.S.Site.view c.args.site.now c.args.hand.now).cells c.args.registers.now z)) (sym c.in-Load.is) (in_right at (address_cells c.in-Load.from) (at ∷ []) (inl refl))) in
    subst (λ (x : ℕ × View). In x.0 x.1.may × Small x.0) (λ i. (sym c.address_at-cell.ensures.value i, sym c.address_at-cell.ensures.same i)) h

pub address_at-cell-requires-in-Store-clause-loads : goal.address_at-cell-requires-in-Store-clause-loads
address_at-cell-requires-in-Store-clause-loads g c = λ n h. c.requires.loads n (subst (λ (z : Micro). In n (looks (g.S.Site.view c.args.site.now c.args.hand.now).cells c.args.registers.now z)) (sym c.in-Store.is) (h))

pub address_at-cell-requires-in-Store-clause-small : goal.address_at-cell-requires-in-Store-clause-small
address_at-cell-requires-in-Store-clause-small g c = c.requires.small (address (g.S.Site.view c.args.site.now c.args.hand.now).cells c.args.registers.now c.in-Store.to) (subst (λ (z : Micro). In (address (g.S.Site.view c.args.site.now c.args.hand.now).cells c.args.registers.now c.in-Store.to) (named_cells (g.S.Site.view c.args.site.now c.args.hand.now).cells c.args.registers.now z)) (sym c.in-Store.is) (inl refl))

pub address_at-cell-requires-in-Least-clause-loads : goal.address_at-cell-requires-in-Least-clause-loads
address_at-cell-requires-in-Least-clause-loads g c = λ n h. c.requires.loads n (subst (λ (z : Micro). In n (looks (g.S.Site.view c.args.site.now c.args.hand.now).cells c.args.registers.now z)) (sym c.in-Least.is) (h))

pub address_at-cell-requires-in-Least-clause-small : goal.address_at-cell-requires-in-Least-clause-small
address_at-cell-requires-in-Least-clause-small g c = c.requires.small (address (g.S.Site.view c.args.site.now c.args.hand.now).cells c.args.registers.now c.in-Least.to) (subst (λ (z : Micro). In (address (g.S.Site.view c.args.site.now c.args.hand.now).cells c.args.registers.now c.in-Least.to) (named_cells (g.S.Site.view c.args.site.now c.args.hand.now).cells c.args.registers.now z)) (sym c.in-Least.is) (inl refl))
