use Rattle.std.proofs.Common.{◌≡◌, ℕ, ◌≤◌, ◌<◌, ◌*◌, inl, inr, ◌∙◌, sym, arith, rules}
use Rattle.std.proofs.lemmas.Bool.{cases_lt}
use Rattle.ws_space.specs.WellFormed.{elements}
use Rattle.ws_space.proofs.Whole.{AreFilled-from_shape, IsShape-from_parts, product-whole}
use Rattle.ws_space.proofs.elements.is_shape.Goals as goal
use Rattle.ws_space.proofs.elements.is_shape.Goals.{Else-elements-gt-ELEMENT_LIMIT}

within_limit : (n r : ℕ) → (65536 < n → 65536 < r) → r ≤ 65536 → n ≤ 65536
within_limit n r many small = elim (cases_lt 65536 n) [ inl lt ↦ absurd (omega (arith, many lt)) | inr le ↦ le ]

few : (c : Else-elements-gt-ELEMENT_LIMIT) → (elements c.args.shape.now ≤ 65536) × (elements c.args.shape.now ≡ c.product-elements.result)
few c =
    let w = c.with_unused-whole.result in
    let all : w.d1.extent * (w.d2.extent * w.d3.extent) ≡ elements c.args.shape.now = product-whole c.args.shape.now w c.with_unused-whole.ensures in
    let low : w.d1.extent * (w.d2.extent * w.d3.extent) ≤ 65536 = within_limit (w.d1.extent * (w.d2.extent * w.d3.extent)) c.product-elements.result c.product-elements.ensures.many (omega arith) in
    (omega arith, sym all ∙ sym (c.product-elements.ensures.few low))

pub returns-then-elements-gt-ELEMENT_LIMIT : goal.returns-then-elements-gt-ELEMENT_LIMIT
returns-then-elements-gt-ELEMENT_LIMIT c =
    let w = c.with_unused-whole.result in
    let all : w.d1.extent * (w.d2.extent * w.d3.extent) ≡ elements c.args.shape.now = product-whole c.args.shape.now w c.with_unused-whole.ensures in
    ((λ t. let f : ⊥ = search rules in absurd f), (λ h. let few : elements c.args.shape.now ≤ 65536 = h.few in absurd (omega arith)))

pub returns-then-elements-eq0 : goal.returns-then-elements-eq0
returns-then-elements-eq0 c =
    let number = few (goal.at.returns-then-elements-eq0 c).Else-elements-gt-ELEMENT_LIMIT in
    let none : elements c.args.shape.now ≡ 0 = omega (arith, number.1) in
    ((λ t. IsShape-from_parts c.args.shape.now c.with_unused-whole.result c.with_unused-whole.ensures (omega arith) number.0 (λ some. absurd (omega (arith, none)))), (λ h. search rules))

pub returns : goal.returns
returns c =
    let number = few (goal.at.returns c).Else-elements-gt-ELEMENT_LIMIT in
    let some : 0 < elements c.args.shape.now = omega (arith, number.1) in (
      (λ t. IsShape-from_parts c.args.shape.now c.with_unused-whole.result c.with_unused-whole.ensures (omega arith) number.0 (λ s. c.have_last.ensures.0 t)),
      (λ h. let f = AreFilled-from_shape c.args.shape.now c.with_unused-whole.result 0 h some c.with_unused-whole.ensures in c.have_last.ensures.1 (f.d1.last, f.d2.last, f.d3.last)),
    )
