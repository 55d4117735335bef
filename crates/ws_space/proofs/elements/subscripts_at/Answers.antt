use Rattle.std.proofs.Common.{◌<◌, w32, to_z, of_z, FitsSigned, rules, ◌∙◌}
use Rattle.std.proofs.lemmas.Int.{to_z-of_z}
use Rattle.ws_space.specs.WellFormed.{elements}
use Rattle.ws_space.proofs.Whole.{AreFilled, AreFilled-from_shape, whole_at, StandsAt, StandsAt-from_element}
use Rattle.ws_space.proofs.elements.subscripts_at.Goals as goal
use Rattle.ws_space.proofs.elements.subscripts_at.Goals.{After-with_unused-whole, After-subscript_at-3}

filled : (c : After-with_unused-whole) → AreFilled c.with_unused-whole.result
filled c = AreFilled-from_shape c.args.shape.now c.with_unused-whole.result c.args.at c.requires.shape c.requires.within c.with_unused-whole.ensures

pub nonzero_div-column : goal.nonzero_div-column
nonzero_div-column c = (filled (goal.at.nonzero_div-column c).After-with_unused-whole).d1.some

pub nonzero_div-plane : goal.nonzero_div-plane
nonzero_div-plane c = (filled (goal.at.nonzero_div-plane c).After-with_unused-whole).d2.some

pub subscript_at-requires : goal.subscript_at-requires
subscript_at-requires c = (filled (goal.at.subscript_at-requires c).After-with_unused-whole).d1

pub subscript_at-requires-2 : goal.subscript_at-requires-2
subscript_at-requires-2 c = (filled (goal.at.subscript_at-requires-2 c).After-with_unused-whole).d2

pub subscript_at-requires-3 : goal.subscript_at-requires-3
subscript_at-requires-3 c = (filled (goal.at.subscript_at-requires-3 c).After-with_unused-whole).d3

made : (c : After-subscript_at-3) → StandsAt c.args.shape.now (record { rank = c.with_unused-whole.result.rank; s1 = to_z w32 (of_z w32 c.subscript_at.result); s2 = to_z w32 (of_z w32 c.subscript_at-2.result); s3 = to_z w32 (of_z w32 c.subscript_at-3.result) }) c.args.at
made c =
    let f1 : FitsSigned w32 c.subscript_at.result = search rules in
    let f2 : FitsSigned w32 c.subscript_at-2.result = search rules in
    let f3 : FitsSigned w32 c.subscript_at-3.result = search rules in
    let low : c.from-at.result < elements c.args.shape.now = rw c.from-at.ensures c.requires.within in
    rw (← c.from-at.ensures) (StandsAt-from_element c.args.shape.now _ c.from-at.result c.requires.shape low
    (whole_at c.args.shape.now c.with_unused-whole.result c.from-at.result _ _ _ c.with_unused-whole.ensures (to_z-of_z w32 _ f1 ∙ c.subscript_at.ensures) (to_z-of_z w32 _ f2 ∙ c.subscript_at-2.ensures) (to_z-of_z w32 _ f3 ∙ c.subscript_at-3.ensures)))

pub returns-clause-listed : goal.returns-clause-listed
returns-clause-listed c = (made c).listed_at

pub returns-clause-place : goal.returns-clause-place
returns-clause-place c = (made c).place_is

pub returns-clause-rank : goal.returns-clause-rank
returns-clause-rank c = (made c).ranks

pub returns-clause-unused : goal.returns-clause-unused
returns-clause-unused c = (made c).unused_are
