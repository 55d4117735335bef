use Rattle.std.proofs.Common.{◌≡◌, ℕ, true, ◌+◌, ◌*◌, ◌<◌, ◌≤◌, ℤ, w32, FitsSigned, Ok, Err, arith, rules, sym, ◌∙◌, length}
use Rattle.std.proofs.lemmas.Int.{to_z-of_z}
use Rattle.ws_base.specs.declared.fault.FaultName.TheVariants.{Bounds}
use Rattle.ws_space.specs.declared.shape.Dim.{Dim}
use Rattle.ws_space.specs.Shapes.{dims, within, place, distance}
use Rattle.ws_space.specs.Subscripts.{listed}
use Rattle.ws_space.specs.WellFormed.{elements}
use Rattle.ws_space.proofs.Distances.{distance_below}
use Rattle.ws_space.proofs.Places.{absent, slice_get-place}
use Rattle.ws_space.proofs.Whole.{place-whole, size-whole, length-dims, length-listed, first_outside, second_outside, third_outside, placed, plane_fits, place_fits}
use Rattle.ws_space.proofs.elements.place.Goals as goal
use Rattle.ws_space.proofs.elements.place.Goals.{In-Some-offset-2}

first : (c : goal.In_default) → place (dims c.args.shape.now) (listed c.args.subs.now) ≡ Err Bounds
first c =
    let w = c.with_unused-whole.result in
    let x = c.with_unused_ones-subs.result in
    let f : FitsSigned w32 x.s1 = search rules in
    sym (place-whole c.args.shape.now w c.args.subs.now x c.requires.shape c.requires.rank c.with_unused-whole.ensures c.with_unused_ones-subs.ensures)
    ∙ first_outside w.d1 w.d2 w.d3 x.s1 x.s2 x.s3 (simp (to_z-of_z w32 x.s1 f) at c.in_default.ensures)

second : (c : goal.In_default-offset) → place (dims c.args.shape.now) (listed c.args.subs.now) ≡ Err Bounds
second c =
    let w = c.with_unused-whole.result in
    let x = c.with_unused_ones-subs.result in
    let f : FitsSigned w32 x.s2 = search rules in
    sym (place-whole c.args.shape.now w c.args.subs.now x c.requires.shape c.requires.rank c.with_unused-whole.ensures c.with_unused_ones-subs.ensures)
    ∙ second_outside w.d1 w.d2 w.d3 x.s1 x.s2 x.s3 (simp (to_z-of_z w32 x.s2 f) at c.in_default-offset.ensures)

third : (c : goal.In_default-offset-2) → place (dims c.args.shape.now) (listed c.args.subs.now) ≡ Err Bounds
third c =
    let w = c.with_unused-whole.result in
    let x = c.with_unused_ones-subs.result in
    let f : FitsSigned w32 x.s3 = search rules in
    sym (place-whole c.args.shape.now w c.args.subs.now x c.requires.shape c.requires.rank c.with_unused-whole.ensures c.with_unused_ones-subs.ensures)
    ∙ third_outside w.d1 w.d2 w.d3 x.s1 x.s2 x.s3 (simp (to_z-of_z w32 x.s3 f) at c.in_default-offset-2.ensures)

pub returns-in_default-clause-place : goal.returns-in_default-clause-place
returns-in_default-clause-place c = first c

pub returns-in_default-clause-listed : goal.returns-in_default-clause-listed
returns-in_default-clause-listed c = absent (dims c.args.shape.now) (listed c.args.subs.now) (first c)

pub returns-in_default-offset-clause-place : goal.returns-in_default-offset-clause-place
returns-in_default-offset-clause-place c = second c

pub returns-in_default-offset-clause-listed : goal.returns-in_default-offset-clause-listed
returns-in_default-offset-clause-listed c = absent (dims c.args.shape.now) (listed c.args.subs.now) (second c)

pub returns-in_default-offset-2-clause-place : goal.returns-in_default-offset-2-clause-place
returns-in_default-offset-2-clause-place c = third c

pub returns-in_default-offset-2-clause-listed : goal.returns-in_default-offset-2-clause-listed
returns-in_default-offset-2-clause-listed c = absent (dims c.args.shape.now) (listed c.args.subs.now) (third c)

offsets : (c : In-Some-offset-2) → ((within c.with_unused-whole.result.d1 c.with_unused_ones-subs.result.s1 ≡ true) × (c.in-Some.first ≡ distance c.with_unused-whole.result.d1.lower c.with_unused_ones-subs.result.s1)) × ((within c.with_unused-whole.result.d2 c.with_unused_ones-subs.result.s2 ≡ true) × (c.in-Some-offset.second ≡ distance c.with_unused-whole.result.d2.lower c.with_unused_ones-subs.result.s2)) × ((within c.with_unused-whole.result.d3 c.with_unused_ones-subs.result.s3 ≡ true) × (c.in-Some-offset-2.third ≡ distance c.with_unused-whole.result.d3.lower c.with_unused_ones-subs.result.s3))
offsets c =
    let x = c.with_unused_ones-subs.result in
    let f1 : FitsSigned w32 x.s1 = search rules in
    let f2 : FitsSigned w32 x.s2 = search rules in
    let f3 : FitsSigned w32 x.s3 = search rules in
    (simp (to_z-of_z w32 x.s1 f1) at c.in-Some.ensures, simp (to_z-of_z w32 x.s2 f2) at c.in-Some-offset.ensures, simp (to_z-of_z w32 x.s3 f3) at c.in-Some-offset-2.ensures)

few : (c : In-Some-offset-2) → c.with_unused-whole.result.d1.extent * (c.with_unused-whole.result.d2.extent * (c.with_unused-whole.result.d3.extent * 1)) ≤ 65536
few c =
    let all : c.with_unused-whole.result.d1.extent * (c.with_unused-whole.result.d2.extent * (c.with_unused-whole.result.d3.extent * 1)) ≡ elements c.args.shape.now = size-whole c.args.shape.now c.with_unused-whole.result c.with_unused-whole.ensures in
    let limit : elements c.args.shape.now ≤ 65536 = c.requires.shape.few in
    omega arith

below : (d : Dim) (i : ℤ) (p : ℕ) → (within d i ≡ true) × (p ≡ distance d.lower i) → p < d.extent
below d i p h = rw h.1 (distance_below d i h.0)

pub onto-plane-requires : goal.onto-plane-requires
onto-plane-requires c =
    let w = c.with_unused-whole.result in
    let x = c.with_unused_ones-subs.result in
    let o = offsets c in
    plane_fits w.d1.extent w.d2.extent w.d3.extent c.in-Some.first c.in-Some-offset.second c.in-Some-offset-2.third (few c) (below w.d1 x.s1 c.in-Some.first o.0) (below w.d2 x.s2 c.in-Some-offset.second o.1) (below w.d3 x.s3 c.in-Some-offset-2.third o.2)

fits : (c : In-Some-offset-2) (plane : ℕ) → plane ≡ c.in-Some-offset.second + c.with_unused-whole.result.d2.extent * c.in-Some-offset-2.third → c.in-Some.first + c.with_unused-whole.result.d1.extent * plane < 65536
fits c plane e =
    let w = c.with_unused-whole.result in
    let x = c.with_unused_ones-subs.result in
    let o = offsets c in
    place_fits w.d1.extent w.d2.extent w.d3.extent c.in-Some.first c.in-Some-offset.second c.in-Some-offset-2.third plane (few c) (below w.d1 x.s1 c.in-Some.first o.0) (below w.d2 x.s2 c.in-Some-offset.second o.1) (below w.d3 x.s3 c.in-Some-offset-2.third o.2) e

pub onto-at-requires : goal.onto-at-requires
onto-at-requires c = fits (goal.at.onto-at-requires c).In-Some-offset-2 c.onto-plane.result c.onto-plane.ensures

pub overflow_cast-result : goal.overflow_cast-result
overflow_cast-result c =
    let small : c.in-Some.first + c.with_unused-whole.result.d1.extent * c.onto-plane.result < 65536 = fits (goal.at.overflow_cast-result c).In-Some-offset-2 c.onto-plane.result c.onto-plane.ensures in
    omega arith

placed_at : (c : In-Some-offset-2) (plane at : ℕ) → plane ≡ c.in-Some-offset.second + c.with_unused-whole.result.d2.extent * c.in-Some-offset-2.third → at ≡ c.in-Some.first + c.with_unused-whole.result.d1.extent * plane → place (dims c.args.shape.now) (listed c.args.subs.now) ≡ Ok at
placed_at c plane at e f =
    let w = c.with_unused-whole.result in
    let x = c.with_unused_ones-subs.result in
    let o = offsets c in
    sym (place-whole c.args.shape.now w c.args.subs.now x c.requires.shape c.requires.rank c.with_unused-whole.ensures c.with_unused_ones-subs.ensures)
    ∙ placed w.d1 w.d2 w.d3 x.s1 x.s2 x.s3 c.in-Some.first c.in-Some-offset.second c.in-Some-offset-2.third plane at o.0 o.1 o.2 e f

pub returns-clause-place : goal.returns-clause-place
returns-clause-place c = placed_at (goal.at.returns-clause-place c).In-Some-offset-2 c.onto-plane.result c.onto-at.result c.onto-plane.ensures c.onto-at.ensures

pub returns-clause-listed : goal.returns-clause-listed
returns-clause-listed c =
    let small : c.args.shape.now.rank ≤ 3 = c.requires.shape.rank in
    let n : length (dims c.args.shape.now) ≡ c.args.shape.now.rank = length-dims c.args.shape.now small in
    let m : length (listed c.args.subs.now) ≡ c.args.subs.now.rank = length-listed c.args.subs.now (omega arith) in
    slice_get-place (dims c.args.shape.now) (listed c.args.subs.now) c.onto-at.result (omega arith) (placed_at (goal.at.returns-clause-listed c).In-Some-offset-2 c.onto-plane.result c.onto-at.result c.onto-plane.ensures c.onto-at.ensures)
