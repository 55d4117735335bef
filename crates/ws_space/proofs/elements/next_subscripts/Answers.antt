use Rattle.std.proofs.Common.{◌≡◌, ℕ, suc, ◌+◌, ◌≤◌, Ok, Some, length, arith, sym, ap, ◌∙◌}
use Rattle.std.specs.List.{slice_get}
use Rattle.std.proofs.lemmas.Option.{slice_get_past}
use Rattle.ws_space.specs.declared.shape.Shape.{Shape}
use Rattle.ws_space.specs.declared.shape.Subs.{Subs}
use Rattle.ws_space.specs.Shapes.{dims, place}
use Rattle.ws_space.specs.Subscripts.{listed, all_subscripts}
use Rattle.ws_space.proofs.Places.{place-slice_get}
use Rattle.ws_space.proofs.elements.next_subscripts.Goals as goal

-- a list of subscripts has one place
same : (s : Shape) (x : Subs) (p q : ℕ) → place (dims s) (listed x) ≡ Ok p → slice_get (all_subscripts s) q ≡ Some (listed x) → p ≡ q
same s x p q h e = let f : place (dims s) (listed x) ≡ Ok q = place-slice_get (dims s) (listed x) q e in cc

pub returns-then-from-size-clause-listed : goal.returns-then-from-size-clause-listed
returns-then-from-size-clause-listed c =
    λ at h.
    let e : c.in_ok-at.at ≡ at = same c.args.shape.now c.args.subs.now c.in_ok-at.at at c.in_ok-at.ensures.place h in
    let next : suc at ≡ c.in_ok-at.at + 1 = omega arith in
    sym (ap (slice_get (all_subscripts c.args.shape.now)) next ∙ c.subscripts_at.ensures.listed)

pub returns-else-from-size-clause-listed : goal.returns-else-from-size-clause-listed
returns-else-from-size-clause-listed c =
    λ at h.
    let e : c.in_ok-at.at ≡ at = same c.args.shape.now c.args.subs.now c.in_ok-at.at at c.in_ok-at.ensures.place h in
    let n : c.size.result ≡ length (all_subscripts c.args.shape.now) = c.size.ensures.listed in
    let past : length (all_subscripts c.args.shape.now) ≤ suc at = omega arith in
    sym (slice_get_past (all_subscripts c.args.shape.now) (suc at) past)
