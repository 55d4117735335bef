use Rattle.std.proofs.Common.{arith}
use Rattle.std.proofs.lemmas.Int.{ints}
use Rattle.alias_test.proofs.Meets.{IsAfter, meets_none, meets_past, meets_first}
use Rattle.alias_test.proofs.meeting.meets_after.Goals as goal

pub returns-in-None : goal.returns-in-None
returns-in-None c = let after : IsAfter c.args.p c.args.q c.distance_from-distance.result = omega (arith, ints) in meets_none c.args.p c.args.q c.distance_from-distance.result after c.in-None.ensures

pub returns-then-place-q : goal.returns-then-place-q
returns-then-place-q c =
    let after : IsAfter c.args.p c.args.q c.distance_from-distance.result = omega (arith, ints) in
    meets_first c.args.p c.args.q c.distance_from-distance.result c.in-Some.place c.from.result c.from-place.result c.from-in-Some.result c.from-then-place-q.result after
    c.in-Some.ensures c.from-place.ensures c.if-place-q.true c.from.ensures c.from-in-Some.ensures c.from-then-place-q.ensures

pub returns-else-place-q : goal.returns-else-place-q
returns-else-place-q c =
    let after : IsAfter c.args.p c.args.q c.distance_from-distance.result = omega (arith, ints) in
    meets_past c.args.p c.args.q c.distance_from-distance.result c.in-Some.place c.from-place.result after c.in-Some.ensures c.from-place.ensures c.if-place-q.false
