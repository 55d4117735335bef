use Rattle.alias_test.proofs.Apart.{other_variables, some_dimension_apart, each_dimension_alike, some_dimension_open}
use Rattle.alias_test.proofs.relating.relate.Goals as goal

pub returns-then-a-b : goal.returns-then-a-b
returns-then-a-b c = other_variables c.args.a.now c.args.b.now c.if-a-b.true

pub returns-then-some_apart : goal.returns-then-some_apart
returns-then-some_apart c = some_dimension_apart c.args.a.now c.args.b.now c.as_slice.result.now c.as_slice-2.result.now c.if-a-b.false c.as_slice.ensures c.as_slice-2.ensures c.if-some_apart.ensures

pub returns-then-all_alike : goal.returns-then-all_alike
returns-then-all_alike c =
    each_dimension_alike c.args.a.now c.args.b.now c.as_slice.result.now c.as_slice-2.result.now c.as_slice-else-some_apart.result.now c.as_slice-else-some_apart-2.result.now c.if-a-b.false c.as_slice.ensures c.as_slice-2.ensures c.as_slice-else-some_apart.ensures
    c.as_slice-else-some_apart-2.ensures c.if-some_apart.ensures c.if-all_alike.ensures

pub returns-else-all_alike : goal.returns-else-all_alike
returns-else-all_alike c =
    some_dimension_open c.args.a.now c.args.b.now c.as_slice.result.now c.as_slice-2.result.now c.as_slice-else-some_apart.result.now c.as_slice-else-some_apart-2.result.now c.if-a-b.false c.as_slice.ensures c.as_slice-2.ensures c.as_slice-else-some_apart.ensures
    c.as_slice-else-some_apart-2.ensures c.if-some_apart.ensures c.if-all_alike.ensures
