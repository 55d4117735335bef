use Rattle.alias_test.proofs.Apart.{trees_of_other_lengths}
use Rattle.alias_test.proofs.relating.same_tree.Goals as goal

pub returns-then-s-t : goal.returns-then-s-t
returns-then-s-t c = trees_of_other_lengths c.args.s.now c.args.t.now c.if-s-t.true
