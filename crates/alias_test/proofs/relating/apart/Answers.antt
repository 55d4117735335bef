use Rattle.alias_test.specs.Relations.{constants_of}
use Rattle.alias_test.proofs.Apart.{apart_runs}
use Rattle.alias_test.proofs.relating.apart.Goals as goal

pub returns : goal.returns
returns c = apart_runs (constants_of c.args.f.now) (constants_of c.args.g.now) c.in-Some.p c.in-Some-run_of.q c.meets.result c.in-Some.ensures c.in-Some-run_of.ensures c.meets.ensures
