use Rattle.hlfir_verify.specs.Looks.{facts_seen}
use Rattle.hlfir_verify.proofs.Ended.{ended}
use Rattle.hlfir_verify.proofs.check.check.Goals as goal

pub returns : goal.returns
returns c = ended c.args.module.now (facts_seen c.args.look.now) c.as_slice.result.now c.new.result.items c.walk_ops.result c.walk_ops.new.walk.place c.requires c.as_slice.ensures c.new.ensures.items c.walk_ops.ensures.verdict
