use Rattle.std.proofs.Common.{◌∙◌, sym}
use Rattle.assign_schedule.proofs.Wanting.{inserted}
use Rattle.assign_schedule.proofs.reach.want_one.Goals as goal

pub returns : goal.returns
returns c = inserted c.args.bound c.args.v c.args.wanted.now.keys c.insert.new.self.keys (sym c.passes.ensures ∙ c.if-not-passes.false) c.in_ok-insert.ensures.keys
