use Rattle.lower_constructs.proofs.Filling.{inside, fills-one}
use Rattle.lower_constructs.proofs.headers.value_region.Goals as goal

pub leave_region-requires : goal.leave_region-requires
leave_region-requires c = inside c.args.build.now c.enter_region.new.self c.yield_value.new.build c.requires c.in_ok-enter_region.ensures.entered c.in_ok-yield_value.ensures

pub returns : goal.returns
returns c = fills-one c.args.build.now c.enter_region.new.self c.yield_value.new.build c.leave_region.new.self c.in_ok-enter_region.ensures.entered c.in_ok-yield_value.ensures c.leave_region.ensures
