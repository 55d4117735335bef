-- The op of the place is put back with one more region.
use Rattle.std.proofs.Common.{ap}
use Rattle.hlfir_ops.proofs.Keeping.{put_last, leaves_numbered, leaves}
use Rattle.hlfir_ops.proofs.builder.Builder.leave_region.Goals as goal

pub invariant_of-self : goal.invariant_of-self
invariant_of-self c =
    let e = c.in-Some.entered in
    leaves_numbered c.pop.new.self.items c.self.inside.around.items e c.self.inside.ops.items c.put_back.new.ops.items c.self.inside.next c.in-Some.ensures.items (put_last c.put_back.new.ops.items c.replace-ops.new.dest.items e.before.items c.self.inside.ops.items c.replace-ops.result.items c.from_vec.result e.what e.line e.operands e.kind e.regions c.set.new.self c.len-last.result
    c.put_back.ensures (ap (λ v. v.items) c.replace-ops.ensures.after) c.set.ensures c.len-last.ensures c.from_vec.ensures (ap (λ v. v.items) c.replace-ops.ensures.value) e.stands) c.self.invariant.0 c.self.invariant.1

pub returns : goal.returns
returns c =
    let e = c.in-Some.entered in
    leaves c.args.self.now c.self.inside.name c.pop.new.self.items c.self.inside.around.items e c.self.inside.ops.items c.put_back.new.ops.items c.self.view_is c.in-Some.ensures.items (put_last c.put_back.new.ops.items c.replace-ops.new.dest.items e.before.items c.self.inside.ops.items c.replace-ops.result.items c.from_vec.result e.what e.line e.operands e.kind e.regions c.set.new.self c.len-last.result
    c.put_back.ensures (ap (λ v. v.items) c.replace-ops.ensures.after) c.set.ensures c.len-last.ensures c.from_vec.ensures (ap (λ v. v.items) c.replace-ops.ensures.value) e.stands)
