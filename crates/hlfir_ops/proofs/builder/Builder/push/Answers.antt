-- The op takes a number where it gives a value.
use Rattle.std.proofs.Common.{ap, ◌∙◌, ◌+◌}
use Rattle.hlfir_ops.specs.Built.{taken_around}
use Rattle.hlfir_ops.specs.Kept.{places}
use Rattle.hlfir_ops.proofs.Keeping.{taken-push}
use Rattle.hlfir_ops.proofs.builder.Builder.push.Goals as goal

pub invariant_of-self : goal.invariant_of-self
invariant_of-self c =
    (taken-push (taken_around (places c.self.inside.around.items)) c.self.inside.ops.items c.push.new.self.items c.args.op c.self.inside.next c.in-Some.next c.in-Ok.ensures.items c.requires c.self.invariant.0 (c.in-Some.ensures.0 ∙ ap (λ n. c.self.inside.next + n) c.value_count.ensures), c.self.invariant.1)
