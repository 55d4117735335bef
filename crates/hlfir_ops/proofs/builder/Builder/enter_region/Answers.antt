-- The last op becomes the one of a place.
use Rattle.std.proofs.Common.{refl, sym, ap, ◌∙◌, ◌++◌, ◌∷◌, []}
use Rattle.hlfir_ops.proofs.Keeping.{enters_numbered, enters, place_held, counted_held, stands_held}
use Rattle.hlfir_ops.proofs.builder.Builder.enter_region.Goals as goal

pub invariant_of-self-in-Ok : goal.invariant_of-self-in-Ok
invariant_of-self-in-Ok c =
    enters_numbered c.self.inside.around.items c.holder.new.around.items c.put_around.new.around.items _ c.self.inside.ops.items c.replace-before.result.items c.replace-before.new.dest.items c.in-Some.op c.self.inside.next c.in-Ok.after
    (c.in-Some.ensures.items ∙ ap (λ v. v.items ++ c.in-Some.op ∷ []) (sym c.replace-before.ensures.value)) c.holder.ensures.same c.put_around.ensures (ap (λ v. v.items) c.replace-before.ensures.after ∙ c.new.ensures.items)
    (place_held c.replace-before.result.items c.in-Some.op c.in-Ok.op c.in-Ok.ensures.op) refl c.self.invariant.0 c.in-Ok.ensures.after c.self.invariant.1

pub returns-in-Ok-clause-entered : goal.returns-in-Ok-clause-entered
returns-in-Ok-clause-entered c =
    enters c.args.self.now c.self.inside.name c.self.inside.around.items c.holder.new.around.items c.put_around.new.around.items _ c.self.inside.ops.items c.replace-before.result.items c.replace-before.new.dest.items c.in-Some.op c.self.view_is
    (c.in-Some.ensures.items ∙ ap (λ v. v.items ++ c.in-Some.op ∷ []) (sym c.replace-before.ensures.value)) c.holder.ensures.same c.put_around.ensures (ap (λ v. v.items) c.replace-before.ensures.after ∙ c.new.ensures.items)
    (place_held c.replace-before.result.items c.in-Some.op c.in-Ok.op c.in-Ok.ensures.op)

pub invariant_of-put_around-clause-counted : goal.invariant_of-put_around-clause-counted
invariant_of-put_around-clause-counted c = counted_held c.in-Some.op c.in-Ok.op c.self.inside.next c.in-Ok.after c.in-Ok.ensures.op c.in-Ok.ensures.after c.in-Ok.ensures.fits

pub invariant_of-put_around-clause-stands : goal.invariant_of-put_around-clause-stands
invariant_of-put_around-clause-stands c = stands_held c.in-Some.op c.in-Ok.op c.in-Ok.ensures.op
