use Rattle.std.proofs.Common.{◌∙◌, ◌++◌, ◌∷◌, [], None, ap}
use Rattle.std.specs.Prelude.{nat_lt, if◌then◌else◌, slice_index}
use Rattle.storage_owner.proofs.Mattering.{next_only}
use Rattle.storage_owner.proofs.variables.only_used.Goals as goal

pub each-preserved : goal.each-preserved
each-preserved c = c.each.invariant ∙ next_only (λ n. nat_lt 0 (slice_index c.args.uses.now n)) c.args.kinds.now c.each.k c.each.xs.items c.push.new.self.items c.each-test.true
    (c.in_ok-push.ensures.items ∙ ap (λ x. c.each.xs.items ++ x ∷ []) (c.if_used.ensures ∙ ap (λ o. if nat_lt 0 (slice_index c.args.uses.now c.each.k) then o else None) c.kind_at.ensures))
