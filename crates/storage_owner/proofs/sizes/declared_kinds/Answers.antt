use Rattle.std.proofs.Common.{◌∙◌, refl}
use Rattle.hlfir_ops.specs.declared.op.Op.{out-Op}
use Rattle.rule_tests.proofs.Appended.{next}
use Rattle.storage_owner.specs.Layouts.{own_declared, declared_kinds}
use Rattle.storage_owner.proofs.sizes.declared_kinds.Goals as goal

pub each-preserved : goal.each-preserved
each-preserved c = c.each.invariant ∙ next declared_kinds (λ op. own_declared (out-Op op).what (out-Op op).kind) (λ _ _. refl) c.args.ops.now c.each.op-index c.op-item.result c.each.kinds.items c.add_declared.new.kinds.items
    c.each-test.true c.op-item.is c.in_ok-add_declared.ensures
