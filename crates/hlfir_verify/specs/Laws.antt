-- What the two answers of a check say of a module.
use Rattle.std.specs.Prelude.{◌≡◌, ℕ, ◌⊎◌, map}
use Rattle.hlfir_ops.specs.declared.op.Op.{Op}
use Rattle.hlfir_ops.specs.declared.op.Module.{Module}
use Rattle.hlfir_ops.specs.Numbers.{order_of}
use Rattle.hlfir_ops.specs.RulesPlaces.{Site, module_sites}
use Rattle.hlfir_ops.specs.Rules.{KeepsRules}
use Rattle.hlfir_verify.specs.declared.ending.Rule.{Rule}
use Rattle.hlfir_verify.specs.Walks.{IsFirstBroken}

abbrev pub op_there : Site → Op
op_there s = s.op

-- Each op of the module has its site, in printed order.
abbrev pub SitesAreInOrder : Type 0
SitesAreInOrder = (m : Module) → map op_there (module_sites m) ≡ order_of m.ops

abbrev pub KeepsOrBreaks : Type 0
KeepsOrBreaks = (m : Module) → KeepsRules m ⊎ ((op : ℕ) × (rule : Rule) × IsFirstBroken m op rule)

abbrev pub KeptHasNoBroken : Type 0
KeptHasNoBroken = (m : Module) (op : ℕ) (rule : Rule) → KeepsRules m → IsFirstBroken m op rule → ⊥

abbrev pub HasOneFirstBroken : Type 0
HasOneFirstBroken = (m : Module) (a b : ℕ) (r s : Rule) → IsFirstBroken m a r → IsFirstBroken m b s → (a ≡ b) × (r ≡ s)
