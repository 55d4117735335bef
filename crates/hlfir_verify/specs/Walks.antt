-- A walk over the ops of a module in printed order.
use Rattle.std.specs.Prelude.{◌≡◌, ℕ, ◌<◌, List, Option, Some, None, slice_get}
use Rattle.hlfir_ops.specs.declared.op.Module.{Module}
use Rattle.hlfir_ops.specs.RulesPlaces.{module_sites}
use Rattle.hlfir_ops.specs.Rules.{facts_of}
use Rattle.hlfir_verify.specs.declared.ending.Rule.{Rule}
use Rattle.hlfir_verify.specs.declared.ending.VerifyEnd.{VerifyEnd}
use Rattle.hlfir_verify.specs.declared.ending.VerifyEnd.TheVariants as end
use Rattle.hlfir_verify.specs.Verdicts.{verdicts}

-- for each op in printed order the least rule that it breaks
abbrev pub module_verdicts : Module → List (Option Rule)
module_verdicts m = verdicts (facts_of m) (module_sites m)

-- The op at this place of the printed order, counted from 0, is the first one that breaks a rule, and this is its least one.
pub record IsFirstBroken (m : Module) (op : ℕ) (rule : Rule) : Type 0 where
  pub breaks : slice_get (module_verdicts m) op ≡ Some (Some rule)
  pub first : (k : ℕ) → k < op → slice_get (module_verdicts m) k ≡ Some None

-- how a check of the module may end without its consent
abbrev pub Ends : Module → VerifyEnd → Type 0
Ends m (end.BadOp op rule) = IsFirstBroken m op rule
Ends m end.Memory = Unit {0}
