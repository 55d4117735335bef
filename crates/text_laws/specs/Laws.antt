-- What the text of a module says of it.
use Rattle.std.specs.Prelude.{◌≡◌}
use Rattle.hlfir_ops.specs.declared.op.Module.{Module}
use Rattle.hlfir_ops.specs.Rules.{KeepsRules}
use Rattle.hlfir_text.specs.ModuleText.{module_text}
use Rattle.text_laws.specs.Shown.{shown}
use Rattle.text_laws.specs.Writable.{IsWritable}

-- Two modules that break no rule and have one text are the same in all that a text shows.
abbrev pub ATextStandsForOneModule : Type 0
ATextStandsForOneModule = (m n : Module) → KeepsRules m → KeepsRules n → IsWritable m → IsWritable n → module_text m ≡ module_text n → shown m ≡ shown n
