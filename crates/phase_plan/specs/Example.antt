-- Words for plans that are written out: a module, and the text of its phases.
use Rattle.std.specs.Prelude.{◌≡◌, ℕ, ◌+◌, true, List, [], ◌∷◌, ◌++◌, codes}
use Rattle.std.specs.List.{list_all}
use Rattle.hlfir_ops.specs.declared.kinds.Elem.TheVariants.{I32, I1}
use Rattle.hlfir_ops.specs.declared.what.ValueBinary.TheVariants as bin
use Rattle.hlfir_ops.specs.declared.op.Op.{Op}
use Rattle.hlfir_ops.specs.declared.op.Module.{Module}
use Rattle.hlfir_ops.specs.Rules.{facts_of, keeps}
use Rattle.hlfir_ops.specs.RulesPlaces.{module_sites}
use Rattle.hlfir_meaning.specs.Example.{Example, Text, text_of, constant, minus, binary, apply, elemental, yields_element, yield, part, assign}
use Rattle.phase_plan.specs.PhasesText.{phases_text}

-- a module, and the lines of its phases after that with its name, each of which ends with LF
pub record Plan : Type 0 where
  pub main : Module
  pub phases : List Text

-- the text of the module's phases is this
abbrev pub Prints : Plan → Type 0
Prints p = phases_text p.main ≡ text_of (codes "phases main" ∷ p.phases)

-- the modules of these break no rule
abbrev pub KeepRules : List Plan → Type 0
KeepRules ps = list_all (λ p. list_all (keeps (facts_of p.main)) (module_sites p.main)) ps ≡ true

-- declares, statements, and the lines of the phases
abbrev pub plan : List Op → List Op → List Text → Plan
plan declares statements phases = record { main = record { name = codes "main"; ops = declares ++ statements }; phases = phases }

-- the module of an example of meaning, and the lines of its phases
abbrev pub plan_of : Example → List Text → Plan
plan_of x phases = record { main = x.main; phases = phases }

-- ---- common parts, of arrays of one dimension. The next value has the given number.

-- the mask of the elements that are greater than 0
abbrev pub positive : ℕ → ℕ → List Op
positive first x = constant 0 ∷ elemental I1 1 (apply I32 x ∷ binary bin.Gt (first + 2) first ∷ yields_element (first + 3) ∷ []) ∷ yield (first + 1)

-- an array of three elements gets its own in reverse
abbrev pub reverse : ℕ → ℕ → ℕ → Op
reverse line first x = assign line (part x first (constant 3 ∷ constant 1 ∷ minus 1 ∷ [])) (yield x)
