-- Statements that begin, and those that are about the declare of a variable.
use Rattle.std.proofs.Common.{◌≡◌, ap, ◌∙◌, ℕ, List, [], ◌∷◌, None}
use Rattle.std.specs.Prelude.{⊤}
use Rattle.ws_base.specs.declared.name.Name.{Name}
use Rattle.hlfir_ops.specs.declared.what.What.{What}
use Rattle.hlfir_ops.specs.declared.op.ValueId.{ValueId}
use Rattle.hlfir_ops.specs.Built.{Built}
use Rattle.lower_values.specs.declared.names.Names.{Names}
use Rattle.lower_values.specs.declared.operand.Operand.{Operand}
use Rattle.lower_values.specs.Lowerings.{Lowering, scoped, statement_of, opened, Appends}
use Rattle.lower_values.specs.References.{declare_of}
use Rattle.lower_values.proofs.Appended.{appends-scoped}
use Rattle.lower_values.proofs.Holding.{Holds, holds-none, appends-statement}

-- an op that stands last, without regions yet
pub begins : (names : Names) (w : What) (line : ℕ) {vs operands : List ValueId} {old new : Built} → vs ≡ operands → new ≡ opened old w line vs None [] → Holds names w line operands None [] old new
begins names w line {vs} {operands} {old} {new} same begun = holds-none names w line operands None old new (begun ∙ ap (λ os. opened old w line os None []) same)

pub begins-at : (names : Names) (x : Name) (w : What) (line : ℕ) {vs : List ValueId} {d : Operand} {old new : Built} → vs ≡ d.value ∷ [] → d ≡ declare_of names x → new ≡ opened old w line vs None [] →
    Holds names w line ((declare_of names x).value ∷ []) None [] old new
begins-at names x w line same is begun = begins names w line (same ∙ ap (λ d. d.value ∷ []) is) begun

pub of-declare : {names : Names} (x : Name) {w : What} {line : ℕ} {ps : List (Lowering ⊤)} {old new : Built} → Holds names w line ((declare_of names x).value ∷ []) None ps old new →
    Appends names (scoped (λ s. statement_of w line ((declare_of s.names x).value ∷ []) ps)) old new tt
of-declare {names} x {w} {line} {ps} {old} {new} h = appends-scoped names (λ s. statement_of w line ((declare_of s.names x).value ∷ []) ps) old new tt (appends-statement h)
