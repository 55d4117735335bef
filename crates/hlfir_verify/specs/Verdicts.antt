-- The first rule that an op breaks, and the first op that breaks one.
use Rattle.std.specs.Prelude.{◌≡◌, ℕ, suc, Bool, true, false, List, [], ◌∷◌, ◌++◌, map, Option, Some, None, Result, Ok, Err}
use Rattle.hlfir_ops.specs.declared.op.Op.{Op}
use Rattle.hlfir_ops.specs.RulesPlaces.{Place, Site}
use Rattle.hlfir_ops.specs.Rules.{Facts, kept}
use Rattle.hlfir_verify.specs.declared.ending.Rule.{Rule}
use Rattle.hlfir_verify.specs.declared.ending.Rule.TheVariants as rule
use Rattle.hlfir_verify.specs.declared.ending.VerifyEnd.{VerifyEnd}
use Rattle.hlfir_verify.specs.declared.ending.VerifyEnd.TheVariants as end

-- ---- the least rule

abbrev pub form_rules : List Rule
form_rules = rule.Defined ∷ rule.Operands ∷ rule.Result ∷ rule.Once ∷ rule.Yield ∷ rule.Sides ∷ rule.Realloc ∷ []

abbrev pub statement_rules : List Rule
statement_rules = rule.Where ∷ rule.Forall ∷ rule.Shared ∷ rule.Declares ∷ rule.Limits ∷ []

abbrev pub unless : Bool → Rule → Option Rule → Option Rule
unless true r rest = rest
unless false r rest = Some r

-- of these rules, of which it is known whether they are kept
abbrev pub first_broken : List Rule → List Bool → Option Rule
first_broken (r ∷ rs) (b ∷ bs) = unless b r (first_broken rs bs)
first_broken _ _ = None

unfoldable pub least_broken : Facts → Place → Op → Option Rule
least_broken f p op = first_broken (form_rules ++ statement_rules) (kept f p op)

abbrev pub verdict : Facts → Site → Option Rule
verdict f s = least_broken f s.place s.op

abbrev pub verdicts : Facts → List Site → List (Option Rule)
verdicts f = map (verdict f)

-- ---- the first op

-- The place after these ops, of which the first one has this place; or the first one of them that breaks a rule.
abbrev pub judged : ℕ → List (Option Rule) → Result ℕ VerifyEnd
judged place [] = Ok place
judged place (None ∷ rest) = judged (suc place) rest
judged place (Some r ∷ rest) = Err (end.BadOp place r)

-- What a walk answers, where it is at this place then. Want of memory tells nothing.
abbrev pub Tells : {A : Type 0} → Result A VerifyEnd → ℕ → Result ℕ VerifyEnd → Type 0
Tells (Ok x) place outcome = outcome ≡ Ok place
Tells (Err (end.BadOp op r)) place outcome = outcome ≡ Err (end.BadOp op r)
Tells (Err end.Memory) place outcome = Unit {0}
