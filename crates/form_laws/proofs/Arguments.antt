-- The types of the arguments of a call that breaks no rule.
use Rattle.std.proofs.Common.{◌≡◌, refl, Bool, true, false, not, ◌&&◌, ◌||◌, List, [], ◌∷◌, Some}
use Rattle.std.proofs.lemmas.Bool.{true≢false}
use Rattle.ws_types.specs.declared.types.Typed.{Typed}
use Rattle.ws_types.specs.declared.types.Arguments.{Arguments}
use Rattle.ws_types.specs.Operations.{with_argument, no_arguments}
use Rattle.ws_sema.proofs.NoFaults.{left_false, right_false, not_false}
use Rattle.kind_laws.proofs.Arguments.{argued}

-- all are LOGICAL, or none is
abbrev pub Each : Bool → List Typed → Type 0
Each b [] = Unit {0}
Each b (ty ∷ tys) = (ty.truth ≡ b) × Each b tys

pub no_truths : (a : Arguments) (tys : List Typed) → (argued a tys).truths ≡ false → (a.truths ≡ false) × Each false tys
no_truths a [] h = (h, tt)
no_truths a (ty ∷ tys) h = let more = no_truths (with_argument a (Some ty)) tys h in (left_false a.truths ty.truth more.0, (right_false a.truths ty.truth more.0, more.1))

pub no_numbers : (a : Arguments) (tys : List Typed) → (argued a tys).numbers ≡ false → (a.numbers ≡ false) × Each true tys
no_numbers a [] h = (h, tt)
no_numbers a (ty ∷ tys) h = let more = no_numbers (with_argument a (Some ty)) tys h in (left_false a.numbers (not ty.truth) more.0, (not_false ty.truth (right_false a.numbers (not ty.truth) more.0), more.1))

-- not both kinds
pub one_type : (tys : List Typed) → ((argued no_arguments tys).truths && (argued no_arguments tys).numbers) ≡ false → (b : Bool) × Each b tys
one_type tys h = either (argued no_arguments tys).truths (argued no_arguments tys).numbers refl refl h
  where
    either : (t n : Bool) → (argued no_arguments tys).truths ≡ t → (argued no_arguments tys).numbers ≡ n → (t && n) ≡ false → (b : Bool) × Each b tys
    either false n truths numbers g = (false, (no_truths no_arguments tys truths).1)
    either true false truths numbers g = (true, (no_numbers no_arguments tys numbers).1)
    either true true truths numbers g = absurd (true≢false g)

-- MERGE's first two
pub same_choice : (a b : Bool) → (((false || a) || b) && ((false || not a) || not b)) ≡ false → a ≡ b
same_choice true true h = refl
same_choice true false h = absurd (true≢false h)
same_choice false true h = absurd (true≢false h)
same_choice false false h = refl
