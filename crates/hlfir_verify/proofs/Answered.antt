-- A module has one answer.
use Rattle.std.proofs.Common.{◌≡◌, refl, ℕ, zero, suc, ◌<◌, Bool, true, false, inl, inr, ◌⊎◌, List, [], ◌∷◌, ◌++◌, Option, Some, None, Result, Ok, Err, arith}
use Rattle.std.specs.Prelude.{slice_get}
use Rattle.std.specs.List.{list_all}
use Rattle.std.proofs.lemmas.Bool.{cases_lt, and_parts}
use Rattle.hlfir_ops.specs.declared.op.Module.{Module}
use Rattle.hlfir_ops.specs.RulesPlaces.{Site, module_sites}
use Rattle.hlfir_ops.specs.Rules.{Facts, facts_of, kept, keeps, KeepsRules}
use Rattle.hlfir_verify.specs.declared.ending.Rule.{Rule}
use Rattle.hlfir_verify.specs.declared.ending.VerifyEnd.{VerifyEnd}
use Rattle.hlfir_verify.specs.declared.ending.VerifyEnd.TheVariants as end
use Rattle.hlfir_verify.specs.Verdicts.{form_rules, statement_rules, first_broken, least_broken, verdict, verdicts, judged}
use Rattle.hlfir_verify.specs.Walks.{module_verdicts, IsFirstBroken}
use Rattle.hlfir_verify.specs.Laws.{KeepsOrBreaks, KeptHasNoBroken, HasOneFirstBroken}
use Rattle.hlfir_verify.proofs.Ended.{sites_kept, first_broken_at}

-- ---- kept or broken

never_memory : (p : ℕ) (vs : List (Option Rule)) → judged p vs ≡ Err end.Memory → ⊥
never_memory p [] e = absurd (cc)
never_memory p (None ∷ vs) e = never_memory (suc p) vs e
never_memory p (Some r ∷ vs) e = absurd (cc)

answered : (m : Module) (outcome : Result ℕ VerifyEnd) → judged 0 (module_verdicts m) ≡ outcome → KeepsRules m ⊎ ((op : ℕ) × (rule : Rule) × IsFirstBroken m op rule)
answered m (Ok n) e = inl (sites_kept (facts_of m) (module_sites m) 0 n e)
answered m (Err (end.BadOp op rule)) e = inr (op, rule, first_broken_at m op rule e)
answered m (Err end.Memory) e = absurd (never_memory 0 (module_verdicts m) e)

pub any : KeepsOrBreaks
any m = answered m (judged 0 (module_verdicts m)) refl

-- ---- not both

none_broken : (rs : List Rule) (bs : List Bool) → list_all (λ b. b) bs ≡ true → first_broken rs bs ≡ None
none_broken [] bs e = refl
none_broken (r ∷ rs) [] e = refl
none_broken (r ∷ rs) (true ∷ bs) e = none_broken rs bs e
none_broken (r ∷ rs) (false ∷ bs) e = absurd (cc)

site_unbroken : (f : Facts) (s : Site) → keeps f s ≡ true → verdict f s ≡ None
unfolding least_broken
site_unbroken f s e = none_broken (form_rules ++ statement_rules) (kept f s.place s.op) e

all_unbroken : (f : Facts) (ss : List Site) (k : ℕ) (rule : Rule) → list_all (keeps f) ss ≡ true → slice_get (verdicts f ss) k ≡ Some (Some rule) → ⊥
all_unbroken f [] k rule e broken = absurd (cc)
all_unbroken f (s ∷ ss) zero rule e broken = let none = site_unbroken f s (and_parts (keeps f s) (list_all (keeps f) ss) e).0 in absurd (cc)
all_unbroken f (s ∷ ss) (suc k) rule e broken = all_unbroken f ss k rule (and_parts (keeps f s) (list_all (keeps f) ss) e).1 broken

pub apart : KeptHasNoBroken
apart m op rule keep first = all_unbroken (facts_of m) (module_sites m) op rule keep first.breaks

-- ---- one

no_earlier : (m : Module) (a b : ℕ) (r s : Rule) → IsFirstBroken m a r → IsFirstBroken m b s → a < b → ⊥
no_earlier m a b r s one other lt = let none = other.first a lt in let broken = one.breaks in absurd (cc)

same_place : (m : Module) (a b : ℕ) (r s : Rule) → IsFirstBroken m a r → IsFirstBroken m b s → a ≡ b
same_place m a b r s one other = elim (cases_lt a b) [
  | inl lt ↦ absurd (no_earlier m a b r s one other lt)
  | inr ge ↦ elim (cases_lt b a) [ inl lt ↦ absurd (no_earlier m b a s r other one lt) | inr le ↦ omega (arith, ge, le) ]
]

pub one : HasOneFirstBroken
one m a b r s first other = let at = same_place m a b r s first other in let here = first.breaks in let there = other.breaks in (at, cc)
