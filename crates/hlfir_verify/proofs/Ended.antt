-- What the verdicts on all ops say of the module.
use Rattle.std.proofs.Common.{◌≡◌, refl, ap, sym, ◌∙◌, subst, ℕ, zero, suc, ◌+◌, ◌<◌, ◌≤◌, Bool, true, false, ◌&&◌, List, [], ◌∷◌, ◌++◌, length, Option, Some, None, Result, Ok, Err, arith}
use Rattle.std.specs.Prelude.{slice_get, MatchResult}
use Rattle.std.specs.List.{list_all}
use Rattle.hlfir_ops.specs.declared.op.Op.{Op}
use Rattle.hlfir_ops.specs.declared.op.Module.{Module}
use Rattle.hlfir_ops.specs.RulesPlaces.{Site, outermost, sites_of, module_sites}
use Rattle.hlfir_ops.specs.Rules.{Facts, facts_of, kept, keeps, KeepsRules}
use Rattle.hlfir_verify.specs.declared.ending.Rule.{Rule}
use Rattle.hlfir_verify.specs.declared.ending.VerifyEnd.{VerifyEnd}
use Rattle.hlfir_verify.specs.declared.ending.VerifyEnd.TheVariants as end
use Rattle.hlfir_verify.specs.Verdicts.{form_rules, statement_rules, unless, first_broken, least_broken, verdict, verdicts, judged}
use Rattle.hlfir_verify.specs.Walks.{module_verdicts, IsFirstBroken, Ends}
use Rattle.hlfir_verify.proofs.Judged.{Told}

-- ---- no rule of an op

no_rule : (b : Bool) (r : Rule) (rest : Option Rule) → unless b r rest ≡ None → (b ≡ true) × (rest ≡ None)
no_rule true r rest e = (refl, e)
no_rule false r rest e = absurd (cc)

all_kept : (rs : List Rule) (bs : List Bool) → length bs ≤ length rs → first_broken rs bs ≡ None → list_all (λ b. b) bs ≡ true
all_kept rs [] le e = refl
all_kept [] (b ∷ bs) le e = absurd (omega (arith, le))
all_kept (r ∷ rs) (b ∷ bs) le e =
    let both = no_rule b r (first_broken rs bs) e in ap (λ c. c && list_all (λ x. x) bs) both.0 ∙ all_kept rs bs (omega (arith, le)) both.1

site_kept : (f : Facts) (s : Site) → verdict f s ≡ None → keeps f s ≡ true
unfolding least_broken
site_kept f s e = all_kept (form_rules ++ statement_rules) (kept f s.place s.op) (omega arith) e

-- ---- no op

next_kept : (f : Facts) (s : Site) (ss : List Site) (p n : ℕ) (v : Option Rule) → verdict f s ≡ v → judged p (v ∷ verdicts f ss) ≡ Ok n →
    (judged (suc p) (verdicts f ss) ≡ Ok n → list_all (keeps f) ss ≡ true) → list_all (keeps f) (s ∷ ss) ≡ true
next_kept f s ss p n None is e rest = ap (λ b. b && list_all (keeps f) ss) (site_kept f s is) ∙ rest e
next_kept f s ss p n (Some r) is e rest = absurd (cc)

pub sites_kept : (f : Facts) (ss : List Site) (p n : ℕ) → judged p (verdicts f ss) ≡ Ok n → list_all (keeps f) ss ≡ true
sites_kept f [] p n e = refl
sites_kept f (s ∷ ss) p n e = next_kept f s ss p n (verdict f s) refl e (sites_kept f ss (suc p) n)

-- ---- the first op

none_before : (vs : List (Option Rule)) (k : ℕ) → ((j : ℕ) → j < k → slice_get vs j ≡ Some None) → (j : ℕ) → j < suc k → slice_get (None ∷ vs) j ≡ Some None
none_before vs k h zero lt = refl
none_before vs k h (suc j) lt = h j (omega (arith, lt))

first_at : (vs : List (Option Rule)) (p op : ℕ) (r : Rule) → judged p vs ≡ Err (end.BadOp op r) → (k : ℕ) × (op ≡ p + k) × (slice_get vs k ≡ Some (Some r)) × ((j : ℕ) → j < k → slice_get vs j ≡ Some None)
first_at [] p op r e = absurd (cc)
first_at (None ∷ vs) p op r e = let rest = first_at vs (suc p) op r e in (suc rest.0, omega (arith, rest.1), rest.2, none_before vs rest.0 rest.3)
first_at (Some s ∷ vs) p op r e =
    let at : p ≡ op = cc in
    let same : s ≡ r = cc in (0, omega (arith, at), ap (λ x. Some (Some x)) same, λ j lt. absurd (omega (arith, lt)))

pub first_broken_at : (m : Module) (op : ℕ) (r : Rule) → judged 0 (module_verdicts m) ≡ Err (end.BadOp op r) → IsFirstBroken m op r
first_broken_at m op r e =
    let found = first_at (module_verdicts m) 0 op r e in
    let at : found.0 ≡ op = omega (arith, found.1) in
    record { breaks = ap (slice_get (module_verdicts m)) (sym at) ∙ found.2; first = λ k lt. found.3 k (omega (arith, at)) }

-- ---- the whole walk

told : (m : Module) (r : Result (Unit {0}) VerifyEnd) (at : ℕ) → Told r at (judged 0 (module_verdicts m)) → MatchResult r (λ done. KeepsRules m) (Ends m)
told m (Ok done) at e = sites_kept (facts_of m) (module_sites m) 0 at e
told m (Err (end.BadOp op rule)) at e = first_broken_at m op rule e
told m (Err end.Memory) at e = tt

pub ended : (m : Module) (f : Facts) (ops : List Op) (defined : List ℕ) (r : Result (Unit {0}) VerifyEnd) (at : ℕ) → f ≡ facts_of m → ops ≡ m.ops → defined ≡ [] →
    Told r at (judged 0 (verdicts f (sites_of outermost [] 0 defined ops))) → MatchResult r (λ done. KeepsRules m) (Ends m)
ended m f ops defined r at facts same none t =
    told m r at (subst (Told r at) (ap (λ g. judged 0 (verdicts g (sites_of outermost [] 0 defined ops))) facts ∙ ap (λ l. judged 0 (verdicts (facts_of m) (sites_of outermost [] 0 l ops))) none
    ∙ ap (λ l. judged 0 (verdicts (facts_of m) (sites_of outermost [] 0 [] l))) same) t)
