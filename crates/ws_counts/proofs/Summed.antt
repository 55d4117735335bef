-- The sum over statements, one after another, and the tests on it.
use Rattle.std.proofs.Common.{◌≡◌, refl, ap, sym, ◌∙◌, ℕ, ◌+◌, ◌<◌, ◌≤◌, min, max, nat_lt, Bool, false, ◌||◌, List, [], ◌∷◌, ◌++◌, length, drop, get_or, Option, arith}
use Rattle.std.proofs.lemmas.Bool.Decides.{nat_tests}
use Rattle.std.specs.List.{flat_map}
use Rattle.ws_base.specs.declared.refusal.Refusal.{Refusal}
use Rattle.ws_base.specs.declared.refusal.RefusalKind.TheVariants as kind
use Rattle.ws_types.specs.Kinds.{when, least_from}
use Rattle.ws_types.proofs.Appended.{next_of, done_of, least-append, least-none}
use Rattle.ws_counts.specs.declared.tally.Piece.{Piece}
use Rattle.ws_counts.specs.declared.tally.Sum.{Sum}
use Rattle.ws_counts.specs.declared.tally.Total.{Total}
use Rattle.ws_counts.specs.Counts.{parts_of, phases_of, temporaries_of}
use Rattle.ws_counts.specs.Limits.{all_phases, all_temporaries, parts_faults, steps_faults, statement_faults}
use Rattle.ws_counts.specs.Tallies.{most, total_of, no_sum, summed, all_summed}

pub summed-none : (s : Sum) → all_summed s [] ≡ s
unfolding all_summed
summed-none s = refl

pub summed-append : (s : Sum) (xs ys : List (List (List Piece))) → all_summed s (xs ++ ys) ≡ all_summed (all_summed s xs) ys
unfolding all_summed
summed-append s [] ys = refl
summed-append s (x ∷ xs) ys = summed-append (summed s x) xs ys

pub ruleset summed_rules = (summed-append, summed-none, least-append, least-none)

-- ---- a loop that adds the steps of each item

pub next_sum : {X : Type 0} (f : X → List (List (List Piece))) (xs : List X) (i : ℕ) (x : X) (s now : Sum) → i < length xs → x ≡ get_or xs i x → now ≡ all_summed s (f x) → all_summed s (flat_map f (drop i xs)) ≡ all_summed now (flat_map f (drop (i + 1) xs))
next_sum = next_of all_summed summed-append

pub no_sum_left : {X : Type 0} (f : X → List (List (List Piece))) (xs : List X) (i : ℕ) (s : Sum) → length xs ≤ i → all_summed s (flat_map f (drop i xs)) ≡ s
no_sum_left = done_of all_summed summed-none

-- ---- the numbers of the sum

abbrev sum_at : ℕ → ℕ → Sum
sum_at p t = record { phases = min p most; temporaries = min t most }

same_sum : (p p' t t' : ℕ) → p ≡ p' → t ≡ t' → sum_at p t ≡ sum_at p' t'
same_sum p p' t t' ep et = ap (λ n. sum_at n t) ep ∙ ap (λ n. sum_at p' n) et

cap_sum : (p n : ℕ) → min (min p most + min n most) most ≡ min (p + n) most
cap_sum p n = omega arith

cap_max : (t n : ℕ) → max (min t most) (min n most) ≡ min (max t n) most
cap_max t n = omega arith

summed_at : (p t : ℕ) (ss : List (List Piece)) → summed (sum_at p t) ss ≡ sum_at (p + phases_of ss) (max t (temporaries_of ss))
summed_at p t ss =
    ap (λ (n : ℕ). let s : Sum = record { phases = n; temporaries = max (min t most) (min (temporaries_of ss) most) } in s) (cap_sum p (phases_of ss))
    ∙ ap (λ (n : ℕ). let s : Sum = record { phases = min (p + phases_of ss) most; temporaries = n } in s) (cap_max t (temporaries_of ss))

summed_from : (all : List (List (List Piece))) (p t : ℕ) → all_summed (sum_at p t) all ≡ sum_at (p + all_phases all) (max t (all_temporaries all))
unfolding all_summed
summed_from [] p t = same_sum p (p + 0) t (max t 0) (omega arith) (omega arith)
summed_from (ss ∷ more) p t =
    ap (λ s. all_summed s more) (summed_at p t ss)
    ∙ summed_from more (p + phases_of ss) (max t (temporaries_of ss))
    ∙ same_sum (p + phases_of ss + all_phases more) (p + all_phases (ss ∷ more)) (max (max t (temporaries_of ss)) (all_temporaries more)) (max t (all_temporaries (ss ∷ more))) (omega arith) (omega arith)

sum_is : (all : List (List (List Piece))) → all_summed no_sum all ≡ sum_at (all_phases all) (all_temporaries all)
sum_is all = summed_from all 0 0 ∙ same_sum (0 + all_phases all) (all_phases all) (max 0 (all_temporaries all)) (all_temporaries all) (omega arith) (omega arith)

-- ---- the tests

capped_parts : (n : ℕ) → nat_lt 1024 (min n most) ≡ nat_lt 1024 n
capped_parts n = grind (arith, nat_tests)

capped_phases : (n : ℕ) → nat_lt 512 (min n most) ≡ nat_lt 512 n
capped_phases n = grind (arith, nat_tests)

capped_temporaries : (n : ℕ) → nat_lt 64 (min n most) ≡ nat_lt 64 n
capped_temporaries n = grind (arith, nat_tests)

pub parts_noted : (line : ℕ) (total : Total) (ss : List (List Piece)) (f0 f1 : Option Refusal) → total ≡ total_of ss → f1 ≡ least_from f0 (when (nat_lt 1024 total.parts) line kind.OverLimit) → f1 ≡ least_from f0 (parts_faults line ss)
unfolding parts_faults
parts_noted line total ss f0 f1 e noted = noted ∙ ap (λ (b : Bool). least_from f0 (when b line kind.OverLimit)) (ap (λ (k : Total). nat_lt 1024 k.parts) e ∙ capped_parts (parts_of ss))

pub sum_noted : (line : ℕ) (sum : Sum) (all : List (List (List Piece))) (f0 f1 : Option Refusal) → sum ≡ all_summed no_sum all →
    f1 ≡ least_from f0 (when (nat_lt 512 sum.phases || nat_lt 64 sum.temporaries) line kind.OverLimit) → f1 ≡ least_from f0 (steps_faults line all)
unfolding steps_faults
sum_noted line sum all f0 f1 e noted =
    noted
    ∙ ap (λ (b : Bool). least_from f0 (when b line kind.OverLimit))
    (ap (λ (k : Sum). nat_lt 512 k.phases || nat_lt 64 k.temporaries) (e ∙ sum_is all)
    ∙ ap (λ (b : Bool). b || nat_lt 64 (min (all_temporaries all) most)) (capped_phases (all_phases all))
    ∙ ap (λ (b : Bool). nat_lt 512 (all_phases all) || b) (capped_temporaries (all_temporaries all)))

pub total_noted : (shared : Bool) (line : ℕ) (ss : List (List Piece)) (f0 f1 f2 : Option Refusal) → shared ≡ false →
    f1 ≡ least_from f0 (parts_faults line ss) → f2 ≡ least_from f1 (steps_faults line (ss ∷ [])) → f2 ≡ least_from f0 (statement_faults shared line ss)
total_noted shared line ss f0 f1 f2 outside e1 e2 =
    e2
    ∙ ap (λ f. least_from f (steps_faults line (ss ∷ []))) e1
    ∙ sym (least-append f0 (parts_faults line ss) (steps_faults line (ss ∷ [])))
    ∙ ap (λ b. least_from f0 (statement_faults b line ss)) (sym outside)
