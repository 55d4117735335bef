-- The last arrival at the front moves it on.
use Rattle.std.proofs.Common.{◌≡◌, ℕ, zero, suc, ◌+◌, ◌<◌, ◌≤◌, Bool, true, false, cond, List, [], ◌∷◌, ◌++◌, length, set, sym, refl, ap, ◌∙◌, arith, count_by, length-set}
use mathlib.Core.Option.{some}
use lib.ListN.{get_elem?}
use Rattle.std.proofs.lemmas.List.Sums.{count_by-le-length, sum_by-cons}
use Rattle.team_core.specs.declared.member.MemberState.{MemberState}
use Rattle.team_core.specs.declared.member.MemberState.TheVariants.{Ready, Within, Out, Arrived, Ended}
use Rattle.phase_ops.specs.Course.{Memory, lay_both, Work, all_effects}
use Rattle.team_core.specs.declared.state.Numbers.{Numbers}
use Rattle.team_core.specs.Front.{is_past, is_within, is_there, laid, Front}
use Rattle.team_core.proofs.Laying.{laid_all}
use Rattle.team_core.proofs.FrontSteps.{counted}
use Rattle.team_core.proofs.Fronts.{untrue}

counts_cons : (p : MemberState → Bool) (x : MemberState) (xs : List MemberState) → count_by p (x ∷ xs) ≡ cond (p x) 1 0 + count_by p xs
counts_cons p x xs = sum_by-cons (λ (y : MemberState). cond (p y) 1 0) x xs

abbrev Tally : List MemberState → Type 0
Tally xs = (count_by is_there xs ≤ count_by is_past xs) × (count_by is_within xs + count_by is_past xs ≤ length xs)

tally_cons : (x : MemberState) (xs : List MemberState) → Tally xs → count_by is_there (x ∷ xs) ≡ cond (is_there x) 1 0 + count_by is_there xs
    → count_by is_past (x ∷ xs) ≡ cond (is_past x) 1 0 + count_by is_past xs → count_by is_within (x ∷ xs) ≡ cond (is_within x) 1 0 + count_by is_within xs → Tally (x ∷ xs)
tally_cons Ready xs h t p w = let h₀ = h.0 in let h₁ = h.1 in (omega arith, omega arith)
tally_cons (Within u d) xs h t p w = let h₀ = h.0 in let h₁ = h.1 in (omega arith, omega arith)
tally_cons Out xs h t p w = let h₀ = h.0 in let h₁ = h.1 in (omega arith, omega arith)
tally_cons Arrived xs h t p w = let h₀ = h.0 in let h₁ = h.1 in (omega arith, omega arith)
tally_cons Ended xs h t p w = let h₀ = h.0 in let h₁ = h.1 in (omega arith, omega arith)

pub tally : (xs : List MemberState) → Tally xs
tally [] = (omega arith, omega arith)
tally (x ∷ xs) = tally_cons x xs (tally xs) (counts_cons is_there x xs) (counts_cons is_past x xs) (counts_cons is_within x xs)

-- where all pass a test, each does
pub all_pass : (p : MemberState → Bool) (xs : List MemberState) (y : MemberState) (i : ℕ) (x : MemberState) → count_by p xs ≡ length xs → p y ≡ true → get_elem? xs i ≡ some x → p x ≡ true
all_pass p xs y i x all good at = decide (p x) refl
  where
    decide : (b : Bool) → p x ≡ b → b ≡ true
    decide true e = refl
    decide false e = let c = counted p xs i x y at in let bound = count_by-le-length p (set xs i y) in let e₀ : ◌≡◌ {A = ℕ} (cond (p x) 1 0) 0 = ap (λ (b : Bool). cond b 1 0) e in
        let e₁ : ◌≡◌ {A = ℕ} (cond (p y) 1 0) 1 = ap (λ (b : Bool). cond b 1 0) good in absurd (omega (arith, c, bound, length-set xs i y, e₀, e₁, all))

-- a phase at which all have arrived is done
pub done_all : (w : Work) (start now : Memory) (n : Numbers) (states : List MemberState) → Front w start n now states → n.arrived ≡ length states → 0 < length states
    → (now ≡ lay_both start (all_effects w w.units)) × (n.claimed ≡ w.units + length states) × (n.finished ≡ w.units)
done_all w start now n states f all some_one = let t = tally states in let t₀ = t.0 in let t₁ = t.1 in let a = f.arrived_is in let c = f.claimed_is in let g = f.finished_is in
    let big : w.units ≤ n.claimed = f.past (omega arith) in
    let nobody : (m u d : ℕ) → get_elem? states m ≡ some (Within u d) → ⊥ = λ m u d at. untrue (all_pass is_there states Arrived m (Within u d) (omega arith) refl at) in (
      f.now_is ∙ ap (lay_both start) (laid_all w f.done w.units (λ u l. f.free u (omega arith) l (λ m d. nobody m u d))),
      omega arith,
      omega arith,
    )

-- nobody has begun
pub fresh : (w : Work) (start : Memory) (states : List MemberState) → ((m : ℕ) (x : MemberState) → get_elem? states m ≡ some x → x ≡ Ready) → Front w start (record { claimed = 0; finished = 0; arrived = 0 }) start states
fresh w start states all = record {
  claimed_is = let z = none is_past refl states all in omega arith;
  past = λ h. let z = none is_past refl states all in absurd (omega arith);
  finished_is = let z = none is_within refl states all in omega arith;
  arrived_is = sym (none is_there refl states all);
  done = λ _. 0;
  held = λ m u d at. absurd (ready_not u d (all m (Within u d) at));
  apart = λ i j u d e p q. absurd (ready_not u d (all i (Within u d) p));
  free = λ u l. absurd (omega arith);
  later = λ u l. refl;
  now_is = ap (lay_both start) (sym (nothing w.units));
}
  where
    none : (p : MemberState → Bool) → p Ready ≡ false → (xs : List MemberState) → ((m : ℕ) (x : MemberState) → get_elem? xs m ≡ some x → x ≡ Ready) → count_by p xs ≡ 0
    none p e [] h = refl
    none p e (x ∷ xs) h = let c = counts_cons p x xs in let r = none p e xs (λ m. h (suc m)) in let z : ◌≡◌ {A = ℕ} (cond (p x) 1 0) 0 = ap (λ (y : MemberState). cond (p y) 1 0) (h zero x refl) ∙ ap (λ (b : Bool). cond b 1 0) e in omega (arith, c, r, z)

    ready_not : (u d : ℕ) → Within u d ≡ Ready → ⊥
    ready_not u d e = untrue (sym (ap is_within e))

    nothing : (k : ℕ) → laid w (λ _. 0) k ≡ []
    nothing zero = refl
    nothing (suc k) = λ i. nothing k i ++ []
