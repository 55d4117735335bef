-- Each step of a member keeps a sound core.
use Rattle.std.proofs.Common.{◌≡◌, ◌≢◌, ◌⊎◌, ℕ, suc, ◌<◌, ◌≤◌, Bool, true, false, cond, ltb, T, List, map, length, set, sym, refl, ap, ◌∙◌, subst, arith, ⊎_elim, inl, inr, length-set, get_or-set_other, get_or-set_same}
use mathlib.Core.Logic.{dite}
use mathlib.Core.Option.{some}
use native.Mathlib.Decide.{ℕ_discrete}
use lib.ListN.{get_elem?, length-map}
use lib.Seq.{map-set}
use Rattle.std.proofs.lemmas.List.Sums.{count_by-le-length}
use Rattle.std.proofs.lemmas.Bool.Decides.{nat_tests}
use Rattle.team_core.proofs.Lists.{at_set}
use Rattle.team_core.specs.declared.member.MemberState.{MemberState}
use Rattle.team_core.specs.declared.member.MemberState.TheVariants.{Ready, Arrived, Ended}
use Rattle.phase_ops.specs.Course.{Memory}
use Rattle.team_core.specs.declared.state.Numbers.{Numbers}
use Rattle.team_core.specs.Front.{is_there, Front}
use Rattle.phase_ops.specs.Phases.{none_yet}
use Rattle.phase_ops.specs.Course.{Course, memory_after, work_at}
use Rattle.team_core.specs.declared.state.Counts.{Counts}
use Rattle.team_core.specs.declared.state.Member.{Member}
use Rattle.team_core.specs.declared.state.CoreState.{CoreState}
use Rattle.team_core.specs.Core.{SoundAt, blank, counts_at, state_in, Place, Sound, member, core_after}

pub ltb_here : (t : ℕ) → ltb t t ≡ false
ltb_here t = grind (arith, nat_tests)

pub ltb_below : (s t : ℕ) → s < t → ltb s t ≡ true
ltb_below s t h = grind (arith, nat_tests)

pub in_here : (t : ℕ) (x : Member) → x.phase ≡ t → state_in t x ≡ x.state
in_here t x e = ap (λ (b : Bool). cond b Ready x.state) (ap (λ (s : ℕ). ltb s t) e ∙ ltb_here t)

pub in_before : (t : ℕ) (x : Member) → x.phase < t → state_in t x ≡ Ready
in_before t x h = ap (λ (b : Bool). cond b Ready x.state) (ltb_below x.phase t h)

pub untrue : false ≡ true → ⊥
untrue e = subst T (sym e) tt

module _ (c : Course) (k : CoreState) (s : Sound c k) where
  -- a member's step at the front, which does not fill it without a key
  pub stays : (m : ℕ) (x : Member) (now : Memory) (n : Numbers) (new : MemberState) → get_elem? k.members m ≡ some x → s.front < c.count
      → Front (work_at c s.front) (memory_after c s.front, none_yet) n now (set (map (state_in s.front) k.members) m new)
      → length now.0 ≡ length k.cells → (counts_at k s.front).numbers.arrived ≤ n.arrived → now.1 ≤ (counts_at k s.front).key → (new ≡ Ended → ⊥)
      → (n.arrived < c.team) ⊎ (now.1 < none_yet) → SoundAt c s.front (core_after k m s.front now n (member s.front new false))
  stays m x now n new at live f long up down alive wait =
      let t : ℕ = s.front in
      let y : Member = member t new false in
      let k' : CoreState = core_after k m t now n y in
      let here : counts_at k' t ≡ record { numbers = n; key = now.1 } = get_or-set_same k.counts t (record { numbers = n; key = now.1 }) blank (let z = s.sized in omega arith) in
      let others : (u : ℕ) → u ≢ t → counts_at k' u ≡ counts_at k u = λ u e. get_or-set_other k.counts t u (record { numbers = n; key = now.1 }) blank e in
      let same : set (map (state_in t) k.members) m new ≡ map (state_in t) k'.members =
      ap (set (map (state_in t) k.members) m) (sym (in_here t y refl)) ∙ sym (map-set (state_in t) k.members m y) in
      let bound : n.arrived ≤ c.team = let l = count_by-le-length is_there (set (map (state_in t) k.members) m new) in
      omega (arith, l, f.arrived_is, length-set (map (state_in t) k.members) m new, length-map k.members (state_in t), s.team_is) in (
        record {
          front = t;
          sized = length-set k.counts t (record { numbers = n; key = now.1 }) ∙ s.sized;
          team_is = length-set k.members m y ∙ s.team_is;
          cells_are = long ∙ s.cells_are;
          within = s.within;
          keyless = s.keyless;
          before = λ u l. others u (λ e. omega (arith, e, l)) ∙ s.before u l;
          here = λ _. subst (λ (z : Counts). Front (work_at c t) (memory_after c t, none_yet) z.numbers (now.0, z.key) (map (state_in t) k'.members)) (sym here) (subst (λ (z : List MemberState). Front (work_at c t) (memory_after c t, none_yet) n now z) same f);
          whole = λ e. absurd (omega (arith, e, live));
          waiting = λ _. subst (λ (z : Counts). (z.numbers.arrived < c.team) ⊎ (z.key < none_yet)) (sym here) wait;
          later = λ u l. others u (λ e. omega (arith, e, l)) ∙ s.later u l;
          places = λ j z at'. ⊎_elim
              (λ (q : (j ≡ m) × (y ≡ z)). subst (Place c k' t) q.1 ((λ e. absurd (untrue e)), inl ((λ e. absurd (alive e)), refl, live)))
              (λ (q : (j ≢ m) × (get_elem? k.members j ≡ some z)). let p = s.places j z q.1 in (
                (λ e. dite (ℕ_discrete z.phase t)
                    (λ h. let a : (counts_at k t).numbers.arrived ≡ c.team = subst (λ (u : ℕ). (counts_at k u).numbers.arrived ≡ c.team) h (p.0 e) in
                    subst (λ (u : ℕ). (counts_at k' u).numbers.arrived ≡ c.team) (sym h) (ap (λ (w : Counts). w.numbers.arrived) here ∙ (let r : n.arrived ≡ c.team = omega arith in r)))
                    (λ h. ap (λ (w : Counts). w.numbers.arrived) (others z.phase h) ∙ p.0 e)),
                ⊎_elim (λ (a : (z.state ≡ Ended → ((counts_at k t).numbers.arrived ≡ c.team) × ((counts_at k t).key < none_yet)) × (z.phase ≡ t) × (t < c.count)).
                    inl (
                      (λ e. let b = a.0 e in let b₀ = b.0 in let b₁ = b.1 in (
                        ap (λ (w : Counts). w.numbers.arrived) here ∙ (let r : n.arrived ≡ c.team = omega arith in r),
                        subst (λ (w : Counts). w.key < none_yet) (sym here) (let r : now.1 < none_yet = omega arith in r),
                      )),
                      a.1,
                      a.2,
                    ))
                    (λ (b : ((z.state ≡ Arrived) × (suc z.phase ≡ t)) ⊎ ((z.state ≡ Ended) × (t ≡ c.count) × ((suc z.phase ≡ c.count) ⊎ (c.count ≡ 0)))). inr b) p.1,
              ))
              (at_set k.members m j y z at');
        },
        refl,
      )
