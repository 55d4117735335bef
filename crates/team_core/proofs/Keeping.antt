-- Each of the steps keeps a sound core.
use Rattle.std.proofs.Common.{slice_index, ◌≡◌, ◌≢◌, ◌⊎◌, ℕ, suc, ◌+◌, ◌<◌, ◌≤◌, min, Bool, true, false, cond, ltb, eqb, map, length, set, sym, refl, ap, ◌∙◌, subst, arith, ⊎_elim, inl, inr, length-set, eq-eqb, ne_eqb}
use mathlib.Core.Logic.{dite}
use mathlib.Core.Option.{some}
use native.Mathlib.Decide.{ℕ_discrete, dec_le}
use lib.ListN.{get_elem?, length-map}
use lib.Seq.{map-set}
use Rattle.std.proofs.lemmas.Bool.Decides.{nat_tests}
use Rattle.std.proofs.lemmas.List.Sums.{count_by-le-length}
use Rattle.team_core.proofs.Lists.{at_set, set_again, at_map, inside}
use Rattle.team_core.specs.declared.member.MemberState.{MemberState}
use Rattle.team_core.specs.declared.member.MemberState.TheVariants.{Ready, Within, Out, Arrived, Ended}
use Rattle.phase_ops.specs.declared.effect.Effect.{Effect}
use Rattle.phase_ops.specs.declared.effect.Effect.TheVariants.{Store, Least, Fault}
use Rattle.phase_ops.specs.Course.{Memory, apply}
use Rattle.team_core.specs.declared.state.Numbers.{Numbers}
use Rattle.team_core.specs.Front.{is_there, laid, Front}
use Rattle.phase_ops.specs.Phases.{none_yet}
use Rattle.phase_ops.specs.Course.{Course, memory_after, work_at, key_at, Safe}
use Rattle.team_core.specs.declared.state.Counts.{Counts}
use Rattle.team_core.specs.declared.state.Member.{Member}
use Rattle.team_core.specs.declared.state.CoreState.{CoreState}
use Rattle.team_core.specs.Core.{SoundAt, counts_at, state_in, Place, Sound, member, core_after, core_with, claims, acts, finishes, arrives, sees, judges}
use Rattle.team_core.proofs.Laying.{lay_key}
use Rattle.team_core.proofs.FrontSteps as front
use Rattle.team_core.proofs.Fronts.{in_here, in_before, untrue, ltb_below, stays}
use Rattle.team_core.proofs.Barrier.{done_all}
use Rattle.team_core.proofs.Advance.{advances}

apply_length : (e : Effect) (m : Memory) → length (apply e m).0 ≡ length m.0
apply_length (Store d v) m = length-set m.0 d v
apply_length (Least d v) m = length-set m.0 d (min (slice_index m.0 d) v)
apply_length (Fault k) m = refl

apply_key : (e : Effect) (m : Memory) → (apply e m).1 ≤ m.1
apply_key (Store d v) m = omega arith
apply_key (Least d v) m = omega arith
apply_key (Fault k) m = omega arith

ltb_not : (s t : ℕ) → t ≤ s → ltb s t ≡ false
ltb_not s t h = grind (arith, nat_tests)

abbrev Is_arrived : MemberState → Type 0
Is_arrived Ready = ⊥
Is_arrived (Within u d) = ⊥
Is_arrived Out = ⊥
Is_arrived Arrived = Unit {0}
Is_arrived Ended = ⊥

module _ (c : Course) (k : CoreState) (s : Sound c k) (m : ℕ) (x : Member) (at : get_elem? k.members m ≡ some x) where
  -- a member that is neither at a barrier nor at its end is at the front
  pub at_front : (is_there x.state ≡ false) → (x.phase ≡ s.front) × (s.front < c.count)
  at_front out = ⊎_elim (λ (a : (x.state ≡ Ended → ((counts_at k s.front).numbers.arrived ≡ c.team) × ((counts_at k s.front).key < none_yet)) × (x.phase ≡ s.front) × (s.front < c.count)). (a.1, a.2))
      (λ (b : ((x.state ≡ Arrived) × (suc x.phase ≡ s.front)) ⊎ ((x.state ≡ Ended) × (s.front ≡ c.count) × ((suc x.phase ≡ c.count) ⊎ (c.count ≡ 0)))). absurd (⊎_elim (λ g. untrue (sym out ∙ ap is_there g.0)) (λ g. untrue (sym out ∙ ap is_there g.0)) b)) (s.places m x at).1

  pub in_front : x.phase ≡ s.front → (st : MemberState) → x.state ≡ st → get_elem? (map (state_in s.front) k.members) m ≡ some st
  in_front p st e = at_map (state_in s.front) k.members m x at ∙ ap (λ (z : MemberState). some z) (in_here s.front x p ∙ e)

  pub keeps_claim : x.state ≡ Ready → SoundAt c s.front (claims c k m x)
  keeps_claim is = let live = at_front (ap is_there is) in subst (λ (t : ℕ). SoundAt c s.front (claims c k m (member t x.state x.full))) (sym live.0) (go (dec_le (work_at c s.front).units (counts_at k s.front).numbers.claimed) live)
    where
      go : Dec ((work_at c s.front).units ≤ (counts_at k s.front).numbers.claimed) → (x.phase ≡ s.front) × (s.front < c.count) → SoundAt c s.front (claims c k m (member s.front x.state x.full))
      go (yes big) live = let a : Counts = counts_at k s.front in let n : Numbers = record a.numbers { claimed = a.numbers.claimed + 1 } in
          subst (λ (b : Bool). SoundAt c s.front (core_after k m s.front (k.cells, a.key) n (member s.front (cond b (Within a.numbers.claimed 0) Out) false))) (sym (ltb_not a.numbers.claimed (work_at c s.front).units big))
          (stays c k s m x (k.cells, a.key) n Out at live.1 (front.claims_out (work_at c s.front) (memory_after c s.front, none_yet) a.numbers (k.cells, a.key) (map (state_in s.front) k.members) m (s.here live.1) (in_front live.0 Ready is) big)
          refl (omega arith) (omega arith) (λ e. untrue (ap is_there e)) (s.waiting live.1))
      go (no small) live = let a : Counts = counts_at k s.front in let n : Numbers = record a.numbers { claimed = a.numbers.claimed + 1 } in
          subst (λ (b : Bool). SoundAt c s.front (core_after k m s.front (k.cells, a.key) n (member s.front (cond b (Within a.numbers.claimed 0) Out) false))) (sym (ltb_below a.numbers.claimed (work_at c s.front).units (omega arith)))
          (stays c k s m x (k.cells, a.key) n (Within a.numbers.claimed 0) at live.1 (front.claims_in (work_at c s.front) (memory_after c s.front, none_yet) a.numbers (k.cells, a.key) (map (state_in s.front) k.members) m (s.here live.1) (in_front live.0 Ready is) (omega arith))
          refl (omega arith) (omega arith) (λ e. untrue (ap is_there e)) (s.waiting live.1))

  pub keeps_act : Safe c → (u d : ℕ) (e : Effect) → x.state ≡ Within u d → get_elem? ((work_at c x.phase).effects u) d ≡ some e → SoundAt c s.front (acts k m x e u d)
  keeps_act safe u d e is eff = let live = at_front (ap is_there is) in
      let a : Counts = counts_at k s.front in
      let eff' : get_elem? ((work_at c s.front).effects u) d ≡ some e = subst (λ (t : ℕ). get_elem? ((work_at c t).effects u) d ≡ some e) live.0 eff in
      let less = apply_key e (k.cells, a.key) in
      subst (λ (t : ℕ). SoundAt c s.front (acts k m (member t x.state x.full) e u d)) (sym live.0)
      (stays c k s m x (apply e (k.cells, a.key)) a.numbers (Within u (suc d)) at live.1
      (front.does (work_at c s.front) (memory_after c s.front, none_yet) a.numbers (k.cells, a.key) (map (state_in s.front) k.members) m (s.here live.1) (safe s.front live.1 s.keyless) u d e (in_front live.0 (Within u d) is) eff')
      (apply_length e (k.cells, a.key)) (omega arith) less (λ z. untrue (ap is_there z)) (⊎_elim inl (λ h. inr (omega (arith, h, less))) (s.waiting live.1)))

  pub keeps_finish : (u d : ℕ) → x.state ≡ Within u d → d ≡ length ((work_at c x.phase).effects u) → SoundAt c s.front (finishes k m x)
  keeps_finish u d is whole = let live = at_front (ap is_there is) in
      let a : Counts = counts_at k s.front in
      subst (λ (t : ℕ). SoundAt c s.front (finishes k m (member t x.state x.full))) (sym live.0)
      (stays c k s m x (k.cells, a.key) (record a.numbers { finished = a.numbers.finished + 1 }) Ready at live.1
      (front.finishes (work_at c s.front) (memory_after c s.front, none_yet) a.numbers (k.cells, a.key) (map (state_in s.front) k.members) m (s.here live.1) u d (in_front live.0 (Within u d) is) (whole ∙ ap (λ (t : ℕ). length ((work_at c t).effects u)) live.0))
      refl (omega arith) (omega arith) (λ z. untrue (ap is_there z)) (s.waiting live.1))

  -- the key of the front is none or less
  key_le : s.front < c.count → (counts_at k s.front).key ≤ none_yet
  key_le live = let e = ap (λ (z : Memory). z.1) (s.here live).now_is in
      omega (arith, e, lay_key (memory_after c s.front, none_yet) (laid (work_at c s.front) (s.here live).done (work_at c s.front).units))

  -- the front stays, or goes to the next phase
  abbrev Passes : CoreState → Type 0
  Passes k' = (s' : Sound c k') × ((s'.front ≡ s.front) ⊎ (s'.front ≡ suc s.front))

  to_next : {k' : CoreState} → SoundAt c (suc s.front) k' → Passes k'
  to_next {k'} p = (p.0, inr p.1)

  to_same : {k' : CoreState} → SoundAt c s.front k' → Passes k'
  to_same {k'} p = (p.0, inl p.1)

  pub keeps_arrive : x.state ≡ Out → Passes (arrives k m x)
  keeps_arrive is = let live : (x.phase ≡ s.front) × (s.front < c.count) = out_live in
      subst (λ (t : ℕ). Passes (arrives k m (member t x.state x.full))) (sym live.0) (go live (dec_le c.team ((counts_at k s.front).numbers.arrived + 1)) (dec_le none_yet (counts_at k s.front).key))
    where
      out_live : (x.phase ≡ s.front) × (s.front < c.count)
      out_live = at_front (ap is_there is)

      go : (x.phase ≡ s.front) × (s.front < c.count) → Dec (c.team ≤ (counts_at k s.front).numbers.arrived + 1) → Dec (none_yet ≤ (counts_at k s.front).key) → Passes (arrives k m (member s.front x.state x.full))
      go live (yes fills) (yes keyless) = let le = key_le live.1 in
          let f = front.arrives (work_at c s.front) (memory_after c s.front, none_yet) (counts_at k s.front).numbers (k.cells, (counts_at k s.front).key) (map (state_in s.front) k.members) m (s.here live.1) (in_front live.0 Out is) in
          let bound = count_by-le-length is_there (set (map (state_in s.front) k.members) m Arrived) in
          let a = f.arrived_is in let t = s.team_is in
          to_next (advances c k s m x at live.0 is live.1 (omega (arith, fills, bound, a, length-set (map (state_in s.front) k.members) m Arrived, length-map k.members (state_in s.front), t)) (omega arith))
      go live (no more) _ = let a : Counts = counts_at k s.front in
          to_same (stays c k s m x (k.cells, a.key) (record a.numbers { arrived = a.numbers.arrived + 1 }) Arrived at live.1
          (front.arrives (work_at c s.front) (memory_after c s.front, none_yet) a.numbers (k.cells, a.key) (map (state_in s.front) k.members) m (s.here live.1) (in_front live.0 Out is))
          refl (omega arith) (omega arith) (λ e. subst Is_arrived e tt) (inl (omega arith)))
      go live (yes _) (no keyed) = let a : Counts = counts_at k s.front in
          to_same (stays c k s m x (k.cells, a.key) (record a.numbers { arrived = a.numbers.arrived + 1 }) Arrived at live.1
          (front.arrives (work_at c s.front) (memory_after c s.front, none_yet) a.numbers (k.cells, a.key) (map (state_in s.front) k.members) m (s.here live.1) (in_front live.0 Out is))
          refl (omega arith) (omega arith) (λ e. subst Is_arrived e tt) (inr (omega arith)))

  -- a change of the member alone
  changes : (y : Member) → (s.front < c.count → Front (work_at c s.front) (memory_after c s.front, none_yet) (counts_at k s.front).numbers (k.cells, (counts_at k s.front).key) (map (state_in s.front) (set k.members m y)))
      → Place c k s.front y → SoundAt c s.front (core_with k m y)
  changes y f p = (
    record {
      front = s.front;
      sized = s.sized;
      team_is = length-set k.members m y ∙ s.team_is;
      cells_are = s.cells_are;
      within = s.within;
      keyless = s.keyless;
      before = s.before;
      here = f;
      whole = s.whole;
      waiting = s.waiting;
      later = s.later;
      places = λ j z q. ⊎_elim (λ (g : (j ≡ m) × (y ≡ z)). subst (Place c k s.front) g.1 p) (λ (g : (j ≢ m) × (get_elem? k.members j ≡ some z)). s.places j z g.1) (at_set k.members m j y z q);
    },
    refl,
  )

  -- the same, where the front sees no change
  unseen : (y : Member) → (s.front < c.count → state_in s.front y ≡ state_in s.front x) → Place c k s.front y → SoundAt c s.front (core_with k m y)
  unseen y same p = changes y (λ live. subst (Front (work_at c s.front) (memory_after c s.front, none_yet) (counts_at k s.front).numbers (k.cells, (counts_at k s.front).key))
      (sym (map-set (state_in s.front) k.members m y ∙ (ap (set (map (state_in s.front) k.members) m) (same live) ∙ set_again (map (state_in s.front) k.members) m (state_in s.front x) (at_map (state_in s.front) k.members m x at)))) (s.here live)) p

  pub keeps_see : x.state ≡ Arrived → SoundAt c s.front (sees c k m x)
  keeps_see is = let b : Bool = eqb (counts_at k x.phase).numbers.arrived c.team in let y : Member = member x.phase Arrived b in
      unseen y (λ live. ap (λ (z : MemberState). state_in s.front (member x.phase z b)) (sym is)) (
        (λ e. counted b refl e),
        ⊎_elim (λ (a : (x.state ≡ Ended → ((counts_at k s.front).numbers.arrived ≡ c.team) × ((counts_at k s.front).key < none_yet)) × (x.phase ≡ s.front) × (s.front < c.count)). inl ((λ e. absurd (subst Is_arrived e tt)), a.1, a.2))
            (λ (g : ((x.state ≡ Arrived) × (suc x.phase ≡ s.front)) ⊎ ((x.state ≡ Ended) × (s.front ≡ c.count) × ((suc x.phase ≡ c.count) ⊎ (c.count ≡ 0)))). inr (⊎_elim (λ h. inl (refl, h.1)) (λ h. absurd (subst Is_arrived (sym is ∙ h.0) tt)) g)) (s.places m x at).1,
      )
    where
      counted : (b : Bool) → eqb (counts_at k x.phase).numbers.arrived c.team ≡ b → b ≡ true → (counts_at k x.phase).numbers.arrived ≡ c.team
      counted b e t = let h = e ∙ t in grind (arith, nat_tests)

  -- where a member stands that has seen its barrier full
  seen_full : x.state ≡ Arrived → x.full ≡ true → (((counts_at k s.front).key < none_yet) × (x.phase ≡ s.front) × (s.front < c.count)) ⊎ (suc x.phase ≡ s.front)
  seen_full is full = ⊎_elim (λ (a : (x.state ≡ Ended → ((counts_at k s.front).numbers.arrived ≡ c.team) × ((counts_at k s.front).key < none_yet)) × (x.phase ≡ s.front) × (s.front < c.count)).
      let all : (counts_at k s.front).numbers.arrived ≡ c.team = ap (λ (t : ℕ). (counts_at k t).numbers.arrived) (sym a.1) ∙ (s.places m x at).0 full in
      inl (⊎_elim (λ h. absurd (omega (arith, h, all))) (λ h. h) (s.waiting a.2), a.1, a.2))
      (λ (g : ((x.state ≡ Arrived) × (suc x.phase ≡ s.front)) ⊎ ((x.state ≡ Ended) × (s.front ≡ c.count) × ((suc x.phase ≡ c.count) ⊎ (c.count ≡ 0)))). inr (⊎_elim (λ h. h.1) (λ h. absurd (subst Is_arrived (sym is ∙ h.0) tt)) g)) (s.places m x at).1

  -- the key of a phase that has been left
  left_key : suc x.phase ≡ s.front → (counts_at k x.phase).key ≡ none_yet
  left_key e = ap (λ (v : Counts). v.key) (s.before x.phase (omega arith))

  pub keeps_judge : x.state ≡ Arrived → x.full ≡ true → SoundAt c s.front (judges c k m x)
  keeps_judge is full = go (seen_full is full) (dec_le none_yet (counts_at k x.phase).key)
    where
      to : (b d : Bool) → ltb (counts_at k x.phase).key none_yet ≡ b → eqb (suc x.phase) c.count ≡ d
          → SoundAt c s.front (core_with k m (cond b (member x.phase Ended false) (cond d (member x.phase Ended false) (member (suc x.phase) Ready false)))) → SoundAt c s.front (judges c k m x)
      to b d p q h = subst (λ (z : Bool × Bool). SoundAt c s.front (core_with k m (cond z.0 (member x.phase Ended false) (cond z.1 (member x.phase Ended false) (member (suc x.phase) Ready false))))) (λ i. (sym p i, sym q i)) h

      go : (((counts_at k s.front).key < none_yet) × (x.phase ≡ s.front) × (s.front < c.count)) ⊎ (suc x.phase ≡ s.front) → Dec (none_yet ≤ (counts_at k x.phase).key) → SoundAt c s.front (judges c k m x)
      go (inl a) _ = let e : (counts_at k x.phase).key ≡ (counts_at k s.front).key = ap (λ (t : ℕ). (counts_at k t).key) a.1 in let low = a.0 in
          to true (eqb (suc x.phase) c.count) (ltb_below (counts_at k x.phase).key none_yet (omega arith)) refl
          (let y : Member = member x.phase Ended false in
          let all : (counts_at k s.front).numbers.arrived ≡ c.team = ap (λ (t : ℕ). (counts_at k t).numbers.arrived) (sym a.1) ∙ (s.places m x at).0 full in
          changes y (λ live. subst (Front (work_at c s.front) (memory_after c s.front, none_yet) (counts_at k s.front).numbers (k.cells, (counts_at k s.front).key))
          (ap (set (map (state_in s.front) k.members) m) (sym (in_here s.front y a.1)) ∙ sym (map-set (state_in s.front) k.members m y))
          (front.ends (work_at c s.front) (memory_after c s.front, none_yet) (counts_at k s.front).numbers (k.cells, (counts_at k s.front).key) (map (state_in s.front) k.members) m (s.here live) (in_front a.1 Arrived is)))
          ((λ z. absurd (untrue z)), inl ((λ _. (all, low)), a.1, a.2)))
      go (inr b) (no low) = absurd (let e = left_key b in omega arith)
      go (inr b) (yes _) = let e = left_key b in dite (ℕ_discrete (suc x.phase) c.count)
          (λ last. to false true (ltb_not (counts_at k x.phase).key none_yet (omega arith)) (eq-eqb (suc x.phase) c.count last)
          (changes (member x.phase Ended false) (λ live. absurd (omega (arith, live, last, b))) ((λ z. absurd (untrue z)), inr (inr (refl, sym b ∙ last, inl last)))))
          (λ more. to false false (ltb_not (counts_at k x.phase).key none_yet (omega arith)) (ne_eqb (suc x.phase) c.count more)
          (let y : Member = member (suc x.phase) Ready false in let w = s.within in
          unseen y (λ live. in_here s.front y b ∙ sym (in_before s.front x (omega arith))) ((λ z. absurd (untrue z)), inl ((λ z. absurd (untrue (ap is_there z))), b, omega (arith, b, more, w)))))

  -- the key that a verdict reads is the least key of the phase
  pub judged_key : x.state ≡ Arrived → x.full ≡ true → (counts_at k x.phase).key ≡ key_at c x.phase
  judged_key is full = ⊎_elim (λ (a : ((counts_at k s.front).key < none_yet) × (x.phase ≡ s.front) × (s.front < c.count)).
      let t : ℕ = s.front in let f = s.here a.2 in
      let all : (counts_at k t).numbers.arrived ≡ c.team = ap (λ (u : ℕ). (counts_at k u).numbers.arrived) (sym a.1) ∙ (s.places m x at).0 full in
      let long : length (map (state_in t) k.members) ≡ c.team = length-map k.members (state_in t) ∙ s.team_is in
      let someone = inside k.members m x at in let g = s.team_is in
      let d = done_all (work_at c t) (memory_after c t, none_yet) (k.cells, (counts_at k t).key) (counts_at k t).numbers (map (state_in t) k.members) f (all ∙ sym long) (omega (arith, long, someone, g)) in
      subst (λ (u : ℕ). (counts_at k u).key ≡ key_at c u) (sym a.1) (ap (λ (z : Memory). z.1) d.0))
      (λ e. left_key e ∙ sym (s.keyless x.phase (omega arith))) (seen_full is full)
