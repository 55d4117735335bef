-- What a step leaves of what holds of a running core.
use Rattle.std.proofs.Common.{◌≡◌, ◌≢◌, ◌⊎◌, inl, inr, ℕ, zero, suc, ◌<◌, ◌≤◌, List, [], ◌∷◌, length, get_or, set, slice_index_or, slice_set, sym, refl, ap, ◌∙◌, subst, arith, ⊎_elim, length-set, get_or-set_other, get_or-set_same}
use Rattle.std.specs.Prelude as std
use mathlib.Core.Logic.{dite}
use native.Mathlib.Decide.{ℕ_discrete}
use mathlib.Core.Option.{none, some, some-ne-none}
use lib.ListN.{get_elem?}
use Rattle.team_core.specs.declared.member.MemberState.{MemberState}
use Rattle.team_core.specs.declared.member.MemberState.TheVariants.{Ready, Within, Out, Arrived, Ended}
use Rattle.team_core.specs.declared.state.Member.{Member}
use Rattle.team_core.specs.declared.state.CoreState.{CoreState}
use Rattle.phase_ops.specs.declared.effect.Effect.{Effect}
use Rattle.phase_ops.specs.Course.{Course, work_at}
use Rattle.team_core.specs.Core.{SoundAt, member_of, nobody, IsPlaced}
use Rattle.team_core.specs.Machines.{as_option, CanRun, HoldsFor, Holds, HoldsBut, Enters, Passed}
use Rattle.team_core.specs.declared.state.Counts.{Counts}
use Rattle.phase_ops.specs.Course.{Work, Memory, lay_both, memory_after}
use Rattle.team_core.specs.Core.{blank, arrives, member}
use Rattle.team_core.specs.Front.{laid}
use Rattle.std.proofs.Common.{◌++◌, take}
use Rattle.std.proofs.Common.{Bool, true, false}
use Rattle.phase_ops.specs.Phases.{none_yet}
use Rattle.team_core.specs.Front.{is_there}
use Rattle.team_core.specs.Core.{counts_at, start, first_state}
use Rattle.std.proofs.Common.{replicate, eqb, cond}
use Rattle.team_core.specs.Front.{is_within}
use Rattle.team_core.proofs.Fronts.{untrue}
use Rattle.team_core.proofs.Keeping.{at_front, in_front, keeps_arrive}
use Rattle.team_core.proofs.Ends.{starts, claimed_le, finished_le, arrived_le}

-- where nothing of any unit is done, nothing is laid
unlaid : (w : Work) (done : ℕ → ℕ) (k : ℕ) → ((u : ℕ) → done u ≡ 0) → laid w done k ≡ []
unlaid w done zero zeros = refl
unlaid w done (suc k) zeros = λ i. unlaid w done k zeros i ++ take (zeros k i) (w.effects k)

past_end : {A : Type 0} (l : List A) (i : ℕ) → get_elem? l i ≡ none → length l ≤ i
past_end [] i e = omega arith
past_end (x ∷ xs) zero e = absurd (some-ne-none x e)
past_end (x ∷ xs) (suc i) e = let h = past_end xs i e in omega (arith, h)

is_arrived : MemberState → Type 0
is_arrived Arrived = Unit {0}
is_arrived Ended = ⊥
is_arrived Ready = ⊥
is_arrived (Within u d) = ⊥
is_arrived Out = ⊥

untrue_ended : Arrived ≡ Ended → ⊥
unfolding is_arrived
untrue_ended e = subst is_arrived e tt

pub at_index : {A : Type 0} (l : List A) (i : ℕ) (d : A) → i < length l → get_elem? l i ≡ some (get_or l i d)
at_index [] i d h = absurd (omega arith)
at_index (x ∷ xs) zero d h = refl
at_index (x ∷ xs) (suc i) d h = at_index xs i d (omega arith)

module _ (c : Course) (k : CoreState) (pending : List (std.Option Effect)) (entered : ℕ) (ready : Type 0) (h : Holds c k pending entered ready) (m : ℕ) (there : m < c.team) where
  pub at_member : get_elem? k.members m ≡ some (member_of k m)
  at_member = at_index k.members m nobody (let e = h.sound.team_is in omega (arith, e, there))

  -- a step of the member m, which leaves the front where it is
  pub moved : (k' : CoreState) (y : Member) → k'.members ≡ slice_set k.members m y → SoundAt c h.sound.front k' → HoldsBut m c k' pending entered ready
  moved k' y is s' = record {
    can = h.can;
    sound = s'.0;
    entered_is = λ l. let e = h.entered_is (subst (λ (t : ℕ). t < c.count) s'.1 l) in (e.0 ∙ sym s'.1, e.1);
    sized = h.sized;
    pending_is = λ n u d other l st.
        let same : member_of k' n ≡ member_of k n = ap (λ (z : List Member). get_or z n nobody) is ∙ get_or-set_other k.members m n y nobody other in
        h.pending_is n u d tt l (ap (λ (z : Member). z.state) (sym same) ∙ st) ∙ ap (λ (z : Member). get_elem? ((work_at c z.phase).effects u) d) (sym same);
  }

module _ (c : Course) (k : CoreState) (pending : List (std.Option Effect)) (entered : ℕ) (ready : Type 0) (m : ℕ) (h : HoldsBut m c k pending entered ready) where
  -- the member holds no unit
  pub without : ((u d : ℕ) → (member_of k m).state ≡ Within u d → ⊥) → Holds c k pending entered ready
  without never = record {
    can = h.can;
    sound = h.sound;
    entered_is = h.entered_is;
    sized = h.sized;
    pending_is = λ n u d _ l st. dite (ℕ_discrete n m) (λ e. absurd (never u d (ap (λ (z : ℕ). (member_of k z).state) (sym e) ∙ st))) (λ e. h.pending_is n u d e l st);
  }

  -- the next effect of the member is found
  pub filled : (next : std.Option Effect) (entered' : ℕ) (ready' : Type 0) → entered' ≡ entered → (ready → ready') → m < c.team
      → ((u d : ℕ) → (member_of k m).state ≡ Within u d → as_option next ≡ get_elem? ((work_at c (member_of k m).phase).effects u) d)
      → Holds c k (slice_set pending m next) entered' ready'
  filled next entered' ready' same still there is = record {
    can = h.can;
    sound = h.sound;
    entered_is = λ l. let e = h.entered_is l in (same ∙ e.0, still e.1);
    sized = length-set pending m next ∙ h.sized;
    pending_is = λ n u d _ l st. dite (ℕ_discrete n m)
        (λ e. subst (λ (z : ℕ). (member_of k z).state ≡ Within u d → as_option (get_or (set pending m next) z std.None) ≡ get_elem? ((work_at c (member_of k z).phase).effects u) d) (sym e)
        (λ st'. ap (λ (z : std.Option Effect). as_option z) (get_or-set_same pending m next std.None (let z = h.sized in omega (arith, z, there))) ∙ is u d st') st)
        (λ e. ap (λ (z : std.Option Effect). as_option z) (get_or-set_other pending m n next std.None e) ∙ h.pending_is n u d e l st);
  }

module _ (Q : ℕ → Type 0) (c : Course) (k : CoreState) (pending : List (std.Option Effect)) (entered : ℕ) (ready : Type 0) (h : HoldsFor Q c k pending entered ready) (m : ℕ) (there : m < c.team) where
  member_there : get_elem? k.members m ≡ some (member_of k m)
  member_there = at_index k.members m nobody (let e = h.sound.team_is in omega (arith, e, there))

  -- the phase of a member that is before its barrier
  pub in_phase : is_there (member_of k m).state ≡ false → ((member_of k m).phase ≡ h.sound.front) × (h.sound.front < c.count)
  in_phase before = at_front c k h.sound m (member_of k m) member_there before

  pub entered_now : is_there (member_of k m).state ≡ false → entered ≡ (member_of k m).phase
  entered_now before = let p = in_phase before in (h.entered_is p.1).0 ∙ sym p.0

  pub ready_now : is_there (member_of k m).state ≡ false → ready
  ready_now before = (h.entered_is (in_phase before).1).1

  pub placed : is_there (member_of k m).state ≡ false → IsPlaced k m
  placed before = let p = in_phase before in let e = h.sound.sized in let f = h.sound.team_is in let p₀ = p.0 in let p₁ = p.1 in record { one = omega (arith, f, there); at_phase = omega (arith, p₀, p₁, e) }

  pub placed_arrived : (member_of k m).state ≡ Arrived → IsPlaced k m
  placed_arrived is = let e = h.sound.sized in let f = h.sound.team_is in let w = h.sound.within in record {
    one = omega (arith, f, there);
    at_phase = ⊎_elim (λ (a : ((member_of k m).state ≡ Ended → ((counts_at k h.sound.front).numbers.arrived ≡ c.team) × ((counts_at k h.sound.front).key < none_yet)) × ((member_of k m).phase ≡ h.sound.front) × (h.sound.front < c.count)).
        let a₁ = a.1 in let a₂ = a.2 in omega (arith, a₁, a₂, e))
        (λ (b : (((member_of k m).state ≡ Arrived) × (suc (member_of k m).phase ≡ h.sound.front)) ⊎ (((member_of k m).state ≡ Ended) × (h.sound.front ≡ c.count) × ((suc (member_of k m).phase ≡ c.count) ⊎ (c.count ≡ 0)))).
        ⊎_elim (λ g. let g₁ = g.1 in omega (arith, g₁, w, e)) (λ g. absurd (untrue_ended (sym is ∙ g.0))) b)
        (h.sound.places m (member_of k m) member_there).1;
  }

  few : (t : ℕ) → t ≡ h.sound.front → t < c.count → (work_at c t).units ≤ 65536
  few t e l = h.can.few_units t l (λ s b. h.sound.keyless s (omega (arith, b, e)))

  pub unit_there : (u d : ℕ) → (member_of k m).state ≡ Within u d → u < (work_at c entered).units
  unit_there u d is = let before : is_there (member_of k m).state ≡ false = ap is_there is in let p = in_phase before in
      subst (λ (t : ℕ). u < (work_at c t).units) (sym (h.entered_is p.1).0) ((h.sound.here p.1).held m u d (in_front c k h.sound m (member_of k m) member_there p.0 (Within u d) is)).1

  pub claimed_room : (member_of k m).state ≡ Ready → (counts_at k (member_of k m).phase).numbers.claimed < 9223372036854775808
  claimed_room is = let p = in_phase (ap is_there is) in let a = claimed_le c k h.sound m (member_of k m) member_there is in
      let p₀ = p.0 in let p₁ = p.1 in
      let b = few (member_of k m).phase p.0 (omega (arith, p₀, p₁)) in let t = h.can.team_small in omega (arith, a, b, t)

  pub finished_room : (u d : ℕ) → (member_of k m).state ≡ Within u d → (counts_at k (member_of k m).phase).numbers.finished < 9223372036854775808
  finished_room u d is = let p = in_phase (ap is_there is) in let a = finished_le c k h.sound m (member_of k m) member_there u d is in
      let p₀ = p.0 in let p₁ = p.1 in
      let b = few (member_of k m).phase p.0 (omega (arith, p₀, p₁)) in omega (arith, a, b)

  pub arrived_room : (counts_at k (member_of k m).phase).numbers.arrived < 9223372036854775808
  arrived_room = let a = arrived_le c k h.sound m (member_of k m) member_there in let t = h.can.team_small in omega (arith, a, t)

  pub done_room : (u d : ℕ) → (member_of k m).state ≡ Within u d → d < 9223372036854775808
  done_room u d is = let p = in_phase (ap is_there is) in
      let a = ((h.sound.here p.1).held m u d (in_front c k h.sound m (member_of k m) member_there p.0 (Within u d) is)).2 in
      let b = h.can.few_effects h.sound.front u p.1 h.sound.keyless in omega (arith, a, b)

  pub phase_room : (member_of k m).state ≡ Arrived → (member_of k m).phase < 9223372036854775808
  phase_room is = let p = (placed_arrived is).at_phase in let s = h.sound.sized in let f = h.can.few in omega (arith, p, s, f)

module _ (c : Course) (k : CoreState) (pending : List (std.Option Effect)) (entered : ℕ) (ready : Type 0) (h : Holds c k pending entered ready) (m : ℕ) (there : m < c.team) (u d : ℕ) (is : (member_of k m).state ≡ Within u d) where
  pub next_is : (e : Effect) → slice_index_or pending m std.None ≡ std.Some e → get_elem? ((work_at c (member_of k m).phase).effects u) d ≡ some e
  next_is e q = sym (h.pending_is m u d tt there is) ∙ ap (λ (z : std.Option Effect). as_option z) q

  pub none_is : slice_index_or pending m std.None ≡ std.None → get_elem? ((work_at c (member_of k m).phase).effects u) d ≡ none
  none_is q = sym (h.pending_is m u d tt there is) ∙ ap (λ (z : std.Option Effect). as_option z) q

  pub whole_is : slice_index_or pending m std.None ≡ std.None → d ≡ length ((work_at c (member_of k m).phase).effects u)
  whole_is q =
      let at = at_index k.members m nobody (let e = h.sound.team_is in omega (arith, e, there)) in
      let p = at_front c k h.sound m (member_of k m) at (ap is_there is) in
      let held = ((h.sound.here p.1).held m u d (in_front c k h.sound m (member_of k m) at p.0 (Within u d) is)).2 in
      let low : d ≤ length ((work_at c (member_of k m).phase).effects u) = subst (λ (t : ℕ). d ≤ length ((work_at c t).effects u)) (sym p.0) held in
      let high = past_end ((work_at c (member_of k m).phase).effects u) d (none_is q) in
      omega (arith, low, high)

-- the same, of equal parts
pub rebase : (Q : ℕ → Type 0) (c c' : Course) (k k' : CoreState) (pending pending' : List (std.Option Effect)) (entered entered' : ℕ) (ready ready' : Type 0) → c' ≡ c → k' ≡ k → pending' ≡ pending → entered' ≡ entered → (ready → ready')
    → HoldsFor Q c k pending entered ready → HoldsFor Q c' k' pending' entered' ready'
rebase Q c c' k k' pending pending' entered entered' ready ready' a b p e r h =
    let g : HoldsFor Q c k pending entered ready' = record { can = h.can; sound = h.sound; entered_is = λ l. let z = h.entered_is l in (z.0, r z.1); sized = h.sized; pending_is = h.pending_is } in
    subst (λ (x : Course × CoreState × List (std.Option Effect) × ℕ). HoldsFor Q x.0 x.1 x.2 x.3 ready') (λ i. (sym a i, sym b i, sym p i, sym e i)) g

-- the member m has taken a step that leaves k'', which is sound for the member as it stands
pub leaves : (c : Course) (k : CoreState) (pending : List (std.Option Effect)) (entered : ℕ) (ready : Type 0) (h : Holds c k pending entered ready) (m : ℕ) (there : m < c.team) (k' k'' : CoreState) (y : Member)
    → k'' ≡ k' → k'.members ≡ slice_set k.members m y → (get_elem? k.members m ≡ some (member_of k m) → SoundAt c h.sound.front k') → HoldsBut m c k'' pending entered ready
leaves c k pending entered ready h m there k' k'' y is members sound =
    rebase (λ n. n ≢ m) c c k' k'' pending pending entered entered ready ready refl is refl refl (λ z. z) (moved c k pending entered ready h m there k' y members (sound (at_member c k pending entered ready h m there)))

-- ---- the start

get_replicate : {A : Type 0} (n i : ℕ) (a d : A) → i < n → get_or (replicate n a) i d ≡ a
get_replicate zero i a d l = absurd (omega (arith, l))
get_replicate (suc n) zero a d l = refl
get_replicate (suc n) (suc i) a d l = get_replicate n i a d (omega (arith, l))

first_free : (count u d : ℕ) → first_state count ≡ Within u d → ⊥
first_free count u d e = go (eqb count 0) e
  where
    go : (b : Bool) → cond b Ended Ready ≡ Within u d → ⊥
    go true e = untrue (ap is_within e)
    go false e = untrue (ap is_within e)

pub begins : (c : Course) (k : CoreState) (pending : List (std.Option Effect)) (entered : ℕ) (ready : Type 0) → CanRun c → k ≡ start c → length pending ≡ c.team → (0 < c.count → (entered ≡ 0) × ready) → Holds c k pending entered ready
begins c k pending entered ready can is long now = let s = starts c can.someone in rebase (λ m. Unit {0}) c c (start c) k pending pending entered entered ready ready refl is refl refl (λ z. z) (record {
  can = can;
  sound = s.0;
  entered_is = λ l. let e = now (let z = s.1 in omega (arith, l, z)) in (e.0 ∙ sym s.1, e.1);
  sized = long;
  pending_is = λ m u d _ l st. absurd (first_free c.count u d (ap (λ (z : Member). z.state) (sym (get_replicate c.team m (member 0 (first_state c.count) false) nobody l)) ∙ st));
})

-- ---- the barrier

module _ (c : Course) (k : CoreState) (pending : List (std.Option Effect)) (entered : ℕ) (ready : Type 0) (h : Holds c k pending entered ready) (m : ℕ) (there : m < c.team) (is : (member_of k m).state ≡ Out) where
  pub passed : Passed m c (arrives k m (member_of k m)) pending entered ready (member_of k m).phase
  passed =
      let x : Member = member_of k m in
      let at = at_index k.members m nobody (let e = h.sound.team_is in omega (arith, e, there)) in
      let p = at_front c k h.sound m x at (ap is_there is) in
      let a = keeps_arrive c k h.sound m x at is in
      let y : Member = member x.phase Arrived false in record {
        can = h.can;
        sound = a.0;
        live = (let p₀ = p.0 in let p₁ = p.1 in omega (arith, p₀, p₁));
        front_is = ⊎_elim (λ e. inl (e ∙ sym p.0)) (λ e. inr (e ∙ ap suc (sym p.0))) a.1;
        entered_is = (let e = h.entered_is p.1 in (e.0 ∙ sym p.0, e.1));
        next_blank = get_or-set_other k.counts x.phase (suc x.phase) _ blank (λ e. omega (arith, e)) ∙ h.sound.later (suc x.phase) (let p₀ = p.0 in omega (arith, p₀));
        sized = h.sized;
        pending_is = λ n u d other l st.
            let same : member_of (arrives k m x) n ≡ member_of k n = get_or-set_other k.members m n y nobody other in
            h.pending_is n u d tt l (ap (λ (z : Member). z.state) (sym same) ∙ st) ∙ ap (λ (z : Member). get_elem? ((work_at c z.phase).effects u) d) (sym same);
      }

module _ (m : ℕ) (c : Course) (k : CoreState) (pending : List (std.Option Effect)) (entered : ℕ) (ready : Type 0) (t : ℕ) (h : Passed m c k pending entered ready t) where
  -- the phase stays entered, where it is not left or is the last
  pub remains : ((counts_at k t).numbers.arrived ≡ c.team → (counts_at k t).key ≡ none_yet → suc t < c.count → ⊥) → HoldsBut m c k pending entered ready
  remains stays' = record {
    can = h.can;
    sound = h.sound;
    entered_is = λ l. ⊎_elim (λ e. (h.entered_is.0 ∙ sym e, h.entered_is.1))
        (λ e. let z = h.sound.before t (omega (arith, e)) in absurd (stays' (ap (λ (v : Counts). v.numbers.arrived) z) (ap (λ (v : Counts). v.key) z) (omega (arith, e, l)))) h.front_is;
    sized = h.sized;
    pending_is = h.pending_is;
  }

  module _ (full : (counts_at k t).numbers.arrived ≡ c.team) (keyless : (counts_at k t).key ≡ none_yet) (more : suc t < c.count) where
    front_next : h.sound.front ≡ suc t
    front_next = ⊎_elim (λ e. absurd (⊎_elim (λ w. let f : (counts_at k h.sound.front).numbers.arrived ≡ c.team = ap (λ (z : ℕ). (counts_at k z).numbers.arrived) e ∙ full in omega (arith, f, w))
        (λ w. let f : (counts_at k h.sound.front).key ≡ none_yet = ap (λ (z : ℕ). (counts_at k z).key) e ∙ keyless in omega (arith, f, w)) (h.sound.waiting (let l = h.live in omega (arith, e, l))))) (λ e. e) h.front_is

    pub enters : Enters c (suc t) k.cells
    enters =
        let live : h.sound.front < c.count = omega (arith, front_next, more) in
        let f = h.sound.here live in
        let none_claimed : (counts_at k h.sound.front).numbers.claimed ≡ 0 = ap (λ (z : ℕ). (counts_at k z).numbers.claimed) front_next ∙ ap (λ (z : Counts). z.numbers.claimed) h.next_blank in
        let same : k.cells ≡ memory_after c h.sound.front =
        ap (λ (z : Memory). z.0) f.now_is ∙ ap (λ (es : List Effect). (lay_both (memory_after c h.sound.front, none_yet) es).0) (unlaid (work_at c h.sound.front) f.done (work_at c h.sound.front).units (λ u. f.later u (omega (arith, none_claimed)))) in record {
          there = more;
          keyless = λ s l. h.sound.keyless s (omega (arith, l, front_next));
          cells_are = same ∙ ap (memory_after c) front_next;
        }

    pub entered_next : (ready' : Type 0) → ready' → (entered' : ℕ) → entered' ≡ suc t → HoldsBut m c k pending entered' ready'
    entered_next ready' now entered' is = record {
      can = h.can;
      sound = h.sound;
      entered_is = λ l. (is ∙ sym front_next, now);
      sized = h.sized;
      pending_is = h.pending_is;
    }
