-- The start of a core, what its members read, and its end.
use Rattle.std.proofs.Common.{◌≡◌, ◌⊎◌, ℕ, zero, suc, ◌+◌, ◌<◌, ◌≤◌, Bool, false, cond, List, [], ◌∷◌, map, length, take, get_or, sym, refl, ap, ◌∙◌, subst, arith, ⊎_elim, inl, inr, eq-eqb, ne_eqb}
use mathlib.Core.Logic.{dite}
use mathlib.Core.Option.{some, some-injective, some-ne-none}
use native.Mathlib.Decide.{ℕ_discrete, dec_le}
use lib.ListN.{get_elem?, length-map}
use Rattle.std.proofs.lemmas.List.Sums.{count_by-le-length}
use Rattle.team_core.specs.declared.member.MemberState.{MemberState}
use Rattle.team_core.specs.declared.member.MemberState.TheVariants.{Ready, Within, Out, Arrived, Ended}
use Rattle.phase_ops.specs.Course.{Memory}
use Rattle.team_core.specs.Front.{is_past, is_there, laid, Front}
use Rattle.phase_ops.specs.Phases.{none_yet}
use Rattle.phase_ops.specs.Course.{Course, memory_after, work_at, key_at, Safe}
use Rattle.team_core.specs.declared.state.Counts.{Counts}
use Rattle.team_core.specs.declared.state.Member.{Member}
use Rattle.team_core.specs.declared.state.CoreState.{CoreState}
use Rattle.team_core.specs.Core.{SoundAt, blank, counts_at, state_in, Place, Sound, member}
use Rattle.team_core.proofs.Laying.{laid_read}
use Rattle.team_core.proofs.Fronts.{in_here, untrue}
use Rattle.team_core.proofs.Barrier.{done_all, fresh}
use Rattle.team_core.specs.Core.{first_state, start, Ending}
use Rattle.team_core.proofs.Laying.{laid_quiet}
use Rattle.phase_ops.specs.Free.{In}
use Rattle.phase_ops.specs.Phases.{Cells, lay}
use Rattle.phase_ops.proofs.Courses.{lay_cells}
use Rattle.std.proofs.Common.{slice_index}
use Rattle.std.proofs.Common.{replicate}
use lib.ListN.{length-replicate}
use Rattle.team_core.proofs.Advance.{map_at}
use Rattle.team_core.proofs.Keeping.{at_front, in_front}

abbrev Is_ended : MemberState → Type 0
Is_ended Ready = ⊥
Is_ended (Within u d) = ⊥
Is_ended Out = ⊥
Is_ended Arrived = ⊥
Is_ended Ended = Unit {0}

get_or_past : {A : Type 0} (xs : List A) (i : ℕ) (d : A) → length xs ≤ i → get_or xs i d ≡ d
get_or_past [] i d h = refl
get_or_past (x ∷ xs) zero d h = absurd (omega arith)
get_or_past (x ∷ xs) (suc i) d h = get_or_past xs i d (omega arith)

replicated : {A : Type 0} (n i : ℕ) (a b : A) → get_elem? (replicate n a) i ≡ some b → (i < n) × (a ≡ b)
replicated zero i a b e = absurd (some-ne-none b (sym e))
replicated (suc n) zero a b e = (omega arith, some-injective a b e)
replicated (suc n) (suc i) a b e = let r = replicated n i a b e in let r₀ = r.0 in (omega arith, r.1)

blank_at : (n t : ℕ) → get_or (replicate n blank) t blank ≡ blank
blank_at zero t = refl
blank_at (suc n) zero = refl
blank_at (suc n) (suc t) = blank_at n t

pub starts : (c : Course) → 0 < c.team → SoundAt c 0 (start c)
starts c someone = (
  record {
    front = 0;
    sized = length-replicate c.count blank;
    team_is = length-replicate c.team (member 0 (first_state c.count) false);
    cells_are = refl;
    within = omega arith;
    keyless = λ t l. absurd (omega arith);
    before = λ t l. absurd (omega arith);
    here = λ live. subst (λ (z : Counts). Front (work_at c 0) (memory_after c 0, none_yet) z.numbers (c.opening, z.key) (map (state_in 0) (start c).members)) (sym (blank_at c.count 0))
        (fresh (work_at c 0) (memory_after c 0, none_yet) (map (state_in 0) (start c).members) (λ m x q. let g = map_at (state_in 0) (start c).members m x q in
        sym g.2 ∙ (ap (state_in 0) (sym (replicated c.team m (member 0 (first_state c.count) false) g.0 g.1).1) ∙ (in_here 0 (member 0 (first_state c.count) false) refl ∙ begins live))));
    whole = λ _. refl;
    waiting = λ _. inl (subst (λ (z : Counts). z.numbers.arrived < c.team) (sym (blank_at c.count 0)) someone);
    later = λ t l. blank_at c.count t;
    places = λ m x q. subst (Place c (start c) 0) (replicated c.team m (member 0 (first_state c.count) false) x q).1 (
      (λ e. absurd (untrue e)),
      dite (ℕ_discrete c.count 0)
          (λ e. inr (inr (ap (λ (b : Bool). cond b Ended Ready) (eq-eqb c.count 0 e), sym e, inr e)))
          (λ e. inl ((λ q'. absurd (untrue (ap is_there (sym (begins (omega arith)) ∙ q')))), refl, omega arith)),
    );
  },
  refl,
)
  where
    begins : 0 < c.count → first_state c.count ≡ Ready
    begins live = ap (λ (b : Bool). cond b Ended Ready) (ne_eqb c.count 0 (λ e. omega arith))

module _ (c : Course) (k : CoreState) (s : Sound c k) (m : ℕ) (x : Member) (at : get_elem? k.members m ≡ some x) where
  -- what a member reads in its unit
  pub looks_within : Safe c → (u d cell : ℕ) → x.state ≡ Within u d → In cell ((work_at c x.phase).reads u)
      → slice_index k.cells cell ≡ slice_index (lay (memory_after c x.phase) (take d ((work_at c x.phase).effects u))) cell
  looks_within safe u d cell is read = let live = at_front c k s m x at (ap is_there is) in let t : ℕ = s.front in let f = s.here live.1 in
      let h = f.held m u d (in_front c k s m x at live.0 (Within u d) is) in
      subst (λ (z : ℕ). slice_index k.cells cell ≡ slice_index (lay (memory_after c z) (take d ((work_at c z).effects u))) cell) (sym live.0)
      (ap (λ (z : Memory). slice_index z.0 cell) f.now_is ∙ ap (λ (z : Cells). slice_index z cell) (lay_cells (memory_after c t, none_yet) (laid (work_at c t) f.done (work_at c t).units))
      ∙ laid_read (work_at c t) (safe t live.1 s.keyless) (memory_after c t) f.done u (work_at c t).units cell (omega arith) h.1 (subst (λ (z : ℕ). In cell ((work_at c z).reads u)) live.0 read)
      ∙ ap (λ (z : ℕ). slice_index (lay (memory_after c t) (take z ((work_at c t).effects u))) cell) h.3)

  pub looks_ready : Safe c → (cell : ℕ) → x.state ≡ Ready → In cell (work_at c x.phase).parameter → slice_index k.cells cell ≡ slice_index (memory_after c x.phase) cell
  looks_ready safe cell is read = let live = at_front c k s m x at (ap is_there is) in let t : ℕ = s.front in let f = s.here live.1 in
      let read' : In cell (work_at c t).parameter = subst (λ (z : ℕ). In cell (work_at c z).parameter) live.0 read in
      subst (λ (z : ℕ). slice_index k.cells cell ≡ slice_index (memory_after c z) cell) (sym live.0)
      (ap (λ (z : Memory). slice_index z.0 cell) f.now_is ∙ ap (λ (z : Cells). slice_index z cell) (lay_cells (memory_after c t, none_yet) (laid (work_at c t) f.done (work_at c t).units))
      ∙ laid_quiet (work_at c t) (memory_after c t) f.done (work_at c t).units cell (λ v l q. (safe t live.1 s.keyless).parameter_apart v cell l q read'))

  pub ends : 0 < c.team → x.state ≡ Ended → (entered : ℕ) × Ending c k entered
  ends someone is = ⊎_elim (λ (a : (x.state ≡ Ended → ((counts_at k s.front).numbers.arrived ≡ c.team) × ((counts_at k s.front).key < none_yet)) × (x.phase ≡ s.front) × (s.front < c.count)).
      let t : ℕ = s.front in let g = a.0 is in let f = s.here a.2 in
      let long : length (map (state_in t) k.members) ≡ c.team = length-map k.members (state_in t) ∙ s.team_is in
      let d = done_all (work_at c t) (memory_after c t, none_yet) (k.cells, (counts_at k t).key) (counts_at k t).numbers (map (state_in t) k.members) f (g.0 ∙ sym long) (omega (arith, long, someone)) in (
        suc t,
        record {
          within = a.2;
          cells_are = ap (λ (z : Memory). z.0) d.0;
          earlier = λ u l. ap (λ (v : Counts). v.key) (s.before u (omega arith));
          keys = λ u l. dite (ℕ_discrete u t) (λ e. ap (λ (z : ℕ). (counts_at k z).key) e ∙ (ap (λ (z : Memory). z.1) d.0 ∙ ap (key_at c) (sym e))) (λ e. ap (λ (v : Counts). v.key) (s.before u (omega arith)) ∙ sym (s.keyless u (omega arith)));
          stopped = λ _. (t, refl, g.1);
          finished = λ u l. dite (ℕ_discrete u t) (λ e. ap (λ (z : ℕ). (counts_at k z).numbers.finished) e ∙ (d.2 ∙ ap (λ (z : ℕ). (work_at c z).units) (sym e))) (λ e. ap (λ (v : Counts). v.numbers.finished) (s.before u (omega arith)));
          untouched = λ u l. s.later u l;
        },
      ))
      (λ (b : ((x.state ≡ Arrived) × (suc x.phase ≡ s.front)) ⊎ ((x.state ≡ Ended) × (s.front ≡ c.count) × ((suc x.phase ≡ c.count) ⊎ (c.count ≡ 0)))). ⊎_elim (λ h. absurd (subst Is_ended (sym is ∙ h.0) tt))
      (λ h. (
        c.count,
        record {
          within = omega arith;
          cells_are = s.whole h.1 ∙ ap (memory_after c) h.1;
          earlier = λ u l. let e = h.1 in ap (λ (v : Counts). v.key) (s.before u (omega arith));
          keys = λ u l. let e = h.1 in ap (λ (v : Counts). v.key) (s.before u (omega arith)) ∙ sym (s.keyless u (omega arith));
          stopped = λ l. absurd (omega arith);
          finished = λ u l. let e = h.1 in ap (λ (v : Counts). v.numbers.finished) (s.before u (omega arith));
          untouched = λ u l. beyond u l;
        },
      )) b) (s.places m x at).1
    where
      beyond : (u : ℕ) → c.count ≤ u → counts_at k u ≡ blank
      beyond u l = get_or_past k.counts u blank (let z = s.sized in omega arith)

  -- bounds on the numbers
  pub claimed_le : x.state ≡ Ready → (counts_at k x.phase).numbers.claimed ≤ (work_at c x.phase).units + c.team
  claimed_le is = let live = at_front c k s m x at (ap is_there is) in let t : ℕ = s.front in let f = s.here live.1 in let a = f.claimed_is in
      let b = count_by-le-length is_past (map (state_in t) k.members) in let l = length-map k.members (state_in t) in let g = s.team_is in
      subst (λ (z : ℕ). (counts_at k z).numbers.claimed ≤ (work_at c z).units + c.team) (sym live.0) (omega (arith, a, b, l, g))

  pub finished_le : (u d : ℕ) → x.state ≡ Within u d → (counts_at k x.phase).numbers.finished ≤ (work_at c x.phase).units
  finished_le u d is = let live = at_front c k s m x at (ap is_there is) in let t : ℕ = s.front in let f = s.here live.1 in let a = f.finished_is in
      subst (λ (z : ℕ). (counts_at k z).numbers.finished ≤ (work_at c z).units) (sym live.0) (omega (arith, a))

  pub arrived_le : (counts_at k x.phase).numbers.arrived ≤ c.team
  arrived_le = dite (dec_le s.front x.phase)
      (λ late. dite (ℕ_discrete x.phase s.front) (λ e. dite (dec_le c.count s.front)
      (λ done. none_there x.phase (omega arith))
      (λ live. let f = s.here (omega arith) in let a = f.arrived_is in let b = count_by-le-length is_there (map (state_in s.front) k.members) in let l = length-map k.members (state_in s.front) in let g = s.team_is in
      subst (λ (z : ℕ). (counts_at k z).numbers.arrived ≤ c.team) (sym e) (omega (arith, a, b, l, g))))
      (λ e. let z = ap (λ (v : Counts). v.numbers.arrived) (s.later x.phase (omega arith)) in omega (arith, z)))
      (λ early. let z = ap (λ (v : Counts). v.numbers.arrived) (s.before x.phase (omega arith)) in omega (arith, z))
    where
      none_there : (u : ℕ) → c.count ≤ u → (counts_at k u).numbers.arrived ≤ c.team
      none_there u l = let z = ap (λ (v : Counts). v.numbers.arrived) (get_or_past k.counts u blank (let w = s.sized in omega arith)) in omega (arith, z)
