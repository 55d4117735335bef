-- The last arrival without a key.
use Rattle.std.proofs.Common.{◌≡◌, ◌≢◌, ◌⊎◌, ℕ, zero, suc, ◌+◌, ◌<◌, true, false, List, [], ◌∷◌, map, length, set, sym, refl, ap, ◌∙◌, subst, arith, ⊎_elim, inl, inr, length-set, get_or-set_other, get_or-set_same}
use mathlib.Core.Logic.{dite}
use mathlib.Core.Option.{some, some-injective, some-ne-none}
use native.Mathlib.Decide.{ℕ_discrete}
use lib.ListN.{get_elem?, length-map}
use Rattle.team_core.proofs.Lists.{at_set, set_else, at_map, inside}
use Rattle.team_core.specs.declared.member.MemberState.{MemberState}
use Rattle.team_core.specs.declared.member.MemberState.TheVariants.{Ready, Within, Out, Arrived, Ended}
use Rattle.phase_ops.specs.Course.{Memory, Work}
use Rattle.team_core.specs.declared.state.Numbers.{Numbers}
use Rattle.team_core.specs.Front.{is_there, Front}
use Rattle.phase_ops.specs.Phases.{none_yet}
use Rattle.phase_ops.specs.Course.{Course, memory_after, work_at, key_at}
use Rattle.team_core.specs.declared.state.Counts.{Counts}
use Rattle.team_core.specs.declared.state.Member.{Member}
use Rattle.team_core.specs.declared.state.CoreState.{CoreState}
use Rattle.team_core.specs.Core.{SoundAt, blank, counts_at, settled, state_in, Sound, member, core_after}
use Rattle.team_core.proofs.FrontSteps.{arrives}
use Rattle.team_core.proofs.Fronts.{in_here, in_before, untrue}
use Rattle.team_core.proofs.Barrier.{done_all, all_pass, fresh}

pub map_at : {A B : Type 0} (f : A → B) (xs : List A) (i : ℕ) (b : B) → get_elem? (map f xs) i ≡ some b → (a : A) × (get_elem? xs i ≡ some a) × (f a ≡ b)
map_at f [] i b e = absurd (some-ne-none b (sym e))
map_at f (x ∷ xs) zero b e = (x, refl, some-injective (f x) b e)
map_at f (x ∷ xs) (suc i) b e = map_at f xs i b e

there_is : (x : MemberState) → is_there x ≡ true → (x ≡ Arrived) ⊎ (x ≡ Ended)
there_is Ready e = absurd (untrue e)
there_is (Within u d) e = absurd (untrue e)
there_is Out e = absurd (untrue e)
there_is Arrived e = inl refl
there_is Ended e = inr refl

module _ (c : Course) (k : CoreState) (s : Sound c k) where
  pub advances : (m : ℕ) (x : Member) → get_elem? k.members m ≡ some x → x.phase ≡ s.front → x.state ≡ Out → s.front < c.count
      → (counts_at k s.front).numbers.arrived + 1 ≡ c.team → (counts_at k s.front).key ≡ none_yet
      → SoundAt c (suc s.front) (core_after k m s.front (k.cells, (counts_at k s.front).key) (record (counts_at k s.front).numbers { arrived = (counts_at k s.front).numbers.arrived + 1 }) (member s.front Arrived false))
  advances m x at px sx live fills keyless =
      let t : ℕ = s.front in
      let w : Work = work_at c t in
      let start : Memory = (memory_after c t, none_yet) in
      let old : Counts = counts_at k t in
      let n : Numbers = record old.numbers { arrived = old.numbers.arrived + 1 } in
      let now : Memory = (k.cells, old.key) in
      let y : Member = member t Arrived false in
      let k' : CoreState = core_after k m t now n y in
      let states : List MemberState = map (state_in t) k.members in
      let at' : get_elem? states m ≡ some Out = at_map (state_in t) k.members m x at ∙ ap (λ (z : MemberState). some z) (in_here t x px ∙ sx) in
      let f : Front w start n now (set states m Arrived) = arrives w start old.numbers now states m (s.here live) at' in
      let long : length (set states m Arrived) ≡ c.team = length-set states m Arrived ∙ length-map k.members (state_in t) ∙ s.team_is in
      let someone = inside k.members m x at in
      let team_is = s.team_is in
      let d = done_all w start now n (set states m Arrived) f (fills ∙ sym long) (omega (arith, long, someone, team_is)) in
      let here : counts_at k' t ≡ record { numbers = n; key = old.key } = get_or-set_same k.counts t (record { numbers = n; key = old.key }) blank (let z = s.sized in omega arith) in
      let others : (u : ℕ) → u ≢ t → counts_at k' u ≡ counts_at k u = λ u e. get_or-set_other k.counts t u (record { numbers = n; key = old.key }) blank e in
      let settles : counts_at k' t ≡ settled c t = here ∙ (λ i. record { numbers = record { claimed = (d.1 ∙ ap (λ (z : ℕ). w.units + z) long) i; finished = d.2 i; arrived = fills i }; key = keyless i }) in
      let cells : k.cells ≡ memory_after c (suc t) = ap (λ (z : Memory). z.0) d.0 in
      let keys : key_at c t ≡ none_yet = sym (ap (λ (z : Memory). z.1) d.0) ∙ keyless in
      let all_there : (j : ℕ) (z : MemberState) → get_elem? (set states m Arrived) j ≡ some z → is_there z ≡ true = λ j z. all_pass is_there (set states m Arrived) Arrived j z (sym f.arrived_is ∙ (fills ∙ sym long)) refl in
      let old_one : (j : ℕ) (z : Member) → j ≢ m → get_elem? k.members j ≡ some z → (z.phase ≡ t) × (z.state ≡ Arrived) = λ j z e q.
      let there : is_there (state_in t z) ≡ true = all_there j (state_in t z) (set_else states m j Arrived e ∙ at_map (state_in t) k.members j z q) in
      ⊎_elim (λ (a : (z.state ≡ Ended → (old.numbers.arrived ≡ c.team) × (old.key < none_yet)) × (z.phase ≡ t) × (t < c.count)). (
        a.1,
        ⊎_elim (λ g. g)
            (λ g. let b = a.0 g in let b₁ = b.1 in absurd (omega (arith, b₁, keyless))) (there_is z.state (ap is_there (sym (in_here t z a.1)) ∙ there)),
      ))
      (λ (b : ((z.state ≡ Arrived) × (suc z.phase ≡ t)) ⊎ ((z.state ≡ Ended) × (t ≡ c.count) × ((suc z.phase ≡ c.count) ⊎ (c.count ≡ 0)))). absurd (⊎_elim
      (λ g. let g₁ = g.1 in untrue (ap is_there (sym (in_before t z (omega arith))) ∙ there))
      (λ g. let g₁ = g.1 in omega arith) b)) (s.places j z q).1 in
      let each : (j : ℕ) (z : Member) → get_elem? k'.members j ≡ some z → (z.phase ≡ t) × (z.state ≡ Arrived) = λ j z q.
      ⊎_elim (λ (g : (j ≡ m) × (y ≡ z)). (sym (ap (λ (v : Member). v.phase) g.1), sym (ap (λ (v : Member). v.state) g.1)))
      (λ (g : (j ≢ m) × (get_elem? k.members j ≡ some z)). old_one j z g.0 g.1) (at_set k.members m j y z q) in
      let next : counts_at k' (suc t) ≡ blank = others (suc t) (λ e. omega arith) ∙ s.later (suc t) (omega arith) in (
        record {
          front = suc t;
          sized = length-set k.counts t (record { numbers = n; key = old.key }) ∙ s.sized;
          team_is = length-set k.members m y ∙ s.team_is;
          cells_are = s.cells_are;
          within = omega arith;
          keyless = λ u l. dite (ℕ_discrete u t) (λ e. ap (key_at c) e ∙ keys) (λ e. s.keyless u (omega arith));
          before = λ u l. dite (ℕ_discrete u t) (λ e. ap (counts_at k') e ∙ (settles ∙ ap (settled c) (sym e))) (λ e. others u e ∙ s.before u (omega arith));
          here = λ more. subst (λ (z : Counts). Front (work_at c (suc t)) (memory_after c (suc t), none_yet) z.numbers (k.cells, z.key) (map (state_in (suc t)) k'.members)) (sym next)
              (subst (λ (z : List ℕ). Front (work_at c (suc t)) (memory_after c (suc t), none_yet) blank.numbers (z, none_yet) (map (state_in (suc t)) k'.members)) (sym cells)
              (fresh (work_at c (suc t)) (memory_after c (suc t), none_yet) (map (state_in (suc t)) k'.members)
              (λ j z q. let g = map_at (state_in (suc t)) k'.members j z q in let p = (each j g.0 g.1).0 in sym g.2 ∙ in_before (suc t) g.0 (omega arith))));
          whole = λ _. cells;
          waiting = λ _. inl (subst (λ (z : Counts). z.numbers.arrived < c.team) (sym next) (let r : 0 < c.team = omega arith in r));
          later = λ u l. others u (λ e. omega arith) ∙ s.later u (omega arith);
          places = λ j z q. let g = each j z q in ((λ e. subst (λ (u : ℕ). (counts_at k' u).numbers.arrived ≡ c.team) (sym g.0) (ap (λ (v : Counts). v.numbers.arrived) settles)), inr (inl (g.1, ap suc g.0)));
        },
        refl,
      )
