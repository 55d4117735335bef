-- A core over a list of phases.
use Rattle.std.specs.Prelude as std
use Rattle.std.specs.Prelude.{Result, Ok, Err, MatchResult}
use Rattle.std.proofs.Common.{◌≡◌, ◌≢◌, ◌⊎◌, ⊎_elim, ℕ, suc, ◌<◌, Bool, true, false, List, length, slice_index_or, sym, refl, ap, ◌∙◌, subst, arith}
use mathlib.Core.Option.{none, some-ne-none}
use Rattle.phase_ops.specs.declared.effect.Effect.{Effect}
use Rattle.phase_ops.specs.declared.effect.Effect.TheVariants.{Store, Least, Fault}
use Rattle.phase_ops.specs.declared.phase.Phase.{Phase}
use Rattle.phase_ops.specs.Phases.{Cells, none_yet}
use Rattle.phase_ops.specs.Course.{Course, course}
use Rattle.team_core.specs.declared.member.MemberState.{MemberState}
use Rattle.team_core.specs.declared.member.MemberState.TheVariants.{Ready, Within, Out, Arrived, Ended}
use Rattle.team_core.specs.declared.member.StepKind.{StepKind}
use Rattle.team_core.specs.declared.member.StepKind.TheVariants as kind
use Rattle.team_core.specs.declared.state.CoreState.{CoreState}
use Rattle.team_core.specs.declared.state.Member.{Member}
use Rattle.team_core.specs.declared.machine.Machine.{Machine}
use Rattle.team_core.specs.declared.machine.NotNow.{NotNow}
use Rattle.team_core.specs.declared.units.PhaseUnits.{PhaseUnits}
use Rattle.team_core.specs.declared.team.Core.{Core}
use Rattle.team_core.specs.Core.{Sound, member_of, counts_at, IsPlaced, claims, acts, finishes, arrives, sees, judges}
use Rattle.team_core.specs.Runs.{stepped, IsSafeStore}
use Rattle.team_core.specs.Machines.{Holds, allowed, is_look, next_kind, Did}
use Rattle.team_core.specs.Laws.{MayStart}
use Rattle.team_core.specs.Units.{IsEntered}
use Rattle.team_core.specs.Cores.{state_of, opening_of, team_of, chunk_of, course_of, units_course, IsCore, IsSameRun, Steps, IsNext, ClosesWhenEnded}
use Rattle.team_core.proofs.Fronts.{untrue}
use Rattle.team_core.proofs.Machines.{at_index}
use Rattle.team_core.proofs.Teams.{team_apart, team_closes}
use Rattle.team_core.specs.Core.{nobody}
use Rattle.team_core.proofs.Choices.{performs, refuses}

pub core_sound : (ps : List Phase) (k : Core) → IsCore ps k → Sound (course_of ps k) (state_of k)
core_sound ps k h = subst (λ (c : Course). Sound c (state_of k)) h.course_is h.holds.sound

pub core_safe : (ps : List Phase) (k : Core) (m : ℕ) → IsCore ps k → IsSafeStore (course_of ps k) (state_of k) m
core_safe ps k m h = team_apart ps (opening_of k) (team_of k) (chunk_of k) (state_of k) m h.may (core_sound ps k h)

pub core_closes : (ps : List Phase) (k : Core) → IsCore ps k → ClosesWhenEnded ps k
core_closes ps k h m there is =
    let s = core_sound ps k h in
    team_closes ps (opening_of k) (team_of k) (chunk_of k) (state_of k) m (member_of (state_of k) m) h.may s (at_index (state_of k).members m nobody (let e = s.team_is in omega (arith, e, there))) is

-- ---- a step

abbrev pub with_machine : Core → Machine PhaseUnits → Core
with_machine k machine = record { machine = machine; chunk = k.chunk }

pub same_run : (ps : List Phase) (k k' : Core) → k'.chunk ≡ k.chunk → units_course ps k'.machine.work ≡ units_course ps k.machine.work → IsSameRun k k'
same_run ps k k' chunk e = (ap (λ (c : Course). c.opening) e, ap (λ (c : Course). c.team) e, chunk)

pub still_core : (ps : List Phase) (k k' : Core) → IsCore ps k → k'.chunk ≡ k.chunk → units_course ps k'.machine.work ≡ units_course ps k.machine.work
    → Holds (units_course ps k'.machine.work) k'.machine.state k'.machine.pending k'.machine.work.phase (IsEntered k'.machine.work ps) → k'.machine.team ≡ k.machine.team → k'.machine.count ≡ k.machine.count → IsCore ps k'
still_core ps k k' h chunk e holds team count =
    let same = same_run ps k k' chunk e in
    record {
      may = subst (λ (x : Cells × ℕ × ℕ). MayStart ps x.0 x.1 x.2) (λ i. (sym same.0 i, sym same.1 i, sym same.2 i)) h.may;
      course_is = e ∙ h.course_is ∙ (λ i. course ps (sym same.0 i) (sym same.2 i) (sym same.1 i));
      holds = holds;
      sizes = (team ∙ h.sizes.0 ∙ sym same.1, count ∙ h.sizes.1);
    }

pub answered : {A : Type 0} (r : Result A NotNow) (ps : List Phase) (k : Core) (machine : Machine PhaseUnits) (m : ℕ) (how : StepKind) → IsCore ps k
    → MatchResult r (λ (a : A). Steps (units_course ps k.machine.work) (state_of k) m how machine.state)
    (λ (e : NotNow). (stepped (units_course ps k.machine.work) (state_of k) m (member_of (state_of k) m) how (member_of (state_of k) m).state ≡ none) × (e.state ≡ (member_of (state_of k) m).state) × (machine ≡ k.machine))
    → MatchResult r (λ (a : A). Steps (course_of ps k) (state_of k) m how machine.state)
    (λ (e : NotNow). (stepped (course_of ps k) (state_of k) m (member_of (state_of k) m) how (member_of (state_of k) m).state ≡ none) × (e.state ≡ (member_of (state_of k) m).state) × (with_machine k machine ≡ k))
answered (Ok a) ps k machine m how h s = subst (λ (c : Course). Steps c (state_of k) m how machine.state) h.course_is s
answered (Err e) ps k machine m how h s = (
  subst (λ (c : Course). stepped c (state_of k) m (member_of (state_of k) m) how (member_of (state_of k) m).state ≡ none) h.course_is s.0,
  s.1,
  ap (with_machine k) s.2,
)

-- ---- a member's phase

module _ (ps : List Phase) (k : Core) (h : IsCore ps k) (some_phase : 0 < length ps) (m : ℕ) (there : m < team_of k) where
  pub core_placed : IsPlaced (state_of k) m
  core_placed =
      let s = core_sound ps k h in
      let x : Member = member_of (state_of k) m in
      let e = s.sized in let f = s.team_is in let w = s.within in
      record {
        one = omega (arith, f, there);
        at_phase = ⊎_elim (λ (a : ((x.state ≡ Ended → ((counts_at (state_of k) s.front).numbers.arrived ≡ team_of k) × ((counts_at (state_of k) s.front).key < none_yet)) × (x.phase ≡ s.front) × (s.front < length ps))). let a₁ = a.1 in let a₂ = a.2 in omega (arith, a₁, a₂, e))
            (λ (b : ((x.state ≡ Arrived) × (suc x.phase ≡ s.front)) ⊎ ((x.state ≡ Ended) × (s.front ≡ length ps) × ((suc x.phase ≡ length ps) ⊎ (length ps ≡ 0)))).
            ⊎_elim (λ g. let g₁ = g.1 in omega (arith, g₁, w, e)) (λ g. ⊎_elim (λ l. omega (arith, l, e)) (λ z. absurd (omega (arith, z, some_phase))) g.2) b)
            (s.places m x (at_index (state_of k).members m nobody (omega (arith, f, there)))).1;
      }

-- ---- the next step

next_allowed : (how : StepKind) (st : MemberState) (f : Bool) (o : std.Option Effect) → next_kind st f o ≡ std.Some how → (allowed how st f o ≡ true) × (is_look how ≡ false)
next_allowed how st f o e = by st f o e
  where
    by : (st' : MemberState) (f' : Bool) (o' : std.Option Effect) → next_kind st' f' o' ≡ std.Some how → (allowed how st' f' o' ≡ true) × (is_look how ≡ false)
    by Ready f' o' q = subst (λ (x : StepKind). (allowed x Ready f' o' ≡ true) × (is_look x ≡ false)) (let s : kind.Claim ≡ how = cc in s) (refl, refl)
    by (Within u d) f' (std.Some (Store c v)) q = subst (λ (x : StepKind). (allowed x (Within u d) f' (std.Some (Store c v)) ≡ true) × (is_look x ≡ false)) (let s : kind.Put ≡ how = cc in s) (refl, refl)
    by (Within u d) f' (std.Some (Least c v)) q = subst (λ (x : StepKind). (allowed x (Within u d) f' (std.Some (Least c v)) ≡ true) × (is_look x ≡ false)) (let s : kind.Least ≡ how = cc in s) (refl, refl)
    by (Within u d) f' (std.Some (Fault k)) q = subst (λ (x : StepKind). (allowed x (Within u d) f' (std.Some (Fault k)) ≡ true) × (is_look x ≡ false)) (let s : kind.Note ≡ how = cc in s) (refl, refl)
    by (Within u d) f' std.None q = subst (λ (x : StepKind). (allowed x (Within u d) f' std.None ≡ true) × (is_look x ≡ false)) (let s : kind.Finish ≡ how = cc in s) (refl, refl)
    by Out f' o' q = subst (λ (x : StepKind). (allowed x Out f' o' ≡ true) × (is_look x ≡ false)) (let s : kind.Arrive ≡ how = cc in s) (refl, refl)
    by Arrived false o' q = subst (λ (x : StepKind). (allowed x Arrived false o' ≡ true) × (is_look x ≡ false)) (let s : kind.See ≡ how = cc in s) (refl, refl)
    by Arrived true o' q = subst (λ (x : StepKind). (allowed x Arrived true o' ≡ true) × (is_look x ≡ false)) (let s : kind.Verdict ≡ how = cc in s) (refl, refl)
    by Ended f' o' q = cc

allowed_next : (how : StepKind) (st : MemberState) (f : Bool) (o : std.Option Effect) → allowed how st f o ≡ true → is_look how ≡ false → next_kind st f o ≡ std.Some how
allowed_next kind.Claim Ready f o a l = refl
allowed_next kind.Put (Within u d) f (std.Some (Store c v)) a l = refl
allowed_next kind.Least (Within u d) f (std.Some (Least c v)) a l = refl
allowed_next kind.Note (Within u d) f (std.Some (Fault k)) a l = refl
allowed_next kind.Finish (Within u d) f std.None a l = refl
allowed_next kind.Arrive Out f o a l = refl
allowed_next kind.See Arrived false o a l = refl
allowed_next kind.Verdict Arrived true o a l = refl
allowed_next kind.Look st f o a l = absurd (untrue (sym l))
allowed_next _ _ _ _ a l = absurd (untrue a)

is_other : (how : StepKind) → how ≢ kind.Look → is_look how ≡ false
is_other kind.Look n = absurd (n refl)
is_other _ n = refl

no_look : (how : StepKind) → is_look how ≡ false → how ≢ kind.Look
no_look how l e = untrue (sym l ∙ ap is_look e)

-- what the member's one step leaves
does : Course → CoreState → ℕ → Member → MemberState → Bool → std.Option Effect → CoreState
does c k m x Ready f o = claims c k m x
does c k m x (Within u d) f (std.Some e) = acts k m x e u d
does c k m x (Within u d) f std.None = finishes k m x
does c k m x Out f o = arrives k m x
does c k m x Arrived false o = sees c k m x
does c k m x Arrived true o = judges c k m x
does c k m x Ended f o = k

did : (c : Course) (k : CoreState) (m : ℕ) (x : Member) (st : MemberState) (f : Bool) (o : std.Option Effect) → Did c k m x st f o (does c k m x st f o)
unfolding does
did c k m x Ready f o = refl
did c k m x (Within u d) f (std.Some e) = refl
did c k m x (Within u d) f std.None = refl
did c k m x Out f o = refl
did c k m x Arrived false o = refl
did c k m x Arrived true o = refl
did c k m x Ended f o = refl

none_ended : (st : MemberState) (f : Bool) (o : std.Option Effect) → next_kind st f o ≡ std.None → st ≡ Ended
none_ended Ready f o q = cc
none_ended (Within u d) f (std.Some (Store c v)) q = cc
none_ended (Within u d) f (std.Some (Least c v)) q = cc
none_ended (Within u d) f (std.Some (Fault k)) q = cc
none_ended (Within u d) f std.None q = cc
none_ended Out f o q = cc
none_ended Arrived false o q = cc
none_ended Arrived true o q = cc
none_ended Ended f o q = refl

module _ (c : Course) (k : CoreState) (pending : List (std.Option Effect)) (entered : ℕ) (ready : Type 0) (h : Holds c k pending entered ready) (m : ℕ) (there : m < c.team) where
  abbrev x : Member
  x = member_of k m

  abbrev o : std.Option Effect
  o = slice_index_or pending m std.None

  either : (how : StepKind) (k' : CoreState) (b : Bool) → allowed how x.state x.full o ≡ b → Steps c k m how k' → allowed how x.state x.full o ≡ true
  either how k' true a s = a
  either how k' false a s = absurd (some-ne-none k' (sym s ∙ refuses c k pending entered ready h m there how x.state x.full o refl refl refl a))

  pub next_step : (next : std.Option StepKind) → next ≡ next_kind x.state x.full o → IsNext c k m next
  next_step next is = record {
    allows = λ how e.
        let a = next_allowed how x.state x.full o (sym is ∙ e) in
        (no_look how a.1, (does c k m x x.state x.full o, performs c k pending entered ready h m there how x.state x.full o refl refl refl a.0 a.1 (does c k m x x.state x.full o) (did c k m x x.state x.full o)));
    only = λ how k' n s. is ∙ allowed_next how x.state x.full o (either how k' (allowed how x.state x.full o) refl s) (is_other how n);
    none = (λ e. none_ended x.state x.full o (sym is ∙ e), λ e. is ∙ ap (λ (st : MemberState). next_kind st x.full o) e);
  }
