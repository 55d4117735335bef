-- What holds of a running core beside its state: the next effect of each member that holds a unit is at hand.
use Rattle.std.specs.Prelude.{◌≡◌, ◌≢◌, ◌⊎◌, ℕ, suc, Bool, true, false, ◌<◌, ◌≤◌, ◌^◌, List, length, slice_index_or}
use Rattle.std.specs.Prelude as std
use mathlib.Core.Option.{Option, none, some}
use lib.ListN.{get_elem?}
use Rattle.team_core.specs.declared.member.MemberState.{MemberState}
use Rattle.team_core.specs.declared.member.MemberState.TheVariants.{Ready, Within, Out, Arrived, Ended}
use Rattle.team_core.specs.declared.member.StepKind.{StepKind}
use Rattle.team_core.specs.declared.member.StepKind.TheVariants as kind
use Rattle.team_core.specs.declared.state.CoreState.{CoreState}
use Rattle.phase_ops.specs.declared.effect.Effect.{Effect}
use Rattle.phase_ops.specs.declared.effect.Effect.TheVariants.{Store, Least, Fault}
use Rattle.phase_ops.specs.Phases.{none_yet}
use Rattle.phase_ops.specs.Course.{Course, Safe, memory_after, work_at, key_at}
use Rattle.team_core.specs.declared.state.Member.{Member}
use Rattle.team_core.specs.Core.{Sound, member_of, counts_at, blank, claims, acts, finishes, arrives, sees, judges}

abbrev pub as_option : {A : Type 0} → std.Option A → Option A
as_option std.None = none
as_option (std.Some a) = some a

-- the phases before t have no key
abbrev pub Keyless : Course → ℕ → Type 0
Keyless c t = (s : ℕ) → s < t → key_at c s ≡ none_yet

-- a course that a team may run, whose numbers fit their words
pub record CanRun (c : Course) : Type 0 where
  pub safe : Safe c
  pub someone : 1 ≤ c.team
  pub team_small : c.team ≤ 64
  pub few : c.count ≤ 512
  pub few_units : (t : ℕ) → t < c.count → Keyless c t → (work_at c t).units ≤ 65536
  pub few_effects : (t u : ℕ) → t < c.count → Keyless c t → length ((work_at c t).effects u) < 2 ^ 62

-- the phase t begins over these cells
pub record Enters (c : Course) (t : ℕ) (cells : List ℕ) : Type 0 where
  pub there : t < c.count
  pub keyless : Keyless c t
  pub cells_are : cells ≡ memory_after c t

-- the state is sound, the phase at the front is entered, and of these members the next effect is at hand
pub record HoldsFor (Q : ℕ → Type 0) (c : Course) (k : CoreState) (pending : List (std.Option Effect)) (entered : ℕ) (ready : Type 0) : Type 0 where
  pub can : CanRun c
  pub sound : Sound c k
  pub entered_is : sound.front < c.count → (entered ≡ sound.front) × ready
  pub sized : length pending ≡ c.team
  pub pending_is : (m u d : ℕ) → Q m → m < c.team → (member_of k m).state ≡ Within u d
      → as_option (slice_index_or pending m std.None) ≡ get_elem? ((work_at c (member_of k m).phase).effects u) d

abbrev pub Holds : Course → CoreState → List (std.Option Effect) → ℕ → Type 0 → Type 0
Holds = HoldsFor (λ m. Unit {0})

-- of all members but m
abbrev pub HoldsBut : ℕ → Course → CoreState → List (std.Option Effect) → ℕ → Type 0 → Type 0
HoldsBut m = HoldsFor (λ n. n ≢ m)

-- The member m has arrived behind the phase t, and the next one may not be entered yet.
pub record Passed (m : ℕ) (c : Course) (k : CoreState) (pending : List (std.Option Effect)) (entered : ℕ) (ready : Type 0) (t : ℕ) : Type 0 where
  pub can : CanRun c
  pub sound : Sound c k
  pub live : t < c.count
  pub front_is : (sound.front ≡ t) ⊎ (sound.front ≡ suc t)
  pub entered_is : (entered ≡ t) × ready
  pub next_blank : counts_at k (suc t) ≡ blank
  pub sized : length pending ≡ c.team
  pub pending_is : (n u d : ℕ) → n ≢ m → n < c.team → (member_of k n).state ≡ Within u d
      → as_option (slice_index_or pending n std.None) ≡ get_elem? ((work_at c (member_of k n).phase).effects u) d

-- the one kind other than Look that a member may take: of a member in a unit, that of its next effect
abbrev pub next_kind : MemberState → Bool → std.Option Effect → std.Option StepKind
next_kind Ready full next = std.Some kind.Claim
next_kind (Within u d) full (std.Some (Store c v)) = std.Some kind.Put
next_kind (Within u d) full (std.Some (Least c v)) = std.Some kind.Least
next_kind (Within u d) full (std.Some (Fault f)) = std.Some kind.Note
next_kind (Within u d) full std.None = std.Some kind.Finish
next_kind Out full next = std.Some kind.Arrive
next_kind Arrived false next = std.Some kind.See
next_kind Arrived true next = std.Some kind.Verdict
next_kind Ended full next = std.None

abbrev pub is_look : StepKind → Bool
is_look kind.Look = true
is_look _ = false

-- the state, the mark and the next effect allow the kind
abbrev pub allowed : StepKind → MemberState → Bool → std.Option Effect → Bool
allowed kind.Claim Ready full next = true
allowed kind.Look Ready full next = true
allowed kind.Look (Within u d) full next = true
allowed kind.Put (Within u d) full (std.Some (Store c v)) = true
allowed kind.Least (Within u d) full (std.Some (Least c v)) = true
allowed kind.Note (Within u d) full (std.Some (Fault f)) = true
allowed kind.Finish (Within u d) full std.None = true
allowed kind.Arrive Out full next = true
allowed kind.See Arrived false next = true
allowed kind.Verdict Arrived true next = true
allowed _ _ _ _ = false

-- the member has taken its one step other than a look
abbrev pub Did : Course → CoreState → ℕ → Member → MemberState → Bool → std.Option Effect → CoreState → Type 0
Did c k m x Ready full next k' = k' ≡ claims c k m x
Did c k m x (Within u d) full (std.Some e) k' = k' ≡ acts k m x e u d
Did c k m x (Within u d) full std.None k' = k' ≡ finishes k m x
Did c k m x Out full next k' = k' ≡ arrives k m x
Did c k m x Arrived false next k' = k' ≡ sees c k m x
Did c k m x Arrived true next k' = k' ≡ judges c k m x
Did c k m x Ended full next k' = k' ≡ k
