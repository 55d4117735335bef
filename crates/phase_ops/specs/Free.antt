-- Phases free of races.
use Rattle.std.specs.Prelude.{◌≡◌, ◌≢◌, ◌⊎◌, ℕ, suc, ◌<◌, ◌≤◌, IsTrue, List, [], ◌∷◌, length, Option, Some, None, ℤ, pos, ◌<ℤ◌, ◌≤ℤ◌}
use Rattle.ws_base.specs.Numbers.{default_half}
use Rattle.phase_ops.specs.Partials.{takes, is_reduction}
use Rattle.phase_ops.specs.declared.effect.Effect.{Effect}
use Rattle.phase_ops.specs.declared.effect.Effect.TheVariants.{Store, Least}
use Rattle.phase_ops.specs.declared.phase.Term.{Term}
use Rattle.phase_ops.specs.declared.phase.Micro.{Micro}
use Rattle.phase_ops.specs.declared.phase.Micro.TheVariants as micro
use Rattle.phase_ops.specs.declared.phase.Act.{Act}
use Rattle.phase_ops.specs.declared.phase.Phase.{Phase}
use Rattle.phase_ops.specs.declared.phase.Phase.TheVariants.{Set, Loop, Part, Join}
use Rattle.phase_ops.specs.Phases.{Cells, source, divides, gives, strand_events, strand_effects, strands, reads, parameter, key, none_yet, after_phase}

-- x is one of the list
abbrev pub In : {A : Type 0} → A → List A → Type 0
In x [] = ⊥
In x (y ∷ ys) = (x ≡ y) ⊎ In x ys

abbrev pub stored : List Effect → List ℕ
stored [] = []
stored (Store c v ∷ es) = c ∷ stored es
stored (_ ∷ es) = stored es

abbrev pub lessened : List Effect → List ℕ
lessened [] = []
lessened (Least c v ∷ es) = c ∷ lessened es
lessened (_ ∷ es) = lessened es

-- no strand stores where another stores or reads, and a cell of a Least is read and stored by none
pub record Apart (p : Phase) (m : Cells) (chunk : ℕ) : Type 0 where
  pub stores : (s t c : ℕ) → s < strands p m chunk → t < strands p m chunk → In c (stored (strand_effects p m chunk s)) → In c (stored (strand_effects p m chunk t)) → s ≡ t
  pub loads_apart : (s t c : ℕ) → s < strands p m chunk → t < strands p m chunk → In c (stored (strand_effects p m chunk s)) → In c (reads p m chunk t) → s ≡ t
  pub leasts : (s t c : ℕ) → s < strands p m chunk → t < strands p m chunk → In c (lessened (strand_effects p m chunk s)) → In c (stored (strand_effects p m chunk t)) ⊎ In c (reads p m chunk t) → ⊥
  pub parameter_apart : (s c : ℕ) → s < strands p m chunk → In c (stored (strand_effects p m chunk s)) ⊎ In c (lessened (strand_effects p m chunk s)) → In c (parameter p) → ⊥

-- ---- well formed

abbrev pub term_registers : List Term → List ℕ
term_registers [] = []
term_registers (t ∷ ts) = t.reg ∷ term_registers ts

-- the registers that an op names
abbrev pub registers : Micro → List ℕ
registers (micro.Fixed z) = []
registers micro.Position = []
registers (micro.Digit r by modulus) = r ∷ []
registers (micro.Load a) = term_registers a.terms
registers (micro.Unary o r) = r ∷ []
registers (micro.Binary o r s) = r ∷ s ∷ []
registers (micro.Select r s t) = r ∷ s ∷ t ∷ []
registers (micro.Gate r) = r ∷ []
registers (micro.FailIf n r) = r ∷ []
registers (micro.Store a r) = r ∷ term_registers a.terms
registers (micro.Least a r) = r ∷ term_registers a.terms

-- each of these ops names only registers of earlier ones, the first of them being op k
abbrev pub NameEarlier : ℕ → List Micro → Type 0
NameEarlier k [] = Unit {0}
NameEarlier k (op ∷ ops) = ((r : ℕ) → In r (registers op) → r < k) × NameEarlier (suc k) ops

abbrev pub acts_of : Phase → List Act
acts_of (Set l b acts) = acts
acts_of (Loop l b count acts) = acts
acts_of (Part l count act k t f) = act ∷ []
acts_of (Join l count k t f s) = []

abbrev pub count_value : Phase → Cells → ℤ
count_value (Set l b acts) m = pos 1
count_value (Loop l b count acts) m = source m count
count_value (Part l count act k t f) m = source m count
count_value (Join l count k t f s) m = source m count

abbrev pub ReductionFits : Phase → Cells → ℕ → Type 0
ReductionFits (Set l b acts) m chunk = Unit {0}
ReductionFits (Loop l b count acts) m chunk = Unit {0}
ReductionFits (Part l count act k t f) m chunk = IsTrue (is_reduction k) × (act.ops ≢ []) × ((s : ℕ) (z : ℤ) → s < strands (Part l count act k t f) m chunk → In z (gives (strand_events (Part l count act k t f) m chunk s)) → IsTrue (takes default_half k z))
ReductionFits (Join l count k t f s) m chunk = IsTrue (is_reduction k)

pub record WellFormed (p : Phase) (m : Cells) (chunk : ℕ) : Type 0 where
  pub count : (pos 0 ≤ℤ count_value p m) × (count_value p m ≤ℤ pos 65536)
  pub few_acts : length (acts_of p) < 1048576
  pub few_ops : (a : Act) → In a (acts_of p) → (length a.ops ≤ 1048576) × NameEarlier 0 a.ops
  pub positive : (s : ℕ) (z : ℤ) → s < strands p m chunk → In z (divides (strand_events p m chunk s)) → pos 0 <ℤ z
  pub reduction : ReductionFits p m chunk
  pub there : (c : ℕ) → In c (parameter p) → c < length m
  pub loaded : (s c : ℕ) → s < strands p m chunk → In c (reads p m chunk s) → c < length m
  pub laid : (s c : ℕ) → s < strands p m chunk → In c (stored (strand_effects p m chunk s)) ⊎ In c (lessened (strand_effects p m chunk s)) → c < length m

abbrev pub IsChunk : ℕ → Type 0
IsChunk chunk = (0 < chunk) × (chunk ≤ 65536)

abbrev pub Free : Phase → Cells → Type 0
Free p m = (chunk : ℕ) → IsChunk chunk → Apart p m chunk × WellFormed p m chunk

-- a Join stands directly after a Part that agrees with it in every field that both have
abbrev pub Agrees : Phase → Option Phase → Type 0
Agrees (Join l count k t f s) (Some (Part l' count' act k' t' f')) = (l' ≡ l) × (count' ≡ count) × (k' ≡ k) × (t' ≡ t) × (f' ≡ f)
Agrees (Join l count k t f s) _ = ⊥
Agrees p _ = Unit {0}

-- so does each Join of these phases, which stand after `before`
abbrev pub JoinsAgree : Option Phase → List Phase → Type 0
JoinsAgree before [] = Unit {0}
JoinsAgree before (p ∷ ps) = Agrees p before × JoinsAgree (Some p) ps

-- each phase is free from the memory after those before it, as long as none of these has a key
abbrev pub FreeFrom : ℕ → List Phase → Cells → Type 0
FreeFrom chunk [] m = Unit {0}
FreeFrom chunk (p ∷ ps) m = Free p m × (key p m chunk ≡ none_yet → FreeFrom chunk ps (after_phase p m chunk))

-- a list is free of races from a memory
pub record FreeList (ps : List Phase) (m : Cells) : Type 0 where
  pub joins : JoinsAgree None ps
  pub phases : (chunk : ℕ) → IsChunk chunk → FreeFrom chunk ps m
