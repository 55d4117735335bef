-- Moves as runs of ops.
use Rattle.std.specs.Prelude.{◌≡◌, ℕ, suc, ◌+◌, ℤ, Bool, true, false, List, [], ◌∷◌, ◌++◌, Some, None, Result, Ok, Err}
use Rattle.ws_base.specs.declared.fault.FaultName.{FaultName}
use Rattle.phase_ops.specs.declared.phase.Micro.{Micro}
use Rattle.phase_ops.specs.Phases.{Cells}
use Rattle.loop_laws.specs.Moves.{Move, Makes, Keeps, Ended}
use Rattle.segment_laws.specs.Segments.{Ran, Through, Out, Broke, ran}

-- ---- one move as a run of ops

abbrev pub MakesIt : {V : Type 0} → (ℕ → ℕ → List ℤ → List V → Type 0) → (o i : ℕ) → List V → ℕ → Result V FaultName → Ran → Type 0
MakesIt stands o i s op (Ok v) r = (regs : List ℤ) × (r ≡ Through regs) × stands (suc o) i regs (v ∷ s)
MakesIt stands o i s op (Err n) r = r ≡ Broke op n

abbrev pub TestsIt : {V : Type 0} → (ℕ → ℕ → List ℤ → List V → Type 0) → (o i : ℕ) → List V → Bool → Ran → Type 0
TestsIt stands o i s true r = (regs : List ℤ) × (r ≡ Through regs) × stands (suc o) i regs s
TestsIt stands o i s false r = r ≡ Out

-- the move o does what its run of ops does, which fails at one op alone
abbrev pub DoesMove : {V : Type 0} → (ℕ → ℕ → List ℤ → List V → Type 0) → Cells → (ℕ → ℕ) → ℕ → Move V → List Micro → Type 0
DoesMove stands m number o (Makes f) ops = (i : ℕ) (regs : List ℤ) (s : List _) → stands o i regs s → MakesIt stands o i s (number o) (f s) (ran i m regs ops)
DoesMove stands m number o (Keeps t) ops = (i : ℕ) (regs : List ℤ) (s : List _) → stands o i regs s → TestsIt stands o i s (t s) (ran i m regs ops)

-- these runs do these moves, the first of which is o
abbrev pub Compiled : {V : Type 0} → (ℕ → ℕ → List ℤ → List V → Type 0) → Cells → (ℕ → ℕ) → ℕ → List (Move V) → List (List Micro) → Type 0
Compiled stands m number o [] [] = Unit {0}
Compiled stands m number o (x ∷ xs) (ops ∷ more) = DoesMove stands m number o x ops × Compiled stands m number (suc o) xs more
Compiled stands m number o _ _ = ⊥

abbrev pub all_ops : List (List Micro) → List Micro
all_ops [] = []
all_ops (ops ∷ more) = ops ++ all_ops more

-- what the ops of all moves do, where the moves of the place end so
abbrev pub RanSo : {V : Type 0} → (ℕ → ℕ → List ℤ → List V → Type 0) → (ℕ → ℕ) → (o q i : ℕ) → Ended V → Ran → Type 0
RanSo stands number o q i (Ok (Some s)) r = (regs : List ℤ) × (r ≡ Through regs) × stands q i regs s
RanSo stands number o q i (Ok None) r = r ≡ Out
RanSo stands number o q i (Err e) r = r ≡ Broke (number (o + e.0)) e.1
