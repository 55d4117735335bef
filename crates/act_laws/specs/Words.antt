-- Ops whose registers are words.
use Rattle.std.specs.Prelude.{ℕ, ◌<◌, List, [], ◌∷◌, ℤ, pos, ◌<ℤ◌, FitsSigned, slice_index}
use Rattle.std.specs.Int.{w64}
use Rattle.phase_ops.specs.declared.phase.Micro.{Micro}
use Rattle.phase_ops.specs.declared.phase.Micro.TheVariants as micro
use Rattle.phase_ops.specs.Phases.{Cells, register, divisors}
use Rattle.phase_ops.specs.Free.{In}
use Rattle.act_laws.specs.Together.{Files, Scene, with_ops}
use Rattle.act_laws.specs.Strands.{IsPlain}

abbrev pub IsWord : ℤ → Type 0
IsWord z = FitsSigned w64 z

-- its number is a word
abbrev pub IsWordy : Micro → Type 0
IsWordy (micro.Fixed z) = IsWord z
IsWordy op = Unit {0}

-- These ops are plain, their numbers are words, and what they divide by is above 0.
abbrev pub AreWordy : Cells → List Micro → Type 0
AreWordy m [] = Unit {0}
AreWordy m (op ∷ ops) = (IsPlain op × IsWordy op × ((z : ℤ) → In z (divisors m op) → pos 0 <ℤ z)) × AreWordy m ops

abbrev pub HoldWords : Cells → Type 0
HoldWords m = (c : ℕ) → slice_index m c < 18446744073709551616

abbrev pub AllWords : List ℤ → Type 0
AllWords regs = (r : ℕ) → IsWord (register regs r)

-- Over cells and registers that are words they leave words, where they fail too.
abbrev pub WordsLaw : Type 0
WordsLaw =
    (s : Scene) (p : ℕ) → HoldWords s.cells → s.iteration p < 9223372036854775808 → (files : Files) (ops : List Micro) → AllWords (files p) → AreWordy s.cells ops
    → AllWords (with_ops s ops files p)
