-- What is written, and what is read, as the code has them.
use Rattle.std.specs.Prelude.{◌≡◌, ℕ, List}
use Rattle.std.specs.List.{All}
use Rattle.hlfir_ops.specs.declared.op.Op.{Op}
use Rattle.alias_test.specs.declared.designator.Designator.{Designator}
use Rattle.alias_test.specs.Normal.{designator_at}
use Rattle.alias_test.specs.Relations.{HasStrides}
use Rattle.assign_schedule.specs.Parts.{IsPart}

-- the designator of an array, a section or an element
abbrev pub IsTarget : List Op → Designator → Type 0
IsTarget gs d = (n : ℕ) × IsPart gs n × (d ≡ designator_at gs n) × HasStrides d

abbrev pub AreParts : List Op → List ℕ → Type 0
AreParts gs ns = All (IsPart gs) ns
