-- Values that may be missing.
use Rattle.std.proofs.Common.{List, ◌++◌, Option, Some, None, ℤ}

-- values made before, and those of the rest
abbrev pub before : List ℤ → Option (List ℤ) → Option (List ℤ)
before made None = None
before made (Some vs) = Some (made ++ vs)
