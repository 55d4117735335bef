-- Terms of one value.
use Rattle.array_meaning.specs.declared.term.Term.{Term}
use Rattle.array_meaning.specs.declared.term.Term.TheVariants.{Scalar}

abbrev pub IsSingle : Term → Type 0
IsSingle (Scalar z) = Unit {0}
IsSingle t = ⊥
