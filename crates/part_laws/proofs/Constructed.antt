-- A constructor leaves a value that a designator may take.
use Rattle.std.proofs.Common.{sym, subst, ℕ, List, map, All, Ok}
use Rattle.array_meaning.specs.declared.term.Term.{Term}
use Rattle.array_meaning.specs.declared.term.Term.TheVariants as term
use Rattle.array_meaning.specs.Stage1 as source
use Rattle.hlfir_meaning.specs.Environments.{Environment}
use Rattle.lower_values.specs.declared.operand.Operand.{Operand}
use Rattle.lower_values.specs.Scopes.{Scope}
use Rattle.lower_values.specs.Lowerings.{giving}
use Rattle.lower_values.specs.Operations.{vector}
use Rattle.value_laws.specs.Standing.{Does, StandEach}
use Rattle.value_laws.specs.Singles.{IsSingle}
use Rattle.value_laws.proofs.Constructors.{vector-given}
use Rattle.part_laws.specs.Parts.{IsHeld, StandsUnnamed}
use Rattle.part_laws.proofs.Taken.{listed-dimension}

module _ (vectors : List ℕ) (base low : ℕ) (s : Scope) (n : ℕ) (env : Environment) (xs : List Operand) (ts : List Term) (singles : All IsSingle ts) (h : StandEach base low n env xs ts) where
  pub does-constructor : Does vectors s n env (vector xs) (Ok (term.Listed (map source.value_of ts))) (λ x t m after. StandsUnnamed base low m after x t)
  unfolding vector giving
  does-constructor =
      let d = vector-given vectors base low s n env xs ts singles h in
      (d.0, d.1, ((d.2.0, (subst IsHeld (sym d.2.1) tt, λ few. listed-dimension (map source.value_of ts))), λ named. named))
