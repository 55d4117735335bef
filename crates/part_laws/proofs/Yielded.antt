-- Expressions as regions.
use Rattle.std.proofs.Common.{◌∙◌, ℕ, ◌≤◌, true, false, [], ◌∷◌}
use Rattle.ws_tree.specs.declared.expr.Expr.{Expr}
use Rattle.array_meaning.specs.declared.world.World.{World}
use Rattle.array_meaning.specs.declared.term.Term.{Term}
use Rattle.array_meaning.specs.declared.term.Term.TheVariants as term
use Rattle.array_meaning.specs.Stage1 as source
use Rattle.hlfir_meaning.specs.Environments.{Environment, yielding}
use Rattle.hlfir_meaning.specs.Stage1.{subscript_numbers}
use Rattle.lower_values.specs.declared.operand.Operand.{Operand}
use Rattle.lower_values.specs.Scopes.{Scope}
use Rattle.lower_values.specs.Values.{value}
use Rattle.value_laws.specs.Standing.{Stands}
use Rattle.value_laws.specs.Names.{Agrees}
use Rattle.value_laws.specs.Sound.{IsSound, IsClear}
use Rattle.value_laws.specs.Regions.{IsScalarOf}
use Rattle.value_laws.proofs.Elementals.{shapes-are}
use Rattle.value_laws.proofs.Evaluated.{values-same}
use Rattle.part_laws.specs.Joined.{HasSmallRanks}
use Rattle.part_laws.specs.Lefts.{region_of, Ends}
use Rattle.part_laws.specs.Yielded.{HasValues}
use Rattle.part_laws.proofs.Joined.{expressions-stand}
use Rattle.part_laws.proofs.Regions.{does-ends}

scalar_of : (base low high : ℕ) (env : Environment) (x : Operand) (t : Term) → Stands base low high env x t → IsScalarOf (env x.value.number) t
scalar_of base low high env x (term.Scalar z) h = h.found ∙ h.rank.1
scalar_of base low high env x t h = tt

stands-yields : (base low high : ℕ) (env : Environment) (x : Operand) (t : Term) → Stands base low high env x t → HasValues (yielding env (x.value ∷ [])) t
stands-yields base low high env x t h = record { scalar = scalar_of base low high env x t h; operands_are = shapes-are base low high env x t h; values_are = values-same base low high env x t h }

pub regions-yield : (base : ℕ) (s : Scope) (w : World) → HasSmallRanks s.names → (n : ℕ) (env : Environment) → base ≤ n → Agrees s.names base w env → (e : Expr) → IsSound true s e →
    IsClear (subscript_numbers (region_of (value e) s n).ops) s false n e → Ends env (region_of (value e) s n) (source.walk w e) HasValues
regions-yield base s w small n env g agrees e sound clear =
    does-ends s n env (value e) (λ x t m after. Stands base n m after x t) HasValues (λ t m after h. stands-yields base n m after (value e s n).made t h) (source.walk w e)
    (expressions-stand (subscript_numbers (region_of (value e) s n).ops) base s w small n env g agrees e sound clear)
