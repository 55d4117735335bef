-- That the lowered header of a FORALL means what its source means.
use Rattle.std.specs.Prelude.{◌≡◌, ℕ, List, []}
use Rattle.std.specs.List.{All}
use Rattle.ws_tree.specs.declared.stmt.Index.{Index}
use Rattle.ws_tree.specs.Grammatical.{IsIndex}
use Rattle.ws_types.specs.declared.types.Row.{Row}
use Rattle.ws_sema.specs.Statements.{header_faults}
use Rattle.array_meaning.specs.declared.world.World.{World}
use Rattle.array_meaning.specs.Forall as source
use Rattle.hlfir_meaning.specs.Environments.{of_variables}
use Rattle.hlfir_meaning.specs.Combinations.{header}
use Rattle.lower_values.specs.Scopes.{Scope}
use Rattle.lower_assign.specs.Statements.{all_yielded}
use Rattle.lower_constructs.specs.Modules.{triples}
use Rattle.world_laws.specs.Meanings.{StandsOutside}
use Rattle.world_laws.specs.Yields.{region}

-- the region of all triplets, in the scope of the header, whose bounds may not use the index names
abbrev pub HeadersMean : Type 0
HeadersMean = (t b : List Row) (line : ℕ) (is : List Index) (s : Scope) (n : ℕ) (w : World) → StandsOutside b s w n → All IsIndex is → header_faults t b line [] is ≡ [] →
    header (of_variables w.vars) (region n (all_yielded (triples is) s n).ops) ≡ source.header w is
