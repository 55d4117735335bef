-- The rank of what a designator selects.
use Rattle.std.proofs.Common.{◌≡◌, refl, ap, ◌∙◌, suc, List, [], ◌∷◌, map, length}
use Rattle.hlfir_ops.specs.RulesForms.{section_rank}
use Rattle.hlfir_meaning.specs.Environments.{Selection, Value, variable, scalar, array, part, computed, column, placed, Environment, standing}
use Rattle.hlfir_meaning.specs.Selections.{extents}
use Rattle.hlfir_meaning.specs.Stage1.{with_vector}
use Rattle.lower_values.specs.declared.operand.Subscript.{Subscript}
use Rattle.lower_values.specs.declared.operand.Subscript.TheVariants.{One, Range, Vector}
use Rattle.lower_values.specs.References.{sub_kind}
use Rattle.part_laws.specs.Selects.{selected_by}

vector_rank : (x : Value) (s : Selection) → length (extents (with_vector x s)) ≡ suc (length (extents s))
vector_rank (variable v) s = refl
vector_rank (scalar z) s = refl
vector_rank (array e xs) s = refl
vector_rank (part v a inner) s = refl
vector_rank (computed es ds) s = refl
vector_rank (column xs) s = refl
vector_rank (placed v ps) s = refl

pub selected-rank : (env : Environment) (ss : List Subscript) → length (extents (selected_by env ss)) ≡ section_rank (map sub_kind ss)
selected-rank env [] = refl
selected-rank env (One i ∷ ss) = selected-rank env ss
selected-rank env (Range l u s ∷ ss) = ap suc (selected-rank env ss)
selected-rank env (Vector v ∷ ss) = vector_rank (standing env v) (selected_by env ss) ∙ ap suc (selected-rank env ss)
