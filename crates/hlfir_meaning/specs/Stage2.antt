-- Stage 2: what stage 1 left of an array value, in printed order, each op as one map over all active places.
use Rattle.std.specs.Prelude.{ℕ, suc, ◌==◌, nat_lt, if◌then◌else◌, List, [], ◌∷◌, Ok, ℤ}
use Rattle.ws_base.specs.Outcomes.{Staged, ◌>>=◌}
use Rattle.ws_space.specs.declared.state.ArrayValue.{ArrayValue}
use Rattle.ws_space.specs.Shapes.{Extents, all_places, agreed}
use Rattle.ws_space.specs.Faults.{over_all_places}
use Rattle.ws_space.specs.Sections.{elements_at, places_at}
use Rattle.hlfir_meaning.specs.Environments.{Selection, Work, elements_of, body_of, Deferred, Value, variable, array, part, computed, column, Environment, with_value, Yielded, yielded_number, result}
use Rattle.hlfir_meaning.specs.References.{held_extents}
use Rattle.hlfir_meaning.specs.Selections.{array_operand, extents, columns}
use Rattle.hlfir_meaning.specs.Places.{column_at, over_ops}

-- ---- what an array value is computed from

-- the shape of each array operand, but for those in subscripts
abbrev pub operands : Value → List Extents
operands (variable v) = array_operand (held_extents v.state)
operands (array e xs) = array_operand e
operands (part v a s) = array_operand (extents s)
operands (computed es ds) = es
operands _ = []

-- What stage 1 left of the value with this number, in printed order. The vector subscripts of a section are done with it.
abbrev pub deferred_by : ℕ → Value → List Deferred
deferred_by n (part v a s) = record { number = n; work = elements_of a s } ∷ []
deferred_by n (computed es ds) = ds
deferred_by n _ = []

-- one more, in printed order and not twice
abbrev pub with_deferred : Deferred → List Deferred → List Deferred
with_deferred d [] = d ∷ []
with_deferred d (e ∷ es) = if nat_lt d.number e.number then d ∷ e ∷ es else (if d.number == e.number then e ∷ es else e ∷ with_deferred d es)

abbrev pub together : List Deferred → List Deferred → List Deferred
together ds [] = ds
together ds (e ∷ es) = together (with_deferred e ds) es

-- ---- what was left, done in order

-- A body applies each of its ops, in order, to all active places.
abbrev pub done : List ℕ → Environment → ℕ → Work → Staged (List ℤ)
done at env n (elements_of a s) = do
  subscripts ← columns s at
  elements_at a at subscripts
done at env n (body_of ops) = do
  y ← over_ops at (suc n) env ops
  Ok (column_at at (result y))

abbrev pub stage2 : List ℕ → Environment → List Deferred → Staged Environment
stage2 at env [] = Ok env
stage2 at env (d ∷ ds) = do
  xs ← done at env d.number d.work
  stage2 at (with_value d.number (column xs) env) ds

-- ---- what a region yields

-- its values at these places of its shape; a fault's element is the place in the list
abbrev pub values : Yielded → List ℕ → Staged (List ℤ)
values y at = do
  env ← stage2 at y.env (deferred_by (yielded_number y) (result y))
  Ok (column_at at (env (yielded_number y)))

-- with all places active: conformance, then stage 2
abbrev pub whole : Yielded → Staged (List ℤ)
whole y = do
  shape ← agreed (operands (result y))
  over_all_places (values y (all_places shape))

-- the places of the elements that stand at these places of a section
abbrev pub targets : ArrayValue → Selection → List ℕ → Staged (List ℕ)
targets a s at = do
  subscripts ← columns s at
  places_at a at subscripts
