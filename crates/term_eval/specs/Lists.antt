-- The walks of expressions and terms over lists.
use Rattle.std.specs.Prelude.{ℕ, List, [], ◌∷◌, ◌++◌, Option, Some, None, Ok, Err, ℤ}
use Rattle.std.specs.List.{flat_map}
use Rattle.ws_base.specs.declared.op.CallWord.{CallWord}
use Rattle.ws_base.specs.Numbers.{Exact}
use Rattle.ws_base.specs.Outcomes.{Staged, ◌>>=◌}
use Rattle.ws_space.specs.declared.shape.Dim.{Dim}
use Rattle.ws_space.specs.declared.state.VarState.{VarState}
use Rattle.ws_space.specs.declared.state.VarState.TheVariants as state
use Rattle.ws_space.specs.Shapes.{Extents, count, dims, place}
use Rattle.ws_space.specs.Values.{Name, state_of, held, value_at}
use Rattle.ws_space.specs.Maps.{everywhere_same}
use Rattle.ws_space.specs.Sections.{here, beyond, triplet_column, full_column}
use Rattle.ws_tree.specs.declared.expr.Expr.{Expr}
use Rattle.ws_tree.specs.declared.expr.Expr.TheVariants.{Number, Named}
use Rattle.ws_tree.specs.declared.expr.Sub.{Sub}
use Rattle.array_meaning.specs.declared.world.World.{World}
use Rattle.array_meaning.specs.declared.term.Term.{Term}
use Rattle.array_meaning.specs.declared.term.Term.TheVariants.{Section}
use Rattle.array_meaning.specs.declared.term.Pick.{Pick}
use Rattle.array_meaning.specs.declared.term.Pick.TheVariants as pick
use Rattle.array_meaning.specs.Stage2.{operands, vector_extent, values}
use Rattle.array_meaning.specs.Stage1.{walk, one_pick, value_of, inquired, allocated, selected, whole_array}
use Rattle.array_meaning.specs.Assign.{held_by}

-- ---- stage 1

abbrev pub walks : World → List Expr → Staged (List Term)
walks w [] = Ok []
walks w (e ∷ es) = do
  t ← walk w e
  ts ← walks w es
  Ok (t ∷ ts)

abbrev pub picks : World → List Dim → List Sub → Staged (List Pick)
picks w ds [] = Ok []
picks w [] (s ∷ ss) = Ok []
picks w (d ∷ ds) (s ∷ ss) = do
  p ← one_pick w d s
  ps ← picks w ds ss
  Ok (p ∷ ps)

-- a part of a triplet, or what stands for it
abbrev pub end : World → Staged ℤ → Option Expr → Staged ℤ
end w other None = other
end w other (Some e) = do
  t ← walk w e
  Ok (value_of t)

abbrev pub name_in : List Expr → Name
name_in (Named x ∷ es) = x
name_in _ = []

abbrev pub dimension_in : List Expr → Option ℕ
dimension_in (e ∷ Number k ∷ es) = Some k
dimension_in _ = None

-- SIZE, LBOUND, UBOUND or ALLOCATED with these arguments
abbrev pub inquiry : World → CallWord → List Expr → Staged ℤ
inquiry w word es = inquired word (state_of w.vars (name_in es)) (dimension_in es)

-- the elements that these subscripts select of a variable
abbrev pub part_of : World → Name → List Sub → Staged Term
part_of w x ss = do
  a ← allocated (state_of w.vars x)
  ps ← picks w (dims a.shape) ss
  qs ← selected a ps
  Ok (Section a qs)

-- all elements of what a variable holds
abbrev pub whole_of : World → Name → Staged Term
whole_of w x = do
  a ← held_by (held (state_of w.vars x))
  Ok (whole_array a)

-- an array's element with these subscripts
abbrev pub element_in : List Dim → List ℤ → List ℤ → Exact
element_in ds xs is = place ds is >>= (λ p. Ok (value_at xs p))

-- the elements that a variable holds, where it is an array
abbrev pub values_in : VarState → List ℤ
values_in (state.Scalar z) = []
values_in (state.Array a) = a.values
values_in (state.Unallocated r) = []

-- ---- stage 2

abbrev pub all_operands : List Term → List Extents
all_operands = flat_map operands

abbrev pub all_values : List Term → List ℕ → Staged (List (List ℤ))
all_values [] at = Ok []
all_values (t ∷ ts) at = do
  xs ← values t at
  rest ← all_values ts at
  Ok (xs ∷ rest)

-- how many subscripts a section has in this dimension, unless it is one
abbrev pub reach : Pick → Option ℕ
reach (pick.One i) = None
reach (pick.Full d) = Some d.extent
reach (pick.Range t) = Some (count t)
reach (pick.Vector t) = Some (vector_extent (operands t))

-- the places in the dimensions after it
abbrev pub past : Option ℕ → List ℕ → List ℕ
past None at = at
past (Some n) at = beyond n at

abbrev pub column : Pick → List ℕ → Staged (List ℤ)
column (pick.One i) at = Ok (everywhere_same i at)
column (pick.Full d) at = Ok (full_column d at)
column (pick.Range t) at = Ok (triplet_column t at)
column (pick.Vector t) at = values t (here (vector_extent (operands t)) at)

abbrev pub columns : List Pick → List ℕ → Staged (List (List ℤ))
columns [] at = Ok []
columns (p ∷ ps) at = do
  first ← column p at
  rest ← columns ps (past (reach p) at)
  Ok (first ∷ rest)

-- ---- lists in the making

-- items made before, and then the rest
abbrev pub then_rest : {A : Type 0} → List A → Staged (List A) → Staged (List A)
then_rest made (Ok rest) = Ok (made ++ rest)
then_rest made (Err t) = Err t
