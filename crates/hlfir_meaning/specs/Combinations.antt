-- FORALL: everything in its mask and body is an op over the active combinations of its header.
use Rattle.std.specs.Prelude.{ℕ, suc, ◌+◌, nat_le, true, if◌then◌else◌, List, [], ◌∷◌, map, length, Result, Ok, ℤ}
use Rattle.ws_base.specs.declared.name.Name.{Name}
use Rattle.ws_base.specs.declared.fault.Fault.{Fault}
use Rattle.ws_base.specs.Outcomes.{Staged, ◌>>=◌}
use Rattle.ws_space.specs.declared.shape.Triplet.{Triplet}
use Rattle.ws_space.specs.declared.state.VarState.{VarState}
use Rattle.ws_space.specs.declared.state.VarState.TheVariants as state
use Rattle.ws_space.specs.declared.state.Var.{Var}
use Rattle.ws_space.specs.Shapes.{all_places}
use Rattle.ws_space.specs.Values.{value_at}
use Rattle.ws_space.specs.Faults.{at_lines, at_places}
use Rattle.ws_space.specs.Sections.{with_stride, limited}
use Rattle.ws_space.specs.Combinations.{lengths, indexes_at}
use Rattle.ws_space.specs.Replace.{replaced}
use Rattle.ws_space.specs.Masks.{chosen}
use Rattle.hlfir_ops.specs.declared.what.What.{What}
use Rattle.hlfir_ops.specs.declared.what.What.TheVariants as what
use Rattle.hlfir_ops.specs.declared.op.ValueId.{ValueId}
use Rattle.hlfir_ops.specs.declared.op.Op.{Op, out-Op}
use Rattle.hlfir_ops.specs.declared.op.Region.{Region}
use Rattle.hlfir_ops.specs.Numbers.{op_numbers, numbers_of}
use Rattle.hlfir_ops.specs.RulesRegions.{ops_in, parts}
use Rattle.hlfir_ops.specs.RulesStatements.{is_assign, is_forall_mask}
use Rattle.hlfir_meaning.specs.Environments.{Value, column, placed, Environment, with_value, of_variables, standing, OpRegion, Yielded, result, scalar_in, state_in}
use Rattle.hlfir_meaning.specs.Places.{column_at, over_ops}
use Rattle.hlfir_meaning.specs.Stage1.{stage1, subscript_numbers}
use Rattle.hlfir_meaning.specs.Steps.{first_region, after_first, second_region, in_turn}
use Rattle.hlfir_meaning.specs.Assign.{with_target}

-- ---- the header

-- `l`, `u` and `s` of an index or a DO
abbrev pub stepping : Environment → ValueId → ValueId → ValueId → Staged Triplet
stepping env l u s = with_stride (record { l = scalar_in (standing env l); u = scalar_in (standing env u); s = scalar_in (standing env s) })

-- the ops up to the one that gives this value, and those after it
abbrev pub up_to : ℕ → ℕ → List Op → List Op
up_to last n [] = []
up_to last n (op ∷ ops) = if nat_le n last then op ∷ up_to last (op_numbers op + n) ops else []

abbrev pub after : ℕ → ℕ → List Op → List Op
after last n [] = []
after last n (op ∷ ops) = if nat_le n last then after last (op_numbers op + n) ops else op ∷ ops

abbrev pub greater : ℕ → ℕ → ℕ
greater m n = if nat_le m n then n else m

abbrev pub last_part : ValueId → ValueId → ValueId → ℕ
last_part l u s = greater l.number (greater u.number s.number)

-- The values of each index. An index is complete, and its stride is looked at, after the op that gives the last of its parts.
abbrev pub axes : List ℕ → ℕ → Environment → List ValueId → List Op → Staged (List Triplet)
axes vectors n env (l ∷ u ∷ s ∷ more) ops = do
  y ← stage1 vectors n env (up_to (last_part l u s) n ops)
  t ← stepping y.env l u s
  ts ← axes vectors (numbers_of (up_to (last_part l u s) n ops) + n) y.env more (after (last_part l u s) n ops)
  Ok (t ∷ ts)
axes vectors n env _ ops = do
  y ← stage1 vectors n env ops
  Ok []

abbrev pub header : Environment → OpRegion → Staged (List Triplet)
header env r = do
  ts ← axes (subscript_numbers r.ops) r.first env (parts r.ops) r.ops
  limited (lengths ts) ts

-- ---- index names

-- the value of the index with this place in the header, at each combination
abbrev pub index_column : List Triplet → ℕ → List ℕ → List ℤ
index_column ts k at = map (λ p. value_at (indexes_at ts p) k) at

-- the names stand for their columns, from this number on
abbrev pub with_indexes : ℕ → ℕ → List Name → List Triplet → List ℕ → Environment → Environment
with_indexes n k [] ts at env = env
with_indexes n k (x ∷ xs) ts at env = with_indexes (suc n) (suc k) xs ts at (with_value n (column (index_column ts k at)) env)

-- an evaluated header: its names, the number of the first one, and the values of each
pub record Header : Type 0 where
  pub first : ℕ
  pub names : List Name
  pub axes : List Triplet

abbrev pub at_combinations : List Var → Header → List ℕ → Environment
at_combinations vars h at = with_indexes h.first 0 h.names h.axes at (of_variables vars)

-- a region of the body, at these combinations
abbrev pub combined : List Var → Header → List ℕ → OpRegion → Staged Yielded
combined vars h at r = over_ops at r.first (at_combinations vars h at) r.ops

-- ---- the mask and the assignments

-- the combinations at which the mask, if one stands first, is true
abbrev pub active_places : List Var → Header → ℕ → ℕ → List Op → List ℕ → Result (List ℕ) Fault
active_places vars h line n [] at = Ok at
active_places vars h line n (op ∷ ops) at =
    if is_forall_mask (out-Op op).what then (do
      y ← at_places line at (combined vars h at (first_region n (out-Op op).regions))
      Ok (chosen true at (column_at at (result y))))
    else Ok at

abbrev pub places_in : Value → List ℕ
places_in (placed v ps) = ps
places_in _ = []

-- an unallocated target has no active combination here, and stays as it is
abbrev pub replaced_over : ℕ → List ℕ → VarState → List ℕ → List ℤ → Result VarState Fault
replaced_over line at (state.Array a) ts xs = replaced line at a ts xs
replaced_over line at s ts xs = Ok s

-- one assignment of the body at the active combinations
abbrev pub forall_assign : List Var → Header → List ℕ → ℕ → ℕ → List Region → Result (List Var) Fault
forall_assign vars h at line n rs = do
  r ← at_places line at (combined vars h at (first_region n rs))
  l ← at_places line at (combined vars h at (second_region n rs))
  s ← replaced_over line at (state_in (result l)) (places_in (result l)) (column_at at (result r))
  Ok (with_target vars (result l) s)

-- a mask that stands first was evaluated before
abbrev pub forall_part : Header → List ℕ → ℕ → Op → What → List Var → Result (List Var) Fault
forall_part h at n op (what.Assign realloc) vars = forall_assign vars h at (out-Op op).line n (out-Op op).regions
forall_part h at n op w vars = Ok vars

-- the line of Shape: that of the first assignment, to which the header belongs
abbrev pub first_line : ℕ → List Op → ℕ
first_line line [] = line
first_line line (op ∷ ops) = if is_assign (out-Op op).what then (out-Op op).line else first_line line ops

-- the construct, whose values are numbered from this number on
unfoldable pub run_forall : List Var → ℕ → ℕ → List Name → List Region → Result (List Var) Fault
run_forall vars line n names rs = do
  ts ← at_lines line (first_line line (ops_in rs 1)) (header (of_variables vars) (first_region n rs))
  let h : Header = record { first = after_first n rs; names = names; axes = ts }
  at ← active_places vars h line (length names + after_first n rs) (ops_in rs 1) (all_places (lengths ts))
  in_turn (λ k op v. forall_part h at k op (out-Op op).what v) (length names + after_first n rs) (ops_in rs 1) vars
