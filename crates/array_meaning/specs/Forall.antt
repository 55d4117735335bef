-- FORALL: everything in its mask and body is an operation over the active combinations of its header.
use Rattle.std.specs.Prelude.{ℕ, true, if◌then◌else◌, List, [], ◌∷◌, map, Option, Some, None, Result, Ok, Err, ℤ, pos}
use Rattle.ws_base.specs.declared.fault.FaultName.{FaultName}
use Rattle.ws_base.specs.declared.fault.FaultName.TheVariants.{Unallocated as Unallocated'}
use Rattle.ws_base.specs.declared.fault.Fault.{Fault}
use Rattle.ws_base.specs.Numbers.{Exact, truth}
use Rattle.ws_base.specs.Outcomes.{Staged, each, rows, ◌>>=◌}
use Rattle.ws_space.specs.declared.shape.Triplet.{Triplet}
use Rattle.ws_space.specs.declared.state.VarState.{VarState}
use Rattle.ws_space.specs.declared.state.VarState.TheVariants as state
use Rattle.ws_space.specs.Shapes.{dims, place, all_places}
use Rattle.ws_space.specs.Values.{Name, element, state_of}
use Rattle.ws_space.specs.Faults.{at_lines, at_places}
use Rattle.ws_space.specs.Maps.{everywhere_same, unary_map, binary_map, call_map}
use Rattle.ws_space.specs.Sections.{with_stride, limited}
use Rattle.ws_space.specs.Combinations.{lengths, indexes_at}
use Rattle.ws_space.specs.Replace.{replaced}
use Rattle.ws_space.specs.Masks.{chosen}
use Rattle.ws_tree.specs.declared.expr.Expr.{Expr}
use Rattle.ws_tree.specs.declared.expr.Expr.TheVariants.{Number, TooWide, TooDeep, Truth, Named, Part', Call', Vector'}
use Rattle.ws_tree.specs.declared.expr.Sub.TheVariants as sub
use Rattle.ws_tree.specs.declared.stmt.Index.{Index}
use Rattle.ws_tree.specs.declared.stmt.Body.{Body}
use Rattle.ws_tree.specs.declared.stmt.Body.TheVariants.{Assign}
use Rattle.ws_tree.specs.Trees.{Exprs, end_exprs, more_exprs, Subs, end_subs, more_subs, Stmts, end_stmts, more_stmts, paren, unary, binary}
use Rattle.array_meaning.specs.declared.world.World.{World}
use Rattle.array_meaning.specs.declared.world.Constant.{Constant}
use Rattle.ws_types.specs.Operations.{is_inquiry}
use Rattle.array_meaning.specs.Stage1.{constant_of, walk, value_of, inquired, name_in, dimension_in}
use Rattle.array_meaning.specs.Assign.{target_name, with_target}

-- ---- the header

abbrev pub scalar : World → Expr → Staged ℤ
scalar w e = do
  t ← walk w e
  Ok (value_of t)

abbrev pub scalar_or : World → ℤ → Option Expr → Staged ℤ
scalar_or w other None = Ok other
scalar_or w other (Some e) = scalar w e

-- `l`, `u` and `s` of an index or a DO, of which an omitted `s` is 1
abbrev pub stepping : World → Expr → Expr → Option Expr → Staged Triplet
stepping w l u s = do
  l' ← scalar w l
  u' ← scalar w u
  s' ← scalar_or w (pos 1) s
  with_stride (record { l = l'; u = u'; s = s' })

-- the values of each index
abbrev pub axes : World → List Index → Staged (List Triplet)
axes w [] = Ok []
axes w (i ∷ is) = do
  t ← stepping w i.l i.u i.s
  ts ← axes w is
  Ok (t ∷ ts)

abbrev pub header : World → List Index → Staged (List Triplet)
header w is = do
  ts ← axes w is
  limited (lengths ts) ts

-- the value of each index by its name
abbrev pub Combination : Type 0
Combination = List Constant

abbrev pub by_name : List Index → List ℤ → Combination
by_name (i ∷ is) (v ∷ vs) = record { name = i.name; value = v } ∷ by_name is vs
by_name _ _ = []

abbrev pub combination : List Index → List Triplet → ℕ → Combination
combination is ts p = by_name is (indexes_at ts p)

-- ---- operations over combinations

-- an index, a named constant, or a scalar variable; no other name stands alone in a FORALL of an accepted program
abbrev pub name_value : World → Name → Combination → ℤ
name_value w x c = found (constant_of c x) (constant_of w.constants x) (state_of w.vars x) where
  found : Option ℤ → Option ℤ → VarState → ℤ
  found (Some v) outer s = v
  found None (Some v) s = v
  found None None (state.Scalar v) = v
  found None None s = pos 0

-- an element of an array, and its place, after its subscripts
abbrev pub element_of : VarState → List ℤ → Exact
element_of (state.Array a) is = element a is
element_of s is = Err Unallocated'

abbrev pub place_in : VarState → List ℤ → Result ℕ FaultName
place_in (state.Array a) is = place (dims a.shape) is
place_in s is = Err Unallocated'

abbrev pub without_element : Staged ℤ → Exact
without_element (Ok v) = Ok v
without_element (Err t) = Err t.name

abbrev pub inquiries : World → Exact → List Combination → Staged (List ℤ)
inquiries w answer cs = each (λ _. answer) cs

-- Sections, constructors and reductions do not stand in the mask or body of a FORALL of an accepted program.
abbrev mutual
  -- the values at these combinations
  pub over : World → Expr → List Combination → Staged (List ℤ)
  over w (Number n) cs = Ok (everywhere_same (pos n) cs)
  over w TooWide cs = Ok (everywhere_same (pos 0) cs)
  over w TooDeep cs = Ok (everywhere_same (pos 0) cs)
  over w (Truth b) cs = Ok (everywhere_same (truth b) cs)
  over w (Named x) cs = Ok (map (name_value w x) cs)
  over w (Part' x _ subs) cs = do
    subscripts ← over_subs w subs cs
    each (element_of (state_of w.vars x)) (rows cs subscripts)
  over w (Call' word _ es) cs =
      if is_inquiry word then inquiries w (without_element (inquired word (state_of w.vars (name_in es)) (dimension_in es))) cs else (over_all w es cs >>= call_map word cs)
  over w (Vector' _ es) cs = Ok (everywhere_same (pos 0) cs)
  over w (paren e) cs = over w e cs
  over w (unary op e) cs = do
    xs ← over w e cs
    unary_map op xs
  over w (binary op e f) cs = do
    xs ← over w e cs
    ys ← over w f cs
    binary_map op cs xs ys

  pub over_all : {m : _} → World → Exprs m → List Combination → Staged (List (List ℤ))
  over_all w end_exprs cs = Ok []
  over_all w (more_exprs e es) cs = do
    xs ← over w e cs
    rest ← over_all w es cs
    Ok (xs ∷ rest)

  pub over_subs : {m : _} → World → Subs m → List Combination → Staged (List (List ℤ))
  over_subs w end_subs cs = Ok []
  over_subs w (more_subs (sub.One e) ss) cs = do
    xs ← over w e cs
    rest ← over_subs w ss cs
    Ok (xs ∷ rest)
  over_subs w (more_subs (sub.Range' l u s) ss) cs = over_subs w ss cs

-- the places of the targets at these combinations; in an accepted program each left side has subscripts
abbrev pub over_targets : World → Expr → List Combination → Staged (List ℕ)
over_targets w (Part' x _ subs) cs = do
  subscripts ← over_subs w subs cs
  each (place_in (state_of w.vars x)) (rows cs subscripts)
over_targets w e cs = Ok []

-- ---- the construct

abbrev pub mask_places : World → ℕ → Option Expr → List ℕ → List Combination → Result (List ℕ) Fault
mask_places w line None places cs = Ok places
mask_places w line (Some e) places cs = do
  xs ← at_places line places (over w e cs)
  Ok (chosen true places xs)

-- an unallocated target has no active combination here, and stays as it is
abbrev pub replaced_over : ℕ → List ℕ → VarState → List ℕ → List ℤ → Result VarState Fault
replaced_over line places (state.Array a) ts xs = replaced line places a ts xs
replaced_over line places s ts xs = Ok s

-- one assignment of the body at the active combinations
abbrev pub forall_assign : World → ℕ → Expr → Expr → List ℕ → List Combination → Result World Fault
forall_assign w line left right places cs = do
  xs ← at_places line places (over w right cs)
  ts ← at_places line places (over_targets w left cs)
  s ← replaced_over line places (state_of w.vars (target_name left)) ts xs
  Ok (with_target w left s)

-- Nothing but assignments stands in a FORALL of an accepted program.
abbrev pub forall_part : World → ℕ → Body → List ℕ → List Combination → Result World Fault
forall_part w line (Assign left right) places cs = forall_assign w line left right places cs
forall_part w line body places cs = Ok w

abbrev pub forall_block : {m : _} → World → Stmts m → List ℕ → List Combination → Result World Fault
forall_block w end_stmts places cs = Ok w
forall_block w (more_stmts line body rest) places cs = do
  v ← forall_part w line body places cs
  forall_block v rest places cs

-- the line of Shape: that of the first assignment, to which the header belongs
abbrev pub first_line : {m : _} → ℕ → Stmts m → ℕ
first_line line end_stmts = line
first_line line (more_stmts first body rest) = first

unfoldable pub run_forall : {m : _} → World → ℕ → List Index → Option Expr → Stmts m → Result World Fault
run_forall w line indexes test stmts = do
  all ← at_lines line (first_line line stmts) (header w indexes)
  let places = all_places (lengths all)
  active ← mask_places w line test places (map (combination indexes all) places)
  forall_block w stmts active (map (combination indexes all) active)
