-- Stage 1: what has one value for the whole step, from left to right with operands before operators.
use Rattle.std.specs.Prelude.{ℕ, Bool, true, false, if◌then◌else◌, List, [], ◌∷◌, map, Option, Some, None, Ok, ℤ, pos, bytes_eq}
use Rattle.ws_base.specs.declared.fault.FaultName.TheVariants.{Unallocated as Unallocated'}
use Rattle.ws_base.specs.declared.op.UnOp.{UnOp}
use Rattle.ws_base.specs.declared.op.UnOp.TheVariants as unop
use Rattle.ws_base.specs.declared.op.BinOp.{BinOp}
use Rattle.ws_base.specs.declared.op.CallWord.{CallWord}
use Rattle.ws_base.specs.declared.op.CallWord.TheVariants as word
use Rattle.ws_base.specs.Numbers.{truth, default_half, unary_value, binary_value, call_value, reduction}
use Rattle.ws_base.specs.Outcomes.{Staged, trouble, scalar_of, ◌>>=◌}
use Rattle.ws_space.specs.declared.shape.Dim.{Dim}
use Rattle.ws_space.specs.declared.state.ArrayValue.{ArrayValue}
use Rattle.ws_space.specs.declared.state.VarState.{VarState}
use Rattle.ws_space.specs.declared.state.VarState.TheVariants as state
use Rattle.ws_space.specs.Shapes.{Extents, dims}
use Rattle.ws_space.specs.Values.{Name, element, state_of}
use Rattle.ws_space.specs.Sections.{omitted_upper, checked_subscript, checked_triplet, limited}
use Rattle.ws_space.specs.Inquiries.{dim_at, size_value, lbound_value, ubound_value}
use Rattle.ws_tree.specs.declared.expr.Expr.{Expr}
use Rattle.ws_tree.specs.declared.expr.Expr.TheVariants.{Number, TooWide, TooDeep, Truth, Named, Part', Call', Vector'}
use Rattle.ws_tree.specs.declared.expr.Sub.{Sub}
use Rattle.ws_tree.specs.declared.expr.Sub.TheVariants as sub
use Rattle.ws_tree.specs.Trees.{Exprs, end_exprs, more_exprs, Subs, end_subs, more_subs, Given, absent, given, paren, unary, binary}
use Rattle.ws_types.specs.Operations.{is_inquiry, is_reduction}
use Rattle.ws_types.specs.Sections.{is_designator}
use Rattle.array_meaning.specs.declared.world.World.{World}
use Rattle.array_meaning.specs.declared.world.Constant.{Constant}
use Rattle.array_meaning.specs.declared.term.Term.{Term}
use Rattle.array_meaning.specs.declared.term.Term.TheVariants.{Scalar, Listed, Section, Unary, Binary, Call}
use Rattle.array_meaning.specs.declared.term.Pick.{Pick}
use Rattle.array_meaning.specs.declared.term.Pick.TheVariants as pick
use Rattle.array_meaning.specs.Stage2.{extent, whole}

abbrev pub constant_of : List Constant → Name → Option ℤ
constant_of [] x = None
constant_of (c ∷ cs) x = if bytes_eq c.name x then Some c.value else constant_of cs x

-- ---- references

abbrev pub allocated : VarState → Staged ArrayValue
allocated (state.Array a) = Ok a
allocated _ = trouble Unallocated'

abbrev pub whole_array : ArrayValue → Term
whole_array a = Section a (map pick.Full (dims a.shape))

abbrev pub variable : VarState → Staged Term
variable (state.Scalar v) = Ok (Scalar v)
variable (state.Array a) = Ok (whole_array a)
variable (state.Unallocated r) = trouble Unallocated'

abbrev pub named : Option ℤ → VarState → Staged Term
named (Some v) s = Ok (Scalar v)
named None s = variable s

-- one dimension of a designator, once its subscripts are known; those of a vector are looked at in stage 2
abbrev pub checked_pick : Dim → Pick → Staged Pick
checked_pick d (pick.One i) = do
  j ← checked_subscript d i
  Ok (pick.One j)
checked_pick d (pick.Full e) = Ok (pick.Full e)
checked_pick d (pick.Range t) = do
  u ← checked_triplet d t
  Ok (pick.Range u)
checked_pick d (pick.Vector t) = Ok (pick.Vector t)

abbrev pub checked : List Dim → List Pick → Staged (List Pick)
checked (d ∷ ds) (p ∷ ps) = do
  q ← checked_pick d p
  qs ← checked ds ps
  Ok (q ∷ qs)
checked _ _ = Ok []

abbrev pub picked : List Pick → Extents
picked [] = []
picked (p ∷ ps) = extent p (picked ps)

-- what a designator selects: bounds dimension by dimension, then the number of elements
abbrev pub selected : ArrayValue → List Pick → Staged (List Pick)
selected a ps = do
  qs ← checked (dims a.shape) ps
  limited (picked qs) qs

abbrev pub only : List Pick → List ℤ
only [] = []
only (pick.One i ∷ ps) = i ∷ only ps
only (p ∷ ps) = only ps

-- an array element is a value, and any other selection an operand of stage 2
abbrev pub section_or_element : Extents → ArrayValue → List Pick → Staged Term
section_or_element [] a ps = do
  v ← scalar_of (element a (only ps))
  Ok (Scalar v)
section_or_element (n ∷ ns) a ps = Ok (Section a ps)

abbrev pub designator : ArrayValue → List Pick → Staged Term
designator a ps = do
  qs ← selected a ps
  section_or_element (picked qs) a qs

-- ---- operators and calls

-- A plus in front of an array is no operation.
abbrev pub unary_on : UnOp → Term → Staged Term
unary_on op (Scalar v) = do
  x ← scalar_of (unary_value default_half op v)
  Ok (Scalar x)
unary_on unop.Plus t = Ok t
unary_on op t = Ok (Unary op t)

abbrev pub binary_on : BinOp → Term → Term → Staged Term
binary_on op (Scalar v) (Scalar w) = do
  x ← scalar_of (binary_value default_half op v w)
  Ok (Scalar x)
binary_on op t u = Ok (Binary op t u)

-- the values, if each term is one
abbrev pub with_scalar : Option (List ℤ) → Term → Option (List ℤ)
with_scalar (Some vs) (Scalar v) = Some (v ∷ vs)
with_scalar _ _ = None

abbrev pub scalars : List Term → Option (List ℤ)
scalars [] = Some []
scalars (t ∷ ts) = with_scalar (scalars ts) t

abbrev pub elemental_on : CallWord → List Term → Option (List ℤ) → Staged Term
elemental_on w ts (Some vs) = do
  x ← scalar_of (call_value default_half w vs)
  Ok (Scalar x)
elemental_on w ts None = Ok (Call w ts)

-- all of the argument's own conformance and stage 2, and then the exact total
abbrev pub reduced : CallWord → List Term → Staged Term
reduced w [] = Ok (Scalar (pos 0))
reduced w (t ∷ ts) = do
  xs ← whole t
  total ← scalar_of (reduction default_half w xs)
  Ok (Scalar total)

abbrev pub called : CallWord → List Term → Staged Term
called w ts = if is_reduction w then reduced w ts else elemental_on w ts (scalars ts)

-- ---- inquiries

abbrev pub is_allocated : VarState → Bool
is_allocated (state.Unallocated r) = false
is_allocated _ = true

abbrev pub dimension : Option ℕ → ℕ
dimension None = 1
dimension (Some k) = k

-- SIZE, LBOUND, UBOUND and ALLOCATED of a variable, and of a dimension; no other word is an inquiry
abbrev pub inquired : CallWord → VarState → Option ℕ → Staged ℤ
inquired word.Size s k = do
  a ← allocated s
  scalar_of (size_value (dims a.shape) k)
inquired word.Lbound s k = do
  a ← allocated s
  scalar_of (lbound_value (dim_at (dims a.shape) (dimension k)))
inquired word.Ubound s k = do
  a ← allocated s
  scalar_of (ubound_value (dim_at (dims a.shape) (dimension k)))
inquired word.Allocated s k = Ok (truth (is_allocated s))
inquired word.Abs s k = Ok (pos 0)
inquired word.Mod s k = Ok (pos 0)
inquired word.Modulo s k = Ok (pos 0)
inquired word.Min s k = Ok (pos 0)
inquired word.Max s k = Ok (pos 0)
inquired word.Merge s k = Ok (pos 0)
inquired word.Sum s k = Ok (pos 0)
inquired word.Product s k = Ok (pos 0)
inquired word.Minval s k = Ok (pos 0)
inquired word.Maxval s k = Ok (pos 0)
inquired word.Count s k = Ok (pos 0)
inquired word.Any s k = Ok (pos 0)
inquired word.All s k = Ok (pos 0)

abbrev pub name_in : {m : _} → Exprs m → Name
name_in (more_exprs (Named x) es) = x
name_in _ = []

abbrev pub dimension_in : {m : _} → Exprs m → Option ℕ
dimension_in (more_exprs e (more_exprs (Number k) es)) = Some k
dimension_in _ = None

abbrev pub known : Staged ℤ → Staged Term
known r = do
  v ← r
  Ok (Scalar v)

-- ---- subscripts

abbrev pub value_of : Term → ℤ
value_of (Scalar v) = v
value_of _ = pos 0

-- a subscript: one value, or a vector
abbrev pub subscript : Bool → Term → Staged Pick
subscript left_to_stage2 (Scalar v) = Ok (pick.One v)
subscript true t = Ok (pick.Vector t)
subscript false t = do
  xs ← whole t
  Ok (pick.Vector (Listed xs))

-- ---- the walk. In an accepted program no expression is too wide or too deep.

abbrev mutual
  pub walk : World → Expr → Staged Term
  walk w (Number n) = Ok (Scalar (pos n))
  walk w TooWide = Ok (Scalar (pos 0))
  walk w TooDeep = Ok (Scalar (pos 0))
  walk w (Truth b) = Ok (Scalar (truth b))
  walk w (Named x) = named (constant_of w.constants x) (state_of w.vars x)
  walk w (Part' x _ subs) = do
    a ← allocated (state_of w.vars x)
    ps ← picks w (dims a.shape) subs
    designator a ps
  walk w (Call' word _ es) =
      if is_inquiry word then known (inquired word (state_of w.vars (name_in es)) (dimension_in es)) else (walks w es >>= called word)
  walk w (Vector' _ es) = do
    ts ← walks w es
    Ok (Listed (map value_of ts))
  walk w (paren e) = walk w e
  walk w (unary op e) = do
    t ← walk w e
    unary_on op t
  walk w (binary op e f) = do
    t ← walk w e
    u ← walk w f
    binary_on op t u

  pub walks : {m : _} → World → Exprs m → Staged (List Term)
  walks w end_exprs = Ok []
  walks w (more_exprs e es) = do
    t ← walk w e
    ts ← walks w es
    Ok (t ∷ ts)

  -- the subscripts of an array with these dimensions
  pub picks : {m : _} → World → List Dim → Subs m → Staged (List Pick)
  picks w ds end_subs = Ok []
  picks w [] (more_subs s ss) = Ok []
  picks w (d ∷ ds) (more_subs s ss) = do
    p ← one_pick w d s
    ps ← picks w ds ss
    Ok (p ∷ ps)

  pub one_pick : World → Dim → Sub → Staged Pick
  one_pick w d (sub.One e) = do
    t ← walk w e
    subscript (is_designator e) t
  one_pick w d (sub.Range' l u s) = do
    l' ← end w (Ok d.lower) l
    u' ← end w (omitted_upper d) u
    s' ← end w (Ok (pos 1)) s
    Ok (pick.Range (record { l = l'; u = u'; s = s' }))

  -- a part of a triplet, or what stands for it
  pub end : World → Staged ℤ → Given → Staged ℤ
  end w other absent = other
  end w other (given e) = do
    t ← walk w e
    Ok (value_of t)
