-- Values in array element order, targets, and the variables of a state.
use Rattle.std.specs.Prelude.{ℕ, suc, ◌==◌, Bool, false, ◌||◌, if◌then◌else◌, List, [], ◌∷◌, slice_index_or, Option, Some, None, Ok, ℤ, pos, bytes_eq}
use Rattle.ws_base.specs.Numbers.{Exact}
use Rattle.ws_base.specs.Outcomes.{◌>>=◌}
use Rattle.ws_space.specs.declared.shape.Dim.{Dim}
use Rattle.ws_space.specs.declared.state.ArrayValue.{ArrayValue}
use Rattle.ws_space.specs.declared.state.VarState.{VarState}
use Rattle.ws_space.specs.declared.state.VarState.TheVariants.{Scalar, Array, Unallocated}
use Rattle.ws_space.specs.declared.state.Var.{Var}
use Rattle.ws_space.specs.Shapes.{dims, shape_of, place}

abbrev pub Name : Type 0
Name = List ℕ

abbrev pub value_at : List ℤ → ℕ → ℤ
value_at xs p = slice_index_or xs p (pos 0)

abbrev pub element : ArrayValue → List ℤ → Exact
element a is = place (dims a.shape) is >>= (λ p. Ok (value_at a.values p))

-- what stands for place p among the targets and the values that go there
abbrev pub stored_at : List ℕ → List ℤ → ℕ → ℤ → ℤ
stored_at (t ∷ ts) (v ∷ vs) p old = if t == p then v else stored_at ts vs p old
stored_at _ _ p old = old

abbrev pub stored_from : ℕ → List ℕ → List ℤ → List ℤ → List ℤ
stored_from p ts vs [] = []
stored_from p ts vs (old ∷ olds) = stored_at ts vs p old ∷ stored_from (suc p) ts vs olds

-- all targets replaced at once
abbrev pub stored : List ℤ → List ℕ → List ℤ → List ℤ
stored olds ts vs = stored_from 0 ts vs olds

abbrev pub is_among : ℕ → List ℕ → Bool
is_among t [] = false
is_among t (u ∷ us) = t == u || is_among t us

-- the least place in the list whose target stands earlier
abbrev pub repeat_after : List ℕ → ℕ → List ℕ → Option ℕ
repeat_after seen k [] = None
repeat_after seen k (t ∷ ts) = if is_among t seen then Some k else repeat_after (t ∷ seen) (suc k) ts

abbrev pub first_repeat : List ℕ → Option ℕ
first_repeat = repeat_after [] 0

abbrev pub state_of : List Var → Name → VarState
state_of [] x = Scalar (pos 0)
state_of (v ∷ vs) x = if bytes_eq v.name x then v.state else state_of vs x

abbrev pub with_state : List Var → Name → VarState → List Var
with_state [] x s = []
with_state (v ∷ vs) x s = if bytes_eq v.name x then record v { state = s } ∷ vs else v ∷ with_state vs x s

-- A scalar is an array of rank 0.
abbrev pub held : VarState → Option ArrayValue
held (Scalar v) = Some (record { shape = shape_of []; values = v ∷ [] })
held (Array a) = Some a
held (Unallocated r) = None

abbrev pub kept : List Dim → List ℤ → VarState
kept [] vs = Scalar (value_at vs 0)
kept (d ∷ ds) vs = Array (record { shape = shape_of (d ∷ ds); values = vs })
