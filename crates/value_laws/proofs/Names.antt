-- Names of variables: a scalar is loaded, an array is its declare or its box.
use Rattle.std.proofs.Common.{◌≡◌, refl, sym, ap, ◌∙◌, subst, inl, inr, ℕ, zero, suc, ◌+◌, ◌<◌, ◌≤◌, ◌==◌, false, List, [], ◌∷◌, map, take, All, Some, Ok, ℤ, pos, arith}
use Rattle.std.specs.Prelude.{⊤}
use Rattle.std.proofs.lemmas.Bool.{true≢false}
use Rattle.std.proofs.lemmas.List.Elements.{All-head}
use Rattle.ws_base.specs.declared.fault.FaultName.TheVariants.{Unallocated as Unallocated'}
use Rattle.ws_base.specs.Outcomes.{Staged, trouble, ◌>>=◌}
use Rattle.ws_space.specs.declared.shape.Dim.{Dim}
use Rattle.ws_space.specs.declared.shape.Shape.{Shape}
use Rattle.ws_space.specs.declared.state.ArrayValue.{ArrayValue}
use Rattle.ws_space.specs.declared.state.VarState.{VarState}
use Rattle.ws_space.specs.declared.state.VarState.TheVariants as state
use Rattle.ws_space.specs.declared.state.Var.{Var}
use Rattle.ws_space.specs.Shapes.{Extents, size, dims, extents_of}
use Rattle.ws_space.specs.Values.{value_at}
use Rattle.array_meaning.specs.declared.term.Term.{Term}
use Rattle.array_meaning.specs.declared.term.Term.TheVariants as term
use Rattle.array_meaning.specs.declared.term.Pick.TheVariants as pick
use Rattle.array_meaning.specs.declared.term.Pick.TheBlock.{hidden-the_row-Pick-0}
use Rattle.array_meaning.specs.Terms.{terms_open}
use Rattle.array_meaning.specs.Stage1 as source
use Rattle.array_meaning.specs.Stage2 as later
use Rattle.hlfir_ops.specs.declared.kinds.Elem.{Elem}
use Rattle.hlfir_ops.specs.declared.kinds.ValueKind.{ValueKind}
use Rattle.hlfir_ops.specs.declared.kinds.ValueKind.TheVariants as kind
use Rattle.hlfir_ops.specs.declared.what.What.TheVariants as what
use Rattle.hlfir_ops.specs.declared.op.ValueId.{ValueId}
use Rattle.hlfir_ops.specs.declared.op.Op.{Op}
use Rattle.hlfir_ops.specs.Trees.{op_of}
use Rattle.hlfir_ops.specs.Numbers.{numbers_of}
use Rattle.hlfir_ops.specs.RulesValues.{rank_of}
use Rattle.hlfir_ops.proofs.Numbered.{op_numbers-op_of}
use Rattle.hlfir_meaning.specs.Environments.{Value, variable, scalar, Environment, with_value}
use Rattle.hlfir_meaning.specs.Places.{column_at}
use Rattle.hlfir_meaning.specs.Selections.{array_operand}
use Rattle.hlfir_meaning.specs.References as references
use Rattle.hlfir_meaning.specs.Stage1 as walked
use Rattle.hlfir_meaning.specs.Stage1.{stage1}
use Rattle.lower_values.specs.declared.operand.Operand.{Operand}
use Rattle.lower_values.specs.Scopes.{Scope}
use Rattle.lower_values.specs.Lowerings.{Lowering, done, giving, ◌>>=◌ as ◌then◌}
use Rattle.lower_values.specs.References.{boxed, loaded}
use Rattle.value_laws.specs.Standing.{Goes, Does, IsOwn, Gives, AreIn, Stands}
use Rattle.value_laws.specs.Variables.{IsArrayOf, Fits, IsWholeWhereNamed}
use Rattle.value_laws.proofs.Ordered.{ordered-none}
use Rattle.value_laws.proofs.Walking.{with_value-here, goes-op, does-done, does-then}
use Rattle.value_laws.proofs.Scalars.{settled-not, does-scalar}
use Rattle.value_laws.proofs.Wholes.{whole-values}

full_extents : (ds : List Dim) → later.extents (hidden-the_row-Pick-0 (map pick.Full ds)) ≡ extents_of ds
unfolding terms_open
full_extents [] = refl
full_extents (d ∷ ds) = ap (λ es. d.extent ∷ es) (full_extents ds)

pub whole_operands : (a : ArrayValue) → later.operands (source.whole_array a) ≡ later.array_operand (extents_of (dims a.shape))
unfolding terms_open
whole_operands a = ap later.array_operand (full_extents (dims a.shape))

-- ---- shapes that have a dimension

abbrev pub IsSome : Extents → Type 0
IsSome [] = ⊥
IsSome (n ∷ ns) = Unit {0}

pub some_take : (rank : ℕ) (d : Dim) (ds : List Dim) → (rank == 0) ≡ false → IsSome (extents_of (take rank (d ∷ ds)))
some_take zero d ds h = absurd (true≢false h)
some_take (suc r) d ds h = tt

pub in_shape : (at : List ℕ) (e : Extents) → IsSome e → AreIn at (later.array_operand e) → All (λ p. p < size e) at
in_shape at [] some h = absurd some
in_shape at (n ∷ ns) some h = All-head (λ f. All (λ p. p < size f) at) (n ∷ ns) [] h

-- ---- whole arrays

module _ (base low high : ℕ) (env : Environment) (x : Operand) (v : Var) (a : ArrayValue) where
  whole_named : (k : ValueKind) → v.state ≡ state.Array a → IsArrayOf (rank_of k) a → IsWholeWhereNamed k (variable v) (source.whole_array a)
  whole_named (kind.Declared e shape) is held = record { var = v; array = a; value = refl; holds = is; fits = held; term = refl }
  whole_named (kind.Allocatable e rank) is held = record { var = v; array = a; value = refl; holds = is; fits = held; term = refl }
  whole_named _ is held = tt

  pub whole-stands : env x.value.number ≡ variable v → v.state ≡ state.Array a → IsOwn base low high x.value.number → (rank_of x.kind == 0) ≡ false → IsArrayOf (rank_of x.kind) a → Stands base low high env x (source.whole_array a)
  unfolding terms_open
  whole-stands found is own ranked held = record {
    value = variable v;
    found = found;
    own = own;
    rank = ranked;
    whole = whole_named x.kind is held;
    shapes = ap (λ s. array_operand (references.held_extents s)) is ∙ sym (whole_operands a);
    ordered = ordered-none low high;
    gives = λ other at alike inside.
        let some = some_take a.shape.rank a.shape.d1 (a.shape.d2 ∷ a.shape.d3 ∷ []) (ap (λ r. r == 0) held.same ∙ ranked) in
        let places = in_shape at (extents_of (dims a.shape)) some (subst (AreIn at) (whole_operands a) inside) in
        subst (Gives low high at other x.value.number []) (sym (whole-values a at places))
        (other, refl, ap (column_at at) (alike x.value.number own ∙ found) ∙ ap (λ s. map (value_at (references.held_values s)) at) is, record { below = λ k _. refl; above = λ k _. refl });
  }

-- ---- the op or ops of a name

-- the value of the variable with this declare
abbrev pub named_by : ValueId → ValueKind → Lowering Operand
named_by id k = boxed (record { value = id; kind = k }) then loaded

module _ (vectors : List ℕ) (base low : ℕ) (s : Scope) (n : ℕ) (env : Environment) (v : Var) (id : ValueId) (g : base ≤ low) (l : low ≤ n) (declared : id.number < base) (found : env id.number ≡ variable v) where
  abbrev Leaves : Operand → Term → ℕ → Environment → Type 0
  Leaves x t m after = Stands base low m after x t

  abbrev Anything : Operand → ⊤ → ℕ → Environment → Type 0
  Anything x u m after = Unit {0}

  abbrev Never : Operand → ⊤ → ℕ → Environment → Type 0
  Never x u m after = ⊥

  abbrev value_is : ℤ → ⊤ → Staged Term
  value_is z u = Ok (term.Scalar z)

  abbrev array_is : ArrayValue → ⊤ → Staged Term
  array_is a u = Ok (source.whole_array a)

  small : id.number < n
  small = omega (arith, declared, g, l)

  loads : (e : Elem) (z : ℤ) → v.state ≡ state.Scalar z → Does vectors s n env (named_by id (kind.Place e)) (Ok (term.Scalar z)) Leaves
  unfolding boxed loaded done
  loads e z is =
      let d : Operand = record { value = id; kind = kind.Place e } in
      does-then (stage1 vectors) s n env (boxed d) loaded (Ok tt) (value_is z) Anything Leaves (does-done (stage1 vectors) s n env d tt Anything tt)
      (λ u m middle at kept h. does-scalar vectors base low what.Load (id ∷ []) e s m middle (omega (arith, at, l)) (Ok z) refl (λ b. refl)
      (ap (λ x. walked.as_scalar (walked.loaded x)) (kept id.number small ∙ found) ∙ ap (λ q. let r : Staged Value = Ok (scalar (references.held_scalar q)) in r) is))

  declares : (e : Elem) (shape : Shape) (a : ArrayValue) → v.state ≡ state.Array a → IsArrayOf shape.rank a → Does vectors s n env (named_by id (kind.Declared e shape)) (Ok (source.whole_array a)) Leaves
  unfolding boxed loaded done
  declares e shape a is h =
      let d : Operand = record { value = id; kind = kind.Declared e shape } in
      does-then (stage1 vectors) s n env (boxed d) loaded (Ok tt) (array_is a) Anything Leaves (does-done (stage1 vectors) s n env d tt Anything tt)
      (λ u m middle at kept i. does-done (stage1 vectors) s m middle d (source.whole_array a) Leaves (whole-stands base low m middle d v a (kept id.number small ∙ found) is (inl declared) h.some h))

  abbrev pub box_op : Elem → ℕ → Op
  box_op e rank = op_of what.Boxed s.line (id ∷ []) (Some (kind.Allocatable e rank)) []

  abbrev pub box : Staged Value
  box = references.allocated v.state >>= (λ a. Ok (variable v))

  pub boxes : (e : Elem) (rank : ℕ) → Goes vectors n env (box_op e rank ∷ []) box (λ x after. after ≡ with_value n x env)
  boxes e rank = subst (λ q. Goes vectors n env (box_op e rank ∷ []) q (λ x after. after ≡ with_value n x env))
      (settled-not n env (walked.made n env what.Boxed (id ∷ []) []) ∙ ap walked.boxed found)
      (goes-op vectors what.Boxed s.line (id ∷ []) (Some (kind.Allocatable e rank)) [] n env refl)

  abbrev Boxed : Operand → ⊤ → ℕ → Environment → Type 0
  Boxed x u m after = after n ≡ variable v

  boxed_array : (e : Elem) (rank : ℕ) (a : ArrayValue) → v.state ≡ state.Array a → Goes vectors n env (box_op e rank ∷ []) box (λ x after. after ≡ with_value n x env) → Goes vectors n env (box_op e rank ∷ []) (Ok tt) (λ u after. Boxed (record { value = record { number = n }; kind = kind.Allocatable e rank }) u (n + numbers_of (box_op e rank ∷ [])) after)
  boxed_array e rank a is h =
      let held : Goes vectors n env (box_op e rank ∷ []) (Ok (variable v)) (λ x after. after ≡ with_value n x env) =
      subst (λ q. Goes vectors n env (box_op e rank ∷ []) (references.allocated q >>= (λ b. Ok (variable v))) (λ x after. after ≡ with_value n x env)) is h in
      (held.0, held.1, ap (λ f. f n) held.2 ∙ with_value-here n (variable v) env)

  keeps_box : (e : Elem) (rank : ℕ) (a : ArrayValue) → v.state ≡ state.Array a → IsArrayOf rank a → Does vectors s n env (named_by id (kind.Allocatable e rank)) (Ok (source.whole_array a)) Leaves
  unfolding boxed loaded done giving
  keeps_box e rank a is h =
      let d : Operand = record { value = id; kind = kind.Allocatable e rank } in
      let x : Operand = record { value = record { number = n }; kind = kind.Allocatable e rank } in
      does-then (stage1 vectors) s n env (boxed d) loaded (Ok tt) (array_is a) Boxed Leaves (boxed_array e rank a is (boxes e rank))
      (λ u m middle at kept i. does-done (stage1 vectors) s m middle x (source.whole_array a) Leaves
      (whole-stands base low m middle x v a i is (inr (l, omega (arith, at, op_numbers-op_of what.Boxed s.line (id ∷ []) (Some (kind.Allocatable e rank)) []))) h.some h))

  faults : (e : Elem) (rank k : ℕ) → v.state ≡ state.Unallocated k → Does vectors s n env (named_by id (kind.Allocatable e rank)) (trouble Unallocated') Leaves
  unfolding boxed loaded done giving
  faults e rank k is =
      let d : Operand = record { value = id; kind = kind.Allocatable e rank } in
      let none : Staged ⊤ = trouble Unallocated' in
      does-then (stage1 vectors) s n env (boxed d) loaded none (value_is (pos 0)) Never Leaves
      (subst (λ q. Goes vectors n env (box_op e rank ∷ []) (references.allocated q >>= (λ b. Ok (variable v))) (λ x after. after ≡ with_value n x env)) is (boxes e rank))
      (λ u m middle at kept i. absurd i)

  pub does-variable : (k : ValueKind) (held : VarState) → v.state ≡ held → Fits k held → Does vectors s n env (named_by id k) (source.variable held) Leaves
  does-variable (kind.Place e) (state.Scalar z) is h = loads e z is
  does-variable (kind.Declared e shape) (state.Array a) is h = declares e shape a is h
  does-variable (kind.Allocatable e rank) (state.Array a) is h = keeps_box e rank a is h
  does-variable (kind.Allocatable e rank) (state.Unallocated r) is h = faults e rank r is
  does-variable k held is h = absurd h
