-- The lowering of left sides, and of the statements that hold no others.
use Rattle.std.specs.Prelude.{ℕ, ⊤, Bool, true, false, not, ◌&&◌, nat_lt, List, [], ◌∷◌, ◌++◌, Some, pos}
use Rattle.ws_base.specs.declared.name.Name.{Name}
use Rattle.ws_tree.specs.declared.expr.Expr.{Expr}
use Rattle.ws_tree.specs.declared.expr.Expr.TheVariants.{Named, Part'}
use Rattle.ws_tree.specs.declared.stmt.Bound.{Bound}
use Rattle.ws_tree.specs.declared.stmt.Bound.TheVariants as bounds
use Rattle.ws_tree.specs.declared.stmt.Part.{Part}
use Rattle.ws_tree.specs.declared.stmt.Body.{Body}
use Rattle.ws_tree.specs.declared.stmt.Body.TheVariants.{Assign, Allocate, Deallocate, Read}
use Rattle.hlfir_ops.specs.declared.kinds.Elem.TheVariants.{I32}
use Rattle.hlfir_ops.specs.declared.what.What.TheVariants as what
use Rattle.hlfir_ops.specs.declared.op.ValueId.{ValueId}
use Rattle.hlfir_ops.specs.RulesValues.{is_allocatable}
use Rattle.lower_values.specs.declared.names.Names.{Names}
use Rattle.lower_values.specs.declared.operand.Operand.{Operand}
use Rattle.lower_values.specs.Lowerings.{Lowering, done, ◌>>=◌, scoped, in_turn, acting, statement_of}
use Rattle.lower_values.specs.Operations.{constant}
use Rattle.lower_values.specs.References.{nothing, declare_of, boxed}
use Rattle.lower_values.specs.Values.{value, part_of, subscripts}

-- ---- what regions yield

abbrev pub yielded : Lowering Operand → Lowering ⊤
yielded p = do
  x ← p
  acting what.Yield (x.value ∷ [])

abbrev pub all_yielded : Lowering (List ValueId) → Lowering ⊤
all_yielded p = do
  vs ← p
  acting what.Yield vs

-- ---- the number of a value

abbrev pub number_of : Lowering Operand → Lowering ValueId
number_of p = p >>= (λ x. done x.value)

-- ---- left sides

-- A whole allocatable is its box in a WHERE, and else its declare.
abbrev pub whole_left : Bool → Operand → Lowering Operand
whole_left true d = boxed d
whole_left false d = done d

-- a designator that is assigned or read; the Bool says whether a whole allocatable is its box
abbrev pub left_of : Bool → Expr → Lowering Operand
left_of by_box (Named x) = scoped (λ s. whole_left by_box (declare_of s.names x))
left_of by_box (Part' x _ subs) = part_of x (λ r. subscripts r 1 subs)
left_of by_box e = done nothing

unfoldable pub left : Expr → Lowering Operand
left e = scoped (λ s. left_of s.masked e)

-- an item of READ
abbrev pub item : Expr → Lowering Operand
item e = left_of true e

-- A whole allocatable outside WHERE may change its shape.
abbrev pub is_whole_allocatable : Names → Expr → Bool
is_whole_allocatable names (Named x) = is_allocatable (Some (declare_of names x).kind)
is_whole_allocatable names e = false

-- ---- assignment

unfoldable pub assignment : ℕ → Expr → Expr → Lowering ⊤
assignment line l r = scoped (λ s.
    statement_of (what.Assign (not s.masked && is_whole_allocatable s.names l)) line [] (yielded (value r) ∷ yielded (left l) ∷ []))

-- ---- ALLOCATE and DEALLOCATE

-- The lower bound of `u` is 1. In an accepted source `:` alone is no bound here.
unfoldable pub bounds_of : Bound → Lowering (List ValueId)
bounds_of (bounds.Upper u) = do
  x ← constant I32 (pos 1)
  y ← value u
  done (x.value ∷ y.value ∷ [])
bounds_of (bounds.Both l u) = do
  x ← value l
  y ← value u
  done (x.value ∷ y.value ∷ [])
bounds_of bounds.Deferred = done []

unfoldable pub all_bounds : List Bound → Lowering (List ValueId)
all_bounds [] = done []
all_bounds (b ∷ bs) = do
  vs ← bounds_of b
  ws ← all_bounds bs
  done (vs ++ ws)

-- An item after the first one of its statement has `also`.
unfoldable pub allocation : ℕ → Bool → Part → Lowering ⊤
allocation line also p = scoped (λ s. statement_of (what.Allocmem also) line ((declare_of s.names p.name).value ∷ []) (all_yielded (all_bounds p.shape) ∷ []))

unfoldable pub deallocation : ℕ → Bool → Name → Lowering ⊤
deallocation line also x = scoped (λ s. statement_of (what.Freemem also) line ((declare_of s.names x).value ∷ []) [])

-- ---- READ

unfoldable pub reading : ℕ → Bool → Expr → Lowering ⊤
reading line also e = statement_of (what.Read also) line [] (yielded (item e) ∷ [])

-- ---- statements that hold no others

-- one op for each item, told whether one stands before it
abbrev pub each_item : {A : Type 0} → (Bool → A → Lowering ⊤) → List A → Lowering ⊤
each_item f = in_turn (λ k. f (nat_lt 0 k)) 0

abbrev pub plain : ℕ → Body → Lowering ⊤
plain line (Assign l r) = assignment line l r
plain line (Allocate ps) = each_item (allocation line) ps
plain line (Deallocate xs) = each_item (deallocation line) xs
plain line (Read es) = each_item (reading line) es
plain line body = done tt
