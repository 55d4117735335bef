-- What stands for a variable stands wherever its cells are the same.
use Rattle.std.proofs.Common.{◌≡◌, ◌≢◌, refl, sym, ap, ◌∙◌, subst, ℕ, zero, suc, ◌+◌, ◌*◌, ◌<◌, ◌≤◌, min, Bool, List, [], ◌∷◌, length, take, slice_index, ℤ, pos, arith}
use Rattle.std.specs.Int.{w64, cast_signed}
use Rattle.std.proofs.Math.ListN.{length-take}
use Rattle.ws_space.specs.declared.shape.Dim.{Dim}
use Rattle.ws_space.specs.declared.shape.Shape.{Shape}
use Rattle.ws_space.specs.declared.state.ArrayValue.{ArrayValue}
use Rattle.ws_space.specs.declared.state.VarState.{VarState}
use Rattle.ws_space.specs.declared.state.VarState.TheVariants as state
use Rattle.ws_space.specs.declared.state.Var.{Var}
use Rattle.ws_space.specs.Shapes.{dims}
use Rattle.ws_space.specs.WellFormed.{elements, IsArray}
use Rattle.phase_ops.specs.declared.phase.Range.{Range}
use Rattle.phase_ops.specs.declared.phase.Layout.{Layout}
use Rattle.phase_ops.specs.Phases.{Cells, cell_value}
use Rattle.phase_ops.specs.Free.{In}
use Rattle.hlfir_ops.specs.declared.kinds.Elem.{Elem}
use Rattle.hlfir_ops.specs.declared.kinds.ValueKind.{ValueKind}
use Rattle.hlfir_ops.specs.declared.kinds.ValueKind.TheVariants as kind
use Rattle.storage_owner.specs.Ranges.{range_at, HasCell}
use Rattle.storage_owner.specs.Layouts.{var_cells, box_cells}
use Rattle.storage_owner.specs.Standing.{of_var, of_box, Owner, number_of, owned, HasRoom, HoldsValues, HoldsDims, StateStands, state_at, VarStands, is_truth, IsOfKind}

pub same_value : (m m' : Cells) (c d : ℕ) → slice_index m' d ≡ slice_index m c → cell_value m' d ≡ cell_value m c
same_value m m' c d e = ap (cast_signed w64) e

-- the cell itself is the one at the distance 0
pub at_first : (m : Cells) (c : ℕ) → cell_value m (c + 0) ≡ cell_value m c
at_first m c = let e : c + 0 ≡ c = omega arith in ap (cell_value m) e

-- a shape has no more dimensions than its rank
pub few_dims : (s : Shape) → length (dims s) ≤ s.rank
few_dims s = let e = length-take s.rank (s.d1 ∷ s.d2 ∷ s.d3 ∷ []) in omega (arith, e)

-- what an array of this kind holds has room
pub array_room : (e : Elem) (shape : Shape) (a : ArrayValue) → IsOfKind (kind.Declared e shape) (state.Array a) → length a.values ≡ elements shape
array_room e shape a h = h.1.as_many ∙ ap elements h.0

pub allocated_room : (e : Elem) (rank : ℕ) (a : ArrayValue) → IsOfKind (kind.Allocatable e rank) (state.Array a) → length a.values ≤ 65536
allocated_room e rank a h = let n = h.1.as_many in let f = h.1.shape.few in omega (arith, n, f)

module _ (m m' : Cells) (r b r' b' : Range) where
  values_copied : (n : ℕ) (xs : List ℤ) → length xs ≤ n → ((p : ℕ) → p < n → cell_value m' (r'.first + p) ≡ cell_value m (r.first + p)) → HoldsValues m r.first xs → HoldsValues m' r'.first xs
  values_copied n xs l same h p low = same p (omega (arith, l, low)) ∙ h p low

  dims_copied : (n q c c' : ℕ) (ds : List Dim) → ((p : ℕ) → p < n → cell_value m' (b'.first + p) ≡ cell_value m (b.first + p)) → c ≡ b.first + q → c' ≡ b'.first + q → q + 2 * length ds ≤ n → HoldsDims m c ds → HoldsDims m' c' ds
  dims_copied n q c c' [] same e e' l h = tt
  dims_copied n q c c' (d ∷ ds) same e e' l h = (
    ap (cell_value m') e' ∙ same q (omega (arith, l)) ∙ ap (cell_value m) (sym e) ∙ h.0,
    ap (cell_value m') (let f : c' + 1 ≡ b'.first + (q + 1) = omega (arith, e') in f) ∙ same (q + 1) (omega (arith, l)) ∙ ap (cell_value m) (let f : b.first + (q + 1) ≡ c + 1 = omega (arith, e) in f) ∙ h.1,
    dims_copied n (q + 2) (c + 2) (c' + 2) ds same (omega (arith, e)) (omega (arith, e')) (omega (arith, l)) h.2,
  )

  pub descriptor_copied : (rank : ℕ) (ds : List Dim) → ((p : ℕ) → p < 1 + 2 * rank → cell_value m' (b'.first + p) ≡ cell_value m (b.first + p)) → length ds ≤ rank
      → (cell_value m b.first ≡ pos 1) × HoldsDims m (b.first + 1) ds → (cell_value m' b'.first ≡ pos 1) × HoldsDims m' (b'.first + 1) ds
  descriptor_copied rank ds boxed few h = (
    sym (at_first m' b'.first) ∙ boxed 0 (omega arith) ∙ at_first m b.first ∙ h.0,
    dims_copied (1 + 2 * rank) 1 (b.first + 1) (b'.first + 1) ds boxed refl refl (omega (arith, few)) h.1,
  )

  pub state_copied : (k : ValueKind) (s : VarState) → ((p : ℕ) → p < var_cells k → cell_value m' (r'.first + p) ≡ cell_value m (r.first + p)) → ((p : ℕ) → p < box_cells k → cell_value m' (b'.first + p) ≡ cell_value m (b.first + p))
      → IsOfKind k s → StateStands m r b k s → StateStands m' r' b' k s
  state_copied (kind.Place e) (state.Scalar z) same boxed fit h = sym (at_first m' r'.first) ∙ same 0 (omega arith) ∙ at_first m r.first ∙ h
  state_copied (kind.Declared e shape) (state.Array a) same boxed fit h = values_copied (elements shape) a.values (let n = array_room e shape a fit in omega (arith, n)) same h
  state_copied (kind.Allocatable e rank) (state.Array a) same boxed fit h =
      let d = descriptor_copied rank (dims a.shape) boxed (let n = few_dims a.shape in let f = fit.0 in omega (arith, n, f)) (h.1, h.2) in
      (values_copied 65536 a.values (allocated_room e rank a fit) same h.0, d.0, d.1)
  state_copied (kind.Allocatable e rank) (state.Unallocated k) same boxed fit h = sym (at_first m' b'.first) ∙ boxed 0 (omega arith) ∙ at_first m b.first ∙ h
  state_copied k s same boxed fit h = absurd h

-- ---- cells of a variable with room

module _ (l : Layout) (kinds : ℕ → ValueKind) (vs : List ℕ) (cells : ℕ) (room : HasRoom l kinds vs cells) (n : ℕ) (i : In n vs) where
  pub var_cell : (p : ℕ) → p < var_cells (kinds n) → HasCell (range_at l.vars n) ((range_at l.vars n).first + p)
  var_cell p low = let r = room.vars n i in (omega arith, omega (arith, r, low))

  pub box_cell : (p : ℕ) → p < box_cells (kinds n) → HasCell (range_at l.boxes n) ((range_at l.boxes n).first + p)
  box_cell p low = let r = room.boxes n i in (omega arith, omega (arith, r, low))

  -- its own cells are as they were
  pub still_stands : (vars : List Var) (m m' : Cells) → IsOfKind (kinds n) (state_at vars n) → ((o : Owner) (c : ℕ) → number_of o ≡ n → HasCell (owned l o) c → slice_index m' c ≡ slice_index m c) → VarStands m l kinds vars n
      → VarStands m' l kinds vars n
  still_stands vars m m' fit same h = state_copied m m' (range_at l.vars n) (range_at l.boxes n) (range_at l.vars n) (range_at l.boxes n) (kinds n) (state_at vars n)
      (λ p low. same_value m m' ((range_at l.vars n).first + p) ((range_at l.vars n).first + p) (same (of_var n) ((range_at l.vars n).first + p) refl (var_cell p low)))
      (λ p low. same_value m m' ((range_at l.boxes n).first + p) ((range_at l.boxes n).first + p) (same (of_box n) ((range_at l.boxes n).first + p) refl (box_cell p low)))
      fit h
