-- Stage 1 of a step: the list of what is evaluated once, before any element.
use Rattle.std.specs.Prelude.{ℕ, max, ◌+◌, Bool, false, not, ◌||◌, if◌then◌else◌, List, [], ◌∷◌, ◌++◌, Option, Some, None, ℤ, pos, slice_get, slice_index_or}
use Rattle.std.specs.Option.{is_some}
use Rattle.std.specs.List.{flat_map}
use Rattle.ws_base.specs.Numbers.{int_eq}
use Rattle.ws_base.specs.declared.op.CallWord.{CallWord}
use Rattle.hlfir_ops.specs.declared.what.What.{What}
use Rattle.hlfir_ops.specs.declared.what.What.TheVariants as what
use Rattle.hlfir_ops.specs.declared.op.ValueId.{ValueId}
use Rattle.hlfir_ops.specs.declared.op.Op.{Op, out-Op}
use Rattle.hlfir_ops.specs.declared.op.Region.{Region}
use Rattle.hlfir_ops.specs.Sorts.{is_where, is_elsewhere, is_forall_mask}
use Rattle.hlfir_ops.specs.Numbers.{op_numbers}
use Rattle.hlfir_ops.specs.Rules.{is_in}
use Rattle.hlfir_ops.specs.RulesRegions.{ops_in, parts_in}
use Rattle.hlfir_ops.specs.RulesPlaces.{own_defined}
use Rattle.hlfir_meaning.specs.Operators.{reduction_word}
use Rattle.hlfir_meaning.specs.Combinations.{last_part}
use Rattle.alias_test.specs.Normal.{constant_at}
use Rattle.assign_schedule.specs.Items.{Item}
use Rattle.assign_schedule.specs.Saved.{in_forall}
use Rattle.phase_plan.specs.Known.{Known, one_shape}

-- ---- the values of an item's stage 1

-- the values that these ops themselves give, where the next value has this number
abbrev pub own_values : ℕ → List Op → List ℕ
own_values n [] = []
own_values n (op ∷ ops) = own_defined n (out-Op op).kind ++ own_values (op_numbers op + n) ops

-- the ops of a mask, of a header, or of both sides of an assignment
abbrev pub first_ops : What → List Region → List Op
first_ops (what.Assign realloc) rs = ops_in rs 0 ++ ops_in rs 1
first_ops w rs = ops_in rs 0

-- In a FORALL everything but the header is evaluated with each element.
abbrev pub stage_values : Known → Item → List ℕ
stage_values k i = if in_forall i then [] else own_values (slice_index_or k.next i.place 0) (first_ops (out-Op i.op).what (out-Op i.op).regions)

-- ---- the list

-- An item, static or not; a reduction and a vector subscript evaluated whole, with its line, whether the operands of its argument or expression have one known
-- shape, and that argument or expression. Of a vector subscript this is also said: whether it stands in a mask.
pub data Entry : Type 0 where
  item : Bool → Entry
  total : ℕ → CallWord → Bool → List ValueId → Entry
  whole : ℕ → Bool → Bool → List ValueId → Entry

abbrev pub is_mask_by : What → Bool
is_mask_by w = is_where w || is_elsewhere w || is_forall_mask w

abbrev pub is_mask : Item → Bool
is_mask i = is_mask_by (out-Op i.op).what

abbrev pub are_known : Known → List ValueId → Bool
are_known k vs = is_some (one_shape k.shapes vs)

abbrev pub whole_of : Known → Item → List ValueId → Entry
whole_of k i os = whole (out-Op i.op).line (are_known k os) (is_mask i) os

abbrev pub whole_entry : Known → Item → ℕ → List Entry
whole_entry k i n = if is_in k.subscripts n then whole_of k i (record { number = n } ∷ []) ∷ [] else []

abbrev pub own_item : Known → ℕ → List Entry
own_item k n = item (slice_index_or k.statics n false) ∷ []

-- A computed array that is no subscript is an operation of stage 2.
abbrev pub entry_by : Known → Item → ℕ → What → List ValueId → List Entry
entry_by k i n (what.Declare name) os = own_item k n
entry_by k i n (what.Assign realloc) os = own_item k n
entry_by k i n what.Masked os = own_item k n
entry_by k i n what.Elsewhere os = own_item k n
entry_by k i n (what.Forall names) os = own_item k n
entry_by k i n what.ForallMask os = own_item k n
entry_by k i n what.Workshare os = own_item k n
entry_by k i n what.DoLoop os = own_item k n
entry_by k i n (what.Allocmem also) os = own_item k n
entry_by k i n (what.Freemem also) os = own_item k n
entry_by k i n (what.Read also) os = own_item k n
entry_by k i n what.Yield os = own_item k n
entry_by k i n what.YieldElement os = own_item k n
entry_by k i n (what.Constant c) os = own_item k n
entry_by k i n (what.Unary op) os = own_item k n
entry_by k i n (what.Binary op) os = own_item k n
entry_by k i n what.Select os = own_item k n
entry_by k i n what.Load os = own_item k n
entry_by k i n what.Boxed os = own_item k n
entry_by k i n (what.Bound word dim) os = own_item k n
entry_by k i n what.Size os = own_item k n
entry_by k i n what.Allocated os = own_item k n
entry_by k i n (what.Designate subs) os = own_item k n
entry_by k i n what.Vector os = own_item k n
entry_by k i n what.AsExpr os = whole_entry k i n
entry_by k i n what.Elemental os = whole_entry k i n
entry_by k i n what.Apply os = own_item k n
entry_by k i n (what.Reduce reduction) os = total (out-Op i.op).line (reduction_word reduction) (are_known k os) os ∷ []

abbrev pub entry_given : Known → Item → ℕ → Option Op → List Entry
entry_given k i n (Some op) = entry_by k i n (out-Op op).what (out-Op op).operands
entry_given k i n None = []

-- ---- A zero stride fails where its index is complete, so the stretch there is no static one but where the stride is a constant other than 0.

abbrev pub is_stride : Option ℤ → Bool
is_stride (Some s) = not (int_eq s (pos 0))
is_stride None = false

-- The values with which the indexes of such strides are complete. An index is complete after the ones before it.
abbrev pub unsure_from : Known → ℕ → List ValueId → List ℕ
unsure_from k n (l ∷ u ∷ s ∷ more) =
    let last = max n (last_part l u s) in (if is_stride (constant_at k.givers s) then [] else last ∷ []) ++ unsure_from k last more
unsure_from k n vs = []

abbrev pub unsure_strides : Known → What → List Region → List ℕ
unsure_strides k (what.Forall names) rs = unsure_from k 0 (parts_in rs 0)
unsure_strides k w rs = []

abbrev pub stride_entry : List ℕ → ℕ → List Entry
stride_entry unsure n = if is_in unsure n then item false ∷ [] else []

abbrev pub entries_with : Known → Item → List ℕ → List Entry
entries_with k i unsure = flat_map (λ n. entry_given k i n (slice_get k.givers n) ++ stride_entry unsure n) (stage_values k i)

abbrev pub item_entries : Known → Item → List Entry
item_entries k i = entries_with k i (unsure_strides k (out-Op i.op).what (out-Op i.op).regions)

abbrev pub entries_of : Known → List Item → List Entry
entries_of k = flat_map (item_entries k)
