-- What assignments, where, forall and the lists of statements hold.
use Rattle.std.specs.Prelude.{ℕ, ◌==◌, nat_lt, Bool, true, false, not, ◌&&◌, ◌||◌, List, [], ◌∷◌, length, Option, Some, None, bytes_eq}
use Rattle.std.specs.List.{list_all, list_any}
use Rattle.ws_base.specs.declared.name.Name.{Name}
use Rattle.hlfir_ops.specs.declared.kinds.ValueKind.{ValueKind}
use Rattle.hlfir_ops.specs.declared.what.What.{What}
use Rattle.hlfir_ops.specs.declared.what.What.TheVariants as what
use Rattle.hlfir_ops.specs.declared.op.ValueId.{ValueId}
use Rattle.hlfir_ops.specs.declared.op.Op.{Op, out-Op}
use Rattle.hlfir_ops.specs.declared.op.Region.{Region, out-Region}
use Rattle.hlfir_ops.specs.Numbers.{order_of, order_in}
pub use Rattle.hlfir_ops.specs.Sorts.{is_declare, is_assign, is_where, is_elsewhere, is_forall, is_forall_mask, is_statement, is_whole_op, may_take_allocatable, same_sort, is_also}
use Rattle.hlfir_ops.specs.Sorts.{Controls, ControlsNothing, ControlsLeft, ControlsMask, ControlsElseMask, sort_of}
use Rattle.hlfir_ops.specs.RulesValues.{Value, value_at, kind_at, same_elem, elem_of, rank_of, has_rank, is_mask, is_section, is_designate, is_allocatable_declare}
use Rattle.hlfir_ops.specs.RulesRegions.{parts, parts_in, last_of}

-- ---- sorts of statements

abbrev pub declares : Op → Bool
declares op = is_declare (out-Op op).what

abbrev pub assigns : Op → Bool
assigns op = is_assign (out-Op op).what

abbrev pub stands_in_where : Op → Bool
stands_in_where op = is_assign (out-Op op).what || is_where (out-Op op).what

abbrev pub stands_in_workshare : Op → Bool
stands_in_workshare op = is_assign (out-Op op).what || is_where (out-Op op).what || is_forall (out-Op op).what

abbrev pub stands_in_program : Op → Bool
stands_in_program op = is_statement (out-Op op).what

-- ---- the sides of an assignment: its first region yields the right side, and its second region the left side

-- The right side is a scalar or has the left side's rank, and has its type.
abbrev pub sides_agree : Option ValueKind → Option ValueKind → Bool
sides_agree (Some right) (Some left) = same_elem (elem_of right) (elem_of left) && (rank_of right == 0 || rank_of right == rank_of left)
sides_agree _ _ = false

abbrev pub same_truth : Bool → Bool → Bool
same_truth true b = b
same_truth false b = not b

-- ---- where

-- one with a mask, or the last one
abbrev pub are_elsewheres : List Op → Bool
are_elsewheres [] = true
are_elsewheres (op ∷ ops) = is_elsewhere (out-Op op).what && (nat_lt 1 (length (out-Op op).regions) || length ops == 0) && are_elsewheres ops

abbrev pub have_rank : List Value → ℕ → List ValueId → Bool
have_rank vs n = list_all (λ v. has_rank n (kind_at vs v))

-- What a mask controls has this rank: the left side of an assignment, and the mask of a where or elsewhere.
abbrev pub controls_as : List Value → ℕ → Controls → List Region → Bool
controls_as vs n ControlsNothing rs = true
controls_as vs n ControlsLeft rs = have_rank vs n (parts_in rs 1)
controls_as vs n ControlsMask rs = have_rank vs n (parts_in rs 0)
controls_as vs n ControlsElseMask rs = length rs == 1 || have_rank vs n (parts_in rs 0)

abbrev pub controls_rank : List Value → ℕ → What → List Region → Bool
controls_rank vs n w rs = controls_as vs n (sort_of w).controls rs

abbrev pub is_controlled : List Value → ℕ → Op → Bool
is_controlled vs n op = controls_rank vs n (out-Op op).what (out-Op op).regions

-- A mask of truth values has the rank of all that it controls, which stands inside these regions.
abbrev pub mask_fits : List Value → Option ValueKind → List Region → Bool
mask_fits vs (Some k) rs = is_mask (Some k) && list_all (is_controlled vs (rank_of k)) (order_in rs)
mask_fits vs None rs = false

-- ---- forall

-- a mask at most, and then assignments
abbrev pub is_forall_body : List Op → Bool
is_forall_body [] = true
is_forall_body (op ∷ ops) = (is_forall_mask (out-Op op).what || assigns op) && list_all assigns ops

-- no reduction, vector, elemental or section
abbrev pub works_on_scalars : Op → Bool
works_on_scalars op = not (is_whole_op (out-Op op).what) && not (is_section (out-Op op).kind)

-- The left side is a designate, and the right side has rank 0.
abbrev pub fills_element : List Value → What → List Region → Bool
fills_element vs (what.Assign realloc) rs = list_all (λ v. is_designate (value_at vs v)) (parts_in rs 1) && have_rank vs 0 (parts_in rs 0)
fills_element vs _ rs = true

abbrev pub fills_elements : List Value → Op → Bool
fills_elements vs op = fills_element vs (out-Op op).what (out-Op op).regions

abbrev pub fits_forall : List Value → List Op → Bool
fits_forall vs ops = is_forall_body ops && list_all works_on_scalars (order_of ops) && list_all (fills_elements vs) ops

-- ---- lists of statements

-- What stands in the module's own list after these ops: a declare among the first ones, or a statement.
abbrev pub follows : List Op → Op → Bool
follows before op = stands_in_program op || declares op && list_all declares before

-- an op of the same sort and line
abbrev pub is_like : Option Op → Op → Bool
is_like (Some last) op = same_sort (out-Op last).what (out-Op op).what && (out-Op last).line == (out-Op op).line
is_like None op = false

-- An op with `also` follows one of its sort and line.
abbrev pub also_follows : List Op → Op → Bool
also_follows before op = not (is_also (out-Op op).what) || is_like (last_of before) op

-- ---- declares

abbrev pub declares_name : Name → What → Bool
declares_name name (what.Declare other) = bytes_eq other name
declares_name name _ = false

abbrev pub is_named : Name → Op → Bool
is_named name op = declares_name name (out-Op op).what

-- A declare in the module's own list follows declares alone, each with another name.
abbrev pub declares_first : List Op → What → Bool
declares_first before (what.Declare name) = list_all declares before && not (list_any (is_named name) before)
declares_first before _ = true

-- ---- uses of an allocatable's declare: by box, allocated, allocmem and freemem, and as the left side of an assignment with `realloc`

abbrev pub no_allocatable : List Value → List ValueId → Bool
no_allocatable vs = list_all (λ v. not (is_allocatable_declare (value_at vs v)))

abbrev pub yields_no_allocatable : List Value → Region → Bool
yields_no_allocatable vs region = no_allocatable vs (parts (out-Region region).ops)

-- the regions of an op, but for the left side of an assignment with `realloc`
abbrev pub regions_judged : What → List Region → List Region
regions_judged (what.Assign true) (right ∷ left ∷ more) = right ∷ more
regions_judged w rs = rs

abbrev pub reaches_by_box : List Value → Op → Bool
reaches_by_box vs op =
    (may_take_allocatable (out-Op op).what || no_allocatable vs (out-Op op).operands)
    && list_all (yields_no_allocatable vs) (regions_judged (out-Op op).what (out-Op op).regions)
