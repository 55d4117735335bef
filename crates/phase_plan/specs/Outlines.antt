-- Which phases a module has: their kinds, lines and labels, in order.
use Rattle.std.specs.Prelude.{ℕ, suc, ◌+◌, ◌*◌, ◌==◌, nat_lt, nat_le, max, Bool, true, false, not, ◌&&◌, ◌||◌, if◌then◌else◌, List, [], ◌∷◌, ◌++◌, map, length, Option, Some, None, slice_get, slice_index_or}
use Rattle.std.specs.Option.{is_some}
use Rattle.std.specs.List.{list_all, list_any, flat_map, filter}
use Rattle.ws_base.specs.declared.name.Name.{Name}
use Rattle.ws_base.specs.declared.op.CallWord.{CallWord}
use Rattle.ws_space.specs.declared.shape.Triplet.{Triplet}
use Rattle.ws_space.specs.declared.shape.TheConstants.{ELEMENT_LIMIT}
use Rattle.ws_space.specs.Shapes.{count, places_from}
use Rattle.hlfir_ops.specs.declared.what.What.{What}
use Rattle.hlfir_ops.specs.declared.what.What.TheVariants as what
use Rattle.hlfir_ops.specs.declared.op.ValueId.{ValueId}
use Rattle.hlfir_ops.specs.declared.op.Op.{out-Op}
use Rattle.hlfir_ops.specs.declared.op.Region.{Region}
use Rattle.hlfir_ops.specs.declared.op.Module.{Module}
use Rattle.hlfir_ops.specs.Rules.{is_in}
use Rattle.hlfir_ops.specs.RulesValues.{is_allocatable}
use Rattle.hlfir_ops.specs.RulesForms.{rank_of_kind}
use Rattle.hlfir_ops.specs.RulesRegions.{parts_in}
use Rattle.hlfir_ops.specs.RulesStatements.{assigns}
use Rattle.hlfir_ops.specs.Sorts.{shares}
use Rattle.hlfir_ops.specs.RulesPlaces.{Site, module_sites}
use Rattle.alias_test.specs.Givers.{kind_given}
use Rattle.alias_test.specs.Normal.{constant_at, constant_triplet, designator_at}
use Rattle.assign_schedule.specs.declared.entry.Planned.{Planned}
use Rattle.assign_schedule.specs.declared.entry.Schedule.{Schedule}
use Rattle.assign_schedule.specs.Items.{Item, outermost, item_at, op_items}
use Rattle.assign_schedule.specs.Steps.{begins_next, steps_of}
use Rattle.assign_schedule.specs.Saved.{in_forall}
use Rattle.plan_text.specs.ScheduleText.{assigned_name}
use Rattle.phase_ops.specs.declared.phase.Label.{Label}
use Rattle.phase_ops.specs.declared.phase.Label.TheVariants as label
use Rattle.phase_plan.specs.Begun.{Begun, begins}
use Rattle.phase_plan.specs.Known.{Known, known_of, one_shape}
use Rattle.phase_plan.specs.Stages.{Entry, item, total, whole, is_mask, entries_of, stage_values}

-- The positions of a loop or part: those of the shape that these operands have in common, of a header with these parts, or of the array of a target, which
-- has none where it is unallocated.
pub data Over : Type 0 where
  shape : List ValueId → Over
  header : List ValueId → Over
  target : List ValueId → Over

-- a phase without its acts and cells
pub data Outline : Type 0 where
  set : ℕ → Label → Outline
  loop : ℕ → Label → Over → Outline
  part : ℕ → CallWord → ℕ → Over → Outline
  join : ℕ → CallWord → ℕ → Over → Outline

pub record Group : Type 0 where
  pub line : ℕ
  pub shared : Bool
  pub phases : List Outline

-- ---- temporaries

-- the number of this place, counted from 0, among those from 1 that are not held
abbrev pub free : List ℕ → ℕ → ℕ
free held k = slice_index_or (filter (λ n. not (is_in held n)) (places_from 1 (suc k + length held))) k 0

-- ---- stage 1

abbrev pub stretch : ℕ → Bool → List Outline
stretch line unsure = if unsure then set line label.Stage ∷ [] else []

-- The list but for its last stretch, where the step has named so many temporaries. `unsure` says that the stretch holds an item which is not static.
abbrev pub stage_phases : (ℕ → ℕ) → ℕ → ℕ → Bool → List Entry → List Outline
stage_phases t line k unsure [] = []
stage_phases t line k unsure (item static ∷ es) = stage_phases t line k (unsure || not static) es
stage_phases t line k unsure (total own word known os ∷ es) =
    stretch line (unsure || not known) ++ part own word (t k) (shape os) ∷ join own word (t k) (shape os) ∷ stage_phases t line (suc k) false es
stage_phases t line k unsure (whole own known masked os ∷ es) =
    stretch line (unsure || not known) ++ loop own (label.Vector (t k)) (shape os) ∷ stage_phases t line (suc k) false es

-- how many temporaries it names
abbrev pub named : List Entry → ℕ
named [] = 0
named (item static ∷ es) = named es
named (total own word known os ∷ es) = suc (named es)
named (whole own known masked os ∷ es) = suc (named es)

-- those of vector subscripts evaluated whole in a mask
abbrev pub held_by : (ℕ → ℕ) → ℕ → List Entry → List ℕ
held_by t k [] = []
held_by t k (item static ∷ es) = held_by t k es
held_by t k (total own word known os ∷ es) = held_by t (suc k) es
held_by t k (whole own known true os ∷ es) = t k ∷ held_by t (suc k) es
held_by t k (whole own known false os ∷ es) = held_by t (suc k) es

-- ---- what is decided for an item

abbrev pub decision : List Planned → ℕ → Option Planned
decision [] place = None
decision (p ∷ ps) place = if p.first_op == place then Some p else decision ps place

abbrev pub saves : Option Planned → Bool
saves (Some p) = p.saved
saves None = false

abbrev pub saves_addresses : Option Planned → Bool
saves_addresses (Some p) = p.addresses
saves_addresses None = false

abbrev pub needs_check : Option Planned → Bool
needs_check (Some p) = p.dup
needs_check None = false

abbrev pub plan_of : Schedule → Item → Option Planned
plan_of s i = decision s.steps i.place

abbrev pub saved_masks : Schedule → List Item → List Item
saved_masks s = filter (λ i. is_mask i && saves (plan_of s i))

abbrev pub direct_masks : Schedule → List Item → List Item
direct_masks s = filter (λ i. is_mask i && not (saves (plan_of s i)))

-- ---- steps. The last item of a step is its assignment, or its last mask or header where it has none.

abbrev pub line_of : Item → ℕ
line_of i = (out-Op i.op).line

abbrev pub last_line : List Item → ℕ
last_line [] = 0
last_line (i ∷ []) = line_of i
last_line (i ∷ j ∷ is) = last_line (j ∷ is)

abbrev pub assignment_of : List Item → Option Item
assignment_of [] = None
assignment_of (i ∷ is) = if assigns i.op then Some i else assignment_of is

abbrev pub left_values : Item → List ValueId
left_values i = parts_in (out-Op i.op).regions 1

abbrev pub are_scalars : Known → List ValueId → Bool
are_scalars k = list_all (λ v. rank_of_kind (kind_given (slice_get k.givers v.number)) == 0)

-- an assignment outside FORALL to a scalar variable or an element
abbrev pub fills_scalar : Known → Item → Bool
fills_scalar k i = not (in_forall i) && are_scalars k (left_values i)

-- ---- static steps

abbrev pub times : Option Triplet → Option ℕ → Option ℕ
times (Some t) (Some n) = Some (count t * n)
times _ _ = None

abbrev pub constants_of : Known → ValueId → ValueId → ValueId → Option Triplet
constants_of k l u s = constant_triplet (constant_at k.givers l) (constant_at k.givers u) (constant_at k.givers s)

-- how many combinations a header has, where its expressions are constants and no stride is 0
abbrev pub combinations : Known → List ValueId → Option ℕ
combinations k (l ∷ u ∷ s ∷ more) = times (constants_of k l u s) (combinations k more)
combinations k vs = Some 1

abbrev pub are_few : Option ℕ → Bool
are_few (Some n) = nat_le n ELEMENT_LIMIT
are_few None = false

abbrev pub is_static_header : Known → What → List Region → Bool
is_static_header k (what.Forall names) rs = are_few (combinations k (parts_in rs 0))
is_static_header k w rs = true

abbrev pub is_in_allocatable : Known → ValueId → Bool
is_in_allocatable k v = is_allocatable (kind_given (slice_get k.givers (designator_at k.givers v.number).var))

-- The target's array, which may change its size, is marked.
abbrev pub marks_allocatable : Known → Schedule → Item → Bool
marks_allocatable k s i = in_forall i && needs_check (plan_of s i) && list_any (is_in_allocatable k) (left_values i)

abbrev pub is_static_item : Known → Schedule → Item → Bool
is_static_item k s i =
    list_all (λ n. slice_index_or k.statics n false) (stage_values k i) && is_static_header k (out-Op i.op).what (out-Op i.op).regions
    && not (marks_allocatable k s i)

-- the values of a mask, a header, or of both sides of an assignment
abbrev pub yielded_by : What → List Region → List ValueId
yielded_by (what.Assign realloc) rs = parts_in rs 0 ++ parts_in rs 1
yielded_by w rs = parts_in rs 0

abbrev pub yielded : Item → List ValueId
yielded i = yielded_by (out-Op i.op).what (out-Op i.op).regions

-- The item stands after the mask, in its where or forall.
abbrev pub controls : Item → Item → Bool
controls mask i = nat_lt mask.place i.place && nat_lt i.place mask.until

-- The assignment of the step, or a new mask where it has none.
abbrev pub controls_step : Option Item → List Item → Item → Bool
controls_step (Some i) is mask = controls mask i
controls_step None is mask = list_any (controls mask) is

-- with the masks that control it, where these are the masks of its construct before it
abbrev pub shared_items : List Item → List Item → List Item
shared_items masks is = is ++ filter (controls_step (assignment_of is) is) masks

abbrev pub operands : List Item → List Item → List ValueId
operands masks is = flat_map yielded (shared_items masks is)

abbrev pub is_static : Known → Schedule → List Item → List Item → Bool
is_static k s masks is = list_all (is_static_item k s) is && is_some (one_shape k.shapes (operands masks is))

abbrev pub name_of : Known → Item → Name
name_of k i = assigned_name k.givers (Some i.op)

-- ---- loops

abbrev pub mask_loops : (ℕ → ℕ) → Over → ℕ → List Item → List Outline
mask_loops t over k [] = []
mask_loops t over k (m ∷ ms) = loop (line_of m) (label.Mask (Some (t k))) over ∷ mask_loops t over (suc k) ms

abbrev pub check_loops : ℕ → Over → ℕ → Over → Bool → List Outline
check_loops line over temp marks check =
    if check then loop line label.Clear marks ∷ loop line (label.Mark temp) over ∷ loop line (label.Check temp) over ∷ [] else []

abbrev pub saving_loops : ℕ → Over → Name → ℕ → Option ℕ → List Outline → List Outline
saving_loops line over name temp at checking = loop line (label.Save temp at) over ∷ checking ++ loop line (label.Assign name (Some temp) at) over ∷ []

abbrev pub address_of : ℕ → Bool → Option ℕ
address_of temp addresses = if addresses then Some temp else None

-- where the next two temporaries of the step are these
abbrev pub assign_loops : Known → Over → ℕ → ℕ → Option Planned → Item → List Outline
assign_loops k over temp next p i =
    let checking = check_loops (line_of i) over next (target (left_values i)) (needs_check p) in
    if saves p then saving_loops (line_of i) over (name_of k i) temp (address_of next (saves_addresses p)) checking
    else loop (line_of i) (label.Assign (name_of k i) None None) over ∷ []

-- after the saved masks, where the step has named so many temporaries
abbrev pub last_loops : Known → Schedule → (ℕ → ℕ) → Over → ℕ → List Item → Option Item → List Outline
last_loops k s t over n is (Some i) = if fills_scalar k i then [] else assign_loops k over (t n) (t (suc n)) (plan_of s i) i
last_loops k s t over n is None = map (λ m. loop (line_of m) (label.Mask None) over) (direct_masks s is)

abbrev pub last_stretch : Known → Bool → ℕ → Option Item → List Outline
last_stretch k static line (Some i) = if fills_scalar k i then set line (label.Assign (name_of k i) None None) ∷ [] else stretch line (not static)
last_stretch k static line None = stretch line (not static)

-- ---- steps of one construct

-- the temporaries that it holds, its masks, and its header where it is a FORALL
pub record Past : Type 0 where
  pub held : List ℕ
  pub masks : List Item
  pub header : Option (List ValueId)

abbrev pub header_by : What → List Region → Option (List ValueId)
header_by (what.Forall names) rs = Some (parts_in rs 0)
header_by w rs = None

-- what a construct holds before its first step, which begins with this op
abbrev pub opened : List Item → Past
opened [] = record { held = []; masks = []; header = None }
opened (i ∷ is) = record { held = []; masks = []; header = header_by (out-Op i.op).what (out-Op i.op).regions }

-- A reallocation takes the shape of its right side, where that is an array.
abbrev pub shaping_by : Known → What → List Region → List ValueId
shaping_by k (what.Assign true) rs = if are_scalars k (parts_in rs 0) then parts_in rs 1 else parts_in rs 0
shaping_by k w rs = yielded_by w rs

abbrev pub shaping : Known → Item → List ValueId
shaping k i = shaping_by k (out-Op i.op).what (out-Op i.op).regions

abbrev pub over_by : Option (List ValueId) → List ValueId → Over
over_by None os = shape os
over_by (Some parts) os = header parts

abbrev pub over_of : Known → Past → List Item → Over
over_of k past is = over_by past.header (flat_map (shaping k) (shared_items past.masks is))

abbrev pub step_phases : Known → Schedule → Past → List Item → List Outline
step_phases k s past is =
    let t = free past.held in let es = entries_of k is in let ms = saved_masks s is in
    stage_phases t (last_line is) 0 false es
    ++ last_stretch k (is_static k s past.masks is) (last_line is) (assignment_of is)
    ++ mask_loops t (over_of k past is) (named es) ms
    ++ last_loops k s t (over_of k past is) (named es + length ms) is (assignment_of is)

abbrev pub past_after : Known → Schedule → Past → List Item → Past
past_after k s past is =
    let t = free past.held in let es = entries_of k is in
    record past {
      held = past.held ++ held_by t 0 es ++ map t (places_from (named es) (length (saved_masks s is)));
      masks = past.masks ++ filter is_mask is;
    }

-- An outermost statement holds nothing of the ones before it.
abbrev pub past_before : Past → List Item → Past
past_before past is = if begins_next is then opened is else past

abbrev pub steps_phases : Known → Schedule → Past → List (List Item) → List Outline
steps_phases k s past [] = []
steps_phases k s past (is ∷ more) = step_phases k s (past_before past is) is ++ steps_phases k s (past_after k s (past_before past is) is) more

-- ---- groups

-- the steps of an op
abbrev pub steps_begun : Begun → List (List Item)
steps_begun b = steps_of (op_items outermost b.place b.number b.op)

abbrev pub group_begun : Known → Schedule → Begun → Group
group_begun k s b = record {
  line = (out-Op b.op).line;
  shared = shares (out-Op b.op).what;
  phases = steps_phases k s (opened []) (steps_begun b);
}

-- the groups of a module with this schedule
abbrev pub outlines : Module → Schedule → List Group
outlines m s = map (group_begun (known_of m) s) (begins m)

-- ---- how many temporaries a group has

abbrev pub greatest : Label → ℕ
greatest (label.Vector temp) = temp
greatest (label.Mask (Some temp)) = temp
greatest (label.Save temp None) = temp
greatest (label.Save temp (Some at)) = max temp at
greatest _ = 0

abbrev pub temporaries_of : List Outline → ℕ
temporaries_of [] = 0
temporaries_of (set line l ∷ ps) = temporaries_of ps
temporaries_of (loop line l over ∷ ps) = max (greatest l) (temporaries_of ps)
temporaries_of (part line word temp over ∷ ps) = max temp (temporaries_of ps)
temporaries_of (join line word temp over ∷ ps) = temporaries_of ps

-- whether it has marks
abbrev pub is_clear : Label → Bool
is_clear label.Clear = true
is_clear l = false

abbrev pub names_marks : List Outline → Bool
names_marks [] = false
names_marks (loop line l over ∷ ps) = is_clear l || names_marks ps
names_marks (p ∷ ps) = names_marks ps

-- ---- the unprinted lists: the expressions of DO, ALLOCATE and READ

abbrev pub has_unprinted : What → Bool
has_unprinted (what.Declare name) = false
has_unprinted (what.Assign realloc) = false
has_unprinted what.Masked = false
has_unprinted what.Elsewhere = false
has_unprinted (what.Forall names) = false
has_unprinted what.ForallMask = false
has_unprinted what.Workshare = false
has_unprinted what.DoLoop = true
has_unprinted (what.Allocmem also) = true
has_unprinted (what.Freemem also) = false
has_unprinted (what.Read also) = true
has_unprinted what.Yield = false
has_unprinted what.YieldElement = false
has_unprinted (what.Constant c) = false
has_unprinted (what.Unary op) = false
has_unprinted (what.Binary op) = false
has_unprinted what.Select = false
has_unprinted what.Load = false
has_unprinted what.Boxed = false
has_unprinted (what.Bound word dim) = false
has_unprinted what.Size = false
has_unprinted what.Allocated = false
has_unprinted (what.Designate subs) = false
has_unprinted what.Vector = false
has_unprinted what.AsExpr = false
has_unprinted what.Elemental = false
has_unprinted what.Apply = false
has_unprinted (what.Reduce reduction) = false

abbrev pub unprinted_list : Known → Item → List Outline
unprinted_list k i = stage_phases (free []) (line_of i) 0 false (entries_of k (i ∷ [])) ++ set (line_of i) label.Stage ∷ []

abbrev pub unprinted_from : Known → ℕ → List Site → List (List Outline)
unprinted_from k place [] = []
unprinted_from k place (site ∷ more) =
    (if has_unprinted (out-Op site.op).what then unprinted_list k (item_at outermost place site.op) ∷ [] else [])
    ++ unprinted_from k (suc place) more

-- all lists of phases by their numbers: those of the groups, and then the unprinted ones
abbrev pub lists_of : Module → Schedule → List (List Outline)
lists_of m s = map (λ g. g.phases) (outlines m s) ++ unprinted_from (known_of m) 0 (module_sites m)
