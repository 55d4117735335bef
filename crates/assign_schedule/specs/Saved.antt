-- What is saved before it is stored over, and which targets are checked for duplicates.
use Rattle.std.specs.Prelude.{Bool, true, false, not, ◌||◌, List, [], ◌∷◌, ◌++◌, map, Option, Some, None, slice_get}
use Rattle.std.specs.Option.{is_some}
use Rattle.std.specs.List.{list_any, flat_map}
use Rattle.ws_space.specs.Shapes.{places_from}
use Rattle.hlfir_ops.specs.declared.what.What.{What}
use Rattle.hlfir_ops.specs.declared.what.What.TheVariants as what
use Rattle.hlfir_ops.specs.declared.op.ValueId.{ValueId}
use Rattle.hlfir_ops.specs.declared.op.Op.{Op, out-Op}
use Rattle.hlfir_ops.specs.declared.op.Module.{Module}
use Rattle.hlfir_ops.specs.Rules.{is_in}
use Rattle.hlfir_ops.specs.RulesValues.{has_vector}
use Rattle.hlfir_ops.specs.RulesRegions.{ops_in}
use Rattle.alias_test.specs.Givers.{givers_of}
use Rattle.assign_schedule.specs.declared.entry.Planned.{Planned}
use Rattle.assign_schedule.specs.declared.entry.Schedule.{Schedule}
use Rattle.assign_schedule.specs.Reads.{Read, subscripts_given, value_reads, left_reads}
use Rattle.assign_schedule.specs.declared.item.Header.{Header}
use Rattle.assign_schedule.specs.Items.{Item, module_items}
use Rattle.assign_schedule.specs.Steps.{steps_of, target_of, user_writes}
use Rattle.assign_schedule.specs.Harms.{harms_any}

abbrev pub in_forall : Item → Bool
in_forall i = is_some i.header

-- what the first region of an item reads: a mask or a right side
abbrev pub first_reads : List Op → Item → List Read
first_reads gs i = value_reads gs (in_forall i) (ops_in (out-Op i.op).regions 0)

-- ---- assignments

abbrev pub has_vector_by : What → Bool
has_vector_by (what.Designate subs) = has_vector subs
has_vector_by w = false

abbrev pub has_vector_given : Option Op → Bool
has_vector_given (Some op) = has_vector_by (out-Op op).what
has_vector_given None = false

-- Some index name is not by itself a whole subscript. The subscripts of an element are scalars.
abbrev pub misses_name : Header → List ValueId → Bool
misses_name h vs = list_any (λ n. not (is_in (map (λ v. v.number) vs) n)) (places_from h.first h.count)

abbrev pub misses_index : Option Header → List ValueId → Bool
misses_index None vs = false
misses_index (Some h) vs = misses_name h vs

-- Two elements of the target may be one.
abbrev pub needs_check : List Op → Option Header → ValueId → Bool
needs_check gs header t = has_vector_given (slice_get gs t.number) || misses_index header (subscripts_given (slice_get gs t.number))

abbrev pub saves_addresses : List Op → Item → ValueId → Bool
saves_addresses gs i t = needs_check gs i.header t || harms_any gs false (Some t) (left_reads gs (in_forall i) (ops_in (out-Op i.op).regions 1) t)

abbrev pub saves_right : List Op → Item → ValueId → Bool
saves_right gs i t = saves_addresses gs i t || harms_any gs false (Some t) (first_reads gs i)

-- an assignment to this value
abbrev pub assignment_plan : List Op → Item → ValueId → Planned
assignment_plan gs i t = record {
  line = (out-Op i.op).line;
  mask = false;
  saved = saves_right gs i t;
  addresses = saves_addresses gs i t;
  dup = needs_check gs i.header t;
  first_op = i.place;
}

abbrev pub assignment_plans : List Op → Item → Option ValueId → List Planned
assignment_plans gs i None = []
assignment_plans gs i (Some t) = assignment_plan gs i t ∷ []

-- ---- masks

-- where these are the writes of its users, of which each but the last one is followed by another evaluation
abbrev pub is_saved : List Op → List Read → List (Option ValueId) → Bool
is_saved gs reads [] = false
is_saved gs reads (last ∷ []) = harms_any gs false last reads
is_saved gs reads (w ∷ next ∷ more) = harms_any gs true w reads || is_saved gs reads (next ∷ more)

abbrev pub mask_plan : List Op → Item → List (Option ValueId) → Planned
mask_plan gs i writes = record {
  line = (out-Op i.op).line;
  mask = true;
  saved = is_saved gs (first_reads gs i) writes;
  addresses = false;
  dup = false;
  first_op = i.place;
}

-- ---- steps

-- an item of the first one of these steps
abbrev pub plans_by : What → List Op → List (List Item) → Item → List Planned
plans_by what.Masked gs steps i = mask_plan gs i (user_writes gs i.until steps) ∷ []
plans_by what.Elsewhere gs steps i = mask_plan gs i (user_writes gs i.until steps) ∷ []
plans_by what.ForallMask gs steps i = mask_plan gs i (user_writes gs i.until steps) ∷ []
plans_by (what.Assign realloc) gs steps i = assignment_plans gs i (target_of gs i.op)
plans_by w gs steps i = []

abbrev pub item_plans : List Op → List (List Item) → Item → List Planned
item_plans gs steps i = plans_by (out-Op i.op).what gs steps i

abbrev pub plans_of : List Op → List (List Item) → List Planned
plans_of gs [] = []
plans_of gs (own ∷ later) = flat_map (item_plans gs (own ∷ later)) own ++ plans_of gs later

-- the decisions for a module
abbrev pub saved : Module → Schedule
saved m = record { steps = plans_of (givers_of m.ops) (steps_of (module_items m)) }
