-- The twelve rules of a module. Each says of one op, where it stands, whether it keeps the rule. What a region holds or yields is judged at the op that holds the
-- region, and what stands inside a forall always at the forall.
use Rattle.std.specs.Prelude.{◌≡◌, ℕ, ◌==◌, nat_lt, nat_le, Bool, true, not, ◌&&◌, ◌||◌, List, [], ◌∷◌, ◌++◌, map, length, Option, count_by, if◌then◌else◌}
use Rattle.std.specs.List.{list_all, list_any, flat_map}
use Rattle.hlfir_ops.specs.declared.kinds.ValueKind.{ValueKind}
use Rattle.hlfir_ops.specs.declared.what.What.{What}
use Rattle.hlfir_ops.specs.declared.what.What.TheVariants as what
use Rattle.hlfir_ops.specs.declared.op.ValueId.{ValueId}
use Rattle.hlfir_ops.specs.declared.op.Op.{Op, out-Op}
use Rattle.hlfir_ops.specs.declared.op.Region.{Region}
use Rattle.hlfir_ops.specs.declared.op.Module.{Module}
use Rattle.hlfir_ops.specs.Sorts.{Body, NoBody, WhereBody, ForallBody, SharedBody, LoopBody, Yields, YieldsNothing, YieldsSides, YieldsValue, YieldsElseValue, YieldsHeader, YieldsTruth, YieldsTriplet, YieldsPairs, YieldsItem, YieldsElement, Controls, ControlsNothing, ControlsLeft, ControlsMask, ControlsElseMask, Limits, LimitsNothing, LimitsDeclares, LimitsItems, LimitsBodies, Counts, CountsNothing, CountsStatement, CountsStatements, CountsStep, sort_of}
use Rattle.hlfir_ops.specs.Numbers.{order_of, order_in}
use Rattle.hlfir_ops.specs.RulesValues.{Value, values_of, is_expression, is_allocatable_declare}
use Rattle.hlfir_ops.specs.RulesPlaces.{Around, Place, Site, module_sites}
use Rattle.hlfir_ops.specs.RulesRegions.{ops_in, parts_in, first_value, first_kind, yields_value, yields_target, yields_item, yields_truth, yields_header, yields_triplet, yields_pairs, yields_element}
use Rattle.hlfir_ops.specs.RulesForms.{has_regions, is_filled_where, takes, gives}
use Rattle.hlfir_ops.specs.RulesStatements.{stands_in_where, stands_in_workshare, stands_in_program, sides_agree, same_truth, are_elsewheres, mask_fits, fits_forall, follows, also_follows, declares_first, reaches_by_box}
use Rattle.hlfir_ops.specs.RulesLimits.{declares_in, declare_limit, is_small, item_limit, body_limit, size_of, size_limit, statement_count, step_count, fits_count, phases_of, temporaries_of}

-- ---- what the rules ask of the whole module

-- the value of each operand
abbrev pub operand_numbers : Op → List ℕ
operand_numbers op = map (λ v. v.number) (out-Op op).operands

-- its values, and the number of the value at each use of one
pub record Facts : Type 0 where
  pub values : List Value
  pub used : List ℕ

abbrev pub facts_of : Module → Facts
facts_of m = record { values = values_of m.ops; used = flat_map operand_numbers (order_of m.ops) }

-- ---- 1 to 4: operands and results

-- Each operand is the value of an op that stands before this one, in its region or in one around it.
abbrev pub is_in : List ℕ → ℕ → Bool
is_in ns n = list_any (λ m. m == n) ns

unfoldable pub are_defined : List ℕ → List ValueId → Bool
are_defined defined os = list_all (λ v. is_in defined v.number) os

-- The regions are as many as the op has by its form, and so are the operands, which have the kinds of the form.
unfoldable pub operands_fit : Bool → List Value → Op → Bool
operands_fit elemental vs op =
    has_regions (out-Op op).what (length (out-Op op).regions) && is_filled_where (out-Op op).what (out-Op op).regions
    && takes elemental vs (out-Op op).what (out-Op op).operands (out-Op op).regions

-- The result is that of the form.
unfoldable pub result_fits : List Value → Op → Bool
result_fits vs op = gives vs (out-Op op).what (out-Op op).operands (out-Op op).kind (out-Op op).regions

-- The value of an array expression is used once.
unfoldable pub is_used_once : List ℕ → ℕ → Option ValueKind → Bool
is_used_once used number kind = not (is_expression kind) || count_by (λ n. n == number) used == 1

-- ---- 5 to 7: what regions yield

-- A region that yields holds value ops, and ends with a yield of its form.
abbrev pub yields_as : List Value → Yields → List Region → Bool
yields_as vs YieldsNothing rs = true
yields_as vs YieldsSides rs = yields_value vs (ops_in rs 0) && yields_target vs (ops_in rs 1)
yields_as vs YieldsValue rs = yields_value vs (ops_in rs 0)
yields_as vs YieldsElseValue rs = length rs == 1 || yields_value vs (ops_in rs 0)
yields_as vs (YieldsHeader names) rs = yields_header vs names (ops_in rs 0)
yields_as vs YieldsTruth rs = yields_truth vs (ops_in rs 0)
yields_as vs YieldsTriplet rs = yields_triplet vs (ops_in rs 0)
yields_as vs YieldsPairs rs = yields_pairs vs (ops_in rs 0)
yields_as vs YieldsItem rs = yields_item vs (ops_in rs 0)
yields_as vs YieldsElement rs = yields_element vs (ops_in rs 0)

unfoldable pub yields_of : List Value → What → List Region → Bool
yields_of vs w rs = yields_as vs (sort_of w).yields rs

-- The right side of an assignment is a scalar or has the left side's rank, and has its type.
unfoldable pub sides_of : List Value → What → List Region → Bool
sides_of vs (what.Assign realloc) rs = sides_agree (first_kind vs (parts_in rs 0)) (first_kind vs (parts_in rs 1))
sides_of vs _ rs = true

-- An assignment has `realloc` where its left side is an allocatable's declare, outside where and forall, and nowhere else.
unfoldable pub realloc_of : Bool → List Value → What → List Region → Bool
realloc_of masked vs (what.Assign realloc) rs = same_truth realloc (not masked && is_allocatable_declare (first_value vs (parts_in rs 1)))
realloc_of masked vs _ rs = true

-- ---- 8 to 10: what bodies and lists hold

-- The body of a where holds assignments and where, and its third region elsewheres, of which only the last one may have no mask.
abbrev pub where_as : List Value → Controls → List Region → Bool
where_as vs ControlsNothing rs = true
where_as vs ControlsLeft rs = true
where_as vs ControlsMask rs = list_all stands_in_where (ops_in rs 1) && are_elsewheres (ops_in rs 2) && mask_fits vs (first_kind vs (parts_in rs 0)) rs
where_as vs ControlsElseMask rs =
    if length rs == 1 then list_all stands_in_where (ops_in rs 0) else (list_all stands_in_where (ops_in rs 1) && mask_fits vs (first_kind vs (parts_in rs 0)) rs)

unfoldable pub where_of : List Value → What → List Region → Bool
where_of vs w rs = where_as vs (sort_of w).controls rs

-- The body of a forall holds a mask at most, and then assignments to designators, with nothing of a rank above 0 inside.
unfoldable pub forall_of : List Value → What → List Region → Bool
forall_of vs (what.Forall names) rs = fits_forall vs (ops_in rs 1)
forall_of vs _ rs = true

-- A workshare holds assignments, where and forall, and a do_loop statements.
abbrev pub holds_as : Body → List Region → Bool
holds_as NoBody rs = true
holds_as WhereBody rs = true
holds_as ForallBody rs = true
holds_as SharedBody rs = list_all stands_in_workshare (ops_in rs 0)
holds_as LoopBody rs = list_all stands_in_program (ops_in rs 1)

abbrev pub holds_statements : What → List Region → Bool
holds_statements w rs = holds_as (sort_of w).body rs

-- So does the module after its declares. An op with `also` follows one of its sort and line.
unfoldable pub lists_fit : Bool → List Op → Op → Bool
lists_fit own before op = holds_statements (out-Op op).what (out-Op op).regions && (not own || follows before op) && also_follows before op

-- ---- 11 and 12

-- Declares stand first, with different names, and what an allocatable holds is reached by its box.
unfoldable pub declares_fit : Bool → List Value → List Op → Op → Bool
declares_fit own vs before op = (not own || declares_first before (out-Op op).what) && reaches_by_box vs op

-- There are at most 64 declares, of rank 3 and 65536 elements at most, a vector has at most 256 items, and bodies nest at most 65 deep.
abbrev pub limits_as : ℕ → List Op → Limits → List ValueId → Option ValueKind → Bool
limits_as bodies before LimitsNothing os kind = true
limits_as bodies before LimitsDeclares os kind = nat_lt (declares_in before) declare_limit && is_small kind
limits_as bodies before LimitsItems os kind = nat_le (length os) item_limit
limits_as bodies before LimitsBodies os kind = nat_lt bodies body_limit

abbrev pub own_limits : ℕ → List Op → What → List ValueId → Option ValueKind → Bool
own_limits bodies before w os kind = limits_as bodies before (sort_of w).limits os kind

-- Inside an outermost assignment, where or forall stand at most 65536 ops and operands. Outside a workshare it has at most 512 phases and 64 temporaries.
abbrev pub statement_fits : Bool → Bool → List Value → Op → Bool
statement_fits masked shared vs op =
    masked || nat_le (size_of (order_in (out-Op op).regions)) size_limit && (shared || fits_count (statement_count vs op).phases (statement_count vs op).temporaries)

-- So have the expressions of a do_loop, allocmem or read, which are one step.
abbrev pub expressions_fit : List Value → List Op → Bool
expressions_fit vs ops = nat_le (size_of (order_of ops)) size_limit && fits_count (step_count vs (order_of ops)).phases (step_count vs (order_of ops)).temporaries

-- The phases of the statements in a workshare are added.
abbrev pub workshare_fits : List Value → List Op → Bool
workshare_fits vs ops = fits_count (phases_of vs ops) (temporaries_of vs ops)

abbrev pub counts_as : Bool → Bool → List Value → Counts → Op → Bool
counts_as masked shared vs CountsNothing op = true
counts_as masked shared vs CountsStatement op = statement_fits masked shared vs op
counts_as masked shared vs CountsStatements op = workshare_fits vs (ops_in (out-Op op).regions 0)
counts_as masked shared vs CountsStep op = expressions_fit vs (ops_in (out-Op op).regions 0)

abbrev pub counts_fit : Bool → Bool → List Value → What → Op → Bool
counts_fit masked shared vs w op = counts_as masked shared vs (sort_of w).counts op

unfoldable pub limits_fit : Around → List Value → List Op → Op → Bool
limits_fit a vs before op = own_limits a.bodies before (out-Op op).what (out-Op op).operands (out-Op op).kind && counts_fit a.masked a.shared vs (out-Op op).what op

-- ---- a module that keeps them all

-- of the rules on the form of an op and what its regions yield, from the first to the seventh, whether it keeps them
abbrev pub keeps_forms : Facts → Place → Op → List Bool
keeps_forms f p op =
    are_defined p.defined (out-Op op).operands
    ∷ operands_fit p.around.elemental f.values op
    ∷ result_fits f.values op
    ∷ is_used_once f.used p.number (out-Op op).kind
    ∷ yields_of f.values (out-Op op).what (out-Op op).regions
    ∷ sides_of f.values (out-Op op).what (out-Op op).regions
    ∷ realloc_of p.around.masked f.values (out-Op op).what (out-Op op).regions
    ∷ []

-- of the rules on statements, from the eighth to the twelfth
abbrev pub keeps_statements : Facts → Place → Op → List Bool
keeps_statements f p op =
    where_of f.values (out-Op op).what (out-Op op).regions
    ∷ forall_of f.values (out-Op op).what (out-Op op).regions
    ∷ lists_fit p.around.own p.before op
    ∷ declares_fit p.around.own f.values p.before op
    ∷ limits_fit p.around f.values p.before op
    ∷ []

abbrev pub kept : Facts → Place → Op → List Bool
kept f p op = keeps_forms f p op ++ keeps_statements f p op

-- It keeps all of them.
abbrev pub keeps : Facts → Site → Bool
keeps f s = list_all (λ b. b) (kept f s.place s.op)

-- the module breaks no rule
abbrev pub KeepsRules : Module → Type 0
KeepsRules m = list_all (keeps (facts_of m)) (module_sites m) ≡ true
