-- What a region reads when its elements are computed.
use Rattle.std.specs.Prelude.{ℕ, Bool, true, false, if◌then◌else◌, List, [], ◌∷◌, ◌++◌, map, length, Option, Some, None, slice_get, slice_index_or}
use Rattle.std.specs.List.{flat_map}
use Rattle.hlfir_ops.specs.declared.what.What.{What}
use Rattle.hlfir_ops.specs.declared.what.What.TheVariants as what
use Rattle.hlfir_ops.specs.declared.op.ValueId.{ValueId}
use Rattle.hlfir_ops.specs.declared.op.Op.{Op, out-Op}
use Rattle.hlfir_ops.specs.declared.op.Region.{Region}
use Rattle.hlfir_ops.specs.RulesRegions.{ops_in, parts}
use Rattle.assign_schedule.specs.Parts.{is_array_given, is_element_given}
use Rattle.assign_schedule.specs.declared.way.Way.{Way}
use Rattle.assign_schedule.specs.declared.way.Way.TheVariants.{Elements, Subscripts}

-- ---- the arrays that are reached from a value

abbrev pub applied_by : What → List ValueId → List ValueId
applied_by what.Apply os = os
applied_by w os = []

abbrev pub applied : Op → List ValueId
applied op = applied_by (out-Op op).what (out-Op op).operands

-- the arrays from whose elements those of an array value are computed
abbrev pub sources_by : What → List ValueId → List Region → List ValueId
sources_by what.AsExpr os rs = os
sources_by what.Elemental os rs = flat_map applied (ops_in rs 0)
sources_by w os rs = []

-- the subscripts of a designator. Only a vector subscript may be an array.
abbrev pub subscripts_by : What → List ValueId → List ValueId
subscripts_by (what.Designate subs) (r ∷ more) = more
subscripts_by w os = []

abbrev pub next_by : Way → What → List ValueId → List Region → List ValueId
next_by Elements w os rs = sources_by w os rs
next_by Subscripts w os rs = subscripts_by w os

abbrev pub next_of : Way → Op → List ValueId
next_of way op = next_by way (out-Op op).what (out-Op op).operands (out-Op op).regions

-- What is reached from each value, in the order of the values: itself where it is a whole array or a section, and what is reached from those before it that stand next on
-- its way.
abbrev pub reached_in : List (List ℕ) → List ValueId → List ℕ
reached_in before = flat_map (λ v. slice_index_or before v.number [])

abbrev pub itself : ℕ → Op → List ℕ
itself n op = if is_array_given (Some op) then n ∷ [] else []

abbrev pub reached_by : Way → List (List ℕ) → Op → List ℕ
reached_by way before op = itself (length before) op ++ reached_in before (next_of way op)

abbrev pub reached_after : Way → List (List ℕ) → List Op → List (List ℕ)
reached_after way before [] = before
reached_after way before (op ∷ ops) = reached_after way (before ++ reached_by way before op ∷ []) ops

-- the whole arrays and sections that are reached from the value of this number
abbrev pub reached_from : Way → List Op → ℕ → List ℕ
reached_from way gs n = slice_index_or (reached_after way [] gs) n []

abbrev pub reached : Way → List Op → List ValueId → List ℕ
reached way gs = flat_map (λ v. reached_from way gs v.number)

-- ---- reads

-- a designator that is evaluated with an element; `vector` where it is a vector subscript
pub record Read : Type 0 where
  pub value : ℕ
  pub vector : Bool

abbrev pub operand : ℕ → Read
operand n = record { value = n; vector = false }

abbrev pub vector_subscript : ℕ → Read
vector_subscript n = record { value = n; vector = true }

abbrev pub subscripts_given : Option Op → List ValueId
subscripts_given (Some op) = next_of Subscripts op
subscripts_given None = []

abbrev pub subscripts_of : List Op → ℕ → List ValueId
subscripts_of gs n = subscripts_given (slice_get gs n)

-- the vector subscripts of these designators, those in them too
abbrev pub subscript_reads : List Op → List ℕ → List Read
subscript_reads gs ns = map vector_subscript (reached Subscripts gs (flat_map (subscripts_of gs) ns))

abbrev pub array_reads : List Op → List ValueId → List Read
array_reads gs vs = let arrays = reached Elements gs vs in map operand arrays ++ subscript_reads gs arrays

-- In a FORALL each reference to an element is a read.
abbrev pub element_read : List Op → ValueId → List Read
element_read gs v = if is_element_given (slice_get gs v.number) then operand v.number ∷ [] else []

abbrev pub loaded_by : List Op → What → List ValueId → List Read
loaded_by gs what.Load os = flat_map (element_read gs) os
loaded_by gs w os = []

abbrev pub element_reads : List Op → List Op → List Read
element_reads gs = flat_map (λ op. loaded_by gs (out-Op op).what (out-Op op).operands)

-- ---- what the ops of a region read, in a FORALL or elsewhere

abbrev pub value_reads : List Op → Bool → List Op → List Read
value_reads gs true ops = element_reads gs ops
value_reads gs false ops = array_reads gs (parts ops)

-- what the subscripts of the left side read, which is this value
abbrev pub left_reads : List Op → Bool → List Op → ValueId → List Read
left_reads gs true ops target = element_reads gs ops
left_reads gs false ops target = subscript_reads gs (target.number ∷ [])
