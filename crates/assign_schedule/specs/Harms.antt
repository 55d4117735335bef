-- What a write does to reads.
use Rattle.std.specs.Prelude.{Bool, true, false, ◌||◌, List, Option, Some, None}
use Rattle.std.specs.List.{list_any}
use Rattle.hlfir_ops.specs.declared.op.ValueId.{ValueId}
use Rattle.hlfir_ops.specs.declared.op.Op.{Op}
use Rattle.alias_test.specs.declared.designator.Designator.{Designator}
use Rattle.alias_test.specs.declared.designator.Relation.{Relation}
use Rattle.alias_test.specs.declared.designator.Relation.TheVariants.{Same, Disjoint, May}
use Rattle.alias_test.specs.Normal.{designator_at}
use Rattle.alias_test.specs.Relations.{relation}
use Rattle.assign_schedule.specs.Reads.{Read}

-- A write harms a read of another element. It harms one of the same element too where this is read again after the write, or by the vector subscript of
-- another element: then Same counts as May.
abbrev pub harms : Relation → Bool → Bool
harms Disjoint again = false
harms Same again = again
harms May again = true

abbrev pub harms_read : List Op → Bool → Designator → Read → Bool
harms_read gs again target read = harms (relation target (designator_at gs read.value)) (again || read.vector)

-- The write, if there is one, harms some of these reads.
abbrev pub harms_any : List Op → Bool → Option ValueId → List Read → Bool
harms_any gs again None reads = false
harms_any gs again (Some target) reads = list_any (harms_read gs again (designator_at gs target.number)) reads
