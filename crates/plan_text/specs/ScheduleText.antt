-- A schedule as text: a line for each decision.
use Rattle.std.specs.Prelude.{ℕ, Bool, true, false, if◌then◌else◌, List, [], ◌∷◌, ◌++◌, Option, Some, None, codes, decimal, slice_get}
use Rattle.std.specs.List.{flat_map}
use Rattle.hlfir_ops.specs.declared.what.What.{What}
use Rattle.hlfir_ops.specs.declared.what.What.TheVariants.{Declare}
use Rattle.hlfir_ops.specs.declared.op.ValueId.{ValueId}
use Rattle.hlfir_ops.specs.declared.op.Op.{Op, out-Op}
use Rattle.hlfir_ops.specs.declared.op.Module.{Module}
use Rattle.hlfir_ops.specs.Numbers.{order_of}
use Rattle.hlfir_ops.specs.RulesRegions.{parts_in}
use Rattle.alias_test.specs.Givers.{givers_of}
use Rattle.alias_test.specs.Normal.{designator_at}
use Rattle.assign_schedule.specs.declared.entry.Planned.{Planned}
use Rattle.assign_schedule.specs.declared.entry.Schedule.{Schedule}

-- ---- names

abbrev pub declared_by : What → List ℕ
declared_by (Declare name) = name
declared_by w = []

abbrev pub declared_given : Option Op → List ℕ
declared_given (Some op) = declared_by (out-Op op).what
declared_given None = []

-- the name of the variable that is, or a part of which is, the first of these values
abbrev pub variable_name : List Op → List ValueId → List ℕ
variable_name gs [] = []
variable_name gs (v ∷ vs) = declared_given (slice_get gs (designator_at gs v.number).var)

-- the variable that the assignment fills
abbrev pub assigned_name : List Op → Option Op → List ℕ
assigned_name gs (Some op) = variable_name gs (parts_in (out-Op op).regions 1)
assigned_name gs None = []

-- ---- lines

abbrev pub saved_word : Bool → List ℕ
saved_word true = codes "saved"
saved_word false = codes "direct"

abbrev pub check_word : Bool → List ℕ
check_word true = codes "yes"
check_word false = codes "no"

abbrev pub mask_text : Planned → List ℕ
mask_text p = codes " mask " ++ saved_word p.saved

abbrev pub assignment_text : List ℕ → Planned → List ℕ
assignment_text name p = codes " assign " ++ name ++ codes " rhs " ++ saved_word p.saved ++ codes " addresses " ++ saved_word p.addresses ++ codes " dup " ++ check_word p.dup

-- what is decided, where these are the ops in printed order and those that give the values
abbrev pub decision_text : List Op → List Op → Planned → List ℕ
decision_text order gs p = if p.mask then mask_text p else assignment_text (assigned_name gs (slice_get order p.first_op)) p

abbrev pub plan_text : List Op → List Op → Planned → List ℕ
plan_text order gs p = codes "line " ++ decimal p.line ++ decision_text order gs p ++ codes "\n"

abbrev pub schedule_text : Module → Schedule → List ℕ
schedule_text m s = codes "schedule " ++ m.name ++ codes "\n" ++ flat_map (plan_text (order_of m.ops) (givers_of m.ops)) s.steps
