-- The module keeps the rules, as they compute on it.
use Rattle.std.proofs.Common.{◌≡◌, refl, sym, ap, ◌∙◌, subst, List, [], ◌∷◌, ◌++◌, Some, pos}
use Rattle.ws_space.specs.Shapes.{shape_of}
use Rattle.hlfir_ops.specs.declared.kinds.Elem.TheVariants.{I32}
use Rattle.hlfir_ops.specs.declared.kinds.ValueKind.{ValueKind}
use Rattle.hlfir_ops.specs.declared.kinds.ValueKind.TheVariants.{Declared}
use Rattle.hlfir_ops.specs.declared.what.What.TheVariants.{Declare}
use Rattle.hlfir_ops.specs.declared.op.ValueId.{ValueId}
use Rattle.hlfir_ops.specs.declared.op.Op.{Op}
use Rattle.hlfir_ops.specs.declared.op.Region.{Region}
use Rattle.hlfir_ops.specs.declared.op.Module.{Module}
use Rattle.hlfir_ops.specs.Built.{Built, appended}
use Rattle.hlfir_ops.specs.Trees.{op_of}
use Rattle.ws_base.specs.declared.name.Name.{Name}
use Rattle.hlfir_ops.specs.Opened.{trees_open}
use Rattle.hlfir_ops.specs.Rules.{KeepsRules, are_defined, operands_fit, result_fits, is_used_once, yields_of, sides_of, realloc_of, where_of, forall_of, lists_fit, declares_fit, limits_fit}
use Rattle.alias_test.proofs.tests.modules.declared.Goals as goal

abbrev five : ValueKind
five = Declared I32 (shape_of (record { lower = pos 1; extent = 5 } ∷ []))

keeps : (name array : Name) → KeepsRules (record { name = name; ops = op_of (Declare array) 0 [] (Some five) [] ∷ [] })
unfolding trees_open are_defined operands_fit result_fits is_used_once yields_of sides_of realloc_of where_of forall_of lists_fit declares_fit limits_fit
    Rattle.hlfir_ops.specs.declared.op.Op.TheViews.out-Op Rattle.hlfir_ops.specs.declared.op.Op.TheViews.out-Region
    Rattle.hlfir_ops.specs.declared.op.Op.TheBlock.shown-the_row-Op-1 denote.Hole.Carrier.out denote.Hole.Carrier.shown
keeps name array = refl

only_op : (array : Name) (b begun : Built) (name : Name) (operands : List ValueId) (kind : ValueKind) (regions : List Region) → b ≡ appended begun (op_of (Declare array) 0 operands (Some kind) regions) → begun ≡ record { name = name; around = []; ops = [] } → operands ≡ [] →
    kind ≡ five → regions ≡ [] → b.ops ≡ op_of (Declare array) 0 [] (Some five) [] ∷ []
only_op array b begun name operands kind regions pushed start eo ek er =
    ap (λ (x : Built). x.ops) pushed
    ∙ (ap (λ (x : Built). x.ops ++ op_of (Declare array) 0 operands (Some kind) regions ∷ []) start
    ∙ (ap (λ os. op_of (Declare array) 0 os (Some kind) regions ∷ []) eo ∙ (ap (λ k. op_of (Declare array) 0 [] (Some k) regions ∷ []) ek ∙ ap (λ rs. op_of (Declare array) 0 [] (Some five) rs ∷ []) er)))

pub returns-in-Ok-clause-kept : goal.returns-in-Ok-clause-kept
returns-in-Ok-clause-kept c =
    let ops = only_op c.in_ok-from_str.field-0 c.push.new.self c.new-build.result c.in_ok-from_str-2.field-0 c.new.result c.five.result c.new-2.result c.in-Ok.ensures.1 c.new-build.ensures c.new.ensures c.five.ensures c.new-2.ensures in
    let same = c.finish.ensures ∙ ap (λ (ops : List Op). let m : Module = record { name = c.push.new.self.name; ops = ops } in m) ops in
    subst KeepsRules (sym same) (keeps c.push.new.self.name c.in_ok-from_str.field-0)
