-- Two modules with one text: they differ in a line that is not shown.
use Rattle.std.proofs.Common.{◌≡◌, refl, ℕ, [], ◌∷◌, Some, codes}
use Rattle.hlfir_ops.specs.declared.kinds.Elem.TheVariants.{I32}
use Rattle.hlfir_ops.specs.declared.kinds.ValueKind.TheVariants as kind
use Rattle.hlfir_ops.specs.declared.what.What.TheVariants as what
use Rattle.hlfir_ops.specs.declared.op.Module.{Module}
use Rattle.hlfir_ops.specs.Trees.{op_of}
use Rattle.hlfir_ops.specs.Opened.{trees_open}
use Rattle.hlfir_ops.specs.Rules.{KeepsRules, are_defined, operands_fit, result_fits, is_used_once, yields_of, sides_of, realloc_of, where_of, forall_of, lists_fit, declares_fit, limits_fit}
use Rattle.hlfir_text.specs.ModuleText.{module_text}
use Rattle.text_laws.specs.Writable.{IsWritable}

-- what lets the rules and texts compute on a module that is written out
unfoldable modules_open : Unit {0}
unfolding trees_open are_defined operands_fit result_fits is_used_once yields_of sides_of realloc_of where_of forall_of lists_fit declares_fit limits_fit
    Rattle.hlfir_ops.specs.declared.op.Op.TheViews.out-Op Rattle.hlfir_ops.specs.declared.op.Op.TheViews.out-Region
    Rattle.hlfir_ops.specs.declared.op.Op.TheBlock.shown-the_row-Op-1 denote.Hole.Carrier.out denote.Hole.Carrier.shown
    Rattle.std.specs.Fmt.digits
modules_open = tt

-- INTEGER :: a
abbrev declares_a : ℕ → Module
declares_a line = record { name = codes "main"; ops = op_of (what.Declare (codes "a")) line [] (Some (kind.Place I32)) [] ∷ [] }

keeps_rules : (KeepsRules (declares_a 0)) × (KeepsRules (declares_a 2))
unfolding modules_open
keeps_rules = (refl, refl)

is_writable : IsWritable (declares_a 0) × IsWritable (declares_a 2)
unfolding modules_open
is_writable = (record { name = refl; names = refl; numbers = refl }, record { name = refl; names = refl; numbers = refl })

one_text : (module_text (declares_a 0) ≡ codes "module main\n%0 = hlfir.declare \"a\" : ref<i32>\n") × (module_text (declares_a 2) ≡ codes "module main\n%0 = hlfir.declare \"a\" : ref<i32>\n")
unfolding modules_open
one_text = (refl, refl)
