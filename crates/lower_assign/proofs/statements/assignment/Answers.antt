use Rattle.std.proofs.Common.{refl, ap, ◌∙◌, not, ◌&&◌, [], ◌∷◌}
use Rattle.hlfir_ops.specs.declared.what.What.TheVariants.{Assign}
use Rattle.lower_values.specs.Lowerings.{statement_of}
use Rattle.lower_values.specs.Values.{value}
use Rattle.lower_assign.specs.Statements.{assignment, yielded, left, is_whole_allocatable}
use Rattle.lower_values.proofs.Appended.{appends-by, appends-scoped}
use Rattle.lower_values.proofs.Holding.{holds-next, appends-statement}
use Rattle.lower_assign.proofs.Declares.{begins}
use Rattle.lower_assign.proofs.Lefts.{yields-left}
use Rattle.lower_assign.proofs.statements.assignment.Goals as goal

pub returns : goal.returns
unfolding assignment
returns c =
    let names = c.args.names.now in
    let l = c.args.left.now in
    let r = c.args.right.now in
    let line = c.args.line in
    let sides = yielded (value r) ∷ yielded (left l) ∷ [] in
    let realloc = c.reallocates-realloc.ensures ∙ ap (λ b. not b && is_whole_allocatable names l) c.masked.ensures in
    let begun = begins names (Assign c.reallocates-realloc.result) line c.new.ensures c.in_ok-begin.ensures.begun in
    let right = holds-next begun c.in_ok-enter_region.ensures.entered c.in_ok-yield_value.ensures c.leave_region.ensures in
    let both = holds-next right c.in_ok-enter_region-2.ensures.entered (yields-left l c.masked-by_box.ensures c.in_ok-yield_designator.ensures) c.leave_region-2.ensures in
    appends-scoped names (λ s. statement_of (Assign (not s.masked && is_whole_allocatable s.names l)) line [] sides) c.args.build.now c.leave_region-2.new.self tt
    (appends-by (ap (λ b. statement_of (Assign b) line [] sides) realloc) refl (appends-statement both))
