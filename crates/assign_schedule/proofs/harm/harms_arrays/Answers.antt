use Rattle.std.proofs.Common.{◌≡◌, ◌∙◌, ap, sym, true, false}
use Rattle.std.specs.Prelude.{◌||◌}
use Rattle.std.specs.List.{list_any}
use Rattle.std.proofs.lemmas.Bool.{or_left}
use Rattle.alias_test.specs.Normal.{designator_at}
use Rattle.alias_test.specs.Relations.{relation}
use Rattle.assign_schedule.specs.Harms.{harms, harms_read}
use Rattle.assign_schedule.specs.Looks.{givers_seen}
use Rattle.assign_schedule.specs.Reads.{subscript_reads}
use Rattle.assign_schedule.proofs.Harmed.{harmed_arrays}
use Rattle.assign_schedule.proofs.harm.harms_arrays.Goals as goal

pub returns-then-branch : goal.returns-then-branch
returns-then-branch c =
    let gs = givers_seen c.args.look.now in
    let t = c.args.target.now in
    let items = c.in_ok-arrays.arrays.items in
    let first = list_any (λ n. harms (relation t (designator_at gs n)) c.args.again) in
    let some : first items ≡ true = ap first (sym c.as_slice.ensures.value) ∙ (sym c.in_ok-harms_some.ensures ∙ c.if-branch.true) in
    sym (harmed_arrays gs c.args.again t c.args.vs.now items c.in_ok-arrays.ensures.members ∙ or_left (first items) (list_any (harms_read gs c.args.again t) (subscript_reads gs items)) some)

pub returns : goal.returns
returns c =
    let gs = givers_seen c.args.look.now in
    let t = c.args.target.now in
    let items = c.in_ok-arrays.arrays.items in
    let first = list_any (λ n. harms (relation t (designator_at gs n)) c.args.again) in
    let none : first items ≡ false = ap first (sym c.as_slice.ensures.value) ∙ (sym c.in_ok-harms_some.ensures ∙ c.if-branch.false) in
    c.in_ok-harmed.ensures
    ∙ (ap (λ l. list_any (harms_read gs c.args.again t) (subscript_reads gs l)) c.as_slice-2.ensures.value
    ∙ sym (harmed_arrays gs c.args.again t c.args.vs.now items c.in_ok-arrays.ensures.members ∙ ap (λ b. b || list_any (harms_read gs c.args.again t) (subscript_reads gs items)) none))
