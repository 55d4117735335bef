use Rattle.std.proofs.Common.{◌≡◌, ◌∙◌, ap, sym, refl, subst, Some, None}
use Rattle.std.specs.Prelude.{slice_get}
use Rattle.alias_test.specs.Givers.{op_at}
use Rattle.assign_schedule.specs.Looks.{givers_seen}
use Rattle.assign_schedule.specs.Parts.{is_array_given}
use Rattle.assign_schedule.specs.Reads.{itself, next_of, reached_from}
use Rattle.assign_schedule.specs.Wanted.{below, AreArrays}
use Rattle.assign_schedule.proofs.Reached.{reached_at, reached_past}
use Rattle.assign_schedule.proofs.Wanting.{visited, visited_nothing, all_below, kept_arrays}
use Rattle.assign_schedule.proofs.reach.visit.Goals as goal

pub returns-in_ok-want_next-clause-members : goal.returns-in_ok-want_next-clause-members
returns-in_ok-want_next-clause-members c =
    let gs = givers_seen c.args.look.now in
    let op = c.in-Some.op.now in
    let at : slice_get gs c.args.n ≡ Some op = sym c.in-Some.ensures in
    visited (reached_from c.args.way gs) c.args.n c.args.found.now.items (itself c.args.n op) c.keep.new.found.items c.args.wanted.now.keys c.want_next.new.wanted.keys (below (Some c.args.n) (next_of c.args.way op))
    c.in_ok-keep.ensures (reached_at c.args.way gs c.args.n op at) c.in_ok-want_next.ensures

pub returns-in_ok-want_next-clause-below : goal.returns-in_ok-want_next-clause-below
returns-in_ok-want_next-clause-below c = all_below c.args.n c.args.wanted.now.keys c.want_next.new.wanted.keys (next_of c.args.way c.in-Some.op.now) c.requires.below c.in_ok-want_next.ensures

pub returns-in_default-clause-members : goal.returns-in_default-clause-members
returns-in_default-clause-members c =
    let gs = givers_seen c.args.look.now in
    let at : slice_get gs c.args.n ≡ None = sym c.giver_of.ensures ∙ ap op_at c.in_default.is in
    visited_nothing (reached_from c.args.way gs) c.args.n c.args.found.now.items c.args.wanted.now.keys (reached_past c.args.way gs c.args.n at)

pub returns-in_ok-want_next-clause-arrays : goal.returns-in_ok-want_next-clause-arrays
returns-in_ok-want_next-clause-arrays c =
    let gs = givers_seen c.args.look.now in
    let op = c.in-Some.op.now in
    let at : slice_get gs c.args.n ≡ Some op = sym c.in-Some.ensures in
    subst (AreArrays gs) (sym c.in_ok-keep.ensures) (kept_arrays gs c.args.found.now.items c.args.n op (is_array_given (Some op)) at refl c.requires.arrays)
