use Rattle.std.proofs.Common.{refl, sym, ap, ◌∙◌}
use Rattle.lower_values.specs.References.{declare_of}
use Rattle.lower_assign.specs.Statements.{left_of, whole_left}
use Rattle.lower_values.specs.Lists as lists
use Rattle.lower_assign.proofs.Lefts.{left_of-part, appends-other}
use Rattle.lower_values.proofs.Appended.{appends-by, appends-scoped, if-map}
use Rattle.lower_assign.proofs.sides.left_of.Goals as goal

pub returns-in-Named : goal.returns-in-Named
returns-in-Named c =
    let names = c.args.names.now in
    let b = c.args.by_box in
    let x = c.in-Named.name in
    if-map c.whole_left.result (λ r h.
    appends-by (ap (left_of b) (sym c.in-Named.is)) refl
    (appends-scoped names (λ s. whole_left b (declare_of s.names x)) c.args.build.now c.whole_left.new.build r (appends-by (ap (whole_left b) c.declare_of.ensures) refl (h names)))) c.whole_left.ensures

pub returns-in-Part : goal.returns-in-Part
returns-in-Part c =
    let b = c.args.by_box in
    let x = c.in-Part.name in
    if-map c.part.result (λ r h. appends-by (ap (lists.part x) c.as_slice.ensures ∙ (sym (left_of-part b x c.in-Part.subs) ∙ ap (left_of b) (sym c.in-Part.is))) refl h) c.part.ensures

pub returns-in-Number : goal.returns-in-Number
returns-in-Number c = appends-other c.args.names.now c.args.by_box c.args.build.now c.in-Number.is

pub returns-in-Number-2 : goal.returns-in-Number-2
returns-in-Number-2 c = appends-other c.args.names.now c.args.by_box c.args.build.now c.in-Number.is

pub returns-in-Number-3 : goal.returns-in-Number-3
returns-in-Number-3 c = appends-other c.args.names.now c.args.by_box c.args.build.now c.in-Number.is

pub returns-in-Number-4 : goal.returns-in-Number-4
returns-in-Number-4 c = appends-other c.args.names.now c.args.by_box c.args.build.now c.in-Number.is

pub returns-in-Number-5 : goal.returns-in-Number-5
returns-in-Number-5 c = appends-other c.args.names.now c.args.by_box c.args.build.now c.in-Number.is

pub returns-in-Number-6 : goal.returns-in-Number-6
returns-in-Number-6 c = appends-other c.args.names.now c.args.by_box c.args.build.now c.in-Number.is

pub returns-in-Number-7 : goal.returns-in-Number-7
returns-in-Number-7 c = appends-other c.args.names.now c.args.by_box c.args.build.now c.in-Number.is

pub returns-in-Number-8 : goal.returns-in-Number-8
returns-in-Number-8 c = appends-other c.args.names.now c.args.by_box c.args.build.now c.in-Number.is

pub returns-in-Number-9 : goal.returns-in-Number-9
returns-in-Number-9 c = appends-other c.args.names.now c.args.by_box c.args.build.now c.in-Number.is
