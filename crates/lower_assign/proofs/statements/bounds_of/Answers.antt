use Rattle.std.proofs.Common.{sym, ap, [], ◌∷◌, pos}
use Rattle.hlfir_ops.specs.declared.kinds.Elem.TheVariants.{I32}
use Rattle.lower_values.specs.Lowerings.{done, ◌>>=◌}
use Rattle.lower_values.specs.Operations.{constant}
use Rattle.lower_values.specs.Values.{value}
use Rattle.lower_assign.specs.Statements.{bounds_of}
use Rattle.lower_values.proofs.Appended.{appends-by, appends-done, appends-next, appends-map, if-map}
use Rattle.lower_assign.proofs.statements.bounds_of.Goals as goal

pub returns-in_ok-y-in-Upper : goal.returns-in_ok-y-in-Upper
unfolding bounds_of
returns-in_ok-y-in-Upper c =
    let names = c.args.names.now in
    let u = c.in-Upper.u in
    let x = c.in_ok-x-in-Upper.x in
    let y = c.in_ok-y-in-Upper.y in
    if-map c.from_slice.result (λ vs h.
    appends-by (ap bounds_of (sym c.in-Upper.is)) (sym h)
    (appends-next names (constant I32 (pos 1)) (λ a. value u >>= (λ b. done (a.value ∷ b.value ∷ []))) c.args.build.now c.number_constant.new.build c.value.new.build x _ (c.in_ok-x-in-Upper.ensures names)
    (appends-map names (value u) (λ b. x.value ∷ b.value ∷ []) c.number_constant.new.build c.value.new.build y c.in_ok-y-in-Upper.ensures))) c.from_slice.ensures

pub returns-in_ok-y-in-Both : goal.returns-in_ok-y-in-Both
unfolding bounds_of
returns-in_ok-y-in-Both c =
    let names = c.args.names.now in
    let l = c.in-Both.l in
    let u = c.in-Both.u in
    let x = c.in_ok-x-in-Both.x in
    let y = c.in_ok-y-in-Both.y in
    if-map c.from_slice-in-Both.result (λ vs h.
    appends-by (ap bounds_of (sym c.in-Both.is)) (sym h)
    (appends-next names (value l) (λ a. value u >>= (λ b. done (a.value ∷ b.value ∷ []))) c.args.build.now c.value-in-Both.new.build c.value-in-Both-2.new.build x _ c.in_ok-x-in-Both.ensures
    (appends-map names (value u) (λ b. x.value ∷ b.value ∷ []) c.value-in-Both.new.build c.value-in-Both-2.new.build y c.in_ok-y-in-Both.ensures))) c.from_slice-in-Both.ensures

pub returns-in-Deferred : goal.returns-in-Deferred
unfolding bounds_of
returns-in-Deferred c = appends-by (ap bounds_of (sym c.in-Deferred.is)) (sym c.new.ensures) (appends-done c.args.names.now c.args.build.now [])
