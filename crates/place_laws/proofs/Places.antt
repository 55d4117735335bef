-- The bodies of WHERE and FORALL hold what they may in the module of each accepted source.
use Rattle.std.proofs.Common.{◌+◌, []}
use Rattle.ws_tree.specs.declared.stmt.Tree.{Tree}
use Rattle.ws_sema.specs.declared.within.Within.TheVariants as within
use Rattle.ws_sema.specs.Checks.{IsAccepted}
use Rattle.ws_sema.specs.Declarations.{table_of}
use Rattle.ws_sema.proofs.Accepted.{no_stmt_faults}
use Rattle.hlfir_ops.specs.declared.op.Op.{out-Op}
use Rattle.hlfir_ops.specs.Numbers.{numbers_of}
use Rattle.hlfir_ops.specs.Rules.{where_of, forall_of}
use Rattle.hlfir_ops.specs.RulesPlaces.{outermost}
use Rattle.hlfir_ops.specs.RulesValues.{values_of}
use Rattle.kind_laws.proofs.NamesKnown.{names_are_known}
use Rattle.lower_assign.specs.Known.{names_of}
use Rattle.lower_values.specs.Scopes.{scope_at}
use Rattle.lower_values.specs.Lowerings.{in_turn}
use Rattle.lower_constructs.specs.Modules.{statement_list, declaration, lowered}
use Rattle.place_laws.specs.Laws.{WheresFit, ForallsFit}
use Rattle.place_laws.proofs.Printed.{all_pass, Everywhere}
use Rattle.place_laws.proofs.Lowered.{makes-then}
use Rattle.kind_laws.proofs.Held.{held-whole, held-rest}
use Rattle.kind_laws.proofs.DeclaresFound.{all_found}
use Rattle.place_laws.proofs.Bodies.{bodies, where_part, forall_part, free-declares}
use Rattle.place_laws.proofs.BodiesFit.{keeps-list}

all_bodies : (t : Tree) → IsAccepted t → Everywhere (bodies (values_of (lowered t).ops)) (lowered t).ops
unfolding lowered
all_bodies t h =
    let vs = values_of (lowered t).ops in
    let s = scope_at (names_of t) [] in
    let p = in_turn declaration 0 (names_of t).variables in
    makes-then (bodies vs) s 0 p (λ _. statement_list t.body) (free-declares vs 0 (names_of t).variables s 0)
    (keeps-list vs (table_of t.decls) within.Outside t.body h.grammatical.body (no_stmt_faults t h) s (0 + numbers_of (p s 0).ops) (names_are_known t h) (all_found t)
    (held-rest vs p (λ _. statement_list t.body) s 0 (held-whole (lowered t).ops)))

pub wheres_fit : WheresFit
wheres_fit t h =
    let vs = values_of (lowered t).ops in
    all_pass (λ a. Unit {0}) (λ a w k. tt) (λ s. where_of vs (out-Op s.op).what (out-Op s.op).regions) (bodies vs)
    (λ s _ g. where_part vs s.op g) outermost [] 0 [] (lowered t).ops tt (all_bodies t h)

pub foralls_fit : ForallsFit
foralls_fit t h =
    let vs = values_of (lowered t).ops in
    all_pass (λ a. Unit {0}) (λ a w k. tt) (λ s. forall_of vs (out-Op s.op).what (out-Op s.op).regions) (bodies vs)
    (λ s _ g. forall_part vs s.op g) outermost [] 0 [] (lowered t).ops tt (all_bodies t h)
