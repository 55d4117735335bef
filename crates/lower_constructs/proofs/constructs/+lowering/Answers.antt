use Rattle.std.proofs.Common.{arith, lit<, refl, sym, ap, subst, ◌<◌, drop, ◌+◌, [], ◌∷◌, length, map}
use Rattle.std.specs.Prelude.{List, ⊤}
use Rattle.hlfir_ops.specs.declared.what.What.TheVariants as what
use Rattle.lower_values.specs.Lowerings.{Lowering, statement_of}
use Rattle.lower_values.specs.References.{declare_of}
use Rattle.lower_assign.specs.Statements.{yielded, all_yielded}
use Rattle.lower_values.specs.Values.{value}
use Rattle.lower_values.proofs.Appended.{appends-by, if-map}
use Rattle.lower_values.proofs.Turns.{lowers-done}
use Rattle.ws_tree.specs.declared.stmt.Else.{out-Else}
use Rattle.lower_constructs.specs.Filled.{Fills}
use Rattle.lower_constructs.specs.Modules.{triple, triples, forall_mask, statement, statement_list}
use Rattle.lower_constructs.specs.Lists.{mask_of, else_part, else_list}
use Rattle.lower_constructs.proofs.Filling.{stands, inside, fills-one}
use Rattle.lower_constructs.proofs.Blocks.{third-some, then, next-lowered, masked-lowered, forall-lowered, loop-lowered, shared-lowered, else-lowered}
use Rattle.lower_constructs.proofs.Weights.{stmts_weight, masked-falls, forall-falls, loop-falls, shared-falls, rest-falls, stmt-falls, else-falls, falls-to, part-falls}
use Rattle.lower_constructs.proofs.constructs.+lowering.Goals as goal

-- ---- blocks

pub statements-statement-requires : goal.statements-statement-requires
statements-statement-requires t c = (stmt-falls t c.args.block.now c.each.stmt-index c.stmt-item.result c.decreases c.each-test.true c.stmt-item.is, tt)

pub statements-each-preserved : goal.statements-each-preserved
statements-each-preserved t c =
    next-lowered c.args.names.now (λ s. statement s.line s.body) statement_list (λ s ss. refl) c.args.block.now c.each.stmt-index c.stmt-item.result c.each-test.true c.stmt-item.is c.each.invariant c.in_ok-statement.ensures

pub statements-returns : goal.statements-returns
statements-returns t c = lowers-done c.args.names.now (λ _. statement_list) c.args.block.now c.each.stmt-index (omega arith) refl c.each.invariant

pub block_region-statements-requires : goal.block_region-statements-requires
block_region-statements-requires t c = (falls-to t (stmts_weight c.args.block.now) 1 2 c.decreases (lit< tt), tt)

pub block_region-leave_region-requires : goal.block_region-leave_region-requires
block_region-leave_region-requires t c = inside c.args.build.now c.enter_region.new.self c.statements.new.build c.requires c.in_ok-enter_region.ensures.entered c.in_ok-statements.ensures

pub block_region-returns : goal.block_region-returns
block_region-returns t c = fills-one c.args.build.now c.enter_region.new.self c.statements.new.build c.leave_region.new.self c.in_ok-enter_region.ensures.entered c.in_ok-statements.ensures c.leave_region.ensures

pub forall_region-statements-requires : goal.forall_region-statements-requires
forall_region-statements-requires t c = (falls-to t (stmts_weight c.args.block.now) 1 2 c.decreases (lit< tt), tt)

pub forall_region-leave_region-requires : goal.forall_region-leave_region-requires
forall_region-leave_region-requires t c =
    let body = then (forall_mask c.args.mask.now) (statement_list c.args.block.now) c.in_ok-forall_mask.ensures c.in_ok-statements.ensures in
    inside c.args.build.now c.enter_region.new.self c.statements.new.build c.requires c.in_ok-enter_region.ensures.entered body

pub forall_region-returns : goal.forall_region-returns
forall_region-returns t c =
    let body = then (forall_mask c.args.mask.now) (statement_list c.args.block.now) c.in_ok-forall_mask.ensures c.in_ok-statements.ensures in
    fills-one c.args.build.now c.enter_region.new.self c.statements.new.build c.leave_region.new.self c.in_ok-enter_region.ensures.entered body c.leave_region.ensures

-- ---- ELSEWHERE

pub else_region-else_part-requires : goal.else_region-else_part-requires
else_region-else_part-requires t c = (else-falls t c.args.rest.now c.each.part-index c.part-item.result c.decreases c.each-test.true c.part-item.is, tt)

pub else_region-each-preserved : goal.else_region-each-preserved
else_region-each-preserved t c =
    next-lowered c.args.names.now else_part else_list (λ e es. refl) c.args.rest.now c.each.part-index c.part-item.result c.each-test.true c.part-item.is c.each.invariant c.in_ok-else_part.ensures

pub else_region-leave_region-requires : goal.else_region-leave_region-requires
else_region-leave_region-requires t c =
    let all = lowers-done c.args.names.now (λ _. else_list) c.args.rest.now c.each.part-index (omega arith) refl c.each.invariant in
    inside c.args.build.now c.enter_region.new.self c.each.build c.requires c.in_ok-enter_region.ensures.entered all

pub else_region-returns : goal.else_region-returns
else_region-returns t c =
    let all = lowers-done c.args.names.now (λ _. else_list) c.args.rest.now c.each.part-index (omega arith) refl c.each.invariant in
    let filled = fills-one c.args.build.now c.enter_region.new.self c.each.build c.leave_region.new.self c.in_ok-enter_region.ensures.entered all c.leave_region.ensures in
    let P : List (Lowering ⊤) → Type 0 = λ qs. Fills c.args.names.now qs c.args.build.now c.leave_region.new.self in
    subst P (sym (third-some c.args.rest.now c.is_empty.result c.is_empty.ensures c.if-is_empty.false)) filled

pub else_part-block_region-requires : goal.else_part-block_region-requires
else_part-block_region-requires t c =
    let e = out-Else c.args.part.now in
    let some : 0 < length c.begin_elsewhere.new.build.ops = stands c.args.names.now what.Elsewhere e.line [] (mask_of e.mask) c.args.build.now c.begin_elsewhere.new.build c.in_ok-begin_elsewhere.ensures in
    (part-falls t c.args.part.now c.as_slice.result.now c.decreases c.as_slice.ensures, some)

pub else_part-returns : goal.else_part-returns
else_part-returns t c =
    if-map c.block_region.result (λ done h.
    else-lowered c.args.names.now c.args.part.now c.as_slice.result.now c.args.build.now c.begin_elsewhere.new.build c.block_region.new.build c.as_slice.ensures c.in_ok-begin_elsewhere.ensures h) c.block_region.ensures

-- ---- WHERE

pub statement-block_region-requires : goal.statement-block_region-requires
statement-block_region-requires t c =
    let some : 0 < length c.begin_masked.new.build.ops = stands c.args.names.now what.Masked c.args.stmt.now.line [] (yielded (value c.in-Masked.mask) ∷ []) c.args.build.now c.begin_masked.new.build c.in_ok-begin_masked-in-Masked.ensures in
    (masked-falls t c.args.stmt.now.body c.in-Masked.block c.as_slice.result.now c.decreases c.as_slice.ensures c.in-Masked.mask c.in-Masked.rest c.in-Masked.is, some)

pub statement-else_region-requires : goal.statement-else_region-requires
statement-else_region-requires t c =
    let names = c.args.names.now in
    let line = c.args.stmt.now.line in
    let mask = yielded (value c.in-Masked.mask) in
    let with_block = c.in_ok-block_region-in-Masked.ensures.next what.Masked line [] (mask ∷ []) c.args.build.now c.in_ok-begin_masked-in-Masked.ensures in
    let some : 0 < length c.block_region.new.build.ops = stands names what.Masked line [] (mask ∷ statement_list c.as_slice.result.now ∷ []) c.args.build.now c.block_region.new.build with_block in
    (rest-falls t c.args.stmt.now.body c.in-Masked.mask c.in-Masked.block c.in-Masked.rest c.as_slice-in-Masked.result.now c.decreases c.in-Masked.is c.as_slice-in-Masked.ensures, some)

pub statement-returns-in_ok-block_region-in-Masked : goal.statement-returns-in_ok-block_region-in-Masked
statement-returns-in_ok-block_region-in-Masked t c =
    if-map c.else_region.result (λ done h.
    masked-lowered c.args.names.now c.args.stmt.now.line c.args.stmt.now.body c.in-Masked.mask c.in-Masked.block c.as_slice.result.now c.in-Masked.rest c.as_slice-in-Masked.result.now c.args.build.now c.begin_masked.new.build c.block_region.new.build c.else_region.new.build
    c.in-Masked.is c.as_slice.ensures c.as_slice-in-Masked.ensures c.in_ok-begin_masked-in-Masked.ensures c.in_ok-block_region-in-Masked.ensures h) c.else_region.ensures

-- ---- FORALL

pub statement-forall_region-requires : goal.statement-forall_region-requires
statement-forall_region-requires t c =
    let is = c.as_slice-in-Forall.result.now in
    let some : 0 < length c.begin_forall.new.build.ops = stands c.args.names.now (what.Forall (map (λ i. i.name) is)) c.args.stmt.now.line [] (all_yielded (triples is) ∷ []) c.args.build.now c.begin_forall.new.build c.in_ok-begin_forall-in-Forall.ensures in
    (forall-falls t c.args.stmt.now.body c.in-Forall.block c.as_slice-in-Forall-2.result.now c.decreases c.as_slice-in-Forall-2.ensures c.in-Forall.indexes c.in-Forall.mask c.in-Forall.is, some)

pub statement-returns-in_ok-begin_forall-in-Forall : goal.statement-returns-in_ok-begin_forall-in-Forall
statement-returns-in_ok-begin_forall-in-Forall t c =
    if-map c.forall_region.result (λ done h.
    forall-lowered c.args.names.now c.args.stmt.now.line c.args.stmt.now.body c.in-Forall.indexes c.as_slice-in-Forall.result.now c.in-Forall.mask c.in-Forall.block c.as_slice-in-Forall-2.result.now c.args.build.now c.begin_forall.new.build c.forall_region.new.build
    c.in-Forall.is c.as_slice-in-Forall.ensures c.as_slice-in-Forall-2.ensures c.in_ok-begin_forall-in-Forall.ensures h) c.forall_region.ensures

-- ---- DO

pub statement-block_region-requires-in-Loop : goal.statement-block_region-requires-in-Loop
statement-block_region-requires-in-Loop t c =
    let names = c.args.names.now in
    let header = all_yielded (triple c.in-Loop.l c.in-Loop.u c.in-Loop.s) in
    let some : 0 < length c.begin_loop.new.build.ops = stands names what.DoLoop c.args.stmt.now.line ((declare_of names c.in-Loop.var).value ∷ []) (header ∷ []) c.args.build.now c.begin_loop.new.build c.in_ok-begin_loop-in-Loop.ensures in
    (loop-falls t c.args.stmt.now.body c.in-Loop.block c.as_slice-in-Loop.result.now c.decreases c.as_slice-in-Loop.ensures c.in-Loop.var c.in-Loop.l c.in-Loop.u c.in-Loop.s c.in-Loop.is, some)

pub statement-returns-in_ok-begin_loop-in-Loop : goal.statement-returns-in_ok-begin_loop-in-Loop
statement-returns-in_ok-begin_loop-in-Loop t c =
    if-map c.block_region-in-Loop.result (λ done h.
    loop-lowered c.args.names.now c.args.stmt.now.line c.args.stmt.now.body c.in-Loop.var c.in-Loop.l c.in-Loop.u c.in-Loop.s c.in-Loop.block c.as_slice-in-Loop.result.now c.args.build.now c.begin_loop.new.build c.block_region-in-Loop.new.build
    c.in-Loop.is c.as_slice-in-Loop.ensures c.in_ok-begin_loop-in-Loop.ensures h) c.block_region-in-Loop.ensures

-- ---- PARALLEL WORKSHARE

pub statement-block_region-requires-in-Shared : goal.statement-block_region-requires-in-Shared
statement-block_region-requires-in-Shared t c =
    let names = c.args.names.now in
    let some : 0 < length c.begin_statement.new.build.ops = stands names what.Workshare c.args.stmt.now.line c.new.result [] c.args.build.now c.begin_statement.new.build (c.in_ok-begin_statement-in-Shared.ensures names) in
    (shared-falls t c.args.stmt.now.body c.in-Shared.block c.as_slice-in-Shared.result.now c.decreases c.as_slice-in-Shared.ensures c.in-Shared.is, some)

pub statement-returns-in_ok-begin_statement-in-Shared : goal.statement-returns-in_ok-begin_statement-in-Shared
statement-returns-in_ok-begin_statement-in-Shared t c =
    let names = c.args.names.now in
    let line = c.args.stmt.now.line in
    let begun = appends-by (ap (λ os. statement_of what.Workshare line os []) c.new.ensures) refl (c.in_ok-begin_statement-in-Shared.ensures names) in
    if-map c.block_region-in-Shared.result (λ done h.
    shared-lowered names line c.args.stmt.now.body c.in-Shared.block c.as_slice-in-Shared.result.now c.args.build.now c.begin_statement.new.build c.block_region-in-Shared.new.build c.in-Shared.is c.as_slice-in-Shared.ensures begun h) c.block_region-in-Shared.ensures
