use Rattle.std.proofs.Common.{◌≡◌, ◌∙◌, ◌<◌, ℕ, length, ap, sym, arith, subst}
use Rattle.std.specs.Prelude.{nat_lt, slice_index}
use Rattle.std.specs.List.{flat_map}
use Rattle.hlfir_ops.specs.Rules.{operand_numbers, is_in}
use Rattle.rule_tests.specs.Orders.{ops_of}
use Rattle.rule_tests.specs.Uses.{AreUses}
use Rattle.storage_owner.specs.Groups.{ops_inside}
use Rattle.storage_owner.specs.Layouts.{only, declared_kinds, is_operand}
use Rattle.storage_owner.proofs.Mattering.{used_only}
use Rattle.storage_owner.proofs.variables.region_variables.Goals as goal

pub returns : goal.returns
returns c =
    let kinds = c.in_ok-kinds.kinds.items in
    let uses = c.in_ok-uses.uses.items in
    let used = flat_map operand_numbers (ops_of c.as_slice-2.result.now) in
    let as_many : length uses ≡ length kinds = grind (arith, c.if-len.false, c.len-2.ensures, c.len-3.ensures, c.as_slice-3.ensures.len, c.as_slice-4.ensures.len, ap (λ ks. length ks) c.as_slice-3.ensures.value, ap (λ ks. length ks) c.as_slice-4.ensures.value) in
    c.in_ok-xs.ensures
    ∙ ap (λ us. only (λ n. nat_lt 0 (slice_index us n)) 0 c.as_slice-4.result.now) c.as_slice-3.ensures.value
    ∙ ap (λ ks. only (λ n. nat_lt 0 (slice_index uses n)) 0 ks) c.as_slice-4.ensures.value
    ∙ used_only uses used kinds as_many c.in_ok-uses.ensures
    ∙ ap (λ ops. only (is_operand (ops_of ops)) 0 kinds) c.as_slice-2.ensures.value
    ∙ ap (λ ops. only (is_operand ops) 0 kinds) c.in_ok-order.ensures
    ∙ ap (λ ks. only (is_operand (ops_inside c.args.module.now c.args.group)) 0 ks) (c.in_ok-kinds.ensures ∙ ap declared_kinds c.as_slice.ensures)
