use Rattle.std.proofs.Common.{◌≡◌, ◌∙◌, ◌<◌, ℕ, true, length, ap, sym, arith}
use Rattle.std.specs.Prelude.{nat_lt, slice_index}
use Rattle.storage_owner.specs.Layouts.{only, declared_kinds}
use Rattle.storage_owner.proofs.Mattering.{all_only}
use Rattle.storage_owner.proofs.variables.module_variables.Goals as goal

pub returns : goal.returns
returns c =
    let kinds = c.in_ok-kinds.kinds.items in
    let uses = c.in_ok-uses.uses.items in
    let len = c.len.ensures in
    let slice = c.as_slice-3.ensures.len in
    let same = ap (λ ks. length ks) c.as_slice-3.ensures.value in
    c.in_ok-xs.ensures
    ∙ ap (λ us. only (λ n. nat_lt 0 (slice_index us n)) 0 c.as_slice-3.result.now) c.as_slice-2.ensures.value
    ∙ ap (λ ks. only (λ n. nat_lt 0 (slice_index uses n)) 0 ks) c.as_slice-3.ensures.value
    ∙ all_only uses kinds (λ n l. c.in_ok-uses.ensures.each n (omega (arith, l, len, slice, same)))
    ∙ ap (λ ks. only (λ n. true) 0 ks) (c.in_ok-kinds.ensures ∙ ap declared_kinds c.as_slice.ensures)
