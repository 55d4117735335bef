use Rattle.std.proofs.Common.{rules, ap, ◌∙◌}
use Rattle.ws_space.specs.Replace.{is_logical}
use Rattle.ws_space.specs.Values.{with_state}
use Rattle.slow_eval.proofs.Allocated.{world_held}
use Rattle.slow_eval.proofs.ReadItems.{item_stops, item_value}
use Rattle.slow_eval.proofs.input.read_item.Goals as goal

pub returns-in_err-after-clause-value : goal.returns-in_err-after-clause-value
returns-in_err-after-clause-value c =
    let w = c.args.world.now in
    let truth_is = c.is_logical-truth.ensures ∙ (ap (λ l. is_logical l c.in-Some.name.now) c.as_slice.ensures ∙ ap (is_logical w.vars) c.in-Some.ensures) in
    let s = item_stops c.args.input.now w c.args.before c.args.at c.args.e.now c.in_ok-term.term c.is_logical-truth.result c.in_ok-term.ensures.value truth_is c.in_err-after.field-0.0 c.in_err-after.ensures.value in
    search (rules, s)

pub returns-clause-value : goal.returns-clause-value
returns-clause-value c =
    let w = c.args.world.now in
    let truth_is = c.is_logical-truth.ensures ∙ (ap (λ l. is_logical l c.in-Some.name.now) c.as_slice.ensures ∙ ap (is_logical w.vars) c.in-Some.ensures) in
    let after = c.in_ok-after.after in
    item_value c.args.input.now w c.args.before c.args.at c.args.e.now c.in_ok-term.term c.is_logical-truth.result c.in_ok-term.ensures.value truth_is after c.set_state.new.vars c.in_ok-after.ensures.value
    (c.in_ok-set_state.ensures ∙ ap (λ x. with_state w.vars x after.state) c.in-Some.ensures)

pub returns-clause-kept : goal.returns-clause-kept
returns-clause-kept c = world_held c.args.world.now c.in-Some.name.now c.in_ok-after.after.state c.set_state.new.vars c.in_ok-set_state.ensures c.requires.world c.in_ok-after.ensures.small
