use Rattle.std.proofs.Common.{◌∙◌, ◌+◌, [], ◌∷◌, ◌++◌, ap, sym, refl, drop}
use Rattle.std.proofs.lemmas.Bool.{false≢true}
use Rattle.assign_schedule.specs.Seen.{item_seen, items_seen, steps_seen}
use Rattle.assign_schedule.specs.Steps as made
use Rattle.assign_schedule.proofs.Stepped.{with_begun, rest_of, next_item, next_step, none_begun, some_begun}
use Rattle.assign_schedule.proofs.steps.steps_of.Goals.{then-ends_before+in_ok-push-2, else-ends_before, then-not-is_empty+in_ok-push-3, else-not-is_empty}
use Rattle.assign_schedule.proofs.steps.steps_of.Goals as goal

pub each-preserved : goal.each-preserved
each-preserved c =
    let xs = c.args.items.now in
    let rest = made.steps_of (items_seen (drop (c.each.k + 1) xs)) in
    let same = ap (λ l. made.ends_before (items_seen l) (item_seen c.index-items-k.result)) (sym (rest_of xs (c.each.k + 1))) in
    elim c.if-ends_before.branch [
      | then-ends_before+in_ok-push-2 w ↦
          ap (λ s. steps_seen s.items ++ with_begun (items_seen c.if-ends_before.begun) rest) w.steps-is
          ∙ (ap (λ b. steps_seen w.push-then-ends_before.new.self.items ++ with_begun (items_seen b) rest) (w.begun-is ∙ (w.replace-step.ensures.after ∙ w.new.ensures))
          ∙ (next_step xs c.each.k c.index-items-k.result c.each.steps.items w.push-then-ends_before.new.self.items c.each.begun c.push.new.self c.each-test.true c.index-items-k.is c.in_ok-push.ensures.ok (same ∙ sym w.if-ends_before.ensures)
          (w.in_ok-push-2.ensures.items ∙ ap (λ b. c.each.steps.items ++ b ∷ []) w.replace-step.ensures.value)
          ∙ c.each.invariant))
      | else-ends_before w ↦
          ap (λ s. steps_seen s.items ++ with_begun (items_seen c.if-ends_before.begun) rest) w.steps-is
          ∙ (ap (λ b. steps_seen c.each.steps.items ++ with_begun (items_seen b) rest) w.begun-is
          ∙ (next_item xs c.each.k c.index-items-k.result (steps_seen c.each.steps.items) c.each.begun c.push.new.self c.each-test.true c.index-items-k.is c.in_ok-push.ensures.ok (same ∙ sym w.if-ends_before.ensures) ∙ c.each.invariant))
    ]

pub returns : goal.returns
returns c =
    let xs = c.args.items.now in
    elim c.if-not-is_empty.branch [
      | then-not-is_empty+in_ok-push-3 w ↦
          ap (λ s. steps_seen s.items) w.steps-is ∙ some_begun xs c.each.k c.each.steps.items w.push-then-not-is_empty.new.self.items c.each.begun c.each-test.false (λ none. false≢true (w.if-not-is_empty.ensures.1 none)) w.in_ok-push-3.ensures.items c.each.invariant
      | else-not-is_empty w ↦ ap (λ s. steps_seen s.items) w.steps-is ∙ none_begun xs c.each.k c.each.steps.items c.each.begun c.each-test.false (w.if-not-is_empty.ensures.0 refl) c.each.invariant
    ]
