use Rattle.std.proofs.Common.{◌≡◌, ◌+◌, ◌<◌, List, ◌∷◌, map, length, length-set, drop, take, set, sym, ap, ◌∙◌, subst, arith, of_z, ℤ}
use Rattle.std.specs.Int.{w64, cast_signed}
use Rattle.std.proofs.lemmas.Int.{to_z-of_z}
use Rattle.std.proofs.lemmas.List.{take_more_set}
use Rattle.phase_ops.specs.declared.phase.Micro.{Micro}
use Rattle.phase_ops.specs.declared.effect.Turn.TheVariants.{Next}
use Rattle.phase_ops.specs.Phases.{Event, Spot, looks, turn, ops_events, calm, last_event}
use Rattle.phase_ops.specs.Free.{In}
use Rattle.act_eval.specs.Sites.{View, Small, Rest, spot_of, calm_events}
use Rattle.act_eval.proofs.ValueSteps.{Left, opened, may_looks, follow, never_does}
use Rattle.act_eval.proofs.values.value_of.Goals.{in-Next, in-Does}
use Rattle.act_eval.proofs.values.value_of.Goals as goal

pub calm_turn_at-turn-requires-clause-loads : goal.calm_turn_at-turn-requires-clause-loads
calm_turn_at-turn-requires-clause-loads g c =
    let s : Spot = spot_of 0 c.args.element c.args.iteration in
    let v : View = g.S.Site.view c.args.site.now c.args.hand.now in
    let regs : List ℤ = take c.loop-at.at c.loop-at.registers in
    let op : Micro = c.index-ops-at.result in
    let rest : Rest = λ m' regs. last_event regs in
    let whole : List Event = calm_events s c.args.ops.now v.cells in
    let b : Left v.may whole (ops_events s (calm op ∷ map calm (drop (c.loop-at.at + 1) c.args.ops.now)) v.cells regs rest) =
    opened s v.may whole v.cells c.args.ops.now c.loop-at.at op op regs rest c.index-ops-at.is c.loop-at-test.true c.loop-at.invariant.left in
    λ n h. subst (λ (y : View). In n y.may × Small n) (sym c.loop-at.invariant.same)
    (may_looks s v.may whole v.cells (calm op) (map calm (drop (c.loop-at.at + 1) c.args.ops.now)) regs rest b n
    (subst (λ (y : View). In n (looks y.cells regs (calm op))) c.loop-at.invariant.same h))

pub loop-at-preserved : goal.loop-at-preserved
loop-at-preserved g c =
    let s : Spot = spot_of 0 c.args.element c.args.iteration in
    let v : View = g.S.Site.view c.args.site.now c.args.hand.now in
    let regs : List ℤ = take c.loop-at.at c.loop-at.registers in
    let op : Micro = c.index-ops-at.result in
    let ops : List Micro = map calm (drop (c.loop-at.at + 1) c.args.ops.now) in
    let rest : Rest = λ m' regs. last_event regs in
    let whole : List Event = calm_events s c.args.ops.now v.cells in
    let b : Left v.may whole (ops_events s (calm op ∷ ops) v.cells regs rest) =
    opened s v.may whole v.cells c.args.ops.now c.loop-at.at op op regs rest c.index-ops-at.is c.loop-at-test.true c.loop-at.invariant.left in
    let room : c.loop-at.at < length c.loop-at.registers = let a = c.loop-at.invariant.long in let b = c.requires.room in let t = c.loop-at-test.true in omega arith in
    let gives : c.calm_turn_at-turn.result ≡ turn c.args.iteration v.cells regs (calm op) = c.calm_turn_at-turn.ensures.value ∙ ap (λ (y : View). turn c.args.iteration y.cells regs (calm op)) c.loop-at.invariant.same in
    elim c.match-turn.branch [
      | in-Next w ↦
          let fits : cast_signed w64 (of_z w64 w.same.result) ≡ w.in-Next.value = to_z-of_z w64 w.same.result (record { sfits = w.same.type_inv }) ∙ w.same.ensures in
          let is : c.match-turn.registers ≡ set c.loop-at.registers c.loop-at.at w.in-Next.value = w.registers-is ∙ ap (λ (z : ℤ). set c.loop-at.registers c.loop-at.at z) fits in record {
            belongs = c.calm_turn_at-turn.ensures.belongs;
            same = c.calm_turn_at-turn.ensures.same ∙ c.loop-at.invariant.same;
            long = ap (λ (l : List ℤ). length l) is ∙ length-set c.loop-at.registers c.loop-at.at w.in-Next.value ∙ c.loop-at.invariant.long;
            left = subst (λ (r : List ℤ). Left v.may whole (ops_events s ops v.cells r rest)) (sym (take_more_set c.loop-at.registers c.loop-at.at w.in-Next.value room) ∙ ap (λ (l : List ℤ). take (c.loop-at.at + 1) l) (sym is))
                (follow s v.may whole v.cells (calm op) ops regs rest b (Next w.in-Next.value) (sym w.in-Next.is ∙ gives));
          }
      | in-Does w ↦ absurd (never_does c.args.iteration v.cells regs op _ (sym w.in-Does.is ∙ gives))
    ]
