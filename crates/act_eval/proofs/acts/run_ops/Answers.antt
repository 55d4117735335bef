use Rattle.phase_ops.specs.declared.effect.Effect.TheVariants.{Fault}
use Rattle.std.proofs.lemmas.Int.{to_z-of_z}
use Rattle.std.proofs.lemmas.List.{take_more_set, drop_all}
use Rattle.phase_ops.specs.declared.phase.Micro.{Micro}
use Rattle.phase_ops.specs.declared.effect.Turn.TheVariants.{Next}
use Rattle.act_eval.proofs.OpSteps.{Before, opened_at, follow_turn, effect_next, effect_done, moved, looks_at, named_at, fault_at, effect_at}
use Rattle.act_eval.proofs.Leads.{led_same, led_then, led_by}
use Rattle.act_eval.proofs.acts.run_ops.Goals.{in-Next, in-Does}
use Rattle.std.proofs.Common.{sym, subst, ap, ◌∙◌, arith, length-set, length-take-le, set, of_z, ◌≡◌, ℕ, ◌+◌, ◌*◌, ◌<◌, List, [], ◌∷◌, length, drop, take, ℤ, pos}
use Rattle.std.specs.Int.{w64, cast_signed}
use Rattle.phase_ops.specs.declared.effect.Effect.{Effect}
use Rattle.ws_base.specs.Words.{fault_number}
use Rattle.phase_ops.specs.Phases.{over, ops_events, Spot}
use Rattle.act_eval.specs.Sites.{View, Comes, Rest, spot_of}
use Rattle.act_eval.proofs.acts.run_ops.Goals as goal

pub turn_at-turn-requires-clause-loads : goal.turn_at-turn-requires-clause-loads
turn_at-turn-requires-clause-loads g c = looks_at (spot_of c.args.act c.args.element c.args.iteration) (g.S.Site.view c.args.site.now c.loop-at.hand) c.args.ops.now c.loop-at.at c.index-ops-at.result (take c.loop-at.at c.loop-at.registers) c.requires.comes.0 c.requires.comes.1
    c.index-ops-at.is c.loop-at-test.true (c.loop-at.invariant.going c.requires.comes.0 c.requires.comes.1 c.requires.comes.2)

pub turn_at-turn-requires-clause-small : goal.turn_at-turn-requires-clause-small
turn_at-turn-requires-clause-small g c = named_at (spot_of c.args.act c.args.element c.args.iteration) (g.S.Site.view c.args.site.now c.loop-at.hand) c.args.ops.now c.loop-at.at c.index-ops-at.result (take c.loop-at.at c.loop-at.registers) c.requires.comes.0 c.requires.comes.1
    c.index-ops-at.is c.loop-at-test.true (c.loop-at.invariant.going c.requires.comes.0 c.requires.comes.1 c.requires.comes.2)

pub act-requires-in-Does-clause-next : goal.act-requires-in-Does-clause-next
act-requires-in-Does-clause-next g c =
    let n = effect_at (spot_of c.args.act c.args.element c.args.iteration) (g.S.Site.view c.args.site.now c.loop-at.hand) c.args.ops.now c.loop-at.at c.index-ops-at.result (take c.loop-at.at c.loop-at.registers) c.requires.comes.0 c.requires.comes.1
    c.index-ops-at.is c.loop-at-test.true (c.loop-at.invariant.going c.requires.comes.0 c.requires.comes.1 c.requires.comes.2) c.in-Does.effect (sym c.in-Does.is ∙ c.turn_at-turn.ensures.value) in
    (_, ap (λ (z : View). z.left) c.turn_at-turn.ensures.same ∙ n)

pub loop-at-preserved : goal.loop-at-preserved
loop-at-preserved g c =
    let s : Spot = spot_of c.args.act c.args.element c.args.iteration in
    let v : View = g.S.Site.view c.args.site.now c.loop-at.hand in
    let regs : List ℤ = take c.loop-at.at c.loop-at.registers in
    let op : Micro = c.index-ops-at.result in
    let ops : List Micro = drop (c.loop-at.at + 1) c.args.ops.now in
    let room : c.loop-at.at < length c.loop-at.registers = let a = c.loop-at.invariant.long in let b = c.requires.room in let t = c.loop-at-test.true in omega arith in
    let before : (rest : Rest) (more : List Effect) → Comes (g.S.Site.view c.args.site.now c.args.hand.now) (ops_events s c.args.ops.now (g.S.Site.view c.args.site.now c.args.hand.now).cells [] rest) more → Before s v op ops regs rest more =
    λ rest more h. opened_at s v c.args.ops.now c.loop-at.at op regs rest more c.index-ops-at.is c.loop-at-test.true (c.loop-at.invariant.going rest more h) in
    elim c.match-turn.branch [
      | in-Next w ↦
          let fits : cast_signed w64 (of_z w64 w.same.result) ≡ w.in-Next.value = to_z-of_z w64 w.same.result (record { sfits = w.same.type_inv }) ∙ w.same.ensures in
          let is : c.match-turn.registers ≡ set c.loop-at.registers c.loop-at.at w.in-Next.value = w.registers-is ∙ ap (λ (z : ℤ). set c.loop-at.registers c.loop-at.at z) fits in record {
            belongs = subst (λ (x : g.row.H.Denot). g.S.Site.belongs c.args.site.now x) (sym w.hand-is) c.turn_at-turn.ensures.belongs;
            led = led_then (g.S.Site.view c.args.site.now c.args.hand.now) v (g.S.Site.view c.args.site.now c.match-turn.hand) c.loop-at.invariant.led
                (led_same v (g.S.Site.view c.args.site.now c.match-turn.hand) (ap (λ (x : g.row.H.Denot). g.S.Site.view c.args.site.now x) w.hand-is ∙ c.turn_at-turn.ensures.same));
            long = ap (λ (l : List ℤ). length l) is ∙ length-set c.loop-at.registers c.loop-at.at w.in-Next.value ∙ c.loop-at.invariant.long;
            going = λ rest more h.
                let v' : View = g.S.Site.view c.args.site.now c.match-turn.hand in
                let same : v' ≡ v = ap (λ (x : g.row.H.Denot). g.S.Site.view c.args.site.now x) w.hand-is ∙ c.turn_at-turn.ensures.same in
                let t = follow_turn s v op ops regs rest more (before rest more h) (Next w.in-Next.value) (sym w.in-Next.is ∙ c.turn_at-turn.ensures.value) in
                moved s v v' ops (take (c.loop-at.at + 1) c.match-turn.registers) rest more same
                (subst (λ (r : List ℤ). Comes v (ops_events s ops v.cells r rest) more) (sym (take_more_set c.loop-at.registers c.loop-at.at w.in-Next.value room) ∙ ap (λ (l : List ℤ). take (c.loop-at.at + 1) l) (sym is)) t);
          }
      | in-Does w ↦ record {
        belongs = subst (λ (x : g.row.H.Denot). g.S.Site.belongs c.args.site.now x) (sym w.hand-is) w.act-in-Does.ensures.belongs;
        led =
            let v' : View = g.S.Site.view c.args.site.now c.match-turn.hand in
            let n = effect_next s v op ops regs c.requires.comes.0 c.requires.comes.1 (before c.requires.comes.0 c.requires.comes.1 c.requires.comes.2) w.in-Does.effect (sym w.in-Does.is ∙ c.turn_at-turn.ensures.value) in
            let told : (more' : List Effect) → (g.S.Site.view c.args.site.now c.turn_at-turn.new.hand).left ≡ w.in-Does.effect ∷ more' → v' ≡ record { left = more'; cells = over w.in-Does.effect (g.S.Site.view c.args.site.now c.turn_at-turn.new.hand).cells; may = (g.S.Site.view c.args.site.now c.turn_at-turn.new.hand).may } =
            λ more' l. ap (λ (x : g.row.H.Denot). g.S.Site.view c.args.site.now x) w.hand-is ∙ w.act-in-Does.ensures.done more' l in
            led_then (g.S.Site.view c.args.site.now c.args.hand.now) v v' c.loop-at.invariant.led
            (led_by v (g.S.Site.view c.args.site.now c.turn_at-turn.new.hand) v' w.in-Does.effect c.turn_at-turn.ensures.same (_, n) told);
        long = ap (λ (l : List ℤ). length l) w.registers-is ∙ length-set c.loop-at.registers c.loop-at.at (pos 0) ∙ c.loop-at.invariant.long;
        going = λ rest more h.
            let v' : View = g.S.Site.view c.args.site.now c.match-turn.hand in
            let v'' : View = g.S.Site.view c.args.site.now c.turn_at-turn.new.hand in
            let told : (more' : List Effect) → v.left ≡ w.in-Does.effect ∷ more' → v' ≡ record { left = more'; cells = over w.in-Does.effect v.cells; may = v.may } =
            λ more' l. ap (λ (x : g.row.H.Denot). g.S.Site.view c.args.site.now x) w.hand-is ∙ w.act-in-Does.ensures.done more' (ap (λ (z : View). z.left) c.turn_at-turn.ensures.same ∙ l)
            ∙ ap (λ (z : View). let y : View = record { left = more'; cells = over w.in-Does.effect z.cells; may = z.may } in y) c.turn_at-turn.ensures.same in
            let t = effect_done s v op ops regs rest more (before rest more h) w.in-Does.effect v' (sym w.in-Does.is ∙ c.turn_at-turn.ensures.value) told in
            subst (λ (r : List ℤ). Comes v' (ops_events s ops v'.cells r rest) more) (sym (take_more_set c.loop-at.registers c.loop-at.at (pos 0) room) ∙ ap (λ (l : List ℤ). take (c.loop-at.at + 1) l) (sym w.registers-is)) t;
      }
    ]

pub returns-clause-ended : goal.returns-clause-ended
returns-clause-ended g c = λ rest more h.
    let s : Spot = spot_of c.args.act c.args.element c.args.iteration in
    let v : View = g.S.Site.view c.args.site.now c.loop-at.hand in
    let is : c.loop-at.at ≡ length c.args.ops.now = let a = c.loop-at-test.false in let b = c.loop-at.auto.at-end in omega arith in
    let over' : drop c.loop-at.at c.args.ops.now ≡ [] = drop_all c.loop-at.at c.args.ops.now c.loop-at-test.false in
    subst (λ (n : ℕ). Comes v (rest v.cells (take n c.loop-at.registers)) more) is
    (subst (λ (os : List Micro). Comes v (ops_events s os v.cells (take c.loop-at.at c.loop-at.registers) rest) more) over' (c.loop-at.invariant.going rest more h))

pub returns-in-Fails-clause-led : goal.returns-in-Fails-clause-led
returns-in-Fails-clause-led g c =
    let s : Spot = spot_of c.args.act c.args.element c.args.iteration in
    let v : View = g.S.Site.view c.args.site.now c.loop-at.hand in
    let v0 : View = g.S.Site.view c.args.site.now c.turn_at-turn.new.hand in
    let v' : View = g.S.Site.view c.args.site.now c.act.new.hand in
    let regs : List ℤ = take c.loop-at.at c.loop-at.registers in
    let more : List Effect = c.requires.comes.1 in
    let n = fault_at s v c.args.ops.now c.loop-at.at c.index-ops-at.result regs c.requires.comes.0 more c.index-ops-at.is c.loop-at-test.true (c.loop-at.invariant.going c.requires.comes.0 more c.requires.comes.2) c.in-Fails.name (sym c.in-Fails.is ∙ c.turn_at-turn.ensures.value) in
    let long : length regs ≡ c.loop-at.at = length-take-le c.loop-at.at c.loop-at.registers (let a = c.loop-at.invariant.long in let r = c.requires.room in let t = c.loop-at-test.true in omega arith) in
    let key : ((c.args.act * 1048576 + length regs) * 1048576 + c.args.element) * 16 + fault_number c.in-Fails.name ≡ c.key_of.result = ap (λ (z : ℕ). ((c.args.act * 1048576 + z) * 1048576 + c.args.element) * 16 + fault_number c.in-Fails.name) long ∙ sym c.key_of.ensures in
    led_then (g.S.Site.view c.args.site.now c.args.hand.now) v v' c.loop-at.invariant.led
    (led_by v v0 v' (Fault c.key_of.result) c.turn_at-turn.ensures.same (more, n ∙ ap (λ (z : ℕ). let e : Effect = Fault z in e ∷ more) key) c.act.ensures.done)
