use Rattle.std.proofs.Common.{rules, ◌≡◌, ℕ, suc, ◌+◌, ◌==◌, sym, ap, ◌∙◌, subst, arith, Result, Ok, ℤ, w64, ◌++◌, ◌∷◌, []}
use Rattle.std.proofs.lemmas.Int.{to_z-of_z}
use mir.Val.{SFits}
use Rattle.ws_base.specs.declared.fault.FaultName.{FaultName}
use Rattle.list_io.specs.Items.{typed, numbered, next_item}
use Rattle.term_eval.specs.Made.{Stops}
use Rattle.slow_eval.proofs.Taken.{begins, goes_on, ends, fails, values_integers}
use Rattle.slow_eval.proofs.reading.take_values.Goals as goal

pub loop-k-init : goal.loop-k-init
loop-k-init c = record { within = c.requires.within; taken = rw c.new-made.ensures (begins c.args.input.now c.args.truth c.args.before c.args.count c.args.at) }

pub returns-in-Err-clause-value : goal.returns-in-Err-clause-value
returns-in-Err-clause-value c =
    let input = c.args.input.now in
    let stop = c.bad_value.result in
    let taken_is : c.in-Some.taken ≡ c.args.before + c.loop-k.k = search rules in
    let is = ap (typed c.args.truth) (sym c.next_item-item.ensures.value) ∙ sym c.in-Err.ensures.value in
    let P : Result (ℤ × ℕ) FaultName → Type 0 = λ r. Stops stop (numbered (suc c.in-Some.taken) r) in
    let Q : ℕ → Type 0 = λ n. Stops stop (numbered (suc n) (typed c.args.truth (next_item input c.loop-k.place (n == 0)))) in
    fails input c.args.truth c.args.before c.args.count c.args.at c.loop-k.k c.loop-k.place stop c.loop-k.made (λ e. omega (arith, c.loop-k-test.true, e)) (subst Q taken_is (subst P (sym is) c.bad_value.ensures)) c.loop-k.invariant.taken

pub loop-k-preserved : goal.loop-k-preserved
loop-k-preserved c =
    let input = c.args.input.now in
    let taken_is : c.in-Some.taken ≡ c.args.before + c.loop-k.k = search rules in
    let is = ap (typed c.args.truth) (sym c.next_item-item.ensures.value) ∙ sym c.in-Ok.ensures.value in
    let Q : ℕ → Type 0 = λ n. typed c.args.truth (next_item input c.loop-k.place (n == 0)) ≡ Ok (c.in-Ok.value, c.in-Ok.end) in
    let fits : SFits w64 c.in-Ok.value = search rules in
    let pushed : c.push.new.self ≡ c.loop-k.made ++ c.in-Ok.value ∷ [] = simp to_z-of_z at c.in_ok-push-in-Ok.ensures.ok in
    record {
      within = search rules;
      taken = goes_on input c.args.truth c.args.before c.args.count c.args.at c.loop-k.k c.loop-k.place c.in-Ok.end c.in-Ok.value c.loop-k.made c.push.new.self (λ e. omega (arith, c.loop-k-test.true, e)) (subst Q taken_is is) pushed c.loop-k.invariant.taken;
    }

pub returns-clause-integers : goal.returns-clause-integers
returns-clause-integers c =
    values_integers c.args.input.now c.args.truth c.args.before c.args.count c.args.at c.loop-k.place c.loop-k.made
    (ends c.args.input.now c.args.truth c.args.before c.args.count c.args.at c.loop-k.k c.loop-k.place c.loop-k.made c.loop-k-test.false c.loop-k.invariant.taken)
