use Rattle.std.proofs.Common.{ℕ, ◌+◌, ◌*◌, List, length, get_or, arith, ap, below_more, ◌∙◌, length-set, get_or-set_other, get_or-set_same}
use Rattle.std.specs.Mem.Slots.{slots_items}
use Rattle.phase_board.proofs.Closes.{word_at}
use Rattle.phase_board.proofs.close.read_back.Goals as goal

pub loop-at-preserved : goal.loop-at-preserved
loop-at-preserved c =
    let at : ℕ = c.loop-at.at in
    let set_is = c.set.ensures in
    record {
      long = ap length set_is ∙ length-set c.loop-at.into at c.word-word.result ∙ c.loop-at.invariant.long;
      words = below_more _ _ (λ k h. ap (λ (l : List ℕ). get_or l k 0) set_is ∙ get_or-set_other c.loop-at.into at k c.word-word.result 0 (λ e. omega (arith, e, h)) ∙ c.loop-at.invariant.words k h)
          (ap (λ (l : List ℕ). get_or l at 0) set_is ∙ get_or-set_same c.loop-at.into at c.word-word.result 0 (let e = c.loop-at.invariant.long in let t = c.loop-at-test.true in let z = c.len-at-end.ensures in omega (arith, e, t, z))
          ∙ word_at (slots_items c.args.closed.now.words) (c.args.first + c.args.step * at) c.word-word.result c.word-word.ensures);
    }
