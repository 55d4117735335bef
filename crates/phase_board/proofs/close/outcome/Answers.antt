use Rattle.std.proofs.Common.{◌+◌, ◌*◌, arith, refl, sym, below_more}
use Rattle.std.specs.Mem.Slots.{slots_items}
use Rattle.phase_board.proofs.Closes.{word_at}
use Rattle.phase_board.proofs.close.outcome.Goals as goal

pub returns-then-key-lt18446744073709551615-clause-last : goal.returns-then-key-lt18446744073709551615-clause-last
returns-then-key-lt18446744073709551615-clause-last c = λ _. (c.loop-at.at, refl, sym (word_at (slots_items c.args.closed.now.words) (4 + c.args.cells + 4 * c.loop-at.at) c.word-key.result c.word-key.ensures))

pub loop-at-preserved : goal.loop-at-preserved
loop-at-preserved c = below_more _ _ c.loop-at.invariant (let w = word_at (slots_items c.args.closed.now.words) (4 + c.args.cells + 4 * c.loop-at.at) c.word-key.result c.word-key.ensures in let h = c.if-key-lt18446744073709551615.false in omega (arith, w, h))
