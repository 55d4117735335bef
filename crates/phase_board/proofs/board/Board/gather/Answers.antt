use Rattle.std.proofs.Common.{◌≡◌, ℕ, ◌+◌, ◌*◌, ◌≤◌, List, [], sum, subst, ◌∷◌, ◌++◌, get_or, arith, ap, sym, ◌∙◌, rules}
use Rattle.std.specs.Mem.Slots.{slots_items}
use Rattle.phase_board.specs.Held.{Held}
use Rattle.phase_board.proofs.Closes.{closed_by, gathered, done_front, same_list, outcome_at, finished_few}
use Rattle.phase_board.proofs.board.Board.gather.Goals as goal

pub glue-requires : goal.glue-requires
glue-requires c = let b = c.args.self in let last = c.in-Some.last in
    let cut : c.args.passes.items ≡ c.pop.new.self.items ++ last ∷ [] = search rules in
    let is = gathered b c.args.passes.items c.pop.new.self.items last c.requires.passes cut in
    (ap (λ (z : Held). z.table) c.last.view_is ∙ is.0.0, done_front b c.args.passes.items c.pop.new.self.items last c.requires.passes cut)

pub read_back-requires-clause-words : goal.read_back-requires-clause-words
read_back-requires-clause-words c = let a = c.args.self.sized in let s = c.args.self.spared in let n = c.close_with-closed.ensures.counts in (λ k l. omega (arith, a, s, n, l), c.close_with-closed.ensures.values.0)

pub read_back-requires-2-clause-words : goal.read_back-requires-2-clause-words
read_back-requires-2-clause-words c = let a = c.args.self.sized in let s = c.args.self.spared in let n = c.close_with-closed.ensures.counts in (λ k l. omega (arith, a, s, n, l), c.close_with-closed.ensures.values.0)

pub read_back-requires-3-clause-words : goal.read_back-requires-3-clause-words
read_back-requires-3-clause-words c = let a = c.args.self.sized in let s = c.args.self.spared in let n = c.close_with-closed.ensures.counts in let m = c.len.ensures in (λ k l. omega (arith, a, s, n, m, l), c.close_with-closed.ensures.values.0)

pub returns-clause-cells : goal.returns-clause-cells
returns-clause-cells c =
    let s = c.args.self.spared in let a = c.read_back.ensures.length in let b = c.read_back-2.ensures.length in
    same_list c.read_back-2.new.into c.read_back.new.into (omega (arith, s, a, b)) (λ k l. c.read_back-2.ensures.words k (omega (arith, b, l)) ∙ sym (c.read_back.ensures.words k (omega (arith, s, a, b, l))))

pub invariant_of-board : goal.invariant_of-board
invariant_of-board c = let b = c.args.self in let last = c.in-Some.last in let p = c.last.inside in
    let cut : c.args.passes.items ≡ c.pop.new.self.items ++ last ∷ [] = search rules in
    let is = gathered b c.args.passes.items c.pop.new.self.items last c.requires.passes cut in
    let words = slots_items c.close_with-closed.result.words in
    let shut = closed_by b p last c.last.view_is c.last.invariant.0 is c.glue.new.seat.id c.glue.new.seat.me c.glue.ensures.2 words (slots_items c.close_with-closed.result.slots) c.close_with-closed.ensures.values.2 in
    let s = b.spared in let long = c.read_back.ensures.length in let fin = c.read_back-3.ensures.length in let n = c.len.ensures in
    record {
      outcome = outcome_at b.run words c.read_back.new.into c.read_back-3.new.into c.outcome-entered.result.0 c.outcome-entered.result.1 c.len-2.result c.len-3.result c.len-2.ensures c.len-3.ensures shut (long ∙ s.0)
          (λ k l. c.read_back.ensures.words k (omega (arith, long, l)) ∙ ap (λ (i : ℕ). get_or words i 0) (let e : 1 + 1 * k ≡ 1 + k = omega arith in e))
          (fin ∙ s.2) b.sized.2 (λ t l. c.read_back-3.ensures.words t (omega (arith, s, fin, l)) ∙ ap (λ (i : ℕ). get_or words (2 + i + 4 * t) 0) n)
          c.outcome-entered.ensures.within c.outcome-entered.ensures.earlier c.outcome-entered.ensures.last c.outcome-entered.ensures.most c.outcome-entered.ensures.whole;
    }

pub total-requires : goal.total-requires
total-requires c = let b = c.args.self in let last = c.in-Some.last in
    let cut : c.args.passes.items ≡ c.pop.new.self.items ++ last ∷ [] = search rules in
    let words = slots_items c.close_with-closed.result.words in
    let shut = closed_by b c.last.inside last c.last.view_is c.last.invariant.0 (gathered b c.args.passes.items c.pop.new.self.items last c.requires.passes cut) c.glue.new.seat.id c.glue.new.seat.me c.glue.ensures.2 words (slots_items c.close_with-closed.result.slots) c.close_with-closed.ensures.values.2 in
    let s = b.spared in let fin = c.read_back-3.ensures.length in let n = c.len.ensures in
    subst (λ (l : List ℕ). sum l ≤ 33554432) (sym c.as_slice.ensures)
    (finished_few b.run words c.read_back-3.new.into shut (fin ∙ s.2) b.sized.2 (λ t l. c.read_back-3.ensures.words t (omega (arith, s, fin, l)) ∙ ap (λ (i : ℕ). get_or words (2 + i + 4 * t) 0) n))
