use Rattle.std.proofs.Common.{◌≡◌, drop, ◌+ℤ◌}
use Rattle.std.specs.Int.{w64, int_wrap}
use Rattle.phase_ops.specs.Phases.{Cells, source, terms}
use Rattle.act_eval.proofs.ops.address_at.Given as goal

abbrev pub invariant-loop-at : goal.invariant-loop-at
invariant-loop-at g l =
    let m : Cells = (g.S.Site.view l.site l.fn.hand).cells in record {
      belongs : g.S.Site.belongs l.site l.hand;
      same : g.S.Site.view l.site l.hand ≡ g.S.Site.view l.site l.fn.hand;
      terms_are : l.terms ≡ l.place.terms;
      sum : int_wrap w64 (l.sum +ℤ terms m l.registers (drop l.at l.place.terms)) ≡ int_wrap w64 (source m l.place.base +ℤ terms m l.registers l.place.terms);
    }
