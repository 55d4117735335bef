use Rattle.std.proofs.Common.{◌≡◌, ◌≤◌, length, drop}
use Rattle.array_meaning.specs.Program as program
use Rattle.term_eval.specs.Limits.{IsWorld}
use Rattle.slow_eval.proofs.input.read_items.Given as goal

abbrev pub invariant-each : goal.invariant-each
invariant-each l = record {
  same : program.read_items l.input l.fn.world 0 l.at l.items ≡ program.read_items l.input l.world l.taken l.place (drop l.e-index l.items);
  within : l.place ≤ length l.input;
  kept : IsWorld l.world;
}
