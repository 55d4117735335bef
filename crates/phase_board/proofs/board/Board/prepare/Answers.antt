use Rattle.std.proofs.Common.{◌≡◌, ◌≤◌, ℕ, List, [], length, take, sym, ap, ◌∙◌, subst, arith, length-take-le}
use Rattle.atomic_table.specs.Table.{opening}
use Rattle.team_core.specs.Laws.{MayStart}
use Rattle.phase_board.specs.declared.plays.Run.{Run}
use Rattle.phase_board.specs.Memories.{Parts}
use Rattle.phase_board.specs.Rule.{Kept, S, base_view}
use Rattle.phase_board.proofs.Opens.{opens, start_length}
use Rattle.phase_board.proofs.board.Board.prepare.Goals as goal

pub of_words-made-requires : goal.of_words-made-requires
of_words-made-requires c =
    let run : Run = record { phases = c.args.phases; opening = c.memory.inside.cells; team = c.args.team; chunk = c.args.chunk } in
    let may : MayStart run.phases run.opening run.team run.chunk = subst (λ (m : List ℕ). MayStart c.args.phases m c.args.team c.args.chunk) (sym (ap (λ (p : Parts). p.cells) c.memory.view_is)) c.requires.may in
    subst (λ (z : Run). Kept z (opening {S = S} c.as_slice-2.result.now [] (base_view z))) (sym c.of-about.ensures) (opens run c.as_slice-2.result.now may (c.as_slice-2.ensures.value ∙ c.in-Ok.ensures.words))

pub invariant_of-board : goal.invariant_of-board
invariant_of-board c =
    let run : Run = record { phases = c.args.phases; opening = c.memory.inside.cells; team = c.args.team; chunk = c.args.chunk } in
    let e = c.in-Ok-made.ensures in
    let v = c.memory.view_is in
    let long = start_length run c.as_slice-2.result.now (c.as_slice-2.ensures.value ∙ c.in-Ok.ensures.words) in
    let words = start_length run c.in-Ok.room.words.items c.in-Ok.ensures.words in
    let few : length run.opening ≤ length c.in-Ok.room.words.items = omega (arith, words) in
    let cut : length c.from_vec.result ≡ length run.opening = ap length (c.from_vec.ensures ∙ c.truncate.ensures.items) ∙ ap (λ (n : ℕ). length (take n c.in-Ok.room.words.items)) c.len.ensures ∙ length-take-le (length run.opening) c.in-Ok.room.words.items few in
    let regions = ap (λ (p : Parts). p.regions) v in let units = ap (λ (p : Parts). p.units) v in
    let a = c.requires.counts.0 in let b = c.requires.counts.1 in
    record {
      keyed = ap (λ z. z.value) e.5 ∙ c.of-about.ensures;
      slotless = e.1;
      sized = (e.0 ∙ long, c.memory.invariant.0, c.requires.may.few, c.requires.may.someone, c.requires.may.team_small);
      spared = (cut, c.in-Ok.ensures.sizes.0, c.in-Ok.ensures.sizes.1, c.memory.invariant.1, omega (arith, regions, a), omega (arith, units, b));
    }
