use Rattle.std.proofs.Common.{◌≡◌, ap, sym, ◌∙◌, slice_index}
use Rattle.phase_ops.specs.Phases.{natural}
use Rattle.phase_ops.specs.Course.{memory_after}
use Rattle.phase_board.specs.Rule.{course_of}
use Rattle.phase_board.proofs.Counts.{looked_start, in_source, cell_there, value_is, value_low, value_high}
use Rattle.phase_board.proofs.board.Board.number.Goals as goal

pub look-requires-clause-cell : goal.look-requires-clause-cell
look-requires-clause-cell c = cell_there c.args.self.now.run c.args.pass.now.phase c.requires.few c.args.source c.in-Cell.cell c.in-Cell.is c.requires.count

module _ (c : goal.After-look) where
  found_is : c.look.result ≡ slice_index (memory_after (course_of c.args.self.now.run) c.args.pass.now.phase) c.in-Cell.cell
  found_is =
      let r = c.args.self.now.run in let p = c.args.pass.now in
      looked_start r p.member p.phase p.state p.full c.in-Cell.cell c.look.result c.requires.start
      (c.requires.parameter c.in-Cell.cell (in_source r p.phase c.requires.few c.args.source c.in-Cell.cell c.in-Cell.is c.requires.count)) c.look.ensures.value

pub counted-requires-clause-low : goal.counted-requires-clause-low
counted-requires-clause-low c = value_low c.args.self.now.run c.args.pass.now.phase c.requires.few c.args.source c.in-Cell.cell c.in-Cell.is c.requires.count c.look.result (found_is c)

pub counted-requires-clause-high : goal.counted-requires-clause-high
counted-requires-clause-high c = value_high c.args.self.now.run c.args.pass.now.phase c.requires.few c.args.source c.in-Cell.cell c.in-Cell.is c.requires.count c.look.result (found_is c)

pub returns-in-Cell-clause-value : goal.returns-in-Cell-clause-value
returns-in-Cell-clause-value c =
    let r = c.args.self.now.run in let p = c.args.pass.now in
    let found = looked_start r p.member p.phase p.state p.full c.in-Cell.cell c.look.result c.requires.start
    (c.requires.parameter c.in-Cell.cell (in_source r p.phase c.requires.few c.args.source c.in-Cell.cell c.in-Cell.is c.requires.count)) c.look.ensures.value in
    c.counted.ensures ∙ ap natural (sym (value_is r p.phase c.requires.few c.args.source c.in-Cell.cell c.in-Cell.is c.requires.count c.look.result found))
