use Rattle.std.proofs.Common.{List, get_or, ap, ◌∙◌, map}
use Rattle.team_core.specs.declared.scratch.ScratchCell.{ScratchCell}
use Rattle.team_core.specs.Scratches.{untouched, openings, in_round}
use Rattle.team_core.proofs.Scratches.{stored_seen, stored_openings}
use Rattle.team_core.proofs.scratch.Scratch.store.Goals as goal

pub returns-then-cell-len-clause-seen : goal.returns-then-cell-len-clause-seen
returns-then-cell-len-clause-seen c =
    let opening = (get_or c.as_slice.result.now c.args.cell untouched).opening in
    ap (λ (l : List ScratchCell). map (in_round c.args.self.now.round) l) c.set.ensures ∙ stored_seen c.args.self.now.round c.args.cell c.args.value opening c.args.self.now.cells

pub returns-then-cell-len-clause-opening : goal.returns-then-cell-len-clause-opening
returns-then-cell-len-clause-opening c =
    let opening = (get_or c.as_slice.result.now c.args.cell untouched).opening in
    ap openings c.set.ensures ∙ stored_openings c.args.self.now.round c.args.cell c.args.value opening c.args.self.now.cells (ap (λ (l : List ScratchCell). (get_or l c.args.cell untouched).opening) c.as_slice.ensures)
