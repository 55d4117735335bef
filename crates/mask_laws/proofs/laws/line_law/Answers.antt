use Rattle.std.proofs.Common.{[]}
use Rattle.mask_laws.proofs.Layers.{lines_are}
use Rattle.mask_laws.proofs.laws.line_law.Goals as goal

pub returns : goal.returns
returns x = λ layers line last o l b count. lines_are 0 [] layers line last o
