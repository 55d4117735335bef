use Rattle.part_laws.proofs.Joined.{parts-stand, expressions-stand, left-parts}
use Rattle.part_laws.proofs.laws.whole_expressions_stand.Goals as goal

pub returns-clause-designators : goal.returns-clause-designators
returns-clause-designators c = parts-stand

pub returns-clause-expressions : goal.returns-clause-expressions
returns-clause-expressions c = expressions-stand

pub returns-clause-left_sides : goal.returns-clause-left_sides
returns-clause-left_sides c = λ k vectors base s w small n env g agrees x d is named stands subs many sound clear. left-parts vectors base s w small n env g agrees x d is named stands subs many sound clear
