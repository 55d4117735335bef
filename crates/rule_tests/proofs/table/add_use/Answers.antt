use Rattle.std.proofs.Common.{arith}
use Rattle.rule_tests.proofs.Used.{adds_one, adds_past}
use Rattle.rule_tests.proofs.table.add_use.Goals as goal
use Rattle.rule_tests.proofs.table.add_use.Goals.{else-n-uses-via-then-n-uses+else-uses-n-lt2, else-n-uses-via-else-n-uses}

pub returns-then-uses-n-lt2 : goal.returns-then-uses-n-lt2
returns-then-uses-n-lt2 c = adds_one c.args.uses.now c.args.v.number c.if-n-uses.true

pub returns-else-n-uses : goal.returns-else-n-uses
returns-else-n-uses c = elim c.else-n-uses.branch [
  | else-n-uses-via-then-n-uses+else-uses-n-lt2 w ↦ adds_past c.args.uses.now c.args.v.number (λ lt. w.if-uses-n-lt2.false)
  | else-n-uses-via-else-n-uses w ↦ adds_past c.args.uses.now c.args.v.number (λ lt. absurd (omega (arith, w.if-n-uses.false)))
]
