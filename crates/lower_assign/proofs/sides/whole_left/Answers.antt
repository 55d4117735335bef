use Rattle.std.proofs.Common.{refl, sym, ap}
use Rattle.lower_assign.specs.Statements.{whole_left}
use Rattle.lower_values.proofs.Appended.{appends-by, appends-done, if-by}
use Rattle.lower_assign.proofs.sides.whole_left.Goals as goal

pub returns-then-by_box : goal.returns-then-by_box
returns-then-by_box c = if-by c.boxed.result c.args.build.now c.boxed.new.build (ap (λ b. whole_left b c.args.declare) (sym c.if-by_box.true)) c.boxed.ensures

pub returns-else-by_box : goal.returns-else-by_box
returns-else-by_box c = λ names. appends-by (ap (λ b. whole_left b c.args.declare) (sym c.if-by_box.false)) refl (appends-done names c.args.build.now c.args.declare)
