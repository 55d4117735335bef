use Rattle.std.proofs.Common.{refl, sym, ap}
use Rattle.lower_values.specs.References.{box_of, boxed}
use Rattle.lower_values.proofs.Appended.{appends-by, appends-done, if-by}
use Rattle.lower_values.proofs.Named.{box_of-other}
use Rattle.lower_values.proofs.references.boxed.Goals as goal

pub returns-in-Allocatable : goal.returns-in-Allocatable
unfolding boxed
returns-in-Allocatable c = if-by c.give_of.result c.args.build.now c.give_of.new.build (ap (λ k. box_of k c.args.declare) (sym c.in-Allocatable.is)) c.give_of.ensures

pub returns-in_default : goal.returns-in_default
unfolding boxed
returns-in_default c = λ names. appends-by (sym (box_of-other c.args.declare.kind c.args.declare c.in_default.not-Allocatable)) refl (appends-done names c.args.build.now c.args.declare)
