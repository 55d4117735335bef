use Rattle.std.proofs.Common.{refl, sym, ap}
use Rattle.lower_values.specs.References.{load_of, loaded}
use Rattle.lower_values.proofs.Appended.{appends-by, appends-done, if-by}
use Rattle.lower_values.proofs.Named.{load_of-other}
use Rattle.lower_values.proofs.references.loaded.Goals as goal

pub returns-in-Place : goal.returns-in-Place
unfolding loaded
returns-in-Place c = if-by c.give_of.result c.args.build.now c.give_of.new.build (ap (λ k. load_of k c.args.place) (sym c.in-Place.is)) c.give_of.ensures

pub returns-in_default : goal.returns-in_default
unfolding loaded
returns-in_default c = λ names. appends-by (sym (load_of-other c.args.place.kind c.args.place c.in_default.not-Place)) refl (appends-done names c.args.build.now c.args.place)
