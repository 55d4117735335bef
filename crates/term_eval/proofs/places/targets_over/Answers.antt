use Rattle.ws_space.specs.Values.{state_of}
use Rattle.term_eval.proofs.Variables.{few-elements, some_places, no_places}
use Rattle.term_eval.proofs.places.targets_over.Goals as goal

pub places_at-requires-clause-array : goal.places_at-requires-clause-array
places_at-requires-clause-array c = few-elements c.args.vars.now c.args.name.now _ c.requires.vars c.in-Ok.ensures

pub returns-in-Ok : goal.returns-in-Ok
returns-in-Ok c = some_places (state_of c.args.vars.now c.args.name.now) c.args.places.now c.args.columns.now c.requires.columns _ c.places_at.result c.in-Ok.ensures c.places_at.ensures

pub returns-in-Err : goal.returns-in-Err
returns-in-Err c = no_places (state_of c.args.vars.now c.args.name.now) c.args.places.now c.args.columns.now c.requires.columns c.in-Err.fault c.fails.result c.in-Err.ensures c.fails.ensures
