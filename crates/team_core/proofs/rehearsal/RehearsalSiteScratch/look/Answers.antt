use Rattle.team_core.proofs.rehearsal.RehearsalSiteScratch.look.Goals as goal

pub value-requires : goal.value-requires
value-requires g c = c.requires.belongs.there c.args.cell c.requires.may.0
