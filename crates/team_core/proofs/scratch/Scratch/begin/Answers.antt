use Rattle.std.proofs.Common.{◌≡◌, ℕ, suc, ◌+◌, map, refl, subst, arith}
use Rattle.team_core.specs.Scratches.{openings, in_round}
use Rattle.team_core.proofs.Scratches.{fresh_cells}
use Rattle.team_core.proofs.scratch.Scratch.begin.Goals as goal

pub returns-clause-fresh : goal.returns-clause-fresh
returns-clause-fresh c = record {
  cells_are =
      let e : suc c.make_room.new.self.round ≡ c.make_room.new.self.round + 1 = omega arith in
      subst (λ (n : ℕ). map (in_round n) c.make_room.new.self.cells ≡ openings c.make_room.new.self.cells) e (fresh_cells c.make_room.new.self.cells c.make_room.new.self.round c.make_room.ensures.rounds);
  none_seen = refl;
  wanted_is = refl;
  none_found = refl;
}
