-- What leaves the variables that its source leaves, and what goes on from there.
use Rattle.std.proofs.Common.{refl, sym, ap, subst, List, Result, Ok, Err}
use Rattle.ws_base.specs.declared.fault.Fault.{Fault}
use Rattle.ws_base.specs.Outcomes.{◌>>=◌}
use Rattle.ws_space.specs.declared.state.Var.{Var}
use Rattle.array_meaning.specs.declared.world.World.{World}
use Rattle.lower_values.specs.declared.names.Names.{Names}
use Rattle.world_laws.specs.Worlds.{FitsNames}
use Rattle.world_laws.specs.Meanings.{LeavesWorld}

pub leaves_then : (names : Names) (r : Result (List Var) Fault) (q : Result World Fault) (f : List Var → Result (List Var) Fault) (g : World → Result World Fault) → LeavesWorld names r q →
    ((w : World) → FitsNames names w → LeavesWorld names (f w.vars) (g w)) → LeavesWorld names (r >>= f) (q >>= g)
leaves_then names r (Ok w) f g h k = subst (λ p. LeavesWorld names (p >>= f) (g w)) (sym h.0) (k w h.1)
leaves_then names r (Err e) f g h k = ap (λ p. p >>= f) h

pub leaves_after : {A : Type 0} (names : Names) (p : Result A Fault) (f : A → Result (List Var) Fault) (g : A → Result World Fault) → ((a : A) → LeavesWorld names (f a) (g a)) → LeavesWorld names (p >>= f) (p >>= g)
leaves_after names (Ok a) f g h = h a
leaves_after names (Err e) f g h = refl
