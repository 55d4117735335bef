-- Scopes inside ops.
use Rattle.std.proofs.Common.{◌≡◌, Bool, not, ◌&&◌}
use Rattle.ws_sema.specs.declared.within.Within.{Within}
use Rattle.ws_sema.specs.Statements.{is_inside, is_masked}
use Rattle.lower_values.specs.Scopes.{Scope}

-- the scope of a statement, with a where or forall around it or none
pub record IsWithin (w : Within) (s : Scope) (m : Bool) : Type 0 where
  pub around : m ≡ is_masked w
  pub masked : s.masked ≡ (is_masked w && not (is_inside w))
