-- The lowering of the bounds of ALLOCATE, one after another.
use Rattle.std.proofs.Common.{◌≡◌, refl, List, [], ◌∷◌, ◌++◌}
use Rattle.ws_tree.specs.declared.stmt.Bound.{Bound}
use Rattle.hlfir_ops.specs.declared.op.ValueId.{ValueId}
use Rattle.hlfir_ops.specs.Built.{Built}
use Rattle.lower_values.specs.declared.names.Names.{Names}
use Rattle.lower_values.specs.Lowerings.{done, ◌>>=◌, Appends}
use Rattle.lower_values.proofs.Appended.{appends-next, appends-map}
use Rattle.lower_assign.specs.Statements.{bounds_of, all_bounds}

pub bounds-none : all_bounds [] ≡ done []
unfolding all_bounds
bounds-none = refl

pub bounds-more : (names : Names) (b : Bound) (bs : List Bound) {old mid : Built} {vs : List ValueId} → Appends names (bounds_of b) old mid vs → (new : Built) (ws : List ValueId) → Appends names (all_bounds bs) mid new ws → Appends names (all_bounds (b ∷ bs)) old new (vs ++ ws)
unfolding all_bounds
bounds-more names b bs {old} {mid} {vs} first new ws rest =
    appends-next names (bounds_of b) (λ us. all_bounds bs >>= (λ ws. done (us ++ ws))) old mid new vs (vs ++ ws) first (appends-map names (all_bounds bs) (λ ws. vs ++ ws) mid new ws rest)
