-- Phases that are of a given outline. What their counts hold is said by the positions that the outline names.
use Rattle.std.specs.Prelude.{◌≡◌, List, [], ◌∷◌}
use Rattle.phase_ops.specs.declared.phase.Phase.{Phase}
use Rattle.phase_ops.specs.declared.phase.Phase.TheVariants.{Set, Loop, Part, Join}
use Rattle.phase_ops.specs.declared.phase.Source.{Source}
use Rattle.phase_plan.specs.Outlines.{Outline, Over, set, loop, part, join}

-- where this says of a count that it is the number of these positions
abbrev pub Fits : (Source → Over → Type 0) → Phase → Outline → Type 0
Fits Counts (Set line l acts) (set line' l') = (line ≡ line') × (l ≡ l')
Fits Counts (Loop line l count acts) (loop line' l' over) = (line ≡ line') × (l ≡ l') × Counts count over
Fits Counts (Part line count act kind temp first) (part line' kind' temp' over) = (line ≡ line') × (kind ≡ kind') × (temp ≡ temp') × Counts count over
Fits Counts (Join line count kind temp first slot) (join line' kind' temp' over) = (line ≡ line') × (kind ≡ kind') × (temp ≡ temp') × Counts count over
Fits _ _ _ = ⊥

abbrev pub AllFit : (Source → Over → Type 0) → List Phase → List Outline → Type 0
AllFit Counts [] [] = Unit {0}
AllFit Counts (p ∷ ps) (o ∷ os) = Fits Counts p o × AllFit Counts ps os
AllFit _ _ _ = ⊥
