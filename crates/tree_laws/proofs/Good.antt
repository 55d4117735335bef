-- What is shown of readings, and of what statements do.
use Rattle.std.specs.Prelude.{◌≡◌, ◌≤◌, ◌⊎◌, ⊤, ℕ, true, false, Some, None, All}
use Rattle.ws_tree.specs.declared.expr.Expr.{Expr}
use Rattle.ws_tree.specs.declared.expr.Expr.TheVariants.{TooDeep}
use Rattle.ws_tree.specs.declared.stmt.Body.{Body}
use Rattle.ws_tree.specs.declared.stmt.Body.TheVariants as body
use Rattle.ws_tree.specs.Grammatical.{depth, IsExpr, IsSide, IsOptional, IsHeader, IsDecl, IsBody, Within, anywhere, in_where, in_forall}
use Rattle.ws_expr.specs.declared.reading.Reading.{Reading}
use Rattle.ws_stmt.specs.declared.role.Block.{Block}
use Rattle.ws_stmt.specs.declared.role.Block.TheVariants as block
use Rattle.ws_parse.specs.declared.place.Place.{Place}
use Rattle.ws_parse.specs.declared.place.Place.TheVariants as place
use Rattle.ws_parse.specs.declared.place.Opening.{Opening}
use Rattle.ws_parse.specs.declared.place.Opening.TheVariants as opening
use Rattle.ws_parse.specs.declared.place.Move.{Move}
use Rattle.ws_parse.specs.declared.place.Move.TheVariants as move
use Rattle.ws_parse.specs.Turns.{goes_on}

-- ---- expressions

-- one that is too deep, or a tree of its depth, which the grammar can give where no part is left out
abbrev pub IsGoodReading : Reading Expr → Type 0
IsGoodReading e = ((e.depth ≡ 65) × (e.tree ≡ TooDeep) × (e.odd ≡ false)) ⊎ ((e.depth ≤ 64) × (depth e.tree ≡ e.depth) × (e.odd ≡ false → IsExpr e.tree))

-- ---- what a statement does

-- what stands for a statement that is not read
abbrev pub IsLeft : Body → Type 0
IsLeft b = (b ≡ body.Unsupported) ⊎ (b ≡ body.TooDeep)

abbrev pub within_of : Place → Within
within_of (place.In block.Where s l) = in_where
within_of (place.In block.Forall s l) = in_forall
within_of p = anywhere

-- what begins a block, in a place where it may stand
abbrev pub IsGoodOpening : Within → Opening → Type 0
IsGoodOpening k (opening.Where m) = IsSide m
IsGoodOpening k (opening.Lost b) = IsLeft b
IsGoodOpening anywhere (opening.Forall is m) = IsHeader is m
IsGoodOpening in_forall (opening.Forall is m) = IsHeader is m
IsGoodOpening anywhere (opening.Do i) = IsSide i.l × IsSide i.u × IsOptional i.s
IsGoodOpening anywhere opening.Region = ⊤
IsGoodOpening anywhere opening.Parallel = ⊤
IsGoodOpening _ _ = ⊥

-- the opening is one of a block of this sort
abbrev pub Belongs : Block → Opening → Type 0
Belongs b (opening.Lost x) = ⊤
Belongs block.Where (opening.Where m) = ⊤
Belongs block.Forall (opening.Forall is m) = ⊤
Belongs block.Do (opening.Do i) = ⊤
Belongs block.ParallelWorkshare opening.Region = ⊤
Belongs block.Workshare opening.Region = ⊤
Belongs block.Parallel opening.Parallel = ⊤
Belongs _ _ = ⊥

-- ELSEWHERE may follow
abbrev pub GoesOn : Place → Type 0
GoesOn p = goes_on p ≡ true

-- in this place, by a statement of this line
abbrev pub IsGoodMove : Place → ℕ → Move → Type 0
IsGoodMove p line (move.Idle b) = IsLeft b
IsGoodMove p line (move.Act b) = (room : ℕ) → IsBody (within_of p) room line b
IsGoodMove p line (move.Open b o) = IsGoodOpening (within_of p) o × Belongs b o
IsGoodMove p line (move.Next m odd) = GoesOn p × (odd ≡ false → IsOptional m)
IsGoodMove p line (move.Close None) = ⊤
IsGoodMove p line (move.Close (Some b)) = IsLeft b
IsGoodMove p line (move.NameUnread b) = IsLeft b
IsGoodMove p line (move.FinishUnread b) = IsLeft b
IsGoodMove p line (move.Declare ds) = All IsDecl ds
IsGoodMove p line m = ⊤
