-- Statements and declarations whose numbers an evaluation can take. Those of every accepted program are.
use Rattle.std.specs.Prelude.{◌≡◌, ◌≤◌, false, List, [], ◌∷◌, Option, Some, None, length}
use Rattle.std.specs.List.{All}
use Rattle.ws_space.specs.declared.shape.Dim.{Dim}
use Rattle.ws_space.specs.declared.shape.TheConstants.{ELEMENT_LIMIT}
use Rattle.ws_space.specs.Shapes.{extents_of, size}
use Rattle.ws_tree.specs.declared.expr.Expr.{Expr}
use Rattle.ws_tree.specs.declared.stmt.Bound.{Bound}
use Rattle.ws_tree.specs.declared.stmt.Bound.TheVariants as bound
use Rattle.ws_tree.specs.declared.stmt.Decl.{Decl}
use Rattle.ws_tree.specs.declared.stmt.Index.{Index}
use Rattle.ws_tree.specs.declared.stmt.Part.{Part}
use Rattle.ws_tree.specs.declared.stmt.Stmt.{Stmt}
use Rattle.ws_tree.specs.declared.stmt.Body.{Body}
use Rattle.ws_tree.specs.declared.stmt.Body.TheVariants.{Assign, Masked', Forall', Loop', Allocate, Read, Shared'}
use Rattle.ws_tree.specs.declared.stmt.Else.{Else'}
use Rattle.ws_tree.specs.Trees.{Stmts, end_stmts, more_stmts, Elses, end_elses, more_elses}
use Rattle.array_meaning.specs.declared.world.Constant.{Constant}
use Rattle.array_meaning.specs.Program.{declared_dims, declaring}
use Rattle.term_eval.specs.Limits.{IsSmall}

abbrev pub IsSmallOption : Option Expr → Type 0
IsSmallOption None = Unit {0}
IsSmallOption (Some e) = IsSmall e

abbrev pub IsSmallIndex : Index → Type 0
IsSmallIndex i = IsSmall i.l × IsSmall i.u × IsSmallOption i.s

abbrev pub IsSmallBound : Bound → Type 0
IsSmallBound (bound.Upper e) = IsSmall e
IsSmallBound (bound.Both l u) = IsSmall l × IsSmall u
IsSmallBound bound.Deferred = Unit {0}

-- an array of ALLOCATE has at most three dimensions
abbrev pub IsSmallPart : Part → Type 0
IsSmallPart p = (length p.shape ≤ 3) × All IsSmallBound p.shape

abbrev mutual
  pub IsSmallBody : Body → Type 0
  IsSmallBody (Assign left right) = IsSmall left × IsSmall right
  IsSmallBody (Masked' test _ block _ rest) = IsSmall test × AreSmallStmts block × AreSmallElses rest
  IsSmallBody (Forall' indexes test _ block) = All IsSmallIndex indexes × IsSmallOption test × AreSmallStmts block
  IsSmallBody (Loop' x l u s _ block) = IsSmall l × IsSmall u × IsSmallOption s × AreSmallStmts block
  IsSmallBody (Allocate parts) = All IsSmallPart parts
  IsSmallBody (Read items) = All IsSmall items
  IsSmallBody (Shared' _ block) = AreSmallStmts block
  IsSmallBody _ = Unit {0}

  pub AreSmallStmts : {m : _} → Stmts m → Type 0
  AreSmallStmts end_stmts = Unit {0}
  AreSmallStmts (more_stmts line body rest) = IsSmallBody body × AreSmallStmts rest

  pub AreSmallElses : {m : _} → Elses m → Type 0
  AreSmallElses end_elses = Unit {0}
  AreSmallElses (more_elses (Else' line test _ block) rest) = IsSmallOption test × AreSmallStmts block × AreSmallElses rest

-- the same over a list
abbrev pub IsSmallStmt : Stmt → Type 0
IsSmallStmt s = IsSmallBody s.body

-- ---- declarations, where these constants are known

-- the dimensions that a variable may have
pub record AreDims (ds : List Dim) : Type 0 where
  pub narrow : length ds ≤ 3
  pub few : size (extents_of ds) ≤ ELEMENT_LIMIT

pub record IsSmallDecl (cs : List Constant) (d : Decl) : Type 0 where
  pub constant : IsSmallOption d.constant
  pub rank : length d.shape ≤ 3
  pub bounds : All IsSmallBound d.shape
  pub array : d.allocatable ≡ false → AreDims (declared_dims cs d.shape)

abbrev pub AreSmallDecls : List Constant → List Decl → Type 0
AreSmallDecls cs [] = Unit {0}
AreSmallDecls cs (d ∷ ds) = IsSmallDecl cs d × AreSmallDecls (declaring d.constant cs d).0 ds
