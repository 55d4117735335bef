-- What keeps each number of an evaluation within its type. Every accepted program and every state that it reaches meet it.
use Rattle.std.specs.Prelude.{◌≡◌, ◌≤◌, ◌<◌, true, length, ℤ}
use Rattle.std.specs.List.{All}
use Rattle.ws_base.specs.Numbers.{in_range, default_half}
use Rattle.ws_space.specs.declared.shape.TheConstants.{ELEMENT_LIMIT}
use Rattle.ws_space.specs.declared.state.ArrayValue.{ArrayValue}
use Rattle.ws_space.specs.declared.state.VarState.{VarState}
use Rattle.ws_space.specs.declared.state.VarState.TheVariants as state
use Rattle.ws_space.specs.declared.state.Var.{Var}
use Rattle.ws_space.specs.Shapes.{Extents, size}
use Rattle.ws_space.specs.WellFormed.{elements}
use Rattle.ws_tree.specs.declared.expr.Expr.{Expr}
use Rattle.ws_tree.specs.declared.expr.Expr.TheVariants.{Number, Part', Call', Vector'}
use Rattle.ws_tree.specs.declared.expr.Sub.{Sub}
use Rattle.ws_tree.specs.declared.expr.Sub.TheVariants as sub
use Rattle.ws_tree.specs.Trees.{Exprs, end_exprs, more_exprs, Subs, end_subs, more_subs, Given, absent, given, paren, unary, binary}
use Rattle.ws_tree.specs.Grammatical.{count}
use Rattle.array_meaning.specs.declared.world.World.{World}
use Rattle.array_meaning.specs.declared.term.Term.{Term}
use Rattle.array_meaning.specs.declared.term.Term.TheVariants.{Scalar, Listed, Section', Call' as CallOf'}
use Rattle.array_meaning.specs.declared.term.Pick.{Pick}
use Rattle.array_meaning.specs.declared.term.Pick.TheVariants as pick
use Rattle.array_meaning.specs.declared.term.Pick.TheBlock.{Row_of-Term as Terms, end_of-Term as end_terms, more_of-Term as more_terms, Row_of-Pick as Picks, end_of-Pick as end_picks, more_of-Pick as more_picks}
use Rattle.array_meaning.specs.Terms.{unary_term, binary_term}
use Rattle.array_meaning.specs.Stage2.{extents}

-- a default integer, as the values of LOGICAL are too
abbrev pub IsInteger : ℤ → Type 0
IsInteger z = in_range default_half z ≡ true

-- ---- expressions

abbrev mutual
  -- Each number is a default integer, and a constructor has at most 256 items.
  pub IsSmall : Expr → Type 0
  IsSmall (Number n) = n < 2147483648
  IsSmall (Part' x _ subs) = AreSmallSubs subs
  IsSmall (Call' word _ es) = AreSmall es
  IsSmall (Vector' _ es) = (count es ≤ 256) × AreSmall es
  IsSmall (paren e) = IsSmall e
  IsSmall (unary op e) = IsSmall e
  IsSmall (binary op e f) = IsSmall e × IsSmall f
  IsSmall _ = Unit {0}

  pub AreSmall : {m : _} → Exprs m → Type 0
  AreSmall end_exprs = Unit {0}
  AreSmall (more_exprs e es) = IsSmall e × AreSmall es

  pub AreSmallSubs : {m : _} → Subs m → Type 0
  AreSmallSubs end_subs = Unit {0}
  AreSmallSubs (more_subs s ss) = IsSmallSub s × AreSmallSubs ss

  pub IsSmallSub : Sub → Type 0
  IsSmallSub (sub.One e) = IsSmall e
  IsSmallSub (sub.Range' l u s) = IsSmallPart l × IsSmallPart u × IsSmallPart s

  pub IsSmallPart : Given → Type 0
  IsSmallPart absent = Unit {0}
  IsSmallPart (given e) = IsSmall e

-- ---- what an expression reads

-- no more elements than an array may have
abbrev pub IsFew : Extents → Type 0
IsFew e = size e ≤ ELEMENT_LIMIT

pub record IsSmallArray (a : ArrayValue) : Type 0 where
  pub few : elements a.shape ≤ ELEMENT_LIMIT
  pub values : All IsInteger a.values

-- the limits of what a variable holds, whatever its type
abbrev pub IsSmallState : VarState → Type 0
IsSmallState (state.Scalar z) = IsInteger z
IsSmallState (state.Array a) = IsSmallArray a
IsSmallState (state.Unallocated r) = Unit {0}

abbrev pub IsVar : Var → Type 0
IsVar v = IsSmallState v.state

pub record IsWorld (w : World) : Type 0 where
  pub vars : All IsVar w.vars
  pub constants : All (λ c. IsInteger c.value) w.constants

-- ---- terms

abbrev mutual
  -- Each value is a default integer, and no array, section or list has too many elements.
  pub IsSmallTerm : Term → Type 0
  IsSmallTerm (Scalar v) = IsInteger v
  IsSmallTerm (Listed xs) = (length xs ≤ ELEMENT_LIMIT) × All IsInteger xs
  IsSmallTerm (Section' a _ ps) = IsSmallArray a × IsFew (extents ps) × AreSmallPicks ps
  IsSmallTerm (unary_term op t) = IsSmallTerm t
  IsSmallTerm (binary_term op t u) = IsSmallTerm t × IsSmallTerm u
  IsSmallTerm (CallOf' word _ ts) = AreSmallTerms ts

  pub AreSmallTerms : {m : _} → Terms m → Type 0
  AreSmallTerms end_terms = Unit {0}
  AreSmallTerms (more_terms t ts) = IsSmallTerm t × AreSmallTerms ts

  pub AreSmallPicks : {m : _} → Picks m → Type 0
  AreSmallPicks end_picks = Unit {0}
  AreSmallPicks (more_picks p ps) = IsSmallPick p × AreSmallPicks ps

  pub IsSmallPick : Pick → Type 0
  IsSmallPick (pick.Vector t) = IsSmallTerm t
  IsSmallPick _ = Unit {0}
