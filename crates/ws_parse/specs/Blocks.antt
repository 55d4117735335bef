-- Blocks and the unit over statements, and the first statement that is not of the grammar in its place.
use Rattle.std.specs.Prelude.{◌≡◌, ◌||◌, ◌⊎◌, ◌+◌, ℕ, suc, Bool, true, false, Option, Some, None, List, [], ◌∷◌, ◌++◌, codes, bytes_eq, if◌then◌else◌, nat_lt, length, ⊤}
use Rattle.ws_lex.specs.declared.token.Token.{Token}
use Rattle.ws_lex.specs.declared.token.TokenKind.{TokenKind}
use Rattle.ws_lex.specs.declared.token.TokenKind.TheVariants.{End}
use Rattle.ws_tree.specs.declared.expr.Expr.{Expr}
use Rattle.ws_tree.specs.declared.expr.Expr.TheVariants.{TooDeep}
use Rattle.ws_tree.specs.declared.stmt.Body.{Body}
use Rattle.ws_tree.specs.declared.stmt.Body.TheVariants as body
use Rattle.ws_tree.specs.declared.stmt.Decl.{Decl}
use Rattle.ws_tree.specs.declared.stmt.Else.{Else, roll-Else}
use Rattle.ws_tree.specs.declared.stmt.Stmt.{Stmt}
use Rattle.ws_tree.specs.declared.stmt.Tree.{Tree}
use Rattle.ws_stmt.specs.declared.role.Block.{Block}
use Rattle.ws_stmt.specs.declared.role.Block.TheVariants as block
use Rattle.ws_parse.specs.declared.place.Place.{Place}
use Rattle.ws_parse.specs.declared.place.Place.TheVariants as place
use Rattle.ws_parse.specs.declared.place.Opening.{Opening}
use Rattle.ws_parse.specs.declared.place.Opening.TheVariants as opening
use Rattle.ws_parse.specs.declared.place.Move.TheVariants as move
use Rattle.ws_parse.specs.declared.place.Naming.{Naming}
use Rattle.ws_parse.specs.declared.place.Naming.TheVariants as naming
use Rattle.ws_parse.specs.declared.walk.Walked.{Walked}
use Rattle.ws_parse.specs.declared.walk.Walked.TheVariants as walked
use Rattle.ws_parse.specs.declared.walk.ParseEnd.{ParseEnd}
use Rattle.ws_parse.specs.declared.walk.ParseEnd.TheVariants as parse_end
use Rattle.ws_base.specs.declared.refusal.RefusalKind.TheVariants as kind
use Rattle.ws_parse.specs.Turns.{Moves, is_shared}

-- ---- runs: the tokens of one statement. `End` belongs to none, and one that is not ended counts.

abbrev pub begun_by : Bool → Token → List (List Token) → List (List Token)
begun_by true t runs = (t ∷ []) ∷ runs
begun_by false t [] = (t ∷ []) ∷ []
begun_by false t (r ∷ runs) = (t ∷ r) ∷ runs

abbrev pub is_end : TokenKind → Bool
is_end End = true
is_end _ = false

abbrev pub runs : List Token → List (List Token)
runs [] = []
runs (t ∷ ts) = if is_end t.what then [] else begun_by t.ends t (runs ts)

abbrev pub line_of : List Token → ℕ
line_of [] = 1
line_of (t ∷ ts) = t.line

abbrev pub stmt : ℕ → Body → Stmt
stmt line b = record { line = line; body = b }

abbrev pub no_stmts : List Stmt
no_stmts = []

abbrev pub one : ℕ → Body → List Stmt
one line b = stmt line b ∷ []

-- what stands for a closing statement
abbrev pub after : ℕ → Option Body → List Stmt
after line None = []
after line (Some b) = one line b

-- ---- blocks

abbrev pub enters : Block → Bool
enters block.ParallelWorkshare = true
enters block.Workshare = true
enters _ = false

abbrev pub inside : Place → Block → Place
inside p b = place.In b (is_shared p || enters b) false

abbrev pub is_none : Option Expr → Bool
is_none None = true
is_none (Some m) = false

-- after an ELSEWHERE: none follows one without a mask
abbrev pub beyond : Place → Option Expr → Place
beyond (place.In b s l) m = place.In b s (is_none m)
beyond p m = p

-- A mask that is left out stands as `TooDeep`, and the statement that is left out first in the block.
abbrev pub else_mask : Option Expr → Bool → Option Expr
else_mask m true = Some TooDeep
else_mask m false = m

abbrev pub else_front : ℕ → Bool → List Stmt
else_front line true = one line body.Unsupported
else_front line false = []

abbrev pub else_of : ℕ → Option Expr → List Stmt → Else
else_of line m ss = roll-Else (record { line = line; mask = m; block = ss })

-- The statements that a block stands as, with n blocks around it: a parallel construct is what it holds, and one that is left out holds nothing.
abbrev pub within : ℕ → ℕ → Body → List Stmt
within n line b = one line (if nat_lt n 64 then b else body.TooDeep)

abbrev pub built : ℕ → ℕ → Opening → List Stmt → List Else → List Stmt
built n line (opening.Do i) ss es = within n line (body.Loop i.name i.l i.u i.s ss)
built n line (opening.Where m) ss es = within n line (body.Masked m ss es)
built n line (opening.Forall is m) ss es = within n line (body.Forall is m ss)
built n line opening.Region ss es = within n line (body.Shared ss)
built n line opening.Parallel ss es = if nat_lt n 64 then ss else one line body.TooDeep
built n line (opening.Lost b) ss es = one line b

mutual
  -- a statement with n blocks around it, which stands for these in the tree, and what follows it
  pub data ReadsStmt : Place → ℕ → List (List Token) → List Stmt → List (List Token) → Type 0 where
    idle : {p : Place} {n : ℕ} {r : List Token} {rest : List (List Token)} {b : Body} → Moves p r (move.Idle b) → ReadsStmt p n (r ∷ rest) (one (line_of r) b) rest
    acts : {p : Place} {n : ℕ} {r : List Token} {rest : List (List Token)} {b : Body} → Moves p r (move.Act b) → ReadsStmt p n (r ∷ rest) (one (line_of r) b) rest
    nested : {p : Place} {n : ℕ} {r : List Token} {us rest : List (List Token)} {b : Block} {o : Opening} {ss xs : List Stmt} {es : List Else} →
        Moves p r (move.Open b o) → ReadsBlock (inside p b) (suc n) us ss es xs rest → ReadsStmt p n (r ∷ us) (built n (line_of r) o ss es ++ xs) rest

  -- {stmt} {ELSEWHERE {stmt}} and the end of the block: the statements, those after each ELSEWHERE, and what stands for the end
  pub data ReadsBlock : Place → ℕ → List (List Token) → List Stmt → List Else → List Stmt → List (List Token) → Type 0 where
    more : {p : Place} {n : ℕ} {rs us rest : List (List Token)} {xs ss ys : List Stmt} {es : List Else} →
        ReadsStmt p n rs xs us → ReadsBlock p n us ss es ys rest → ReadsBlock p n rs (xs ++ ss) es ys rest
    elsewhere : {p : Place} {n : ℕ} {r : List Token} {us rest : List (List Token)} {m : Option Expr} {odd : Bool} {ss ys : List Stmt} {es : List Else} →
        Moves p r (move.Next m odd) → ReadsBlock (beyond p m) n us ss es ys rest →
        ReadsBlock p n (r ∷ us) [] (else_of (line_of r) (else_mask m odd) (else_front (line_of r) odd ++ ss) ∷ es) ys rest
    closed : {p : Place} {n : ℕ} {r : List Token} {rest : List (List Token)} {y : Option Body} →
        Moves p r (move.Close y) → ReadsBlock p n (r ∷ rest) [] [] (after (line_of r) y) rest

-- ---- the unit

abbrev pub name_of : Naming → List ℕ
name_of (naming.Called x) = x
name_of naming.Unnamed = codes "main"
name_of naming.Unread = codes "main"

-- the name that END PROGRAM may repeat; each one fits a PROGRAM that is left out
abbrev pub fits : Naming → Option (List ℕ) → Bool
fits n None = true
fits (naming.Called x) (Some y) = bytes_eq x y
fits naming.Unread (Some y) = true
fits naming.Unnamed (Some y) = false

-- [PROGRAM name] [IMPLICIT NONE] {decl} {stmt} END [PROGRAM [name]], from a place on, and after it only what is left out
pub data ReadsUnit : Place → Naming → List (List Token) → List Decl → List Stmt → List ℕ → Type 0 where
  named : {p : Place} {n : Naming} {r : List Token} {rs : List (List Token)} {ds : List Decl} {ss : List Stmt} {x y : List ℕ} →
      Moves p r (move.Name x) → ReadsUnit place.Named (naming.Called x) rs ds ss y → ReadsUnit p n (r ∷ rs) ds ss y
  unread : {p : Place} {n : Naming} {r : List Token} {rs : List (List Token)} {ds : List Decl} {ss : List Stmt} {b : Body} {y : List ℕ} →
      Moves p r (move.NameUnread b) → ReadsUnit place.Named naming.Unread rs ds ss y → ReadsUnit p n (r ∷ rs) ds (one (line_of r) b ++ ss) y
  implied : {p : Place} {n : Naming} {r : List Token} {rs : List (List Token)} {ds : List Decl} {ss : List Stmt} {y : List ℕ} →
      Moves p r move.Implicit → ReadsUnit place.Declarations n rs ds ss y → ReadsUnit p n (r ∷ rs) ds ss y
  declared : {p : Place} {n : Naming} {r : List Token} {rs : List (List Token)} {ds es : List Decl} {ss : List Stmt} {y : List ℕ} →
      Moves p r (move.Declare ds) → ReadsUnit place.Declarations n rs es ss y → ReadsUnit p n (r ∷ rs) (ds ++ es) ss y
  left_out : {p : Place} {n : Naming} {r : List Token} {rs : List (List Token)} {ds : List Decl} {ss : List Stmt} {y : List ℕ} →
      Moves p r move.LeaveOut → ReadsUnit place.Declarations n rs ds ss y → ReadsUnit p n (r ∷ rs) ds (one (line_of r) body.Unsupported ++ ss) y
  idle : {p : Place} {n : Naming} {r : List Token} {rs : List (List Token)} {ds : List Decl} {ss : List Stmt} {b : Body} {y : List ℕ} →
      Moves p r (move.Idle b) → ReadsUnit p n rs ds ss y → ReadsUnit p n (r ∷ rs) ds (one (line_of r) b ++ ss) y
  acts : {p : Place} {n : Naming} {r : List Token} {rs : List (List Token)} {ds : List Decl} {ss : List Stmt} {b : Body} {y : List ℕ} →
      Moves p r (move.Act b) → ReadsUnit place.Statements n rs ds ss y → ReadsUnit p n (r ∷ rs) ds (one (line_of r) b ++ ss) y
  nested : {p : Place} {n : Naming} {r : List Token} {us rs : List (List Token)} {ds : List Decl} {b : Block} {o : Opening} {xs ys ss : List Stmt} {es : List Else} {y : List ℕ} →
      Moves p r (move.Open b o) → ReadsBlock (inside p b) 1 us xs es ys rs → ReadsUnit place.Statements n rs ds ss y → ReadsUnit p n (r ∷ us) ds ((built 0 (line_of r) o xs es ++ ys) ++ ss) y
  finished : {p : Place} {n : Naming} {r : List Token} {rs : List (List Token)} {ds : List Decl} {ss : List Stmt} {x : Option (List ℕ)} {y : List ℕ} →
      Moves p r (move.Finish x) → fits n x ≡ true → ReadsUnit place.After n rs ds ss y → ReadsUnit p n (r ∷ rs) ds ss y
  finished_unread : {p : Place} {n : Naming} {r : List Token} {rs : List (List Token)} {ds : List Decl} {ss : List Stmt} {b : Body} {y : List ℕ} →
      Moves p r (move.FinishUnread b) → ReadsUnit place.After n rs ds ss y → ReadsUnit p n (r ∷ rs) ds (one (line_of r) b ++ ss) y
  over : {n : Naming} → ReadsUnit place.After n [] [] [] (name_of n)

pub record IsUnit (rs : List (List Token)) (t : Tree) : Type 0 where
  pub reads : ReadsUnit place.Head naming.Unnamed rs t.decls t.body t.name

-- ---- "of the grammar in its place", without a parser's state

-- some statements can follow so that it is a unit
pub record CanGoOn (front : List (List Token)) : Type 0 where
  pub more : List (List Token)
  pub tree : Tree
  pub unit : IsUnit (front ++ more) tree

-- the first statement that is not of the grammar in its place
pub record IsFirstBad (rs : List (List Token)) (bad : List Token) : Type 0 where
  pub front : List (List Token)
  pub others : List (List Token)
  pub is : rs ≡ front ++ bad ∷ others
  pub before : CanGoOn front
  pub ends : CanGoOn (front ++ bad ∷ []) → ⊥

-- ---- the answers

-- the line of an early end: that of `End`, else of the last token, and 1 where there is none
abbrev pub end_line : List Token → ℕ
end_line [] = 1
end_line (t ∷ []) = t.line
end_line (t ∷ u ∷ ts) = if is_end t.what then t.line else end_line (u ∷ ts)

-- the tokens of the first statement
abbrev pub first_length : List Token → ℕ
first_length [] = 0
first_length (t ∷ ts) = if is_end t.what then 0 else (if t.ends then 1 else suc (first_length ts))

-- the unit, which is the only one; the line of the first statement that is not of the grammar in its place; or an early end
abbrev pub IsWalked : List (List Token) → Walked → Type 0
IsWalked rs (walked.Unit t) = IsUnit rs t × ((u : Tree) → IsUnit rs u → u ≡ t)
IsWalked rs (walked.Bad line) = (bad : List Token) × IsFirstBad rs bad × (line ≡ line_of bad)
IsWalked rs walked.Early = CanGoOn rs × ((u : Tree) → IsUnit rs u → ⊥)

abbrev pub IsRefused : List Token → ℕ → Type 0
IsRefused tokens line =
    ((bad : List Token) × IsFirstBad (runs tokens) bad × (line ≡ line_of bad))
    ⊎ (CanGoOn (runs tokens) × ((u : Tree) → IsUnit (runs tokens) u → ⊥) × (line ≡ end_line tokens))

abbrev pub IsParseEnd : List Token → ParseEnd → Type 0
IsParseEnd tokens (parse_end.Refused r) = (r.kind ≡ kind.Syntax) × IsRefused tokens r.line
IsParseEnd tokens parse_end.Memory = ⊤

abbrev pub IsFront : List Token → Option ℕ → Type 0
IsFront tokens (Some line) = (bad : List Token) × IsFirstBad (runs tokens) bad × (line ≡ line_of bad)
IsFront tokens None = CanGoOn (runs tokens)

abbrev pub bad_line : Walked → Option ℕ
bad_line (walked.Bad line) = Some line
bad_line _ = None
