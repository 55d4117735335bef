-- What can follow what is read of a unit.
use Rattle.std.specs.Prelude.{◌≡◌, ◌+◌, ℕ, suc, Bool, true, false, Option, Some, None, List, [], ◌∷◌, ◌++◌, ◌&&◌, length, ⊤, MatchOption, if◌then◌else◌}
use Rattle.ws_lex.specs.declared.token.Token.{Token}
use Rattle.ws_tree.specs.declared.expr.Expr.{Expr}
use Rattle.ws_tree.specs.declared.stmt.Decl.{Decl}
use Rattle.ws_tree.specs.declared.stmt.Else.{Else}
use Rattle.ws_tree.specs.declared.stmt.Stmt.{Stmt}
use Rattle.ws_tree.specs.declared.stmt.Tree.{Tree}
use Rattle.ws_parse.specs.declared.place.Place.{Place}
use Rattle.ws_parse.specs.declared.place.Place.TheVariants as place
use Rattle.ws_parse.specs.declared.place.Opening.{Opening}
use Rattle.ws_parse.specs.declared.place.Move.{Move}
use Rattle.ws_parse.specs.declared.place.Move.TheVariants as move
use Rattle.ws_parse.specs.declared.place.Naming.TheVariants as naming
use Rattle.ws_tree.specs.declared.stmt.Body.TheVariants as body
use Rattle.ws_parse.specs.declared.place.Naming.{Naming}
use Rattle.ws_parse.specs.declared.frame.Frame.{Frame}
use Rattle.ws_parse.specs.declared.frame.Part.{Part}
use Rattle.ws_parse.specs.declared.frame.Part.TheVariants as part
use Rattle.ws_parse.specs.declared.frame.State.{State}
use Rattle.ws_base.specs.declared.refusal.Refusal.{Refusal}
use Rattle.ws_base.specs.declared.refusal.RefusalKind.TheVariants as kind
use Rattle.ws_parse.specs.Turns.{Moves}
use Rattle.ws_tree.specs.declared.stmt.Body.{Body}
use Rattle.ws_stmt.specs.declared.role.Block.{Block}
use Rattle.ws_parse.specs.Blocks.{ReadsUnit, ReadsBlock, built, else_of, else_front, else_mask, beyond, after, fits, one, inside as inside'}

-- from the innermost block on
abbrev pub stacked : List Frame → List Frame
stacked [] = []
stacked (f ∷ fs) = stacked fs ++ f ∷ []

-- the statements and the ELSEWHEREs of a block whose part has these statements, and which these ELSEWHEREs follow
abbrev pub first_of : Part → List Stmt → List Stmt
first_of part.First ss = ss
first_of (part.Later first done line m) ss = first

abbrev pub elses_of : Part → List Stmt → List Else → List Else
elses_of part.First ss es = es
elses_of (part.Later first done line m) ss es = done ++ else_of line m ss ∷ es

-- a block with n blocks around it
abbrev pub built_of : ℕ → Frame → List Stmt → List Else → List Stmt
built_of n f ss es = built n f.line f.opening (first_of f.part ss) (elses_of f.part ss es)

-- The statements `rs` complete the unit to the tree `t`, where `here` stand at the innermost place.
pub data Goes (n : Naming) (ds : List Decl) : Place → List Frame → List Stmt → List (List Token) → Tree → Type 0 where
  outside : {p : Place} {here ss : List Stmt} {rs : List (List Token)} {t : Tree} {es : List Decl} {x : List ℕ} →
      ReadsUnit p n rs es ss x → t ≡ record { name = x; decls = ds ++ es; body = here ++ ss } → Goes n ds p [] here rs t
  inside : {p : Place} {f : Frame} {fs : List Frame} {here ss ys : List Stmt} {es : List Else} {rs us : List (List Token)} {t : Tree} →
      ReadsBlock p (suc (length fs)) rs ss es ys us → Goes n ds f.place fs (f.before ++ (built_of (length fs) f (here ++ ss) es ++ ys)) us t → Goes n ds p (f ∷ fs) here rs t

-- the place after a statement that is whole
abbrev pub settled : Place → Bool → Place
settled p true = place.Statements
settled p false = p

abbrev pub is_outermost : List Frame → Bool
is_outermost [] = true
is_outermost (f ∷ fs) = false

abbrev pub with_stmt : State → ℕ → Body → Place → State
with_stmt s line b p = record s { place = p; here = s.here ++ one line b }

abbrev pub opened : State → ℕ → Block → Opening → State
opened s line b o = record s {
  place = inside' s.place b;
  here = [];
  frames = s.frames ++ record { line = line; opening = o; place = settled s.place (is_outermost s.frames); before = s.here; part = part.First } ∷ [];
}

-- the part that an ELSEWHERE begins
abbrev pub next_part : Part → List Stmt → ℕ → Option Expr → Part
next_part part.First ss line m = part.Later ss [] line m
next_part (part.Later first done l k) ss line m = part.Later first (done ++ else_of l k ss ∷ []) line m

abbrev pub GoesFrom : State → List (List Token) → Tree → Type 0
GoesFrom s rs t = Goes s.naming s.decls s.place (stacked s.frames) s.here rs t

abbrev pub is_block : Place → Bool
is_block (place.In b s l) = true
is_block _ = false

-- exactly the places inside of blocks are block places
abbrev pub Sits : Place → List Frame → Type 0
Sits p [] = is_block p ≡ false
Sits p (f ∷ fs) = (is_block p ≡ true) × Sits f.place fs

-- ---- the next state

abbrev pub when : Bool → State → Option State
when true s = Some s
when false s = None

abbrev pub at_place : State → Place → State
at_place s p = record s { place = p }

abbrev pub with_name : State → Naming → State
with_name s n = record s { place = place.Named; naming = n }

abbrev pub with_decls : State → List Decl → State
with_decls s ds = record s { place = place.Declarations; decls = s.decls ++ ds }

abbrev pub next : State → ℕ → Move → Option State
next s l (move.Idle b) = Some (with_stmt s l b s.place)
next s l (move.Act b) = Some (with_stmt s l b (settled s.place (is_outermost s.frames)))
next s l (move.Open b o) = Some (opened s l b o)
next s l (move.Name x) = when (is_outermost s.frames) (with_name s (naming.Called x))
next s l (move.NameUnread b) = when (is_outermost s.frames) (with_name (with_stmt s l b place.Named) naming.Unread)
next s l move.Implicit = when (is_outermost s.frames) (at_place s place.Declarations)
next s l (move.Declare ds) = when (is_outermost s.frames) (with_decls s ds)
next s l move.LeaveOut = when (is_outermost s.frames) (with_stmt s l body.Unsupported place.Declarations)
next s l (move.Finish x) = if fits s.naming x then when (is_outermost s.frames) (at_place s place.After) else None
next s l (move.FinishUnread b) = when (is_outermost s.frames) (with_stmt s l b place.After)
next s l _ = None

abbrev pub renewed : Frame → List Stmt → ℕ → Option Expr → Frame
renewed f here l m = record f { part = next_part f.part here l m }

-- of the innermost block a further part begins
pub record Renewed (s : State) (l : ℕ) (m : Option Expr) (odd : Bool) (new : State) : Type 0 where
  pub fs : List Frame
  pub f : Frame
  pub frames : s.frames ≡ fs ++ f ∷ []
  pub is : new ≡ record s { place = beyond s.place m; here = else_front l odd; frames = fs ++ renewed f s.here l (else_mask m odd) ∷ [] }

-- the innermost block ends
pub record Ended (s : State) (l : ℕ) (y : Option Body) (new : State) : Type 0 where
  pub fs : List Frame
  pub f : Frame
  pub frames : s.frames ≡ fs ++ f ∷ []
  pub is : new ≡ record s { place = f.place; here = f.before ++ (built_of (length fs) f s.here [] ++ after l y); frames = fs }

abbrev pub Next : State → ℕ → Move → Option State → Type 0
Next s l (move.Next m odd) o = MatchOption o (s.frames ≡ []) (Renewed s l m odd)
Next s l (move.Close y) o = MatchOption o (s.frames ≡ []) (Ended s l y)
Next s l m o = o ≡ next s l m

-- the statement leads from the old state to the new one
pub record Advances (old : State) (r : List Token) (new : State) : Type 0 where
  pub back : (rs : List (List Token)) (t : Tree) → GoesFrom new rs t → GoesFrom old (r ∷ rs) t
  pub on : (rs : List (List Token)) (t : Tree) → GoesFrom old (r ∷ rs) t → GoesFrom new rs t
  pub sits : Sits old.place (stacked old.frames) → Sits new.place (stacked new.frames)

-- the statement is not of the grammar there
abbrev pub Stuck : State → List Token → Type 0
Stuck s r = (rs : List (List Token)) (t : Tree) → GoesFrom s (r ∷ rs) t → ⊥

-- ---- the first state and the last one

abbrev pub begun : State
begun = record { place = place.Head; here = []; frames = []; naming = naming.Unnamed; decls = [] }

abbrev pub is_after : Place → Bool
is_after place.After = true
is_after _ = false

abbrev pub is_over : State → Bool
is_over s = is_after s.place && is_outermost s.frames

-- the tree, if nothing has to follow
abbrev pub IsWhole : State → Option Tree → Type 0
IsWhole s None = (t : Tree) → GoesFrom s [] t → ⊥
IsWhole s (Some t) = GoesFrom s [] t × ((u : Tree) → GoesFrom s [] u → u ≡ t)

abbrev pub syntax : ℕ → Refusal
syntax line = record { line = line; kind = kind.Syntax }
