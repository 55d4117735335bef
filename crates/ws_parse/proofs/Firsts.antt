-- The first statement of a derivation: what it does, and what is left.
use Rattle.std.proofs.Common.{◌≡◌, ◌||◌, ℕ, suc, Bool, true, false, Option, Some, None, List, [], ◌∷◌, ◌++◌, length, refl, sym, ap, ◌∙◌, subst, append_assoc}
use Rattle.ws_lex.specs.declared.token.Token.{Token}
use Rattle.ws_tree.specs.declared.expr.Expr.{Expr}
use Rattle.ws_tree.specs.declared.stmt.Body.{Body}
use Rattle.ws_tree.specs.declared.stmt.Body.TheVariants as body
use Rattle.ws_tree.specs.declared.stmt.Decl.{Decl}
use Rattle.ws_tree.specs.declared.stmt.Else.{Else}
use Rattle.ws_tree.specs.declared.stmt.Stmt.{Stmt}
use Rattle.ws_tree.specs.declared.stmt.Tree.{Tree}
use Rattle.ws_stmt.specs.declared.role.Block.{Block}
use Rattle.ws_parse.specs.declared.place.Place.{Place}
use Rattle.ws_parse.specs.declared.place.Place.TheVariants as place
use Rattle.ws_parse.specs.declared.place.Opening.{Opening}
use Rattle.ws_parse.specs.declared.place.Move.{Move}
use Rattle.ws_parse.specs.declared.place.Move.TheVariants as move
use Rattle.ws_parse.specs.declared.place.Naming.{Naming}
use Rattle.ws_parse.specs.declared.place.Naming.TheVariants as naming
use Rattle.ws_parse.specs.Turns.{Moves}
use Rattle.ws_parse.specs.Blocks.{ReadsStmt, ReadsBlock, ReadsUnit, one, after, built, else_of, else_mask, else_front, beyond, inside, line_of, fits}
use Rattle.ws_parse.specs.Blocks.ReadsStmt.{idle, acts, nested}
use Rattle.ws_parse.specs.Blocks.ReadsBlock.{more, elsewhere, closed}
use Rattle.ws_parse.specs.Blocks.ReadsUnit.{named as u_named, unread as u_unread, implied as u_implied, declared as u_declared, left_out as u_left_out, idle as u_idle, acts as u_acts, nested as u_nested, finished as u_finished, finished_unread as u_finished_unread, over as u_over}

-- ---- in a block

pub record InBlock (p : Place) (n l : ℕ) (rs : List (List Token)) (b : Body) (ss : List Stmt) (es : List Else) (ys : List Stmt) (rest : List (List Token)) : Type 0 where
  pub others : List Stmt
  pub block : ReadsBlock p n rs others es ys rest
  pub is : ss ≡ one l b ++ others

pub record OpenInBlock (p : Place) (n l : ℕ) (rs : List (List Token)) (b : Block) (o : Opening) (ss : List Stmt) (es : List Else) (ys : List Stmt) (rest : List (List Token)) : Type 0 where
  pub xs : List Stmt
  pub fs : List Else
  pub zs : List Stmt
  pub us : List (List Token)
  pub others : List Stmt
  pub inner : ReadsBlock (inside p b) (suc n) rs xs fs zs us
  pub block : ReadsBlock p n us others es ys rest
  pub is : ss ≡ (built n l o xs fs ++ zs) ++ others

pub record NextInBlock (p : Place) (n l : ℕ) (rs : List (List Token)) (m : Option Expr) (odd : Bool) (ss : List Stmt) (es : List Else) (ys : List Stmt) (rest : List (List Token)) : Type 0 where
  pub others : List Stmt
  pub fs : List Else
  pub block : ReadsBlock (beyond p m) n rs others fs ys rest
  pub none : ss ≡ []
  pub is : es ≡ else_of l (else_mask m odd) (else_front l odd ++ others) ∷ fs

pub record EndOfBlock (l : ℕ) (rs : List (List Token)) (y : Option Body) (ss : List Stmt) (es : List Else) (ys : List Stmt) (rest : List (List Token)) : Type 0 where
  pub none : ss ≡ []
  pub no_else : es ≡ []
  pub is : ys ≡ after l y
  pub rest_is : rs ≡ rest

abbrev pub BlockRest : Place → ℕ → ℕ → List (List Token) → List Stmt → List Else → List Stmt → List (List Token) → Move → Type 0
BlockRest p n l rs ss es ys rest (move.Idle b) = InBlock p n l rs b ss es ys rest
BlockRest p n l rs ss es ys rest (move.Act b) = InBlock p n l rs b ss es ys rest
BlockRest p n l rs ss es ys rest (move.Open b o) = OpenInBlock p n l rs b o ss es ys rest
BlockRest p n l rs ss es ys rest (move.Next m odd) = NextInBlock p n l rs m odd ss es ys rest
BlockRest p n l rs ss es ys rest (move.Close y) = EndOfBlock l rs y ss es ys rest
BlockRest p n l rs ss es ys rest _ = ⊥

pub record FirstInBlock (p : Place) (n : ℕ) (r : List Token) (rs : List (List Token)) (ss : List Stmt) (es : List Else) (ys : List Stmt) (rest : List (List Token)) : Type 0 where
  pub m : Move
  pub moves : Moves p r m
  pub left : BlockRest p n (line_of r) rs ss es ys rest m

pub block_first : {p : Place} {n : ℕ} {r : List Token} {rs rest : List (List Token)} {ss ys : List Stmt} {es : List Else} → ReadsBlock p n (r ∷ rs) ss es ys rest → FirstInBlock p n r rs ss es ys rest
block_first (more {ss = ss} (idle {b = b} k) d) = record { m = move.Idle b; moves = k; left = record { others = ss; block = d; is = refl } }
block_first (more {ss = ss} (acts {b = b} k) d) = record { m = move.Act b; moves = k; left = record { others = ss; block = d; is = refl } }
block_first (more {us = us} {ss = others} (nested {b = b} {o = o} {ss = ss} {xs = xs} {es = es} k i) d) =
    record { m = move.Open b o; moves = k; left = record { xs = ss; fs = es; zs = xs; us = us; others = others; inner = i; block = d; is = refl } }
block_first (elsewhere {m = m} {odd = odd} {ss = ss} {es = es} k d) = record { m = move.Next m odd; moves = k; left = record { others = ss; fs = es; block = d; none = refl; is = refl } }
block_first (closed {y = y} k) = record { m = move.Close y; moves = k; left = record { none = refl; no_else = refl; is = refl; rest_is = refl } }

-- ---- in the unit

pub record InUnit (q : Place) (n : Naming) (l : ℕ) (rs : List (List Token)) (b : Body) (ds : List Decl) (ss : List Stmt) (x : List ℕ) : Type 0 where
  pub others : List Stmt
  pub unit : ReadsUnit q n rs ds others x
  pub is : ss ≡ one l b ++ others

pub record DeclaredInUnit (n : Naming) (rs : List (List Token)) (es ds : List Decl) (ss : List Stmt) (x : List ℕ) : Type 0 where
  pub others : List Decl
  pub unit : ReadsUnit place.Declarations n rs others ss x
  pub is : ds ≡ es ++ others

pub record OpenInUnit (p : Place) (n : Naming) (l : ℕ) (rs : List (List Token)) (b : Block) (o : Opening) (ds : List Decl) (ss : List Stmt) (x : List ℕ) : Type 0 where
  pub xs : List Stmt
  pub fs : List Else
  pub zs : List Stmt
  pub us : List (List Token)
  pub others : List Stmt
  pub inner : ReadsBlock (inside p b) 1 rs xs fs zs us
  pub unit : ReadsUnit place.Statements n us ds others x
  pub is : ss ≡ (built 0 l o xs fs ++ zs) ++ others

abbrev pub UnitRest : Place → Naming → ℕ → List (List Token) → List Decl → List Stmt → List ℕ → Move → Type 0
UnitRest p n l rs ds ss x (move.Idle b) = InUnit p n l rs b ds ss x
UnitRest p n l rs ds ss x (move.Act b) = InUnit place.Statements n l rs b ds ss x
UnitRest p n l rs ds ss x (move.Open b o) = OpenInUnit p n l rs b o ds ss x
UnitRest p n l rs ds ss x (move.Name y) = ReadsUnit place.Named (naming.Called y) rs ds ss x
UnitRest p n l rs ds ss x (move.NameUnread b) = InUnit place.Named naming.Unread l rs b ds ss x
UnitRest p n l rs ds ss x move.Implicit = ReadsUnit place.Declarations n rs ds ss x
UnitRest p n l rs ds ss x (move.Declare es) = DeclaredInUnit n rs es ds ss x
UnitRest p n l rs ds ss x move.LeaveOut = InUnit place.Declarations n l rs body.Unsupported ds ss x
UnitRest p n l rs ds ss x (move.Finish y) = (fits n y ≡ true) × ReadsUnit place.After n rs ds ss x
UnitRest p n l rs ds ss x (move.FinishUnread b) = InUnit place.After n l rs b ds ss x
UnitRest p n l rs ds ss x _ = ⊥

pub record FirstInUnit (p : Place) (n : Naming) (r : List Token) (rs : List (List Token)) (ds : List Decl) (ss : List Stmt) (x : List ℕ) : Type 0 where
  pub m : Move
  pub moves : Moves p r m
  pub left : UnitRest p n (line_of r) rs ds ss x m

pub unit_first : {p : Place} {n : Naming} {r : List Token} {rs : List (List Token)} {ds : List Decl} {ss : List Stmt} {x : List ℕ} → ReadsUnit p n (r ∷ rs) ds ss x → FirstInUnit p n r rs ds ss x
unit_first (u_named {x = x} k d) = record { m = move.Name x; moves = k; left = d }
unit_first (u_unread {ss = ss} {b = b} k d) = record { m = move.NameUnread b; moves = k; left = record { others = ss; unit = d; is = refl } }
unit_first (u_implied k d) = record { m = move.Implicit; moves = k; left = d }
unit_first (u_declared {ds = ds} {es = es} k d) = record { m = move.Declare ds; moves = k; left = record { others = es; unit = d; is = refl } }
unit_first (u_left_out {ss = ss} k d) = record { m = move.LeaveOut; moves = k; left = record { others = ss; unit = d; is = refl } }
unit_first (u_idle {ss = ss} {b = b} k d) = record { m = move.Idle b; moves = k; left = record { others = ss; unit = d; is = refl } }
unit_first (u_acts {ss = ss} {b = b} k d) = record { m = move.Act b; moves = k; left = record { others = ss; unit = d; is = refl } }
unit_first (u_nested {rs = us} {b = b} {o = o} {xs = xs} {ys = ys} {ss = ss} {es = es} k i d) =
    record { m = move.Open b o; moves = k; left = record { xs = xs; fs = es; zs = ys; us = us; others = ss; inner = i; unit = d; is = refl } }
unit_first (u_finished {x = x} k f d) = record { m = move.Finish x; moves = k; left = (f, d) }
unit_first (u_finished_unread {ss = ss} {b = b} k d) = record { m = move.FinishUnread b; moves = k; left = record { others = ss; unit = d; is = refl } }
