-- The trees that the grammar can give, without tokens: the premise of everything that looks at a tree.
-- A name is any list of bytes here: which bytes names have is the lexer's promise, and not the grammar's.
use Rattle.std.specs.Prelude.{◌≡◌, ◌≤◌, ◌<◌, ◌⊎◌, ◌+◌, ◌||◌, ℕ, zero, suc, max, Bool, false, Option, Some, None, List, ⊤, All, length}
use Rattle.std.specs.List.{list_any}
use Rattle.std.specs.Str.{bytes_eq}
use mathlib.Core.Former.{Count}
use Rattle.ws_base.specs.declared.op.CallWord.{CallWord}
use Rattle.ws_base.specs.declared.op.CallWord.TheVariants as word
use Rattle.ws_tree.specs.declared.words.TheConstants.{CALL_WORDS}
use Rattle.ws_tree.specs.declared.expr.Expr.{Expr}
use Rattle.ws_tree.specs.declared.expr.Expr.TheVariants.{Number, TooWide, TooDeep, Truth, Named, Part', Call', Vector'}
use Rattle.ws_tree.specs.declared.expr.Sub.TheVariants as sub
use Rattle.ws_tree.specs.declared.stmt.Body.{Body}
use Rattle.ws_tree.specs.declared.stmt.Body.TheVariants.{Assign, Masked', Forall', Loop', Allocate, Deallocate, Read, Shared', Unsupported, TooDeep as TooDeepBody}
use Rattle.ws_tree.specs.declared.stmt.Else.{Else'}
use Rattle.ws_tree.specs.declared.stmt.Bound.{Bound}
use Rattle.ws_tree.specs.declared.stmt.Bound.TheVariants as bound
use Rattle.ws_tree.specs.declared.stmt.Decl.{Decl}
use Rattle.ws_tree.specs.declared.stmt.Index.{Index}
use Rattle.ws_tree.specs.declared.stmt.Part.{Part}
use Rattle.ws_tree.specs.declared.stmt.Stmt.{Stmt}
use Rattle.ws_tree.specs.declared.stmt.Tree.{Tree}
use Rattle.ws_tree.specs.Trees.{Exprs, end_exprs, more_exprs, Subs, end_subs, more_subs, Given, absent, given, Stmts, end_stmts, more_stmts, Elses, end_elses, more_elses, paren, unary, binary}
use Rattle.ws_tree.specs.Words.{is_other_call}

-- ---- depth: a primary has 1, and each operator, pair of brackets, call and subscripted name adds 1; a triplet adds nothing

abbrev mutual
  pub depth : Expr → ℕ
  depth (Number n) = 1
  depth TooWide = 1
  depth TooDeep = 1
  depth (Truth b) = 1
  depth (Named x) = 1
  depth (Part' x _ subs) = 1 + subs_depth subs
  depth (Call' w _ es) = 1 + exprs_depth es
  depth (Vector' _ es) = 1 + exprs_depth es
  depth (paren e) = 1 + depth e
  depth (unary op e) = 1 + depth e
  depth (binary op a b) = 1 + max (depth a) (depth b)

  pub exprs_depth : {m : Count} → Exprs m → ℕ
  exprs_depth end_exprs = 0
  exprs_depth (more_exprs e es) = max (depth e) (exprs_depth es)

  pub subs_depth : {m : Count} → Subs m → ℕ
  subs_depth end_subs = 0
  subs_depth (more_subs (sub.One e) ss) = max (depth e) (subs_depth ss)
  subs_depth (more_subs (sub.Range' l u s) ss) = max (max (max (given_depth l) (given_depth u)) (given_depth s)) (subs_depth ss)

  pub given_depth : Given → ℕ
  given_depth absent = 0
  given_depth (given e) = depth e

-- ---- calls

abbrev pub IsDigits : Expr → Type 0
IsDigits (Number n) = ⊤
IsDigits TooWide = ⊤
IsDigits _ = ⊥

abbrev pub IsName : Expr → Type 0
IsName (Named x) = ⊤
IsName _ = ⊥

abbrev pub count : {m : Count} → Exprs m → ℕ
count end_exprs = 0
count (more_exprs e es) = 1 + count es

-- a name, and a dimension where one is wanted
abbrev pub IsOneName : {m : Count} → Exprs m → Type 0
IsOneName (more_exprs x end_exprs) = IsName x
IsOneName _ = ⊥

abbrev pub HasDimension : {m : Count} → Exprs m → Type 0
HasDimension (more_exprs x (more_exprs d end_exprs)) = IsName x × IsDigits d
HasDimension _ = ⊥

-- what each call takes
abbrev pub Takes : {m : Count} → CallWord → Exprs m → Type 0
Takes word.Abs es = count es ≡ 1
Takes word.Mod es = count es ≡ 2
Takes word.Modulo es = count es ≡ 2
Takes word.Min es = 2 ≤ count es
Takes word.Max es = 2 ≤ count es
Takes word.Merge es = count es ≡ 3
Takes word.Sum es = count es ≡ 1
Takes word.Product es = count es ≡ 1
Takes word.Minval es = count es ≡ 1
Takes word.Maxval es = count es ≡ 1
Takes word.Count es = count es ≡ 1
Takes word.Any es = count es ≡ 1
Takes word.All es = count es ≡ 1
Takes word.Size es = IsOneName es ⊎ HasDimension es
Takes word.Lbound es = HasDimension es
Takes word.Ubound es = HasDimension es
Takes word.Allocated es = IsOneName es

abbrev pub is_call_word : List ℕ → Bool
is_call_word x = list_any (λ entry. bytes_eq x entry.now) CALL_WORDS || is_other_call x

-- ---- expressions

abbrev pub HasExprs : {m : Count} → Exprs m → Type 0
HasExprs end_exprs = ⊥
HasExprs (more_exprs e es) = ⊤

abbrev pub HasSubs : {m : Count} → Subs m → Type 0
HasSubs end_subs = ⊥
HasSubs (more_subs s ss) = ⊤

abbrev mutual
  pub IsExpr : Expr → Type 0
  IsExpr (Number n) = n < 2147483648
  IsExpr TooWide = ⊤
  IsExpr TooDeep = ⊥
  IsExpr (Truth b) = ⊤
  IsExpr (Named x) = ⊤
  IsExpr (Part' x _ subs) = (is_call_word x ≡ false) × HasSubs subs × AreSubs subs
  IsExpr (Call' w _ es) = Takes w es × AreExprs es
  IsExpr (Vector' _ es) = HasExprs es × AreExprs es
  IsExpr (paren e) = IsExpr e
  IsExpr (unary op e) = IsExpr e
  IsExpr (binary op a b) = IsExpr a × IsExpr b

  pub AreExprs : {m : Count} → Exprs m → Type 0
  AreExprs end_exprs = ⊤
  AreExprs (more_exprs e es) = IsExpr e × AreExprs es

  pub AreSubs : {m : Count} → Subs m → Type 0
  AreSubs end_subs = ⊤
  AreSubs (more_subs (sub.One e) ss) = IsExpr e × AreSubs ss
  AreSubs (more_subs (sub.Range' l u s) ss) = IsGiven l × IsGiven u × IsGiven s × AreSubs ss

  pub IsGiven : Given → Type 0
  IsGiven absent = ⊤
  IsGiven (given e) = IsExpr e

-- An expression as it stands in a statement. One deeper than 64 stands as `TooDeep`, the whole of it.
abbrev pub IsSide : Expr → Type 0
IsSide e = (e ≡ TooDeep) ⊎ (IsExpr e × (depth e ≤ 64))

-- name [( sub {, sub} )]; the name may be a keyword, but for the words of calls that are left out
abbrev pub IsDesignator : Expr → Type 0
IsDesignator (Named x) = ⊤
IsDesignator (Part' x h subs) = (is_other_call x ≡ false) × HasSubs subs × AreSubs subs × (depth (Part' x h subs) ≤ 64)
IsDesignator TooDeep = ⊤
IsDesignator _ = ⊥

abbrev pub IsOptional : Option Expr → Type 0
IsOptional None = ⊤
IsOptional (Some e) = IsSide e

abbrev pub IsBound : Bound → Type 0
IsBound (bound.Upper e) = IsSide e
IsBound (bound.Both l u) = IsSide l × IsSide u
IsBound bound.Deferred = ⊤

abbrev pub IsIndex : Index → Type 0
IsIndex i = IsSide i.l × IsSide i.u × IsOptional i.s

abbrev pub IsPart : Part → Type 0
IsPart p = (1 ≤ length p.shape) × All IsBound p.shape

-- ---- statements

-- where a statement stands: what its block may hold
pub data Within : Type 0 where
  anywhere : Within
  in_where : Within
  in_forall : Within

-- a WHERE or FORALL without a block holds one assignment, of its own line
abbrev pub IsOneAssignment : {m : Count} → ℕ → Stmts m → Type 0
IsOneAssignment line (more_stmts l (Assign left right) end_stmts) = (l ≡ line) × IsDesignator left × IsSide right
IsOneAssignment line _ = ⊥

abbrev pub HasNoElse : {m : Count} → Elses m → Type 0
HasNoElse end_elses = ⊤
HasNoElse (more_elses e es) = ⊥

abbrev pub IsHeader : List Index → Option Expr → Type 0
IsHeader indexes mask = (1 ≤ length indexes) × All IsIndex indexes × IsOptional mask

abbrev mutual
  -- in this place, and with `room` more blocks that may be nested
  pub IsBody : Within → ℕ → ℕ → Body → Type 0
  IsBody k room line (Assign left right) = IsDesignator left × IsSide right
  IsBody k room line Unsupported = ⊤
  IsBody k room line TooDeepBody = ⊤
  IsBody in_forall zero line (Forall' indexes mask _ block) = IsHeader indexes mask × IsOneAssignment line block
  IsBody in_forall (suc room) line (Forall' indexes mask _ block) = IsHeader indexes mask × AreStmts in_forall room block
  IsBody anywhere zero line (Forall' indexes mask _ block) = IsHeader indexes mask × IsOneAssignment line block
  IsBody anywhere (suc room) line (Forall' indexes mask _ block) = IsHeader indexes mask × AreStmts in_forall room block
  IsBody k zero line (Masked' mask _ block _ rest) = IsSide mask × IsOneAssignment line block × HasNoElse rest
  IsBody k (suc room) line (Masked' mask _ block _ rest) = IsSide mask × AreStmts in_where room block × AreElses room rest
  IsBody anywhere (suc room) line (Loop' x l u s _ block) = IsSide l × IsSide u × IsOptional s × AreStmts anywhere room block
  IsBody anywhere (suc room) line (Shared' _ block) = AreStmts anywhere room block
  IsBody anywhere room line (Allocate parts) = (1 ≤ length parts) × All IsPart parts
  IsBody anywhere room line (Deallocate names) = 1 ≤ length names
  IsBody anywhere room line (Read items) = (1 ≤ length items) × All IsDesignator items
  IsBody _ _ _ _ = ⊥

  pub AreStmts : {m : Count} → Within → ℕ → Stmts m → Type 0
  AreStmts k room end_stmts = ⊤
  AreStmts k room (more_stmts line body rest) = IsBody k room line body × AreStmts k room rest

  -- ELSEWHERE without a mask is the last one
  pub AreElses : {m : Count} → ℕ → Elses m → Type 0
  AreElses room end_elses = ⊤
  AreElses room (more_elses (Else' line (Some mask) _ block) rest) = IsSide mask × AreStmts in_where room block × AreElses room rest
  AreElses room (more_elses (Else' line None _ block) rest) = AreStmts in_where room block × HasNoElse rest

abbrev pub IsDecl : Decl → Type 0
IsDecl d = IsOptional d.constant × All IsBound d.shape

-- a tree that the grammar can give
pub record IsGrammatical (t : Tree) : Type 0 where
  pub decls : All IsDecl t.decls
  pub body : All (λ (s : Stmt). IsBody anywhere 64 s.line s.body) t.body
