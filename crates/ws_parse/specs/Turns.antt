-- What a statement is, and what it does in each place.
use Rattle.std.specs.Prelude.{◌≡◌, ◌||◌, ℕ, Bool, true, false, Option, Some, None, List, [], ◌∷◌, if◌then◌else◌, ⊤}
use Rattle.ws_lex.specs.declared.token.Token.{Token}
use Rattle.ws_tree.specs.declared.expr.Expr.{Expr}
use Rattle.ws_tree.specs.declared.stmt.Body.{Body}
use Rattle.ws_tree.specs.declared.stmt.Body.TheVariants as body
use Rattle.ws_stmt.specs.declared.role.Block.{Block}
use Rattle.ws_stmt.specs.declared.role.Block.TheVariants as block
use Rattle.ws_stmt.specs.declared.role.Role.{Role}
use Rattle.ws_stmt.specs.declared.role.Role.TheVariants as role
use Rattle.ws_stmt.specs.declared.form.Form.{Form}
use Rattle.ws_stmt.specs.declared.form.Form.TheVariants as form
use Rattle.ws_stmt.specs.declared.form.Said.{Said}
use Rattle.ws_stmt.specs.Roles.{role_of, is_directive, has_foreign, is_left_out_by_words, is_left_out}
use Rattle.ws_stmt.specs.Statements.{Says}
use Rattle.ws_parse.specs.declared.turn.Turn.{Turn}
use Rattle.ws_parse.specs.declared.turn.Turn.TheVariants as turn
use Rattle.ws_parse.specs.declared.place.Place.{Place}
use Rattle.ws_parse.specs.declared.place.Place.TheVariants as place
use Rattle.ws_parse.specs.declared.place.Opening.{Opening}
use Rattle.ws_parse.specs.declared.place.Opening.TheVariants as opening
use Rattle.ws_parse.specs.declared.place.Move.{Move}
use Rattle.ws_parse.specs.declared.place.Move.TheVariants as move

-- ---- what a statement is

-- What stands for a statement that is not read. Unsupported comes before a limit.
abbrev pub left_body : List Token → Body
left_body r = if is_left_out_by_words r || has_foreign r then body.Unsupported else body.TooDeep

abbrev pub is_directive_run : List Token → Bool
is_directive_run [] = false
is_directive_run (t ∷ ts) = is_directive t.what

-- Of a statement that is read, no other form is said. A directive of a region that says no form has a clause outside the grammar.
abbrev pub IsTurn : List Token → Turn → Type 0
IsTurn r (turn.Read s) = (is_left_out r ≡ false) × Says r s × ((s' : Said) → Says r s' → s' ≡ s)
IsTurn r (turn.LeftOut played b) = (is_left_out r ≡ true) × (played ≡ role_of r) × (b ≡ left_body r)
IsTurn r (turn.Strange played) = (is_left_out r ≡ false) × (is_directive_run r ≡ true) × (played ≡ role_of r) × ((s : Said) → Says r s → ⊥)
IsTurn r turn.Wrong = (is_left_out r ≡ false) × (is_directive_run r ≡ false) × ((s : Said) → Says r s → ⊥)

-- ---- what may stand in a place

-- directly in a WHERE and in a FORALL
abbrev pub is_in_where : Body → Bool
is_in_where (body.Assign l r) = true
is_in_where (body.Masked' m _ ss _ es) = true
is_in_where _ = false

abbrev pub is_in_forall : Body → Bool
is_in_forall (body.Assign l r) = true
is_in_forall (body.Masked' m _ ss _ es) = true
is_in_forall (body.Forall' is m _ ss) = true
is_in_forall _ = false

abbrev pub or_left_out : Bool → Body → Body
or_left_out true b = body.Unsupported
or_left_out false b = b

abbrev pub when : Bool → Move → Option Move
when true m = Some m
when false m = None

-- a statement that is whole in itself; directly in a parallel construct each one is left out
abbrev pub act : Place → Bool → Body → Option Move
act place.After odd b = None
act (place.In block.Where s l) odd b = when (is_in_where b) (move.Act (or_left_out odd b))
act (place.In block.Forall s l) odd b = when (is_in_forall b) (move.Act (or_left_out odd b))
act (place.In block.Parallel s l) odd b = Some (move.Act body.Unsupported)
act p odd b = Some (move.Act (or_left_out odd b))

-- a workshare region is entered
abbrev pub is_shared : Place → Bool
is_shared (place.In b s l) = s
is_shared _ = false

-- where only statements may stand: a region in a region is left out, and WORKSHARE has to stand in one
abbrev pub among : Bool → Block → Option Bool
among shared block.Do = Some false
among shared block.Where = Some false
among shared block.Forall = Some false
among shared block.ParallelWorkshare = Some shared
among shared block.Parallel = Some shared
among true block.Workshare = Some true
among false block.Workshare = None

abbrev pub in_where : Block → Option Bool
in_where block.Where = Some false
in_where _ = None

abbrev pub in_forall : Block → Option Bool
in_forall block.Where = Some false
in_forall block.Forall = Some false
in_forall _ = None

abbrev pub in_parallel : Block → Option Bool
in_parallel block.Workshare = Some false
in_parallel block.Do = Some true
in_parallel block.Where = Some true
in_parallel block.Forall = Some true
in_parallel block.ParallelWorkshare = Some true
in_parallel block.Parallel = Some true

-- the block may stand there, and whether it is left out there
abbrev pub nests : Place → Block → Option Bool
nests place.After b = None
nests (place.In block.Where s l) b = in_where b
nests (place.In block.Forall s l) b = in_forall b
nests (place.In block.Parallel s l) b = in_parallel b
nests p b = among (is_shared p) b

abbrev pub lost : Bool → Opening → Opening
lost true o = opening.Lost body.Unsupported
lost false o = o

abbrev pub opened : Block → Opening → Option Bool → Option Move
opened b o None = None
opened b o (Some left_out) = Some (move.Open b (lost left_out o))

abbrev pub open_in : Place → Block → Opening → Option Move
open_in p b o = opened b o (nests p b)

abbrev pub same_block : Block → Block → Bool
same_block block.Do block.Do = true
same_block block.Where block.Where = true
same_block block.Forall block.Forall = true
same_block block.ParallelWorkshare block.ParallelWorkshare = true
same_block block.Parallel block.Parallel = true
same_block block.Workshare block.Workshare = true
same_block _ _ = false

abbrev pub region : Block → Opening
region b = if same_block block.Parallel b then opening.Parallel else opening.Region

-- the block is the innermost one
abbrev pub is_in : Block → Place → Bool
is_in b (place.In c s l) = same_block b c
is_in b _ = false

-- ELSEWHERE may follow
abbrev pub goes_on : Place → Bool
goes_on (place.In block.Where s false) = true
goes_on _ = false

-- what may begin the unit, each of these also where the one before it may stand
abbrev pub may_name : Place → Bool
may_name place.Head = true
may_name _ = false

abbrev pub may_imply : Place → Bool
may_imply place.Named = true
may_imply p = may_name p

abbrev pub may_declare : Place → Bool
may_declare place.Declarations = true
may_declare p = may_imply p

-- directly in the unit, before its END
abbrev pub is_outermost : Place → Bool
is_outermost place.Statements = true
is_outermost p = may_declare p

-- ---- what a statement does

abbrev pub said_move : Place → Bool → Form → Option Move
said_move p odd (form.Program x) = when (may_name p) (move.Name x)
said_move p odd form.ImplicitNone = when (may_imply p) move.Implicit
said_move p true (form.Declares ds) = when (may_declare p) move.LeaveOut
said_move p false (form.Declares ds) = when (may_declare p) (move.Declare ds)
said_move p odd (form.Acts b) = act p odd b
said_move p odd (form.OpensWhere m) = open_in p block.Where (lost odd (opening.Where m))
said_move p odd (form.OpensElse m) = when (goes_on p) (move.Next m odd)
said_move p odd (form.OpensForall is m) = open_in p block.Forall (lost odd (opening.Forall is m))
said_move p odd (form.OpensDo i) = open_in p block.Do (lost odd (opening.Do i))
said_move p odd (form.OpensRegion b) = open_in p b (region b)
said_move p odd (form.Closes b) = when (is_in b p) (move.Close None)
said_move p odd (form.EndsProgram x) = when (is_outermost p) (move.Finish x)

-- One that is not read may stand anywhere, and begins or ends a block by its first words; after the end it does nothing.
abbrev pub left_move : Place → Role → Body → Move
left_move place.After played b = move.Idle b
left_move p role.Alone b = move.Idle b
left_move p (role.Opens c) b = move.Open c (opening.Lost b)
left_move p role.GoesOn b = move.Idle b
left_move p (role.Closes c) b = if is_in c p then move.Close (Some b) else move.Idle b
left_move p role.ClosesUnit b = if is_outermost p then move.FinishUnread b else move.Idle b
left_move p role.NamesUnit b = if may_name p then move.NameUnread b else move.Idle b

-- A region with a clause that is left out keeps its place.
abbrev pub strange_move : Place → Role → Option Move
strange_move p (role.Opens b) = open_in p b (opening.Lost body.Unsupported)
strange_move p (role.Closes b) = when (is_in b p) (move.Close (Some body.Unsupported))
strange_move p _ = None

abbrev pub move_of : Place → Turn → Option Move
move_of p (turn.Read s) = said_move p s.odd s.form
move_of p (turn.LeftOut played b) = Some (left_move p played b)
move_of p (turn.Strange played) = strange_move p played
move_of p turn.Wrong = None

-- the statement does this there
pub record Moves (p : Place) (r : List Token) (m : Move) : Type 0 where
  pub what : Turn
  pub is : IsTurn r what
  pub does : move_of p what ≡ Some m
