-- What the grammar says of the parts of statements, with the number of bodies around them, of which there are at most 65.
use Rattle.std.proofs.Common.{ℕ, zero, suc, ◌+◌, ◌<◌, ◌≤◌, All, Some, None, arith}
use mathlib.Core.Former.{Count}
use Rattle.ws_tree.specs.declared.stmt.Body.{Body}
use Rattle.ws_tree.specs.declared.stmt.Body.TheVariants.{Assign, Masked', Forall', Loop', Allocate, Deallocate, Read, Shared', Unsupported, TooDeep}
use Rattle.ws_tree.specs.declared.stmt.Else.{Else'}
use Rattle.ws_tree.specs.Trees.{Stmts, end_stmts, more_stmts, Elses, end_elses, more_elses}
use Rattle.ws_tree.specs.Grammatical.{IsSide, IsDesignator, IsOptional, IsPart, IsHeader, IsOneAssignment, HasNoElse, IsBody, AreStmts, AreElses}
use Rattle.ws_tree.specs.Grammatical.Within.{anywhere, in_where, in_forall}
use Rattle.ws_tree.specs.Grammatical as grammar

abbrev mutual
  pub IsFormed : ℕ → Body → Type 0
  IsFormed b (Assign left right) = IsDesignator left × IsSide right
  IsFormed b (Masked' mask _ block _ rest) = (b < 65) × IsSide mask × AreFormed (1 + b) block × AreElsesFormed (1 + b) rest
  IsFormed b (Forall' is mask _ block) = (b < 65) × IsHeader is mask × AreFormed (1 + b) block
  IsFormed b (Loop' x l u s _ block) = (b < 65) × IsSide l × IsSide u × IsOptional s × AreFormed (1 + b) block
  IsFormed b (Shared' _ block) = (b < 65) × AreFormed (1 + b) block
  IsFormed b (Allocate parts) = All IsPart parts
  IsFormed b (Read items) = All IsDesignator items
  IsFormed b _ = Unit {0}

  pub AreFormed : {m : Count} → ℕ → Stmts m → Type 0
  AreFormed b end_stmts = Unit {0}
  AreFormed b (more_stmts line body rest) = IsFormed b body × AreFormed b rest

  pub AreElsesFormed : {m : Count} → ℕ → Elses m → Type 0
  AreElsesFormed b end_elses = Unit {0}
  AreElsesFormed b (more_elses (Else' line (Some mask) _ block) rest) = IsSide mask × AreFormed b block × AreElsesFormed b rest
  AreElsesFormed b (more_elses (Else' line None _ block) rest) = AreFormed b block × HasNoElse rest

one_formed : {m : Count} (b line : ℕ) (block : Stmts m) → IsOneAssignment line block → AreFormed b block
one_formed b line end_stmts h = absurd h
one_formed b line (more_stmts l (Assign left right) end_stmts) h = ((h.1, h.2), tt)
one_formed b line (more_stmts l (Assign left right) (more_stmts n c rest)) h = absurd h
one_formed b line (more_stmts l _ rest) h = absurd h

none_formed : {m : Count} (b : ℕ) (es : Elses m) → HasNoElse es → AreElsesFormed b es
none_formed b end_elses h = tt
none_formed b (more_elses e es) h = absurd h

room_left : (b room : ℕ) → b + suc room ≤ 64 → (1 + b) + room ≤ 64
room_left b room h = omega (arith, h)

room_here : (b room : ℕ) → b + room ≤ 64 → b < 65
room_here b room h = omega (arith, h)

mutual
  pub body-formed : (k : grammar.Within) (room line b : ℕ) (body : Body) → b + room ≤ 64 → IsBody k room line body → IsFormed b body
  body-formed k room line b (Assign left right) r h = (h.0, h.1)
  body-formed k zero line b (Masked' mask _ block _ rest) r h = (room_here b 0 r, h.0, one_formed (1 + b) line block h.1, none_formed (1 + b) rest h.2)
  body-formed k (suc room) line b (Masked' mask _ block _ rest) r h =
      (room_here b (suc room) r, h.0, block-formed in_where room (1 + b) block (room_left b room r) h.1, elses-formed room (1 + b) rest (room_left b room r) h.2)
  body-formed anywhere zero line b (Forall' is mask _ block) r h = (room_here b 0 r, h.0, one_formed (1 + b) line block h.1)
  body-formed anywhere (suc room) line b (Forall' is mask _ block) r h = (room_here b (suc room) r, h.0, block-formed in_forall room (1 + b) block (room_left b room r) h.1)
  body-formed in_where zero line b (Forall' is mask _ block) r h = absurd h
  body-formed in_where (suc room) line b (Forall' is mask _ block) r h = absurd h
  body-formed in_forall zero line b (Forall' is mask _ block) r h = (room_here b 0 r, h.0, one_formed (1 + b) line block h.1)
  body-formed in_forall (suc room) line b (Forall' is mask _ block) r h = (room_here b (suc room) r, h.0, block-formed in_forall room (1 + b) block (room_left b room r) h.1)
  body-formed anywhere zero line b (Loop' x l u s _ block) r h = absurd h
  body-formed anywhere (suc room) line b (Loop' x l u s _ block) r h = (room_here b (suc room) r, h.0, h.1, h.2, block-formed anywhere room (1 + b) block (room_left b room r) h.3)
  body-formed in_where zero line b (Loop' x l u s _ block) r h = absurd h
  body-formed in_where (suc room) line b (Loop' x l u s _ block) r h = absurd h
  body-formed in_forall zero line b (Loop' x l u s _ block) r h = absurd h
  body-formed in_forall (suc room) line b (Loop' x l u s _ block) r h = absurd h
  body-formed anywhere zero line b (Shared' _ block) r h = absurd h
  body-formed anywhere (suc room) line b (Shared' _ block) r h = (room_here b (suc room) r, block-formed anywhere room (1 + b) block (room_left b room r) h)
  body-formed in_where zero line b (Shared' _ block) r h = absurd h
  body-formed in_where (suc room) line b (Shared' _ block) r h = absurd h
  body-formed in_forall zero line b (Shared' _ block) r h = absurd h
  body-formed in_forall (suc room) line b (Shared' _ block) r h = absurd h
  body-formed anywhere room line b (Allocate parts) r h = h.1
  body-formed in_where room line b (Allocate parts) r h = absurd h
  body-formed in_forall room line b (Allocate parts) r h = absurd h
  body-formed anywhere room line b (Read items) r h = h.1
  body-formed in_where room line b (Read items) r h = absurd h
  body-formed in_forall room line b (Read items) r h = absurd h
  body-formed k room line b (Deallocate names) r h = tt
  body-formed k room line b Unsupported r h = tt
  body-formed k room line b TooDeep r h = tt

  block-formed : {m : Count} (k : grammar.Within) (room b : ℕ) (block : Stmts m) → b + room ≤ 64 → AreStmts k room block → AreFormed b block
  block-formed k room b end_stmts r h = tt
  block-formed k room b (more_stmts line body rest) r h = (body-formed k room line b body r h.0, block-formed k room b rest r h.1)

  elses-formed : {m : Count} (room b : ℕ) (es : Elses m) → b + room ≤ 64 → AreElses room es → AreElsesFormed b es
  elses-formed room b end_elses r h = tt
  elses-formed room b (more_elses (Else' line (Some mask) _ block) rest) r h = (h.0, block-formed in_where room b block r h.1, elses-formed room b rest r h.2)
  elses-formed room b (more_elses (Else' line None _ block) rest) r h = (block-formed in_where room b block r h.0, h.1)
