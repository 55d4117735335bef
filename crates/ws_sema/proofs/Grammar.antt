-- What the grammar says of the parts of statements.
use Rattle.std.proofs.Common.{ℕ, zero, suc, List, All, Option, Some, None}
use mathlib.Core.Former.{Count}
use Rattle.ws_tree.specs.declared.expr.Expr.{Expr}
use Rattle.ws_tree.specs.declared.stmt.Index.{Index}
use Rattle.ws_tree.specs.declared.stmt.Part.{Part}
use Rattle.ws_tree.specs.declared.stmt.Body.TheVariants.{Assign, Masked', Forall', Loop', Allocate, Read, Shared'}
use Rattle.ws_tree.specs.declared.stmt.Else.{Else'}
use Rattle.ws_tree.specs.Trees.{Stmts, end_stmts, more_stmts, Elses, end_elses, more_elses}
use Rattle.ws_tree.specs.Grammatical as grammar
use Rattle.ws_tree.specs.Grammatical.{IsSide, IsDesignator, IsOptional, IsPart, IsHeader, IsOneAssignment, HasNoElse, IsBody, AreStmts, AreElses}
use Rattle.ws_tree.specs.Grammatical.Within.{anywhere, in_where, in_forall}

-- in some place, and with some room for nested blocks
pub record StandsIn {m : Count} (block : Stmts m) : Type 0 where
  pub place : grammar.Within
  pub room : ℕ
  pub stands : AreStmts place room block

one_assignment : {m : Count} (line : ℕ) (block : Stmts m) → IsOneAssignment line block → AreStmts anywhere 0 block
one_assignment line end_stmts h = absurd h
one_assignment line (more_stmts l (Assign left right) end_stmts) h = ((h.1, h.2), tt)
one_assignment line (more_stmts l (Assign left right) (more_stmts n b rest)) h = absurd h
one_assignment line (more_stmts l _ rest) h = absurd h

alone : {m : Count} (line : ℕ) (block : Stmts m) → IsOneAssignment line block → StandsIn block
alone line block h = record { place = anywhere; room = 0; stands = one_assignment line block h }

pub no_else : {m : Count} (es : Elses m) → HasNoElse es → AreElses 0 es
no_else end_elses h = tt
no_else (more_elses e es) h = absurd h

pub record ElsesStandIn {m : Count} (rest : Elses m) : Type 0 where
  pub room : ℕ
  pub stands : AreElses room rest

pub else_parts : {m : Count} (room line : ℕ) (mask : Option Expr) (c : _) (block : _) (rest : Elses m) → AreElses room (more_elses (Else' line mask c block) rest) → IsOptional mask × AreStmts in_where room block × ElsesStandIn rest
else_parts room line None c block rest h = (tt, h.0, record { room = 0; stands = no_else rest h.1 })
else_parts room line (Some e) c block rest h = (h.0, h.1, record { room = room; stands = h.2 })

pub where_parts : (k : grammar.Within) (room line : ℕ) (mask : Expr) (c : _) (block : _) (d : _) (rest : _) → IsBody k room line (Masked' mask c block d rest) → IsSide mask × StandsIn block × ElsesStandIn rest
where_parts k zero line mask c block d rest h = (h.0, alone line block h.1, record { room = 0; stands = no_else rest h.2 })
where_parts k (suc room) line mask c block d rest h = (h.0, record { place = in_where; room = room; stands = h.1 }, record { room = room; stands = h.2 })

pub forall_parts : (k : grammar.Within) (room line : ℕ) (is : List Index) (mask : Option Expr) (c : _) (block : _) → IsBody k room line (Forall' is mask c block) → IsHeader is mask × StandsIn block
forall_parts anywhere zero line is mask c block h = (h.0, alone line block h.1)
forall_parts anywhere (suc room) line is mask c block h = (h.0, record { place = in_forall; room = room; stands = h.1 })
forall_parts in_where zero line is mask c block h = absurd h
forall_parts in_where (suc room) line is mask c block h = absurd h
forall_parts in_forall zero line is mask c block h = (h.0, alone line block h.1)
forall_parts in_forall (suc room) line is mask c block h = (h.0, record { place = in_forall; room = room; stands = h.1 })

pub loop_parts : (k : grammar.Within) (room line : ℕ) (x : List ℕ) (l u : Expr) (s : Option Expr) (c : _) (block : _) → IsBody k room line (Loop' x l u s c block) → IsSide l × IsSide u × IsOptional s × StandsIn block
loop_parts anywhere zero line x l u s c block h = absurd h
loop_parts anywhere (suc room) line x l u s c block h = (h.0, h.1, h.2, record { place = anywhere; room = room; stands = h.3 })
loop_parts in_where zero line x l u s c block h = absurd h
loop_parts in_where (suc room) line x l u s c block h = absurd h
loop_parts in_forall zero line x l u s c block h = absurd h
loop_parts in_forall (suc room) line x l u s c block h = absurd h

pub shared_parts : (k : grammar.Within) (room line : ℕ) (c : _) (block : _) → IsBody k room line (Shared' c block) → StandsIn block
shared_parts anywhere zero line c block h = absurd h
shared_parts anywhere (suc room) line c block h = record { place = anywhere; room = room; stands = h }
shared_parts in_where zero line c block h = absurd h
shared_parts in_where (suc room) line c block h = absurd h
shared_parts in_forall zero line c block h = absurd h
shared_parts in_forall (suc room) line c block h = absurd h

pub allocated_parts : (k : grammar.Within) (room line : ℕ) (ps : List Part) → IsBody k room line (Allocate ps) → All IsPart ps
allocated_parts anywhere room line ps h = h.1
allocated_parts in_where room line ps h = absurd h
allocated_parts in_forall room line ps h = absurd h

pub read_parts : (k : grammar.Within) (room line : ℕ) (es : List Expr) → IsBody k room line (Read es) → All IsDesignator es
read_parts anywhere room line es h = h.1
read_parts in_where room line es h = absurd h
read_parts in_forall room line es h = absurd h
