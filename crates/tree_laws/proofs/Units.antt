-- The tree of a unit is one that the grammar can give, where each statement does what it may.
use Rattle.std.proofs.Common.{◌≡◌, ◌<◌, inl, inr, ℕ, zero, suc, ◌-◌, Bool, true, false, Option, Some, None, List, [], ◌∷◌, ◌++◌, All, nat_lt, refl, sym, ap, ◌∙◌, subst, arith}
use Rattle.std.specs.Prelude.{if◌then◌else◌}
use Rattle.std.proofs.lemmas.Bool.{ltb-true, true≢false}
use Rattle.std.proofs.lemmas.List.Elements.{All-nil, All-cons, All-head, All-tail, All-append}
use Rattle.ws_lex.specs.declared.token.Token.{Token}
use Rattle.ws_tree.specs.declared.expr.Expr.{Expr}
use Rattle.ws_tree.specs.declared.stmt.Body.{Body}
use Rattle.ws_tree.specs.declared.stmt.Body.TheVariants as body
use Rattle.ws_tree.specs.declared.stmt.Body.TheBlock.{hidden-the_row-Stmt-0, hidden-the_row-Else-1}
use Rattle.ws_tree.specs.declared.stmt.Decl.{Decl}
use Rattle.ws_tree.specs.declared.stmt.Else.{Else, Else'}
use Rattle.ws_tree.specs.declared.stmt.Stmt.{Stmt}
use Rattle.ws_tree.specs.Trees.{Stmts, end_stmts, more_stmts, Elses, end_elses, more_elses}
use Rattle.ws_tree.specs.Opened.{trees_open}
use Rattle.ws_tree.specs.Grammatical.{IsOptional, IsDecl, IsBody, AreStmts, AreElses, IsOneAssignment, HasNoElse, Within, anywhere, in_where, in_forall}
use Rattle.ws_stmt.specs.declared.role.Block.{Block}
use Rattle.ws_stmt.specs.declared.role.Block.TheVariants as block
use Rattle.ws_parse.specs.declared.place.Place.{Place}
use Rattle.ws_parse.specs.declared.place.Place.TheVariants as place
use Rattle.ws_parse.specs.declared.place.Opening.{Opening}
use Rattle.ws_parse.specs.declared.place.Opening.TheVariants as opening
use Rattle.ws_parse.specs.declared.place.Move.{Move}
use Rattle.ws_parse.specs.declared.place.Move.TheVariants as move
use Rattle.ws_parse.specs.declared.place.Naming.{Naming}
use Rattle.ws_parse.specs.declared.place.Naming.TheVariants as naming
use Rattle.ws_parse.specs.Turns.{Moves, goes_on}
use Rattle.ws_parse.specs.Blocks.{ReadsStmt, ReadsBlock, ReadsUnit, stmt, one, after, within, built, else_of, else_mask, else_front, beyond, inside, line_of}
use Rattle.ws_parse.specs.Blocks.ReadsStmt.{idle, acts, nested}
use Rattle.ws_parse.specs.Blocks.ReadsBlock.{more, elsewhere, closed}
use Rattle.ws_parse.specs.Blocks.ReadsUnit.{named as u_named, unread as u_unread, implied as u_implied, declared as u_declared, left_out as u_left_out, idle as u_idle, acts as u_acts, nested as u_nested, finished as u_finished, finished_unread as u_finished_unread, over as u_over}
use Rattle.tree_laws.specs.Laws.{EveryTreeIsGrammatical}
use Rattle.tree_laws.proofs.Good.{IsLeft, within_of, IsGoodOpening, Belongs, GoesOn, IsGoodMove}

-- ---- statements in lists

abbrev pub IsGood : Within → ℕ → Stmt → Type 0
IsGood k room s = IsBody k room s.line s.body

abbrev pub GoodElses : ℕ → List Else → Type 0
GoodElses room es = AreElses room (hidden-the_row-Else-1 es)

pub left_good : (k : Within) (room line : ℕ) (b : Body) → IsLeft b → IsBody k room line b
left_good k room line b (inl e) = subst (IsBody k room line) (sym e) tt
left_good k room line b (inr e) = subst (IsBody k room line) (sym e) tt

pub one_good : (k : Within) (room line : ℕ) (b : Body) → IsBody k room line b → All (IsGood k room) (one line b)
one_good k room line b h = All-cons (IsGood k room) (stmt line b) [] h (All-nil (IsGood k room))

pub after_good : (k : Within) (room line : ℕ) (p : Place) (y : Option Body) → IsGoodMove p line (move.Close y) → All (IsGood k room) (after line y)
after_good k room line p None h = All-nil (IsGood k room)
after_good k room line p (Some b) h = one_good k room line b (left_good k room line b h)

pub stmts_are : (k : Within) (room : ℕ) (ss : List Stmt) → All (IsGood k room) ss → AreStmts k room (hidden-the_row-Stmt-0 ss)
unfolding trees_open
stmts_are k room [] h = tt
stmts_are k room (x ∷ xs) h = (All-head (IsGood k room) x xs h, stmts_are k room xs (All-tail (IsGood k room) x xs h))

-- ---- one more block may be nested

one_stmts : {m : _} (k : Within) (room line : ℕ) (ss : Stmts m) → IsOneAssignment line ss → AreStmts k room ss
one_stmts k room line (more_stmts l (body.Assign left right) end_stmts) h = ((h.1, h.2), tt)
one_stmts k room line ss h = absurd h

no_elses : {m : _} (room : ℕ) (es : Elses m) → HasNoElse es → AreElses room es
no_elses room end_elses h = tt
no_elses room (more_elses e es) h = absurd h

mutual
  pub body_more : (k : Within) (room line : ℕ) (b : Body) → IsBody k room line b → IsBody k (suc room) line b
  body_more k room line (body.Assign l r) h = h
  body_more k room line body.Unsupported h = tt
  body_more k room line body.TooDeep h = tt
  body_more anywhere zero line (body.Forall' is m _ ss) h = (h.0, one_stmts in_forall zero line ss h.1)
  body_more anywhere (suc room) line (body.Forall' is m _ ss) h = (h.0, stmts_more in_forall room ss h.1)
  body_more in_forall zero line (body.Forall' is m _ ss) h = (h.0, one_stmts in_forall zero line ss h.1)
  body_more in_forall (suc room) line (body.Forall' is m _ ss) h = (h.0, stmts_more in_forall room ss h.1)
  body_more in_where room line (body.Forall' is m _ ss) h = absurd h
  body_more k zero line (body.Masked' m _ ss _ es) h = (h.0, one_stmts in_where zero line ss h.1, no_elses zero es h.2)
  body_more k (suc room) line (body.Masked' m _ ss _ es) h = (h.0, stmts_more in_where room ss h.1, elses_more room es h.2)
  body_more anywhere (suc room) line (body.Loop' x l u s _ ss) h = (h.0, h.1, h.2, stmts_more anywhere room ss h.3)
  body_more k room line (body.Loop' x l u s _ ss) h = absurd h
  body_more anywhere (suc room) line (body.Shared' _ ss) h = stmts_more anywhere room ss h
  body_more k room line (body.Shared' _ ss) h = absurd h
  body_more anywhere room line (body.Allocate ps) h = h
  body_more k room line (body.Allocate ps) h = absurd h
  body_more anywhere room line (body.Deallocate xs) h = h
  body_more k room line (body.Deallocate xs) h = absurd h
  body_more anywhere room line (body.Read es) h = h
  body_more k room line (body.Read es) h = absurd h

  pub stmts_more : {m : _} (k : Within) (room : ℕ) (ss : Stmts m) → AreStmts k room ss → AreStmts k (suc room) ss
  stmts_more k room end_stmts h = tt
  stmts_more k room (more_stmts line b rest) h = (body_more k room line b h.0, stmts_more k room rest h.1)

  pub elses_more : {m : _} (room : ℕ) (es : Elses m) → AreElses room es → AreElses (suc room) es
  elses_more room end_elses h = tt
  elses_more room (more_elses (Else' line (Some m) _ ss) rest) h = (h.0, stmts_more in_where room ss h.1, elses_more room rest h.2)
  elses_more room (more_elses (Else' line None _ ss) rest) h = (stmts_more in_where room ss h.0, h.1)

pub all_more : (k : Within) (room : ℕ) (ss : List Stmt) → All (IsGood k room) ss → All (IsGood k (suc room)) ss
all_more k room [] h = All-nil (IsGood k (suc room))
all_more k room (x ∷ xs) h = All-cons (IsGood k (suc room)) x xs (body_more k room x.line x.body (All-head (IsGood k room) x xs h)) (all_more k room xs (All-tail (IsGood k room) x xs h))

-- ---- what a block stands as

room_is : (n : ℕ) → nat_lt n 64 ≡ true → 64 - n ≡ suc (64 - suc n)
room_is n t = let l : n < 64 = ltb-true n 64 t in omega (arith, l)

either_body : (k : Within) (room line : ℕ) (b : Body) (t : Bool) → (t ≡ true → IsBody k room line b) → IsBody k room line (if t then b else body.TooDeep)
either_body k room line b true f = f refl
either_body k room line b false f = tt

either_list : (k : Within) (room line : ℕ) (ss : List Stmt) (t : Bool) → (t ≡ true → All (IsGood k room) ss) → All (IsGood k room) (if t then ss else one line body.TooDeep)
either_list k room line ss true f = f refl
either_list k room line ss false f = one_good k room line body.TooDeep tt

within_good : (k : Within) (n line : ℕ) (b : Body) → IsBody k (suc (64 - suc n)) line b → All (IsGood k (64 - n)) (within n line b)
within_good k n line b h = one_good k (64 - n) line (if nat_lt n 64 then b else body.TooDeep) (either_body k (64 - n) line b (nat_lt n 64) (λ t. subst (λ r. IsBody k r line b) (sym (room_is n t)) h))

parallel_good : (k : Within) (n line : ℕ) (ss : List Stmt) → All (IsGood k (64 - suc n)) ss → All (IsGood k (64 - n)) (if nat_lt n 64 then ss else one line body.TooDeep)
parallel_good k n line ss h = either_list k (64 - n) line ss (nat_lt n 64) (λ t. subst (λ r. All (IsGood k r) ss) (sym (room_is n t)) (all_more k (64 - suc n) ss h))

pub built_good : (k : Within) (p : Place) (b : Block) (o : Opening) (n line : ℕ) (ss : List Stmt) (es : List Else) →
    IsGoodOpening k o → Belongs b o → All (IsGood (within_of (inside p b)) (64 - suc n)) ss → GoodElses (64 - suc n) es → All (IsGood k (64 - n)) (built n line o ss es)
unfolding trees_open
built_good k p b (opening.Lost x) n line ss es h g s e = one_good k (64 - n) line x (left_good k (64 - n) line x h)
built_good k p block.Where (opening.Where m) n line ss es h g s e = within_good k n line (body.Masked m ss es) (h, stmts_are in_where (64 - suc n) ss s, e)
built_good k p b (opening.Where m) n line ss es h g s e = absurd g
built_good anywhere p block.Forall (opening.Forall is m) n line ss es h g s e = within_good anywhere n line (body.Forall is m ss) (h, stmts_are in_forall (64 - suc n) ss s)
built_good in_forall p block.Forall (opening.Forall is m) n line ss es h g s e = within_good in_forall n line (body.Forall is m ss) (h, stmts_are in_forall (64 - suc n) ss s)
built_good in_where p block.Forall (opening.Forall is m) n line ss es h g s e = absurd h
built_good k p b (opening.Forall is m) n line ss es h g s e = absurd g
built_good anywhere p block.Do (opening.Do i) n line ss es h g s e = within_good anywhere n line (body.Loop i.name i.l i.u i.s ss) (h.0, h.1, h.2, stmts_are anywhere (64 - suc n) ss s)
built_good k p block.Do (opening.Do i) n line ss es h g s e = absurd h
built_good k p b (opening.Do i) n line ss es h g s e = absurd g
built_good anywhere p block.ParallelWorkshare opening.Region n line ss es h g s e = within_good anywhere n line (body.Shared ss) (stmts_are anywhere (64 - suc n) ss s)
built_good anywhere p block.Workshare opening.Region n line ss es h g s e = within_good anywhere n line (body.Shared ss) (stmts_are anywhere (64 - suc n) ss s)
built_good anywhere p b opening.Region n line ss es h g s e = absurd g
built_good k p b opening.Region n line ss es h g s e = absurd h
built_good anywhere p block.Parallel opening.Parallel n line ss es h g s e = parallel_good anywhere n line ss s
built_good anywhere p b opening.Parallel n line ss es h g s e = absurd g
built_good k p b opening.Parallel n line ss es h g s e = absurd h

-- ---- ELSEWHERE

pub front_good : (k : Within) (room line : ℕ) (odd : Bool) → All (IsGood k room) (else_front line odd)
front_good k room line true = one_good k room line body.Unsupported tt
front_good k room line false = All-nil (IsGood k room)

else_is : (room line : ℕ) (m : Option Expr) (odd : Bool) (ss : List Stmt) (fs : List Else) → (odd ≡ false → IsOptional m) →
    AreStmts in_where room (hidden-the_row-Stmt-0 ss) → GoodElses room fs → (m ≡ None → fs ≡ []) → GoodElses room (else_of line (else_mask m odd) ss ∷ fs)
unfolding trees_open
else_is room line None true ss fs h s e none = (inl refl, s, e)
else_is room line None false ss fs h s e none = (s, subst (λ z. HasNoElse (hidden-the_row-Else-1 z)) (sym (none refl)) tt)
else_is room line (Some m) true ss fs h s e none = (inl refl, s, e)
else_is room line (Some m) false ss fs h s e none = (h refl, s, e)

pub else_good : (p : Place) (n line : ℕ) (m : Option Expr) (odd : Bool) (ss : List Stmt) (fs : List Else) → GoesOn p → (odd ≡ false → IsOptional m) →
    All (IsGood (within_of (beyond p m)) (64 - n)) ss → GoodElses (64 - n) fs → (goes_on (beyond p m) ≡ false → fs ≡ []) →
    GoodElses (64 - n) (else_of line (else_mask m odd) (else_front line odd ++ ss) ∷ fs)
else_good (place.In block.Where shared false) n line m odd ss fs g h s e none =
    let all : All (IsGood in_where (64 - n)) (else_front line odd ++ ss) = All-append (IsGood in_where (64 - n)) (else_front line odd) ss (front_good in_where (64 - n) line odd) s in
    else_is (64 - n) line m odd (else_front line odd ++ ss) fs h (stmts_are in_where (64 - n) (else_front line odd ++ ss) all) e (λ q. none (ap (λ z. goes_on (beyond (place.In block.Where shared false) z)) q))
else_good p n line m odd ss fs g h s e none = absurd (true≢false (sym g))

no_else : (p : Place) (es : List Else) → GoesOn p → goes_on p ≡ false → es ≡ []
no_else p es g h = absurd (true≢false (sym g ∙ h))

-- ---- readings

pub record AreGood (p : Place) (n : ℕ) (ss : List Stmt) (es : List Else) (ys : List Stmt) : Type 0 where
  pub stmts : All (IsGood (within_of p) (64 - n)) ss
  pub elses : GoodElses (64 - n) es
  pub none : goes_on p ≡ false → es ≡ []
  pub ends : (k : Within) (room : ℕ) → All (IsGood k room) ys

no_elses_good : (room : ℕ) → GoodElses room []
unfolding trees_open
no_elses_good room = tt

module _ (good_move : (p : Place) (r : List Token) (m : Move) → Moves p r m → IsGoodMove p (line_of r) m) where
  nested_good : (k : Within) (p : Place) (b : Block) (o : Opening) (n line : ℕ) (ss : List Stmt) (es : List Else) (ys : List Stmt) →
      IsGoodOpening k o × Belongs b o → AreGood (inside p b) (suc n) ss es ys → All (IsGood k (64 - n)) (built n line o ss es ++ ys)
  nested_good k p b o n line ss es ys h g = All-append (IsGood k (64 - n)) (built n line o ss es) ys (built_good k p b o n line ss es h.0 h.1 g.stmts g.elses) (g.ends k (64 - n))

  mutual
    pub stmt_good : (p : Place) (n : ℕ) (rs : List (List Token)) (ss : List Stmt) (rest : List (List Token)) → ReadsStmt p n rs ss rest → All (IsGood (within_of p) (64 - n)) ss
    stmt_good p n _ _ rest (idle {r = r} {b = b} m) = one_good (within_of p) (64 - n) (line_of r) b (left_good (within_of p) (64 - n) (line_of r) b (good_move p r (move.Idle b) m))
    stmt_good p n _ _ rest (acts {r = r} {b = b} m) = one_good (within_of p) (64 - n) (line_of r) b (good_move p r (move.Act b) m (64 - n))
    stmt_good p n _ _ rest (nested {r = r} {us = us} {b = b} {o = o} {ss = ss} {xs = xs} {es = es} m d) =
        nested_good (within_of p) p b o n (line_of r) ss es xs (good_move p r (move.Open b o) m) (block_good (inside p b) (suc n) us ss es xs rest d)

    pub block_good : (p : Place) (n : ℕ) (rs : List (List Token)) (ss : List Stmt) (es : List Else) (ys : List Stmt) (rest : List (List Token)) → ReadsBlock p n rs ss es ys rest → AreGood p n ss es ys
    block_good p n rs _ es ys rest (more {us = us} {xs = xs} {ss = ss} d h) =
        let g : AreGood p n ss es ys = block_good p n us ss es ys rest h in
        record {
          stmts = All-append (IsGood (within_of p) (64 - n)) xs ss (stmt_good p n rs xs us d) g.stmts;
          elses = g.elses;
          none = g.none;
          ends = g.ends;
        }
    block_good p n _ _ _ ys rest (elsewhere {r = r} {us = us} {m = m} {odd = odd} {ss = ss} {es = fs} d h) =
        let g : AreGood (beyond p m) n ss fs ys = block_good (beyond p m) n us ss fs ys rest h in
        let may : IsGoodMove p (line_of r) (move.Next m odd) = good_move p r (move.Next m odd) d in
        record {
          stmts = All-nil (IsGood (within_of p) (64 - n));
          elses = else_good p n (line_of r) m odd ss fs may.0 may.1 g.stmts g.elses g.none;
          none = no_else p (else_of (line_of r) (else_mask m odd) (else_front (line_of r) odd ++ ss) ∷ fs) may.0;
          ends = g.ends;
        }
    block_good p n _ _ _ _ rest (closed {r = r} {y = y} m) = record {
      stmts = All-nil (IsGood (within_of p) (64 - n));
      elses = no_elses_good (64 - n);
      none = λ _. refl;
      ends = λ k room. after_good k room (line_of r) p y (good_move p r (move.Close y) m);
    }

  -- ---- the unit

  abbrev Whole : List Decl → List Stmt → Type 0
  Whole ds ss = All IsDecl ds × All (IsGood anywhere 64) ss

  with_stmts : (ds : List Decl) (xs ss : List Stmt) → All (IsGood anywhere 64) xs → Whole ds ss → Whole ds (xs ++ ss)
  with_stmts ds xs ss h g = (g.0, All-append (IsGood anywhere 64) xs ss h g.1)

  with_left : (ds : List Decl) (line : ℕ) (b : Body) (ss : List Stmt) → IsLeft b → Whole ds ss → Whole ds (one line b ++ ss)
  with_left ds line b ss h g = with_stmts ds (one line b) ss (one_good anywhere 64 line b (left_good anywhere 64 line b h)) g

  pub unit_good : (p : Place) (n : Naming) (rs : List (List Token)) (ds : List Decl) (ss : List Stmt) (y : List ℕ) → within_of p ≡ anywhere → ReadsUnit p n rs ds ss y → Whole ds ss
  unit_good p n _ ds ss y q (u_named {r = r} {rs = rs} {x = x} m h) = unit_good place.Named (naming.Called x) rs ds ss y refl h
  unit_good p n _ ds _ y q (u_unread {r = r} {rs = rs} {ss = ss} {b = b} m h) = with_left ds (line_of r) b ss (good_move p r (move.NameUnread b) m) (unit_good place.Named naming.Unread rs ds ss y refl h)
  unit_good p n _ ds ss y q (u_implied {r = r} {rs = rs} m h) = unit_good place.Declarations n rs ds ss y refl h
  unit_good p n _ _ ss y q (u_declared {r = r} {rs = rs} {ds = ds} {es = es} m h) =
      let g : Whole es ss = unit_good place.Declarations n rs es ss y refl h in
      (All-append IsDecl ds es (good_move p r (move.Declare ds) m) g.0, g.1)
  unit_good p n _ ds _ y q (u_left_out {r = r} {rs = rs} {ss = ss} m h) = with_left ds (line_of r) body.Unsupported ss (inl refl) (unit_good place.Declarations n rs ds ss y refl h)
  unit_good p n _ ds _ y q (u_idle {r = r} {rs = rs} {ss = ss} {b = b} m h) = with_left ds (line_of r) b ss (good_move p r (move.Idle b) m) (unit_good p n rs ds ss y q h)
  unit_good p n _ ds _ y q (u_acts {r = r} {rs = rs} {ss = ss} {b = b} m h) =
      with_stmts ds (one (line_of r) b) ss (one_good anywhere 64 (line_of r) b (subst (λ k. IsBody k 64 (line_of r) b) q (good_move p r (move.Act b) m 64))) (unit_good place.Statements n rs ds ss y refl h)
  unit_good p n _ ds _ y q (u_nested {r = r} {us = us} {rs = rs} {b = b} {o = o} {xs = xs} {ys = ys} {ss = ss} {es = es} m d h) =
      with_stmts ds (built 0 (line_of r) o xs es ++ ys) ss
      (subst (λ k. All (IsGood k 64) (built 0 (line_of r) o xs es ++ ys)) q (nested_good (within_of p) p b o 0 (line_of r) xs es ys (good_move p r (move.Open b o) m) (block_good (inside p b) 1 us xs es ys rs d)))
      (unit_good place.Statements n rs ds ss y refl h)
  unit_good p n _ ds ss y q (u_finished {r = r} {rs = rs} m f h) = unit_good place.After n rs ds ss y refl h
  unit_good p n _ ds _ y q (u_finished_unread {r = r} {rs = rs} {ss = ss} {b = b} m h) = with_left ds (line_of r) b ss (good_move p r (move.FinishUnread b) m) (unit_good place.After n rs ds ss y refl h)
  unit_good p n _ _ _ _ q u_over = (All-nil IsDecl, All-nil (IsGood anywhere 64))

  pub law : EveryTreeIsGrammatical
  law runs t u = let g : Whole t.decls t.body = unit_good place.Head naming.Unnamed runs t.decls t.body t.name refl u.reads in record { decls = g.0; body = g.1 }
