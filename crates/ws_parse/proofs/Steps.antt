-- One statement more: what can follow before it and after it.
use Rattle.std.proofs.Common.{◌≡◌, ◌||◌, ℕ, suc, Bool, true, false, Option, Some, None, List, [], ◌∷◌, ◌++◌, length, refl, sym, ap, ◌∙◌, subst}
use Rattle.std.proofs.lemmas.List.{append_assoc, append-nil}
use Rattle.ws_lex.specs.declared.token.Token.{Token}
use Rattle.ws_tree.specs.declared.expr.Expr.{Expr}
use Rattle.ws_tree.specs.declared.stmt.Body.{Body}
use Rattle.ws_tree.specs.declared.stmt.Body.TheVariants as body
use Rattle.ws_tree.specs.declared.stmt.Decl.{Decl}
use Rattle.ws_tree.specs.declared.stmt.Else.{Else}
use Rattle.ws_tree.specs.declared.stmt.Stmt.{Stmt}
use Rattle.ws_tree.specs.declared.stmt.Tree.{Tree}
use Rattle.ws_stmt.specs.declared.role.Block.{Block}
use Rattle.ws_parse.specs.declared.place.Place.{Place}
use Rattle.ws_parse.specs.declared.place.Place.TheVariants as place
use Rattle.ws_parse.specs.declared.place.Opening.{Opening}
use Rattle.ws_parse.specs.declared.place.Move.{Move}
use Rattle.ws_parse.specs.declared.place.Move.TheVariants as move
use Rattle.ws_parse.specs.declared.place.Naming.{Naming}
use Rattle.ws_parse.specs.declared.place.Naming.TheVariants as naming
use Rattle.ws_parse.specs.declared.frame.Frame.{Frame}
use Rattle.ws_parse.specs.declared.frame.Part.{Part}
use Rattle.ws_parse.specs.declared.frame.Part.TheVariants as part
use Rattle.ws_parse.specs.Turns.{Moves}
use Rattle.ws_parse.specs.Blocks.{ReadsStmt, ReadsBlock, ReadsUnit, one, after, built, else_of, else_mask, else_front, beyond, inside as inside', line_of, fits}
use Rattle.ws_parse.specs.Blocks.ReadsStmt.{idle, acts, nested}
use Rattle.ws_parse.specs.Blocks.ReadsBlock.{more, elsewhere, closed}
use Rattle.ws_parse.specs.Blocks.ReadsUnit.{named as u_named, unread as u_unread, implied as u_implied, declared as u_declared, left_out as u_left_out, idle as u_idle, acts as u_acts, nested as u_nested, finished as u_finished, finished_unread as u_finished_unread, over as u_over}
use Rattle.ws_parse.specs.States.{Goes, first_of, elses_of, built_of, next_part, renewed, settled, is_outermost, stacked, Sits, is_block}
use Rattle.ws_parse.specs.States.Goes.{outside, inside}
use Rattle.ws_parse.proofs.Firsts.{InBlock, OpenInBlock, NextInBlock, EndOfBlock, BlockRest, FirstInBlock, block_first, InUnit, DeclaredInUnit, OpenInUnit, UnitRest, FirstInUnit, unit_first}

-- the statement does this there, and nothing else
pub record Only (p : Place) (r : List Token) (m : Move) : Type 0 where
  pub moves : Moves p r m
  pub unique : (k : Move) → Moves p r k → k ≡ m

abbrev pub tree : List ℕ → List Decl → List Stmt → Tree
tree x ds ss = record { name = x; decls = ds; body = ss }

pub unit_only : {p : Place} {n : Naming} {r : List Token} {rs : List (List Token)} {ds : List Decl} {ss : List Stmt} {x : List ℕ} {m : Move} → Only p r m → FirstInUnit p n r rs ds ss x → UnitRest p n (line_of r) rs ds ss x m
unit_only {p = p} {n = n} {r = r} {rs = rs} {ds = ds} {ss = ss} {x = x} o g = subst (λ (k : Move). UnitRest p n (line_of r) rs ds ss x k) (o.unique g.m g.moves) g.left

pub block_only : {p : Place} {n : ℕ} {r : List Token} {rs rest : List (List Token)} {ss ys : List Stmt} {es : List Else} {m : Move} → Only p r m → FirstInBlock p n r rs ss es ys rest → BlockRest p n (line_of r) rs ss es ys rest m
block_only {p = p} {n = n} {r = r} {rs = rs} {rest = rest} {ss = ss} {ys = ys} {es = es} o g = subst (λ (k : Move). BlockRest p n (line_of r) rs ss es ys rest k) (o.unique g.m g.moves) g.left

moved : {x : List ℕ} {ds : List Decl} (here a others : List Stmt) {ss : List Stmt} {t : Tree} → t ≡ tree x ds (here ++ ss) → ss ≡ a ++ others → t ≡ tree x ds ((here ++ a) ++ others)
moved {x = x} {ds = ds} here a others e p = e ∙ ap (λ (zs : List Stmt). tree x ds (here ++ zs)) p ∙ ap (λ (zs : List Stmt). tree x ds zs) (sym (append_assoc here a others))

moved_back : {x : List ℕ} {ds : List Decl} (here a others : List Stmt) {h : List Stmt} {t : Tree} → t ≡ tree x ds (h ++ others) → h ≡ here ++ a → t ≡ tree x ds (here ++ (a ++ others))
moved_back {x = x} {ds = ds} here a others e p = e ∙ ap (λ (zs : List Stmt). tree x ds (zs ++ others)) p ∙ ap (λ (zs : List Stmt). tree x ds zs) (append_assoc here a others)

abbrev pub entered : ℕ → Opening → Place → List Frame → List Stmt → Frame
entered l o p fs here = record { line = l; opening = o; place = settled p (is_outermost fs); before = here; part = part.First }

part_next : (q : Part) (here ss : List Stmt) (l : ℕ) (m : Option Expr) (es : List Else) →
    (first_of q here ≡ first_of (next_part q here l m) ss) × (elses_of q here (else_of l m ss ∷ es) ≡ elses_of (next_part q here l m) ss es)
part_next part.First here ss l m es = (refl, refl)
part_next (part.Later first done k j) here ss l m es = (refl, sym (append_assoc done (else_of k j here ∷ []) (else_of l m ss ∷ es)))

built_next : (n : ℕ) (f : Frame) (here ss : List Stmt) (l : ℕ) (m : Option Expr) (es : List Else) → built_of n f here (else_of l m ss ∷ es) ≡ built_of n (renewed f here l m) ss es
built_next n f here ss l m es =
    let p = part_next f.part here ss l m es in
    ap (λ (zs : List Stmt). built n f.line f.opening zs (elses_of f.part here (else_of l m ss ∷ es))) p.0 ∙ ap (λ (zs : List Else). built n f.line f.opening (first_of (next_part f.part here l m) ss) zs) p.1

module _ {ds : List Decl} where
  -- ---- a statement that stands for one

  put_unit : {q : Place} {n : Naming} {l : ℕ} {rs : List (List Token)} {b : Body} {es : List Decl} {ss : List Stmt} {x : List ℕ} {t : Tree} (here : List Stmt) →
      InUnit q n l rs b es ss x → t ≡ tree x (ds ++ es) (here ++ ss) → Goes n ds q [] (here ++ one l b) rs t
  put_unit {l = l} {b = b} here g is = outside g.unit (moved here (one l b) g.others is g.is)

  put_block : {n : Naming} {p : Place} {l : ℕ} {f : Frame} {fs : List Frame} {rs us : List (List Token)} {b : Body} {es : List Else} {ss ys : List Stmt} {t : Tree} (here : List Stmt) →
      InBlock p (suc (length fs)) l rs b ss es ys us → Goes n ds f.place fs (f.before ++ (built_of (length fs) f (here ++ ss) es ++ ys)) us t → Goes n ds p (f ∷ fs) (here ++ one l b) rs t
  put_block {n = n} {l = l} {f = f} {fs = fs} {us = us} {b = b} {es = es} {ys = ys} {t = t} here g d =
      inside g.block (subst (λ (zs : List Stmt). Goes n ds f.place fs (f.before ++ (built_of (length fs) f zs es ++ ys)) us t) (ap (λ (zs : List Stmt). here ++ zs) g.is ∙ sym (append_assoc here (one l b) g.others)) d)

  pub take_unit : {p q : Place} {n n' : Naming} {r : List Token} {rs : List (List Token)} {fs : List Frame} {here h : List Stmt} {t : Tree} (a : List Stmt) →
      ((es : List Decl) (ss : List Stmt) (x : List ℕ) → ReadsUnit q n' rs es ss x → ReadsUnit p n (r ∷ rs) es (a ++ ss) x) → h ≡ here ++ a → is_outermost fs ≡ true → Goes n' ds q fs h rs t → Goes n ds p fs here (r ∷ rs) t
  take_unit {here = here} a k e out (outside {ss = ss} {es = es} {x = x} d is) = outside (k es ss x d) (moved_back here a ss is e)
  take_unit a k e out (inside d g) = absurd cc

  take_block : {p : Place} {n : Naming} {r : List Token} {rs : List (List Token)} {f : Frame} {fs : List Frame} {here h : List Stmt} {t : Tree} (a : List Stmt) →
      ((es : List Else) (ss ys : List Stmt) (us : List (List Token)) → ReadsBlock p (suc (length fs)) rs ss es ys us → ReadsBlock p (suc (length fs)) (r ∷ rs) (a ++ ss) es ys us) → h ≡ here ++ a →
      Goes n ds p (f ∷ fs) h rs t → Goes n ds p (f ∷ fs) here (r ∷ rs) t
  take_block {n = n} {f = f} {fs = fs} {here = here} {t = t} a k e (inside {ss = ss} {ys = ys} {es = es} {us = us} d g) =
      inside (k es ss ys us d) (subst (λ (zs : List Stmt). Goes n ds f.place fs (f.before ++ (built_of (length fs) f zs es ++ ys)) us t) (ap (λ (zs : List Stmt). zs ++ ss) e ∙ append_assoc here a ss) g)

  pub idle_on : {p : Place} {n : Naming} {r : List Token} {rs : List (List Token)} {fs : List Frame} {here : List Stmt} {b : Body} {t : Tree} → Only p r (move.Idle b) → Goes n ds p fs here (r ∷ rs) t → Goes n ds p fs (here ++ one (line_of r) b) rs t
  idle_on {here = here} o (outside d is) = put_unit here (unit_only o (unit_first d)) is
  idle_on {here = here} o (inside d g) = put_block here (block_only o (block_first d)) g

  pub idle_back : {p : Place} {n : Naming} {r : List Token} {rs : List (List Token)} {here : List Stmt} {b : Body} {t : Tree} (fs : List Frame) → Moves p r (move.Idle b) → Goes n ds p fs (here ++ one (line_of r) b) rs t → Goes n ds p fs here (r ∷ rs) t
  idle_back {r = r} {b = b} [] k d = take_unit (one (line_of r) b) (λ es ss x u. u_idle k u) refl refl d
  idle_back {r = r} {b = b} (f ∷ fs) k d = take_block (one (line_of r) b) (λ es ss ys us u. more (idle k) u) refl d

  pub act_on : {p : Place} {n : Naming} {r : List Token} {rs : List (List Token)} {fs : List Frame} {here : List Stmt} {b : Body} {t : Tree} → Only p r (move.Act b) → Goes n ds p fs here (r ∷ rs) t → Goes n ds (settled p (is_outermost fs)) fs (here ++ one (line_of r) b) rs t
  act_on {here = here} o (outside d is) = put_unit here (unit_only o (unit_first d)) is
  act_on {here = here} o (inside d g) = put_block here (block_only o (block_first d)) g

  pub act_back : {p : Place} {n : Naming} {r : List Token} {rs : List (List Token)} {here : List Stmt} {b : Body} {t : Tree} (fs : List Frame) → Moves p r (move.Act b) → Goes n ds (settled p (is_outermost fs)) fs (here ++ one (line_of r) b) rs t → Goes n ds p fs here (r ∷ rs) t
  act_back {r = r} {b = b} [] k d = take_unit (one (line_of r) b) (λ es ss x u. u_acts k u) refl refl d
  act_back {r = r} {b = b} (f ∷ fs) k d = take_block (one (line_of r) b) (λ es ss ys us u. more (acts k) u) refl d

  -- ---- a block begins

  pub open_on : {p : Place} {n : Naming} {r : List Token} {rs : List (List Token)} {fs : List Frame} {here : List Stmt} {b : Block} {o : Opening} {t : Tree} →
      Only p r (move.Open b o) → Goes n ds p fs here (r ∷ rs) t → Goes n ds (inside' p b) (entered (line_of r) o p fs here ∷ fs) [] rs t
  open_on {r = r} {here = here} {o = o} only (outside d is) =
      let w = unit_only only (unit_first d) in
      inside w.inner (outside w.unit (moved here (built 0 (line_of r) o w.xs w.fs ++ w.zs) w.others is w.is))
  open_on {n = n} {r = r} {here = here} {o = o} {t = t} only (inside {f = f} {fs = fs} {ss = ss} {ys = ys} {es = es} {us = us} d g) =
      let w = block_only only (block_first d) in
      let a = built (suc (length fs)) (line_of r) o w.xs w.fs ++ w.zs in
      inside w.inner (inside w.block (subst (λ (zs : List Stmt). Goes n ds f.place fs (f.before ++ (built_of (length fs) f zs es ++ ys)) us t) (ap (λ (zs : List Stmt). here ++ zs) w.is ∙ sym (append_assoc here a w.others)) g))

  open_unit : {p : Place} {n : Naming} {r : List Token} {rs us : List (List Token)} {here h xs zs : List Stmt} {fs : List Else} {b : Block} {o : Opening} {t : Tree} →
      Moves p r (move.Open b o) → ReadsBlock (inside' p b) 1 rs xs fs zs us → h ≡ here ++ (built 0 (line_of r) o xs fs ++ zs) → Goes n ds place.Statements [] h us t → Goes n ds p [] here (r ∷ rs) t
  open_unit {r = r} {here = here} {xs = xs} {zs = zs} {fs = fs} {o = o} k i e (outside {ss = ss} d is) = outside (u_nested k i d) (moved_back here (built 0 (line_of r) o xs fs ++ zs) ss is e)

  open_block : {p : Place} {n : Naming} {r : List Token} {rs us : List (List Token)} {here h xs zs : List Stmt} {f : Frame} {fs : List Frame} {gs : List Else} {b : Block} {o : Opening} {t : Tree} →
      Moves p r (move.Open b o) → ReadsBlock (inside' p b) (suc (suc (length fs))) rs xs gs zs us → h ≡ here ++ (built (suc (length fs)) (line_of r) o xs gs ++ zs) → Goes n ds p (f ∷ fs) h us t → Goes n ds p (f ∷ fs) here (r ∷ rs) t
  open_block {n = n} {r = r} {here = here} {xs = xs} {zs = zs} {f = f} {fs = fs} {gs = gs} {o = o} {t = t} k i e (inside {ss = ss} {ys = ys} {es = es} {us = vs} d g) =
      inside (more (nested k i) d) (subst (λ (ws : List Stmt). Goes n ds f.place fs (f.before ++ (built_of (length fs) f ws es ++ ys)) vs t) (ap (λ (ws : List Stmt). ws ++ ss) e ∙ append_assoc here (built (suc (length fs)) (line_of r) o xs gs ++ zs) ss) g)

  pub open_back : {p : Place} {n : Naming} {r : List Token} {rs : List (List Token)} (fs : List Frame) {here : List Stmt} {b : Block} {o : Opening} {t : Tree} →
      Moves p r (move.Open b o) → Goes n ds (inside' p b) (entered (line_of r) o p fs here ∷ fs) [] rs t → Goes n ds p fs here (r ∷ rs) t
  open_back [] k (inside d g) = open_unit k d refl g
  open_back (f ∷ fs) k (inside d g) = open_block k d refl g

  -- ---- a further part of a block, and its end

  pub next_on : {p : Place} {n : Naming} {r : List Token} {rs : List (List Token)} {f : Frame} {fs : List Frame} {here : List Stmt} {m : Option Expr} {odd : Bool} {t : Tree} →
      Only p r (move.Next m odd) → Goes n ds p (f ∷ fs) here (r ∷ rs) t → Goes n ds (beyond p m) (renewed f here (line_of r) (else_mask m odd) ∷ fs) (else_front (line_of r) odd) rs t
  next_on {n = n} {r = r} {here = here} {m = m} {odd = odd} {t = t} o (inside {f = f} {fs = fs} {ss = ss} {ys = ys} {es = es} {us = us} d g) =
      let w = block_only o (block_first d) in
      let l = line_of r in
      let front = else_front l odd ++ w.others in
      let e = ap (λ (zs : List Stmt). built_of (length fs) f (here ++ zs) es) w.none ∙ ap (λ (zs : List Stmt). built_of (length fs) f zs es) (append-nil here) ∙ ap (λ (zs : List Else). built_of (length fs) f here zs) w.is ∙ built_next (length fs) f here front l (else_mask m odd) w.fs in
      inside w.block (subst (λ (zs : List Stmt). Goes n ds f.place fs (f.before ++ (zs ++ ys)) us t) e g)

  pub next_back : {p : Place} {n : Naming} {r : List Token} {rs : List (List Token)} (f : Frame) {fs : List Frame} (here : List Stmt) {m : Option Expr} {odd : Bool} {t : Tree} →
      Moves p r (move.Next m odd) → Goes n ds (beyond p m) (renewed f here (line_of r) (else_mask m odd) ∷ fs) (else_front (line_of r) odd) rs t → Goes n ds p (f ∷ fs) here (r ∷ rs) t
  next_back {n = n} {r = r} f here {m = m} {odd = odd} {t = t} k (inside {fs = fs} {ss = ss} {ys = ys} {es = es} {us = us} d g) =
      let l = line_of r in
      let front = else_front l odd ++ ss in
      let e = built_next (length fs) f here front l (else_mask m odd) es in
      let e' = sym e ∙ ap (λ (zs : List Stmt). built_of (length fs) f zs (else_of l (else_mask m odd) front ∷ es)) (sym (append-nil here)) in
      inside (elsewhere k d) (subst (λ (zs : List Stmt). Goes n ds f.place fs (f.before ++ (zs ++ ys)) us t) e' g)

  pub close_on : {p : Place} {n : Naming} {r : List Token} {rs : List (List Token)} {f : Frame} {fs : List Frame} {here : List Stmt} {y : Option Body} {t : Tree} →
      Only p r (move.Close y) → Goes n ds p (f ∷ fs) here (r ∷ rs) t → Goes n ds f.place fs (f.before ++ (built_of (length fs) f here [] ++ after (line_of r) y)) rs t
  close_on {n = n} {r = r} {rs = rs} {here = here} {y = y} {t = t} o (inside {f = f} {fs = fs} {ss = ss} {ys = ys} {es = es} {us = us} d g) =
      let w = block_only o (block_first d) in
      let e1 = ap (λ (zs : List Stmt). built_of (length fs) f (here ++ zs) es) w.none ∙ ap (λ (zs : List Stmt). built_of (length fs) f zs es) (append-nil here) ∙ ap (λ (zs : List Else). built_of (length fs) f here zs) w.no_else in
      let e2 = ap (λ (zs : List Stmt). f.before ++ (zs ++ ys)) e1 ∙ ap (λ (zs : List Stmt). f.before ++ (built_of (length fs) f here [] ++ zs)) w.is in
      subst (λ (qs : List (List Token)). Goes n ds f.place fs (f.before ++ (built_of (length fs) f here [] ++ after (line_of r) y)) qs t) (sym w.rest_is) (subst (λ (zs : List Stmt). Goes n ds f.place fs zs us t) e2 g)

  pub close_back : {p : Place} {n : Naming} {r : List Token} {rs : List (List Token)} {f : Frame} {fs : List Frame} (here : List Stmt) {y : Option Body} {t : Tree} →
      Moves p r (move.Close y) → Goes n ds f.place fs (f.before ++ (built_of (length fs) f here [] ++ after (line_of r) y)) rs t → Goes n ds p (f ∷ fs) here (r ∷ rs) t
  close_back {n = n} {r = r} {rs = rs} {f = f} {fs = fs} here {y = y} {t = t} k g =
      inside (closed k) (subst (λ (zs : List Stmt). Goes n ds f.place fs (f.before ++ (built_of (length fs) f zs [] ++ after (line_of r) y)) rs t) (sym (append-nil here)) g)

  -- ---- directly in the unit

  pub put_on : {p q : Place} {n n' : Naming} {r : List Token} {rs : List (List Token)} {fs : List Frame} {here : List Stmt} {b : Body} {t : Tree} {m : Move} →
      ((es : List Decl) (ss : List Stmt) (x : List ℕ) → UnitRest p n (line_of r) rs es ss x m → InUnit q n' (line_of r) rs b es ss x) → Only p r m → is_outermost fs ≡ true → Goes n ds p fs here (r ∷ rs) t → Goes n' ds q fs (here ++ one (line_of r) b) rs t
  put_on {here = here} k o e (outside {ss = ss} {es = es} {x = x} d is) = put_unit here (k es ss x (unit_only o (unit_first d))) is
  put_on k o e (inside d g) = absurd cc

  pub place_on : {p q : Place} {n n' : Naming} {r : List Token} {rs : List (List Token)} {fs : List Frame} {here : List Stmt} {t : Tree} {m : Move} →
      ((es : List Decl) (ss : List Stmt) (x : List ℕ) → UnitRest p n (line_of r) rs es ss x m → ReadsUnit q n' rs es ss x) → Only p r m → is_outermost fs ≡ true → Goes n ds p fs here (r ∷ rs) t → Goes n' ds q fs here rs t
  place_on k o e (outside {ss = ss} {es = es} {x = x} d is) = outside (k es ss x (unit_only o (unit_first d))) is
  place_on k o e (inside d g) = absurd cc

  pub place_back : {p q : Place} {n n' : Naming} {r : List Token} {rs : List (List Token)} {fs : List Frame} {here : List Stmt} {t : Tree} →
      ((es : List Decl) (ss : List Stmt) (x : List ℕ) → ReadsUnit q n' rs es ss x → ReadsUnit p n (r ∷ rs) es ss x) → is_outermost fs ≡ true → Goes n' ds q fs here rs t → Goes n ds p fs here (r ∷ rs) t
  place_back k e (outside {ss = ss} {es = es} {x = x} d is) = outside (k es ss x d) is
  place_back k e (inside d g) = absurd cc

-- no block is open where the statement does this
pub blocked : {p : Place} {n : Naming} {ds : List Decl} {r : List Token} {rs : List (List Token)} (fs : List Frame) {here : List Stmt} {t : Tree} {m : Move} →
    ((k l : ℕ) (ss : List Stmt) (es : List Else) (ys : List Stmt) (us : List (List Token)) → BlockRest p k l rs ss es ys us m → ⊥) → Only p r m → is_outermost fs ≡ false → Goes n ds p fs here (r ∷ rs) t → ⊥
blocked [] never o e d = cc
blocked {r = r} (f ∷ fs) {here = here} never o e (inside {ss = ss} {ys = ys} {es = es} {us = us} d g) = never (suc (length fs)) (line_of r) ss es ys us (block_only o (block_first d))

-- and none where it is no statement of the unit itself
pub unblocked : {p : Place} {n : Naming} {ds : List Decl} {r : List Token} {rs : List (List Token)} {here : List Stmt} {t : Tree} {m : Move} →
    ((es : List Decl) (ss : List Stmt) (x : List ℕ) → UnitRest p n (line_of r) rs es ss x m → ⊥) → Only p r m → Goes n ds p [] here (r ∷ rs) t → ⊥
unblocked never o (outside {ss = ss} {es = es} {x = x} d is) = never es ss x (unit_only o (unit_first d))

pub decl_on : {p : Place} {n : Naming} {ds ds' : List Decl} {r : List Token} {rs : List (List Token)} {fs : List Frame} {here : List Stmt} {t : Tree} →
    Only p r (move.Declare ds') → is_outermost fs ≡ true → Goes n ds p fs here (r ∷ rs) t → Goes n (ds ++ ds') place.Declarations fs here rs t
decl_on {ds = ds} {ds' = ds'} {here = here} o e (outside {ss = ss} {es = es} {x = x} d is) =
    let w = unit_only o (unit_first d) in
    outside w.unit (is ∙ ap (λ (zs : List Decl). tree x (ds ++ zs) (here ++ ss)) w.is ∙ ap (λ (zs : List Decl). tree x zs (here ++ ss)) (sym (append_assoc ds ds' w.others)))
decl_on o e (inside d g) = absurd cc

pub decl_back : {p : Place} {n : Naming} {ds ds' h : List Decl} {r : List Token} {rs : List (List Token)} {fs : List Frame} {here : List Stmt} {t : Tree} →
    Moves p r (move.Declare ds') → h ≡ ds ++ ds' → is_outermost fs ≡ true → Goes n h place.Declarations fs here rs t → Goes n ds p fs here (r ∷ rs) t
decl_back {ds = ds} {ds' = ds'} {here = here} k q e (outside {ss = ss} {es = es} {x = x} d is) =
    outside (u_declared k d) (is ∙ ap (λ (zs : List Decl). tree x (zs ++ es) (here ++ ss)) q ∙ ap (λ (zs : List Decl). tree x zs (here ++ ss)) (append_assoc ds ds' es))
decl_back k q e (inside d g) = absurd cc

pub unfit : {p : Place} {n : Naming} {ds : List Decl} {r : List Token} {rs : List (List Token)} {fs : List Frame} {here : List Stmt} {t : Tree} {y : Option (List ℕ)} →
    fits n y ≡ false → Only p r (move.Finish y) → Goes n ds p fs here (r ∷ rs) t → ⊥
unfit f o (outside d is) = let w = unit_only o (unit_first d) in let no = sym f ∙ w.0 in cc
unfit f o (inside d g) = block_only o (block_first d)
