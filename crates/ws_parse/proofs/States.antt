-- From one state to the next.
use Rattle.std.proofs.Common.{◌≡◌, ◌||◌, ℕ, suc, Bool, true, false, Option, Some, None, List, [], ◌∷◌, ◌++◌, length, refl, sym, ap, ◌∙◌, subst, MatchOption, if◌then◌else◌}
use Rattle.std.proofs.lemmas.List.{append_assoc}
use Rattle.ws_lex.specs.declared.token.Token.{Token}
use Rattle.ws_tree.specs.declared.expr.Expr.{Expr}
use Rattle.ws_tree.specs.declared.stmt.Body.{Body}
use Rattle.ws_tree.specs.declared.stmt.Body.TheVariants as body
use Rattle.ws_tree.specs.declared.stmt.Decl.{Decl}
use Rattle.ws_tree.specs.declared.stmt.Else.{Else}
use Rattle.ws_tree.specs.declared.stmt.Stmt.{Stmt}
use Rattle.ws_tree.specs.declared.stmt.Tree.{Tree}
use Rattle.ws_stmt.specs.declared.role.Block.{Block}
use Rattle.ws_parse.specs.declared.place.Place.{Place}
use Rattle.ws_parse.specs.declared.place.Place.TheVariants as place
use Rattle.ws_parse.specs.declared.place.Opening.{Opening}
use Rattle.ws_parse.specs.declared.place.Move.{Move}
use Rattle.ws_parse.specs.declared.place.Move.TheVariants as move
use Rattle.ws_parse.specs.declared.place.Naming.TheVariants as naming
use Rattle.ws_parse.specs.declared.frame.Frame.{Frame}
use Rattle.ws_parse.specs.declared.frame.State.{State}
use Rattle.ws_parse.specs.declared.turn.Turn.{Turn}
use Rattle.ws_parse.specs.Turns.{IsTurn, move_of, Moves}
use Rattle.ws_parse.specs.Blocks.{ReadsBlock, ReadsUnit, one, after, else_mask, else_front, beyond, inside, line_of, fits}
use Rattle.ws_parse.specs.States.{Goes, GoesFrom, stacked, settled, is_outermost, is_block, Sits, Advances, Stuck, Next, next, Renewed, Ended, renewed, built_of, with_stmt, with_name, with_decls, at_place, opened, when}
use Rattle.ws_parse.proofs.Firsts.{block_first, unit_first, BlockRest, UnitRest}
use Rattle.ws_parse.specs.States.Goes.{outside, inside as inside'}
use Rattle.ws_parse.specs.declared.frame.Part.TheVariants as part'
use Rattle.ws_parse.specs.Blocks.ReadsUnit.{named as u_named, unread as u_unread, implied as u_implied, declared as u_declared, left_out as u_left_out, finished as u_finished, finished_unread as u_finished_unread}
use Rattle.ws_parse.proofs.Steps as steps
use Rattle.ws_parse.proofs.Steps.{Only}
use Rattle.ws_parse.proofs.Turns.{only_by, no_move}

-- ---- the stack

pub stacked_snoc : (fs : List Frame) (f : Frame) → stacked (fs ++ f ∷ []) ≡ f ∷ stacked fs
stacked_snoc [] f = refl
stacked_snoc (g ∷ gs) f = ap (λ (zs : List Frame). zs ++ g ∷ []) (stacked_snoc gs f)

length_snoc : (fs : List Frame) (f : Frame) → length (fs ++ f ∷ []) ≡ suc (length fs)
length_snoc [] f = refl
length_snoc (g ∷ gs) f = ap suc (length_snoc gs f)

pub length_stacked : (fs : List Frame) → length (stacked fs) ≡ length fs
length_stacked [] = refl
length_stacked (f ∷ fs) = length_snoc (stacked fs) f ∙ ap suc (length_stacked fs)

outer_snoc : (fs : List Frame) (f : Frame) → is_outermost (fs ++ f ∷ []) ≡ false
outer_snoc [] f = refl
outer_snoc (g ∷ gs) f = refl

pub outer_stacked : (fs : List Frame) → is_outermost (stacked fs) ≡ is_outermost fs
outer_stacked [] = refl
outer_stacked (f ∷ fs) = outer_snoc (stacked fs) f

-- ---- where blocks may be open

sits_settled : (p : Place) (fs : List Frame) → Sits p fs → Sits (settled p (is_outermost fs)) fs
sits_settled p [] h = refl
sits_settled p (f ∷ fs) h = h

sits_outer : (q : Place) (fs : List Frame) → is_outermost fs ≡ true → is_block q ≡ false → Sits q fs
sits_outer q [] e h = h
sits_outer q (f ∷ fs) e h = absurd cc

beyond_block : (p : Place) (m : Option Expr) → is_block p ≡ true → is_block (beyond p m) ≡ true
beyond_block (place.In b s l) m h = refl
beyond_block place.Head m h = h
beyond_block place.Named m h = h
beyond_block place.Declarations m h = h
beyond_block place.Statements m h = h
beyond_block place.After m h = h

-- ---- the answer of a step

at_some : (s : State) (r : List Token) {new : State} {o : Option State} → o ≡ Some new → Advances s r new → MatchOption o (Stuck s r) (Advances s r)
at_some s r e a = subst (λ (z : Option State). MatchOption z (Stuck s r) (Advances s r)) (sym e) a

at_none : (s : State) (r : List Token) {o : Option State} → o ≡ None → Stuck s r → MatchOption o (Stuck s r) (Advances s r)
at_none s r e a = subst (λ (z : Option State). MatchOption z (Stuck s r) (Advances s r)) (sym e) a

by_when : (s : State) (r : List Token) {new : State} {o : Option State} (b : Bool) → is_outermost s.frames ≡ b → o ≡ when b new → (is_outermost (stacked s.frames) ≡ true → Advances s r new) → (is_outermost (stacked s.frames) ≡ false → Stuck s r) → MatchOption o (Stuck s r) (Advances s r)
by_when s r true e p a n = at_some s r p (a (outer_stacked s.frames ∙ e))
by_when s r false e p a n = at_none s r p (n (outer_stacked s.frames ∙ e))

cases : {P P' : Type 0} {Q Q' : State → Type 0} (o : Option State) → (P → P') → ((z : State) → Q z → Q' z) → MatchOption o P Q → MatchOption o P' Q'
cases None f g h = f h
cases (Some z) f g h = g z h

abbrev framed : State → List Token → Opening → Bool → Frame
framed s r w q = record { line = line_of r; opening = w; place = settled s.place q; before = s.here; part = part'.First }

module _ (s : State) (r : List Token) where
  idles : {b : Body} → Only s.place r (move.Idle b) → Advances s r (with_stmt s (line_of r) b s.place)
  idles o = record { back = λ rs t d. steps.idle_back (stacked s.frames) o.moves d; on = λ rs t d. steps.idle_on o d; sits = λ h. h }

  acts : {b : Body} → Only s.place r (move.Act b) → Advances s r (with_stmt s (line_of r) b (settled s.place (is_outermost s.frames)))
  acts {b = b} o =
      let here = s.here ++ one (line_of r) b in
      let e = outer_stacked s.frames in
      record {
        back = λ rs t d. steps.act_back (stacked s.frames) o.moves (subst (λ (q : Bool). Goes s.naming s.decls (settled s.place q) (stacked s.frames) here rs t) (sym e) d);
        on = λ rs t d. subst (λ (q : Bool). Goes s.naming s.decls (settled s.place q) (stacked s.frames) here rs t) e (steps.act_on o d);
        sits = λ h. subst (λ (q : Bool). Sits (settled s.place q) (stacked s.frames)) e (sits_settled s.place (stacked s.frames) h);
      }

  opens : {b : Block} {w : Opening} → Only s.place r (move.Open b w) → Advances s r (opened s (line_of r) b w)
  opens {b = b} {w = w} o =
      let e : stacked (s.frames ++ framed s r w (is_outermost s.frames) ∷ []) ≡ framed s r w (is_outermost (stacked s.frames)) ∷ stacked s.frames = stacked_snoc s.frames (framed s r w (is_outermost s.frames)) ∙ ap (λ (q : Bool). framed s r w q ∷ stacked s.frames) (sym (outer_stacked s.frames)) in
      record {
        back = λ rs t d. steps.open_back (stacked s.frames) o.moves (subst (λ (zs : List Frame). Goes s.naming s.decls (inside s.place b) zs [] rs t) e d);
        on = λ rs t d. subst (λ (zs : List Frame). Goes s.naming s.decls (inside s.place b) zs [] rs t) (sym e) (steps.open_on o d);
        sits = λ h. subst (λ (zs : List Frame). Sits (inside s.place b) zs) (sym e) (refl, sits_settled s.place (stacked s.frames) h);
      }

  nexts : {m : Option Expr} {odd : Bool} → Only s.place r (move.Next m odd) → (z : State) → Renewed s (line_of r) m odd z → Advances s r z
  nexts {m = m} {odd = odd} o z w =
      let e = ap stacked w.frames ∙ stacked_snoc w.fs w.f in
      let f = renewed w.f s.here (line_of r) (else_mask m odd) in
      let e' = stacked_snoc w.fs f in
      let front = else_front (line_of r) odd in
      subst (λ (y : State). Advances s r y) (sym w.is) (record {
        back = λ rs t d. subst (λ (zs : List Frame). Goes s.naming s.decls s.place zs s.here (r ∷ rs) t) (sym e) (steps.next_back w.f s.here o.moves (subst (λ (zs : List Frame). Goes s.naming s.decls (beyond s.place m) zs front rs t) e' d));
        on = λ rs t d. subst (λ (zs : List Frame). Goes s.naming s.decls (beyond s.place m) zs front rs t) (sym e') (steps.next_on o (subst (λ (zs : List Frame). Goes s.naming s.decls s.place zs s.here (r ∷ rs) t) e d));
        sits = λ h. let g = subst (λ (zs : List Frame). Sits s.place zs) e h in subst (λ (zs : List Frame). Sits (beyond s.place m) zs) (sym e') (beyond_block s.place m g.0, g.1);
      })

  closes : {y : Option Body} → Only s.place r (move.Close y) → (z : State) → Ended s (line_of r) y z → Advances s r z
  closes {y = y} o z w =
      let e = ap stacked w.frames ∙ stacked_snoc w.fs w.f in
      let n = length_stacked w.fs in
      subst (λ (q : State). Advances s r q) (sym w.is) (record {
        back = λ rs t d. subst (λ (zs : List Frame). Goes s.naming s.decls s.place zs s.here (r ∷ rs) t) (sym e) (steps.close_back s.here o.moves (subst (λ (k : ℕ). Goes s.naming s.decls w.f.place (stacked w.fs) (w.f.before ++ (built_of k w.f s.here [] ++ after (line_of r) y)) rs t) (sym n) d));
        on = λ rs t d. subst (λ (k : ℕ). Goes s.naming s.decls w.f.place (stacked w.fs) (w.f.before ++ (built_of k w.f s.here [] ++ after (line_of r) y)) rs t) n (steps.close_on o (subst (λ (zs : List Frame). Goes s.naming s.decls s.place zs s.here (r ∷ rs) t) e d));
        sits = λ h. (subst (λ (zs : List Frame). Sits s.place zs) e h).1;
      })

  not_in_block : {m : Move} → ((k l : ℕ) (rs : List (List Token)) (ss : List Stmt) (es : List Else) (ys : List Stmt) (us : List (List Token)) → BlockRest s.place k l rs ss es ys us m → ⊥) → Only s.place r m → is_outermost (stacked s.frames) ≡ false → Stuck s r
  not_in_block never o e = λ rs t d. steps.blocked (stacked s.frames) (λ k l ss es ys us w. never k l rs ss es ys us w) o e d

  not_outside : {m : Move} → ((rs : List (List Token)) (es : List Decl) (ss : List Stmt) (x : List ℕ) → UnitRest s.place s.naming (line_of r) rs es ss x m → ⊥) → Only s.place r m → s.frames ≡ [] → Stuck s r
  not_outside never o e = λ rs t d. steps.unblocked (λ es ss x w. never rs es ss x w) o (subst (λ (zs : List Frame). Goes s.naming s.decls s.place zs s.here (r ∷ rs) t) (ap stacked e) d)

  pub stepped : (o : Option State) (m : Move) → Only s.place r m → Next s (line_of r) m o → MatchOption o (Stuck s r) (Advances s r)
  stepped o (move.Idle b) only p = at_some s r p (idles only)
  stepped o (move.Act b) only p = at_some s r p (acts only)
  stepped o (move.Open b w) only p = at_some s r p (opens only)
  stepped o (move.Next m odd) only p = cases o (λ e. not_outside (λ rs es ss x w. w) only e) (λ z w. nexts only z w) p
  stepped o (move.Close y) only p = cases o (λ e. not_outside (λ rs es ss x w. w) only e) (λ z w. closes only z w) p
  stepped o (move.Name x) only p = by_when s r (is_outermost s.frames) refl p
      (λ e. record { back = λ rs t d. steps.place_back (λ es ss z u. u_named only.moves u) e d; on = λ rs t d. steps.place_on (λ es ss z w. w) only e d; sits = λ h. sits_outer place.Named (stacked s.frames) e refl })
      (not_in_block (λ k l rs ss es ys us w. w) only)
  stepped o (move.NameUnread b) only p = by_when s r (is_outermost s.frames) refl p
      (λ e. record { back = λ rs t d. steps.take_unit (one (line_of r) b) (λ es ss z u. u_unread only.moves u) refl e d; on = λ rs t d. steps.put_on (λ es ss z w. w) only e d; sits = λ h. sits_outer place.Named (stacked s.frames) e refl })
      (not_in_block (λ k l rs ss es ys us w. w) only)
  stepped o move.Implicit only p = by_when s r (is_outermost s.frames) refl p
      (λ e. record { back = λ rs t d. steps.place_back (λ es ss z u. u_implied only.moves u) e d; on = λ rs t d. steps.place_on (λ es ss z w. w) only e d; sits = λ h. sits_outer place.Declarations (stacked s.frames) e refl })
      (not_in_block (λ k l rs ss es ys us w. w) only)
  stepped o (move.Declare ds) only p = by_when s r (is_outermost s.frames) refl p
      (λ e. record { back = λ rs t d. steps.decl_back only.moves refl e d; on = λ rs t d. steps.decl_on only e d; sits = λ h. sits_outer place.Declarations (stacked s.frames) e refl })
      (not_in_block (λ k l rs ss es ys us w. w) only)
  stepped o move.LeaveOut only p = by_when s r (is_outermost s.frames) refl p
      (λ e. record { back = λ rs t d. steps.take_unit (one (line_of r) body.Unsupported) (λ es ss z u. u_left_out only.moves u) refl e d; on = λ rs t d. steps.put_on (λ es ss z w. w) only e d; sits = λ h. sits_outer place.Declarations (stacked s.frames) e refl })
      (not_in_block (λ k l rs ss es ys us w. w) only)
  stepped o (move.Finish x) only p = go (fits s.naming x) refl p
    where
      go : (b : Bool) → fits s.naming x ≡ b → o ≡ (if◌then◌else◌ b (when (is_outermost s.frames) (at_place s place.After)) None) → MatchOption o (Stuck s r) (Advances s r)
      go true f p = by_when s r (is_outermost s.frames) refl p
          (λ e. record { back = λ rs t d. steps.place_back (λ es ss z u. u_finished only.moves f u) e d; on = λ rs t d. steps.place_on (λ es ss z w. w.1) only e d; sits = λ h. sits_outer place.After (stacked s.frames) e refl })
          (not_in_block (λ k l rs ss es ys us w. w) only)
      go false f p = at_none s r p (λ rs t d. steps.unfit f only d)
  stepped o (move.FinishUnread b) only p = by_when s r (is_outermost s.frames) refl p
      (λ e. record { back = λ rs t d. steps.take_unit (one (line_of r) b) (λ es ss z u. u_finished_unread only.moves u) refl e d; on = λ rs t d. steps.put_on (λ es ss z w. w) only e d; sits = λ h. sits_outer place.After (stacked s.frames) e refl })
      (not_in_block (λ k l rs ss es ys us w. w) only)

pub step_by : (s : State) (r : List Token) {m : Move} (o : Option State) (w : Turn) → IsTurn r w → Some m ≡ move_of s.place w → Next s (line_of r) m o → MatchOption o (Stuck s r) (Advances s r)
step_by s r {m = m} o w is e p = stepped s r o m (only_by w is (sym e)) p

goes_moves : (s : State) {r : List Token} {rs : List (List Token)} {t : Tree} (fs : List Frame) → Goes s.naming s.decls s.place fs s.here (r ∷ rs) t → (m : Move) × Moves s.place r m
goes_moves s [] (outside d is) = let g = unit_first d in (g.m, g.moves)
goes_moves s (f ∷ fs) (inside' d g) = let g = block_first d in (g.m, g.moves)

pub stuck_by : (s : State) (r : List Token) (w : Turn) → IsTurn r w → None ≡ move_of s.place w → Stuck s r
stuck_by s r w is e = λ rs t d. let g = goes_moves s (stacked s.frames) d in no_move w is (sym e) g.1
