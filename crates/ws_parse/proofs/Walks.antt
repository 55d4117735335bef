-- The statements taken so far, and what can follow them.
use Rattle.std.proofs.Common.{◌≡◌, ◌⊎◌, ◌+◌, ◌≤◌, ℕ, suc, Bool, true, false, Option, Some, None, List, [], ◌∷◌, ◌++◌, codes, ◌&&◌, MatchOption, refl, sym, ap, ◌∙◌, subst}
use Rattle.std.proofs.lemmas.List.{append_assoc, append-nil}
use Rattle.ws_lex.specs.declared.token.Token.{Token}
use Rattle.ws_lex.specs.declared.token.TokenKind.{TokenKind}
use Rattle.ws_lex.specs.declared.token.TokenKind.TheVariants.{Word, Directive}
use Rattle.ws_tree.specs.declared.stmt.Decl.{Decl}
use Rattle.ws_tree.specs.declared.stmt.Stmt.{Stmt}
use Rattle.ws_tree.specs.declared.stmt.Tree.{Tree}
use Rattle.ws_tree.specs.Words.{is_other_statement}
use Rattle.ws_stmt.specs.declared.role.Block.{Block}
use Rattle.ws_stmt.specs.declared.role.Block.TheVariants as block
use Rattle.ws_stmt.specs.declared.form.Form.{Form}
use Rattle.ws_stmt.specs.declared.form.Form.TheVariants as form
use Rattle.ws_stmt.specs.declared.form.Said.{Said}
use Rattle.ws_stmt.specs.Statements.{Says, said, SaysWords}
use Rattle.ws_stmt.specs.Roles.{is_left_out}
use Rattle.ws_parse.specs.declared.turn.Turn.{Turn}
use Rattle.ws_parse.specs.declared.turn.Turn.TheVariants as turn
use Rattle.ws_parse.specs.declared.place.Place.{Place}
use Rattle.ws_parse.specs.declared.place.Place.TheVariants as place
use Rattle.ws_parse.specs.declared.place.Move.{Move}
use Rattle.ws_parse.specs.declared.place.Move.TheVariants as move
use Rattle.ws_parse.specs.declared.place.Naming.{Naming}
use Rattle.ws_parse.specs.declared.frame.Frame.{Frame}
use Rattle.ws_parse.specs.declared.frame.State.{State}
use Rattle.ws_parse.specs.Turns.{IsTurn, Moves, move_of}
use Rattle.ws_tree.specs.declared.stmt.Else.{Else}
use Rattle.ws_parse.specs.declared.walk.Walked.{Walked}
use Rattle.ws_parse.specs.declared.walk.Walked.TheVariants as walked
use Rattle.ws_parse.specs.Blocks.{ReadsStmt, ReadsBlock, ReadsUnit, IsUnit, CanGoOn, IsFirstBad, IsWalked, IsFront, bad_line, name_of, runs}
use Rattle.ws_parse.specs.Blocks.ReadsBlock.{closed, more}
use Rattle.ws_parse.proofs.States.{outer_stacked}
use Rattle.ws_parse.specs.Blocks.ReadsUnit.{finished, over}
use Rattle.ws_parse.specs.States.{Goes, GoesFrom, stacked, is_block, Sits, Advances, Stuck, IsWhole, is_after, is_over, is_outermost, begun}
use Rattle.ws_parse.specs.States.Goes.{outside, inside}

abbrev pub tree : List ℕ → List Decl → List Stmt → Tree
tree x ds ss = record { name = x; decls = ds; body = ss }

pub record Walks (all rest : List (List Token)) (s : State) : Type 0 where
  pub front : List (List Token)
  pub is : all ≡ front ++ rest
  pub back : (rs : List (List Token)) (t : Tree) → GoesFrom s rs t → IsUnit (front ++ rs) t
  pub on : (rs : List (List Token)) (t : Tree) → IsUnit (front ++ rs) t → GoesFrom s rs t
  pub sits : Sits s.place (stacked s.frames)

pub walks_begun : (all : List (List Token)) (s : State) → s ≡ begun → Walks all all s
walks_begun all s e = subst (λ (z : State). Walks all all z) (sym e) (record {
  front = [];
  is = refl;
  back = λ rs t d. unit_of rs t d;
  on = λ rs t d. outside d.reads refl;
  sits = refl;
})
  where
    unit_of : (rs : List (List Token)) (t : Tree) → GoesFrom begun rs t → IsUnit rs t
    unit_of rs t (outside {ss = ss} {es = es} {x = x} d is) = subst (λ (z : Tree). IsUnit rs z) (sym is) (record { reads = d })

pub walks_next : {all rest after : List (List Token)} {r : List Token} {s s' : State} → rest ≡ r ∷ after → Walks all rest s → Advances s r s' → Walks all after s'
walks_next {all = all} {after = after} {r = r} e w a =
    let snoc : (rs : List (List Token)) → (w.front ++ r ∷ []) ++ rs ≡ w.front ++ (r ∷ rs) = λ rs. append_assoc w.front (r ∷ []) rs in
    record {
      front = w.front ++ r ∷ [];
      is = w.is ∙ ap (λ (zs : List (List Token)). w.front ++ zs) e ∙ sym (snoc after);
      back = λ rs t d. subst (λ (zs : List (List Token)). IsUnit zs t) (sym (snoc rs)) (w.back (r ∷ rs) t (a.back rs t d));
      on = λ rs t d. a.on rs t (w.on (r ∷ rs) t (subst (λ (zs : List (List Token)). IsUnit zs t) (snoc rs) d));
      sits = a.sits w.sits;
    }

-- ---- each state can be completed

word : List ℕ → Token
word w = record { line = 1; ends = false; what = Word w }

directive : Token
directive = record { line = 1; ends = false; what = Directive }

abbrev token_of : TokenKind → Token
token_of k = record { line = 1; ends = false; what = k }

abbrev end_of : Block → List Token
end_of block.Do = token_of (Word (codes "enddo")) ∷ []
end_of block.Where = token_of (Word (codes "endwhere")) ∷ []
end_of block.Forall = token_of (Word (codes "endforall")) ∷ []
end_of block.ParallelWorkshare = token_of Directive ∷ token_of (Word (codes "end")) ∷ token_of (Word (codes "parallel")) ∷ token_of (Word (codes "workshare")) ∷ []
end_of block.Parallel = token_of Directive ∷ token_of (Word (codes "end")) ∷ token_of (Word (codes "parallel")) ∷ []
end_of block.Workshare = token_of Directive ∷ token_of (Word (codes "end")) ∷ token_of (Word (codes "workshare")) ∷ []

one_words : {f : Form} (s : Said) → SaysWords (Some f) s → s ≡ said f false
one_words {f = f} s w = let e = w.there in w.is ∙ ap (λ (g : Form). said g false) cc

words_turn : (r : List Token) {f : Form} → is_left_out r ≡ false → ((s : Said) → Says r s → SaysWords (Some f) s) → Says r (said f false) → IsTurn r (turn.Read (said f false))
words_turn r {f = f} e k d = (e, d, λ s x. one_words s (k s x))

closes : (b : Block) (s l : Bool) → Moves (place.In b s l) (end_of b) (move.Close None)
unfolding is_other_statement
closes block.Do s l = record { what = turn.Read (said (form.Closes block.Do) false); is = words_turn (end_of block.Do) refl (λ s x. x) (record { g = form.Closes block.Do; there = refl; is = refl }); does = refl }
closes block.Where s l = record { what = turn.Read (said (form.Closes block.Where) false); is = words_turn (end_of block.Where) refl (λ s x. x) (record { g = form.Closes block.Where; there = refl; is = refl }); does = refl }
closes block.Forall s l = record { what = turn.Read (said (form.Closes block.Forall) false); is = words_turn (end_of block.Forall) refl (λ s x. x) (record { g = form.Closes block.Forall; there = refl; is = refl }); does = refl }
closes block.ParallelWorkshare s l = record { what = turn.Read (said (form.Closes block.ParallelWorkshare) false); is = words_turn (end_of block.ParallelWorkshare) refl (λ s x. x) (record { g = form.Closes block.ParallelWorkshare; there = refl; is = refl }); does = refl }
closes block.Parallel s l = record { what = turn.Read (said (form.Closes block.Parallel) false); is = words_turn (end_of block.Parallel) refl (λ s x. x) (record { g = form.Closes block.Parallel; there = refl; is = refl }); does = refl }
closes block.Workshare s l = record { what = turn.Read (said (form.Closes block.Workshare) false); is = words_turn (end_of block.Workshare) refl (λ s x. x) (record { g = form.Closes block.Workshare; there = refl; is = refl }); does = refl }

abbrev end_run : List Token
end_run = token_of (Word (codes "end")) ∷ []

end_turn : IsTurn end_run (turn.Read (said (form.EndsProgram None) false))
unfolding is_other_statement
end_turn = words_turn end_run refl (λ s x. x) (record { g = form.EndsProgram None; there = refl; is = refl })

record Completed (n : Naming) (ds : List Decl) (p : Place) (fs : List Frame) (here : List Stmt) : Type 0 where
  more : List (List Token)
  whole : Tree
  goes : Goes n ds p fs here more whole

ended : (n : Naming) (ds : List Decl) (here : List Stmt) (p : Place) → move_of p (turn.Read (said (form.EndsProgram None) false)) ≡ Some (move.Finish None) → Completed n ds p [] here
ended n ds here p e = record { more = end_run ∷ []; whole = tree (name_of n) (ds ++ []) (here ++ []); goes = outside (finished (record { what = turn.Read (said (form.EndsProgram None) false); is = end_turn; does = e }) refl over) refl }

complete : (n : Naming) (ds : List Decl) (p : Place) (fs : List Frame) (here : List Stmt) → Sits p fs → Completed n ds p fs here
complete n ds place.Head [] here h = ended n ds here place.Head refl
complete n ds place.Named [] here h = ended n ds here place.Named refl
complete n ds place.Declarations [] here h = ended n ds here place.Declarations refl
complete n ds place.Statements [] here h = ended n ds here place.Statements refl
complete n ds place.After [] here h = record { more = []; whole = tree (name_of n) (ds ++ []) (here ++ []); goes = outside over refl }
complete n ds (place.In b s l) [] here h = absurd cc
complete n ds (place.In b s l) (f ∷ fs) here h =
    let c = complete n ds f.place fs _ h.1 in
    record { more = end_of b ∷ c.more; whole = c.whole; goes = inside (closed (closes b s l)) c.goes }
complete n ds place.Head (f ∷ fs) here h = let no = h.0 in absurd cc
complete n ds place.Named (f ∷ fs) here h = let no = h.0 in absurd cc
complete n ds place.Declarations (f ∷ fs) here h = let no = h.0 in absurd cc
complete n ds place.Statements (f ∷ fs) here h = let no = h.0 in absurd cc
complete n ds place.After (f ∷ fs) here h = let no = h.0 in absurd cc

pub can_go_on : {all rest : List (List Token)} {s : State} (w : Walks all rest s) → CanGoOn w.front
can_go_on {s = s} w =
    let c = complete s.naming s.decls s.place (stacked s.frames) s.here w.sits in
    record { more = c.more; tree = c.whole; unit = w.back c.more c.whole c.goes }

pub first_bad : {all rest after : List (List Token)} {r : List Token} {s : State} → rest ≡ r ∷ after → Walks all rest s → Stuck s r → IsFirstBad all r
first_bad {after = after} {r = r} e w stuck = record {
  front = w.front;
  others = after;
  is = w.is ∙ ap (λ (zs : List (List Token)). w.front ++ zs) e;
  before = can_go_on w;
  ends = λ c. stuck c.more c.tree (w.on (r ∷ c.more) c.tree (subst (λ (zs : List (List Token)). IsUnit zs c.tree) (append_assoc w.front (r ∷ []) c.more) c.unit));
}

-- ---- the end

pub walked_all : {all rest : List (List Token)} {s : State} → rest ≡ [] → (w : Walks all rest s) → all ≡ w.front ++ []
walked_all e w = w.is ∙ ap (λ (zs : List (List Token)). w.front ++ zs) e

pub unit_at : {all rest : List (List Token)} {s : State} {t : Tree} → rest ≡ [] → Walks all rest s → IsWhole s (Some t) → IsUnit all t × ((u : Tree) → IsUnit all u → u ≡ t)
unit_at {t = t} e w h =
    let p = walked_all e w in
    (subst (λ (zs : List (List Token)). IsUnit zs t) (sym p) (w.back [] t h.0), λ u d. h.1 u (w.on [] u (subst (λ (zs : List (List Token)). IsUnit zs u) p d)))

pub early_at : {all rest : List (List Token)} {s : State} → rest ≡ [] → Walks all rest s → IsWhole s None → CanGoOn all × ((u : Tree) → IsUnit all u → ⊥)
early_at e w h =
    let p = walked_all e w in
    (subst (λ (zs : List (List Token)). CanGoOn zs) (sym (p ∙ append-nil w.front)) (can_go_on w), λ u d. h u (w.on [] u (subst (λ (zs : List (List Token)). IsUnit zs u) p d)))

pub stuck_of : (s : State) (r : List Token) {o : Option State} → o ≡ None → MatchOption o (Stuck s r) (Advances s r) → Stuck s r
stuck_of s r e h = subst (λ (z : Option State). MatchOption z (Stuck s r) (Advances s r)) e h

pub advances_of : (s : State) (r : List Token) {o : Option State} {new : State} → o ≡ Some new → MatchOption o (Stuck s r) (Advances s r) → Advances s r new
advances_of s r e h = subst (λ (z : Option State). MatchOption z (Stuck s r) (Advances s r)) e h

pub whole_at : (s : State) {o k : Option Tree} → o ≡ k → IsWhole s o → IsWhole s k
whole_at s e h = subst (λ (z : Option Tree). IsWhole s z) e h

-- ---- where nothing has to follow

no_stmt : {p : Place} {n : ℕ} {xs : List Stmt} {us : List (List Token)} → ReadsStmt p n [] xs us → ⊥
no_stmt d = elim d [ ]

no_block : {p : Place} {n : ℕ} {ss ys : List Stmt} {es : List Else} {us : List (List Token)} → ReadsBlock p n [] ss es ys us → ⊥
no_block (more d k) = no_stmt d

record Over (p : Place) (n : Naming) (es : List Decl) (ss : List Stmt) (x : List ℕ) : Type 0 where
  place : p ≡ place.After
  decls : es ≡ []
  stmts : ss ≡ []
  name : x ≡ name_of n

unit_over : {p : Place} {n : Naming} {es : List Decl} {ss : List Stmt} {x : List ℕ} → ReadsUnit p n [] es ss x → Over p n es ss x
unit_over over = record { place = refl; decls = refl; stmts = refl; name = refl }

over_all : {n : Naming} {ds : List Decl} {p : Place} {here : List Stmt} {t : Tree} (fs : List Frame) → Goes n ds p fs here [] t → (p ≡ place.After) × (is_outermost fs ≡ true) × (t ≡ tree (name_of n) ds here)
over_all {n = n} {ds = ds} {here = here} [] (outside {ss = ss} {es = es} {x = x} d is) =
    let o = unit_over d in
    (o.place, refl, is ∙ ap (λ (zs : List ℕ). tree zs (ds ++ es) (here ++ ss)) o.name ∙ ap (λ (zs : List Decl). tree (name_of n) (ds ++ zs) (here ++ ss)) o.decls ∙ ap (λ (zs : List Decl). tree (name_of n) zs (here ++ ss)) (append-nil ds) ∙ ap (λ (zs : List Stmt). tree (name_of n) ds (here ++ zs)) o.stmts ∙ ap (λ (zs : List Stmt). tree (name_of n) ds zs) (append-nil here))
over_all (f ∷ fs) (inside d g) = absurd (no_block d)

is_after_by : (p : Place) → is_after p ≡ true → p ≡ place.After
is_after_by place.After h = refl
is_after_by place.Head h = absurd cc
is_after_by place.Named h = absurd cc
is_after_by place.Declarations h = absurd cc
is_after_by place.Statements h = absurd cc
is_after_by (place.In b s l) h = absurd cc

goes_over : {n : Naming} {ds : List Decl} {here : List Stmt} (fs : List Frame) → is_outermost fs ≡ true → Goes n ds place.After fs here [] (tree (name_of n) ds here)
goes_over {n = n} {ds = ds} {here = here} [] e = outside over (ap (λ (zs : List Decl). tree (name_of n) zs here) (sym (append-nil ds)) ∙ ap (λ (zs : List Stmt). tree (name_of n) (ds ++ []) zs) (sym (append-nil here)))
goes_over (f ∷ fs) e = absurd cc

pub not_over : (s : State) → is_over s ≡ false → IsWhole s None
not_over s h = λ t d.
    let o = over_all (stacked s.frames) d in
    let a = ap is_after o.0 in
    let b = sym (outer_stacked s.frames) ∙ o.1 in
    let no = sym h ∙ ap (λ (x : Bool). x && is_outermost s.frames) a ∙ b in cc

both : (a b : Bool) → a && b ≡ true → (a ≡ true) × (b ≡ true)
both true b h = (refl, h)
both false b h = absurd cc

pub over_whole : (s : State) {x : List ℕ} → is_over s ≡ true → x ≡ name_of s.naming → IsWhole s (Some (tree x s.decls s.here))
over_whole s {x = x} h e =
    let p = both (is_after s.place) (is_outermost s.frames) h in
    let whole = subst (λ (q : Place). Goes s.naming s.decls q (stacked s.frames) s.here [] (tree (name_of s.naming) s.decls s.here)) (sym (is_after_by s.place p.0)) (goes_over (stacked s.frames) (outer_stacked s.frames ∙ p.1)) in
    let same = ap (λ (zs : List ℕ). tree zs s.decls s.here) e in
    (subst (λ (z : Tree). GoesFrom s [] z) (sym same) whole, λ u d. (over_all (stacked s.frames) d).2 ∙ sym same)

-- ---- the answers

pub unit_goes_on : {rs : List (List Token)} {t : Tree} → IsUnit rs t → CanGoOn rs
unit_goes_on {rs = rs} {t = t} d = record { more = []; tree = t; unit = subst (λ (zs : List (List Token)). IsUnit zs t) (sym (append-nil rs)) d }

pub front_by : (ts : List Token) (w : Walked) → IsWalked (runs ts) w → IsFront ts (bad_line w)
front_by ts (walked.Unit t) h = unit_goes_on h.0
front_by ts (walked.Bad line) h = h
front_by ts walked.Early h = h.0
