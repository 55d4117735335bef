-- Events, one after another.
use Rattle.std.proofs.Common.{◌≡◌, refl, sym, ap, ◌∙◌, subst, ℕ, suc, ◌+◌, ◌<◌, ◌≤◌, List, [], ◌∷◌, ◌++◌, map, length, drop, get_or, Option, Some, None, arith, append_assoc, append-nil}
use mathlib.Core.Path.{fun_ext}
use Rattle.std.proofs.lemmas.List.{drop_more}
use Rattle.std.proofs.Math.ListN.{drop_of_length-le}
use Rattle.ws_space.specs.Masks.{Control, held, failed}
use Rattle.ws_tree.specs.declared.expr.Expr.{Expr}
use Rattle.ws_tree.specs.declared.stmt.Stmt.{Stmt}
use Rattle.ws_tree.specs.declared.stmt.Else.{Else}
use Rattle.ws_tree.specs.declared.stmt.Body.{Body}
use Rattle.ws_tree.specs.declared.stmt.Body.TheVariants.{Assign, Masked}
use Rattle.ws_tree.specs.declared.stmt.Body.TheBlock.{hidden-the_row-Stmt-0, hidden-the_row-Else-1}
use Rattle.ws_tree.specs.Opened.{trees_open}
use Rattle.ws_tree.specs.declared.stmt.Body.TheViews.{roll-Else, out-Else, roll-out-Else}
use Rattle.ws_types.specs.Steps as steps
use Rattle.ws_types.specs.Steps.{Numbered, nothing, event, both, masking, else_part, block, inside, otherwise}
use Rattle.step_eval.specs.declared.events.Event.{Event}
use Rattle.step_eval.specs.declared.events.Event.TheVariants as code
use Rattle.step_eval.specs.declared.construct.Under.{Under}
use Rattle.step_eval.specs.Masked.{control_of}
use Rattle.step_eval.specs.Events.{event_of, stmts_events, elses_events, Follows}

map_more : (es : List Event) (e : Event) → map event_of (es ++ e ∷ []) ≡ map event_of es ++ event_of e ∷ []
map_more [] e = refl
map_more (x ∷ es) e = ap (λ l. event_of x ∷ l) (map_more es e)

-- ---- composing

pub stays : (es : List Event) (k : ℕ) → Follows es es k k nothing
stays es k = record { events = sym (append-nil (map event_of es)); masks = refl }

pub joins : (a b c : List Event) (k l m : ℕ) (p q : Numbered) → Follows a b k l p → Follows b c l m q → Follows a c k m (both p q)
joins a b c k l m p q f g = record {
  events = g.events ∙ (ap (λ t. t ++ (q l).0) f.events ∙ (append_assoc (map event_of a) (p k).0 (q l).0 ∙ ap (λ n. map event_of a ++ ((p k).0 ++ (q n).0)) f.masks));
  masks = g.masks ∙ ap (λ n. (q n).1) f.masks;
}

pub adds : (a b : List Event) (e : Event) (k : ℕ) → b ≡ a ++ e ∷ [] → Follows a b k k (event (event_of e))
adds a b e k is = record { events = ap (map event_of) is ∙ map_more a e; masks = refl }

pub masks_more : (a b c : List Event) (e : Event) (k m : ℕ) (line : ℕ) (test : Expr) (u : Control) (p : ℕ → Numbered) → event_of e ≡ steps.mask (record { line = line; test = test; under = u }) →
    b ≡ a ++ e ∷ [] → Follows b c (suc k) m (p k) → Follows a c k m (masking line test u p)
masks_more a b c e k m line test u p is more f = record {
  events = f.events ∙ (ap (λ t. t ++ (p k (suc k)).0) (ap (map event_of) more ∙ map_more a e) ∙ (append_assoc (map event_of a) (event_of e ∷ []) (p k (suc k)).0 ∙ ap (λ x. map event_of a ++ x ∷ (p k (suc k)).0) is));
  masks = f.masks;
}

same_course : (a c : List Event) (k m : ℕ) (p q : Numbered) → p ≡ q → Follows a c k m p → Follows a c k m q
same_course a c k m p q e f = let P : Numbered → Type 0 = λ r. Follows a c k m r in subst P e f

-- ---- lists

block_list : (c : Control) (ss : List Stmt) → block c (hidden-the_row-Stmt-0 ss) ≡ stmts_events c ss
unfolding trees_open
block_list c [] = refl
block_list c (s ∷ ss) = ap (λ q. both (inside c s.line s.body) q) (block_list c ss)

same_parts : (line : ℕ) (m : Option Expr) (c : Control) (f g : Control → Numbered) (p q : Control → Numbered) → ((d : Control) → f d ≡ g d) → ((d : Control) → p d ≡ q d) → else_part line m c f p ≡ else_part line m c g q
same_parts line (Some test) c f g p q h k = ap (masking line test c) (fun_ext (λ n. ap (λ x. both x (p (failed n))) (h (held n)) ∙ ap (both (g (held n))) (k (failed n))))
same_parts line None c f g p q h k = h c

else_front : (c : Control) (e : Else) (es : List Else) → otherwise c (hidden-the_row-Else-1 (roll-Else (out-Else e) ∷ es)) ≡
    else_part (out-Else e).line (out-Else e).mask c (λ d. block d (hidden-the_row-Stmt-0 (out-Else e).block)) (λ d. otherwise d (hidden-the_row-Else-1 es))
unfolding trees_open
else_front c e es = refl

else_list : (c : Control) (es : List Else) → otherwise c (hidden-the_row-Else-1 es) ≡ elses_events c es
unfolding trees_open
else_list c [] = refl
else_list c (e ∷ es) =
    ap (λ x. otherwise c (hidden-the_row-Else-1 (x ∷ es))) (sym (roll-out-Else e)) ∙ (else_front c e es ∙ same_parts (out-Else e).line (out-Else e).mask c (λ d. block d (hidden-the_row-Stmt-0 (out-Else e).block)) (λ d. stmts_events d (out-Else e).block)
    (λ d. otherwise d (hidden-the_row-Else-1 es)) (λ d. elses_events d es) (λ d. block_list d (out-Else e).block) (λ d. else_list d es))

construct_list : (c : Control) (line : ℕ) (test : Expr) (ss : List Stmt) (es : List Else) → inside c line (Masked test ss es) ≡ masking line test c (λ k. both (stmts_events (held k) ss) (elses_events (failed k) es))
unfolding trees_open
construct_list c line test ss es = ap (masking line test c) (fun_ext (λ k. ap (λ x. both x (otherwise (failed k) (hidden-the_row-Else-1 es))) (block_list (held k) ss) ∙ ap (both (stmts_events (held k) ss)) (else_list (failed k) es)))

-- ---- the forms

pub one_construct : (a b x y : List Event) (k l m : ℕ) (u : Under) (line : ℕ) (test : Expr) (ss : List Stmt) (es : List Else) (whole : Body) (e : Event) → whole ≡ Masked test ss es →
    event_of e ≡ steps.mask (record { line = line; test = test; under = control_of u }) → b ≡ a ++ e ∷ [] →
    Follows b x (suc k) l (stmts_events (held k) ss) → Follows x y l m (elses_events (failed k) es) → Follows a y k m (inside (control_of u) line whole)
one_construct a b x y k l m u line test ss es whole e is event more f g =
    let body : Follows b y (suc k) m (both (stmts_events (held k) ss) (elses_events (failed k) es)) = joins b x y (suc k) l m (stmts_events (held k) ss) (elses_events (failed k) es) f g in
    let c : Follows a y k m (masking line test (control_of u) (λ n. both (stmts_events (held n) ss) (elses_events (failed n) es))) =
    masks_more a b y e k m line test (control_of u) (λ n. both (stmts_events (held n) ss) (elses_events (failed n) es)) event more body in
    same_course a y k m _ _ (sym (ap (inside (control_of u) line) is ∙ construct_list (control_of u) line test ss es)) c

-- ---- the loops

-- what follows these events, so that with them it follows the first
abbrev pub Continues : List Event → List Event → ℕ → ℕ → Numbered → Numbered → Type 0
Continues first now number next rest whole = (new : List Event) (m : ℕ) → Follows now new next m rest → Follows first new number m whole

pub stmts_step : (c : Control) (block : List Stmt) (i : ℕ) (s : Stmt) (first now new : List Event) (number next m : ℕ) → i < length block → s ≡ get_or block i s → Follows now new next m (inside c s.line s.body) →
    Continues first now number next (stmts_events c (drop i block)) (stmts_events c block) → Continues first new number m (stmts_events c (drop (i + 1) block)) (stmts_events c block)
stmts_step c block i s first now new number next m low item f before last k g =
    let front : drop i block ≡ s ∷ drop (i + 1) block = drop_more block i s low ∙ ap (λ x. x ∷ drop (i + 1) block) (sym item) in
    before last k (same_course now last next k _ _ (sym (ap (stmts_events c) front)) (joins now new last next m k (inside c s.line s.body) (stmts_events c (drop (i + 1) block)) f g))

pub stmts_end : (c : Control) (block : List Stmt) (i : ℕ) (first now : List Event) (number next : ℕ) → length block ≤ i → Continues first now number next (stmts_events c (drop i block)) (stmts_events c block) → Follows first now number next (stmts_events c block)
stmts_end c block i first now number next high before = before now next (same_course now now next next _ _ (sym (ap (stmts_events c) (drop_of_length-le block high))) (stays now next))

pub elses_step : (c d : Under) (rest : List Else) (i : ℕ) (e : Else) (test : Expr) (event : Event) (first now more new : List Event) (number next m : ℕ) → i < length rest → e ≡ get_or rest i e → (out-Else e).mask ≡ Some test →
    event_of event ≡ steps.mask (record { line = (out-Else e).line; test = test; under = control_of d }) → more ≡ now ++ event ∷ [] →
    Follows more new (suc next) m (stmts_events (held next) (out-Else e).block) → Continues first now number next (elses_events (control_of d) (drop i rest)) (elses_events (control_of c) rest) →
    Continues first new number m (elses_events (failed next) (drop (i + 1) rest)) (elses_events (control_of c) rest)
elses_step c d rest i e test event first now more new number next m low item is same added f before last k g =
    let front : drop i rest ≡ e ∷ drop (i + 1) rest = drop_more rest i e low ∙ ap (λ x. x ∷ drop (i + 1) rest) (sym item) in
    let body = joins more new last (suc next) m k (stmts_events (held next) (out-Else e).block) (elses_events (failed next) (drop (i + 1) rest)) f g in
    let part = masks_more now more last event next k (out-Else e).line test (control_of d) (λ n. both (stmts_events (held n) (out-Else e).block) (elses_events (failed n) (drop (i + 1) rest))) same added body in
    let whole : masking (out-Else e).line test (control_of d) (λ n. both (stmts_events (held n) (out-Else e).block) (elses_events (failed n) (drop (i + 1) rest))) ≡ elses_events (control_of d) (drop i rest) =
    ap (λ o. else_part (out-Else e).line o (control_of d) (λ x. stmts_events x (out-Else e).block) (λ x. elses_events x (drop (i + 1) rest))) (sym is) ∙ sym (ap (elses_events (control_of d)) front) in
    before last k (same_course now last next k _ _ whole part)

pub elses_last : (c d : Under) (rest : List Else) (i : ℕ) (e : Else) (first now new : List Event) (number next m : ℕ) → i < length rest → e ≡ get_or rest i e → (out-Else e).mask ≡ None →
    Follows now new next m (stmts_events (control_of d) (out-Else e).block) → Continues first now number next (elses_events (control_of d) (drop i rest)) (elses_events (control_of c) rest) → Follows first new number m (elses_events (control_of c) rest)
elses_last c d rest i e first now new number next m low item is f before =
    let front : drop i rest ≡ e ∷ drop (i + 1) rest = drop_more rest i e low ∙ ap (λ x. x ∷ drop (i + 1) rest) (sym item) in
    let whole : stmts_events (control_of d) (out-Else e).block ≡ elses_events (control_of d) (drop i rest) =
    ap (λ o. else_part (out-Else e).line o (control_of d) (λ x. stmts_events x (out-Else e).block) (λ x. elses_events x (drop (i + 1) rest))) (sym is) ∙ sym (ap (elses_events (control_of d)) front) in
    before new m (same_course now new next m _ _ whole f)

pub elses_end : (c d : Under) (rest : List Else) (i : ℕ) (first now : List Event) (number next : ℕ) → length rest ≤ i → Continues first now number next (elses_events (control_of d) (drop i rest)) (elses_events (control_of c) rest) → Follows first now number next (elses_events (control_of c) rest)
elses_end c d rest i first now number next high before = before now next (same_course now now next next _ _ (sym (ap (elses_events (control_of d)) (drop_of_length-le rest high))) (stays now next))

-- ---- as the code has them

starts_at : (a b : List Event) (k l m : ℕ) (p : Numbered) → k ≡ l → Follows a b k m p → Follows a b l m p
starts_at a b k l m p e f = let P : ℕ → Type 0 = λ n. Follows a b n m p in subst P e f

of_block : (a b : List Event) (k m : ℕ) (c : Control) (ss ts : List Stmt) → ss ≡ ts → Follows a b k m (stmts_events c ss) → Follows a b k m (stmts_events c ts)
of_block a b k m c ss ts e f = let P : List Stmt → Type 0 = λ l. Follows a b k m (stmts_events c l) in subst P e f

pub construct_done : (a b x y : List Event) (k first l m : ℕ) (u : Under) (line : ℕ) (test : Expr) (ss block : List Stmt) (es rest : List Else) (whole : Body) (e : Event) → whole ≡ Masked test block rest →
    event_of e ≡ steps.mask (record { line = line; test = test; under = control_of u }) → b ≡ a ++ e ∷ [] → first ≡ suc k → ss ≡ block → es ≡ rest →
    Follows b x first l (stmts_events (held k) ss) → Follows x y l m (elses_events (failed k) es) → Follows a y k m (inside (control_of u) line whole)
construct_done a b x y k first l m u line test ss block es rest whole e is event more n sb se f g =
    one_construct a b x y k l m u line test ss es whole e (is ∙ (ap (λ t. Masked test t rest) (sym sb) ∙ ap (Masked test ss) (sym se))) event more (starts_at b x first (suc k) l _ n f) g

pub elses_done : (c d : Under) (rest : List Else) (i : ℕ) (e : Else) (test : Expr) (event : Event) (first now more new : List Event) (number next start m : ℕ) (ss : List Stmt) → i < length rest → e ≡ get_or rest i e → (out-Else e).mask ≡ Some test →
    event_of event ≡ steps.mask (record { line = (out-Else e).line; test = test; under = control_of d }) → more ≡ now ++ event ∷ [] → start ≡ suc next → ss ≡ (out-Else e).block →
    Follows more new start m (stmts_events (held next) ss) → Continues first now number next (elses_events (control_of d) (drop i rest)) (elses_events (control_of c) rest) →
    Continues first new number m (elses_events (failed next) (drop (i + 1) rest)) (elses_events (control_of c) rest)
elses_done c d rest i e test event first now more new number next start m ss low item is same added n sb f before =
    elses_step c d rest i e test event first now more new number next m low item is same added (of_block more new (suc next) m (held next) ss (out-Else e).block sb (starts_at more new start (suc next) m _ n f)) before

pub elses_cut : (c d : Under) (rest : List Else) (i : ℕ) (e : Else) (first now new : List Event) (number next m : ℕ) (ss : List Stmt) → i < length rest → e ≡ get_or rest i e → (out-Else e).mask ≡ None → ss ≡ (out-Else e).block →
    Follows now new next m (stmts_events (control_of d) ss) → Continues first now number next (elses_events (control_of d) (drop i rest)) (elses_events (control_of c) rest) → Follows first new number m (elses_events (control_of c) rest)
elses_cut c d rest i e first now new number next m ss low item is sb f before = elses_last c d rest i e first now new number next m low item is (of_block now new next m (control_of d) ss (out-Else e).block sb f) before
