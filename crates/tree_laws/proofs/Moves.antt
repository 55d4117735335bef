-- What a statement does in a place is good: what stands for it is of the grammar there.
use Rattle.std.proofs.Common.{◌≡◌, refl, sym, subst, ◌∙◌, ℕ, zero, suc, ◌≤◌, inl, inr, Bool, true, false, ◌||◌, true≢false, List, [], ◌∷◌, ◌++◌, length, length-append, All, Option, Some, None, codes, arith}
use Rattle.std.specs.Prelude.{if◌then◌else◌, ⊤}
use Rattle.std.proofs.lemmas.List.Elements.{All-nil, All-push}
use Rattle.ws_lex.specs.declared.token.Sign.{Sign as Sign'}
use Rattle.ws_lex.specs.declared.token.Sign.TheVariants as sign
use Rattle.ws_lex.specs.declared.token.Token.{Token}
use Rattle.ws_lex.specs.declared.token.TokenKind.{TokenKind}
use Rattle.ws_lex.specs.declared.token.TokenKind.TheVariants.{Word}
use Rattle.ws_tree.specs.declared.expr.Expr.{Expr}
use Rattle.ws_tree.specs.declared.stmt.Body.{Body}
use Rattle.ws_tree.specs.declared.stmt.Body.TheVariants as body
use Rattle.ws_tree.specs.declared.stmt.Bound.{Bound}
use Rattle.ws_tree.specs.declared.stmt.Decl.{Decl}
use Rattle.ws_tree.specs.declared.stmt.Index.{Index}
use Rattle.ws_tree.specs.declared.stmt.Part.{Part as Allocation}
use Rattle.ws_tree.specs.Opened.{trees_open}
use Rattle.ws_tree.specs.Words.{is_other_call}
use Rattle.ws_tree.specs.Grammatical.{IsSide, IsOptional, IsDesignator, IsBound, IsIndex, IsPart, IsHeader, IsDecl, IsBody, Within, anywhere, in_where, in_forall}
use Rattle.ws_expr.specs.declared.reading.Reading.{Reading}
use Rattle.ws_expr.specs.declared.reading.Gathered.{Gathered}
use Rattle.ws_expr.specs.Readings.{tree_of, odd_of}
use Rattle.ws_expr.specs.Grammar.{Reads}
use Rattle.ws_stmt.specs.declared.role.Block.{Block}
use Rattle.ws_stmt.specs.declared.role.Block.TheVariants as block
use Rattle.ws_stmt.specs.declared.role.Role.{Role}
use Rattle.ws_stmt.specs.declared.role.Role.TheVariants as role
use Rattle.ws_stmt.specs.declared.form.Form.{Form}
use Rattle.ws_stmt.specs.declared.form.Form.TheVariants as form
use Rattle.ws_stmt.specs.declared.form.Said.{Said}
use Rattle.ws_stmt.specs.declared.form.Start.{Start}
use Rattle.ws_stmt.specs.declared.form.Start.TheVariants as start
use Rattle.ws_stmt.specs.Roles.{is_word, is_left_out_by_words, has_foreign}
use Rattle.ws_stmt.specs.Statements.{Lists, first, next, InParens, Attributes, Designates, ReadsBound, upper, both, deferred, ReadsShape, ReadsLast, omitted, last, ReadsIndex, ReadsAllocation, ReadsName, ReadsExtent, own, taken, scalar, ReadsValue, variable, constant, ReadsEntity, Assigns, SaysAssignment, SaysDeclaration, one_statement, SaysWhere, masked, masking, SaysElse, otherwise, else_masking, ReadsHeader, SaysForall, over, spanning, SaysDo, SaysAllocate, SaysDeallocate, SaysRead, alone, named_end, program_end, end_form, is_shared, parallel_form, end_by, region_end, directive_form, SaysWords, start_of, SaysAs, Says}
use Rattle.ws_parse.specs.declared.turn.Turn.{Turn}
use Rattle.ws_parse.specs.declared.turn.Turn.TheVariants as turn
use Rattle.ws_parse.specs.declared.place.Place.{Place}
use Rattle.ws_parse.specs.declared.place.Place.TheVariants as place
use Rattle.ws_parse.specs.declared.place.Opening.{Opening}
use Rattle.ws_parse.specs.declared.place.Opening.TheVariants as opening
use Rattle.ws_parse.specs.declared.place.Move.{Move}
use Rattle.ws_parse.specs.declared.place.Move.TheVariants as move
use Rattle.ws_parse.specs.Turns.{left_body, IsTurn, is_in_where, is_in_forall, or_left_out, when, act, nests, lost, opened, open_in, region, is_in, is_outermost, goes_on, may_name, may_imply, may_declare, said_move, left_move, strange_move, move_of, Moves}
use Rattle.ws_parse.specs.Blocks.{line_of}
use Rattle.tree_laws.proofs.Good.{IsLeft, within_of, IsGoodOpening, Belongs, IsGoodMove}

or_false : (a b : Bool) → (a || b) ≡ false → (a ≡ false) × (b ≡ false)
or_false true b h = absurd (true≢false h)
or_false false b h = (refl, h)

if_either : {A : Type 0} (P : A → Type 0) (c : Bool) (x y : A) → P x → P y → P (if c then x else y)
if_either P true x y p q = p
if_either P false x y p q = q

-- ---- forms

-- a statement that is whole in itself is of the grammar wherever it may stand
abbrev IsGoodAct : ℕ → Body → Type 0
IsGoodAct line b =
    ((room : ℕ) → IsBody anywhere room line b)
    × (is_in_where b ≡ true → (room : ℕ) → IsBody in_where room line b)
    × (is_in_forall b ≡ true → (room : ℕ) → IsBody in_forall room line b)

abbrev IsRegion : Block → Type 0
IsRegion block.ParallelWorkshare = ⊤
IsRegion block.Parallel = ⊤
IsRegion block.Workshare = ⊤
IsRegion _ = ⊥

abbrev IsGoodForm : ℕ → Form → Type 0
IsGoodForm line (form.Acts b) = IsGoodAct line b
IsGoodForm line (form.OpensWhere m) = IsSide m
IsGoodForm line (form.OpensElse m) = IsOptional m
IsGoodForm line (form.OpensForall is m) = IsHeader is m
IsGoodForm line (form.OpensDo i) = IsIndex i
IsGoodForm line (form.Declares ds) = All IsDecl ds
IsGoodForm line _ = ⊤

-- what opens a region is never odd
abbrev IsGoodAs : ℕ → Bool → Form → Type 0
IsGoodAs line odd (form.OpensRegion b) = IsRegion b
IsGoodAs line odd f = odd ≡ false → IsGoodForm line f

abbrev IsGoodSaid : ℕ → Said → Type 0
IsGoodSaid line s = IsGoodAs line s.odd s.form

-- ---- moves, from good forms

abbrev IsGood : Place → ℕ → Option Move → Type 0
IsGood p line None = ⊤
IsGood p line (Some m) = IsGoodMove p line m

good_when : (p : Place) (line : ℕ) (c : Bool) (m : Move) → (c ≡ true → IsGoodMove p line m) → IsGood p line (when c m)
good_when p line true m h = h refl
good_when p line false m h = tt

left_or : (k : Within) (room line : ℕ) (odd : Bool) (b : Body) → (odd ≡ false → IsBody k room line b) → IsBody k room line (or_left_out odd b)
left_or k room line true b h = tt
left_or k room line false b h = h refl

good_act : (p : Place) (line : ℕ) (odd : Bool) (b : Body) → (odd ≡ false → IsGoodAct line b) → IsGood p line (act p odd b)
good_act place.After line odd b h = tt
good_act (place.In block.Where s l) line odd b h = good_when (place.In block.Where s l) line (is_in_where b) (move.Act (or_left_out odd b)) (λ c room. left_or in_where room line odd b (λ e. (h e).1 c room))
good_act (place.In block.Forall s l) line odd b h = good_when (place.In block.Forall s l) line (is_in_forall b) (move.Act (or_left_out odd b)) (λ c room. left_or in_forall room line odd b (λ e. (h e).2 c room))
good_act (place.In block.Parallel s l) line odd b h = λ room. tt
good_act p line odd b h = λ room. left_or anywhere room line odd b (λ e. (h e).0 room)

-- where the block may stand and is not left out
abbrev Allowed : Option Bool → Type 0 → Type 0
Allowed None A = ⊤
Allowed (Some true) A = ⊤
Allowed (Some false) A = A

allowed_any : (n : Option Bool) (A : Type 0) → A → Allowed n A
allowed_any None A a = tt
allowed_any (Some true) A a = tt
allowed_any (Some false) A a = a

good_opened : (p : Place) (line : ℕ) (b : Block) (o : Opening) (n : Option Bool) → Belongs b o → Allowed n (IsGoodOpening (within_of p) o) → IsGood p line (opened b o n)
good_opened p line b o None belongs h = tt
good_opened p line b o (Some true) belongs h = (inl refl, tt)
good_opened p line b o (Some false) belongs h = (h, belongs)

good_lost : (p : Place) (line : ℕ) (b : Block) (odd : Bool) (o : Opening) → Belongs b o → (odd ≡ false → Allowed (nests p b) (IsGoodOpening (within_of p) o)) → IsGood p line (open_in p b (lost odd o))
good_lost p line b true o belongs h = good_opened p line b (opening.Lost body.Unsupported) (nests p b) tt (allowed_any (nests p b) (IsLeft body.Unsupported) (inl refl))
good_lost p line b false o belongs h = good_opened p line b o (nests p b) belongs (h refl)

allowed_forall : (p : Place) (is : List Index) (m : Option Expr) → IsHeader is m → Allowed (nests p block.Forall) (IsGoodOpening (within_of p) (opening.Forall is m))
allowed_forall place.After is m h = tt
allowed_forall (place.In block.Where s l) is m h = tt
allowed_forall (place.In block.Forall s l) is m h = h
allowed_forall p is m h = allowed_any (nests p block.Forall) (IsHeader is m) h

allowed_do : (p : Place) (i : Index) → IsIndex i → Allowed (nests p block.Do) (IsGoodOpening (within_of p) (opening.Do i))
allowed_do place.After i h = tt
allowed_do (place.In block.Where s l) i h = tt
allowed_do (place.In block.Forall s l) i h = tt
allowed_do p i h = allowed_any (nests p block.Do) (IsIndex i) h

allowed_region : (p : Place) (b : Block) → IsRegion b → Allowed (nests p b) (IsGoodOpening (within_of p) (region b))
allowed_region p block.Where h = absurd h
allowed_region p block.Forall h = absurd h
allowed_region p block.Do h = absurd h
allowed_region place.After b h = tt
allowed_region (place.In block.Where s l) b h = tt
allowed_region (place.In block.Forall s l) b h = tt
allowed_region p b h = allowed_any (nests p b) ⊤ tt

belongs_region : (b : Block) → IsRegion b → Belongs b (region b)
belongs_region block.Where h = absurd h
belongs_region block.Forall h = absurd h
belongs_region block.Do h = absurd h
belongs_region block.ParallelWorkshare h = tt
belongs_region block.Parallel h = tt
belongs_region block.Workshare h = tt

good_said_move : (p : Place) (line : ℕ) (odd : Bool) (f : Form) → IsGoodAs line odd f → IsGood p line (said_move p odd f)
good_said_move p line odd (form.Program x) h = good_when p line (may_name p) (move.Name x) (λ c. tt)
good_said_move p line odd form.ImplicitNone h = good_when p line (may_imply p) move.Implicit (λ c. tt)
good_said_move p line true (form.Declares ds) h = good_when p line (may_declare p) move.LeaveOut (λ c. tt)
good_said_move p line false (form.Declares ds) h = good_when p line (may_declare p) (move.Declare ds) (λ c. h refl)
good_said_move p line odd (form.Acts b) h = good_act p line odd b h
good_said_move p line odd (form.OpensWhere m) h = good_lost p line block.Where odd (opening.Where m) tt (λ e. allowed_any (nests p block.Where) (IsSide m) (h e))
good_said_move p line odd (form.OpensElse m) h = good_when p line (goes_on p) (move.Next m odd) (λ c. (c, h))
good_said_move p line odd (form.OpensForall is m) h = good_lost p line block.Forall odd (opening.Forall is m) tt (λ e. allowed_forall p is m (h e))
good_said_move p line odd (form.OpensDo i) h = good_lost p line block.Do odd (opening.Do i) tt (λ e. allowed_do p i (h e))
good_said_move p line odd (form.OpensRegion b) h = good_opened p line b (region b) (nests p b) (belongs_region b h) (allowed_region p b h)
good_said_move p line odd (form.Closes b) h = good_when p line (is_in b p) (move.Close None) (λ c. tt)
good_said_move p line odd (form.EndsProgram x) h = good_when p line (is_outermost p) (move.Finish x) (λ c. tt)

good_left : (p : Place) (line : ℕ) (played : Role) (b : Body) → IsLeft b → IsGoodMove p line (left_move p played b)
good_left place.After line played b h = h
good_left p line role.Alone b h = h
good_left p line (role.Opens c) b h = (h, tt)
good_left p line role.GoesOn b h = h
good_left p line (role.Closes c) b h = if_either (IsGoodMove p line) (is_in c p) (move.Close (Some b)) (move.Idle b) h h
good_left p line role.ClosesUnit b h = if_either (IsGoodMove p line) (is_outermost p) (move.FinishUnread b) (move.Idle b) h h
good_left p line role.NamesUnit b h = if_either (IsGoodMove p line) (may_name p) (move.NameUnread b) (move.Idle b) h h

good_strange : (p : Place) (line : ℕ) (played : Role) → IsGood p line (strange_move p played)
good_strange p line (role.Opens b) = good_opened p line b (opening.Lost body.Unsupported) (nests p b) tt (allowed_any (nests p b) (IsLeft body.Unsupported) (inl refl))
good_strange p line (role.Closes b) = good_when p line (is_in b p) (move.Close (Some body.Unsupported)) (λ c. inl refl)
good_strange p line _ = tt

left_body_left : (r : List Token) → IsLeft (left_body r)
left_body_left r = if_either IsLeft (is_left_out_by_words r || has_foreign r) body.Unsupported body.TooDeep (inl refl) (inr refl)

-- ---- forms of words alone

abbrev IsGoodWords : Option Form → Type 0
IsGoodWords None = ⊤
IsGoodWords (Some f) = (line : ℕ) → IsGoodAs line false f

good_words : (line : ℕ) (f : Option Form) (s : Said) → IsGoodWords f → SaysWords f s → IsGoodSaid line s
good_words line f s h w = subst (IsGoodSaid line) (sym w.is) (subst IsGoodWords w.there h line)

good_alone : (f : Form) (ts : List Token) → ((line : ℕ) → IsGoodAs line false f) → IsGoodWords (alone f ts)
good_alone f [] h = h
good_alone f (t ∷ ts) h = tt

good_named_end : (k : TokenKind) → IsGoodWords (named_end k)
good_named_end (Word x) = λ line odd. tt
good_named_end _ = tt

good_program_end : (ts : List Token) → IsGoodWords (program_end ts)
good_program_end [] = λ line odd. tt
good_program_end (t ∷ []) = good_named_end t.what
good_program_end (t ∷ u ∷ ts) = tt

good_end_form : (ts : List Token) → IsGoodWords (end_form ts)
good_end_form [] = λ line odd. tt
good_end_form (t ∷ ts) =
    if_either IsGoodWords (is_word (codes "do") t.what) _ _ (good_alone (form.Closes block.Do) ts (λ line odd. tt))
    (if_either IsGoodWords (is_word (codes "where") t.what) _ _ (good_alone (form.Closes block.Where) ts (λ line odd. tt))
    (if_either IsGoodWords (is_word (codes "forall") t.what) _ _ (good_alone (form.Closes block.Forall) ts (λ line odd. tt))
    (if_either IsGoodWords (is_word (codes "program") t.what) _ _ (good_program_end ts) tt)))

good_parallel_form : (ts : List Token) → IsGoodWords (parallel_form ts)
good_parallel_form [] = λ line. tt
good_parallel_form (t ∷ ts) =
    if_either IsGoodWords (is_word (codes "workshare") t.what) _ _
    (if_either IsGoodWords (is_shared ts) (Some (form.OpensRegion block.ParallelWorkshare)) None (λ line. tt) tt)
    (if_either IsGoodWords (is_shared (t ∷ ts)) (Some (form.OpensRegion block.Parallel)) None (λ line. tt) tt)

good_end_by : (b : Block) (w : List ℕ) (other : Block) (ts : List Token) → IsGoodWords (end_by b w other ts)
good_end_by b w other [] = λ line odd. tt
good_end_by b w other (t ∷ []) = if_either IsGoodWords (is_word w t.what) (Some (form.Closes other)) None (λ line odd. tt) tt
good_end_by b w other (t ∷ u ∷ ts) = tt

good_region_end : (ts : List Token) → IsGoodWords (region_end ts)
good_region_end [] = tt
good_region_end (t ∷ ts) =
    if_either IsGoodWords (is_word (codes "workshare") t.what) _ _ (good_end_by block.Workshare (codes "nowait") block.Workshare ts)
    (if_either IsGoodWords (is_word (codes "parallel") t.what) _ _ (good_end_by block.Parallel (codes "workshare") block.ParallelWorkshare ts) tt)

good_directive_form : (ts : List Token) → IsGoodWords (directive_form ts)
good_directive_form [] = tt
good_directive_form (t ∷ ts) =
    if_either IsGoodWords (is_word (codes "end") t.what) _ _ (good_region_end ts)
    (if_either IsGoodWords (is_word (codes "workshare") t.what) _ _ (good_alone (form.OpensRegion block.Workshare) ts (λ line. tt))
    (if_either IsGoodWords (is_word (codes "parallel") t.what) _ _ (good_parallel_form ts) tt))

-- ---- what stands in the tree

masked_body : (k : Within) (room line : ℕ) (m l r : Expr) → IsSide m → IsDesignator l → IsSide r → IsBody k room line (body.Masked m (one_statement line (body.Assign l r)) [])
unfolding trees_open
masked_body k zero line m l r a b c = (a, (refl, b, c), tt)
masked_body k (suc room) line m l r a b c = (a, ((b, c), tt), tt)

good_masked : (line : ℕ) (m l r : Expr) → IsSide m → IsDesignator l → IsSide r → IsGoodAct line (body.Masked m (one_statement line (body.Assign l r)) [])
good_masked line m l r a b c = (λ room. masked_body anywhere room line m l r a b c, λ e room. masked_body in_where room line m l r a b c, λ e room. masked_body in_forall room line m l r a b c)

over_anywhere : (room line : ℕ) (is : List Index) (m : Option Expr) (l r : Expr) → IsHeader is m → IsDesignator l → IsSide r → IsBody anywhere room line (body.Forall is m (one_statement line (body.Assign l r)))
unfolding trees_open
over_anywhere zero line is m l r a b c = (a, (refl, b, c))
over_anywhere (suc room) line is m l r a b c = (a, ((b, c), tt))

over_in_forall : (room line : ℕ) (is : List Index) (m : Option Expr) (l r : Expr) → IsHeader is m → IsDesignator l → IsSide r → IsBody in_forall room line (body.Forall is m (one_statement line (body.Assign l r)))
unfolding trees_open
over_in_forall zero line is m l r a b c = (a, (refl, b, c))
over_in_forall (suc room) line is m l r a b c = (a, ((b, c), tt))

good_over : (line : ℕ) (is : List Index) (m : Option Expr) (l r : Expr) → IsHeader is m → IsDesignator l → IsSide r → IsGoodAct line (body.Forall is m (one_statement line (body.Assign l r)))
good_over line is m l r a b c = (λ room. over_anywhere room line is m l r a b c, λ e. absurd (true≢false (sym e)), λ e room. over_in_forall room line is m l r a b c)

good_assign : (line : ℕ) (l r : Expr) → IsDesignator l → IsSide r → IsGoodAct line (body.Assign l r)
good_assign line l r b c = (λ room. (b, c), λ e room. (b, c), λ e room. (b, c))

good_outside : (line : ℕ) (b : Body) → is_in_where b ≡ false → is_in_forall b ≡ false → ((room : ℕ) → IsBody anywhere room line b) → IsGoodAct line b
good_outside line b w f h = (h, λ e. absurd (true≢false (sym e ∙ w)), λ e. absurd (true≢false (sym e ∙ f)))

-- ---- lists

some_more : {A : Type 0} (xs : List A) (x : A) → 1 ≤ length (xs ++ x ∷ [])
some_more xs x = let e = length-append xs (x ∷ []) in omega arith

lists_some : {A : Type 0} (P : List Token → Reading A → List Token → Type 0) (ts : List Token) (xs : Gathered A) (rest : List Token) → Lists P ts xs rest → 1 ≤ length xs.trees
lists_some P ts xs rest (first {x = x} p) = some_more [] x.tree
lists_some P ts xs rest (next {xs = ys} {x = x} l c p) = some_more ys.trees x.tree

lists_all : {A : Type 0} (P : List Token → Reading A → List Token → Type 0) (Q : A → Type 0) → ((ts : List Token) (x : Reading A) (rest : List Token) → P ts x rest → x.odd ≡ false → Q x.tree) →
    (ts : List Token) (xs : Gathered A) (rest : List Token) → Lists P ts xs rest → xs.odd ≡ false → All Q xs.trees
lists_all P Q h ts xs rest (first {x = x} p) odd = All-push Q [] x.tree (All-nil Q) (h _ x _ p odd)
lists_all P Q h ts xs rest (next {xs = ys} {x = x} l c p) odd =
    let o = or_false ys.odd x.odd odd in
    All-push Q ys.trees x.tree (lists_all P Q h _ ys _ l o.0) (h _ x _ p o.1)

-- ---- what statements say, from what is shown of the expressions in them

module _ (side : (ts : List Token) (e : Reading Expr) (rest : List Token) → Reads 8 ts e rest → e.odd ≡ false → IsSide e.tree)
    (designator : (ts : List Token) (e : Reading Expr) (rest : List Token) → Designates ts e rest → e.odd ≡ false → IsDesignator e.tree) where
  parens_good : (ts : List Token) (e : Reading Expr) (rest : List Token) → InParens ts e rest → e.odd ≡ false → IsSide e.tree
  parens_good ts e rest p odd = side p.us e p.vs p.reads odd

  bound_good : (ts : List Token) (b : Reading Bound) (rest : List Token) → ReadsBound ts b rest → b.odd ≡ false → IsBound b.tree
  bound_good ts b rest (upper {u = u} p) odd = side _ u _ p odd
  bound_good ts b rest (both {l = l} {u = u} p c q) odd = let o = or_false l.odd u.odd odd in (side _ l _ p o.0, side _ u _ q o.1)
  bound_good ts b rest (deferred c) odd = tt

  shape_good : (ts : List Token) (bounds : Gathered Bound) (rest : List Token) → ReadsShape ts bounds rest → bounds.odd ≡ false → All IsBound bounds.trees
  shape_good ts bounds rest p odd = lists_all ReadsBound IsBound bound_good p.us bounds p.vs p.lists odd

  last_good : (mark : Sign') (ts : List Token) (m : Option (Reading Expr)) (rest : List Token) → ReadsLast mark ts m rest → odd_of m ≡ false → IsOptional (tree_of m)
  last_good mark ts m rest omitted odd = tt
  last_good mark ts m rest (last {e = e} c p) odd = side _ e _ p odd

  index_good : (mark : Sign') (ts : List Token) (i : Reading Index) (rest : List Token) → ReadsIndex mark ts i rest → i.odd ≡ false → IsIndex i.tree
  index_good mark ts i rest p = subst (λ (j : Reading Index). j.odd ≡ false → IsIndex j.tree) (sym p.is) (λ odd.
      let o = or_false (p.l.odd || p.u.odd) (odd_of p.s) odd in
      let q = or_false p.l.odd p.u.odd o.0 in
      (side p.vs p.l p.ws p.first q.0, side p.xs p.u p.ys p.second q.1, last_good mark p.ys p.s rest p.step o.1))

  allocation_good : (ts : List Token) (a : Reading Allocation) (rest : List Token) → ReadsAllocation ts a rest → a.odd ≡ false → IsPart a.tree
  allocation_good ts a rest p = subst (λ (b : Reading Allocation). b.odd ≡ false → IsPart b.tree) (sym p.is) (λ odd.
      let o = or_false p.bounds.odd (is_other_call p.x) odd in
      (lists_some ReadsBound p.shape.us p.bounds p.shape.vs p.shape.lists, shape_good p.us p.bounds rest p.shape o.0))

  header_good : (ts : List Token) (is : Gathered Index) (m : Option (Reading Expr)) (rest : List Token) → ReadsHeader ts is m rest → is.odd ≡ false → odd_of m ≡ false → IsHeader is.trees (tree_of m)
  header_good ts is m rest p a b =
      (lists_some (ReadsIndex sign.Colon) p.us is p.vs p.lists, lists_all (ReadsIndex sign.Colon) IsIndex (index_good sign.Colon) p.us is p.vs p.lists a, last_good sign.Comma p.vs m p.ws p.mask b)

  -- ---- declarations

  extent_good : (dimension ts : List Token) (bounds : List Bound) (odd : Bool) (rest : List Token) → ReadsExtent dimension ts bounds odd rest → odd ≡ false → All IsBound bounds
  extent_good dimension ts bounds odd rest (own {bounds = bs} p) e = shape_good _ bs _ p e
  extent_good dimension ts bounds odd rest (taken {bounds = bs} p) e = shape_good _ bs _ p e
  extent_good dimension ts bounds odd rest (scalar p) e = All-nil IsBound

  value_good : (some : Bool) (ts : List Token) (v : Option (Reading Expr)) (rest : List Token) → ReadsValue some ts v rest → odd_of v ≡ false → IsOptional (tree_of v)
  value_good some ts v rest variable odd = tt
  value_good some ts v rest (constant {e = e} c p) odd = side _ e _ p odd

  entity_good : (line : ℕ) (truth : Bool) (a : Attributes) (ts : List Token) (d : Reading Decl) (rest : List Token) → ReadsEntity line truth a ts d rest → d.odd ≡ false → IsDecl d.tree
  entity_good line truth a ts d rest p = subst (λ (e : Reading Decl). e.odd ≡ false → IsDecl e.tree) (sym p.is) (λ odd.
      let o = or_false p.odd (odd_of p.value) odd in
      (value_good a.constant p.vs p.value rest p.becomes o.1, extent_good a.dimension p.us p.bounds p.odd p.vs p.extent o.0))

  -- ---- statements

  assignment_said : (line : ℕ) (ts : List Token) (s : Said) → SaysAssignment ts s → IsGoodSaid line s
  assignment_said line ts s p = subst (IsGoodSaid line) (sym p.is) (subst (λ (b : Reading Body). b.odd ≡ false → IsGoodAct line b.tree) (sym p.assigns.is) (λ odd.
      let a = p.assigns in
      let o = or_false a.left.odd a.right.odd odd in
      good_assign line a.left.tree a.right.tree (designator ts a.left a.us a.designates o.0) (side a.vs a.right [] a.reads o.1)))

  declaration_said : (line : ℕ) (truth : Bool) (ts : List Token) (s : Said) → SaysDeclaration line truth ts s → IsGoodSaid line s
  declaration_said line truth ts s p = subst (IsGoodSaid line) (sym p.is) (λ odd.
      let o = or_false p.odd p.ds.odd odd in
      lists_all (ReadsEntity line truth p.a) IsDecl (entity_good line truth p.a) p.ws p.ds [] p.entities o.1)

  masked_good : (line : ℕ) (m : Reading Expr) (ts us : List Token) (b : Reading Body) → InParens ts m us → Assigns us b → (m.odd || b.odd) ≡ false → IsGoodAct line (body.Masked m.tree (one_statement line b.tree) [])
  masked_good line m ts us b p a = subst (λ (c : Reading Body). (m.odd || c.odd) ≡ false → IsGoodAct line (body.Masked m.tree (one_statement line c.tree) [])) (sym a.is) (λ odd.
      let o = or_false m.odd (a.left.odd || a.right.odd) odd in
      let q = or_false a.left.odd a.right.odd o.1 in
      good_masked line m.tree a.left.tree a.right.tree (parens_good ts m us p o.0) (designator us a.left a.us a.designates q.0) (side a.vs a.right [] a.reads q.1))

  where_said : (line : ℕ) (ts : List Token) (s : Said) → SaysWhere line ts s → IsGoodSaid line s
  where_said line ts s (masked {us = us} {m = m} {b = b} p a) = masked_good line m ts us b p a
  where_said line ts s (masking {m = m} p) = parens_good ts m [] p

  else_said : (line : ℕ) (ts : List Token) (s : Said) → SaysElse ts s → IsGoodSaid line s
  else_said line ts s (otherwise e) = λ odd. tt
  else_said line ts s (else_masking {m = m} p) = parens_good ts m [] p

  over_good : (line : ℕ) (is : Gathered Index) (m : Option (Reading Expr)) (ts us : List Token) (b : Reading Body) → ReadsHeader ts is m us → Assigns us b →
      ((is.odd || odd_of m) || b.odd) ≡ false → IsGoodAct line (body.Forall is.trees (tree_of m) (one_statement line b.tree))
  over_good line is m ts us b p a = subst (λ (c : Reading Body). ((is.odd || odd_of m) || c.odd) ≡ false → IsGoodAct line (body.Forall is.trees (tree_of m) (one_statement line c.tree))) (sym a.is) (λ odd.
      let o = or_false (is.odd || odd_of m) (a.left.odd || a.right.odd) odd in
      let h = or_false is.odd (odd_of m) o.0 in
      let q = or_false a.left.odd a.right.odd o.1 in
      good_over line is.trees (tree_of m) a.left.tree a.right.tree (header_good ts is m us p h.0 h.1) (designator us a.left a.us a.designates q.0) (side a.vs a.right [] a.reads q.1))

  forall_said : (line : ℕ) (ts : List Token) (s : Said) → SaysForall line ts s → IsGoodSaid line s
  forall_said line ts s (over {us = us} {is = is} {m = m} {b = b} p a) = over_good line is m ts us b p a
  forall_said line ts s (spanning {is = is} {m = m} p) = λ odd. let h = or_false is.odd (odd_of m) odd in header_good ts is m [] p h.0 h.1

  do_said : (line : ℕ) (ts : List Token) (s : Said) → SaysDo ts s → IsGoodSaid line s
  do_said line ts s p = subst (IsGoodSaid line) (sym p.is) (index_good sign.Comma ts p.i [] p.index)

  allocate_said : (line : ℕ) (ts : List Token) (s : Said) → SaysAllocate ts s → IsGoodSaid line s
  allocate_said line ts s p = subst (IsGoodSaid line) (sym p.is) (λ odd. good_outside line (body.Allocate p.ps.trees) refl refl (λ room.
      (lists_some ReadsAllocation p.arrays.us p.ps p.arrays.vs p.arrays.lists, lists_all ReadsAllocation IsPart allocation_good p.arrays.us p.ps p.arrays.vs p.arrays.lists odd)))

  deallocate_said : (line : ℕ) (ts : List Token) (s : Said) → SaysDeallocate ts s → IsGoodSaid line s
  deallocate_said line ts s p = subst (IsGoodSaid line) (sym p.is) (λ odd. good_outside line (body.Deallocate p.xs.trees) refl refl (λ room. lists_some ReadsName p.arrays.us p.xs p.arrays.vs p.arrays.lists))

  read_said : (line : ℕ) (ts : List Token) (s : Said) → SaysRead ts s → IsGoodSaid line s
  read_said line ts s p = subst (IsGoodSaid line) (sym p.is) (λ odd. good_outside line (body.Read p.es.trees) refl refl (λ room.
      (lists_some Designates p.us p.es [] p.lists, lists_all Designates IsDesignator designator p.us p.es [] p.lists odd)))

  good_says_as : (a : Start) (t : Token) (ts : List Token) (s : Said) → SaysAs a t ts s → IsGoodSaid t.line s
  good_says_as start.Assignment t ts s h = assignment_said t.line (t ∷ ts) s h
  good_says_as start.Program t ts s h = subst (IsGoodSaid t.line) (sym h.is) (λ odd. tt)
  good_says_as start.Implicit t ts s h = subst (IsGoodSaid t.line) (sym h.is) (λ odd. tt)
  good_says_as (start.Declaration truth) t ts s h = declaration_said t.line truth ts s h
  good_says_as start.Where t ts s h = where_said t.line ts s h
  good_says_as start.Elsewhere t ts s h = else_said t.line ts s h
  good_says_as start.Else t ts s h = else_said t.line h.us s h.otherwise
  good_says_as start.Forall t ts s h = forall_said t.line ts s h
  good_says_as start.Do t ts s h = do_said t.line ts s h
  good_says_as start.Allocate t ts s h = allocate_said t.line ts s h
  good_says_as start.Deallocate t ts s h = deallocate_said t.line ts s h
  good_says_as start.Read t ts s h = read_said t.line ts s h
  good_says_as start.End t ts s h = good_words t.line (end_form ts) s (good_end_form ts) h
  good_says_as (start.EndOf b) t ts s h = good_words t.line (alone (form.Closes b) ts) s (good_alone (form.Closes b) ts (λ line odd. tt)) h
  good_says_as start.EndProgram t ts s h = good_words t.line (program_end ts) s (good_program_end ts) h
  good_says_as start.Directive t ts s h = good_words t.line (directive_form ts) s (good_directive_form ts) h
  good_says_as start.Other t ts s h = absurd h

  good_says : (r : List Token) (s : Said) → Says r s → IsGoodSaid (line_of r) s
  good_says [] s h = absurd h
  good_says (t ∷ ts) s h = good_says_as (start_of t.what ts) t ts s h

  good_turn : (p : Place) (r : List Token) (w : Turn) → IsTurn r w → IsGood p (line_of r) (move_of p w)
  good_turn p r (turn.Read s) h = good_said_move p (line_of r) s.odd s.form (good_says r s h.1)
  good_turn p r (turn.LeftOut played b) h = good_left p (line_of r) played b (subst IsLeft (sym h.2) (left_body_left r))
  good_turn p r (turn.Strange played) h = good_strange p (line_of r) played
  good_turn p r turn.Wrong h = tt

  pub good_move : (p : Place) (r : List Token) (m : Move) → Moves p r m → IsGoodMove p (line_of r) m
  good_move p r m h = subst (IsGood p (line_of r)) h.does (good_turn p r h.what h.is)
