-- The pieces of a WHERE fall into the steps that its meaning runs.
use Rattle.std.proofs.Common.{◌≡◌, refl, ap, sym, ◌∙◌, ℕ, suc, Bool, true, false, if◌then◌else◌, List, [], ◌∷◌, ◌++◌, map, Some, None, append_assoc}
use Rattle.std.specs.List.{flat_map}
use Rattle.std.proofs.lemmas.List.{append-nil}
use Rattle.std.proofs.lemmas.Grind.{flat_map-append}
use Rattle.ws_base.specs.declared.op.CallWord.{CallWord}
use Rattle.ws_space.specs.Masks.{Control, held, failed, everywhere}
use Rattle.ws_tree.specs.declared.expr.Expr.{Expr}
use Rattle.ws_tree.specs.declared.expr.Expr.TheVariants.{Number, TooWide, TooDeep, Truth, Named, Part', Call', Vector'}
use Rattle.ws_tree.specs.declared.expr.Sub.TheVariants as sub
use Rattle.ws_tree.specs.declared.stmt.Body.{Body}
use Rattle.ws_tree.specs.declared.stmt.Body.TheVariants as body
use Rattle.ws_tree.specs.declared.stmt.Else.{Else'}
use Rattle.ws_tree.specs.Trees.{Exprs, end_exprs, more_exprs, Subs, end_subs, more_subs, Given, absent, given, Stmts, end_stmts, more_stmts, Elses, end_elses, more_elses, paren, unary, binary}
use Rattle.ws_types.specs.declared.types.Row.{Row}
use Rattle.ws_types.specs.Operations.{is_reduction}
use Rattle.ws_types.specs.Steps as steps
use Rattle.ws_types.specs.Steps.{Mask, Assignment, Event, Step, steps_after, where_events, where_steps}
use Rattle.ws_counts.specs.declared.tally.Piece.{Piece}
use Rattle.ws_counts.specs.declared.tally.Piece.TheVariants as piece
use Rattle.ws_counts.specs.Pieces as p
use Rattle.ws_counts.specs.Counts.{test_pieces, step_pieces, steps_from, statement_steps}

-- ---- no step ends within an expression

abbrev pub IsInStep : Piece → Type 0
IsInStep piece.Assigned = ⊥
IsInStep _ = Unit {0}

abbrev pub AreInStep : List Piece → Type 0
AreInStep [] = Unit {0}
AreInStep (q ∷ qs) = IsInStep q × AreInStep qs

pub both_in : (xs ys : List Piece) → AreInStep xs → AreInStep ys → AreInStep (xs ++ ys)
both_in [] ys h g = g
both_in (x ∷ xs) ys h g = (h.0, both_in xs ys h.1 g)

call_in : (b : Bool) → AreInStep (if b then piece.Part ∷ piece.Reduction ∷ [] else piece.Part ∷ [])
call_in true = (tt, (tt, tt))
call_in false = (tt, tt)

sub_in : (mask b : Bool) → AreInStep (if b then piece.Part ∷ piece.Whole mask ∷ [] else piece.Part ∷ [])
sub_in mask true = (tt, (tt, tt))
sub_in mask false = (tt, tt)

calls_in : (w : CallWord) → AreInStep (p.call_pieces w)
unfolding p.call_pieces
calls_in w = call_in (is_reduction w)

subscripts_in : (mask whole : Bool) → AreInStep (p.subscript_pieces mask whole)
unfolding p.subscript_pieces
subscripts_in mask whole = sub_in mask whole

mutual
  pub pieces_in : (t : List Row) (inside mask : Bool) (e : Expr) → AreInStep (p.pieces t inside mask e)
  pieces_in t inside mask (Number n) = tt
  pieces_in t inside mask TooWide = tt
  pieces_in t inside mask TooDeep = tt
  pieces_in t inside mask (Truth b) = tt
  pieces_in t inside mask (Named x) = tt
  pieces_in t inside mask (Part' x _ subs) = subs_in t inside mask subs
  pieces_in t inside mask (Call' w h es) = both_in (p.call_pieces w) (p.all_pieces t inside mask es) (calls_in w) (all_in t inside mask es)
  pieces_in t inside mask (Vector' _ es) = all_in t inside mask es
  pieces_in t inside mask (paren e) = pieces_in t inside mask e
  pieces_in t inside mask (unary op e) = (tt, pieces_in t inside mask e)
  pieces_in t inside mask (binary op a b) = (tt, both_in (p.pieces t inside mask a) (p.pieces t inside mask b) (pieces_in t inside mask a) (pieces_in t inside mask b))

  all_in : {m : _} (t : List Row) (inside mask : Bool) (es : Exprs m) → AreInStep (p.all_pieces t inside mask es)
  all_in t inside mask end_exprs = tt
  all_in t inside mask (more_exprs e es) = (tt, both_in (p.pieces t inside mask e) (p.all_pieces t inside mask es) (pieces_in t inside mask e) (all_in t inside mask es))

  subs_in : {m : _} (t : List Row) (inside mask : Bool) (ss : Subs m) → AreInStep (p.subs_pieces t inside mask ss)
  subs_in t inside mask end_subs = tt
  subs_in t inside mask (more_subs (sub.One e) ss) = both_in (p.sub_pieces t inside mask (sub.One e)) (p.subs_pieces t inside mask ss) (both_in (p.subscript_pieces mask (p.is_whole t inside e)) (p.pieces t inside mask e) (subscripts_in mask (p.is_whole t inside e)) (pieces_in t inside mask e)) (subs_in t inside mask ss)
  subs_in t inside mask (more_subs (sub.Range' l u s) ss) =
      both_in (p.sub_pieces t inside mask (sub.Range' l u s)) (p.subs_pieces t inside mask ss)
      (tt, both_in (p.held_pieces t inside mask l ++ p.held_pieces t inside mask u) (p.held_pieces t inside mask s) (both_in (p.held_pieces t inside mask l) (p.held_pieces t inside mask u) (held_in t inside mask l) (held_in t inside mask u)) (held_in t inside mask s))
      (subs_in t inside mask ss)

  held_in : (t : List Row) (inside mask : Bool) (g : Given) → AreInStep (p.held_pieces t inside mask g)
  held_in t inside mask absent = tt
  held_in t inside mask (given e) = pieces_in t inside mask e

-- ---- steps of pieces

pub one_more : (ps : List Piece) (q : Piece) (qs : List Piece) → IsInStep q → steps_from ps (q ∷ qs) ≡ steps_from (ps ++ q ∷ []) qs
one_more [] piece.Part qs h = refl
one_more [] piece.Reduction qs h = refl
one_more [] (piece.Whole m) qs h = refl
one_more [] piece.Mask qs h = refl
one_more [] piece.Assigned qs h = absurd h
one_more (x ∷ ps) piece.Part qs h = refl
one_more (x ∷ ps) piece.Reduction qs h = refl
one_more (x ∷ ps) (piece.Whole m) qs h = refl
one_more (x ∷ ps) piece.Mask qs h = refl
one_more (x ∷ ps) piece.Assigned qs h = absurd h

pub ends : (ps qs : List Piece) → steps_from ps (piece.Assigned ∷ qs) ≡ ps ∷ steps_from [] qs
ends [] qs = refl
ends (x ∷ ps) qs = refl

pub passed : (xs ps qs : List Piece) → AreInStep xs → steps_from ps (xs ++ qs) ≡ steps_from (ps ++ xs) qs
passed [] ps qs h = ap (λ l. steps_from l qs) (sym (append-nil ps))
passed (x ∷ xs) ps qs h = one_more ps x (xs ++ qs) h.0 ∙ passed xs (ps ++ x ∷ []) qs h.1 ∙ ap (λ l. steps_from l qs) (append_assoc ps (x ∷ []) xs)

next_mask : (ms : List Mask) (m : Mask) (es : List Event) → steps_after ms (steps.mask m ∷ es) ≡ steps_after (ms ++ m ∷ []) es
next_mask [] m es = refl
next_mask (x ∷ ms) m es = refl

next_assigned : (ms : List Mask) (a : Assignment) (es : List Event) → steps_after ms (steps.assigned a ∷ es) ≡ record { masks = ms; assignment = Some a } ∷ steps_after [] es
next_assigned [] a es = refl
next_assigned (x ∷ ms) a es = refl

-- a mask or an assignment of a WHERE
abbrev event_pieces : List Row → Event → List Piece
event_pieces t (steps.mask m) = test_pieces t m
event_pieces t (steps.assigned a) = p.assigned_pieces t false a.left a.right

-- the steps of the events are those of their pieces
events_steps : (t : List Row) (es : List Event) (ms : List Mask) → steps_from (flat_map (test_pieces t) ms) (flat_map (event_pieces t) es) ≡ map (step_pieces t) (steps_after ms es)
events_steps t [] [] = refl
events_steps t [] (m ∷ ms) = ap (λ l. l ∷ []) (sym (append-nil (flat_map (test_pieces t) (m ∷ ms))))
events_steps t (steps.mask m ∷ es) ms =
    let old : List Piece = flat_map (test_pieces t) ms in
    let rest : List Piece = flat_map (event_pieces t) es in
    passed (test_pieces t m) old rest (tt, pieces_in t false true m.test)
    ∙ ap (λ l. steps_from (old ++ l) rest) (sym (append-nil (test_pieces t m)))
    ∙ ap (λ l. steps_from l rest) (sym (flat_map-append (test_pieces t) ms (m ∷ [])))
    ∙ events_steps t es (ms ++ m ∷ [])
    ∙ ap (map (step_pieces t)) (sym (next_mask ms m es))
events_steps t (steps.assigned a ∷ es) ms =
    let old : List Piece = flat_map (test_pieces t) ms in
    let rest : List Piece = flat_map (event_pieces t) es in
    let sides : List Piece = p.pieces t false false a.left ++ p.pieces t false false a.right in
    ap (steps_from old) (append_assoc sides (piece.Assigned ∷ []) rest)
    ∙ passed sides old (piece.Assigned ∷ rest) (both_in (p.pieces t false false a.left) (p.pieces t false false a.right) (pieces_in t false false a.left) (pieces_in t false false a.right))
    ∙ ends (old ++ sides) rest
    ∙ ap (λ l. (old ++ sides) ∷ l) (events_steps t es [])
    ∙ ap (map (step_pieces t)) (sym (next_assigned ms a es))

-- ---- the events of a WHERE have its pieces

-- a mask, what it controls, and what follows
masked_events : (t : List Row) (test : Expr) (inner after : List Event) (held_pieces after_pieces : List Piece) → flat_map (event_pieces t) inner ≡ held_pieces → flat_map (event_pieces t) after ≡ after_pieces →
    p.mask_pieces t false test ++ flat_map (event_pieces t) (inner ++ after) ≡ p.mask_pieces t false test ++ held_pieces ++ after_pieces
masked_events t test inner after held_pieces after_pieces first second =
    ap (λ l. p.mask_pieces t false test ++ l) (flat_map-append (event_pieces t) inner after)
    ∙ sym (append_assoc (p.mask_pieces t false test) (flat_map (event_pieces t) inner) (flat_map (event_pieces t) after))
    ∙ ap (λ l. p.mask_pieces t false test ++ l ++ flat_map (event_pieces t) after) first
    ∙ ap (λ l. p.mask_pieces t false test ++ held_pieces ++ l) second

mutual
  body_events : (t : List Row) (c : Control) (line : ℕ) (b : Body) (k : ℕ) → flat_map (event_pieces t) (steps.inside c line b k).0 ≡ p.where_pieces t false b
  body_events t c line (body.Assign left right) k = append-nil (p.assigned_pieces t false left right)
  body_events t c line (body.Masked' test h block g rest) k =
      let inner = steps.block (held k) block (suc k) in
      let after = steps.otherwise (failed k) rest inner.1 in
      masked_events t test inner.0 after.0 (p.block_pieces t false block) (p.elses_pieces t false rest) (block_events t (held k) block (suc k)) (rest_events t (failed k) rest inner.1)
  body_events t c line (body.Forall' is m h block) k = refl
  body_events t c line (body.Loop' x l u s h block) k = refl
  body_events t c line (body.Allocate ps) k = refl
  body_events t c line (body.Deallocate xs) k = refl
  body_events t c line (body.Read es) k = refl
  body_events t c line (body.Shared' h block) k = refl
  body_events t c line body.Unsupported k = refl
  body_events t c line body.TooDeep k = refl

  block_events : {m : _} (t : List Row) (c : Control) (ss : Stmts m) (k : ℕ) → flat_map (event_pieces t) (steps.block c ss k).0 ≡ p.block_pieces t false ss
  block_events t c end_stmts k = refl
  block_events t c (more_stmts line b rest) k =
      let first = steps.inside c line b k in
      let more = steps.block c rest first.1 in
      flat_map-append (event_pieces t) first.0 more.0
      ∙ ap (λ l. l ++ flat_map (event_pieces t) more.0) (body_events t c line b k)
      ∙ ap (λ l. p.where_pieces t false b ++ l) (block_events t c rest first.1)

  rest_events : {m : _} (t : List Row) (c : Control) (es : Elses m) (k : ℕ) → flat_map (event_pieces t) (steps.otherwise c es k).0 ≡ p.elses_pieces t false es
  rest_events t c end_elses k = refl
  rest_events t c (more_elses (Else' line (Some test) h block) rest) k =
      let inner = steps.block (held k) block (suc k) in
      let after = steps.otherwise (failed k) rest inner.1 in
      masked_events t test inner.0 after.0 (p.block_pieces t false block) (p.elses_pieces t false rest) (block_events t (held k) block (suc k)) (rest_events t (failed k) rest inner.1)
  rest_events t c (more_elses (Else' line None h block) rest) k = block_events t c block k ∙ sym (append-nil (p.block_pieces t false block))

where_steps_are : (t : List Row) (line : ℕ) (b : Body) → steps_from [] (p.where_pieces t false b) ≡ map (step_pieces t) (where_steps line b)
where_steps_are t line b = ap (steps_from []) (sym (body_events t everywhere line b 0)) ∙ events_steps t (where_events line b) []

-- the steps of a statement are those of its pieces
pub statement_steps_are : (t : List Row) (line : ℕ) (b : Body) → steps_from [] (p.statement_pieces t false b) ≡ statement_steps t line b
statement_steps_are t line (body.Assign left right) = where_steps_are t line (body.Assign left right)
statement_steps_are t line (body.Masked' test h block g rest) = where_steps_are t line (body.Masked' test h block g rest)
statement_steps_are t line (body.Forall' is m h block) = refl
statement_steps_are t line (body.Loop' x l u s h block) = refl
statement_steps_are t line (body.Allocate ps) = refl
statement_steps_are t line (body.Deallocate xs) = refl
statement_steps_are t line (body.Read es) = refl
statement_steps_are t line (body.Shared' h block) = refl
statement_steps_are t line body.Unsupported = refl
statement_steps_are t line body.TooDeep = refl
