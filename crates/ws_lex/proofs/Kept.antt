-- A statement that ends on a line before the first broken one holds no piece that breaks the source form.
use Rattle.std.proofs.Common.{◌≡◌, ◌≤◌, ◌<◌, ◌-◌, ◌⊎◌, ℕ, zero, suc, List, [], ◌∷◌, ◌++◌, sym, arith, subst, inl, inr}
use Rattle.std.specs.Prelude.{All}
use Rattle.std.proofs.lemmas.List.Elements.{All-nil, All-cons}
use Rattle.ws_lex.specs.declared.piece.Cell.{Cell}
use Rattle.ws_lex.specs.declared.piece.Shape.{Shape}
use Rattle.ws_lex.specs.declared.piece.Shape.TheVariants as shape
use Rattle.ws_lex.specs.Spelling.{spell}
use Rattle.ws_lex.specs.Text.{text}
use Rattle.ws_lex.specs.Tokens.{Piece, piece, pieces_after, pieces_of, lines_of, bytes_of, breaks, breaks_of, Statement, statements, before_first, closed, IsLeast, IsWhole}
use Rattle.ws_lex.proofs.Order.{AtOrAfter, AllSettled, IsSettled, text-settled}

-- a fact of each piece of a list is one of each piece of its statements
before_first-all : (P : Piece → Type 0) (p : Piece) (ss : List Statement) → P p → All (λ s. All P s.pieces) ss → All (λ s. All P s.pieces) (before_first p ss)
before_first-all P p [] this more = All-nil (λ s. All P s.pieces)
before_first-all P p (s ∷ ss) this more =
    All-cons (λ t. All P t.pieces) (record { pieces = p ∷ s.pieces; last = s.last }) ss
    (All-cons P p s.pieces this (more 0 s (omega arith))) (λ i d k. more (suc i) d (omega (arith, k)))

closed-all : (P : Piece → Type 0) (n : ℕ) (s : Shape) (ss : List Statement) → All (λ s. All P s.pieces) ss → All (λ s. All P s.pieces) (closed n s ss)
closed-all P n shape.Separator ss more = All-cons (λ t. All P t.pieces) (record { pieces = []; last = n }) ss (All-nil P) more
closed-all P n _ ss more = more

statements-all : (P : Piece → Type 0) (ps : List Piece) → All P ps → All (λ s. All P s.pieces) (statements ps)
statements-all P [] h = All-nil (λ s. All P s.pieces)
statements-all P (p ∷ ps) h =
    before_first-all P p (closed p.line p.shape (statements ps)) (h 0 p (omega arith))
    (closed-all P p.line p.shape (statements ps) (statements-all P ps (λ i d k. h (suc i) d (omega (arith, k)))))

-- ---- the end of a statement

abbrev EndsFrom : ℕ → List Statement → Type 0
EndsFrom n ss = All (λ s. n ≤ s.last) ss

before_first-ends : (n : ℕ) (p : Piece) (ss : List Statement) → EndsFrom n ss → EndsFrom n (before_first p ss)
before_first-ends n p [] h = h
before_first-ends n p (s ∷ ss) h =
    All-cons (λ t. n ≤ t.last) (record { pieces = p ∷ s.pieces; last = s.last }) ss (h 0 s (omega arith)) (λ i d k. h (suc i) d (omega (arith, k)))

closed-ends : (n m : ℕ) (s : Shape) (ss : List Statement) → n ≤ m → EndsFrom n ss → EndsFrom n (closed m s ss)
closed-ends n m shape.Separator ss l h = All-cons (λ t. n ≤ t.last) (record { pieces = []; last = m }) ss l h
closed-ends n m _ ss l h = h

ends : (n k : ℕ) (cs : List Cell) → AtOrAfter n cs → EndsFrom n (statements (pieces_after k cs))
ends n zero [] h = All-nil (λ s. n ≤ s.last)
ends n (suc k) [] h = All-nil (λ s. n ≤ s.last)
ends n (suc k) (c ∷ cs) h = ends n k cs (λ i d l. h (suc i) d (omega (arith, l)))
ends n zero (c ∷ cs) h =
    let s = spell (bytes_of (c ∷ cs)) in
    let more = statements (pieces_after (s.size - 1) cs) in
    before_first-ends n (piece c.line (bytes_of (c ∷ cs)) s) (closed c.line s.shape more)
    (closed-ends n c.line s.shape more (h 0 c (omega arith)) (ends n (s.size - 1) cs (λ i d l. h (suc i) d (omega (arith, l)))))

-- ---- the pieces of a statement that break it

-- what is broken in the statement stands on a line up to its last
abbrev IsBelow : Statement → Type 0
IsBelow s = All (λ p. p.shape ≡ shape.Broken → p.line ≤ s.last) s.pieces

-- the piece, put before the first of the statements, stands on a line up to the last of that
abbrev Fits : Piece → List Statement → Type 0
Fits p [] = Unit {0}
Fits p (s ∷ ss) = p.shape ≡ shape.Broken → p.line ≤ s.last

Fits-ends : (p : Piece) (ss : List Statement) → EndsFrom p.line ss → Fits p ss
Fits-ends p [] h = tt
Fits-ends p (s ∷ ss) h = λ b. h 0 s (omega arith)

before_first-below : (p : Piece) (ss : List Statement) → Fits p ss → All IsBelow ss → All IsBelow (before_first p ss)
before_first-below p [] f h = h
before_first-below p (s ∷ ss) f h =
    All-cons IsBelow (record { pieces = p ∷ s.pieces; last = s.last }) ss
    (All-cons (λ q. q.shape ≡ shape.Broken → q.line ≤ s.last) p s.pieces f (h 0 s (omega arith))) (λ i d k. h (suc i) d (omega (arith, k)))

closed-below : (n : ℕ) (s : Shape) (ss : List Statement) → All IsBelow ss → All IsBelow (closed n s ss)
closed-below n shape.Separator ss h =
    All-cons IsBelow (record { pieces = []; last = n }) ss (All-nil (λ q. q.shape ≡ shape.Broken → q.line ≤ n)) h
closed-below n _ ss h = h

-- where the `;` stands directly after a piece of one byte
semicolon-fits : (p : Piece) (n : ℕ) (cs : List Cell) → p.line ≤ n → Fits p (statements (pieces_after 0 (record { byte = 59; line = n } ∷ cs)))
semicolon-fits p n cs l = λ b. l

alone-fits : (b n : ℕ) (cs : List Cell) → (b ≡ 0) ⊎ (b ≡ 37) →
    let bs = b ∷ 59 ∷ bytes_of cs in
    Fits (piece n bs (spell bs)) (statements (pieces_after ((spell bs).size - 1) (record { byte = 59; line = n } ∷ cs)))
alone-fits b n cs (inl is) = subst (λ x. let bs = x ∷ 59 ∷ bytes_of cs in Fits (piece n bs (spell bs)) (statements (pieces_after ((spell bs).size - 1) (record { byte = 59; line = n } ∷ cs)))) (sym is) (λ h. omega arith)
alone-fits b n cs (inr is) = subst (λ x. let bs = x ∷ 59 ∷ bytes_of cs in Fits (piece n bs (spell bs)) (statements (pieces_after ((spell bs).size - 1) (record { byte = 59; line = n } ∷ cs)))) (sym is) (λ h. omega arith)

-- the pieces from a cell on
abbrev FitsAt : Cell → List Cell → Type 0
FitsAt c cs =
    let s = spell (bytes_of (c ∷ cs)) in
    let p = piece c.line (bytes_of (c ∷ cs)) s in
    Fits p (closed c.line s.shape (statements (pieces_after (s.size - 1) cs)))

closed-fits : (p : Piece) (n : ℕ) (s : Shape) (ss : List Statement) → p.line ≤ n → Fits p ss → Fits p (closed n s ss)
closed-fits p n shape.Separator ss l h = λ b. l
closed-fits p n _ ss l h = h

settled-fits : (c : Cell) (cs : List Cell) → IsSettled c cs → FitsAt c cs
settled-fits c cs (inl h) =
    let s = spell (bytes_of (c ∷ cs)) in
    let p = piece c.line (bytes_of (c ∷ cs)) s in
    let more = statements (pieces_after (s.size - 1) cs) in
    closed-fits p c.line s.shape more (omega arith) (Fits-ends p more (ends c.line (s.size - 1) cs h))
settled-fits c cs (inr (inl is)) =
    subst (λ x. FitsAt (record { byte = x; line = c.line }) cs) (sym is) (λ b. omega arith)
settled-fits c cs (inr (inr h)) =
    let s = spell (bytes_of (c ∷ cs)) in
    let p = piece c.line (bytes_of (c ∷ cs)) s in
    let more = statements (pieces_after (s.size - 1) cs) in
    let fits : Fits p more =
    subst (λ ds. let bs = bytes_of (c ∷ ds) in Fits (piece c.line bs (spell bs)) (statements (pieces_after ((spell bs).size - 1) ds))) (sym h.next)
    (alone-fits c.byte c.line h.rest h.byte) in
    closed-fits p c.line s.shape more (omega arith) fits

below : (k : ℕ) (cs : List Cell) → AllSettled cs → All IsBelow (statements (pieces_after k cs))
below zero [] h = All-nil IsBelow
below (suc k) [] h = All-nil IsBelow
below (suc k) (c ∷ cs) h = below k cs h.1
below zero (c ∷ cs) h =
    let s = spell (bytes_of (c ∷ cs)) in
    let p = piece c.line (bytes_of (c ∷ cs)) s in
    let more = statements (pieces_after (s.size - 1) cs) in
    before_first-below p (closed c.line s.shape more) (settled-fits c cs h.0) (closed-below c.line s.shape more (below (s.size - 1) cs h.1))

-- ---- against the first broken line

breaks_of-after : (n m : ℕ) (s : Shape) (ns : List ℕ) → All (λ k. n ≤ k) (breaks_of m s ++ ns) → (s ≡ shape.Broken → n ≤ m) × All (λ k. n ≤ k) ns
breaks_of-after n m shape.Broken ns h = (λ b. h 0 m (omega arith), λ i d k. h (suc i) d (omega (arith, k)))
breaks_of-after n m shape.Word ns h = (λ b. absurd (cc), h)
breaks_of-after n m shape.Digits ns h = (λ b. absurd (cc), h)
breaks_of-after n m (shape.Sign s) ns h = (λ b. absurd (cc), h)
breaks_of-after n m shape.Foreign ns h = (λ b. absurd (cc), h)
breaks_of-after n m shape.Directive ns h = (λ b. absurd (cc), h)
breaks_of-after n m shape.Separator ns h = (λ b. absurd (cc), h)
breaks_of-after n m shape.Blank ns h = (λ b. absurd (cc), h)

breaks-after : (n : ℕ) (ps : List Piece) → All (λ k. n ≤ k) (breaks ps) → All (λ p. p.shape ≡ shape.Broken → n ≤ p.line) ps
breaks-after n [] h = All-nil (λ p. p.shape ≡ shape.Broken → n ≤ p.line)
breaks-after n (p ∷ ps) h =
    let split = breaks_of-after n p.line p.shape (breaks ps) h in
    All-cons (λ q. q.shape ≡ shape.Broken → n ≤ q.line) p ps split.0 (breaks-after n ps split.1)

pub kept-whole : (source : List ℕ) (line : ℕ) → IsLeast line (breaks (pieces_of source)) → All (λ s. s.last < line → IsWhole s) (statements (pieces_of source))
kept-whole source line h i s l last j p k broken =
    let low = below 0 (text (lines_of source)) (text-settled (lines_of source)) i s l j p k broken in
    let high = statements-all (λ q. q.shape ≡ shape.Broken → line ≤ q.line) (pieces_of source) (breaks-after line (pieces_of source) h.least) i s l j p k broken in
    absurd (omega (arith, low, high, last))
