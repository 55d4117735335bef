-- The pieces from one place of the text on.
use Rattle.std.proofs.Common.{◌≡◌, ◌≤◌, ◌<◌, ◌+◌, ◌-◌, ℕ, zero, suc, List, [], ◌∷◌, ◌++◌, length, take, drop, get_or, refl, sym, ap, ◌∙◌, arith, append_assoc, Option}
use Rattle.std.proofs.lemmas.List.{drop_more, drop-drop, append-nil, length-map, length-drop}
use Rattle.std.proofs.lemmas.Slice.{between_to_end}
use Rattle.ws_lex.specs.declared.piece.Cell.{Cell}
use Rattle.ws_lex.specs.declared.piece.Shape.{Shape}
use Rattle.ws_lex.specs.declared.piece.Shape.TheVariants as shape
use Rattle.ws_lex.specs.declared.piece.Spelled.{Spelled}
use Rattle.ws_lex.specs.declared.token.Token.{Token}
use Rattle.ws_lex.specs.Spelling.{spell}
use Rattle.ws_lex.specs.Tokens.{Piece, piece, pieces, pieces_after, bytes_of, breaks, breaks_of, Statement, statements, before_first, token_of, tokens_in, tokens_before, ended, ending}
use Rattle.ws_lex.specs.Steps.{least_from, completes, kept, goes_on, completed, collected}

pieces_after-drop : (k : ℕ) (cs : List Cell) → pieces_after k cs ≡ pieces (drop k cs)
pieces_after-drop zero [] = refl
pieces_after-drop (suc k) [] = refl
pieces_after-drop zero (c ∷ cs) = refl
pieces_after-drop (suc k) (c ∷ cs) = pieces_after-drop k cs

bytes_of-drop : (k : ℕ) (cs : List Cell) → bytes_of (drop k cs) ≡ drop k (bytes_of cs)
bytes_of-drop zero [] = refl
bytes_of-drop (suc k) [] = refl
bytes_of-drop zero (c ∷ cs) = refl
bytes_of-drop (suc k) (c ∷ cs) = bytes_of-drop k cs

-- a piece, and those after it
front-piece : (c : Cell) (cs : List Cell) (s : Spelled) → s ≡ spell (bytes_of (c ∷ cs)) → pieces (c ∷ cs) ≡ piece c.line (bytes_of (c ∷ cs)) s ∷ pieces (drop (s.size - 1) cs)
front-piece c cs s is =
    ap (λ t. piece c.line (bytes_of (c ∷ cs)) t ∷ pieces_after (t.size - 1) cs) (sym is) ∙
    ap (λ l. piece c.line (bytes_of (c ∷ cs)) s ∷ l) (pieces_after-drop (s.size - 1) cs)

pub pieces-at : (cells : List Cell) (at : ℕ) (c : Cell) (s : Spelled) → at < length cells → s ≡ spell (bytes_of (drop at cells)) → 1 ≤ s.size →
    pieces (drop at cells) ≡ piece (get_or cells at c).line (bytes_of (drop at cells)) s ∷ pieces (drop (at + s.size) cells)
pieces-at cells at c s h is some =
    let e : drop at cells ≡ get_or cells at c ∷ drop (at + 1) cells = drop_more cells at c h in
    let n : (at + 1) + (s.size - 1) ≡ at + s.size = omega (arith, some) in
    ap pieces e ∙ (front-piece (get_or cells at c) (drop (at + 1) cells) s (is ∙ ap (λ l. spell (bytes_of l)) e) ∙
    (ap (λ l. piece (get_or cells at c).line (bytes_of l) s ∷ pieces (drop (s.size - 1) (drop (at + 1) cells))) (sym e) ∙
    ap (λ l. piece (get_or cells at c).line (bytes_of (drop at cells)) s ∷ pieces l) (drop-drop (s.size - 1) (at + 1) cells ∙ ap (λ k. drop k cells) n)))

-- the bytes from `at` on, as a slice has them
rest-of : (cells : List Cell) (bytes : List ℕ) (at : ℕ) → bytes ≡ bytes_of cells → take (length bytes - at) (drop at bytes) ≡ bytes_of (drop at cells)
rest-of cells bytes at h =
    between_to_end bytes at (length bytes) (omega arith) ∙ (ap (drop at) h ∙ sym (bytes_of-drop at cells))

pub pieces-here : (cells : List Cell) (bytes : List ℕ) (at : ℕ) (c : Cell) (s : Spelled) → bytes ≡ bytes_of cells → at < length cells →
    s ≡ spell (take (length bytes - at) (drop at bytes)) → 1 ≤ s.size →
    pieces (drop at cells) ≡ record { line = (get_or cells at c).line; shape = s.shape; bytes = take (at + s.size - at) (drop at bytes) } ∷ pieces (drop (at + s.size) cells)
pieces-here cells bytes at c s h within is some =
    let n : s.size ≡ at + s.size - at = omega arith in
    pieces-at cells at c s within (is ∙ ap spell (rest-of cells bytes at h)) some ∙
    ap (λ l. record { line = (get_or cells at c).line; shape = s.shape; bytes = l } ∷ pieces (drop (at + s.size) cells))
    (ap (λ k. take k (bytes_of (drop at cells))) n ∙ ap (take (at + s.size - at)) (bytes_of-drop at cells ∙ ap (drop at) (sym h)))

-- ---- the least line

append-breaks : (best : Option ℕ) (n : ℕ) (s : Shape) (ns : List ℕ) → least_from best (breaks_of n s ++ ns) ≡ least_from (least_from best (breaks_of n s)) ns
append-breaks best n shape.Broken ns = refl
append-breaks best n _ ns = refl

pub least-step : (cells : List Cell) (bytes : List ℕ) (at : ℕ) (c : Cell) (s : Spelled) (best after whole : Option ℕ) → bytes ≡ bytes_of cells → at < length cells →
    s ≡ spell (take (length bytes - at) (drop at bytes)) → 1 ≤ s.size →
    after ≡ least_from best (breaks_of (get_or cells at c).line s.shape) →
    least_from best (breaks (pieces (drop at cells))) ≡ whole →
    least_from after (breaks (pieces (drop (at + s.size) cells))) ≡ whole
least-step cells bytes at c s best after whole h within is some now before =
    ap (λ b. least_from b (breaks (pieces (drop (at + s.size) cells)))) now ∙
    (sym (append-breaks best (get_or cells at c).line s.shape (breaks (pieces (drop (at + s.size) cells)))) ∙
    (ap (λ ps. least_from best (breaks ps)) (sym (pieces-here cells bytes at c s h within is some)) ∙ before))

-- ---- statements

completed-piece : (limit : Option ℕ) (begun : List Token) (p : Piece) (ss : List Statement) →
    completed limit begun (before_first p ss) ≡ completed limit (begun ++ token_of p.line p.shape p.bytes) ss
completed-piece limit begun p [] = refl
completed-piece limit begun p (s ∷ ss) =
    ap (λ ts. kept limit s.last ts ++ tokens_before limit ss) (sym (append_assoc begun (token_of p.line p.shape p.bytes) (tokens_in s.pieces)))

completed-nothing : (limit : Option ℕ) (ss : List Statement) → completed limit [] ss ≡ tokens_before limit ss
completed-nothing limit [] = refl
completed-nothing limit (s ∷ ss) = refl

pub collected-step : (limit : Option ℕ) (begun : List Token) (n : ℕ) (s : Shape) (bs : List ℕ) (ps : List Piece) →
    collected limit begun (record { line = n; shape = s; bytes = bs } ∷ ps) ≡ completes limit begun n s ++ collected limit (goes_on begun n s bs) ps
collected-step limit begun n shape.Separator bs ps =
    ap (λ ts. kept limit n ts ++ tokens_before limit (statements ps)) (append-nil begun) ∙
    ap (λ ts. kept limit n begun ++ ts) (sym (completed-nothing limit (statements ps)))
collected-step limit begun n shape.Word bs ps = completed-piece limit begun (record { line = n; shape = shape.Word; bytes = bs }) (statements ps)
collected-step limit begun n shape.Digits bs ps = completed-piece limit begun (record { line = n; shape = shape.Digits; bytes = bs }) (statements ps)
collected-step limit begun n (shape.Sign g) bs ps = completed-piece limit begun (record { line = n; shape = shape.Sign g; bytes = bs }) (statements ps)
collected-step limit begun n shape.Foreign bs ps = completed-piece limit begun (record { line = n; shape = shape.Foreign; bytes = bs }) (statements ps)
collected-step limit begun n shape.Directive bs ps = completed-piece limit begun (record { line = n; shape = shape.Directive; bytes = bs }) (statements ps)
collected-step limit begun n shape.Blank bs ps = completed-piece limit begun (record { line = n; shape = shape.Blank; bytes = bs }) (statements ps)
collected-step limit begun n shape.Broken bs ps = completed-piece limit begun (record { line = n; shape = shape.Broken; bytes = bs }) (statements ps)

pub collect-step : (cells : List Cell) (bytes : List ℕ) (at : ℕ) (c : Cell) (s : Spelled) (limit : Option ℕ) (begun after out new whole : List Token) → bytes ≡ bytes_of cells → at < length cells →
    s ≡ spell (take (length bytes - at) (drop at bytes)) → 1 ≤ s.size →
    new ≡ out ++ completes limit begun (get_or cells at c).line s.shape →
    after ≡ goes_on begun (get_or cells at c).line s.shape (take (at + s.size - at) (drop at bytes)) →
    out ++ collected limit begun (pieces (drop at cells)) ≡ whole →
    new ++ collected limit after (pieces (drop (at + s.size) cells)) ≡ whole
collect-step cells bytes at c s limit begun after out new whole h within is some put now before =
    let n = (get_or cells at c).line in
    let bs = take (at + s.size - at) (drop at bytes) in
    let ps = pieces (drop (at + s.size) cells) in
    ap (λ ts. ts ++ collected limit after ps) put ∙
    (ap (λ ts. (out ++ completes limit begun n s.shape) ++ collected limit ts ps) now ∙
    (append_assoc out (completes limit begun n s.shape) (collected limit (goes_on begun n s.shape bs) ps) ∙
    (ap (λ ts. out ++ ts) (sym (collected-step limit begun n s.shape bs ps)) ∙
    (ap (λ qs. out ++ collected limit begun qs) (sym (pieces-here cells bytes at c s h within is some)) ∙ before))))

-- before the first piece
pub collected-all : (limit : Option ℕ) (ps : List Piece) → collected limit [] ps ≡ tokens_before limit (statements ps)
collected-all limit ps = completed-nothing limit (statements ps)

ended-last : (ts : List Token) (t : Token) → ended (ts ++ t ∷ []) ≡ ts ++ ending t ∷ []
ended-last [] t = refl
ended-last (u ∷ []) t = refl
ended-last (u ∷ v ∷ ts) t = ap (λ l. u ∷ l) (ended-last (v ∷ ts) t)

pub ended-popped : (begun ts new : List Token) (t : Token) → begun ≡ ts ++ t ∷ [] → new ≡ ts ++ ending t ∷ [] → new ≡ ended begun
ended-popped begun ts new t was now = now ∙ sym (ap ended was ∙ ended-last ts t)

pub within-step : (cells : List Cell) (bytes : List ℕ) (at n : ℕ) → bytes ≡ bytes_of cells → at < length cells → n ≤ length (take (length bytes - at) (drop at bytes)) → at + n ≤ length cells
within-step cells bytes at n h within few =
    let long : length bytes ≡ length cells = ap length h ∙ length-map cells (λ c. c.byte) in
    let rest : length (take (length bytes - at) (drop at bytes)) ≡ length bytes - at = ap length (between_to_end bytes at (length bytes) (omega arith)) ∙ length-drop at bytes in
    omega (arith, long, rest, within, few)
