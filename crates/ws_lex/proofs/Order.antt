-- A statement ends on no line before that of a piece that breaks it.
use Rattle.std.proofs.Common.{◌≡◌, ◌≤◌, ◌⊎◌, ℕ, suc, Bool, true, false, List, [], ◌∷◌, ◌++◌, refl, sym, ap, ◌∙◌, arith, append_assoc, subst, inl, inr, Option, Some, None}
use Rattle.std.specs.Prelude.{map, codes, if◌then◌else◌, All}
use Rattle.std.proofs.lemmas.List.{append-nil}
use Rattle.std.proofs.lemmas.List.Elements.{All-nil, All-cons}
use Rattle.ws_lex.specs.declared.piece.Cell.{Cell}
use Rattle.ws_lex.specs.declared.piece.Front.{Front}
use Rattle.ws_lex.specs.declared.piece.LineKind.{LineKind}
use Rattle.ws_lex.specs.declared.piece.LineKind.TheVariants as kinds
use Rattle.ws_lex.specs.Lines.{kind, is_broken, directive_part, code_part}
use Rattle.ws_lex.specs.Text.{on_line, ends_in_ampersand, but_last, part_after, directive_text, no_separator, nothing, left_over, interrupted, directive, adds, front_after, mark, text_from, text}

abbrev pub AtOrAfter : ℕ → List Cell → Type 0
AtOrAfter n cs = All (λ c. n ≤ c.line) cs

-- a byte 0 or `%` of a line of its own, with its `;`
pub record IsAlone (c : Cell) (cs : List Cell) : Type 0 where
  pub byte : (c.byte ≡ 0) ⊎ (c.byte ≡ 37)
  pub rest : List Cell
  pub next : cs ≡ record { byte = 59; line = c.line } ∷ rest

-- no later line is before that of the cell, but after a line that stands alone
abbrev pub IsSettled : Cell → List Cell → Type 0
IsSettled c cs = AtOrAfter c.line cs ⊎ ((c.byte ≡ 59) ⊎ IsAlone c cs)

abbrev pub AllSettled : List Cell → Type 0
AllSettled [] = Unit {0}
AllSettled (c ∷ cs) = IsSettled c cs × AllSettled cs

record IsText (low : ℕ) (cs : List Cell) : Type 0 where
  settled : AllSettled cs
  after : AtOrAfter low cs

-- the lines do not fall, from the first number to the second
abbrev Rises : ℕ → List Cell → ℕ → Type 0
Rises low [] high = low ≤ high
Rises low (c ∷ cs) high = (low ≤ c.line) × Rises c.line cs high

Rises-order : (low high : ℕ) (cs : List Cell) → Rises low cs high → low ≤ high
Rises-order low high [] h = h
Rises-order low high (c ∷ cs) h = omega (arith, h.0, Rises-order c.line high cs h.1)

Rises-from : (less low high : ℕ) (cs : List Cell) → less ≤ low → Rises low cs high → Rises less cs high
Rises-from less low high [] l h = omega (arith, l, h)
Rises-from less low high (c ∷ cs) l h = (omega (arith, l, h.0), h.1)

Rises-append : (low mid high : ℕ) (xs ys : List Cell) → Rises low xs mid → Rises mid ys high → Rises low (xs ++ ys) high
Rises-append low mid high [] ys h k = Rises-from low mid high ys h k
Rises-append low mid high (x ∷ xs) ys h k = (h.0, Rises-append x.line mid high xs ys h.1 k)

Rises-line : (low n : ℕ) (bs : List ℕ) → low ≤ n → Rises low (on_line n bs) n
Rises-line low n [] h = h
Rises-line low n (b ∷ bs) h = (h, Rises-line n n bs (omega arith))

AtOrAfter-from : (less low : ℕ) (cs : List Cell) → less ≤ low → AtOrAfter low cs → AtOrAfter less cs
AtOrAfter-from less low cs l h = λ i d k. omega (arith, l, h i d k)

IsText-from : (less low : ℕ) (cs : List Cell) → less ≤ low → IsText low cs → IsText less cs
IsText-from less low cs l h = record { settled = h.settled; after = AtOrAfter-from less low cs l h.after }

IsText-nil : (low : ℕ) → IsText low []
IsText-nil low = record { settled = tt; after = All-nil (λ c. low ≤ c.line) }

IsText-cons : (low : ℕ) (c : Cell) (cs : List Cell) → low ≤ c.line → IsSettled c cs → IsText low cs → IsText low (c ∷ cs)
IsText-cons low c cs l s h = record { settled = (s, h.settled); after = All-cons (λ d. low ≤ d.line) c cs l h.after }

IsText-rises : (low high : ℕ) (xs ys : List Cell) → Rises low xs high → IsText high ys → IsText low (xs ++ ys)
IsText-rises low high [] ys r h = IsText-from low high ys r h
IsText-rises low high (x ∷ xs) ys r h =
    let more = IsText-rises x.line high xs ys r.1 h in
    IsText-cons low x (xs ++ ys) r.0 (inl more.after) (IsText-from low x.line (xs ++ ys) r.0 more)

IsText-alone : (low n b : ℕ) (cs : List Cell) → (b ≡ 0) ⊎ (b ≡ 37) → low ≤ n → IsText low cs → IsText low (on_line n (b ∷ 59 ∷ []) ++ cs)
IsText-alone low n b cs is l h =
    IsText-cons low (record { byte = b; line = n }) (record { byte = 59; line = n } ∷ cs) l (inr (inr (record { byte = is; rest = cs; next = refl })))
    (IsText-cons low (record { byte = 59; line = n }) cs l (inr (inl refl)) h)

IsText-line : (low n : ℕ) (bs : List ℕ) (cs : List Cell) → low ≤ n → IsText n cs → IsText low (on_line n bs ++ cs)
IsText-line low n bs cs l h = IsText-rises low n (on_line n bs) cs (Rises-line low n bs l) h

-- what waits to be continued stands on lines up to that of its `&`
abbrev Waits : ℕ → List Cell → Option ℕ → ℕ → Type 0
Waits low cs None n = cs ≡ []
Waits low cs (Some m) n = Rises low cs m × (m ≤ n)

Waits-next : (low : ℕ) (cs : List Cell) (w : Option ℕ) (n : ℕ) → Waits low cs w n → Waits low cs w (suc n)
Waits-next low cs None n h = h
Waits-next low cs (Some m) n h = (h.0, omega (arith, h.1))

-- the text that waits rises to the line that is read
Waits-rises : (low : ℕ) (cs : List Cell) (w : Option ℕ) (n : ℕ) → low ≤ n → Waits low cs w n → Rises low cs n
Waits-rises low cs None n l h = subst (λ ds. Rises low ds n) (sym h) l
Waits-rises low cs (Some m) n l h = subst (λ ds. Rises low ds n) (append-nil cs) (Rises-append low m n cs [] h.0 h.1)

IsText-mark : (low n : ℕ) (b : Bool) (cs : List Cell) → low ≤ n → IsText low cs → IsText low ((if b then on_line n (0 ∷ codes ";") else []) ++ cs)
IsText-mark low n true cs l h = IsText-alone low n 0 cs (inl refl) l h
IsText-mark low n false cs l h = h

interrupted-line : (low n : ℕ) (w : Option ℕ) (cs : List Cell) → low ≤ n → IsText n cs → IsText low (interrupted n w ++ cs)
interrupted-line low n None cs l h = IsText-from low n cs l h
interrupted-line low n (Some m) cs l h = IsText-line low n (0 ∷ codes ";") cs l h

directive-line : (n : ℕ) (part : List ℕ) (cs : List Cell) → IsText n cs → IsText n (directive n part ++ cs)
directive-line n part cs h =
    let whole = on_line n (codes "!") ++ (on_line n (map no_separator (directive_text part)) ++ (on_line n (codes ";") ++ cs)) in
    let e : directive n part ++ cs ≡ whole =
    append_assoc (on_line n (codes "!")) (on_line n (map no_separator (directive_text part)) ++ on_line n (codes ";")) cs ∙
    ap (λ ds. on_line n (codes "!") ++ ds) (append_assoc (on_line n (map no_separator (directive_text part))) (on_line n (codes ";")) cs) in
    subst (IsText n) (sym e)
    (IsText-line n n (codes "!") _ (omega arith) (IsText-line n n (map no_separator (directive_text part)) _ (omega arith) (IsText-line n n (codes ";") cs (omega arith) h)))

directive-text : (low n : ℕ) (f : Front) (part : List ℕ) (cs : List Cell) → low ≤ n → Waits low f.text f.waits n → IsText n cs →
    IsText low ((f.text ++ (interrupted n f.waits ++ directive n part)) ++ cs)
directive-text low n f part cs l w h =
    let e : (f.text ++ (interrupted n f.waits ++ directive n part)) ++ cs ≡ f.text ++ (interrupted n f.waits ++ (directive n part ++ cs)) =
    append_assoc f.text (interrupted n f.waits ++ directive n part) cs ∙ ap (λ ds. f.text ++ ds) (append_assoc (interrupted n f.waits) (directive n part) cs) in
    subst (IsText low) (sym e)
    (IsText-rises low n f.text _ (Waits-rises low f.text f.waits n l w) (interrupted-line n n f.waits _ (omega arith) (directive-line n part cs h)))

code-text : (low n : ℕ) (f : Front) (bs : List ℕ) (cs : List Cell) → low ≤ n → Waits low f.text f.waits n → IsText n cs →
    IsText low ((f.text ++ (on_line n bs ++ on_line n (codes ";"))) ++ cs)
code-text low n f bs cs l w h =
    let e : (f.text ++ (on_line n bs ++ on_line n (codes ";"))) ++ cs ≡ f.text ++ (on_line n bs ++ (on_line n (codes ";") ++ cs)) =
    append_assoc f.text (on_line n bs ++ on_line n (codes ";")) cs ∙ ap (λ ds. f.text ++ ds) (append_assoc (on_line n bs) (on_line n (codes ";")) cs) in
    subst (IsText low) (sym e)
    (IsText-rises low n f.text _ (Waits-rises low f.text f.waits n l w) (IsText-line n n bs _ (omega arith) (IsText-line n n (codes ";") cs (omega arith) h)))

-- the text from a line on, where the texts from the next line on are known
abbrev Reads : List (List ℕ) → Type 0
Reads ls = (n low : ℕ) (f : Front) → low ≤ n → Waits low f.text f.waits n → IsText low (text_from n f ls)

code-line : (n low : ℕ) (f : Front) (part : List ℕ) (ls : List (List ℕ)) (b : Bool) → low ≤ n → Waits low f.text f.waits n → Reads ls →
    IsText low ((if b then [] else f.text ++ (on_line n (part_after f.waits part) ++ on_line n (codes ";"))) ++
    text_from (suc n) (if b then record { text = f.text ++ on_line n (part_after f.waits (but_last part)); waits = Some n } else nothing) ls)
code-line n low f part ls true l w more =
    more (suc n) low (record { text = f.text ++ on_line n (part_after f.waits (but_last part)); waits = Some n }) (omega arith)
    (Rises-append low n n f.text (on_line n (part_after f.waits (but_last part))) (Waits-rises low f.text f.waits n l w) (Rises-line n n (part_after f.waits (but_last part)) (omega arith)), omega arith)
code-line n low f part ls false l w more =
    code-text low n f (part_after f.waits part) (text_from (suc n) nothing ls) l w (IsText-from n (suc n) _ (omega arith) (more (suc n) (suc n) nothing (omega arith) refl))

line-text : (n low : ℕ) (f : Front) (k : LineKind) (l : List ℕ) (ls : List (List ℕ)) → low ≤ n → Waits low f.text f.waits n → Reads ls →
    IsText low (adds n f k l ++ text_from (suc n) (front_after n f k l) ls)
line-text n low f kinds.Blank l ls h w more = more (suc n) low f (omega arith) (Waits-next low f.text f.waits n w)
line-text n low f kinds.Conditional l ls h w more =
    IsText-alone low n 37 _ (inr refl) h (more (suc n) low f (omega arith) (Waits-next low f.text f.waits n w))
line-text n low f kinds.Directive l ls h w more =
    directive-text low n f (directive_part l) _ h w (IsText-from n (suc n) _ (omega arith) (more (suc n) (suc n) nothing (omega arith) refl))
line-text n low f kinds.Code l ls h w more = code-line n low f (code_part l) ls (ends_in_ampersand (code_part l)) h w more

left-text : (low n : ℕ) (cs : List Cell) (w : Option ℕ) → Waits low cs w n → IsText low (cs ++ left_over w)
left-text low n cs None h = subst (λ ds. IsText low (ds ++ [])) (sym h) (IsText-nil low)
left-text low n cs (Some m) h = IsText-rises low m cs (on_line m (codes "&;")) h.0 (IsText-line m m (codes "&;") [] (omega arith) (IsText-nil m))

reads : (ls : List (List ℕ)) → Reads ls
reads [] n low f h w = left-text low n f.text f.waits w
reads (l ∷ ls) n low f h w =
    subst (IsText low) (sym (append_assoc (mark n l) (adds n f (kind l) l) (text_from (suc n) (front_after n f (kind l) l) ls)))
    (IsText-mark low n (is_broken l) _ h (line-text n low f (kind l) l ls h w (reads ls)))

pub text-settled : (ls : List (List ℕ)) → AllSettled (text ls)
text-settled ls = (reads ls 1 1 nothing (omega arith) refl).settled
