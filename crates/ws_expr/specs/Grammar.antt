-- The grammar of expressions. `Reads r ts e rest`: the tokens `ts` begin with the expression `e`, whose rank is at most `r`, and `rest` follows it.
use Rattle.std.specs.Prelude.{◌≡◌, ◌≤◌, ℕ, true, false, Option, Some, None, List, ◌∷◌}
use Rattle.ws_lex.specs.declared.token.Sign.TheVariants as sign
use Rattle.ws_lex.specs.declared.token.Token.{Token}
use Rattle.ws_lex.specs.declared.token.TokenKind.TheVariants.{Word, Digits, Sign}
use Rattle.ws_base.specs.declared.op.UnOp.{UnOp}
use Rattle.ws_base.specs.declared.op.BinOp.{BinOp}
use Rattle.ws_tree.specs.declared.expr.Expr.{Expr}
use Rattle.ws_tree.specs.declared.expr.Expr.TheVariants.{Truth, Named}
use Rattle.ws_tree.specs.declared.expr.Sub.{Sub}
use Rattle.ws_expr.specs.declared.reading.Reading.{Reading}
use Rattle.ws_expr.specs.declared.reading.Gathered.{Gathered}
use Rattle.ws_expr.specs.declared.calls.Callee.{Callee}
use Rattle.ws_expr.specs.Ranks.{rank, left_rank, right_rank, sign_rank, operand_rank, joining, leading}
use Rattle.ws_expr.specs.Readings.{leaf, unary, binary, paren, empty, only, with_one, vector, part, one, range, number_of, callee, call}

mutual
  pub data Reads : ℕ → List Token → Reading Expr → List Token → Type 0 where
    primary : {r : ℕ} {ts rest : List Token} {e : Reading Expr} → Primary ts e rest → Reads r ts e rest
    signed : {r : ℕ} {t : Token} {op : UnOp} {ts rest : List Token} {a : Reading Expr} →
        leading t.what ≡ Some op → sign_rank op ≤ r → Reads (operand_rank op) ts a rest → Reads r (t ∷ ts) (unary op a) rest
    joined : {r : ℕ} {t : Token} {op : BinOp} {ts us rest : List Token} {a b : Reading Expr} →
        joining t.what ≡ Some op → rank op ≤ r → Reads (left_rank op) ts a (t ∷ us) → Reads (right_rank op) us b rest → Reads r ts (binary op a b) rest

  pub data Primary : List Token → Reading Expr → List Token → Type 0 where
    number : {t : Token} {d : List ℕ} {rest : List Token} → t.what ≡ Digits d → Primary (t ∷ rest) (number_of d) rest
    yes : {t : Token} {rest : List Token} → t.what ≡ Sign sign.True → Primary (t ∷ rest) (leaf (Truth true)) rest
    no : {t : Token} {rest : List Token} → t.what ≡ Sign sign.False → Primary (t ∷ rest) (leaf (Truth false)) rest
    named : {t : Token} {x : List ℕ} {rest : List Token} → t.what ≡ Word x → Primary (t ∷ rest) (leaf (Named x)) rest
    -- name ( sub {, sub} )
    subscripted : {t p q : Token} {x : List ℕ} {ts rest : List Token} {subs : Gathered Sub} →
        t.what ≡ Word x → callee x ≡ None → p.what ≡ Sign sign.Open → ReadsSubs ts subs (q ∷ rest) → q.what ≡ Sign sign.Close → Primary (t ∷ p ∷ ts) (part x subs) rest
    -- word ( [expr {, expr}] )
    called : {t p q : Token} {x : List ℕ} {w : Callee} {ts rest : List Token} {es : Gathered Expr} →
        t.what ≡ Word x → callee x ≡ Some w → p.what ≡ Sign sign.Open → ReadsArguments ts es (q ∷ rest) → q.what ≡ Sign sign.Close → Primary (t ∷ p ∷ ts) (call w es) rest
    squared : {p q : Token} {ts rest : List Token} {es : Gathered Expr} →
        p.what ≡ Sign sign.OpenSquare → ReadsAll ts es (q ∷ rest) → q.what ≡ Sign sign.CloseSquare → Primary (p ∷ ts) (vector es) rest
    slashed : {p q : Token} {ts rest : List Token} {es : Gathered Expr} →
        p.what ≡ Sign sign.OpenSlash → ReadsAll ts es (q ∷ rest) → q.what ≡ Sign sign.CloseSlash → Primary (p ∷ ts) (vector es) rest
    bracketed : {p q : Token} {ts rest : List Token} {e : Reading Expr} →
        p.what ≡ Sign sign.Open → Reads 8 ts e (q ∷ rest) → q.what ≡ Sign sign.Close → Primary (p ∷ ts) (paren e) rest

  -- [expr {, expr}]
  pub data ReadsArguments : List Token → Gathered Expr → List Token → Type 0 where
    none : {ts : List Token} → ReadsArguments ts empty ts
    some : {ts rest : List Token} {es : Gathered Expr} → ReadsAll ts es rest → ReadsArguments ts es rest

  -- expr {, expr}
  pub data ReadsAll : List Token → Gathered Expr → List Token → Type 0 where
    first : {ts rest : List Token} {e : Reading Expr} → Reads 8 ts e rest → ReadsAll ts (only e) rest
    next : {c : Token} {ts us rest : List Token} {es : Gathered Expr} {e : Reading Expr} →
        ReadsAll ts es (c ∷ us) → c.what ≡ Sign sign.Comma → Reads 8 us e rest → ReadsAll ts (with_one es e) rest

  -- sub {, sub}
  pub data ReadsSubs : List Token → Gathered Sub → List Token → Type 0 where
    first_sub : {ts rest : List Token} {s : Reading Sub} → ReadsSub ts s rest → ReadsSubs ts (only s) rest
    next_sub : {c : Token} {ts us rest : List Token} {ss : Gathered Sub} {s : Reading Sub} →
        ReadsSubs ts ss (c ∷ us) → c.what ≡ Sign sign.Comma → ReadsSub us s rest → ReadsSubs ts (with_one ss s) rest

  -- expr | [expr] : [expr] [: expr], where `::` counts as two
  pub data ReadsSub : List Token → Reading Sub → List Token → Type 0 where
    single : {ts rest : List Token} {e : Reading Expr} → Reads 8 ts e rest → ReadsSub ts (one e) rest
    bounded : {c : Token} {ts us rest : List Token} {l u : Option (Reading Expr)} →
        ReadsMaybe ts l (c ∷ us) → c.what ≡ Sign sign.Colon → ReadsMaybe us u rest → ReadsSub ts (range l u None) rest
    strided : {c d : Token} {ts us vs rest : List Token} {l u : Option (Reading Expr)} {s : Reading Expr} →
        ReadsMaybe ts l (c ∷ us) → c.what ≡ Sign sign.Colon → ReadsMaybe us u (d ∷ vs) → d.what ≡ Sign sign.Colon → Reads 8 vs s rest → ReadsSub ts (range l u (Some s)) rest
    doubled : {c : Token} {ts us rest : List Token} {l : Option (Reading Expr)} {s : Reading Expr} →
        ReadsMaybe ts l (c ∷ us) → c.what ≡ Sign sign.DoubleColon → Reads 8 us s rest → ReadsSub ts (range l None (Some s)) rest

  -- [expr]
  pub data ReadsMaybe : List Token → Option (Reading Expr) → List Token → Type 0 where
    absent : {ts : List Token} → ReadsMaybe ts None ts
    present : {ts rest : List Token} {e : Reading Expr} → Reads 8 ts e rest → ReadsMaybe ts (Some e) rest
