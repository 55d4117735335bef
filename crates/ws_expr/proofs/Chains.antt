-- An expression as its first operand and the operators and operands after it, from left to right.
use Rattle.std.proofs.Common.{◌≡◌, ◌≤◌, ◌+◌, ℕ, Some, None, List, [], ◌∷◌, sym, ap, ◌∙◌, subst, arith, ◌⊎◌, inl, inr}
use Rattle.ws_lex.specs.declared.token.Token.{Token}
use Rattle.ws_tree.specs.declared.expr.Expr.{Expr}
use Rattle.ws_expr.specs.declared.reading.Reading.{Reading}
use Rattle.ws_expr.specs.Readings.{binary}
use Rattle.ws_base.specs.declared.op.UnOp.{UnOp}
use Rattle.ws_base.specs.declared.op.UnOp.TheVariants as unop
use Rattle.ws_base.specs.declared.op.BinOp.{BinOp}
use Rattle.ws_base.specs.declared.op.BinOp.TheVariants as binop
use Rattle.ws_expr.specs.Ranks.{rank, left_rank, right_rank, sign_rank, operand_rank, joining}
use Rattle.ws_expr.specs.Grammar.{Reads}
use Rattle.ws_expr.specs.Grammar.Reads.{primary, signed, joined}
use Rattle.ws_expr.specs.Parsing.{Stops, Head}
use Rattle.ws_expr.specs.Parsing.Head.{of_power, of_sign}

pub weaker : {r s : ℕ} {ts rest : List Token} {e : Reading Expr} → r ≤ s → Reads r ts e rest → Reads s ts e rest
weaker h (primary p) = primary p
weaker h (signed j low d) = signed j (omega arith) d
weaker h (joined j low d f) = joined j (omega arith) d f

operands_within : (op : BinOp) → (left_rank op ≤ rank op) × (right_rank op ≤ rank op)
operands_within binop.Pow = (omega arith, omega arith)
operands_within binop.Mul = (omega arith, omega arith)
operands_within binop.Div = (omega arith, omega arith)
operands_within binop.Add = (omega arith, omega arith)
operands_within binop.Sub = (omega arith, omega arith)
operands_within binop.Eq = (omega arith, omega arith)
operands_within binop.Ne = (omega arith, omega arith)
operands_within binop.Lt = (omega arith, omega arith)
operands_within binop.Le = (omega arith, omega arith)
operands_within binop.Gt = (omega arith, omega arith)
operands_within binop.Ge = (omega arith, omega arith)
operands_within binop.And = (omega arith, omega arith)
operands_within binop.Or = (omega arith, omega arith)
operands_within binop.Eqv = (omega arith, omega arith)
operands_within binop.Neqv = (omega arith, omega arith)

pub left_within : (op : BinOp) → left_rank op ≤ rank op
left_within op = (operands_within op).0

pub right_within : (op : BinOp) → right_rank op ≤ rank op
right_within op = (operands_within op).1

-- an operator whose left operand may be a power is none itself
pub past_power : (after : BinOp) → 1 ≤ left_rank after → 2 ≤ rank after
past_power binop.Pow h = absurd (omega arith)
past_power binop.Mul h = omega arith
past_power binop.Div h = omega arith
past_power binop.Add h = omega arith
past_power binop.Sub h = omega arith
past_power binop.Eq h = omega arith
past_power binop.Ne h = omega arith
past_power binop.Lt h = omega arith
past_power binop.Le h = omega arith
past_power binop.Gt h = omega arith
past_power binop.Ge h = omega arith
past_power binop.And h = omega arith
past_power binop.Or h = omega arith
past_power binop.Eqv h = omega arith
past_power binop.Neqv h = omega arith

-- what may follow the operator and its right operand does not belong into that operand
pub right_ends : (op after : BinOp) → rank op ≤ left_rank after → right_rank op + 1 ≤ rank after
right_ends op after h = go op after h
  where
    go : (op after : BinOp) → rank op ≤ left_rank after → right_rank op + 1 ≤ rank after
    go binop.Pow after h = past_power after h
    go binop.Mul after h = let l = left_within after in omega arith
    go binop.Div after h = let l = left_within after in omega arith
    go binop.Add after h = let l = left_within after in omega arith
    go binop.Sub after h = let l = left_within after in omega arith
    go binop.Eq after h = let l = left_within after in omega arith
    go binop.Ne after h = let l = left_within after in omega arith
    go binop.Lt after h = let l = left_within after in omega arith
    go binop.Le after h = let l = left_within after in omega arith
    go binop.Gt after h = let l = left_within after in omega arith
    go binop.Ge after h = let l = left_within after in omega arith
    go binop.And after h = let l = left_within after in omega arith
    go binop.Or after h = let l = left_within after in omega arith
    go binop.Eqv after h = let l = left_within after in omega arith
    go binop.Neqv after h = let l = left_within after in omega arith

pub operand_within : (op : UnOp) → operand_rank op + 1 ≤ sign_rank op
operand_within unop.Minus = omega arith
operand_within unop.Plus = omega arith
operand_within unop.Not = omega arith

-- `a`, of rank m, goes on through the operators and operands of `ts`, each of rank at most r, to `e`
pub data Chain (r : ℕ) : ℕ → Reading Expr → List Token → Reading Expr → List Token → Type 0 where
  done : {m : ℕ} {a : Reading Expr} {ts : List Token} → Chain r m a ts a ts
  step : {m : ℕ} {t : Token} {op : BinOp} {us vs rest : List Token} {a b e : Reading Expr} →
      joining t.what ≡ Some op → m ≤ left_rank op → rank op ≤ r → Reads (right_rank op) us b vs → Chain r (rank op) (binary op a b) vs e rest → Chain r m a (t ∷ us) e rest

pub longer : {k r m : ℕ} {a e b : Reading Expr} {ts us rest : List Token} {t : Token} {op : BinOp} →
    k ≤ left_rank op → rank op ≤ r → m ≤ k → joining t.what ≡ Some op → Reads (right_rank op) us b rest → Chain k m a ts e (t ∷ us) → Chain r m a ts (binary op e b) rest
longer h low n j d done = step j (omega arith) low d done
longer {op = op} h low n j d (step j' n' low' d' more) = let w = left_within op in step j' n' (omega arith) d' (longer h low low' j d more)

pub record Spine (r : ℕ) (ts : List Token) (e : Reading Expr) (rest : List Token) : Type 0 where
  pub m : ℕ
  pub first : Reading Expr
  pub after : List Token
  pub some : 1 ≤ m
  pub low : m ≤ r
  pub head : Head r m ts first after
  pub chain : Chain r m first after e rest

looser : {r s m : ℕ} {ts rest : List Token} {e : Reading Expr} → r ≤ s → Head r m ts e rest → Head s m ts e rest
looser h (of_power p) = of_power p
looser h (of_sign j low d) = of_sign j (omega arith) d

power_or_more : (op : BinOp) → (rank op ≤ 1) ⊎ (2 ≤ left_rank op)
power_or_more binop.Pow = inl (omega arith)
power_or_more binop.Mul = inr (omega arith)
power_or_more binop.Div = inr (omega arith)
power_or_more binop.Add = inr (omega arith)
power_or_more binop.Sub = inr (omega arith)
power_or_more binop.Eq = inr (omega arith)
power_or_more binop.Ne = inr (omega arith)
power_or_more binop.Lt = inr (omega arith)
power_or_more binop.Le = inr (omega arith)
power_or_more binop.Gt = inr (omega arith)
power_or_more binop.Ge = inr (omega arith)
power_or_more binop.And = inr (omega arith)
power_or_more binop.Or = inr (omega arith)
power_or_more binop.Eqv = inr (omega arith)
power_or_more binop.Neqv = inr (omega arith)

sign_some : (op : UnOp) → 3 ≤ sign_rank op
sign_some unop.Minus = omega arith
sign_some unop.Plus = omega arith
sign_some unop.Not = omega arith

extended : {r : ℕ} {t : Token} {op : BinOp} {ts us rest : List Token} {a b : Reading Expr} →
    (rank op ≤ 1) ⊎ (2 ≤ left_rank op) → 1 ≤ r → joining t.what ≡ Some op → rank op ≤ r → Reads (left_rank op) ts a (t ∷ us) → Reads (right_rank op) us b rest →
    (1 ≤ left_rank op → Spine (left_rank op) ts a (t ∷ us)) → Spine r ts (binary op a b) rest
extended {op = op} {rest = rest} {a = a} {b = b} (inl p) h j low d f s =
    record { m = 1; first = binary op a b; after = rest; some = omega arith; low = h; head = of_power (joined j p d f); chain = done }
extended {op = op} (inr q) h j low d f s =
    let w = left_within op in
    let s' = s (omega arith) in
    record { m = s'.m; first = s'.first; after = s'.after; some = s'.some; low = omega (arith, s'.low); head = looser (omega arith) s'.head; chain = longer (omega arith) low s'.low j f s'.chain }

pub spine : {r : ℕ} {ts rest : List Token} {e : Reading Expr} → Reads r ts e rest → 1 ≤ r → Spine r ts e rest
spine {rest = rest} {e = e} (primary p) h = record { m = 1; first = e; after = rest; some = omega arith; low = h; head = of_power (primary p); chain = done }
spine {rest = rest} {e = e} (signed {op = op} j low d) h = let w = sign_some op in record { m = sign_rank op; first = e; after = rest; some = omega arith; low = low; head = of_sign j low d; chain = done }
spine (joined {op = op} j low d f) h = extended (power_or_more op) h j low d f (λ k. spine d k)

-- where the chain stands, what its first operator has to bind
pub stops_at : {r m : ℕ} {a e : Reading Expr} {ts rest : List Token} (k : ℕ) → k ≤ r + 1 → ((op : BinOp) → m ≤ left_rank op → k ≤ rank op) → Chain r m a ts e rest → Stops (r + 1) rest → Stops k ts
stops_at {ts = []} k low next done s = tt
stops_at {ts = t ∷ ts} k low next done s = (s.0, λ op j. let b = s.1 op j in omega arith)
stops_at {r = r} {m = m} k low next (step {t = t} {op = op} j n l d more) s = (
  λ is_open. let no : Some op ≡ None = sym j ∙ ap joining is_open in cc,
  λ op' j'. let same : op ≡ op' = cc in subst (λ (o : BinOp). k ≤ rank o) same (next op n),
)

pub stops_less : {k m : ℕ} (ts : List Token) → k ≤ m → Stops m ts → Stops k ts
stops_less [] h s = tt
stops_less (t ∷ ts) h s = (s.0, λ op j. let b = s.1 op j in omega arith)
