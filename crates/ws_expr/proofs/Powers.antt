-- Powers, as their bases so far and the tokens that are left.
use Rattle.std.proofs.Common.{◌≡◌, ◌≤◌, ℕ, Some, List, [], ◌∷◌, ◌++◌, refl, sym, ap, ◌∙◌, subst, arith}
use Rattle.ws_lex.specs.declared.token.Sign.TheVariants as sign
use Rattle.ws_lex.specs.declared.token.Token.{Token}
use Rattle.ws_lex.specs.declared.token.TokenKind.{TokenKind}
use Rattle.ws_lex.specs.declared.token.TokenKind.TheVariants.{Sign}
use Rattle.ws_base.specs.declared.op.UnOp.{UnOp}
use Rattle.ws_base.specs.declared.op.UnOp.TheVariants as unop
use Rattle.ws_base.specs.declared.op.BinOp.{BinOp}
use Rattle.ws_base.specs.declared.op.BinOp.TheVariants as binop
use Rattle.ws_tree.specs.declared.expr.Expr.{Expr}
use Rattle.ws_expr.specs.declared.reading.Reading.{Reading}
use Rattle.ws_expr.specs.Readings.{binary, raised}
use Rattle.ws_expr.specs.Ranks.{rank, left_rank, right_rank, sign_rank, joining}
use Rattle.ws_expr.specs.Parsing.{Stops, Follows}
use Rattle.ws_expr.specs.Grammar.{Reads, Primary}
use Rattle.ws_expr.specs.Grammar.Reads.{primary, signed, joined}
use Rattle.ws_expr.proofs.Chains.{stops_less}

pub raised_last : (bases : List (Reading Expr)) (b e : Reading Expr) → raised (bases ++ b ∷ []) e ≡ raised bases (binary binop.Pow b e)
raised_last [] b e = refl
raised_last (x ∷ bases) b e = ap (λ (y : Reading Expr). binary binop.Pow x y) (raised_last bases b e)

-- `b` with the powers of `ts` above it is `e`
pub data Tail : Reading Expr → List Token → Reading Expr → List Token → Type 0 where
  alone : {b : Reading Expr} {ts : List Token} → Tail b ts b ts
  power : {t : Token} {us vs rest : List Token} {b c e : Reading Expr} →
      t.what ≡ Sign sign.Power → Primary us c vs → Tail c vs e rest → Tail b (t ∷ us) (binary binop.Pow b e) rest

pub record Raises (ts : List Token) (e : Reading Expr) (rest : List Token) : Type 0 where
  pub base : Reading Expr
  pub after : List Token
  pub read : Primary ts base after
  pub tail : Tail base after e rest

sign_some : (op : UnOp) → 2 ≤ sign_rank op
sign_some unop.Minus = omega arith
sign_some unop.Plus = omega arith
sign_some unop.Not = omega arith

is_power : (op : BinOp) → rank op ≤ 1 → op ≡ binop.Pow
is_power binop.Pow h = refl
is_power binop.Mul h = absurd (omega arith)
is_power binop.Div h = absurd (omega arith)
is_power binop.Add h = absurd (omega arith)
is_power binop.Sub h = absurd (omega arith)
is_power binop.Eq h = absurd (omega arith)
is_power binop.Ne h = absurd (omega arith)
is_power binop.Lt h = absurd (omega arith)
is_power binop.Le h = absurd (omega arith)
is_power binop.Gt h = absurd (omega arith)
is_power binop.Ge h = absurd (omega arith)
is_power binop.And h = absurd (omega arith)
is_power binop.Or h = absurd (omega arith)
is_power binop.Eqv h = absurd (omega arith)
is_power binop.Neqv h = absurd (omega arith)

rank_some : (op : BinOp) → 1 ≤ rank op
rank_some binop.Pow = omega arith
rank_some binop.Mul = omega arith
rank_some binop.Div = omega arith
rank_some binop.Add = omega arith
rank_some binop.Sub = omega arith
rank_some binop.Eq = omega arith
rank_some binop.Ne = omega arith
rank_some binop.Lt = omega arith
rank_some binop.Le = omega arith
rank_some binop.Gt = omega arith
rank_some binop.Ge = omega arith
rank_some binop.And = omega arith
rank_some binop.Or = omega arith
rank_some binop.Eqv = omega arith
rank_some binop.Neqv = omega arith

joins_power : (k : TokenKind) → joining k ≡ Some binop.Pow → k ≡ Sign sign.Power
joins_power (Sign sign.Power) h = refl
joins_power _ h = absurd cc

base_of : {r : ℕ} {ts rest : List Token} {e : Reading Expr} → Reads r ts e rest → r ≤ 0 → Primary ts e rest
base_of (primary p) low = p
base_of (signed {op = op} j h d) low = let w = sign_some op in absurd (omega arith)
base_of (joined {op = op} j h d f) low = let w = rank_some op in absurd (omega arith)

raise_by : {t : Token} {op : BinOp} {ts us rest : List Token} {a b : Reading Expr} → op ≡ binop.Pow → joining t.what ≡ Some op → Primary ts a (t ∷ us) → Raises us b rest → Raises ts (binary op a b) rest
raise_by {t = t} {op = op} {ts = ts} {us = us} {rest = rest} {a = a} {b = b} is j p s =
    subst (λ (o : BinOp). Raises ts (binary o a b) rest) (sym is)
    (record { base = a; after = t ∷ us; read = p; tail = power (joins_power t.what (j ∙ ap (λ (o : BinOp). Some o) is)) s.read s.tail })

pub raises : {r : ℕ} {ts rest : List Token} {e : Reading Expr} → Reads r ts e rest → r ≤ 1 → Raises ts e rest
raises {rest = rest} {e = e} (primary p) low = record { base = e; after = rest; read = p; tail = alone }
raises (signed {op = op} j h d) low = let w = sign_some op in absurd (omega arith)
raises (joined {op = op} j h d f) low =
    let is = is_power op (omega arith) in
    raise_by is j (base_of d (subst (λ (o : BinOp). left_rank o ≤ 0) (sym is) (omega arith))) (raises f (subst (λ (o : BinOp). right_rank o ≤ 1) (sym is) (omega arith)))

pub stops_tail : {ts rest : List Token} {b e : Reading Expr} → Tail b ts e rest → Stops 2 rest → Stops 0 ts
stops_tail {ts = ts} alone s = stops_less ts (omega arith) s
stops_tail (power is d tail) s = (λ h. let no = sym is ∙ h in absurd cc, λ op j. omega arith)

-- of the power `e`, the bases before `last` are read, and what follows `last` stands in `ts`
pub record Onto (bases : List (Reading Expr)) (last : Reading Expr) (ts : List Token) (e : Reading Expr) (rest : List Token) : Type 0 where
  pub top : Reading Expr
  pub is : raised bases top ≡ e
  pub tail : Tail last ts top rest

pub onto_first : {ts ts' rest : List Token} {bases : List (Reading Expr)} {last e : Reading Expr} (s : Raises ts e rest) → bases ≡ [] → last ≡ s.base → ts' ≡ s.after → Onto bases last ts' e rest
onto_first {ts' = ts'} {rest = rest} {last = last} {e = e} s is p q = record {
  top = e;
  is = ap (λ (bs : List (Reading Expr)). raised bs e) is;
  tail = subst (λ (y : Reading Expr). Tail y ts' e rest) (sym p) (subst (λ (xs : List Token). Tail s.base xs e rest) (sym q) s.tail);
}

pub record Above (bases : List (Reading Expr)) (last : Reading Expr) (us : List Token) (e : Reading Expr) (rest : List Token) : Type 0 where
  pub x : Reading Expr
  pub after : List Token
  pub read : Primary us x after
  pub top : Reading Expr
  pub is : raised bases (binary binop.Pow last top) ≡ e
  pub tail : Tail x after top rest

above_of : {us rest : List Token} {t : Token} {bases : List (Reading Expr)} {last top e : Reading Expr} → t.what ≡ Sign sign.Power → Stops 2 rest → raised bases top ≡ e → Tail last (t ∷ us) top rest → Above bases last us e rest
above_of is_power s is alone = let low = s.1 binop.Pow (ap joining is_power) in absurd (omega arith)
above_of is_power s is (power {vs = vs} {c = c} {e = top} h d tail) = record { x = c; after = vs; read = d; top = top; is = is; tail = tail }

pub above : {ts us rest : List Token} {bases : List (Reading Expr)} {last e : Reading Expr} → Follows sign.Power ts us → Stops 2 rest → Onto bases last ts e rest → Above bases last us e rest
above {rest = rest} {last = last} f s o = above_of f.1 s o.is (subst (λ (xs : List Token). Tail last xs o.top rest) f.2 o.tail)

pub onto_next : {us ts rest : List Token} {bases bases' : List (Reading Expr)} {last x e : Reading Expr} (a : Above bases last us e rest) → bases' ≡ bases ++ last ∷ [] → x ≡ a.x → ts ≡ a.after → Onto bases' x ts e rest
onto_next {ts = ts} {rest = rest} {bases = bases} {last = last} {x = x} a is p q = record {
  top = a.top;
  is = ap (λ (bs : List (Reading Expr)). raised bs a.top) is ∙ raised_last bases last a.top ∙ a.is;
  tail = subst (λ (y : Reading Expr). Tail y ts a.top rest) (sym p) (subst (λ (xs : List Token). Tail a.x xs a.top rest) (sym q) a.tail);
}

end_of : {ts rest : List Token} (bases : List (Reading Expr)) {last top e : Reading Expr} → ((us : List Token) → Follows sign.Power ts us → ⊥) → raised bases top ≡ e → Tail last ts top rest → (raised bases last ≡ e) × (ts ≡ rest)
end_of bases none is alone = (is, refl)
end_of bases none is (power {t = t} {us = us} h d tail) = absurd (none us (t, h, refl))

pub onto_end : {ts rest : List Token} {bases : List (Reading Expr)} {last e : Reading Expr} → ((us : List Token) → Follows sign.Power ts us → ⊥) → Onto bases last ts e rest → (raised bases last ≡ e) × (ts ≡ rest)
onto_end {bases = bases} none o = end_of bases none o.is o.tail

-- ---- and the other way

pub data Factors : List Token → List (Reading Expr) → Reading Expr → List Token → Type 0 where
  one_factor : {ts rest : List Token} {e : Reading Expr} → Primary ts e rest → Factors ts [] e rest
  next_factor : {t : Token} {ts us rest : List Token} {bases : List (Reading Expr)} {b e : Reading Expr} →
      Factors ts bases b (t ∷ us) → t.what ≡ Sign sign.Power → Primary us e rest → Factors ts (bases ++ b ∷ []) e rest

pub first_factor : {ts rest : List Token} {bases : List (Reading Expr)} {e : Reading Expr} → bases ≡ [] → Primary ts e rest → Factors ts bases e rest
first_factor {ts = ts} {rest = rest} {e = e} is p = subst (λ (bs : List (Reading Expr)). Factors ts bs e rest) (sym is) (one_factor p)

pub factor_by : {ts0 ts us rest : List Token} {bases bases' : List (Reading Expr)} {b e : Reading Expr} → Follows sign.Power ts us → bases' ≡ bases ++ b ∷ [] → Factors ts0 bases b ts → Primary us e rest → Factors ts0 bases' e rest
factor_by {ts0 = ts0} {rest = rest} {bases = bases} {b = b} {e = e} f is ds d =
    subst (λ (bs : List (Reading Expr)). Factors ts0 bs e rest) (sym is) (next_factor (subst (λ (xs : List Token). Factors ts0 bases b xs) f.2 ds) f.1 d)

power_by : {t : Token} {ts us rest : List Token} {a b : Reading Expr} → t.what ≡ Sign sign.Power → Primary ts a (t ∷ us) → Reads 1 us b rest → Reads 1 ts (binary binop.Pow a b) rest
power_by is p d = let j : joining _ ≡ Some binop.Pow = ap joining is in joined {op = binop.Pow} j (omega arith) (primary p) d

under : {t : Token} {ts us rest : List Token} {bases : List (Reading Expr)} {b x : Reading Expr} → Factors ts bases b (t ∷ us) → t.what ≡ Sign sign.Power → Reads 1 us x rest → Reads 1 ts (raised bases (binary binop.Pow b x)) rest
under (one_factor p) is d = power_by is p d
under {ts = ts} {rest = rest} {b = b} {x = x} (next_factor {bases = bases} {b = b'} f is' p) is d =
    subst (λ (y : Reading Expr). Reads 1 ts y rest) (sym (raised_last bases b' (binary binop.Pow b x))) (under f is' (power_by is p d))

pub factors_read : {ts rest : List Token} {bases : List (Reading Expr)} {last : Reading Expr} → Factors ts bases last rest → Reads 1 ts (raised bases last) rest
factors_read (one_factor p) = primary p
factors_read {ts = ts} {rest = rest} {last = last} (next_factor {bases = bases} {b = b} f is p) =
    subst (λ (y : Reading Expr). Reads 1 ts y rest) (sym (raised_last bases b last)) (under f is (primary p))

pub raised_by : {ts rest : List Token} {bases : List (Reading Expr)} {last x : Reading Expr} → x ≡ raised bases last → Factors ts bases last rest → Reads 1 ts x rest
raised_by {ts = ts} {rest = rest} is f = subst (λ (y : Reading Expr). Reads 1 ts y rest) (sym is) (factors_read f)

-- the last base raised over the power
pub popped : (bases' : List (Reading Expr)) (b e : Reading Expr) {bases : List (Reading Expr)} {x whole : Reading Expr} → x ≡ binary binop.Pow b e → bases ≡ bases' ++ b ∷ [] → raised bases e ≡ whole → raised bases' x ≡ whole
popped bases' b e made is before =
    ap (λ (y : Reading Expr). raised bases' y) made ∙ sym (raised_last bases' b e) ∙ sym (ap (λ (bs : List (Reading Expr)). raised bs e) is) ∙ before
