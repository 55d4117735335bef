-- What the first token says of what is read.
use Rattle.std.proofs.Common.{◌≡◌, ◌≢◌, ◌≤◌, ◌+◌, ℕ, Bool, Option, Some, None, List, [], ◌∷◌, refl, sym, ap, ◌∙◌, subst, arith, true, false, Result, Ok, Err, IfOk}
use Rattle.std.proofs.lemmas.Bool.Decides.{nat_tests}
use Rattle.std.proofs.lemmas.Result.{err_from_is_err_and}
use Rattle.std.specs.Result.{IsErrAnd}
use Rattle.ws_lex.specs.declared.token.Sign.{Sign as Sign'}
use Rattle.ws_lex.specs.declared.token.Sign.TheVariants as sign
use Rattle.ws_lex.specs.declared.token.Token.{Token}
use Rattle.ws_lex.specs.declared.token.TokenKind.{TokenKind}
use Rattle.ws_lex.specs.declared.token.TokenKind.TheVariants.{Word, Digits, Sign}
use Rattle.ws_base.specs.declared.op.UnOp.{UnOp}
use Rattle.ws_base.specs.declared.op.BinOp.{BinOp}
use Rattle.ws_tree.specs.declared.expr.Expr.{Expr}
use Rattle.ws_tree.specs.declared.expr.Expr.TheVariants.{Truth, Named}
use Rattle.ws_tree.specs.declared.expr.Sub.{Sub}
use Rattle.ws_expr.specs.declared.reading.Reading.{Reading}
use Rattle.ws_expr.specs.declared.reading.Gathered.{Gathered}
use Rattle.ws_expr.specs.declared.calls.Callee.{Callee}
use Rattle.ws_expr.specs.declared.parse.Failed.{Failed}
use Rattle.ws_expr.specs.Ranks.{rank, left_rank, right_rank, sign_rank, operand_rank, joining, leading}
use Rattle.ws_expr.specs.Readings.{leaf, unary, binary, paren, empty, vector, part, number_of, callee, call}
use Rattle.ws_expr.specs.Grammar.{Reads, Primary, ReadsArguments, ReadsAll, ReadsSubs, ReadsSub, ReadsMaybe}
use Rattle.ws_expr.specs.Grammar.Reads.{primary, signed, joined}
use Rattle.ws_expr.specs.Grammar.Primary.{number, yes, no, named, subscripted, called, squared, slashed, bracketed}
use Rattle.ws_expr.specs.Grammar.ReadsArguments.{none, some}
use Rattle.ws_expr.specs.Grammar.ReadsAll.{first, next}
use Rattle.ws_expr.specs.Grammar.ReadsMaybe.{absent, present}
use Rattle.ws_expr.specs.Parsing.{Stops, Head, Joins, Leads, next_op, admitted, first_op, preceding, Follows, first_is, closing, Closes, ending, EndsPart, ends_part, listing, EndsSub, closing_subs, ClosesSubs, closes_subs, Answers, Refuses, Opened}
use Rattle.ws_expr.specs.Parsing.Head.{of_power, of_sign}
use Rattle.ws_expr.specs.Parsing.Opened.{of_call, of_part}
use Rattle.ws_expr.proofs.Chains.{Chain, weaker, left_within, Spine, stops_at, stops_less, right_within, right_ends, operand_within, past_power}
use Rattle.ws_expr.proofs.Chains.Chain.{done, step}
use Rattle.ws_expr.proofs.Lists.{More, same_rest}
use Rattle.ws_expr.proofs.Lists.More.{no_more, comma}
use Rattle.ws_expr.proofs.Powers.{raises}

-- ---- operators

admitted_some : (m r : ℕ) (op : BinOp) → m ≤ left_rank op → rank op ≤ r → admitted m r (Some op) ≡ Some op
admitted_some m r op h l = grind (arith, nat_tests)

preceding_some : (r : ℕ) (op : UnOp) → sign_rank op ≤ r → preceding r (Some op) ≡ Some op
preceding_some r op l = grind (arith, nat_tests)

pub record Going (r k : ℕ) (a : Reading Expr) (op : BinOp) (us : List Token) (e : Reading Expr) (rest : List Token) : Type 0 where
  pub b : Reading Expr
  pub after : List Token
  pub read : Reads k us b after
  pub stops : Stops (k + 1) after
  pub chain : Chain r (rank op) (binary op a b) after e rest

goes : {r m : ℕ} {a e : Reading Expr} {t : Token} {us rest : List Token} {op : BinOp} →
    joining t.what ≡ Some op → rank op ≤ r → Stops (r + 1) rest → Chain r m a (t ∷ us) e rest → Going r (right_rank op) a op us e rest
goes {op = op} j low s done = let b = s.1 op j in absurd (omega arith)
goes {r = r} {a = a} {e = e} {us = us} {rest = rest} {op = op} j low s (step {op = op'} {vs = vs} {b = b} j' n l d more) =
    let same : op' ≡ op = cc in
    let w = right_within op' in
    subst (λ (o : BinOp). Going r (right_rank o) a o us e rest) same (record { b = b; after = vs; read = d; stops = stops_at (right_rank op' + 1) (omega arith) (right_ends op') more s; chain = more })

pub goes_some : {bound r m k : ℕ} {a e : Reading Expr} {ts us rest : List Token} {op : BinOp} →
    Joins bound r ts op us → k ≡ right_rank op → Stops (r + 1) rest → Chain r m a ts e rest → Going r k a op us e rest
goes_some {r = r} {m = m} {a = a} {e = e} {us = us} {rest = rest} {op = op} j is s chain =
    subst (λ (k : ℕ). Going r k a op us e rest) (sym is) (goes j.joins j.low s (subst (λ (xs : List Token). Chain r m a xs e rest) j.is chain))

pub chain_as : {r m m' : ℕ} {a a' e : Reading Expr} {ts ts' rest : List Token} → a ≡ a' → m ≡ m' → ts ≡ ts' → Chain r m' a' ts' e rest → Chain r m a ts e rest
chain_as {r = r} {m = m} {m' = m'} {a = a} {a' = a'} {e = e} {ts = ts} {rest = rest} p q s chain =
    subst (λ (y : Reading Expr). Chain r m y ts e rest) (sym p) (subst (λ (k : ℕ). Chain r k a' ts e rest) (sym q) (subst (λ (xs : List Token). Chain r m' a' xs e rest) (sym s) chain))

pub grown : {bound r k kr : ℕ} {a b x : Reading Expr} {ts0 ts us rest : List Token} {op : BinOp} →
    Joins bound r ts op us → k ≡ rank op → kr ≡ right_rank op → x ≡ binary op a b → Reads bound ts0 a ts → Reads kr us b rest → Reads k ts0 x rest
grown {bound = bound} {k = k} {kr = kr} {a = a} {b = b} {x = x} {ts0 = ts0} {us = us} {rest = rest} {op = op} j is is_right p d f =
    let d' = subst (λ (xs : List Token). Reads bound ts0 a xs) j.is d in
    let f' = subst (λ (k : ℕ). Reads k us b rest) is_right f in
    let low : rank op ≤ rank op = omega arith in
    let made = joined j.joins low (weaker j.left d') f' in
    subst (λ (k : ℕ). Reads k ts0 x rest) (sym is) (subst (λ (z : Reading Expr). Reads (rank op) ts0 z rest) (sym p) made)

pub goes_none : {r m : ℕ} {a e : Reading Expr} {ts rest : List Token} → next_op m r ts ≡ None → Chain r m a ts e rest → (a ≡ e) × (ts ≡ rest)
goes_none h done = (refl, refl)
goes_none {r = r} {m = m} h (step {op = op} j n l d more) = let no : Some op ≡ None = sym (ap (admitted m r) j ∙ admitted_some m r op n l) ∙ h in absurd cc

-- ---- the first token of a primary

pub record InParens (us : List Token) (e : Reading Expr) (rest : List Token) : Type 0 where
  pub a : Reading Expr
  pub after : List Token
  pub is : paren a ≡ e
  pub read : Reads 8 us a after
  pub closes : Follows sign.Close after rest

-- a list up to its bracket, and what is made of it
pub record ListAt {A : Type 0} (close : Sign') (P : List Token → Gathered A → List Token → Type 0) (made : Gathered A → Reading Expr) (us : List Token) (e : Reading Expr) (rest : List Token) : Type 0 where
  pub items : Gathered A
  pub after : List Token
  pub is : made items ≡ e
  pub read : P us items after
  pub closes : Follows close after rest

abbrev InBrackets : Sign' → List Token → Reading Expr → List Token → Type 0
InBrackets close = ListAt close ReadsAll vector

pub data AtWord (x : List ℕ) (us : List Token) (e : Reading Expr) (rest : List Token) : Type 0 where
  as_name : leaf (Named x) ≡ e → us ≡ rest → AtWord x us e rest
  as_opened : (inner : List Token) → Follows sign.Open us inner → Opened x inner e rest → AtWord x us e rest

-- what a primary is that begins with this token
abbrev Begun : TokenKind → List Token → Reading Expr → List Token → Type 0
Begun (Digits d) us e rest = (number_of d ≡ e) × (us ≡ rest)
Begun (Word x) us e rest = AtWord x us e rest
Begun (Sign sign.True) us e rest = (leaf (Truth true) ≡ e) × (us ≡ rest)
Begun (Sign sign.False) us e rest = (leaf (Truth false) ≡ e) × (us ≡ rest)
Begun (Sign sign.Open) us e rest = InParens us e rest
Begun (Sign sign.OpenSquare) us e rest = InBrackets sign.CloseSquare us e rest
Begun (Sign sign.OpenSlash) us e rest = InBrackets sign.CloseSlash us e rest
Begun _ us e rest = ⊥

record Starts (k : TokenKind) (us : List Token) (e : Reading Expr) (rest : List Token) : Type 0 where
  starts : Begun k us e rest

starts_as : {k k' : TokenKind} {us rest : List Token} {e : Reading Expr} → k ≡ k' → Starts k us e rest → Starts k' us e rest
starts_as {us = us} {rest = rest} {e = e} is b = subst (λ (k : TokenKind). Starts k us e rest) is b

begun : {e : Reading Expr} {t : Token} {us rest : List Token} → Primary (t ∷ us) e rest → Starts t.what us e rest
begun (number h) = starts_as (sym h) (record { starts = (refl, refl) })
begun (yes h) = starts_as (sym h) (record { starts = (refl, refl) })
begun (no h) = starts_as (sym h) (record { starts = (refl, refl) })
begun (named h) = starts_as (sym h) (record { starts = as_name refl refl })
begun (subscripted {p = p} {ts = ts} h n o d c) = starts_as (sym h) (record { starts = as_opened ts (p, o, refl) (of_part n d c) })
begun (called {p = p} {ts = ts} h n o d c) = starts_as (sym h) (record { starts = as_opened ts (p, o, refl) (of_call n d c) })
begun {rest = rest} (squared {q = q} {es = es} h d c) = starts_as (sym h) (record { starts = record { items = es; after = q ∷ rest; is = refl; read = d; closes = (q, c, refl) } })
begun {rest = rest} (slashed {q = q} {es = es} h d c) = starts_as (sym h) (record { starts = record { items = es; after = q ∷ rest; is = refl; read = d; closes = (q, c, refl) } })
begun {rest = rest} (bracketed {q = q} {e = a} h d c) = starts_as (sym h) (record { starts = record { a = a; after = q ∷ rest; is = refl; read = d; closes = (q, c, refl) } })

pub at_digits : {e : Reading Expr} {t : Token} {us rest : List Token} {d : List ℕ} → t.what ≡ Digits d → Primary (t ∷ us) e rest → (number_of d ≡ e) × (us ≡ rest)
at_digits h p = (starts_as h (begun p)).starts

pub at_true : {e : Reading Expr} {t : Token} {us rest : List Token} → t.what ≡ Sign sign.True → Primary (t ∷ us) e rest → (leaf (Truth true) ≡ e) × (us ≡ rest)
at_true h p = (starts_as h (begun p)).starts

pub at_false : {e : Reading Expr} {t : Token} {us rest : List Token} → t.what ≡ Sign sign.False → Primary (t ∷ us) e rest → (leaf (Truth false) ≡ e) × (us ≡ rest)
at_false h p = (starts_as h (begun p)).starts

pub at_open : {e : Reading Expr} {t : Token} {us rest : List Token} → t.what ≡ Sign sign.Open → Primary (t ∷ us) e rest → InParens us e rest
at_open h p = (starts_as h (begun p)).starts

pub at_square : {e : Reading Expr} {t : Token} {us rest : List Token} → t.what ≡ Sign sign.OpenSquare → Primary (t ∷ us) e rest → InBrackets sign.CloseSquare us e rest
at_square h p = (starts_as h (begun p)).starts

pub at_slash : {e : Reading Expr} {t : Token} {us rest : List Token} → t.what ≡ Sign sign.OpenSlash → Primary (t ∷ us) e rest → InBrackets sign.CloseSlash us e rest
at_slash h p = (starts_as h (begun p)).starts

pub at_word : {e : Reading Expr} {t : Token} {us rest : List Token} {x : List ℕ} → t.what ≡ Word x → Primary (t ∷ us) e rest → AtWord x us e rest
at_word h p = (starts_as h (begun p)).starts

-- ---- first operands

pub heads_none : {r m : ℕ} {e : Reading Expr} {ts rest : List Token} → first_op r ts ≡ None → Head r m ts e rest → Reads 1 ts e rest × (m ≡ 1)
heads_none h (of_power d) = (d, refl)
heads_none {r = r} h (of_sign {op = op} j low d) = let no : Some op ≡ None = sym (ap (preceding r) j ∙ preceding_some r op low) ∙ h in absurd cc

no_sign : {e : Reading Expr} {us rest : List Token} (k : TokenKind) (op : UnOp) → leading k ≡ Some op → Starts k us e rest → ⊥
no_sign (Sign sign.Minus) op j b = b.starts
no_sign (Sign sign.Plus) op j b = b.starts
no_sign (Sign sign.Not) op j b = b.starts
no_sign _ op j b = absurd cc

no_primary : {e : Reading Expr} {t : Token} {us rest : List Token} (op : UnOp) → leading t.what ≡ Some op → Primary (t ∷ us) e rest → ⊥
no_primary op j p = no_sign _ op j (begun p)

-- a power does not begin with a sign
no_power : {e : Reading Expr} {t : Token} {ts us rest : List Token} (op : UnOp) → leading t.what ≡ Some op → ts ≡ t ∷ us → Reads 1 ts e rest → ⊥
no_power {t = t} {us = us} {rest = rest} op j is d =
    let s = raises d (omega arith) in
    no_primary op j (subst (λ (xs : List Token). Primary xs s.base s.after) is s.read)

pub record Signed (m : ℕ) (op : UnOp) (us : List Token) (e : Reading Expr) (rest : List Token) : Type 0 where
  pub a : Reading Expr
  pub is : e ≡ unary op a
  pub low : m ≡ sign_rank op
  pub read : Reads (operand_rank op) us a rest

pub heads_some : {r m : ℕ} {e : Reading Expr} {t : Token} {us rest : List Token} {op : UnOp} → leading t.what ≡ Some op → Head r m (t ∷ us) e rest → Signed m op us e rest
heads_some {op = op} j (of_power d) = absurd (no_power op j refl d)
heads_some {us = us} {rest = rest} {op = op} j (of_sign {op = op'} {a = a} j' low d) =
    let same : op' ≡ op = cc in
    subst (λ (o : UnOp). Signed (sign_rank op') o us (unary op' a) rest) same (record { a = a; is = refl; low = refl; read = d })

-- ---- what ends an expression

unjoined : (t : Token) (ts : List Token) (k : ℕ) (s : TokenKind) → t.what ≡ s → joining s ≡ None → s ≢ Sign sign.Open → Stops k (t ∷ ts)
unjoined t ts k s is n o = (λ h. o (sym is ∙ h), λ op j. let no : Some op ≡ None = sym j ∙ ap joining is ∙ n in absurd cc)

pub stops_follow : (k : ℕ) (s : Sign') (ts rest : List Token) → joining (Sign s) ≡ None → Sign s ≢ Sign sign.Open → Follows s ts rest → Stops k ts
stops_follow k s [] rest n o f = tt
stops_follow k s (t ∷ ts) rest n o f = let same : t ≡ f.0 = cc (f.2) in unjoined t ts k (Sign s) (ap (λ (u : Token). u.what) same ∙ f.1) n o

-- ---- what a `?` hands on

pub failing : {Y : Type 0} (Q : Y → Type 0) (r : Result Y Failed) (f : Failed) → IsErrAnd r (λ e. e ≡ f) → Refuses f → Answers r Q
failing {Y = Y} Q r f h a =
    let p = err_from_is_err_and r h in
    subst (λ (s : Result Y Failed). Answers s Q) (sym p.1) (subst (λ (e : Failed). Refuses e) (sym p.2) a)

pub stops_spine : {r : ℕ} {ts rest : List Token} {e : Reading Expr} (sp : Spine r ts e rest) → Stops (r + 1) rest → Stops sp.m sp.after × Stops 2 sp.after
stops_spine sp s =
    let low = sp.low in
    let least = sp.some in (
      stops_at sp.m (omega arith) (λ op h. let w = left_within op in omega arith) sp.chain s,
      stops_at 2 (omega arith) (λ op h. past_power op (omega arith)) sp.chain s,
    )

-- ---- sides of a triplet

leading_ends : (k : TokenKind) (op : UnOp) → leading k ≡ Some op → ending k ≡ false
leading_ends (Sign sign.Colon) op h = absurd cc
leading_ends (Sign sign.DoubleColon) op h = absurd cc
leading_ends (Sign sign.Comma) op h = absurd cc
leading_ends (Sign sign.Close) op h = absurd cc
leading_ends _ op h = refl

primary_begins : {ts rest : List Token} {e : Reading Expr} → Primary ts e rest → ends_part ts ≡ false
primary_begins (number h) = ap ending h
primary_begins (yes h) = ap ending h
primary_begins (no h) = ap ending h
primary_begins (named h) = ap ending h
primary_begins (subscripted h _ _ _ _) = ap ending h
primary_begins (called h _ _ _ _) = ap ending h
primary_begins (squared h _ _) = ap ending h
primary_begins (slashed h _ _) = ap ending h
primary_begins (bracketed h _ _) = ap ending h

pub begins : {r : ℕ} {ts rest : List Token} {e : Reading Expr} → Reads r ts e rest → ends_part ts ≡ false
begins (primary p) = primary_begins p
begins (signed {op = op} j low d) = leading_ends _ op j
begins (joined j low d f) = begins d

-- each of these tokens ends an expression
ending_stops : (k : TokenKind) → ending k ≡ true → (joining k ≡ None) × (k ≢ Sign sign.Open)
ending_stops (Sign sign.Colon) h = (refl, λ e. cc)
ending_stops (Sign sign.DoubleColon) h = (refl, λ e. cc)
ending_stops (Sign sign.Comma) h = (refl, λ e. cc)
ending_stops (Sign sign.Close) h = (refl, λ e. cc)
ending_stops _ h = absurd cc

closing_stops : (k : TokenKind) → closing k ≡ true → (joining k ≡ None) × (k ≢ Sign sign.Open)
closing_stops (Sign sign.Close) h = (refl, λ e. cc)
closing_stops (Sign sign.CloseSquare) h = (refl, λ e. cc)
closing_stops (Sign sign.CloseSlash) h = (refl, λ e. cc)
closing_stops _ h = absurd cc

pub stops_first : (test : TokenKind → Bool) → ((k : TokenKind) → test k ≡ true → (joining k ≡ None) × (k ≢ Sign sign.Open)) → (k : ℕ) (ts : List Token) → first_is test ts ≡ true → Stops k ts
stops_first test each k [] h = tt
stops_first test each k (t ∷ ts) h = let s = each t.what h in unjoined t ts k t.what refl s.0 s.1

pub stops_ending : (k : ℕ) (ts : List Token) → EndsPart ts → Stops k ts
stops_ending = stops_first ending ending_stops

pub stops_closing : (k : ℕ) (ts : List Token) → Closes ts → Stops k ts
stops_closing = stops_first closing closing_stops

-- what passes one test passes another
first_more : (test other : TokenKind → Bool) → ((k : TokenKind) → test k ≡ true → other k ≡ true) → (ts : List Token) → first_is test ts ≡ true → first_is other ts ≡ true
first_more test other each [] h = h
first_more test other each (t ∷ ts) h = each t.what h

closed_ends : (k : TokenKind) → closing_subs k ≡ true → (closing k ≡ true) × (listing k ≡ true) × (ending k ≡ true)
closed_ends (Sign sign.Close) h = (refl, refl, refl)
closed_ends _ h = absurd cc

listed_ends : (k : TokenKind) → listing k ≡ true → ending k ≡ true
listed_ends (Sign sign.Comma) h = refl
listed_ends (Sign sign.Close) h = refl
listed_ends _ h = absurd cc

-- after an item of a list in brackets
pub stops_more : {ts rest : List Token} {g es : Gathered Expr} (k : ℕ) → More (Reads 8) g ts es rest → Closes rest → Stops k ts
stops_more {ts = ts} k no_more h = stops_closing k ts h
stops_more {ts = ts} k (comma {us = us} f d more) h = stops_follow k sign.Comma ts us refl (λ e. cc) f

pub ends_more : {ts rest : List Token} {g ss : Gathered Sub} → More ReadsSub g ts ss rest → ClosesSubs rest → EndsSub ts
ends_more {ts = ts} no_more h = first_more closing_subs listing (λ k c. (closed_ends k c).1) ts h
ends_more (comma f d more) h = ap (first_is listing) f.2 ∙ ap listing f.1

pub part_sub : (ts : List Token) → EndsSub ts → EndsPart ts
part_sub = first_more listing ending listed_ends

pub maybe_absent : {ts rest : List Token} {e : Option (Reading Expr)} → ends_part ts ≡ true → ReadsMaybe ts e rest → (None ≡ e) × (ts ≡ rest)
maybe_absent h absent = (refl, refl)
maybe_absent h (present d) = let no = begins d in absurd cc

pub record Given (ts : List Token) (o : Option (Reading Expr)) (rest : List Token) : Type 0 where
  pub e : Reading Expr
  pub is : o ≡ Some e
  pub read : Reads 8 ts e rest

pub maybe_present : {ts rest : List Token} {e : Option (Reading Expr)} → ends_part ts ≡ false → EndsPart rest → ReadsMaybe ts e rest → Given ts e rest
maybe_present h s absent = absurd cc
maybe_present h s (present {e = e} d) = record { e = e; is = refl; read = d }

pub chain_grown : {bound r k : ℕ} (a : Reading Expr) {b x y e : Reading Expr} {ts0 us ts ts' rest : List Token} {op : BinOp} →
    Joins bound r ts0 op us → k ≡ rank op → x ≡ binary op a y → y ≡ b → ts ≡ ts' → Chain r (rank op) (binary op a b) ts' e rest → Chain r k x ts e rest
chain_grown a {op = op} j is p q s chain = chain_as (p ∙ ap (λ (z : Reading Expr). binary op a z) q) is s chain

pub record SignedAt (m k : ℕ) (op : UnOp) (us : List Token) (e : Reading Expr) (rest : List Token) : Type 0 where
  pub a : Reading Expr
  pub is : e ≡ unary op a
  pub low : m ≡ sign_rank op
  pub read : Reads k us a rest
  pub stops : Stops (k + 1) rest

pub signs : {r m k : ℕ} {e : Reading Expr} {ts us rest : List Token} {op : UnOp} → Leads r ts op us → k ≡ operand_rank op → Stops m rest → Head r m ts e rest → SignedAt m k op us e rest
signs {r = r} {m = m} {k = k} {e = e} {us = us} {rest = rest} {op = op} l is s head =
    let g = heads_some l.leads (subst (λ (xs : List Token). Head r m xs e rest) l.is head) in
    let w = operand_within op in
    let low = g.low in
    record { a = g.a; is = g.is; low = g.low; read = subst (λ (n : ℕ). Reads n us g.a rest) (sym is) g.read; stops = stops_less rest (omega arith) s }

pub signed_by : {r m k : ℕ} {a x : Reading Expr} {ts us rest : List Token} {op : UnOp} → Leads r ts op us → m ≡ sign_rank op → k ≡ operand_rank op → x ≡ unary op a → Reads k us a rest → Reads m ts x rest
signed_by {r = r} {m = m} {k = k} {a = a} {x = x} {ts = ts} {us = us} {rest = rest} {op = op} l is is_operand p d =
    let low : sign_rank op ≤ m = omega arith in
    let d' = subst (λ (n : ℕ). Reads n us a rest) is_operand d in
    subst (λ (z : Reading Expr). Reads m ts z rest) (sym p) (subst (λ (xs : List Token). Reads m xs (unary op a) rest) (sym l.is) (signed l.leads low d'))

pub unary_as : {r : ℕ} {a b x e : Reading Expr} {ts us : List Token} {op : UnOp} → Leads r ts op us → x ≡ unary op a → a ≡ b → e ≡ unary op b → x ≡ e
unary_as {op = op} l is p q = is ∙ ap (λ (z : Reading Expr). unary op z) p ∙ sym q

no_first : (test : TokenKind → Bool) (s : Sign') → test (Sign s) ≡ false → {rest us : List Token} → first_is test rest ≡ true → Follows s rest us → ⊥
no_first test s n h f = let no = sym h ∙ ap (first_is test) f.2 ∙ ap test f.1 ∙ n in cc

pub no_close : (rest : List Token) → Closes rest → (us : List Token) → Follows sign.Comma rest us → ⊥
no_close rest h us f = no_first closing sign.Comma refl h f

pub no_close_subs : (rest : List Token) → ClosesSubs rest → (us : List Token) → Follows sign.Comma rest us → ⊥
no_close_subs rest h us f = no_first closing_subs sign.Comma refl h f

-- ---- primaries at the front of tokens that are known

pub moved : {ts ts' rest : List Token} {e : Reading Expr} → ts ≡ ts' → Primary ts e rest → Primary ts' e rest
moved {rest = rest} {e = e} p d = subst (λ (xs : List Token). Primary xs e rest) p d

pub paren_by : {p : Token} {us mid rest : List Token} {a x : Reading Expr} → p.what ≡ Sign sign.Open → x ≡ paren a → Reads 8 us a mid → Follows sign.Close mid rest → Primary (p ∷ us) x rest
paren_by {p = p} {us = us} {rest = rest} {a = a} h is d f =
    subst (λ (z : Reading Expr). Primary (p ∷ us) z rest) (sym is) (bracketed h (subst (λ (xs : List Token). Reads 8 us a xs) f.2 d) f.1)

pub square_by : {p : Token} {us mid rest : List Token} {es : Gathered Expr} {x : Reading Expr} → p.what ≡ Sign sign.OpenSquare → x ≡ vector es → ReadsAll us es mid → Follows sign.CloseSquare mid rest → Primary (p ∷ us) x rest
square_by {p = p} {us = us} {rest = rest} {es = es} h is d f =
    subst (λ (z : Reading Expr). Primary (p ∷ us) z rest) (sym is) (squared h (subst (λ (xs : List Token). ReadsAll us es xs) f.2 d) f.1)

pub slash_by : {p : Token} {us mid rest : List Token} {es : Gathered Expr} {x : Reading Expr} → p.what ≡ Sign sign.OpenSlash → x ≡ vector es → ReadsAll us es mid → Follows sign.CloseSlash mid rest → Primary (p ∷ us) x rest
slash_by {p = p} {us = us} {rest = rest} {es = es} h is d f =
    subst (λ (z : Reading Expr). Primary (p ∷ us) z rest) (sym is) (slashed h (subst (λ (xs : List Token). ReadsAll us es xs) f.2 d) f.1)

pub true_by : {t : Token} {rest : List Token} {x : Reading Expr} → t.what ≡ Sign sign.True → x ≡ leaf (Truth true) → Primary (t ∷ rest) x rest
true_by {t = t} {rest = rest} h is = subst (λ (z : Reading Expr). Primary (t ∷ rest) z rest) (sym is) (yes h)

pub false_by : {t : Token} {rest : List Token} {x : Reading Expr} → t.what ≡ Sign sign.False → x ≡ leaf (Truth false) → Primary (t ∷ rest) x rest
false_by {t = t} {rest = rest} h is = subst (λ (z : Reading Expr). Primary (t ∷ rest) z rest) (sym is) (no h)

pub call_by : {us mid rest : List Token} {x : List ℕ} {w : Callee} {es : Gathered Expr} {z : Reading Expr} →
    z ≡ call w es → callee x ≡ Some w → ReadsArguments us es mid → Follows sign.Close mid rest → Opened x us z rest
call_by {us = us} {rest = rest} {x = x} {es = es} is n d f =
    subst (λ (y : Reading Expr). Opened x us y rest) (sym is) (of_call n (subst (λ (xs : List Token). ReadsArguments us es xs) f.2 d) f.1)

pub part_by : {us mid rest : List Token} {x y : List ℕ} {subs : Gathered Sub} {z : Reading Expr} →
    z ≡ part y subs → y ≡ x → callee x ≡ None → ReadsSubs us subs mid → Follows sign.Close mid rest → Opened x us z rest
part_by {us = us} {rest = rest} {x = x} {subs = subs} p is n d f =
    subst (λ (y : Reading Expr). Opened x us y rest) (sym (p ∙ ap (λ (y : List ℕ). part y subs) is)) (of_part n (subst (λ (xs : List Token). ReadsSubs us subs xs) f.2 d) f.1)

pub opened_by : {t : Token} {us inner rest : List Token} {x : List ℕ} {e : Reading Expr} → t.what ≡ Word x → Follows sign.Open us inner → Opened x inner e rest → Primary (t ∷ us) e rest
opened_by {t = t} {rest = rest} h o (of_call {w = w} {es = es} n d c) = subst (λ (xs : List Token). Primary (t ∷ xs) (call w es) rest) (sym o.2) (called h n o.1 d c)
opened_by {t = t} {rest = rest} {x = x} h o (of_part {subs = subs} n d c) = subst (λ (xs : List Token). Primary (t ∷ xs) (part x subs) rest) (sym o.2) (subscripted h n o.1 d c)

pub named_by : {t : Token} {rest : List Token} {x y : List ℕ} {z : Reading Expr} → t.what ≡ Word x → y ≡ x → z ≡ leaf (Named y) → Primary (t ∷ rest) z rest
named_by {t = t} {rest = rest} h is p = subst (λ (z : Reading Expr). Primary (t ∷ rest) z rest) (sym (p ∙ ap (λ (z : List ℕ). leaf (Named z)) is)) (named h)

pub digits_by : {t : Token} {rest : List Token} {d : List ℕ} {e : Reading Expr} → t.what ≡ Digits d → e ≡ number_of d → Primary (t ∷ rest) e rest
digits_by {t = t} {rest = rest} h is = subst (λ (z : Reading Expr). Primary (t ∷ rest) z rest) (sym is) (number h)

not_open : {us inner rest : List Token} → Follows sign.Open us inner → us ≡ rest → Stops 0 rest → ⊥
not_open {us = us} {inner = inner} {rest = rest} f e s = let s' = subst (λ (xs : List Token). Stops 0 xs) (sym e ∙ f.2) s in s'.0 f.1

closes_by : {after rest : List Token} → Follows sign.Close after rest → Closes after
closes_by f = ap (first_is closing) f.2 ∙ ap closing f.1

pub closes_subs_by : {after rest : List Token} → Follows sign.Close after rest → ClosesSubs after
closes_subs_by f = ap closes_subs f.2 ∙ ap closing_subs f.1

pub opened_only : {t : Token} {us inner rest : List Token} {x : List ℕ} {e : Reading Expr} →
    t.what ≡ Word x → Follows sign.Open us inner → Stops 0 rest → Primary (t ∷ us) e rest → Opened x inner e rest
opened_only {us = us} {inner = inner} {rest = rest} {x = x} {e = e} h o s d = go (at_word h d)
  where
    go : AtWord x us e rest → Opened x inner e rest
    go (as_name is end) = absurd (not_open o end s)
    go (as_opened inner' o' d') = subst (λ (xs : List Token). Opened x xs e rest) (same_rest o' o) d'

pub name_only : {t : Token} {us rest : List Token} {x y : List ℕ} {e : Reading Expr} →
    t.what ≡ Word x → y ≡ x → ((inner : List Token) → Follows sign.Open us inner → ⊥) → Primary (t ∷ us) e rest → (leaf (Named y) ≡ e) × (us ≡ rest)
name_only {us = us} {rest = rest} {x = x} {y = y} {e = e} h is closed d = go (at_word h d)
  where
    go : AtWord x us e rest → (leaf (Named y) ≡ e) × (us ≡ rest)
    go (as_name is' end) = (ap (λ (z : List ℕ). leaf (Named z)) is ∙ is', end)
    go (as_opened inner o d') = absurd (closed inner o)

pub call_at : {inner rest : List Token} {x : List ℕ} {w : Callee} {e : Reading Expr} → Some w ≡ callee x → Opened x inner e rest → ListAt sign.Close ReadsArguments (call w) inner e rest
call_at {rest = rest} {w = w} n (of_call {w = w'} {q = q} {es = es} n' d c) =
    let same : w' ≡ w = cc in
    record { items = es; after = q ∷ rest; is = ap (λ (v : Callee). call v es) (sym same); read = d; closes = (q, c, refl) }
call_at n (of_part n' d c) = absurd cc

pub part_at : {inner rest : List Token} {x : List ℕ} {e : Reading Expr} → None ≡ callee x → Opened x inner e rest → ListAt sign.Close ReadsSubs (part x) inner e rest
part_at {rest = rest} n (of_part {q = q} {subs = subs} n' d c) = record { items = subs; after = q ∷ rest; is = refl; read = d; closes = (q, c, refl) }
part_at n (of_call n' d c) = absurd cc

pub follows_at : {s : Sign'} {ts ts' rest : List Token} → ts ≡ ts' → Follows s ts' rest → Follows s ts rest
follows_at {s = s} {rest = rest} e f = (f.0, f.1, e ∙ f.2)

pub items_as : {A : Type 0} {close : Sign'} {P : List Token → Gathered A → List Token → Type 0} {made : Gathered A → Reading Expr} {us rest : List Token} {e : Reading Expr} {items : Gathered A} →
    (g : ListAt close P made us e rest) → items ≡ g.items → made items ≡ e
items_as {made = made} g p = ap made p ∙ g.is

pub part_as : {x y : List ℕ} {ss ts : Gathered Sub} {e : Reading Expr} → y ≡ x → ss ≡ ts → part x ts ≡ e → part y ss ≡ e
part_as {x = x} {ss = ss} p q r = ap (λ (z : List ℕ). part z ss) p ∙ ap (λ (zs : Gathered Sub). part x zs) q ∙ r

pub vector_as : {es fs : Gathered Expr} {e : Reading Expr} → es ≡ fs → vector fs ≡ e → vector es ≡ e
vector_as p q = ap (λ (xs : Gathered Expr). vector xs) p ∙ q

pub paren_as : {a b x e : Reading Expr} → x ≡ paren a → a ≡ b → paren b ≡ e → x ≡ e
paren_as is p q = is ∙ ap (λ (y : Reading Expr). paren y) p ∙ q

-- ---- arguments

all_begins : {ts rest : List Token} {es : Gathered Expr} → ReadsAll ts es rest → ends_part ts ≡ false
all_begins (first d) = begins d
all_begins (next ds is d) = all_begins ds

pub no_arguments_by : {ts : List Token} {es : Gathered Expr} → es ≡ empty → ReadsArguments ts es ts
no_arguments_by {ts = ts} is = subst (λ (xs : Gathered Expr). ReadsArguments ts xs ts) (sym is) none

pub if_ok : {X : Type 0} {P Q : X → Type 0} (r : Result X Failed) → ((x : X) → P x → Q x) → IfOk r P → IfOk r Q
if_ok (Ok x) f h = f x h
if_ok (Err e) f h = h

pub no_arguments : {ts rest : List Token} {es : Gathered Expr} → closes_subs ts ≡ true → ReadsArguments ts es rest → (empty ≡ es) × (ts ≡ rest)
no_arguments h none = (refl, refl)
no_arguments {ts = ts} h (some d) = let p = all_begins d in let q = first_more closing_subs ending (λ k c. (closed_ends k c).2) ts h in absurd cc

pub some_arguments : {ts rest : List Token} {es : Gathered Expr} → closes_subs ts ≡ false → ClosesSubs rest → ReadsArguments ts es rest → ReadsAll ts es rest
some_arguments h s none = absurd cc
some_arguments h s (some d) = d

pub closes_of : (ts : List Token) → ClosesSubs ts → Closes ts
closes_of = first_more closing_subs closing (λ k c. (closed_ends k c).0)

pub closes_square_by : {after rest : List Token} → Follows sign.CloseSquare after rest → Closes after
closes_square_by f = ap (first_is closing) f.2 ∙ ap closing f.1

pub closes_slash_by : {after rest : List Token} → Follows sign.CloseSlash after rest → Closes after
closes_slash_by f = ap (first_is closing) f.2 ∙ ap closing f.1

pub stops_close : {after rest : List Token} (k : ℕ) → Follows sign.Close after rest → Stops k after
stops_close {after = after} k f = stops_closing k after (closes_by f)
