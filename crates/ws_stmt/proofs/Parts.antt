-- What the first tokens of a part say, and what may follow it.
use Rattle.std.proofs.Common.{◌≡◌, ◌≢◌, ◌+◌, ◌≤◌, ◌<◌, length, ℕ, Bool, true, false, Option, Some, None, List, [], ◌∷◌, codes, refl, sym, ap, ◌∙◌, subst, if◌then◌else◌, arith}
use Rattle.ws_lex.specs.declared.token.Sign.{Sign as Sign'}
use Rattle.ws_lex.specs.declared.token.Sign.TheVariants as sign
use Rattle.ws_lex.specs.declared.token.Token.{Token}
use Rattle.ws_lex.specs.declared.token.TokenKind.{TokenKind}
use Rattle.ws_lex.specs.declared.token.TokenKind.TheVariants.{Word, Digits, Sign, Foreign, Directive, End}
use Rattle.ws_base.specs.declared.op.UnOp.{UnOp}
use Rattle.ws_base.specs.declared.op.BinOp.{BinOp}
use Rattle.ws_tree.specs.declared.expr.Expr.{Expr}
use Rattle.ws_tree.specs.declared.expr.Expr.TheVariants.{Named}
use Rattle.ws_tree.specs.declared.expr.Sub.{Sub}
use Rattle.ws_tree.specs.declared.stmt.Bound.{Bound}
use Rattle.ws_tree.specs.declared.stmt.Bound.TheVariants as bound
use Rattle.ws_tree.specs.declared.stmt.Index.{Index}
use Rattle.ws_expr.specs.declared.reading.Reading.{Reading}
use Rattle.ws_expr.specs.declared.reading.Gathered.{Gathered}
use Rattle.ws_expr.specs.Readings.{leaf}
use Rattle.ws_expr.specs.Ranks.{joining, leading, rank}
use Rattle.ws_expr.specs.Grammar.{Reads, Primary, ReadsSubs}
use Rattle.ws_expr.specs.Grammar.Reads.{primary, signed, joined}
use Rattle.ws_expr.specs.Grammar.Primary.{number, yes, no, named, subscripted as subscripted', called, squared, slashed, bracketed}
use Rattle.ws_expr.specs.Parsing.{Stops, Follows, ends_part, ending as ending_part, ClosesSubs, closes_subs, closing_subs}
use Rattle.ws_expr.proofs.Heads as heads
use Rattle.ws_expr.proofs.Lists.{same_rest}
use Rattle.ws_stmt.specs.Roles.{is_word, is_becomes, begins_becomes}
use Rattle.ws_stmt.specs.Statements.{Names, Has, HasWord, part_of, element, Designates, ReadsBound, ReadsLast, InParens, ReadsKind, ReadsShape, ReadsExtent, ReadsValue, ReadsColons, index_of, is_digits, upper_of, both_of, allocation_of}
use Rattle.ws_stmt.specs.Statements.Designates.{whole, subscripted}
use Rattle.ws_stmt.specs.Statements.ReadsBound.{upper, both, deferred}
use Rattle.ws_stmt.specs.Statements.ReadsLast.{omitted, last}
use Rattle.ws_stmt.specs.Parsing.{Lacks, Ends, ends, ending, Continues, EndsList, begins_index, is_name, is_mark, after_kind}

-- ---- equal tokens

pub at : {A : Type 0} (P : A → Type 0) {a b : A} → a ≡ b → P b → P a
at P e p = subst P (sym e) p

pub clash : {p q : Sign'} {ts us vs : List Token} → Follows p ts us → Follows q ts vs → Sign p ≡ Sign q
clash f g = let e = sym f.2 ∙ g.2 in let same : f.0 ≡ g.0 = cc in sym f.1 ∙ ap (λ (t : Token). t.what) same ∙ g.1

pub same_name : {x y : List ℕ} {ts us vs : List Token} → Names x ts us → Names y ts vs → (x ≡ y) × (us ≡ vs)
same_name {x = x} {y = y} n m =
    let e = sym n.2 ∙ m.2 in
    let same : n.0 ≡ m.0 = cc in
    let w : Word x ≡ Word y = sym n.1 ∙ ap (λ (t : Token). t.what) same ∙ m.1 in (cc, cc)

pub shorter_name : {x : List ℕ} {ts us : List Token} → Names x ts us → length us < length ts
shorter_name n = let e = ap length n.2 in omega arith

pub shorter_follow : {s : Sign'} {ts us : List Token} → Follows s ts us → length us < length ts
shorter_follow f = let e = ap length f.2 in omega arith

-- ---- what may follow

ending_joins : (k : TokenKind) → ending k ≡ true → (joining k ≡ None) × (k ≢ Sign sign.Open)
ending_joins (Sign sign.Comma) h = (refl, λ e. cc)
ending_joins (Sign sign.Close) h = (refl, λ e. cc)
ending_joins (Sign sign.DoubleColon) h = (refl, λ e. cc)
ending_joins _ h = absurd cc

pub stops_ends : (k : ℕ) (ts : List Token) → Ends ts → Stops k ts
stops_ends k [] h = tt
stops_ends k (t ∷ ts) h = let j = ending_joins t.what h in (j.1, λ op i. let no : Some op ≡ None = sym i ∙ j.0 in absurd cc)

pub lacks_ends : {s : Sign'} {ts : List Token} → ending (Sign s) ≡ false → Ends ts → Lacks s ts
lacks_ends n h = λ us f. let no = sym h ∙ ap ends f.2 ∙ ap ending f.1 ∙ n in cc

pub lacks_other : {s q : Sign'} {ts us : List Token} → Sign s ≢ Sign q → Follows q ts us → Lacks s ts
lacks_other n f = λ vs g. n (clash g f)

pub lacks_nothing : (s : Sign') → Lacks s []
lacks_nothing s = λ us f. let e = f.2 in cc

pub ends_by : {s : Sign'} {ts us : List Token} → ending (Sign s) ≡ true → Follows s ts us → Ends ts
ends_by h f = ap ends f.2 ∙ ap ending f.1 ∙ h

pub stops_becomes : (k : ℕ) {ts us : List Token} → Follows sign.Becomes ts us → Stops k ts
stops_becomes k {ts = ts} {us = us} f = heads.stops_follow k sign.Becomes ts us refl (λ e. cc) f

pub stops_mark : (k : ℕ) (mark : Sign') {ts us : List Token} → is_mark mark ≡ true → Follows mark ts us → Stops k ts
stops_mark k sign.Colon {ts = ts} {us = us} h f = heads.stops_follow k sign.Colon ts us refl (λ e. cc) f
stops_mark k sign.Comma {ts = ts} {us = us} h f = heads.stops_follow k sign.Comma ts us refl (λ e. cc) f
stops_mark k _ h f = absurd cc

pub list_close : {begins : List Token → Bool} {ts us : List Token} → Follows sign.Close ts us → EndsList begins ts
list_close f = (ends_by refl f, λ vs c. let no = clash c.0 f in cc)

pub list_end : (begins : List Token → Bool) → EndsList begins []
list_end begins = (refl, λ vs c. lacks_nothing sign.Comma vs c.0)

-- ---- no expression begins with a name and `=`

both_true : (b c : Bool) → if◌then◌else◌ b c false ≡ true → (b ≡ true) × (c ≡ true)
both_true true c h = (refl, h)
both_true false c h = absurd cc

unnamed : (k : TokenKind) (c : Bool) → is_name k ≡ false → if◌then◌else◌ (is_name k) c false ≡ true → ⊥
unnamed k c n h = let b = both_true (is_name k) c h in let no = sym n ∙ b.0 in cc

unled : (k : TokenKind) (c : Bool) (op : UnOp) → leading k ≡ Some op → if◌then◌else◌ (is_name k) c false ≡ true → ⊥
unled (Word x) c op l h = cc
unled (Digits x) c op l h = cc
unled (Sign x) c op l h = cc
unled Foreign c op l h = cc
unled Directive c op l h = cc
unled End c op l h = cc

pub becomes_is : (k : TokenKind) → is_becomes k ≡ true → k ≡ Sign sign.Becomes
becomes_is (Sign sign.Becomes) h = refl
becomes_is _ h = absurd cc

after_open : (p : Token) (ts : List Token) (k : TokenKind) → p.what ≡ Sign sign.Open → if◌then◌else◌ (is_name k) (begins_becomes (p ∷ ts)) false ≡ true → ⊥
after_open p ts k o h = let b = both_true (is_name k) (begins_becomes (p ∷ ts)) h in let no = sym (ap is_becomes o) ∙ b.1 in cc

primary_ends : {ts rest : List Token} {e : Reading Expr} → begins_index ts ≡ true → Primary ts e rest → begins_becomes rest ≡ true
primary_ends h (number {t = t} {rest = rest} is) = absurd (unnamed t.what (begins_becomes rest) (ap is_name is) h)
primary_ends h (yes {t = t} {rest = rest} is) = absurd (unnamed t.what (begins_becomes rest) (ap is_name is) h)
primary_ends h (no {t = t} {rest = rest} is) = absurd (unnamed t.what (begins_becomes rest) (ap is_name is) h)
primary_ends h (named {t = t} {rest = rest} is) = let b = both_true (is_name t.what) (begins_becomes rest) h in b.1
primary_ends h (subscripted' {t = t} {p = p} {ts = ts} is n o d c) = absurd (after_open p ts t.what o h)
primary_ends h (called {t = t} {p = p} {ts = ts} is n o d c) = absurd (after_open p ts t.what o h)
primary_ends h (squared {p = t} {ts = ts} is d c) = absurd (unnamed t.what (begins_becomes ts) (ap is_name is) h)
primary_ends h (slashed {p = t} {ts = ts} is d c) = absurd (unnamed t.what (begins_becomes ts) (ap is_name is) h)
primary_ends h (bracketed {p = t} {ts = ts} is d c) = absurd (unnamed t.what (begins_becomes ts) (ap is_name is) h)

pub index_ends : {r : ℕ} {ts rest : List Token} {e : Reading Expr} → begins_index ts ≡ true → Reads r ts e rest → begins_becomes rest ≡ true
index_ends h (primary p) = primary_ends h p
index_ends h (signed {t = t} {op = op} {ts = ts} j low d) = absurd (unled t.what (begins_becomes ts) op j h)
index_ends h (joined {t = t} {op = op} j low d f) =
    let is = becomes_is t.what (index_ends h d) in
    let no : Some op ≡ None = sym j ∙ ap joining is in absurd cc

pub no_index : {r : ℕ} {ts vs rest : List Token} {e : Reading Expr} → Reads r ts e vs → Follows sign.Close vs rest → begins_index ts ≡ true → ⊥
no_index d f h = let no = sym (index_ends h d) ∙ ap begins_becomes f.2 ∙ ap is_becomes f.1 in cc

pub header_ends : {vs ws rest : List Token} {m : Option (Reading Expr)} → ReadsLast sign.Comma vs m ws → Follows sign.Close ws rest → EndsList begins_index vs
header_ends omitted f = list_close f
header_ends {ws = ws} (last {e = e} c d) f = (ends_by refl c, λ us k. no_index (at (λ (xs : List Token). Reads 8 xs e ws) (same_rest k.0 c) d) f k.1)

-- ---- designators

pub record Subscripted (x : List ℕ) (inner : List Token) (e : Reading Expr) (rest : List Token) : Type 0 where
  pub subs : Gathered Sub
  pub after : List Token
  pub read : ReadsSubs inner subs after
  pub closes : Follows sign.Close after rest
  pub is : element x subs ≡ e

pub at_open : {y : List ℕ} {ts us inner rest : List Token} {e : Reading Expr} → Names y ts us → Follows sign.Open us inner → Lacks sign.Open rest → Designates ts e rest → Subscripted y inner e rest
at_open {inner = inner} n o h (whole m) = absurd (h inner (heads.follows_at (same_name m n).1 o))
at_open {y = y} {inner = inner} n o h (subscripted {ws = ws} {subs = subs} m p d c) =
    let s = same_name n m in
    record {
      subs = subs;
      after = ws;
      read = at (λ (xs : List Token). ReadsSubs xs subs ws) (same_rest o (heads.follows_at s.1 p)) d;
      closes = c;
      is = ap (λ (x : List ℕ). element x subs) s.0;
    }

pub at_plain : {y z : List ℕ} {ts us rest : List Token} {e : Reading Expr} → Names y ts us → z ≡ y → Lacks sign.Open us → Designates ts e rest → (leaf (Named z) ≡ e) × (us ≡ rest)
at_plain n q h (whole m) = let s = same_name n m in (ap (λ (x : List ℕ). leaf (Named x)) (q ∙ s.0), s.1)
at_plain n q h (subscripted m p d c) = absurd (h _ (heads.follows_at (same_name n m).1 p))

-- ---- bounds

-- after the first expression
pub record Upper (us : List Token) (l : Reading Expr) (b : Reading Bound) (rest : List Token) : Type 0 where
  pub u : Reading Expr
  pub read : Reads 8 us u rest
  pub is : both_of l u ≡ b

pub record Start (ts : List Token) (b : Reading Bound) (rest : List Token) : Type 0 where
  pub l : Reading Expr
  pub after : List Token
  pub read : Reads 8 ts l after
  pub stops : Stops 9 after
  pub alone : Lacks sign.Colon after → (upper_of l ≡ b) × (after ≡ rest)
  pub pair : (us : List Token) → Follows sign.Colon after us → Upper us l b rest

begins_colon : {r : ℕ} {ts us rest : List Token} {e : Reading Expr} → Follows sign.Colon ts us → Reads r ts e rest → ⊥
begins_colon f d = let no = sym (heads.begins d) ∙ ap ends_part f.2 ∙ ap ending_part f.1 in cc

pub bound_colon : {ts us rest : List Token} {b : Reading Bound} → Follows sign.Colon ts us → ReadsBound ts b rest → (part_of bound.Deferred false ≡ b) × (us ≡ rest)
bound_colon f (upper d) = absurd (begins_colon f d)
bound_colon f (both d g k) = absurd (begins_colon f d)
bound_colon f (deferred g) = (refl, same_rest f g)

pub bound_start : {ts rest : List Token} {b : Reading Bound} → Lacks sign.Colon ts → Ends rest → ReadsBound ts b rest → Start ts b rest
bound_start {rest = rest} n h (upper {u = u} d) = record { l = u; after = rest; read = d; stops = stops_ends 9 rest h; alone = λ k. (refl, refl); pair = λ us f. absurd (lacks_ends refl h us f) }
bound_start {rest = rest} n h (both {us = us} {vs = vs} {l = l} {u = u} d g k) = record {
  l = l;
  after = us;
  read = d;
  stops = stops_mark 9 sign.Colon refl g;
  alone = λ q. absurd (q vs g);
  pair = λ ws f. record { u = u; read = at (λ (xs : List Token). Reads 8 xs u rest) (same_rest f g) k; is = refl };
}
bound_start n h (deferred {rest = us} g) = absurd (n us g)

-- ---- the last part of an index or a header

pub record Given (us : List Token) (o : Option (Reading Expr)) (rest : List Token) : Type 0 where
  pub e : Reading Expr
  pub read : Reads 8 us e rest
  pub is : Some e ≡ o

pub last_some : {mark : Sign'} {ts us rest : List Token} {o : Option (Reading Expr)} → Follows mark ts us → Lacks mark rest → ReadsLast mark ts o rest → Given us o rest
last_some {us = us} f h omitted = absurd (h us f)
last_some {rest = rest} f h (last {e = e} g d) = record { e = e; read = at (λ (xs : List Token). Reads 8 xs e rest) (same_rest f g) d; is = refl }

pub last_none : {mark : Sign'} {ts rest : List Token} {o : Option (Reading Expr)} → Lacks mark ts → ReadsLast mark ts o rest → (None ≡ o) × (ts ≡ rest)
last_none h omitted = (refl, refl)
last_none h (last {us = us} g d) = absurd (h us g)

-- what stands before the last part ends an expression
pub last_stops : {ts rest : List Token} {o : Option (Reading Expr)} (k : ℕ) (mark : Sign') → is_mark mark ≡ true → Ends rest → ReadsLast mark ts o rest → Stops k ts
last_stops {rest = rest} k mark m h omitted = stops_ends k rest h
last_stops k mark m h (last g d) = stops_mark k mark m g

-- ---- and the other way

pub no_name : {ts rest : List Token} {e : Reading Expr} → ((x : List ℕ) (us : List Token) → Names x ts us → ⊥) → Designates ts e rest → ⊥
no_name none (whole {x = x} {rest = rest} n) = none x rest n
no_name none (subscripted {x = x} {us = us} n o d c) = none x us n

pub whole_by : {x y : List ℕ} {ts rest : List Token} {e : Reading Expr} → Names x ts rest → y ≡ x → e ≡ leaf (Named y) → Designates ts e rest
whole_by {ts = ts} {rest = rest} n p is = at (λ (e : Reading Expr). Designates ts e rest) (is ∙ ap (λ (z : List ℕ). leaf (Named z)) p) (whole n)

pub subscripted_by : {x y : List ℕ} {ts us vs ws rest : List Token} {subs : Gathered Sub} {e : Reading Expr} →
    Names x ts us → Follows sign.Open us vs → ReadsSubs vs subs ws → Follows sign.Close ws rest → y ≡ x → e ≡ element y subs → Designates ts e rest
subscripted_by {ts = ts} {rest = rest} {subs = subs} n o d c p is = at (λ (e : Reading Expr). Designates ts e rest) (is ∙ ap (λ (z : List ℕ). element z subs) p) (subscripted n o d c)

pub element_as : {x y : List ℕ} {ss tt' : Gathered Sub} {e f : Reading Expr} → y ≡ x → e ≡ element y ss → ss ≡ tt' → element x tt' ≡ f → e ≡ f
element_as {x = x} {ss = ss} p is q r = is ∙ ap (λ (z : List ℕ). element z ss) p ∙ ap (λ (zs : Gathered Sub). element x zs) q ∙ r

pub lacks_at : {s : Sign'} {ts us : List Token} → ts ≡ us → Lacks s us → Lacks s ts
lacks_at {s = s} p h = at (λ (xs : List Token). Lacks s xs) p h

pub deferred_by : {ts rest : List Token} {b : Reading Bound} → b ≡ part_of bound.Deferred false → Follows sign.Colon ts rest → ReadsBound ts b rest
deferred_by {ts = ts} {rest = rest} is f = at (λ (z : Reading Bound). ReadsBound ts z rest) is (deferred f)

pub upper_by : {ts rest : List Token} {u : Reading Expr} {b : Reading Bound} → b ≡ upper_of u → Reads 8 ts u rest → ReadsBound ts b rest
upper_by {ts = ts} {rest = rest} is d = at (λ (z : Reading Bound). ReadsBound ts z rest) is (upper d)

pub both_by : {ts us vs rest : List Token} {l u : Reading Expr} {b : Reading Bound} → b ≡ both_of l u → Reads 8 ts l us → Follows sign.Colon us vs → Reads 8 vs u rest → ReadsBound ts b rest
both_by {ts = ts} {rest = rest} is d f g = at (λ (z : Reading Bound). ReadsBound ts z rest) is (both d f g)

pub both_as : {l l' u u' : Reading Expr} {b b' : Reading Bound} → b ≡ both_of l u → l ≡ l' → u ≡ u' → both_of l' u' ≡ b' → b ≡ b'
both_as {l' = l'} {u = u} is p q r = is ∙ ap (λ (z : Reading Expr). both_of z u) p ∙ ap (λ (z : Reading Expr). both_of l' z) q ∙ r

pub index_as : {x y : List ℕ} {l l' u u' : Reading Expr} {s s' : Option (Reading Expr)} → x ≡ y → l ≡ l' → u ≡ u' → s ≡ s' → index_of x l u s ≡ index_of y l' u' s'
index_as {y = y} {l = l} {l' = l'} {u = u} {u' = u'} {s = s} p q r t =
    ap (λ (z : List ℕ). index_of z l u s) p ∙ ap (λ (z : Reading Expr). index_of y z u s) q ∙ ap (λ (z : Reading Expr). index_of y l' z s) r ∙ ap (λ (z : Option (Reading Expr)). index_of y l' u' z) t

pub lacks_comma : {ts us : List Token} → Follows sign.Close ts us → Lacks sign.Comma ts
lacks_comma f = λ vs g. let no = clash g f in cc

pub allocation_as : {x y : List ℕ} {bs cs : Gathered Bound} → x ≡ y → bs ≡ cs → allocation_of x bs ≡ allocation_of y cs
allocation_as {y = y} {bs = bs} p q = ap (λ (z : List ℕ). allocation_of z bs) p ∙ ap (λ (zs : Gathered Bound). allocation_of y zs) q

pub along : {A : Type 0} (P : A → Type 0) {a b : A} → a ≡ b → P a → P b
along P e p = subst P e p

pub open_becomes : Sign sign.Open ≡ Sign sign.Becomes → ⊥
open_becomes e = cc
