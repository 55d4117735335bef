-- Forms of statements: what the first tokens leave possible.
use Rattle.std.proofs.Common.{◌≡◌, ℕ, Bool, true, false, Option, Some, None, List, [], ◌∷◌, codes, refl, sym, ap, ◌∙◌, subst}
use Rattle.ws_lex.specs.declared.token.Sign.TheVariants as sign
use Rattle.ws_lex.specs.declared.token.Token.{Token}
use Rattle.ws_lex.specs.declared.token.TokenKind.{TokenKind}
use Rattle.ws_tree.specs.declared.expr.Expr.{Expr}
use Rattle.ws_tree.specs.declared.stmt.Body.{Body}
use Rattle.ws_tree.specs.declared.stmt.Index.{Index}
use Rattle.ws_expr.specs.declared.reading.Reading.{Reading}
use Rattle.ws_expr.specs.declared.reading.Gathered.{Gathered}
use Rattle.ws_expr.specs.Parsing.{Follows}
use Rattle.ws_stmt.specs.declared.form.Form.{Form}
use Rattle.ws_stmt.specs.declared.form.Form.TheVariants as form
use Rattle.ws_stmt.specs.declared.form.Said.{Said}
use Rattle.ws_stmt.specs.declared.form.Start.{Start}
use Rattle.ws_stmt.specs.Statements.{Has, HasWord, Names, Designates, InParens, Assigns, assignment_of, said, SaysWhere, masked_said, SaysElse, ReadsHeader, SaysForall, over_said, spanning_said, ReadsFormat, SaysWords, Says, SaysAs, start_of}
use Rattle.ws_stmt.specs.Statements.Designates.{whole, subscripted}
use Rattle.ws_stmt.specs.Statements.SaysWhere.{masked, masking}
use Rattle.ws_stmt.specs.Statements.SaysElse.{otherwise, else_masking}
use Rattle.ws_stmt.specs.Statements.SaysForall.{over, spanning}
use Rattle.ws_stmt.specs.Statements.ReadsFormat.{standard, standard_unit}
use Rattle.ws_stmt.specs.Parsing.{Lacks}
use Rattle.ws_expr.proofs.Lists.{same_rest}
use Rattle.ws_stmt.proofs.Parts.{at}

no_designator : {rest : List Token} {e : Reading Expr} → Designates [] e rest → ⊥
no_designator (whole n) = let e = n.2 in cc
no_designator (subscripted n o d c) = let e = n.2 in cc

pub no_assignment : {ts : List Token} {b : Reading Body} → ts ≡ [] → Assigns ts b → ⊥
no_assignment e d = no_designator (subst (λ (xs : List Token). Designates xs d.left d.us) e d.designates)

pub assignment_as : {a b l r : Reading Expr} → a ≡ l → b ≡ r → assignment_of a b ≡ assignment_of l r
assignment_as {b = b} {l = l} p q = ap (λ (z : Reading Expr). assignment_of z b) p ∙ ap (λ (z : Reading Expr). assignment_of l z) q

-- ---- WHERE

pub record Masked (line : ℕ) (m : Reading Expr) (r : List Token) (s : Said) : Type 0 where
  pub b : Reading Body
  pub assigns : Assigns r b
  pub is : masked_said line m b ≡ s

pub where_masking : {line : ℕ} {ts r : List Token} {m : Reading Expr} {s : Said} → ((e : Reading Expr) (rest : List Token) → InParens ts e rest → (m ≡ e) × (r ≡ rest)) → r ≡ [] → SaysWhere line ts s → said (form.OpensWhere m.tree) m.odd ≡ s
where_masking k h (masked {us = us} {m = n} p b) = absurd (no_assignment (sym (k n us p).1 ∙ h) b)
where_masking k h (masking {m = n} p) = ap (λ (z : Reading Expr). said (form.OpensWhere z.tree) z.odd) (k n [] p).0

pub where_masked : {line : ℕ} {ts r : List Token} {m : Reading Expr} {s : Said} → ((e : Reading Expr) (rest : List Token) → InParens ts e rest → (m ≡ e) × (r ≡ rest)) → (r ≡ [] → ⊥) → SaysWhere line ts s → Masked line m r s
where_masked {line = line} k h (masked {us = us} {m = n} {b = b} p a) =
    let g = k n us p in
    record { b = b; assigns = at (λ (xs : List Token). Assigns xs b) g.1 a; is = ap (λ (z : Reading Expr). masked_said line z b) g.0 }
where_masked k h (masking {m = n} p) = absurd (h (k n [] p).1)

pub masked_as : (line : ℕ) (m : Reading Expr) {a b : Reading Body} → a ≡ b → masked_said line m a ≡ masked_said line m b
masked_as line m p = ap (λ (z : Reading Body). masked_said line m z) p

pub masking_by : {line : ℕ} {ts r : List Token} {m : Reading Expr} {s : Said} → s ≡ said (form.OpensWhere m.tree) m.odd → r ≡ [] → InParens ts m r → SaysWhere line ts s
masking_by {line = line} {ts = ts} {m = m} is e p = at (λ (z : Said). SaysWhere line ts z) is (masking (subst (λ (xs : List Token). InParens ts m xs) e p))

pub masked_by : {line : ℕ} {ts r : List Token} {m : Reading Expr} {b : Reading Body} {s : Said} → s ≡ masked_said line m b → InParens ts m r → Assigns r b → SaysWhere line ts s
masked_by {line = line} {ts = ts} is p a = at (λ (z : Said). SaysWhere line ts z) is (masked p a)

-- ---- ELSEWHERE

no_parens : {rest : List Token} {e : Reading Expr} → InParens [] e rest → ⊥
no_parens p = let e = p.opens.2 in cc

pub else_done : {ts : List Token} {s : Said} → ts ≡ [] → SaysElse ts s → said (form.OpensElse None) false ≡ s
else_done e (otherwise p) = refl
else_done e (else_masking {m = m} p) = absurd (no_parens (subst (λ (xs : List Token). InParens xs m []) e p))

pub record Parens (ts : List Token) (s : Said) : Type 0 where
  pub m : Reading Expr
  pub parens : InParens ts m []
  pub is : said (form.OpensElse (Some m.tree)) m.odd ≡ s

pub else_parens : {ts : List Token} {s : Said} → (ts ≡ [] → ⊥) → SaysElse ts s → Parens ts s
else_parens h (otherwise p) = absurd (h p)
else_parens h (else_masking {m = m} p) = record { m = m; parens = p; is = refl }

pub else_by : {ts r : List Token} {m : Reading Expr} {s : Said} → s ≡ said (form.OpensElse (Some m.tree)) m.odd → r ≡ [] → InParens ts m r → SaysElse ts s
else_by {ts = ts} {m = m} is e p = at (λ (z : Said). SaysElse ts z) is (else_masking (subst (λ (xs : List Token). InParens ts m xs) e p))

pub else_as : {m n : Reading Expr} → m ≡ n → said (form.OpensElse (Some m.tree)) m.odd ≡ said (form.OpensElse (Some n.tree)) n.odd
else_as p = ap (λ (z : Reading Expr). said (form.OpensElse (Some z.tree)) z.odd) p

pub otherwise_by : {ts : List Token} {s : Said} → s ≡ said (form.OpensElse None) false → ts ≡ [] → SaysElse ts s
otherwise_by {ts = ts} is e = at (λ (z : Said). SaysElse ts z) is (otherwise e)

-- ---- FORALL

pub record Over (line : ℕ) (i : Gathered Index) (o : Option (Reading Expr)) (r : List Token) (s : Said) : Type 0 where
  pub b : Reading Body
  pub assigns : Assigns r b
  pub is : over_said line i o b ≡ s

pub forall_spanning : {line : ℕ} {ts r : List Token} {i : Gathered Index} {o : Option (Reading Expr)} {s : Said} → ((is : Gathered Index) (m : Option (Reading Expr)) (rest : List Token) → ReadsHeader ts is m rest → (i ≡ is) × (o ≡ m) × (r ≡ rest)) → r ≡ [] → SaysForall line ts s → spanning_said i o ≡ s
forall_spanning k h (over {us = us} {is = is} {m = m} p b) = absurd (no_assignment (sym (k is m us p).2 ∙ h) b)
forall_spanning {o = o} k h (spanning {is = is} {m = m} p) = let g = k is m [] p in ap (λ (z : Gathered Index). spanning_said z o) g.0 ∙ ap (λ (z : Option (Reading Expr)). spanning_said is z) g.1

pub forall_over : {line : ℕ} {ts r : List Token} {i : Gathered Index} {o : Option (Reading Expr)} {s : Said} → ((is : Gathered Index) (m : Option (Reading Expr)) (rest : List Token) → ReadsHeader ts is m rest → (i ≡ is) × (o ≡ m) × (r ≡ rest)) → (r ≡ [] → ⊥) → SaysForall line ts s → Over line i o r s
forall_over {line = line} {o = o} k h (over {us = us} {is = is} {m = m} {b = b} p a) =
    let g = k is m us p in
    record { b = b; assigns = at (λ (xs : List Token). Assigns xs b) g.2 a; is = ap (λ (z : Gathered Index). over_said line z o b) g.0 ∙ ap (λ (z : Option (Reading Expr)). over_said line is z b) g.1 }
forall_over k h (spanning {is = is} {m = m} p) = absurd (h (k is m [] p).2)

pub over_as : (line : ℕ) (i : Gathered Index) (o : Option (Reading Expr)) {a b : Reading Body} → a ≡ b → over_said line i o a ≡ over_said line i o b
over_as line i o p = ap (λ (z : Reading Body). over_said line i o z) p

pub spanning_by : {line : ℕ} {ts r : List Token} {i : Gathered Index} {o : Option (Reading Expr)} {s : Said} → s ≡ spanning_said i o → r ≡ [] → ReadsHeader ts i o r → SaysForall line ts s
spanning_by {line = line} {ts = ts} {i = i} {o = o} is e p = at (λ (z : Said). SaysForall line ts z) is (spanning (subst (λ (xs : List Token). ReadsHeader ts i o xs) e p))

pub over_by : {line : ℕ} {ts r : List Token} {i : Gathered Index} {o : Option (Reading Expr)} {b : Reading Body} {s : Said} → s ≡ over_said line i o b → ReadsHeader ts i o r → Assigns r b → SaysForall line ts s
over_by {line = line} {ts = ts} is p a = at (λ (z : Said). SaysForall line ts z) is (over p a)

-- ---- READ

pub record Plain (ts rest : List Token) : Type 0 where
  pub us : List Token
  pub star : Follows sign.Star ts us
  pub comma : Follows sign.Comma us rest

pub format_plain : {ts rest : List Token} → Lacks sign.Open ts → ReadsFormat ts rest → Plain ts rest
format_plain h (standard {us = us} s c) = record { us = us; star = s; comma = c }
format_plain h (standard_unit {us = us} o s c t d) = absurd (h us o)

pub record OfUnit (us rest : List Token) : Type 0 where
  pub vs : List Token
  pub ws : List Token
  pub xs : List Token
  pub star : Follows sign.Star us vs
  pub comma : Follows sign.Comma vs ws
  pub other : Follows sign.Star ws xs
  pub closes : Follows sign.Close xs rest

pub format_unit : {ts us rest : List Token} → Follows sign.Open ts us → ReadsFormat ts rest → OfUnit us rest
format_unit o (standard s c) = let e = sym o.2 ∙ s.2 in let same : o.0 ≡ s.0 = cc in let no = sym o.1 ∙ ap (λ (t : Token). t.what) same ∙ s.1 in absurd cc
format_unit o (standard_unit {vs = vs} {ws = ws} {xs = xs} p s c t d) = record { vs = vs; ws = ws; xs = xs; star = at (λ (ys : List Token). Follows sign.Star ys vs) (same_rest o p) s; comma = c; other = t; closes = d }

-- ---- a statement by its first word

pub says_by : {run ts : List Token} {t : Token} {st : Start} (s : Said) → run ≡ t ∷ ts → st ≡ start_of t.what ts → SaysAs st t ts s → Says run s
says_by {ts = ts} {t = t} s e p d = at (λ (xs : List Token). Says xs s) e (subst (λ (q : Start). SaysAs q t ts s) p d)

pub says_at : {run ts : List Token} {t : Token} {st : Start} (s : Said) → run ≡ t ∷ ts → st ≡ start_of t.what ts → Says run s → SaysAs st t ts s
says_at {ts = ts} {t = t} s e p d = at (λ (q : Start). SaysAs q t ts s) p (subst (λ (xs : List Token). Says xs s) e d)

pub words_at : {f g : Option Form} {s : Said} → f ≡ g → SaysWords g s → SaysWords f s
words_at {s = s} p d = at (λ (z : Option Form). SaysWords z s) p d

pub record SomeParens (ts : List Token) : Type 0 where
  pub m : Reading Expr
  pub us : List Token
  pub parens : InParens ts m us

pub where_parens : {line : ℕ} {ts : List Token} {s : Said} → SaysWhere line ts s → SomeParens ts
where_parens (masked {us = us} {m = m} p b) = record { m = m; us = us; parens = p }
where_parens (masking {m = m} p) = record { m = m; us = []; parens = p }

pub record SomeHeader (ts : List Token) : Type 0 where
  pub is : Gathered Index
  pub m : Option (Reading Expr)
  pub us : List Token
  pub header : ReadsHeader ts is m us

pub forall_header : {line : ℕ} {ts : List Token} {s : Said} → SaysForall line ts s → SomeHeader ts
forall_header (over {us = us} {is = is} {m = m} p b) = record { is = is; m = m; us = us; header = p }
forall_header (spanning {is = is} {m = m} p) = record { is = is; m = m; us = []; header = p }
