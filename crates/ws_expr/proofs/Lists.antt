-- Lists with commas: what is read so far, and what is left.
use Rattle.std.proofs.Common.{◌≡◌, List, ◌∷◌, refl, sym, ap, ◌∙◌, subst}
use Rattle.ws_lex.specs.declared.token.Sign.{Sign as Sign'}
use Rattle.ws_lex.specs.declared.token.Sign.TheVariants as sign
use Rattle.ws_lex.specs.declared.token.Token.{Token}
use Rattle.ws_tree.specs.declared.expr.Expr.{Expr}
use Rattle.ws_tree.specs.declared.expr.Sub.{Sub}
use Rattle.ws_expr.specs.declared.reading.Reading.{Reading}
use Rattle.ws_expr.specs.declared.reading.Gathered.{Gathered}
use Rattle.ws_expr.specs.Readings.{empty, only, with_one}
use Rattle.ws_expr.specs.Parsing.{Follows}
use Rattle.ws_expr.specs.Grammar.{Reads, ReadsAll, ReadsSubs, ReadsSub}
use Rattle.ws_expr.specs.Grammar.ReadsAll.{first, next}
use Rattle.ws_expr.specs.Grammar.ReadsSubs.{first_sub, next_sub}

-- after `g`, the commas and parts of `ts` give `all`, and `rest` follows them
pub data More {A : Type 0} (P : List Token → Reading A → List Token → Type 0) : Gathered A → List Token → Gathered A → List Token → Type 0 where
  no_more : {g : Gathered A} {ts : List Token} → More P g ts g ts
  comma : {ts us vs rest : List Token} {x : Reading A} {g all : Gathered A} → Follows sign.Comma ts us → P us x vs → More P (with_one g x) vs all rest → More P g ts all rest

pub record Begins {A : Type 0} (P : List Token → Reading A → List Token → Type 0) (ts : List Token) (all : Gathered A) (rest : List Token) : Type 0 where
  pub x : Reading A
  pub after : List Token
  pub read : P ts x after
  pub others : More P (only x) after all rest

-- after a comma
pub record Next {A : Type 0} (P : List Token → Reading A → List Token → Type 0) (g : Gathered A) (us : List Token) (all : Gathered A) (rest : List Token) : Type 0 where
  pub x : Reading A
  pub after : List Token
  pub read : P us x after
  pub others : More P (with_one g x) after all rest

pub same_rest : {s : Sign'} {us a b : List Token} → Follows s us a → Follows s us b → a ≡ b
same_rest f g = let e = sym f.2 ∙ g.2 in cc

module _ {A : Type 0} {P : List Token → Reading A → List Token → Type 0} where
  pub then_one : {g all : Gathered A} {x : Reading A} {ts us vs rest : List Token} → More P g ts all us → Follows sign.Comma us vs → P vs x rest → More P g ts (with_one all x) rest
  then_one no_more is d = comma is d no_more
  then_one (comma is' d' more) is d = comma is' d' (then_one more is d)

  pub begins_at : {ts ts' rest : List Token} {g all : Gathered A} {x : Reading A} (b : Begins P ts all rest) → g ≡ only x → x ≡ b.x → ts' ≡ b.after → More P g ts' all rest
  begins_at {ts' = ts'} {rest = rest} {all = all} b is p q =
      subst (λ (h : Gathered A). More P h ts' all rest) (sym (is ∙ ap (λ (y : Reading A). only y) p)) (subst (λ (xs : List Token). More P (only b.x) xs all rest) (sym q) b.others)

  pub next_item : {ts us rest : List Token} {g all : Gathered A} → Follows sign.Comma ts us → More P g ts all rest → ((vs : List Token) → Follows sign.Comma rest vs → ⊥) → Next P g us all rest
  next_item {us = us} f no_more none = absurd (none us f)
  next_item {rest = rest} {g = g} {all = all} f (comma {vs = vs} {x = x} h d others) none =
      subst (λ (xs : List Token). Next P g xs all rest) (same_rest h f) (record { x = x; after = vs; read = d; others = others })

  pub next_at : {us ts rest : List Token} {g g' all : Gathered A} {x : Reading A} (n : Next P g us all rest) → g' ≡ with_one g x → x ≡ n.x → ts ≡ n.after → More P g' ts all rest
  next_at {ts = ts} {rest = rest} {g = g} {all = all} n is p q =
      subst (λ (h : Gathered A). More P h ts all rest) (sym (is ∙ ap (λ (y : Reading A). with_one g y) p)) (subst (λ (xs : List Token). More P (with_one g n.x) xs all rest) (sym q) n.others)

  pub all_read : {ts rest : List Token} {g all : Gathered A} → ((us : List Token) → Follows sign.Comma ts us → ⊥) → More P g ts all rest → (g ≡ all) × (ts ≡ rest)
  all_read none no_more = (refl, refl)
  all_read none (comma {us = us} f d others) = absurd (none us f)

pub exprs : {ts rest : List Token} {es : Gathered Expr} → ReadsAll ts es rest → Begins (Reads 8) ts es rest
exprs {rest = rest} (first {e = e} d) = record { x = e; after = rest; read = d; others = no_more }
exprs (next {c = c} ds is d) = let b = exprs ds in record { x = b.x; after = b.after; read = b.read; others = then_one b.others (c, is, refl) d }

pub subscripts : {ts rest : List Token} {ss : Gathered Sub} → ReadsSubs ts ss rest → Begins ReadsSub ts ss rest
subscripts {rest = rest} (first_sub {s = s} d) = record { x = s; after = rest; read = d; others = no_more }
subscripts (next_sub {c = c} ds is d) = let b = subscripts ds in record { x = b.x; after = b.after; read = b.read; others = then_one b.others (c, is, refl) d }

-- ---- and the other way, one part at a time

pub pushed : {A : Type 0} (g : Gathered A) (x : Reading A) {g' : Gathered A} → g' ≡ with_one g x → g ≡ empty → g' ≡ only x
pushed g x is p = is ∙ ap (λ (h : Gathered _). with_one h x) p

pub first_by : {ts rest : List Token} {es : Gathered Expr} {e : Reading Expr} → es ≡ only e → Reads 8 ts e rest → ReadsAll ts es rest
first_by {ts = ts} {rest = rest} is d = subst (λ (xs : Gathered Expr). ReadsAll ts xs rest) (sym is) (first d)

pub first_sub_by : {ts rest : List Token} {ss : Gathered Sub} {s : Reading Sub} → ss ≡ only s → ReadsSub ts s rest → ReadsSubs ts ss rest
first_sub_by {ts = ts} {rest = rest} is d = subst (λ (xs : Gathered Sub). ReadsSubs ts xs rest) (sym is) (first_sub d)

pub next_by : {ts0 ts us rest : List Token} {es es' : Gathered Expr} {e : Reading Expr} → Follows sign.Comma ts us → es' ≡ with_one es e → ReadsAll ts0 es ts → Reads 8 us e rest → ReadsAll ts0 es' rest
next_by {ts0 = ts0} {rest = rest} {es = es} f is ds d =
    subst (λ (xs : Gathered Expr). ReadsAll ts0 xs rest) (sym is) (next (subst (λ (xs : List Token). ReadsAll ts0 es xs) f.2 ds) f.1 d)

pub next_sub_by : {ts0 ts us rest : List Token} {ss ss' : Gathered Sub} {s : Reading Sub} → Follows sign.Comma ts us → ss' ≡ with_one ss s → ReadsSubs ts0 ss ts → ReadsSub us s rest → ReadsSubs ts0 ss' rest
next_sub_by {ts0 = ts0} {rest = rest} {ss = ss} f is ds d =
    subst (λ (xs : Gathered Sub). ReadsSubs ts0 xs rest) (sym is) (next_sub (subst (λ (xs : List Token). ReadsSubs ts0 ss xs) f.2 ds) f.1 d)
