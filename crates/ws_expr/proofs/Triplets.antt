-- Subscripts: what stands before the first colon, and what follows.
use Rattle.std.proofs.Common.{◌≡◌, Option, Some, None, List, ◌∷◌, refl, sym, ap, ◌∙◌, subst, true}
use Rattle.ws_lex.specs.declared.token.Sign.{Sign as Sign'}
use Rattle.ws_lex.specs.declared.token.Sign.TheVariants as sign
use Rattle.ws_lex.specs.declared.token.Token.{Token}
use Rattle.ws_lex.specs.declared.token.TokenKind.TheVariants.{Sign}
use Rattle.ws_tree.specs.declared.expr.Expr.{Expr}
use Rattle.ws_tree.specs.declared.expr.Sub.{Sub}
use Rattle.ws_expr.specs.declared.reading.Reading.{Reading}
use Rattle.ws_expr.specs.Readings.{one, range}
use Rattle.ws_expr.specs.Grammar.{Reads, ReadsSub, ReadsMaybe}
use Rattle.ws_expr.specs.Grammar.ReadsMaybe.{present}
use Rattle.ws_expr.specs.Grammar.ReadsSub.{single, bounded, strided, doubled}
use Rattle.ws_expr.specs.Parsing.{Stops, Follows, ending, EndsPart, listing, EndsSub, first_is}
use Rattle.ws_expr.proofs.Heads.{part_sub, stops_ending}

pub data StrideForm (l u : Option (Reading Expr)) (vs : List Token) (s : Reading Sub) (rest : List Token) : Type 0 where
  no_stride : vs ≡ rest → EndsSub rest → range l u None ≡ s → StrideForm l u vs s rest
  with_stride : (ws : List Token) (e : Reading Expr) → Follows sign.Colon vs ws → Reads 8 ws e rest → Stops 9 rest → range l u (Some e) ≡ s → StrideForm l u vs s rest

pub record Single (l : Option (Reading Expr)) (us : List Token) (s : Reading Sub) (rest : List Token) : Type 0 where
  pub u : Option (Reading Expr)
  pub after : List Token
  pub read : ReadsMaybe us u after
  pub ends : EndsPart after
  pub form : StrideForm l u after s rest

pub data SubForm (l : Option (Reading Expr)) (after : List Token) (s : Reading Sub) (rest : List Token) : Type 0 where
  plain : (e : Reading Expr) → l ≡ Some e → after ≡ rest → EndsSub rest → one e ≡ s → SubForm l after s rest
  stepped : (us : List Token) → Follows sign.Colon after us → Single l us s rest → SubForm l after s rest
  double : (us : List Token) (e : Reading Expr) → Follows sign.DoubleColon after us → Reads 8 us e rest → Stops 9 rest → range l None (Some e) ≡ s → SubForm l after s rest

pub record SubStart (ts : List Token) (s : Reading Sub) (rest : List Token) : Type 0 where
  pub l : Option (Reading Expr)
  pub after : List Token
  pub read : ReadsMaybe ts l after
  pub ends : EndsPart after
  pub form : SubForm l after s rest

pub sub_start : {ts rest : List Token} {s : Reading Sub} → ReadsSub ts s rest → EndsSub rest → SubStart ts s rest
sub_start {rest = rest} (single {e = e} d) h = record { l = Some e; after = rest; read = present d; ends = part_sub rest h; form = plain e refl refl h refl }
sub_start {rest = rest} (bounded {c = c} {us = us} {l = l} {u = u} d is f) h =
    record { l = l; after = c ∷ us; read = d; ends = ap ending is; form = stepped us (c, is, refl) (record { u = u; after = rest; read = f; ends = part_sub rest h; form = no_stride refl h refl }) }
sub_start {rest = rest} (strided {c = c} {d = k} {us = us} {vs = vs} {l = l} {u = u} {s = e} d is f is' g) h =
    record { l = l; after = c ∷ us; read = d; ends = ap ending is; form = stepped us (c, is, refl) (record { u = u; after = k ∷ vs; read = f; ends = ap ending is'; form = with_stride vs e (k, is', refl) g (stops_ending 9 rest (part_sub rest h)) refl }) }
sub_start {rest = rest} (doubled {c = c} {us = us} {l = l} {s = e} d is g) h =
    record { l = l; after = c ∷ us; read = d; ends = ap ending is; form = double us e (c, is, refl) g (stops_ending 9 rest (part_sub rest h)) refl }

-- where the code has read the same
pub form_at : {ts a rest : List Token} {s : Reading Sub} {l : Option (Reading Expr)} → ((o : Option (Reading Expr)) (after : List Token) → ReadsMaybe ts o after → EndsPart after → (l ≡ o) × (a ≡ after)) → ReadsSub ts s rest → EndsSub rest → SubForm l a s rest
form_at {a = a} {rest = rest} {s = s} {l = l} k d h =
    let st = sub_start d h in
    let got = k st.l st.after st.read st.ends in
    subst (λ (o : Option (Reading Expr)). SubForm o a s rest) (sym got.0) (subst (λ (xs : List Token). SubForm st.l xs s rest) (sym got.1) st.form)

clash : {p q : Sign'} {ts us vs : List Token} → Follows p ts us → Follows q ts vs → Sign p ≡ Sign q
clash f g = let e = sym f.2 ∙ g.2 in let same : f.0 ≡ g.0 = cc in sym f.1 ∙ ap (λ (t : Token). t.what) same ∙ g.1

same_rest : {s : Sign'} {us a b : List Token} → Follows s us a → Follows s us b → a ≡ b
same_rest f g = let e = sym f.2 ∙ g.2 in cc

lists_at : {p : Sign'} {ts us rest : List Token} → Follows p ts us → ts ≡ rest → EndsSub rest → listing (Sign p) ≡ true
lists_at f e h = sym (ap (first_is listing) (sym e ∙ f.2) ∙ ap listing f.1) ∙ h

pub record Doubled (l : Option (Reading Expr)) (us : List Token) (s : Reading Sub) (rest : List Token) : Type 0 where
  pub e : Reading Expr
  pub read : Reads 8 us e rest
  pub stops : Stops 9 rest
  pub is : range l None (Some e) ≡ s

pub at_double : {l : Option (Reading Expr)} {a us rest : List Token} {s : Reading Sub} → Follows sign.DoubleColon a us → SubForm l a s rest → Doubled l us s rest
at_double f (plain e p q h is) = let x = lists_at f q h in absurd cc
at_double f (stepped vs g x) = let c = clash f g in absurd cc
at_double {rest = rest} f (double vs e g d st is) = record { e = e; read = subst (λ (xs : List Token). Reads 8 xs e rest) (same_rest g f) d; stops = st; is = is }

pub at_single : {l : Option (Reading Expr)} {a us rest : List Token} {s : Reading Sub} → Follows sign.Colon a us → SubForm l a s rest → Single l us s rest
at_single f (plain e p q h is) = let x = lists_at f q h in absurd cc
at_single {l = l} {rest = rest} {s = s} f (stepped vs g x) = subst (λ (xs : List Token). Single l xs s rest) (same_rest g f) x
at_single f (double vs e g d st is) = let c = clash f g in absurd cc

pub stride_at : {us a rest : List Token} {s : Reading Sub} {l u : Option (Reading Expr)} → ((o : Option (Reading Expr)) (after : List Token) → ReadsMaybe us o after → EndsPart after → (u ≡ o) × (a ≡ after)) → Single l us s rest → StrideForm l u a s rest
stride_at {a = a} {rest = rest} {s = s} {l = l} {u = u} k x =
    let got = k x.u x.after x.read x.ends in
    subst (λ (o : Option (Reading Expr)). StrideForm l o a s rest) (sym got.0) (subst (λ (xs : List Token). StrideForm l x.u xs s rest) (sym got.1) x.form)

pub record Strided (l u : Option (Reading Expr)) (us : List Token) (s : Reading Sub) (rest : List Token) : Type 0 where
  pub e : Reading Expr
  pub read : Reads 8 us e rest
  pub stops : Stops 9 rest
  pub is : range l u (Some e) ≡ s

pub at_stride : {l u : Option (Reading Expr)} {a us rest : List Token} {s : Reading Sub} → Follows sign.Colon a us → StrideForm l u a s rest → Strided l u us s rest
at_stride f (no_stride q h is) = let x = lists_at f q h in absurd cc
at_stride {rest = rest} f (with_stride ws e g d st is) = record { e = e; read = subst (λ (xs : List Token). Reads 8 xs e rest) (same_rest g f) d; stops = st; is = is }

pub at_end : {l u : Option (Reading Expr)} {a rest : List Token} {s : Reading Sub} → ((us : List Token) → Follows sign.Colon a us → ⊥) → StrideForm l u a s rest → (range l u None ≡ s) × (a ≡ rest)
at_end f (no_stride q h is) = (is, q)
at_end f (with_stride ws e g d st is) = absurd (f ws g)

pub at_plain : {l : Option (Reading Expr)} {a rest : List Token} {s : Reading Sub} {e : Reading Expr} → l ≡ Some e → ((us : List Token) → Follows sign.DoubleColon a us → ⊥) → ((us : List Token) → Follows sign.Colon a us → ⊥) → SubForm l a s rest → (one e ≡ s) × (a ≡ rest)
at_plain {e = e} n f g (plain e' p q h is) = let same : e ≡ e' = cc in (ap (λ (z : Reading Expr). one z) same ∙ is, q)
at_plain n f g (stepped us k x) = absurd (g us k)
at_plain n f g (double us e' k d st is) = absurd (f us k)

pub at_none : {l : Option (Reading Expr)} {a rest : List Token} {s : Reading Sub} → l ≡ None → ((us : List Token) → Follows sign.DoubleColon a us → ⊥) → ((us : List Token) → Follows sign.Colon a us → ⊥) → SubForm l a s rest → ⊥
at_none n f g (plain e p q h is) = cc
at_none n f g (stepped us k x) = g us k
at_none n f g (double us e k d st is) = f us k

-- ---- and the other way

pub doubled_by : {ts a us rest : List Token} {l : Option (Reading Expr)} {e : Reading Expr} → ReadsMaybe ts l a → Follows sign.DoubleColon a us → Reads 8 us e rest → ReadsSub ts (range l None (Some e)) rest
doubled_by {ts = ts} {l = l} d f g = doubled (subst (λ (xs : List Token). ReadsMaybe ts l xs) f.2 d) f.1 g

pub range_by : {ts a us rest : List Token} {l u : Option (Reading Expr)} → ReadsMaybe ts l a → Follows sign.Colon a us → ReadsMaybe us u rest → ReadsSub ts (range l u None) rest
range_by {ts = ts} {l = l} d f g = bounded (subst (λ (xs : List Token). ReadsMaybe ts l xs) f.2 d) f.1 g

pub strided_by : {ts a us b vs rest : List Token} {l u : Option (Reading Expr)} {e : Reading Expr} → ReadsMaybe ts l a → Follows sign.Colon a us → ReadsMaybe us u b → Follows sign.Colon b vs → Reads 8 vs e rest → ReadsSub ts (range l u (Some e)) rest
strided_by {ts = ts} {us = us} {l = l} {u = u} d f g k h = strided (subst (λ (xs : List Token). ReadsMaybe ts l xs) f.2 d) f.1 (subst (λ (xs : List Token). ReadsMaybe us u xs) k.2 g) k.1 h

one_of : {ts rest : List Token} {e : Reading Expr} (o : Option (Reading Expr)) → o ≡ Some e → ReadsMaybe ts o rest → ReadsSub ts (one e) rest
one_of None n d = absurd cc
one_of {ts = ts} {rest = rest} {e = e} (Some e0) n (present d) = let same : e0 ≡ e = cc in subst (λ (z : Reading Expr). ReadsSub ts (one z) rest) same (single d)

pub one_by : {ts rest : List Token} {l : Option (Reading Expr)} {e : Reading Expr} → l ≡ Some e → ReadsMaybe ts l rest → ReadsSub ts (one e) rest
one_by {l = l} n d = one_of l n d

pub range_as : (l u : Option (Reading Expr)) {x e : Reading Expr} {s : Reading Sub} → x ≡ e → range l u (Some e) ≡ s → range l u (Some x) ≡ s
range_as l u p q = ap (λ (z : Reading Expr). range l u (Some z)) p ∙ q

pub sub_as : {ts rest : List Token} {x y : Reading Sub} → x ≡ y → ReadsSub ts y rest → ReadsSub ts x rest
sub_as {ts = ts} {rest = rest} is d = subst (λ (z : Reading Sub). ReadsSub ts z rest) (sym is) d
