-- Lists with commas: what is read so far, and what is left.
use Rattle.std.proofs.Common.{◌≡◌, List, ◌∷◌, Bool, true, refl, sym, ap, ◌∙◌, subst}
use Rattle.ws_lex.specs.declared.token.Sign.{Sign as Sign'}
use Rattle.ws_lex.specs.declared.token.Sign.TheVariants as sign
use Rattle.ws_lex.specs.declared.token.Token.{Token}
use Rattle.ws_expr.specs.declared.reading.Reading.{Reading}
use Rattle.ws_expr.specs.declared.reading.Gathered.{Gathered}
use Rattle.ws_expr.specs.Readings.{empty, only, with_one}
use Rattle.ws_expr.specs.Parsing.{Follows}
use Rattle.ws_expr.proofs.Lists.{More, Begins, Next, then_one, same_rest}
use Rattle.ws_expr.proofs.Lists.More.{no_more, comma}
use Rattle.ws_stmt.specs.Statements.{Lists}
use Rattle.ws_stmt.specs.Statements.Lists.{first, next}
use Rattle.ws_stmt.specs.Parsing.{Continues, Ends, ends, ending, EndsList}

module _ {A : Type 0} {P : List Token → Reading A → List Token → Type 0} where
  pub parts : {ts rest : List Token} {xs : Gathered A} → Lists P ts xs rest → Begins P ts xs rest
  parts {rest = rest} (first {x = x} d) = record { x = x; after = rest; read = d; others = no_more }
  parts (next ds is d) = let b = parts ds in record { x = b.x; after = b.after; read = b.read; others = then_one b.others is d }

  pub lists_at : {ts us rest : List Token} {xs : Gathered A} → ts ≡ us → Lists P us xs rest → Lists P ts xs rest
  lists_at {rest = rest} {xs = xs} e d = subst (λ (ys : List Token). Lists P ys xs rest) (sym e) d

  pub ends_more : {ts rest : List Token} {g all : Gathered A} → More P g ts all rest → Ends rest → Ends ts
  ends_more no_more h = h
  ends_more (comma f d more) h = ap ends f.2 ∙ ap ending f.1

  pub next_part : {begins : List Token → Bool} {ts us rest : List Token} {g all : Gathered A} → Continues begins ts us → More P g ts all rest → ((vs : List Token) → Continues begins rest vs → ⊥) → Next P g us all rest
  next_part {us = us} c no_more none = absurd (none us c)
  next_part {us = us} {rest = rest} {g = g} {all = all} c (comma {us = us'} {vs = vs} {x = x} f d others) none =
      subst (λ (xs : List Token). Next P g xs all rest) (same_rest f c.0) (record { x = x; after = vs; read = d; others = others })

  pub all_read : {begins : List Token → Bool} {ts rest : List Token} {g all : Gathered A} →
      ((us : List Token) (x : Reading A) (vs : List Token) → P us x vs → begins us ≡ true) → ((us : List Token) → Continues begins ts us → ⊥) → More P g ts all rest → (g ≡ all) × (ts ≡ rest)
  all_read begun none no_more = (refl, refl)
  all_read begun none (comma {us = us} {vs = vs} {x = x} f d others) = absurd (none us (f, begun us x vs d))

  pub first_by : (ts rest : List Token) {g : Gathered A} (x : Reading A) → g ≡ only x → P ts x rest → Lists P ts g rest
  first_by ts rest x is d = subst (λ (xs : Gathered A). Lists P ts xs rest) (sym is) (first d)

  pub next_by : {ts0 ts us : List Token} (rest : List Token) {g g' : Gathered A} (x : Reading A) → Follows sign.Comma ts us → g' ≡ with_one g x → Lists P ts0 g ts → P us x rest → Lists P ts0 g' rest
  next_by {ts0 = ts0} rest x f is ds d = subst (λ (xs : Gathered A). Lists P ts0 xs rest) (sym is) (next ds f d)
