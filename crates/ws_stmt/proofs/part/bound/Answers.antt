use Rattle.std.proofs.Common.{◌≡◌, ◌<◌, ◌≤◌, List, [], ◌∷◌, Option, Some, None, length, refl, sym, ap, ◌∙◌, arith}
use Rattle.ws_lex.specs.declared.token.Sign.TheVariants as sign
use Rattle.ws_lex.specs.declared.token.Token.{Token}
use Rattle.ws_expr.specs.Grammar.{Reads, ReadsSubs}
use Rattle.ws_expr.proofs.Heads as heads
use Rattle.ws_stmt.specs.Statements as statements
use Rattle.ws_stmt.proofs.Parts as parts
use Rattle.ws_stmt.specs.Statements.ReadsBound.{upper, both, deferred}
use Rattle.ws_stmt.proofs.part.bound.Goals as goal

pub returns-in-Some-clause-sound : goal.returns-in-Some-clause-sound
returns-in-Some-clause-sound c = parts.deferred_by c.deferred.ensures c.in-Some.ensures.some

pub returns-in-Some-clause-complete : goal.returns-in-Some-clause-complete
returns-in-Some-clause-complete c = λ b rest d h.
    let got = parts.bound_colon c.in-Some.ensures.some d in
    (c.deferred.ensures ∙ got.0, got.1)

pub returns-in_err-l-clause-complete : goal.returns-in_err-l-clause-complete
returns-in_err-l-clause-complete c = λ b rest d h.
    let st = parts.bound_start c.in_default.ensures.none h d in
    heads.failing _ c.from_residual.result c.in_err-l.field-0.0 c.from_residual.ensures.1 (c.in_err-l.ensures.complete st.l st.after st.read st.stops)

pub returns-in_err-u-in-Some-after-clause-complete : goal.returns-in_err-u-in-Some-after-clause-complete
returns-in_err-u-in-Some-after-clause-complete c = λ b rest d h.
    let st = parts.bound_start c.in_default.ensures.none h d in
    let got = c.in_ok-l.ensures.complete st.l st.after st.read st.stops in
    let u = st.pair c.in-Some-after.rest.now (heads.follows_at (sym got.1) c.in-Some-after.ensures.some) in
    heads.failing _ c.from_residual-in_err-u-in-Some-after.result c.in_err-u-in-Some-after.field-0.0 c.from_residual-in_err-u-in-Some-after.ensures.1 (c.in_err-u-in-Some-after.ensures.complete u.u rest u.read (parts.stops_ends 9 rest h))

pub returns-in-None-clause-sound : goal.returns-in-None-clause-sound
returns-in-None-clause-sound c = parts.upper_by c.upper.ensures c.in_ok-l.ensures.sound

pub returns-in-None-clause-complete : goal.returns-in-None-clause-complete
returns-in-None-clause-complete c = λ b rest d h.
    let st = parts.bound_start c.in_default.ensures.none h d in
    let got = c.in_ok-l.ensures.complete st.l st.after st.read st.stops in
    let end = st.alone (parts.lacks_at (sym got.1) c.in-None.ensures.none) in
    (c.upper.ensures ∙ ap statements.upper_of got.0 ∙ end.0, got.1 ∙ end.1)

pub returns-in_ok-u-in-Some-after-clause-sound : goal.returns-in_ok-u-in-Some-after-clause-sound
returns-in_ok-u-in-Some-after-clause-sound c = parts.both_by c.both.ensures c.in_ok-l.ensures.sound c.in-Some-after.ensures.some c.in_ok-u-in-Some-after.ensures.sound

pub returns-in_ok-u-in-Some-after-clause-complete : goal.returns-in_ok-u-in-Some-after-clause-complete
returns-in_ok-u-in-Some-after-clause-complete c = λ b rest d h.
    let st = parts.bound_start c.in_default.ensures.none h d in
    let got = c.in_ok-l.ensures.complete st.l st.after st.read st.stops in
    let u = st.pair c.in-Some-after.rest.now (heads.follows_at (sym got.1) c.in-Some-after.ensures.some) in
    let more = c.in_ok-u-in-Some-after.ensures.complete u.u rest u.read (parts.stops_ends 9 rest h) in
    (parts.both_as c.both.ensures got.0 more.0 u.is, more.1)
