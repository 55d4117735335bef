use Rattle.std.proofs.Common.{◌≡◌, ◌<◌, ◌≤◌, List, [], ◌∷◌, Option, Some, None, length, refl, sym, ap, ◌∙◌, arith}
use Rattle.ws_lex.specs.declared.token.Sign.TheVariants as sign
use Rattle.ws_lex.specs.declared.token.Token.{Token}
use Rattle.ws_expr.specs.Grammar.{Reads, ReadsSubs}
use Rattle.ws_expr.proofs.Heads as heads
use Rattle.ws_stmt.specs.Statements as statements
use Rattle.ws_stmt.proofs.Parts as parts
use Rattle.ws_stmt.specs.Statements.{ReadsLast, index_of}
use Rattle.ws_stmt.proofs.part.index.Goals as goal

pub returns-in_default-clause-complete : goal.returns-in_default-clause-complete
returns-in_default-clause-complete c = λ i rest d h k. c.in_default.ensures.none d.x d.us d.names

pub returns-in_err-rest-clause-complete : goal.returns-in_err-rest-clause-complete
returns-in_err-rest-clause-complete c = λ i rest d h k.
    heads.failing _ c.from_residual.result c.in_err-rest.field-0.0 c.from_residual.ensures.1 (c.in_err-rest.ensures.complete d.vs (heads.follows_at (sym (parts.same_name d.names c.in-Some.ensures.some).1) d.becomes))

pub returns-in_err-l-clause-complete : goal.returns-in_err-l-clause-complete
returns-in_err-l-clause-complete c = λ i rest d h k.
    let g1 = c.in_ok-rest.ensures.complete d.vs (heads.follows_at (sym (parts.same_name d.names c.in-Some.ensures.some).1) d.becomes) in
    heads.failing _ c.from_residual-in_err-l.result c.in_err-l.field-0.0 c.from_residual-in_err-l.ensures.1 (c.in_err-l.ensures.complete d.l d.ws (parts.at (λ (xs : List Token). Reads 8 xs d.l d.ws) g1 d.first) (parts.stops_mark 9 c.args.mark c.requires d.then_mark))

pub returns-in_err-rest-2-clause-complete : goal.returns-in_err-rest-2-clause-complete
returns-in_err-rest-2-clause-complete c = λ i rest d h k.
    let g1 = c.in_ok-rest.ensures.complete d.vs (heads.follows_at (sym (parts.same_name d.names c.in-Some.ensures.some).1) d.becomes) in
    let g2 = c.in_ok-l.ensures.complete d.l d.ws (parts.at (λ (xs : List Token). Reads 8 xs d.l d.ws) g1 d.first) (parts.stops_mark 9 c.args.mark c.requires d.then_mark) in
    heads.failing _ c.from_residual-in_err-rest-2.result c.in_err-rest-2.field-0.0 c.from_residual-in_err-rest-2.ensures.1 (c.in_err-rest-2.ensures.complete d.xs (heads.follows_at g2.1 d.then_mark))

pub returns-in_err-u-clause-complete : goal.returns-in_err-u-clause-complete
returns-in_err-u-clause-complete c = λ i rest d h k.
    let g1 = c.in_ok-rest.ensures.complete d.vs (heads.follows_at (sym (parts.same_name d.names c.in-Some.ensures.some).1) d.becomes) in
    let g2 = c.in_ok-l.ensures.complete d.l d.ws (parts.at (λ (xs : List Token). Reads 8 xs d.l d.ws) g1 d.first) (parts.stops_mark 9 c.args.mark c.requires d.then_mark) in
    let g3 = c.in_ok-rest-2.ensures.complete d.xs (heads.follows_at g2.1 d.then_mark) in
    heads.failing _ c.from_residual-in_err-u.result c.in_err-u.field-0.0 c.from_residual-in_err-u.ensures.1 (c.in_err-u.ensures.complete d.u d.ys (parts.at (λ (xs : List Token). Reads 8 xs d.u d.ys) g3 d.second) (parts.last_stops 9 c.args.mark c.requires h d.step))

pub returns-in_err-s-clause-complete : goal.returns-in_err-s-clause-complete
returns-in_err-s-clause-complete c = λ i rest d h k.
    let g1 = c.in_ok-rest.ensures.complete d.vs (heads.follows_at (sym (parts.same_name d.names c.in-Some.ensures.some).1) d.becomes) in
    let g2 = c.in_ok-l.ensures.complete d.l d.ws (parts.at (λ (xs : List Token). Reads 8 xs d.l d.ws) g1 d.first) (parts.stops_mark 9 c.args.mark c.requires d.then_mark) in
    let g3 = c.in_ok-u.ensures.complete d.u d.ys (parts.at (λ (xs : List Token). Reads 8 xs d.u d.ys) (c.in_ok-rest-2.ensures.complete d.xs (heads.follows_at g2.1 d.then_mark)) d.second) (parts.last_stops 9 c.args.mark c.requires h d.step) in
    heads.failing _ c.from_residual-in_err-s.result c.in_err-s.field-0.0 c.from_residual-in_err-s.ensures.1 (c.in_err-s.ensures.complete d.s rest (parts.at (λ (xs : List Token). ReadsLast c.args.mark xs d.s rest) g3.1 d.step) (parts.stops_ends 9 rest h) k)

pub returns-clause-sound : goal.returns-clause-sound
returns-clause-sound c = record {
  x = c.in-Some.variable.now;
  l = c.in_ok-l.l;
  u = c.in_ok-u.u;
  s = c.in_ok-s.s;
  us = c.in-Some.rest.now;
  vs = c.in_ok-rest.rest.now;
  ws = c.in_ok-l.rest.now;
  xs = c.in_ok-rest-2.rest.now;
  ys = c.in_ok-u.rest.now;
  names = c.in-Some.ensures.some;
  becomes = c.in_ok-rest.ensures.sound;
  first = c.in_ok-l.ensures.sound;
  then_mark = c.in_ok-rest-2.ensures.sound;
  second = c.in_ok-u.ensures.sound;
  step = c.in_ok-s.ensures.sound;
  is = c.index_of.ensures ∙ ap (λ (z : List _). index_of z c.in_ok-l.l c.in_ok-u.u c.in_ok-s.s) c.in_ok-copy.ensures;
}

pub returns-clause-complete : goal.returns-clause-complete
returns-clause-complete c = λ i rest d h k.
    let g1 = c.in_ok-rest.ensures.complete d.vs (heads.follows_at (sym (parts.same_name d.names c.in-Some.ensures.some).1) d.becomes) in
    let g2 = c.in_ok-l.ensures.complete d.l d.ws (parts.at (λ (xs : List Token). Reads 8 xs d.l d.ws) g1 d.first) (parts.stops_mark 9 c.args.mark c.requires d.then_mark) in
    let g3 = c.in_ok-u.ensures.complete d.u d.ys (parts.at (λ (xs : List Token). Reads 8 xs d.u d.ys) (c.in_ok-rest-2.ensures.complete d.xs (heads.follows_at g2.1 d.then_mark)) d.second) (parts.last_stops 9 c.args.mark c.requires h d.step) in
    let g4 = c.in_ok-s.ensures.complete d.s rest (parts.at (λ (xs : List Token). ReadsLast c.args.mark xs d.s rest) g3.1 d.step) (parts.stops_ends 9 rest h) k in
    (c.index_of.ensures ∙ parts.index_as (c.in_ok-copy.ensures ∙ sym (parts.same_name d.names c.in-Some.ensures.some).0) g2.0 g3.0 g4.0 ∙ sym d.is, g4.1)
