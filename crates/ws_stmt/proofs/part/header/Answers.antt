use Rattle.std.proofs.Common.{◌≡◌, ◌<◌, ◌≤◌, List, [], ◌∷◌, Option, Some, None, length, refl, sym, ap, ◌∙◌, arith}
use Rattle.ws_lex.specs.declared.token.Sign.TheVariants as sign
use Rattle.ws_lex.specs.declared.token.Token.{Token}
use Rattle.ws_expr.specs.Grammar.{Reads, ReadsSubs}
use Rattle.ws_expr.proofs.Heads as heads
use Rattle.ws_stmt.specs.Statements as statements
use Rattle.ws_stmt.proofs.Parts as parts
use Rattle.ws_stmt.specs.Statements.{ReadsLast, ReadsIndex, Lists}
use Rattle.ws_stmt.proofs.part.header.Goals as goal

pub returns-in_err-rest-clause-complete : goal.returns-in_err-rest-clause-complete
returns-in_err-rest-clause-complete c = λ is m rest d.
    heads.failing _ c.from_residual.result c.in_err-rest.field-0.0 c.from_residual.ensures.1 (c.in_err-rest.ensures.complete d.us d.opens)

pub returns-in_err-indexes-clause-complete : goal.returns-in_err-indexes-clause-complete
returns-in_err-indexes-clause-complete c = λ is m rest d.
    let g1 = c.in_ok-rest.ensures.complete d.us d.opens in
    heads.failing _ c.from_residual-in_err-indexes.result c.in_err-indexes.field-0.0 c.from_residual-in_err-indexes.ensures.1 (c.in_err-indexes.ensures.complete is d.vs (parts.at (λ (xs : List Token). Lists (ReadsIndex sign.Colon) xs is d.vs) g1 d.lists) (parts.header_ends d.mask d.closes))

pub returns-in_err-mask-clause-complete : goal.returns-in_err-mask-clause-complete
returns-in_err-mask-clause-complete c = λ is m rest d.
    let g1 = c.in_ok-rest.ensures.complete d.us d.opens in
    let g2 = c.in_ok-indexes.ensures.complete is d.vs (parts.at (λ (xs : List Token). Lists (ReadsIndex sign.Colon) xs is d.vs) g1 d.lists) (parts.header_ends d.mask d.closes) in
    heads.failing _ c.from_residual-in_err-mask.result c.in_err-mask.field-0.0 c.from_residual-in_err-mask.ensures.1 (c.in_err-mask.ensures.complete m d.ws (parts.at (λ (xs : List Token). ReadsLast sign.Comma xs m d.ws) g2.1 d.mask) (heads.stops_close 9 d.closes) (parts.lacks_comma d.closes))

pub returns-in_err-rest-2-clause-complete : goal.returns-in_err-rest-2-clause-complete
returns-in_err-rest-2-clause-complete c = λ is m rest d.
    let g1 = c.in_ok-rest.ensures.complete d.us d.opens in
    let g2 = c.in_ok-indexes.ensures.complete is d.vs (parts.at (λ (xs : List Token). Lists (ReadsIndex sign.Colon) xs is d.vs) g1 d.lists) (parts.header_ends d.mask d.closes) in
    let g3 = c.in_ok-mask.ensures.complete m d.ws (parts.at (λ (xs : List Token). ReadsLast sign.Comma xs m d.ws) g2.1 d.mask) (heads.stops_close 9 d.closes) (parts.lacks_comma d.closes) in
    heads.failing _ c.from_residual-in_err-rest-2.result c.in_err-rest-2.field-0.0 c.from_residual-in_err-rest-2.ensures.1 (c.in_err-rest-2.ensures.complete rest (heads.follows_at g3.1 d.closes))

pub returns-clause-sound : goal.returns-clause-sound
returns-clause-sound c = record {
  us = c.in_ok-rest.rest.now;
  vs = c.in_ok-indexes.rest.now;
  ws = c.in_ok-mask.rest.now;
  opens = c.in_ok-rest.ensures.sound;
  lists = c.in_ok-indexes.ensures.sound;
  mask = c.in_ok-mask.ensures.sound;
  closes = c.in_ok-rest-2.ensures.sound;
}

pub returns-clause-complete : goal.returns-clause-complete
returns-clause-complete c = λ is m rest d.
    let g1 = c.in_ok-rest.ensures.complete d.us d.opens in
    let g2 = c.in_ok-indexes.ensures.complete is d.vs (parts.at (λ (xs : List Token). Lists (ReadsIndex sign.Colon) xs is d.vs) g1 d.lists) (parts.header_ends d.mask d.closes) in
    let g3 = c.in_ok-mask.ensures.complete m d.ws (parts.at (λ (xs : List Token). ReadsLast sign.Comma xs m d.ws) g2.1 d.mask) (heads.stops_close 9 d.closes) (parts.lacks_comma d.closes) in
    (g2.0, g3.0, c.in_ok-rest-2.ensures.complete rest (heads.follows_at g3.1 d.closes))
