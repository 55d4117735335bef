use Rattle.std.proofs.Common.{◌≡◌, ◌<◌, ◌≤◌, List, [], ◌∷◌, Some, None, length, refl, sym, ap, ◌∙◌, arith}
use Rattle.ws_lex.specs.declared.token.Sign.TheVariants as sign
use Rattle.ws_lex.specs.declared.token.Token.{Token}
use Rattle.ws_expr.specs.Grammar.{Reads, ReadsSubs}
use Rattle.ws_expr.proofs.Heads as heads
use Rattle.ws_stmt.specs.Statements as statements
use Rattle.ws_stmt.proofs.Parts as parts
use Rattle.ws_stmt.proofs.part.in_parens.Goals as goal

pub returns-in_err-rest-clause-complete : goal.returns-in_err-rest-clause-complete
returns-in_err-rest-clause-complete c = λ e rest d.
    heads.failing _ c.from_residual.result c.in_err-rest.field-0.0 c.from_residual.ensures.1 (c.in_err-rest.ensures.complete d.us d.opens)

pub returns-in_err-rest-2-clause-complete : goal.returns-in_err-rest-2-clause-complete
returns-in_err-rest-2-clause-complete c = λ e rest d.
    let p = c.in_ok-rest.ensures.complete d.us d.opens in
    let q = c.in_ok-e.ensures.complete e d.vs (parts.at (λ (xs : List Token). Reads 8 xs e d.vs) p d.reads) (heads.stops_close 9 d.closes) in
    heads.failing _ c.from_residual-in_err-rest-2.result c.in_err-rest-2.field-0.0 c.from_residual-in_err-rest-2.ensures.1 (c.in_err-rest-2.ensures.complete rest (heads.follows_at q.1 d.closes))

pub returns-clause-sound : goal.returns-clause-sound
returns-clause-sound c = record { us = c.in_ok-rest.rest.now; vs = c.in_ok-e.rest.now; opens = c.in_ok-rest.ensures.sound; reads = c.in_ok-e.ensures.sound; closes = c.in_ok-rest-2.ensures.sound }
