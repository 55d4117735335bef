use Rattle.std.proofs.Common.{◌<◌, List, length, arith}
use Rattle.ws_lex.specs.declared.token.Token.{Token}
use Rattle.ws_expr.proofs.Heads as heads
use Rattle.ws_stmt.proofs.Lists as lists
use Rattle.ws_stmt.proofs.Parts as parts
use Rattle.ws_stmt.proofs.list.list_in_parens.Goals as goal

pub returns-in_err-rest-clause-complete : goal.returns-in_err-rest-clause-complete
returns-in_err-rest-clause-complete g c = λ xs rest d.
    heads.failing _ c.from_residual.result c.in_err-rest.field-0.0 c.from_residual.ensures.1 (c.in_err-rest.ensures.complete d.us d.opens)

pub returns-in_err-items-clause-complete : goal.returns-in_err-items-clause-complete
returns-in_err-items-clause-complete g c = λ xs rest d.
    let p = c.in_ok-rest.ensures.complete d.us d.opens in
    let l = lists.lists_at p d.lists in
    heads.failing _ c.from_residual-in_err-items.result c.in_err-items.field-0.0 c.from_residual-in_err-items.ensures.1 (c.in_err-items.ensures.complete xs d.vs l (parts.list_close d.closes))

pub returns-in_err-rest-2-clause-complete : goal.returns-in_err-rest-2-clause-complete
returns-in_err-rest-2-clause-complete g c = λ xs rest d.
    let p = c.in_ok-rest.ensures.complete d.us d.opens in
    let q = c.in_ok-items.ensures.complete xs d.vs (lists.lists_at p d.lists) (parts.list_close d.closes) in
    heads.failing _ c.from_residual-in_err-rest-2.result c.in_err-rest-2.field-0.0 c.from_residual-in_err-rest-2.ensures.1 (c.in_err-rest-2.ensures.complete rest (heads.follows_at q.1 d.closes))

pub returns-clause-sound : goal.returns-clause-sound
returns-clause-sound g c = record { us = c.in_ok-rest.rest.now; vs = c.in_ok-items.rest.now; opens = c.in_ok-rest.ensures.sound; lists = c.in_ok-items.ensures.sound; closes = c.in_ok-rest-2.ensures.sound }

pub returns-clause-complete : goal.returns-clause-complete
returns-clause-complete g c = λ xs rest d.
    let p = c.in_ok-rest.ensures.complete d.us d.opens in
    let q = c.in_ok-items.ensures.complete xs d.vs (lists.lists_at p d.lists) (parts.list_close d.closes) in
    (q.0, c.in_ok-rest-2.ensures.complete rest (heads.follows_at q.1 d.closes))
