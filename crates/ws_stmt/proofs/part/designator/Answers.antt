use Rattle.std.proofs.Common.{◌≡◌, ◌<◌, ◌≤◌, List, [], ◌∷◌, Some, None, length, refl, sym, ap, ◌∙◌, arith}
use Rattle.ws_lex.specs.declared.token.Sign.TheVariants as sign
use Rattle.ws_lex.specs.declared.token.Token.{Token}
use Rattle.ws_expr.specs.Grammar.{Reads, ReadsSubs}
use Rattle.ws_expr.proofs.Heads as heads
use Rattle.ws_stmt.specs.Statements as statements
use Rattle.ws_stmt.proofs.Parts as parts
use Rattle.ws_stmt.specs.Statements.Designates.{whole, subscripted}
use Rattle.ws_stmt.specs.Statements.{Designates, element}
use Rattle.ws_stmt.proofs.part.designator.Goals as goal

pub returns-in_default-clause-complete : goal.returns-in_default-clause-complete
returns-in_default-clause-complete c = λ e rest d h. parts.no_name c.in_default.ensures.none d

pub returns-in_err-items-in-Some-after-clause-complete : goal.returns-in_err-items-in-Some-after-clause-complete
returns-in_err-items-in-Some-after-clause-complete c = λ e rest d h.
    let a = parts.at_open c.in-Some.ensures.some c.in-Some-after.ensures.some h d in
    heads.failing _ c.from_residual-in_err-items-in-Some-after.result c.in_err-items-in-Some-after.field-0.0 c.from_residual-in_err-items-in-Some-after.ensures.1 (c.in_err-items-in-Some-after.ensures.complete a.subs a.after a.read (heads.closes_subs_by a.closes))

pub returns-in_err-rest-in-Some-after-clause-complete : goal.returns-in_err-rest-in-Some-after-clause-complete
returns-in_err-rest-in-Some-after-clause-complete c = λ e rest d h.
    let a = parts.at_open c.in-Some.ensures.some c.in-Some-after.ensures.some h d in
    let got = c.in_ok-items-in-Some-after.ensures.complete a.subs a.after a.read (heads.closes_subs_by a.closes) in
    heads.failing _ c.from_residual-in_err-rest-in-Some-after.result c.in_err-rest-in-Some-after.field-0.0 c.from_residual-in_err-rest-in-Some-after.ensures.1 (c.in_err-rest-in-Some-after.ensures.complete rest (heads.follows_at got.1 a.closes))

pub returns-in_ok-copy-in-None-clause-sound : goal.returns-in_ok-copy-in-None-clause-sound
returns-in_ok-copy-in-None-clause-sound c = parts.whole_by c.in-Some.ensures.some c.in_ok-copy-in-None.ensures c.variable.ensures

pub returns-in_ok-copy-in-None-clause-complete : goal.returns-in_ok-copy-in-None-clause-complete
returns-in_ok-copy-in-None-clause-complete c = λ e rest d h.
    let got = parts.at_plain c.in-Some.ensures.some c.in_ok-copy-in-None.ensures c.in-None.ensures.none d in
    (c.variable.ensures ∙ got.0, got.1)

pub returns-in_ok-copy-in-Some-after-clause-sound : goal.returns-in_ok-copy-in-Some-after-clause-sound
returns-in_ok-copy-in-Some-after-clause-sound c = parts.subscripted_by c.in-Some.ensures.some c.in-Some-after.ensures.some c.in_ok-items-in-Some-after.ensures.sound c.in_ok-rest-in-Some-after.ensures.sound c.in_ok-copy-in-Some-after.ensures c.element.ensures

pub returns-in_ok-copy-in-Some-after-clause-complete : goal.returns-in_ok-copy-in-Some-after-clause-complete
returns-in_ok-copy-in-Some-after-clause-complete c = λ e rest d h.
    let a = parts.at_open c.in-Some.ensures.some c.in-Some-after.ensures.some h d in
    let got = c.in_ok-items-in-Some-after.ensures.complete a.subs a.after a.read (heads.closes_subs_by a.closes) in
    (parts.element_as c.in_ok-copy-in-Some-after.ensures c.element.ensures got.0 a.is, c.in_ok-rest-in-Some-after.ensures.complete rest (heads.follows_at got.1 a.closes))
