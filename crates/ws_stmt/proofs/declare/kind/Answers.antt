use Rattle.std.proofs.Common.{◌≡◌, ◌<◌, ◌≤◌, List, [], ◌∷◌, Option, Some, None, length, refl, sym, ap, ◌∙◌, arith}
use Rattle.ws_lex.specs.declared.token.Sign.TheVariants as sign
use Rattle.ws_lex.specs.declared.token.Token.{Token}
use Rattle.ws_expr.specs.Grammar.{Reads, ReadsSubs}
use Rattle.ws_expr.proofs.Heads as heads
use Rattle.ws_stmt.specs.Statements as statements
use Rattle.ws_stmt.proofs.Parts as parts
use Rattle.ws_stmt.proofs.Declarations as decls
use Rattle.ws_stmt.specs.Statements.ReadsKind.{no_kind, starred, starred_kind}
use Rattle.ws_stmt.proofs.declare.kind.Goals as goal

pub returns-in_err-rest-clause-complete : goal.returns-in_err-rest-clause-complete
returns-in_err-rest-clause-complete c = λ odd rest d h s.
    let k = decls.kind_open c.in-Some.ensures.some h d in
    let r = parts.at (λ (xs : List Token). Reads 8 xs k.e k.mid) c.after_kind.ensures k.read in
    heads.failing _ c.from_residual.result c.in_err-rest.field-0.0 c.from_residual.ensures.1 (c.in_err-rest.ensures.complete k.e k.mid r (heads.stops_close 9 k.closes))

pub returns-in_err-rest-2-clause-complete : goal.returns-in_err-rest-2-clause-complete
returns-in_err-rest-2-clause-complete c = λ odd rest d h s.
    let k = decls.kind_open c.in-Some.ensures.some h d in
    let r = parts.at (λ (xs : List Token). Reads 8 xs k.e k.mid) c.after_kind.ensures k.read in
    let got = c.in_ok-rest.ensures.complete k.e k.mid r (heads.stops_close 9 k.closes) in
    heads.failing _ c.from_residual-in_err-rest-2.result c.in_err-rest-2.field-0.0 c.from_residual-in_err-rest-2.ensures.1 (c.in_err-rest-2.ensures.complete rest (heads.follows_at got.1 k.closes))

pub returns-in-Some-clause-sound : goal.returns-in-Some-clause-sound
returns-in-Some-clause-sound c = decls.kind_by c.in-Some.ensures.some c.after_kind.ensures c.in_ok-rest.ensures.sound c.in_ok-rest-2.ensures.sound

pub returns-in-Some-clause-complete : goal.returns-in-Some-clause-complete
returns-in-Some-clause-complete c = λ odd rest d h s.
    let k = decls.kind_open c.in-Some.ensures.some h d in
    let r = parts.at (λ (xs : List Token). Reads 8 xs k.e k.mid) c.after_kind.ensures k.read in
    let got = c.in_ok-rest.ensures.complete k.e k.mid r (heads.stops_close 9 k.closes) in
    (k.is, c.in_ok-rest-2.ensures.complete rest (heads.follows_at got.1 k.closes))

pub returns-in_default-after-clause-sound : goal.returns-in_default-after-clause-sound
returns-in_default-after-clause-sound c = no_kind

pub returns-in_default-after-clause-complete : goal.returns-in_default-after-clause-complete
returns-in_default-after-clause-complete c = λ odd rest d h s. decls.kind_none c.in_default.ensures.none c.in_default-after.ensures.none d

pub returns-in_err-rest-in-None-clause-complete : goal.returns-in_err-rest-in-None-clause-complete
returns-in_err-rest-in-None-clause-complete c = λ odd rest d h s.
    let k = decls.kind_star c.in_default.ensures.none c.in-Some-after.ensures.some s d in
    let p = decls.star_parens c.in-None.ensures.none k in
    heads.failing _ c.from_residual-in_err-rest-in-None.result c.in_err-rest-in-None.field-0.0 c.from_residual-in_err-rest-in-None.ensures.1 (c.in_err-rest-in-None.ensures.complete p.e rest p.parens)

pub returns-in-Some-after_digits-clause-sound : goal.returns-in-Some-after_digits-clause-sound
returns-in-Some-after_digits-clause-sound c = starred c.in-Some-after.ensures.some c.in-Some-after_digits.ensures.some

pub returns-in-Some-after_digits-clause-complete : goal.returns-in-Some-after_digits-clause-complete
returns-in-Some-after_digits-clause-complete c = λ odd rest d h s.
    let k = decls.kind_star c.in_default.ensures.none c.in-Some-after.ensures.some s d in
    decls.star_digits c.in-Some-after_digits.ensures.some k

pub returns-in_ok-rest-in-None-clause-sound : goal.returns-in_ok-rest-in-None-clause-sound
returns-in_ok-rest-in-None-clause-sound c = starred_kind c.in-Some-after.ensures.some c.in_ok-rest-in-None.ensures.sound

pub returns-in_ok-rest-in-None-clause-complete : goal.returns-in_ok-rest-in-None-clause-complete
returns-in_ok-rest-in-None-clause-complete c = λ odd rest d h s.
    let k = decls.kind_star c.in_default.ensures.none c.in-Some-after.ensures.some s d in
    let p = decls.star_parens c.in-None.ensures.none k in
    let got = c.in_ok-rest-in-None.ensures.complete p.e rest p.parens in
    (p.is, got.1)
