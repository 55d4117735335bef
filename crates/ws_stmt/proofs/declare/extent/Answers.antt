use Rattle.std.proofs.Common.{◌≡◌, ◌<◌, ◌≤◌, List, [], ◌∷◌, Option, Some, None, length, refl, sym, ap, ◌∙◌, arith}
use Rattle.ws_lex.specs.declared.token.Sign.TheVariants as sign
use Rattle.ws_lex.specs.declared.token.Token.{Token}
use Rattle.ws_expr.specs.Grammar.{Reads, ReadsSubs}
use Rattle.ws_expr.proofs.Heads as heads
use Rattle.ws_stmt.specs.Statements as statements
use Rattle.ws_stmt.proofs.Parts as parts
use Rattle.ws_stmt.proofs.Declarations as decls
use Rattle.ws_tree.specs.declared.stmt.Bound.{Bound}
use Rattle.ws_expr.specs.declared.reading.Gathered.{Gathered}
use Rattle.ws_stmt.specs.Statements.ReadsExtent.{own, taken, scalar}
use Rattle.ws_stmt.proofs.declare.extent.Goals as goal

pub returns-in_err-bounds-clause-complete : goal.returns-in_err-bounds-clause-complete
returns-in_err-bounds-clause-complete c = λ bounds odd rest d h.
    let o = decls.extent_own c.in-Some.ensures.some h d in
    heads.failing _ c.from_residual.result c.in_err-bounds.field-0.0 c.from_residual.ensures.1 (c.in_err-bounds.ensures.complete o.all rest o.shape)

pub returns-in-Some-clause-sound : goal.returns-in-Some-clause-sound
returns-in-Some-clause-sound c = own c.in_ok-bounds.ensures.sound

pub returns-in-Some-clause-complete : goal.returns-in-Some-clause-complete
returns-in-Some-clause-complete c = λ bounds odd rest d h.
    let o = decls.extent_own c.in-Some.ensures.some h d in
    let got = c.in_ok-bounds.ensures.complete o.all rest o.shape in
    (ap (λ (z : Gathered Bound). z.trees) got.0 ∙ o.trees, ap (λ (z : Gathered Bound). z.odd) got.0 ∙ o.odds, got.1)

pub returns-then-is_done-clause-sound : goal.returns-then-is_done-clause-sound
returns-then-is_done-clause-sound c = decls.scalar_by c.new.ensures (decls.nothing _ (sym c.is_done.ensures ∙ c.if-is_done.true))

pub returns-then-is_done-clause-complete : goal.returns-then-is_done-clause-complete
returns-then-is_done-clause-complete c = λ bounds odd rest d h.
    let got = decls.extent_scalar c.in_default.ensures.none (decls.nothing _ (sym c.is_done.ensures ∙ c.if-is_done.true)) d in
    (c.new.ensures ∙ got.0, got.1, got.2)

pub returns-in_err-bounds-2-clause-complete : goal.returns-in_err-bounds-2-clause-complete
returns-in_err-bounds-2-clause-complete c = λ bounds odd rest d h.
    let o = decls.extent_taken c.in_default.ensures.none (decls.something _ (sym c.is_done.ensures ∙ c.if-is_done.false)) d in
    heads.failing _ c.from_residual-in_err-bounds-2.result c.in_err-bounds-2.field-0.0 c.from_residual-in_err-bounds-2.ensures.1 (c.in_err-bounds-2.ensures.complete o.all o.after o.shape)

pub returns-clause-sound : goal.returns-clause-sound
returns-clause-sound c = taken c.in_ok-bounds-2.ensures.sound

pub returns-clause-complete : goal.returns-clause-complete
returns-clause-complete c = λ bounds odd rest d h.
    let o = decls.extent_taken c.in_default.ensures.none (decls.something _ (sym c.is_done.ensures ∙ c.if-is_done.false)) d in
    let got = c.in_ok-bounds-2.ensures.complete o.all o.after o.shape in
    (ap (λ (z : Gathered Bound). z.trees) got.0 ∙ o.trees, ap (λ (z : Gathered Bound). z.odd) got.0 ∙ o.odds, o.is)
