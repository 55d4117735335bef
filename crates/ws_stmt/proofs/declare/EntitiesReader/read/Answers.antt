use Rattle.std.proofs.Common.{◌≡◌, ◌<◌, ◌≤◌, List, [], ◌∷◌, Option, Some, None, length, refl, sym, ap, ◌∙◌, arith}
use Rattle.ws_lex.specs.declared.token.Sign.TheVariants as sign
use Rattle.ws_lex.specs.declared.token.Token.{Token}
use Rattle.ws_expr.specs.Grammar.{Reads, ReadsSubs}
use Rattle.ws_expr.proofs.Heads as heads
use Rattle.ws_stmt.specs.Statements as statements
use Rattle.ws_stmt.proofs.Parts as parts
use Rattle.ws_stmt.proofs.Declarations as decls
use Rattle.ws_stmt.specs.Statements.{ReadsExtent, ReadsValue}
use Rattle.ws_stmt.specs.Parsing.{seen}
use Rattle.ws_stmt.proofs.declare.EntitiesReader.read.Goals as goal

pub returns-in_default-clause-complete : goal.returns-in_default-clause-complete
returns-in_default-clause-complete c = λ p rest d h. c.in_default.ensures.none d.x d.us d.names

pub returns-in_err-bounds-clause-complete : goal.returns-in_err-bounds-clause-complete
returns-in_err-bounds-clause-complete c = λ p rest d h.
    let n = parts.same_name d.names c.in-Some.ensures.some in
    let x = parts.at (λ (xs : List Token). ReadsExtent c.args.self.now.attributes.dimension.now xs d.bounds d.odd d.vs) (sym n.1) d.extent in
    let l = decls.value_lacks h d.becomes in
    heads.failing _ c.from_residual.result c.in_err-bounds.field-0.0 c.from_residual.ensures.1 (c.in_err-bounds.ensures.complete d.bounds d.odd d.vs x l)

pub returns-in_err-e-clause-complete : goal.returns-in_err-e-clause-complete
returns-in_err-e-clause-complete c = λ p rest d h.
    let n = parts.same_name d.names c.in-Some.ensures.some in
    let x = parts.at (λ (xs : List Token). ReadsExtent c.args.self.now.attributes.dimension.now xs d.bounds d.odd d.vs) (sym n.1) d.extent in
    let l = decls.value_lacks h d.becomes in
    let g1 = c.in_ok-bounds.ensures.complete d.bounds d.odd d.vs x l in
    let v = parts.at (λ (xs : List Token). ReadsValue c.args.self.now.attributes.constant xs d.value rest) g1.2 d.becomes in
    heads.failing _ c.from_residual-in_err-e.result c.in_err-e.field-0.0 c.from_residual-in_err-e.ensures.1 (c.in_err-e.ensures.complete d.value rest v (parts.stops_ends 9 rest h))

pub returns-clause-complete : goal.returns-clause-complete
returns-clause-complete c = λ p rest d h.
    let n = parts.same_name d.names c.in-Some.ensures.some in
    let x = parts.at (λ (xs : List Token). ReadsExtent c.args.self.now.attributes.dimension.now xs d.bounds d.odd d.vs) (sym n.1) d.extent in
    let l = decls.value_lacks h d.becomes in
    let g1 = c.in_ok-bounds.ensures.complete d.bounds d.odd d.vs x l in
    let v = parts.at (λ (xs : List Token). ReadsValue c.args.self.now.attributes.constant xs d.value rest) g1.2 d.becomes in
    let g2 = c.in_ok-e.ensures.complete d.value rest v (parts.stops_ends 9 rest h) in
    (c.declared-decl.ensures ∙ decls.entity_as (seen c.args.self.now.attributes) (c.in_ok-copy.ensures ∙ sym n.0) g1.0 g1.1 g2.0 ∙ sym d.is, g2.1)
