use Rattle.ws_stmt.specs.Parsing.{seen}
use Rattle.std.proofs.Common.{◌≡◌, ◌<◌, ◌≤◌, List, [], ◌∷◌, Option, Some, None, length, refl, sym, ap, ◌∙◌, arith}
use Rattle.ws_lex.specs.declared.token.Token.{Token}
use Rattle.ws_expr.proofs.Heads as heads
use Rattle.ws_stmt.proofs.Parts as parts
use Rattle.ws_stmt.proofs.Declarations as decls
use Rattle.ws_stmt.specs.Statements.{ReadsEntity, Lists}
use Rattle.ws_stmt.proofs.declare.declaration.Goals as goal

pub returns-in_err-odd-clause-complete : goal.returns-in_err-odd-clause-complete
returns-in_err-odd-clause-complete c = λ s d.
    heads.failing _ c.from_residual.result c.in_err-odd.field-0.0 c.from_residual.ensures.1 (c.in_err-odd.ensures.complete d.odd d.us d.kind (decls.kind_lacks_open d) (decls.kind_lacks_star d))

pub returns-in_err-attributes-clause-complete : goal.returns-in_err-attributes-clause-complete
returns-in_err-attributes-clause-complete c = λ s d.
    let g1 = c.in_ok-odd.ensures.complete d.odd d.us d.kind (decls.kind_lacks_open d) (decls.kind_lacks_star d) in
    heads.failing _ c.from_residual-in_err-attributes.result c.in_err-attributes.field-0.0 c.from_residual-in_err-attributes.ensures.1 (c.in_err-attributes.ensures.complete d.a d.vs (decls.attributes_at d g1.1) (decls.attributes_lack_comma d))

pub returns-in_err-rest-clause-complete : goal.returns-in_err-rest-clause-complete
returns-in_err-rest-clause-complete c = λ s d.
    let g1 = c.in_ok-odd.ensures.complete d.odd d.us d.kind (decls.kind_lacks_open d) (decls.kind_lacks_star d) in
    let g2 = c.in_ok-attributes.ensures.complete d.a d.vs (decls.attributes_at d g1.1) (decls.attributes_lack_comma d) in
    heads.failing _ c.from_residual-in_err-rest.result c.in_err-rest.field-0.0 c.from_residual-in_err-rest.ensures.1 (c.in_err-rest.ensures.complete d.ws (decls.colons_at d g2.0 g2.1) (decls.colons_lack_double d))

pub returns-in_err-decls-clause-complete : goal.returns-in_err-decls-clause-complete
returns-in_err-decls-clause-complete c = λ s d.
    let g1 = c.in_ok-odd.ensures.complete d.odd d.us d.kind (decls.kind_lacks_open d) (decls.kind_lacks_star d) in
    let g2 = c.in_ok-attributes.ensures.complete d.a d.vs (decls.attributes_at d g1.1) (decls.attributes_lack_comma d) in
    let g3 = c.in_ok-rest.ensures.complete d.ws (decls.colons_at d g2.0 g2.1) (decls.colons_lack_double d) in
    heads.failing _ c.from_residual-in_err-decls.result c.in_err-decls.field-0.0 c.from_residual-in_err-decls.ensures.1 (c.in_err-decls.ensures.complete d.ds [] (decls.entities_at d g2.0 g3) (parts.list_end _))

pub returns-then-is_done-clause-complete : goal.returns-then-is_done-clause-complete
returns-then-is_done-clause-complete c = λ s d.
    let g1 = c.in_ok-odd.ensures.complete d.odd d.us d.kind (decls.kind_lacks_open d) (decls.kind_lacks_star d) in
    let g2 = c.in_ok-attributes.ensures.complete d.a d.vs (decls.attributes_at d g1.1) (decls.attributes_lack_comma d) in
    let g4 = c.in_ok-decls.ensures.complete d.ds [] (decls.entities_at d g2.0 (c.in_ok-rest.ensures.complete d.ws (decls.colons_at d g2.0 g2.1) (decls.colons_lack_double d))) (parts.list_end _) in
    c.declares.ensures ∙ decls.declares_as g1.0 g4.0 ∙ sym d.is

pub returns-else-is_done-clause-complete : goal.returns-else-is_done-clause-complete
returns-else-is_done-clause-complete c = λ s d.
    let g1 = c.in_ok-odd.ensures.complete d.odd d.us d.kind (decls.kind_lacks_open d) (decls.kind_lacks_star d) in
    let g2 = c.in_ok-attributes.ensures.complete d.a d.vs (decls.attributes_at d g1.1) (decls.attributes_lack_comma d) in
    let g4 = c.in_ok-decls.ensures.complete d.ds [] (decls.entities_at d g2.0 (c.in_ok-rest.ensures.complete d.ws (decls.colons_at d g2.0 g2.1) (decls.colons_lack_double d))) (parts.list_end _) in
    decls.something _ (sym c.is_done.ensures ∙ c.if-is_done.false) g4.1

pub returns-then-is_done-clause-sound : goal.returns-then-is_done-clause-sound
returns-then-is_done-clause-sound c =
    let e = decls.nothing _ (sym c.is_done.ensures ∙ c.if-is_done.true) in
    record {
      us = c.in_ok-odd.rest.now;
      vs = c.in_ok-attributes.rest.now;
      ws = c.in_ok-rest.rest.now;
      odd = c.in_ok-odd.odd;
      a = seen c.in_ok-attributes.attributes;
      ds = c.in_ok-decls.decls;
      kind = c.in_ok-odd.ensures.sound;
      attributes = c.in_ok-attributes.ensures.sound;
      colons = c.in_ok-rest.ensures.sound;
      entities = parts.along (λ (xs : List Token). Lists (ReadsEntity c.args.line c.args.truth (seen c.in_ok-attributes.attributes)) c.in_ok-rest.rest.now c.in_ok-decls.decls xs) e c.in_ok-decls.ensures.sound;
      is = c.declares.ensures;
    }
