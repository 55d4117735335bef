use Rattle.std.proofs.Common.{◌≡◌, ◌<◌, ◌≤◌, List, [], ◌∷◌, Option, Some, None, length, refl, sym, ap, ◌∙◌, arith}
use Rattle.ws_lex.specs.declared.token.Sign.TheVariants as sign
use Rattle.ws_lex.specs.declared.token.Token.{Token}
use Rattle.ws_expr.specs.Grammar.{Reads, ReadsSubs}
use Rattle.ws_expr.proofs.Heads as heads
use Rattle.ws_stmt.specs.Statements as statements
use Rattle.ws_stmt.proofs.Parts as parts
use Rattle.ws_stmt.proofs.Declarations as decls
use Rattle.ws_stmt.specs.Statements.ReadsAttributes.{no_attributes, attributes}
use Rattle.ws_stmt.proofs.declare.attributes.Goals as goal

pub attributes-init : goal.attributes-init
attributes-init c = record {
  sound = no_attributes;
  complete = λ a rest d h. decls.from_first d;
}

pub returns-in_err-more-clause-complete : goal.returns-in_err-more-clause-complete
returns-in_err-more-clause-complete c = λ a rest d h.
    let n = decls.next_attribute c.in-Some.ensures.some h (c.attributes.invariant.complete a rest d h) in
    heads.failing _ c.from_residual.result c.in_err-more.field-0.0 c.from_residual.ensures.1 (c.in_err-more.ensures.complete n.b n.after n.read)

pub attributes-preserved : goal.attributes-preserved
attributes-preserved c = record {
  sound = attributes c.attributes.invariant.sound c.in-Some.ensures.some c.in_ok-more.ensures.sound;
  complete = λ a rest d h.
      let n = decls.next_attribute c.in-Some.ensures.some h (c.attributes.invariant.complete a rest d h) in
      let got = c.in_ok-more.ensures.complete n.b n.after n.read in
      decls.more_at got.0 got.1 n.others;
}

pub returns-clause-complete : goal.returns-clause-complete
returns-clause-complete c = λ a rest d h. decls.no_more_left c.in_default.ensures.none (c.attributes.invariant.complete a rest d h)
