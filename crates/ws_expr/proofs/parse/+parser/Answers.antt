use Rattle.std.proofs.Common.{None, length, sym, ap, ◌∙◌, arith}
use Rattle.ws_expr.specs.Grammar as grammar
use Rattle.ws_expr.specs.Grammar.ReadsMaybe.{absent, present}
use Rattle.ws_lex.specs.declared.token.TokenKind.TheVariants as kind
use Rattle.ws_expr.proofs.Chains.{spine, weaker}
use Rattle.ws_expr.proofs.Heads as heads
use Rattle.ws_expr.proofs.Powers as powers
use Rattle.ws_expr.proofs.Lists as lists
use Rattle.ws_expr.proofs.Triplets as triplets
use Rattle.ws_expr.proofs.parse.+parser.Goals as goal

pub expression-returns-in_err-left-clause-complete : goal.expression-returns-in_err-left-clause-complete
expression-returns-in_err-left-clause-complete t c = λ e rest d s.
    let sp = spine d c.requires in
    let stops = heads.stops_spine sp s in
    heads.failing _ c.from_residual.result c.in_err-left.field-0.0 c.from_residual.ensures.1 (c.in_err-left.ensures.complete sp.m sp.first sp.after sp.head stops.0 stops.1)

pub expression-operators-init : goal.expression-operators-init
expression-operators-init t c = record {
  low = c.in_ok-left.ensures.low;
  shorter = c.in_ok-left.ensures.shorter;
  sound = c.in_ok-left.ensures.sound;
  complete = λ e rest d s.
      let sp = spine d c.requires in
      let stops = heads.stops_spine sp s in
      let got = c.in_ok-left.ensures.complete sp.m sp.first sp.after sp.head stops.0 stops.1 in
      heads.chain_as got.0 got.1 got.2 sp.chain;
}

pub expression-returns-in_err-right-clause-complete : goal.expression-returns-in_err-right-clause-complete
expression-returns-in_err-right-clause-complete t c = λ e rest d s.
    let g = heads.goes_some c.in-Some.ensures.some c.right_rank.ensures s (c.operators.invariant.complete e rest d s) in
    heads.failing _ c.from_residual-in_err-right.result c.in_err-right.field-0.0 c.from_residual-in_err-right.ensures.1 (c.in_err-right.ensures.complete g.b g.after g.read g.stops)

pub expression-operators-preserved : goal.expression-operators-preserved
expression-operators-preserved t c =
    let j = c.in-Some.ensures.some in
    let j_low = j.low in
    let j_length = ap length j.is in
    record {
      low = omega (arith, c.rank-bound.ensures, j_low);
      shorter = omega (arith, c.in_ok-right.ensures.shorter, c.operators.invariant.shorter, j_length);
      sound = heads.grown j c.rank-bound.ensures c.right_rank.ensures c.in_ok-left-2.ensures c.operators.invariant.sound c.in_ok-right.ensures.sound;
      complete = λ e rest d s.
          let g = heads.goes_some j c.right_rank.ensures s (c.operators.invariant.complete e rest d s) in
          let got = c.in_ok-right.ensures.complete g.b g.after g.read g.stops in
          heads.chain_grown c.operators.left j c.rank-bound.ensures c.in_ok-left-2.ensures got.0 got.1 g.chain;
    }

pub expression-returns-clause-sound : goal.expression-returns-clause-sound
expression-returns-clause-sound t c = weaker c.operators.invariant.low c.operators.invariant.sound

pub expression-returns-clause-complete : goal.expression-returns-clause-complete
expression-returns-clause-complete t c = λ e rest d s. heads.goes_none c.in_default.ensures.none (c.operators.invariant.complete e rest d s)

pub operand-returns-in_err-e-in-Some-clause-complete : goal.operand-returns-in_err-e-in-Some-clause-complete
operand-returns-in_err-e-in-Some-clause-complete t c = λ m e rest d s s2.
    let g = heads.signs c.in-Some.ensures.some c.operand_rank.ensures s d in
    heads.failing _ c.from_residual.result c.in_err-e-in-Some.field-0.0 c.from_residual.ensures.1 (c.in_err-e-in-Some.ensures.complete g.a rest g.read g.stops)

pub operand-returns-in_err-e-in-None-clause-complete : goal.operand-returns-in_err-e-in-None-clause-complete
operand-returns-in_err-e-in-None-clause-complete t c = λ m e rest d s s2.
    let g = heads.heads_none c.in-None.ensures.none d in
    heads.failing _ c.from_residual-in_err-e-in-None.result c.in_err-e-in-None.field-0.0 c.from_residual-in_err-e-in-None.ensures.1 (c.in_err-e-in-None.ensures.complete e rest g.0 s2)

pub operand-returns-in_ok-unary-in-Some-clause-sound : goal.operand-returns-in_ok-unary-in-Some-clause-sound
operand-returns-in_ok-unary-in-Some-clause-sound t c = heads.signed_by c.in-Some.ensures.some c.sign_rank.ensures c.operand_rank.ensures c.in_ok-unary-in-Some.ensures c.in_ok-e-in-Some.ensures.sound

pub operand-returns-in_ok-unary-in-Some-clause-complete : goal.operand-returns-in_ok-unary-in-Some-clause-complete
operand-returns-in_ok-unary-in-Some-clause-complete t c = λ m e rest d s s2.
    let l = c.in-Some.ensures.some in
    let g = heads.signs l c.operand_rank.ensures s d in
    let got = c.in_ok-e-in-Some.ensures.complete g.a rest g.read g.stops in
    (heads.unary_as l c.in_ok-unary-in-Some.ensures got.0 g.is, c.sign_rank.ensures ∙ sym g.low, got.1)

pub operand-returns-in_ok-e-in-None-clause-complete : goal.operand-returns-in_ok-e-in-None-clause-complete
operand-returns-in_ok-e-in-None-clause-complete t c = λ m e rest d s s2.
    let g = heads.heads_none c.in-None.ensures.none d in
    let got = c.in_ok-e-in-None.ensures.complete e rest g.0 s2 in
    (got.0, sym g.1, got.1)

pub power-returns-in_err-last-clause-complete : goal.power-returns-in_err-last-clause-complete
power-returns-in_err-last-clause-complete t c = λ e rest d s.
    let b = powers.raises d (omega arith) in
    heads.failing _ c.from_residual.result c.in_err-last.field-0.0 c.from_residual.ensures.1 (c.in_err-last.ensures.complete b.base b.after b.read (powers.stops_tail b.tail s))

pub power-bases-init : goal.power-bases-init
power-bases-init t c = record {
  shorter = c.in_ok-last.ensures.shorter;
  sound = powers.first_factor c.new-bases.ensures c.in_ok-last.ensures.sound;
  complete = λ e rest d s.
      let b = powers.raises d (omega arith) in
      let got = c.in_ok-last.ensures.complete b.base b.after b.read (powers.stops_tail b.tail s) in
      powers.onto_first b c.new-bases.ensures got.0 got.1;
}

pub power-returns-in_err-next-clause-complete : goal.power-returns-in_err-next-clause-complete
power-returns-in_err-next-clause-complete t c = λ e rest d s.
    let a = powers.above c.in-Some.ensures.some s (c.bases.invariant.complete e rest d s) in
    heads.failing _ c.from_residual-in_err-next.result c.in_err-next.field-0.0 c.from_residual-in_err-next.ensures.1 (c.in_err-next.ensures.complete a.x a.after a.read (powers.stops_tail a.tail s))

pub power-bases-preserved : goal.power-bases-preserved
power-bases-preserved t c =
    let f_length = ap length c.in-Some.ensures.some.2 in
    record {
      shorter = omega (arith, c.in_ok-next.ensures.shorter, c.bases.invariant.shorter, f_length);
      sound = powers.factor_by c.in-Some.ensures.some c.in_ok-push.ensures.ok c.bases.invariant.sound c.in_ok-next.ensures.sound;
      complete = λ e rest d s.
          let a = powers.above c.in-Some.ensures.some s (c.bases.invariant.complete e rest d s) in
          let got = c.in_ok-next.ensures.complete a.x a.after a.read (powers.stops_tail a.tail s) in
          powers.onto_next a c.in_ok-push.ensures.ok got.0 got.1;
    }

pub power-returns-clause-sound : goal.power-returns-clause-sound
power-returns-clause-sound t c = powers.raised_by c.in_ok-raised.ensures c.bases.invariant.sound

pub power-returns-clause-complete : goal.power-returns-clause-complete
power-returns-clause-complete t c = λ e rest d s.
    let got = powers.onto_end c.in_default.ensures.none (c.bases.invariant.complete e rest d s) in
    (c.in_ok-raised.ensures ∙ got.0, got.1)

pub primary-returns-in-Digits-clause-sound : goal.primary-returns-in-Digits-clause-sound
primary-returns-in-Digits-clause-sound t c = heads.moved (sym c.in-Some.ensures.cases.0) (heads.digits_by c.in-Digits.is c.number_of.ensures)

pub primary-returns-in_ok-copy-in-None-clause-sound : goal.primary-returns-in_ok-copy-in-None-clause-sound
primary-returns-in_ok-copy-in-None-clause-sound t c = heads.moved (sym c.in-Some.ensures.cases.0) (heads.named_by c.in-Word.is c.in_ok-copy-in-None.ensures c.leaf.ensures)

pub primary-returns-in_ok-copy-in-None-clause-complete : goal.primary-returns-in_ok-copy-in-None-clause-complete
primary-returns-in_ok-copy-in-None-clause-complete t c = λ e rest d s.
    let got = heads.name_only c.in-Word.is c.in_ok-copy-in-None.ensures c.in-None.ensures.none (heads.moved c.in-Some.ensures.cases.0 d) in
    (c.leaf.ensures ∙ got.0, got.1)

pub primary-returns-in-Some-after-clause-sound : goal.primary-returns-in-Some-after-clause-sound
primary-returns-in-Some-after-clause-sound t c =
    heads.if_ok c.opened.result (λ r d. heads.moved (sym c.in-Some.ensures.cases.0) (heads.opened_by c.in-Word.is c.in-Some-after.ensures.some d)) c.opened.ensures.sound

pub primary-returns-in-Some-after-clause-complete : goal.primary-returns-in-Some-after-clause-complete
primary-returns-in-Some-after-clause-complete t c = λ e rest d s.
    c.opened.ensures.complete e rest (heads.opened_only c.in-Word.is c.in-Some-after.ensures.some s (heads.moved c.in-Some.ensures.cases.0 d))

pub opened-returns-in_err-items-in-Some-clause-complete : goal.opened-returns-in_err-items-in-Some-clause-complete
opened-returns-in_err-items-in-Some-clause-complete t c = λ e rest d.
    let g = heads.call_at c.in-Some.ensures d in
    heads.failing _ c.from_residual.result c.in_err-items-in-Some.field-0.0 c.from_residual.ensures.1 (c.in_err-items-in-Some.ensures.complete g.items g.after g.read (heads.closes_subs_by g.closes))

pub opened-returns-in_err-rest-in-Some-clause-complete : goal.opened-returns-in_err-rest-in-Some-clause-complete
opened-returns-in_err-rest-in-Some-clause-complete t c = λ e rest d.
    let g = heads.call_at c.in-Some.ensures d in
    let got = c.in_ok-items-in-Some.ensures.complete g.items g.after g.read (heads.closes_subs_by g.closes) in
    heads.failing _ c.from_residual-in_err-rest-in-Some.result c.in_err-rest-in-Some.field-0.0 c.from_residual-in_err-rest-in-Some.ensures.1
    (c.in_err-rest-in-Some.ensures.complete rest (heads.follows_at got.1 g.closes))

pub opened-returns-in_err-rest-in-None-clause-complete : goal.opened-returns-in_err-rest-in-None-clause-complete
opened-returns-in_err-rest-in-None-clause-complete t c = λ e rest d.
    let g = heads.part_at c.in-None.ensures d in
    let got = c.in_ok-items-in-None.ensures.complete g.items g.after g.read (heads.closes_subs_by g.closes) in
    heads.failing _ c.from_residual-in_err-rest-in-None.result c.in_err-rest-in-None.field-0.0 c.from_residual-in_err-rest-in-None.ensures.1
    (c.in_err-rest-in-None.ensures.complete rest (heads.follows_at got.1 g.closes))

pub opened-returns-in_ok-rest-in-Some-clause-sound : goal.opened-returns-in_ok-rest-in-Some-clause-sound
opened-returns-in_ok-rest-in-Some-clause-sound t c = heads.call_by c.call.ensures (sym c.in-Some.ensures) c.in_ok-items-in-Some.ensures.sound c.in_ok-rest-in-Some.ensures.sound

pub opened-returns-in_ok-rest-in-Some-clause-complete : goal.opened-returns-in_ok-rest-in-Some-clause-complete
opened-returns-in_ok-rest-in-Some-clause-complete t c = λ e rest d.
    let g = heads.call_at c.in-Some.ensures d in
    let got = c.in_ok-items-in-Some.ensures.complete g.items g.after g.read (heads.closes_subs_by g.closes) in
    (c.call.ensures ∙ heads.items_as g got.0, c.in_ok-rest-in-Some.ensures.complete rest (heads.follows_at got.1 g.closes))

pub opened-returns-in_ok-copy-in-None-clause-sound : goal.opened-returns-in_ok-copy-in-None-clause-sound
opened-returns-in_ok-copy-in-None-clause-sound t c = heads.part_by c.part.ensures c.in_ok-copy-in-None.ensures (sym c.in-None.ensures) c.in_ok-items-in-None.ensures.sound c.in_ok-rest-in-None.ensures.sound

pub bracketed-returns-in_err-rest-in-Open-clause-complete : goal.bracketed-returns-in_err-rest-in-Open-clause-complete
bracketed-returns-in_err-rest-in-Open-clause-complete t c = λ token e rest h d.
    let g = heads.at_open (h ∙ ap kind.Sign c.in-Open.is) d in
    let got = c.in_ok-e-in-Open.ensures.complete g.a g.after g.read (heads.stops_close 9 g.closes) in
    heads.failing _ c.from_residual-in_err-rest-in-Open.result c.in_err-rest-in-Open.field-0.0 c.from_residual-in_err-rest-in-Open.ensures.1
    (c.in_err-rest-in-Open.ensures.complete rest (heads.follows_at got.1 g.closes))

pub bracketed-returns-in_err-rest-in-OpenSquare-clause-complete : goal.bracketed-returns-in_err-rest-in-OpenSquare-clause-complete
bracketed-returns-in_err-rest-in-OpenSquare-clause-complete t c = λ token e rest h d.
    let g = heads.at_square (h ∙ ap kind.Sign c.in-OpenSquare.is) d in
    let got = c.in_ok-items-in-OpenSquare.ensures.complete g.items g.after g.read (heads.closes_square_by g.closes) in
    heads.failing _ c.from_residual-in_err-rest-in-OpenSquare.result c.in_err-rest-in-OpenSquare.field-0.0 c.from_residual-in_err-rest-in-OpenSquare.ensures.1
    (c.in_err-rest-in-OpenSquare.ensures.complete rest (heads.follows_at got.1 g.closes))

pub bracketed-returns-in_err-rest-in-OpenSlash-clause-complete : goal.bracketed-returns-in_err-rest-in-OpenSlash-clause-complete
bracketed-returns-in_err-rest-in-OpenSlash-clause-complete t c = λ token e rest h d.
    let g = heads.at_slash (h ∙ ap kind.Sign c.in-OpenSlash.is) d in
    let got = c.in_ok-items-in-OpenSlash.ensures.complete g.items g.after g.read (heads.closes_slash_by g.closes) in
    heads.failing _ c.from_residual-in_err-rest-in-OpenSlash.result c.in_err-rest-in-OpenSlash.field-0.0 c.from_residual-in_err-rest-in-OpenSlash.ensures.1
    (c.in_err-rest-in-OpenSlash.ensures.complete rest (heads.follows_at got.1 g.closes))

pub bracketed-returns-in-True-clause-sound : goal.bracketed-returns-in-True-clause-sound
bracketed-returns-in-True-clause-sound t c = λ token h. heads.true_by (h ∙ ap kind.Sign c.in-True.is) c.leaf.ensures

pub bracketed-returns-in-False-clause-sound : goal.bracketed-returns-in-False-clause-sound
bracketed-returns-in-False-clause-sound t c = λ token h. heads.false_by (h ∙ ap kind.Sign c.in-False.is) c.leaf-in-False.ensures

pub bracketed-returns-in_ok-paren-in-Open-clause-sound : goal.bracketed-returns-in_ok-paren-in-Open-clause-sound
bracketed-returns-in_ok-paren-in-Open-clause-sound t c = λ token h. heads.paren_by (h ∙ ap kind.Sign c.in-Open.is) c.in_ok-paren-in-Open.ensures c.in_ok-e-in-Open.ensures.sound c.in_ok-rest-in-Open.ensures.sound

pub bracketed-returns-in_ok-rest-in-OpenSquare-clause-sound : goal.bracketed-returns-in_ok-rest-in-OpenSquare-clause-sound
bracketed-returns-in_ok-rest-in-OpenSquare-clause-sound t c = λ token h. heads.square_by (h ∙ ap kind.Sign c.in-OpenSquare.is) c.vector.ensures c.in_ok-items-in-OpenSquare.ensures.sound c.in_ok-rest-in-OpenSquare.ensures.sound

pub bracketed-returns-in_ok-rest-in-OpenSlash-clause-sound : goal.bracketed-returns-in_ok-rest-in-OpenSlash-clause-sound
bracketed-returns-in_ok-rest-in-OpenSlash-clause-sound t c = λ token h. heads.slash_by (h ∙ ap kind.Sign c.in-OpenSlash.is) c.vector-in-OpenSlash.ensures c.in_ok-items-in-OpenSlash.ensures.sound c.in_ok-rest-in-OpenSlash.ensures.sound

pub arguments-returns-then-closes_subs-clause-sound : goal.arguments-returns-then-closes_subs-clause-sound
arguments-returns-then-closes_subs-clause-sound t c = heads.no_arguments_by c.new.ensures

pub arguments-returns-then-closes_subs-clause-complete : goal.arguments-returns-then-closes_subs-clause-complete
arguments-returns-then-closes_subs-clause-complete t c = λ es rest d s.
    let got = heads.no_arguments (sym c.closes_subs.ensures ∙ c.if-closes_subs.true) d in
    (c.new.ensures ∙ got.0, got.1)

pub arguments-returns-else-closes_subs-clause-sound : goal.arguments-returns-else-closes_subs-clause-sound
arguments-returns-else-closes_subs-clause-sound t c = heads.if_ok c.all.result (λ r d. grammar.ReadsArguments.some d) c.all.ensures.sound

pub all-returns-in_err-e-clause-complete : goal.all-returns-in_err-e-clause-complete
all-returns-in_err-e-clause-complete t c = λ es rest d s.
    let b = lists.exprs d in
    heads.failing _ c.from_residual.result c.in_err-e.field-0.0 c.from_residual.ensures.1 (c.in_err-e.ensures.complete b.x b.after b.read (heads.stops_more 9 b.others s))

pub all-items-init : goal.all-items-init
all-items-init t c =
    let is = lists.pushed c.new-items.result c.in_ok-e.e c.in_ok-push.ensures c.new-items.ensures in
    record {
      shorter = c.in_ok-e.ensures.shorter;
      sound = lists.first_by is c.in_ok-e.ensures.sound;
      complete = λ es rest d s.
          let b = lists.exprs d in
          let got = c.in_ok-e.ensures.complete b.x b.after b.read (heads.stops_more 9 b.others s) in
          lists.begins_at b is got.0 got.1;
    }

pub all-returns-in_err-e-2-clause-complete : goal.all-returns-in_err-e-2-clause-complete
all-returns-in_err-e-2-clause-complete t c = λ es rest d s.
    let n = lists.next_item c.in-Some.ensures.some (c.items.invariant.complete es rest d s) (heads.no_close rest s) in
    heads.failing _ c.from_residual-in_err-e-2.result c.in_err-e-2.field-0.0 c.from_residual-in_err-e-2.ensures.1 (c.in_err-e-2.ensures.complete n.x n.after n.read (heads.stops_more 9 n.others s))

pub all-items-preserved : goal.all-items-preserved
all-items-preserved t c =
    let f_length = ap length c.in-Some.ensures.some.2 in
    record {
      shorter = omega (arith, c.in_ok-e-2.ensures.shorter, c.items.invariant.shorter, f_length);
      sound = lists.next_by c.in-Some.ensures.some c.in_ok-push-2.ensures c.items.invariant.sound c.in_ok-e-2.ensures.sound;
      complete = λ es rest d s.
          let n = lists.next_item c.in-Some.ensures.some (c.items.invariant.complete es rest d s) (heads.no_close rest s) in
          let got = c.in_ok-e-2.ensures.complete n.x n.after n.read (heads.stops_more 9 n.others s) in
          lists.next_at n c.in_ok-push-2.ensures got.0 got.1;
    }

pub all-returns-clause-complete : goal.all-returns-clause-complete
all-returns-clause-complete t c = λ es rest d s. lists.all_read c.in_default.ensures.none (c.items.invariant.complete es rest d s)

pub subs-returns-in_err-s-clause-complete : goal.subs-returns-in_err-s-clause-complete
subs-returns-in_err-s-clause-complete t c = λ ss rest d s.
    let b = lists.subscripts d in
    heads.failing _ c.from_residual.result c.in_err-s.field-0.0 c.from_residual.ensures.1 (c.in_err-s.ensures.complete b.x b.after b.read (heads.ends_more b.others s))

pub subs-items-init : goal.subs-items-init
subs-items-init t c =
    let is = lists.pushed c.new-items.result c.in_ok-s.s c.in_ok-push.ensures c.new-items.ensures in
    record {
      shorter = c.in_ok-s.ensures.shorter;
      sound = lists.first_sub_by is c.in_ok-s.ensures.sound;
      complete = λ ss rest d s.
          let b = lists.subscripts d in
          let got = c.in_ok-s.ensures.complete b.x b.after b.read (heads.ends_more b.others s) in
          lists.begins_at b is got.0 got.1;
    }

pub subs-returns-in_err-s-2-clause-complete : goal.subs-returns-in_err-s-2-clause-complete
subs-returns-in_err-s-2-clause-complete t c = λ ss rest d s.
    let n = lists.next_item c.in-Some.ensures.some (c.items.invariant.complete ss rest d s) (heads.no_close_subs rest s) in
    heads.failing _ c.from_residual-in_err-s-2.result c.in_err-s-2.field-0.0 c.from_residual-in_err-s-2.ensures.1 (c.in_err-s-2.ensures.complete n.x n.after n.read (heads.ends_more n.others s))

pub subs-items-preserved : goal.subs-items-preserved
subs-items-preserved t c =
    let f_length = ap length c.in-Some.ensures.some.2 in
    record {
      shorter = omega (arith, c.in_ok-s-2.ensures.shorter, c.items.invariant.shorter, f_length);
      sound = lists.next_sub_by c.in-Some.ensures.some c.in_ok-push-2.ensures c.items.invariant.sound c.in_ok-s-2.ensures.sound;
      complete = λ ss rest d s.
          let n = lists.next_item c.in-Some.ensures.some (c.items.invariant.complete ss rest d s) (heads.no_close_subs rest s) in
          let got = c.in_ok-s-2.ensures.complete n.x n.after n.read (heads.ends_more n.others s) in
          lists.next_at n c.in_ok-push-2.ensures got.0 got.1;
    }

pub subs-returns-clause-complete : goal.subs-returns-clause-complete
subs-returns-clause-complete t c = λ ss rest d s. lists.all_read c.in_default.ensures.none (c.items.invariant.complete ss rest d s)

pub maybe-returns-then-ends_part-clause-sound : goal.maybe-returns-then-ends_part-clause-sound
maybe-returns-then-ends_part-clause-sound t c = absent

pub maybe-returns-then-ends_part-clause-complete : goal.maybe-returns-then-ends_part-clause-complete
maybe-returns-then-ends_part-clause-complete t c = λ e rest d s. heads.maybe_absent (sym c.ends_part.ensures ∙ c.if-ends_part.true) d

pub maybe-returns-clause-sound : goal.maybe-returns-clause-sound
maybe-returns-clause-sound t c = present c.in_ok-e.ensures.sound

pub sub-returns-in_err-l-clause-complete : goal.sub-returns-in_err-l-clause-complete
sub-returns-in_err-l-clause-complete t c = λ s rest d h.
    let st = triplets.sub_start d h in
    heads.failing _ c.from_residual.result c.in_err-l.field-0.0 c.from_residual.ensures.1 (c.in_err-l.ensures.complete st.l st.after st.read st.ends)

pub sub-returns-in_err-s-clause-complete : goal.sub-returns-in_err-s-clause-complete
sub-returns-in_err-s-clause-complete t c = λ s rest d h.
    let x = triplets.at_double c.in-Some.ensures.some (triplets.form_at c.in_ok-l.ensures.complete d h) in
    heads.failing _ c.from_residual-in_err-s.result c.in_err-s.field-0.0 c.from_residual-in_err-s.ensures.1 (c.in_err-s.ensures.complete x.e rest x.read x.stops)

pub sub-returns-in-Some-clause-sound : goal.sub-returns-in-Some-clause-sound
sub-returns-in-Some-clause-sound t c = triplets.sub_as c.range.ensures (triplets.doubled_by c.in_ok-l.ensures.sound c.in-Some.ensures.some c.in_ok-s.ensures.sound)

pub sub-returns-in-Some-clause-complete : goal.sub-returns-in-Some-clause-complete
sub-returns-in-Some-clause-complete t c = λ s rest d h.
    let x = triplets.at_double c.in-Some.ensures.some (triplets.form_at c.in_ok-l.ensures.complete d h) in
    let got = c.in_ok-s.ensures.complete x.e rest x.read x.stops in
    (c.range.ensures ∙ triplets.range_as c.in_ok-l.l None got.0 x.is, got.1)

pub sub-returns-in_err-u-in-Some-after-clause-complete : goal.sub-returns-in_err-u-in-Some-after-clause-complete
sub-returns-in_err-u-in-Some-after-clause-complete t c = λ s rest d h.
    let x = triplets.at_single c.in-Some-after.ensures.some (triplets.form_at c.in_ok-l.ensures.complete d h) in
    heads.failing _ c.from_residual-in_err-u-in-Some-after.result c.in_err-u-in-Some-after.field-0.0 c.from_residual-in_err-u-in-Some-after.ensures.1 (c.in_err-u-in-Some-after.ensures.complete x.u x.after x.read x.ends)

pub sub-returns-in_err-s-in-Some-after-2-clause-complete : goal.sub-returns-in_err-s-in-Some-after-2-clause-complete
sub-returns-in_err-s-in-Some-after-2-clause-complete t c = λ s rest d h.
    let x = triplets.at_single c.in-Some-after.ensures.some (triplets.form_at c.in_ok-l.ensures.complete d h) in
    let y = triplets.at_stride c.in-Some-after-2.ensures.some (triplets.stride_at c.in_ok-u-in-Some-after.ensures.complete x) in
    heads.failing _ c.from_residual-in_err-s-in-Some-after-2.result c.in_err-s-in-Some-after-2.field-0.0 c.from_residual-in_err-s-in-Some-after-2.ensures.1 (c.in_err-s-in-Some-after-2.ensures.complete y.e rest y.read y.stops)

pub sub-returns-in_ok-s-in-Some-after-2-clause-sound : goal.sub-returns-in_ok-s-in-Some-after-2-clause-sound
sub-returns-in_ok-s-in-Some-after-2-clause-sound t c = triplets.sub_as c.range-in-Some-after-2.ensures
    (triplets.strided_by c.in_ok-l.ensures.sound c.in-Some-after.ensures.some c.in_ok-u-in-Some-after.ensures.sound c.in-Some-after-2.ensures.some c.in_ok-s-in-Some-after-2.ensures.sound)

pub sub-returns-in_ok-s-in-Some-after-2-clause-complete : goal.sub-returns-in_ok-s-in-Some-after-2-clause-complete
sub-returns-in_ok-s-in-Some-after-2-clause-complete t c = λ s rest d h.
    let x = triplets.at_single c.in-Some-after.ensures.some (triplets.form_at c.in_ok-l.ensures.complete d h) in
    let y = triplets.at_stride c.in-Some-after-2.ensures.some (triplets.stride_at c.in_ok-u-in-Some-after.ensures.complete x) in
    let got = c.in_ok-s-in-Some-after-2.ensures.complete y.e rest y.read y.stops in
    (c.range-in-Some-after-2.ensures ∙ triplets.range_as c.in_ok-l.l c.in_ok-u-in-Some-after.u got.0 y.is, got.1)

pub sub-returns-in-None-after-clause-sound : goal.sub-returns-in-None-after-clause-sound
sub-returns-in-None-after-clause-sound t c = triplets.sub_as c.range-in-None-after.ensures
    (triplets.range_by c.in_ok-l.ensures.sound c.in-Some-after.ensures.some c.in_ok-u-in-Some-after.ensures.sound)

pub sub-returns-in-None-after-clause-complete : goal.sub-returns-in-None-after-clause-complete
sub-returns-in-None-after-clause-complete t c = λ s rest d h.
    let x = triplets.at_single c.in-Some-after.ensures.some (triplets.form_at c.in_ok-l.ensures.complete d h) in
    let got = triplets.at_end c.in-None-after.ensures.none (triplets.stride_at c.in_ok-u-in-Some-after.ensures.complete x) in
    (c.range-in-None-after.ensures ∙ got.0, got.1)

pub sub-returns-in-Some-l-clause-sound : goal.sub-returns-in-Some-l-clause-sound
sub-returns-in-Some-l-clause-sound t c = triplets.sub_as c.one.ensures (triplets.one_by c.in-Some-l.is c.in_ok-l.ensures.sound)

pub sub-returns-in-Some-l-clause-complete : goal.sub-returns-in-Some-l-clause-complete
sub-returns-in-Some-l-clause-complete t c = λ s rest d h.
    let got = triplets.at_plain c.in-Some-l.is c.in_default.ensures.none c.in-None.ensures.none (triplets.form_at c.in_ok-l.ensures.complete d h) in
    (c.one.ensures ∙ got.0, got.1)

pub sub-returns-in-None-l-clause-complete : goal.sub-returns-in-None-l-clause-complete
sub-returns-in-None-l-clause-complete t c = λ s rest d h. triplets.at_none c.in-None-l.is c.in_default.ensures.none c.in-None.ensures.none (triplets.form_at c.in_ok-l.ensures.complete d h)
