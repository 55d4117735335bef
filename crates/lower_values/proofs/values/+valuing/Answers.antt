use Rattle.std.proofs.Common.{refl, sym, ap, ◌∙◌, subst, ◌+◌, List, [], ◌∷◌, drop, None, arith, add-one}
use Rattle.std.proofs.Math.ListN.{drop_of_length-le}
use Rattle.ws_tree.specs.declared.expr.Expr.{Expr}
use Rattle.ws_tree.specs.declared.expr.Expr.TheVariants.{Paren, Unary, Binary}
use Rattle.ws_types.specs.Constants.{constancy, value_of}
use Rattle.ws_types.specs.Operations.{is_inquiry}
use Rattle.ws_types.proofs.Appended.{front}
use Rattle.hlfir_ops.specs.declared.what.BoundWord.TheVariants.{Lower, Upper}
use Rattle.hlfir_ops.specs.declared.what.ValueBinary.{ValueBinary}
use Rattle.lower_values.specs.declared.operand.Subscript.TheVariants.{Range}
use Rattle.lower_values.specs.Lowerings.{done, ◌>>=◌, Appends}
use Rattle.lower_values.specs.Operations.{binary_of, binary_operation, in_parentheses, unary_operation, call_on, vector}
use Rattle.lower_values.specs.References.{or_nothing, inquiry, bound, loaded, named, designated, subscript_of}
use Rattle.lower_values.specs.Values.{value, folded, call_by, subscript}
use Rattle.lower_values.specs.Lists as lists
use Rattle.lower_values.specs.Folding.{rest_of, signed, joined, with_right}
use Rattle.lower_values.proofs.Appended.{appends-by, appends-as, appends-done, appends-next, appends-map, if-map, if-in}
use Rattle.lower_values.proofs.Forms.{value-part, value-call, value-vector, value-paren, value-unary, value-binary, constancy-paren, constancy-unary, constancy-binary, subscript-one, subscript-range}
use Rattle.lower_values.proofs.Listed.{values-none, values-more, nested-none, nested-more, subscripts-none, subscripts-more, part-all}
use Rattle.lower_values.proofs.Reaching.{reaches-by, reaches-finish, reaches-on, signed-none, joined-none, folded-none}
use Rattle.lower_values.proofs.Turns.{makes-next, makes-done}
use Rattle.lower_values.specs.Scopes.{scope_at}
use Rattle.hlfir_ops.specs.Built.{taken}
use Rattle.lower_values.proofs.values.+valuing.Goals as goal

pub binary-returns-in_ok-z-in-None : goal.binary-returns-in_ok-z-in-None
binary-returns-in_ok-z-in-None t c =
    let names = c.args.names.now in
    let op = c.args.op in
    let b = c.args.b.now in (
      sym c.in-None.ensures,
      appends-next names (rest_of c.args.a) (with_right op (value b)) c.args.build.now c.finished.new.build c.binary_operation.new.build c.in_ok-x-in-None.x c.in_ok-z-in-None.z (c.in_ok-x-in-None.ensures names)
          (appends-next names (value b) (binary_operation (binary_of op) c.in_ok-x-in-None.x) c.finished.new.build c.value.new.build c.binary_operation.new.build c.in_ok-y-in-None.y c.in_ok-z-in-None.z c.in_ok-y-in-None.ensures
          (appends-by (ap (λ o. binary_operation o c.in_ok-x-in-None.x c.in_ok-y-in-None.y) c.binary_of.ensures) refl (c.in_ok-z-in-None.ensures names))),
    )

pub bound_or-returns-in-None : goal.bound_or-returns-in-None
bound_or-returns-in-None t c =
    if-in c.args.names.now c.bound.result c.args.build.now c.bound.new.build (ap (λ o. lists.given_or (bound c.args.word c.args.dim c.args.array) o) (sym c.in-None.is)) c.bound.ensures

pub stride-returns-in-None : goal.stride-returns-in-None
stride-returns-in-None t c = if-in c.args.names.now c.number_constant.result c.args.build.now c.number_constant.new.build (ap lists.stride (sym c.in-None.is)) c.number_constant.ensures

pub called-returns-in_ok-xs-in-None : goal.called-returns-in_ok-xs-in-None
called-returns-in_ok-xs-in-None t c =
    let names = c.args.names.now in
    let w = c.args.word in
    let es = c.args.es.now in
    let nest = λ (op : ValueBinary). lists.nested op None es in
    let all = lists.values es >>= call_on w in
    let spelled =
    ap (λ b. call_by None b nest (inquiry w es) all) (sym c.if-is_inquiry.false ∙ c.is_inquiry.ensures) ∙ ap (λ o. call_by o (is_inquiry w) nest (inquiry w es) all) c.in-None.ensures in
    if-map c.call_on.result (λ x h.
    appends-by spelled refl
    (appends-next names (lists.values es) (call_on w) c.args.build.now c.values.new.build c.call_on.new.build c.in_ok-xs-in-None.xs x c.in_ok-xs-in-None.ensures (appends-by (ap (call_on w) c.as_slice.ensures) refl (h names)))) c.call_on.ensures

pub nested-each-preserved : goal.nested-each-preserved
nested-each-preserved t c = λ new x h.
    let names = c.args.names.now in
    let es = c.args.es.now in
    let i = c.each.e-index in
    let op = c.args.op in
    let P : List Expr → Type 0 = λ l. Appends names (lists.nested op c.each.before l) c.each.build new x in
    c.each.invariant new x (subst P (sym (front es i c.e-item.result c.each-test.true c.e-item.is)) (nested-more names op c.each.before c.e-item.result (drop (i + 1) es) c.in_ok-y.ensures (c.in_ok-joined.ensures names) new x h))

pub nested-returns-in-Some : goal.nested-returns-in-Some
nested-returns-in-Some t c =
    let names = c.args.names.now in
    let none = ap (lists.nested c.args.op c.each.before) (drop_of_length-le c.args.es.now (omega arith)) ∙ nested-none c.args.op c.each.before in
    c.each.invariant c.each.build c.in-Some.x (appends-by (sym none) (ap or_nothing c.in-Some.is) (appends-done names c.each.build (or_nothing c.each.before)))

pub nested-returns-in-None : goal.nested-returns-in-None
nested-returns-in-None t c =
    let names = c.args.names.now in
    let none = ap (lists.nested c.args.op c.each.before) (drop_of_length-le c.args.es.now (omega arith)) ∙ nested-none c.args.op c.each.before in
    c.each.invariant c.each.build _ (appends-by (sym none) (ap or_nothing c.in-None.is) (appends-done names c.each.build (or_nothing c.each.before)))

pub part-returns : goal.part-returns
part-returns t c =
    let names = c.args.names.now in
    if-map c.designated.result (λ x h.
    part-all names c.args.name.now c.args.subs.now c.in_ok-array.array c.in_ok-subscripts.subscripts c.in_ok-array.ensures c.in_ok-subscripts.ensures (appends-by (ap (designated c.in_ok-array.array) c.as_slice.ensures) refl (h names))) c.designated.ensures

pub subscript-returns-in_ok-x-in-One : goal.subscript-returns-in_ok-x-in-One
subscript-returns-in_ok-x-in-One t c =
    let names = c.args.names.now in
    appends-by (sym (subscript-one c.args.array c.args.dim c.in-One.e) ∙ ap (subscript c.args.array c.args.dim) (sym c.in-One.is)) (sym c.subscript_of.ensures)
    (appends-map names (value c.in-One.e) subscript_of c.args.build.now c.value.new.build c.in_ok-x-in-One.x c.in_ok-x-in-One.ensures)

pub subscript-returns-in_ok-z-in-Range : goal.subscript-returns-in_ok-z-in-Range
subscript-returns-in_ok-z-in-Range t c =
    let names = c.args.names.now in
    let r = c.args.array in
    let dim = c.args.dim in
    let x = c.in_ok-x-in-Range.x in
    let y = c.in_ok-y-in-Range.y in
    let z = c.in_ok-z-in-Range.z in
    let made = Range x.value y.value z.value in
    appends-by (sym (subscript-range r dim c.in-Range.l c.in-Range.u c.in-Range.s) ∙ ap (subscript r dim) (sym c.in-Range.is)) refl
    (appends-next names (lists.given_or (bound Lower dim r) c.in-Range.l) (λ u. lists.given_or (bound Upper dim r) c.in-Range.u >>= (λ v. lists.stride c.in-Range.s >>= (λ w. done (Range u.value v.value w.value)))) c.args.build.now c.bound_or.new.build c.stride.new.build x made c.in_ok-x-in-Range.ensures
    (appends-next names (lists.given_or (bound Upper dim r) c.in-Range.u) (λ v. lists.stride c.in-Range.s >>= (λ w. done (Range x.value v.value w.value))) c.bound_or.new.build c.bound_or-in-Range.new.build c.stride.new.build y made c.in_ok-y-in-Range.ensures
    (appends-map names (lists.stride c.in-Range.s) (λ w. Range x.value y.value w.value) c.bound_or-in-Range.new.build c.stride.new.build z c.in_ok-z-in-Range.ensures)))

pub subscripts-each-preserved : goal.subscripts-each-preserved
subscripts-each-preserved t c =
    let names = c.args.names.now in
    let r = c.args.array in
    let ss = c.args.subs.now in
    let i = c.each.i in
    let s = c.index-subs-i.result in
    makes-next names (λ k. lists.subscripts r (k + 1)) ss i s c.each.subscripts (c.in_ok-s.s ∷ []) (front ss i s c.each-test.true c.index-subs-i.is) c.in_ok-push.ensures.ok c.each.invariant
    (subscripts-more names r (i + 1) (i + 1 + 1) s (drop (i + 1) ss) (add-one (i + 1)) (appends-by (ap (λ d. subscript r d s) c.in_ok-dim.ensures) refl c.in_ok-s.ensures))

pub subscripts-returns : goal.subscripts-returns
subscripts-returns t c = makes-done c.args.names.now (λ k. lists.subscripts c.args.array (k + 1)) c.args.subs.now c.each.i c.each.subscripts (omega arith) (subscripts-none c.args.array (c.each.i + 1)) c.each.invariant

pub value-returns : goal.value-returns
value-returns t c =
    let names = c.args.names.now in
    if-map c.finished.result (λ x h. reaches-finish names c.args.e.now c.args.build.now c.walk.new.build c.in_ok-reached.reached c.in_ok-reached.ensures (h names)) c.finished.ensures

pub values-each-preserved : goal.values-each-preserved
values-each-preserved t c =
    let names = c.args.names.now in
    let es = c.args.es.now in
    let i = c.each.e-index in
    let e = c.e-item.result in
    makes-next names (λ _. lists.values) es i e c.each.xs (c.in_ok-x.x ∷ []) (front es i e c.each-test.true c.e-item.is) c.in_ok-push.ensures.ok c.each.invariant (values-more names e (drop (i + 1) es) c.in_ok-x.ensures)

pub values-returns : goal.values-returns
values-returns t c = makes-done c.args.names.now (λ _. lists.values) c.args.es.now c.each.e-index c.each.xs (omega arith) values-none c.each.invariant

pub walk-returns-in-Number : goal.walk-returns-in-Number
walk-returns-in-Number t c =
    let names = c.args.names.now in
    if-map c.number.result (λ r h. reaches-by names c.args.build.now c.number.new.build r (ap (constancy names.constants) (sym c.in-Number.is)) (ap value (sym c.in-Number.is)) (h names)) c.number.ensures

pub walk-returns-in_ok-named-in-None : goal.walk-returns-in_ok-named-in-None
walk-returns-in_ok-named-in-None t c =
    let names = c.args.names.now in
    let x = c.in-Named.name in
    let e = c.args.e.now in
    let old = c.args.build.now in
    let no = sym (c.in-None.ensures ∙ ap value_of (c.evaluate.ensures ∙ ap (λ cs. constancy cs e) c.as_slice.ensures)) in
    let whole = folded-none e (named x) (scope_at names old.around) (taken old) no in
    (no, appends-as names (named x) (value e) old c.named.new.build _ (sym whole ∙ ap (λ d. folded d (named x) (scope_at names old.around) (taken old)) c.in-Named.is ∙ ap (λ d. value d (scope_at names old.around) (taken old)) (sym c.in-Named.is)) c.in_ok-named-in-None.ensures)

pub walk-returns-in_ok-loaded-in-Part : goal.walk-returns-in_ok-loaded-in-Part
walk-returns-in_ok-loaded-in-Part t c =
    let names = c.args.names.now in
    let x = c.in-Part.name in
    let ss = c.in-Part.subs in (
      ap (λ d. value_of (constancy names.constants d)) c.in-Part.is,
      appends-by (sym (value-part x ss) ∙ ap value (sym c.in-Part.is)) refl
          (appends-next names (lists.part x ss) loaded c.args.build.now c.part.new.build c.loaded.new.build c.in_ok-place-in-Part.place _ (appends-by (ap (lists.part x) c.as_slice-in-Part.ensures) refl c.in_ok-place-in-Part.ensures) (c.in_ok-loaded-in-Part.ensures names)),
    )

pub walk-returns-in_ok-x-in-Call : goal.walk-returns-in_ok-x-in-Call
walk-returns-in_ok-x-in-Call t c =
    let names = c.args.names.now in (
      ap (λ d. value_of (constancy names.constants d)) c.in-Call.is,
      appends-by (ap (lists.called c.in-Call.word) c.as_slice-in-Call.ensures ∙ (sym (value-call c.in-Call.word c.in-Call.es) ∙ ap value (sym c.in-Call.is))) refl c.in_ok-x-in-Call.ensures,
    )

pub walk-returns-in_ok-vector-in-Vector : goal.walk-returns-in_ok-vector-in-Vector
walk-returns-in_ok-vector-in-Vector t c =
    let names = c.args.names.now in
    let es = c.in-Vector.es in (
      ap (λ d. value_of (constancy names.constants d)) c.in-Vector.is,
      appends-by (sym (value-vector es) ∙ ap value (sym c.in-Vector.is)) refl
          (appends-next names (lists.values es) vector c.args.build.now c.values.new.build c.vector.new.build c.in_ok-xs-in-Vector.xs _ (appends-by (ap lists.values c.as_slice-in-Vector.ensures) refl c.in_ok-xs-in-Vector.ensures)
          (appends-by (ap vector c.as_slice-in-Vector-2.ensures) refl (c.in_ok-vector-in-Vector.ensures names))),
    )

pub walk-returns-in_ok-x-in-Paren : goal.walk-returns-in_ok-x-in-Paren
walk-returns-in_ok-x-in-Paren t c =
    let names = c.args.names.now in
    let e = c.get.result.now in
    let is = c.in-Paren.is ∙ ap Paren (sym c.get.ensures) in
    let old = c.args.build.now in
    if-map c.parenthesized.result (λ r h.
    reaches-by names old c.parenthesized.new.build r (ap (constancy names.constants) (sym is)) (ap value (sym is)) (reaches-on names e (Paren e) (λ d. d) in_parentheses old c.walk.new.build c.parenthesized.new.build c.in_ok-x-in-Paren.x r (λ d none. none) (constancy-paren names.constants e) (value-paren e) c.in_ok-x-in-Paren.ensures (h names))) c.parenthesized.ensures

pub walk-returns-in_ok-x-in-Unary : goal.walk-returns-in_ok-x-in-Unary
walk-returns-in_ok-x-in-Unary t c =
    let names = c.args.names.now in
    let op = c.in-Unary.op in
    let e = c.get-in-Unary.result.now in
    let is = c.in-Unary.is ∙ ap (Unary op) (sym c.get-in-Unary.ensures) in
    let old = c.args.build.now in
    if-map c.unary.result (λ r h.
    reaches-by names old c.unary.new.build r (ap (constancy names.constants) (sym is)) (ap value (sym is)) (reaches-on names e (Unary op e) (signed op) (unary_operation op) old c.walk-in-Unary.new.build c.unary.new.build c.in_ok-x-in-Unary.x r (signed-none op) (constancy-unary names.constants op e) (value-unary op e) c.in_ok-x-in-Unary.ensures (h names))) c.unary.ensures

pub walk-returns-in_ok-x-in-Binary : goal.walk-returns-in_ok-x-in-Binary
walk-returns-in_ok-x-in-Binary t c =
    let names = c.args.names.now in
    let op = c.in-Binary.op in
    let a = c.get-in-Binary.result.now in
    let b = c.get-in-Binary-2.result.now in
    let is = c.in-Binary.is ∙ (ap (λ x. Binary op x c.in-Binary.b) (sym c.get-in-Binary.ensures) ∙ ap (Binary op a) (sym c.get-in-Binary-2.ensures)) in
    let right = constancy names.constants b in
    let old = c.args.build.now in
    if-map c.binary.result (λ r h.
    reaches-by names old c.binary.new.build r (ap (constancy names.constants) (sym is)) (ap value (sym is))
    (reaches-on names a (Binary op a b) (λ d. joined op d right) (with_right op (value b)) old c.walk-in-Binary.new.build c.binary.new.build c.in_ok-x-in-Binary.x r (joined-none op right) (constancy-binary names.constants op a b) (value-binary op a b) c.in_ok-x-in-Binary.ensures h)) c.binary.ensures
