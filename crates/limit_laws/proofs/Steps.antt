-- One form of expression after another: from the costs of its parts, those of the whole.
use Rattle.std.proofs.Common.{◌≡◌, refl, ap, ℕ, ◌+◌, ◌*◌, nat_le, Bool, true, false, List, [], ◌∷◌, ◌++◌, length, Option, Some, None, arith}
use Rattle.std.specs.List.{flat_map}
use Rattle.std.proofs.lemmas.List.{length-append}
use Rattle.ws_base.specs.declared.name.Name.{Name}
use Rattle.ws_base.specs.declared.op.CallWord.{CallWord}
use Rattle.ws_base.specs.declared.op.UnOp.{UnOp}
use Rattle.ws_types.specs.Operations as types
use Rattle.ws_counts.specs.declared.tally.Piece.{Piece}
use Rattle.ws_counts.specs.declared.tally.Piece.TheVariants as piece
use Rattle.ws_counts.specs.Counts.{parts_in, reductions_in, wholes_in}
use Rattle.ws_counts.specs.Pieces.{call_pieces, subscript_pieces}
use Rattle.hlfir_ops.specs.declared.what.ValueBinary.{ValueBinary}
use Rattle.hlfir_ops.specs.Numbers.{numbers_of}
use Rattle.hlfir_ops.specs.RulesValues.{Value, is_whole, value_at}
use Rattle.hlfir_ops.specs.RulesLimits.{item_limit}
use Rattle.hlfir_ops.specs.declared.op.ValueId.{ValueId}
use Rattle.lower_values.specs.declared.operand.Operand.{Operand}
use Rattle.lower_values.specs.declared.operand.Subscript.{Subscript}
use Rattle.lower_values.specs.declared.operand.Subscript.TheVariants.{Range}
use Rattle.lower_values.specs.Scopes.{Scope}
use Rattle.lower_values.specs.Lowerings.{Lowering, Lowered, done, ◌>>=◌ as ◌then◌}
use Rattle.lower_values.specs.Operations.{values_of, binary_operation, in_parentheses, unary_operation, joined, call_on, vector}
use Rattle.lower_values.specs.References.{or_nothing, reference, loaded, subscript_of, sub_values, designated}
use Rattle.lower_values.specs.Values.{part_of}
use Rattle.limit_laws.proofs.Costs.{total, size, wholes, wholes_among, one_if, Costs, slack, IsProper, Priced}
use Rattle.limit_laws.proofs.Costing.{spends-done, spends-then, spends-both}
use Rattle.limit_laws.proofs.Operations.{priced-weaker, priced-costs, priced-binary, priced-unary, priced-parentheses, priced-joined, slack-few}
use Rattle.limit_laws.proofs.References.{spends-reference, priced-then, priced-loaded, priced-designated}
use Rattle.limit_laws.proofs.Pieces.{parts-append, reductions-append, wholes-append, call-counts, subscript-counts}
use Rattle.limit_laws.proofs.Calls.{priced-call_on, priced-vector}
use Rattle.limit_laws.proofs.Bounded.{Valued, Listed, Subscripted, Apart, BeforeIsProper, wholes_among-append, one_whole, subscript-one, exactly, Headed}

module _ (vs : List Value) (s : Scope) (n : ℕ) where
  pub paren-step : (q : Lowering Operand) (ps : List Piece) → Valued vs (q s n) ps → Valued vs ((q then in_parentheses) s n) ps
  paren-step q ps h =
      let x = (q s n).made in
      let m = n + numbers_of (q s n).ops in
      priced-weaker vs _ _ _ _ (8 + 27 * parts_in ps) (reductions_in ps) (wholes_in ps)
      (priced-then vs q in_parentheses s n (total size (q s n).ops) (reductions_in ps) (wholes_in ps) (slack x.kind) 0 0 (exactly vs (q s n) _ _ _ h) (priced-parentheses vs x s m h.proper))
      (omega (arith, h.size)) (omega arith) (omega arith)

  pub unary-step : (op : UnOp) (q : Lowering Operand) (ps : List Piece) → Valued vs (q s n) ps → Valued vs ((q then unary_operation op) s n) (piece.Part ∷ ps)
  unary-step op q ps h =
      let x = (q s n).made in
      let m = n + numbers_of (q s n).ops in
      priced-weaker vs _ _ _ _ (8 + 27 * parts_in (piece.Part ∷ ps)) (reductions_in (piece.Part ∷ ps)) (wholes_in (piece.Part ∷ ps))
      (priced-then vs q (unary_operation op) s n (total size (q s n).ops) (reductions_in ps) (wholes_in ps) 7 0 0 (exactly vs (q s n) _ _ _ h) (priced-unary vs op x s m h.proper))
      (omega (arith, h.size)) (omega arith) (omega arith)

  pub binary-step : (op : ValueBinary) (a b : Lowering Operand) (ps qs : List Piece) → Valued vs (a s n) ps → Valued vs (b s (n + numbers_of (a s n).ops)) qs →
      Valued vs ((a then (λ x. b then (λ y. binary_operation op x y))) s n) (piece.Part ∷ (ps ++ qs))
  binary-step op a b ps qs h g =
      let m = n + numbers_of (a s n).ops in
      let x = (a s n).made in
      let y = (b s m).made in
      let k = m + numbers_of (b s m).ops in
      priced-weaker vs _ _ _ _ (8 + 27 * parts_in (piece.Part ∷ (ps ++ qs))) (reductions_in (piece.Part ∷ (ps ++ qs))) (wholes_in (piece.Part ∷ (ps ++ qs)))
      (priced-then vs a (λ z. b then (λ u. binary_operation op z u)) s n (total size (a s n).ops) (reductions_in ps) (wholes_in ps) (total size (b s m).ops + 10) (reductions_in qs + 0) (wholes_in qs + 0) (exactly vs (a s n) _ _ _ h)
      (priced-then vs b (λ u. binary_operation op x u) s m (total size (b s m).ops) (reductions_in qs) (wholes_in qs) 10 0 0 (exactly vs (b s m) _ _ _ g) (priced-binary vs op x y s k)))
      (omega (arith, h.size, g.size, parts-append ps qs)) (omega (arith, reductions-append ps qs)) (omega (arith, wholes-append ps qs))

  -- ---- lists

  pub headed-none : let none : Lowering (List ValueId) = done [] in Headed vs (none s n) 0 []
  unfolding done
  headed-none = record { light = omega arith; size = omega arith; reductions = omega arith; wholes = omega arith }

  -- one list of values after another
  pub headed-step : (q r : Lowering (List ValueId)) (y z : ℕ) (ps qs : List Piece) → Headed vs (q s n) y ps → Headed vs (r s (n + numbers_of (q s n).ops)) z qs → Headed vs ((q then (λ us. r then (λ ws. done (us ++ ws)))) s n) (y + z) (ps ++ qs)
  unfolding ◌then◌ done
  headed-step q r y z ps qs h g =
      let m = n + numbers_of (q s n).ops in
      let c = spends-both vs q r (λ us ws. us ++ ws) s n (total size (q s n).ops) (reductions_in ps) (wholes_in ps) (total size (r s m).ops) (reductions_in qs) (wholes_in qs)
      (record { light = h.light; size = omega arith; reductions = h.reductions; wholes = h.wholes }) (record { light = g.light; size = omega arith; reductions = g.reductions; wholes = g.wholes }) in
      record {
        light = c.light;
        size = omega (arith, c.size, h.size, g.size, length-append (q s n).made (r s m).made, parts-append ps qs);
        reductions = omega (arith, c.reductions, reductions-append ps qs);
        wholes = omega (arith, c.wholes, wholes-append ps qs);
      }

  pub listed-none : Listed vs (done [] s n) []
  unfolding done
  listed-none = record { light = omega arith; size = omega arith; reductions = omega arith; wholes = omega arith }

  pub listed-step : (q : Lowering Operand) (rest : Lowering (List Operand)) (ps qs : List Piece) → Valued vs (q s n) ps → Listed vs (rest s (n + numbers_of (q s n).ops)) qs →
      Listed vs ((q then (λ x. rest then (λ xs. done (x ∷ xs)))) s n) (piece.Part ∷ (ps ++ qs))
  unfolding ◌then◌ done
  listed-step q rest ps qs h g =
      let c = spends-both vs q rest (λ y ys. y ∷ ys) s n (total size (q s n).ops) (reductions_in ps) (wholes_in ps) (total size (rest s (n + numbers_of (q s n).ops)).ops) (reductions_in qs) (wholes_in qs) (exactly vs (q s n) _ _ _ h)
      (record { light = g.light; size = omega arith; reductions = g.reductions; wholes = g.wholes }) in
      record { light = c.light; size = omega (arith, c.size, h.size, g.size, parts-append ps qs); reductions = omega (arith, c.reductions, reductions-append ps qs); wholes = omega (arith, c.wholes, wholes-append ps qs) }

  listed-costs : (r : Lowered (List Operand)) (ps : List Piece) → Listed vs r ps → Costs vs r.ops (total size r.ops) (reductions_in ps) (wholes_in ps)
  listed-costs r ps g = record { light = g.light; size = omega arith; reductions = g.reductions; wholes = g.wholes }

  pub vector-step : (rest : Lowering (List Operand)) (ps : List Piece) → Listed vs (rest s n) ps → nat_le (length (values_of (rest s n).made)) item_limit ≡ true → Valued vs ((rest then vector) s n) ps
  vector-step rest ps g few =
      let xs = (rest s n).made in
      let m = n + numbers_of (rest s n).ops in
      priced-weaker vs _ _ _ _ (8 + 27 * parts_in ps) (reductions_in ps) (wholes_in ps)
      (priced-then vs rest vector s n (total size (rest s n).ops) (reductions_in ps) (wholes_in ps) (1 + length xs) 0 0 (listed-costs (rest s n) ps g) (priced-vector vs xs s m few))
      (omega (arith, g.size)) (omega arith) (omega arith)

  pub call-step : (w : CallWord) (rest : Lowering (List Operand)) (ps : List Piece) → Listed vs (rest s n) ps → Valued vs ((rest then call_on w) s n) (call_pieces w ++ ps)
  call-step w rest ps g =
      let xs = (rest s n).made in
      let m = n + numbers_of (rest s n).ops in
      let counts = call-counts w in
      priced-weaker vs _ _ _ _ (8 + 27 * parts_in (call_pieces w ++ ps)) (reductions_in (call_pieces w ++ ps)) (wholes_in (call_pieces w ++ ps))
      (priced-then vs rest (call_on w) s n (total size (rest s n).ops) (reductions_in ps) (wholes_in ps) (4 + 3 * length xs) (one_if (types.is_reduction w)) 0 (listed-costs (rest s n) ps g) (priced-call_on vs w xs s m))
      (omega (arith, g.size, parts-append (call_pieces w) ps, counts.parts)) (omega (arith, reductions-append (call_pieces w) ps, counts.reductions)) (omega (arith, wholes-append (call_pieces w) ps, counts.wholes))

  -- MIN and MAX
  pub nested-none : (before : Option Operand) → BeforeIsProper before → Priced vs (done (or_nothing before) s n) 2 0 0
  unfolding done
  nested-none None h = record { light = omega arith; size = omega arith; reductions = omega arith; wholes = omega arith; proper = tt }
  nested-none (Some x) h = record { light = omega arith; size = omega (arith, slack-few vs x.kind); reductions = omega arith; wholes = omega arith; proper = h }

  pub nested-step : (op : ValueBinary) (before : Option Operand) (q : Lowering Operand) (rest : Operand → Lowering Operand) (ps qs : List Piece) → Valued vs (q s n) ps →
      ((z : Operand) (k : ℕ) → IsProper z.kind → z ≡ (joined op before (q s n).made s (n + numbers_of (q s n).ops)).made → k ≡ (n + numbers_of (q s n).ops) + numbers_of (joined op before (q s n).made s (n + numbers_of (q s n).ops)).ops →
      Priced vs (rest z s k) (2 + 27 * parts_in qs) (reductions_in qs) (wholes_in qs)) →
      Priced vs ((q then (λ y. joined op before y then (λ z. rest z))) s n) (2 + 27 * parts_in (piece.Part ∷ (ps ++ qs))) (reductions_in (piece.Part ∷ (ps ++ qs))) (wholes_in (piece.Part ∷ (ps ++ qs)))
  nested-step op before q rest ps qs h g =
      let m = n + numbers_of (q s n).ops in
      let y = (q s n).made in
      let j = priced-joined vs op before y s m h.proper in
      let z = (joined op before y s m).made in
      let k = m + numbers_of (joined op before y s m).ops in
      priced-weaker vs _ _ _ _ (2 + 27 * parts_in (piece.Part ∷ (ps ++ qs))) (reductions_in (piece.Part ∷ (ps ++ qs))) (wholes_in (piece.Part ∷ (ps ++ qs)))
      (priced-then vs q (λ u. joined op before u then (λ v. rest v)) s n (total size (q s n).ops) (reductions_in ps) (wholes_in ps) (10 + (2 + 27 * parts_in qs)) (0 + reductions_in qs) (0 + wholes_in qs) (exactly vs (q s n) _ _ _ h)
      (priced-then vs (joined op before y) (λ v. rest v) s m 10 0 0 (2 + 27 * parts_in qs) (reductions_in qs) (wholes_in qs) (priced-costs vs _ _ _ _ j) (g z k j.proper refl refl)))
      (omega (arith, h.size, parts-append ps qs)) (omega (arith, reductions-append ps qs)) (omega (arith, wholes-append ps qs))

  -- ---- subscripts

  pub one-step : (mask whole : Bool) (q : Lowering Operand) (ps : List Piece) → Valued vs (q s n) ps → (is_whole (value_at vs (q s n).made.value) ≡ true → whole ≡ true) →
      Subscripted vs ((q then (λ x. done (subscript_of x))) s n) (sub_values ((q then (λ x. done (subscript_of x))) s n).made) (subscript_pieces mask whole ++ ps)
  unfolding ◌then◌ done
  one-step mask whole q ps h known =
      let m = n + numbers_of (q s n).ops in
      let x = (q s n).made in
      let c = spends-then vs q (λ y. done (subscript_of y)) s n (total size (q s n).ops) (reductions_in ps) (wholes_in ps) 0 0 0 (exactly vs (q s n) _ _ _ h) (spends-done vs (subscript_of x) s m) in
      let counts = subscript-counts mask whole in
      let one = subscript-one vs x in
      record {
        light = c.light;
        size = omega (arith, c.size, h.size, one.0, parts-append (subscript_pieces mask whole) ps, counts.parts);
        reductions = omega (arith, c.reductions, reductions-append (subscript_pieces mask whole) ps, counts.reductions);
        wholes = omega (arith, c.wholes, one.1, wholes-append (subscript_pieces mask whole) ps, counts.wholes, one_whole (is_whole (value_at vs x.value)) whole known);
      }

  pub range-step : (a b c : Lowering Operand) (ps qs rs : List Piece) → Apart vs (a s n) ps → Apart vs (b s (n + numbers_of (a s n).ops)) qs → Apart vs (c s (n + numbers_of (a s n).ops + numbers_of (b s (n + numbers_of (a s n).ops)).ops)) rs →
      Subscripted vs ((a then (λ x. b then (λ y. c then (λ z. done (Range x.value y.value z.value))))) s n) (sub_values ((a then (λ x. b then (λ y. c then (λ z. done (Range x.value y.value z.value))))) s n).made) (piece.Part ∷ ((ps ++ qs) ++ rs))
  unfolding ◌then◌ done
  range-step a b c ps qs rs h g f =
      let m = n + numbers_of (a s n).ops in
      let k = m + numbers_of (b s m).ops in
      let x = (a s n).made in
      let y = (b s m).made in
      let z = (c s k).made in
      let last = k + numbers_of (c s k).ops in
      let costs = spends-then vs a (λ u. b then (λ v. c then (λ w. done (Range u.value v.value w.value)))) s n (total size (a s n).ops) (reductions_in ps) (wholes_in ps) (total size (b s m).ops + (total size (c s k).ops + 0)) (reductions_in qs + (reductions_in rs + 0)) (wholes_in qs + (wholes_in rs + 0))
      (exactly vs (a s n) _ _ _ h.priced)
      (spends-then vs b (λ v. c then (λ w. done (Range x.value v.value w.value))) s m (total size (b s m).ops) (reductions_in qs) (wholes_in qs) (total size (c s k).ops + 0) (reductions_in rs + 0) (wholes_in rs + 0) (exactly vs (b s m) _ _ _ g.priced)
      (spends-then vs c (λ w. done (Range x.value y.value w.value)) s k (total size (c s k).ops) (reductions_in rs) (wholes_in rs) 0 0 0 (exactly vs (c s k) _ _ _ f.priced) (spends-done vs (Range x.value y.value z.value) s last))) in
      record {
        light = costs.light;
        size = omega (arith, costs.size, h.priced.size, g.priced.size, f.priced.size, parts-append (ps ++ qs) rs, parts-append ps qs);
        reductions = omega (arith, costs.reductions, reductions-append (ps ++ qs) rs, reductions-append ps qs);
        wholes = omega (arith, costs.wholes, ap one_if h.whole, ap one_if g.whole, ap one_if f.whole, wholes-append (ps ++ qs) rs, wholes-append ps qs);
      }

  pub subs-none : let none : Lowering (List Subscript) = done [] in Subscripted vs (none s n) (flat_map sub_values (none s n).made) []
  unfolding done
  subs-none = record { light = omega arith; size = omega arith; reductions = omega arith; wholes = omega arith }

  pub subs-step : (q : Lowering Subscript) (rest : Lowering (List Subscript)) (ps qs : List Piece) → Subscripted vs (q s n) (sub_values (q s n).made) ps →
      Subscripted vs (rest s (n + numbers_of (q s n).ops)) (flat_map sub_values (rest s (n + numbers_of (q s n).ops)).made) qs →
      Subscripted vs ((q then (λ x. rest then (λ xs. done (x ∷ xs)))) s n) (flat_map sub_values ((q then (λ x. rest then (λ xs. done (x ∷ xs)))) s n).made) (ps ++ qs)
  unfolding ◌then◌ done
  subs-step q rest ps qs h g =
      let m = n + numbers_of (q s n).ops in
      let x = (q s n).made in
      let xs = (rest s m).made in
      let c = spends-both vs q rest (λ y ys. y ∷ ys) s n (total size (q s n).ops) (reductions_in ps) (total (wholes vs) (q s n).ops) (total size (rest s m).ops) (reductions_in qs) (total (wholes vs) (rest s m).ops)
      (record { light = h.light; size = omega arith; reductions = h.reductions; wholes = omega arith }) (record { light = g.light; size = omega arith; reductions = g.reductions; wholes = omega arith }) in
      record {
        light = c.light;
        size = omega (arith, c.size, h.size, g.size, length-append (sub_values x) (flat_map sub_values xs), parts-append ps qs);
        reductions = omega (arith, c.reductions, reductions-append ps qs);
        wholes = omega (arith, c.wholes, h.wholes, g.wholes, wholes_among-append vs (sub_values x) (flat_map sub_values xs), wholes-append ps qs);
      }

  -- ---- parts of arrays

  pub part-step : (x : Name) (subs : Operand → Lowering (List Subscript)) (ps : List Piece) →
      is_whole (value_at vs (reference x s n).made.value) ≡ false →
      Subscripted vs (subs (reference x s n).made s (n + numbers_of (reference x s n).ops)) (flat_map sub_values (subs (reference x s n).made s (n + numbers_of (reference x s n).ops)).made) ps →
      Priced vs (part_of x subs s n) (4 + 27 * parts_in ps) (reductions_in ps) (wholes_in ps)
  unfolding part_of
  part-step x subs ps apart h =
      let r = (reference x s n).made in
      let m = n + numbers_of (reference x s n).ops in
      let ss = (subs r s m).made in
      let os = flat_map sub_values ss in
      let k = m + numbers_of (subs r s m).ops in
      priced-weaker vs _ _ _ _ (4 + 27 * parts_in ps) (reductions_in ps) (wholes_in ps)
      (priced-then vs (reference x) (λ u. subs u then (λ v. designated u v)) s n 2 0 0 (total size (subs r s m).ops + (2 + length os)) (reductions_in ps + 0) (total (wholes vs) (subs r s m).ops + wholes_among vs os) (spends-reference vs x s n)
      (priced-then vs (subs r) (λ v. designated r v) s m (total size (subs r s m).ops) (reductions_in ps) (total (wholes vs) (subs r s m).ops) (2 + length os) 0 (wholes_among vs os)
      (record { light = h.light; size = omega arith; reductions = h.reductions; wholes = omega arith }) (priced-designated vs r ss s k apart)))
      (omega (arith, h.size)) (omega arith) (omega (arith, h.wholes))

  pub load-step : (q : Lowering Operand) (ps : List Piece) → Priced vs (q s n) (4 + 27 * parts_in ps) (reductions_in ps) (wholes_in ps) → Valued vs ((q then loaded) s n) ps
  load-step q ps h =
      let m = n + numbers_of (q s n).ops in
      priced-weaker vs _ _ _ _ (8 + 27 * parts_in ps) (reductions_in ps) (wholes_in ps)
      (priced-then vs q loaded s n (4 + 27 * parts_in ps) (reductions_in ps) (wholes_in ps) 2 0 0 (priced-costs vs _ _ _ _ h) (priced-loaded vs (q s n).made s m h.proper))
      (omega arith) (omega arith) (omega arith)
