-- Costs of expressions as they stand in statements, in regions that yield.
use Rattle.std.proofs.Common.{◌≡◌, refl, subst, ℕ, suc, ◌+◌, ◌*◌, Bool, true, false, List, [], ◌∷◌, length, inl, inr, arith}
use Rattle.ws_base.specs.declared.name.Name.{Name}
use Rattle.ws_base.specs.declared.refusal.RefusalKind.TheVariants as refusal
use Rattle.ws_tree.specs.declared.expr.Expr.{Expr}
use Rattle.ws_tree.specs.declared.expr.Expr.TheVariants.{TooDeep, Named, Part'}
use Rattle.ws_tree.specs.Grammatical.{IsSide, IsDesignator}
use Rattle.ws_types.specs.declared.types.Row.{Row}
use Rattle.ws_types.specs.Expressions.{faults, wide_faults}
use Rattle.ws_counts.specs.declared.tally.Piece.{Piece}
use Rattle.ws_counts.specs.Counts.{parts_in, reductions_in, wholes_in}
use Rattle.ws_counts.specs.Pieces as p
use Rattle.hlfir_ops.specs.declared.what.What.TheVariants as what
use Rattle.hlfir_ops.specs.declared.op.ValueId.{ValueId}
use Rattle.hlfir_ops.specs.declared.op.Op.{Op}
use Rattle.hlfir_ops.specs.Numbers.{numbers_of}
use Rattle.hlfir_ops.specs.RulesValues.{Value}
use Rattle.lower_values.specs.declared.operand.Operand.{Operand}
use Rattle.lower_values.specs.Scopes.{Scope}
use Rattle.lower_values.specs.Lowerings.{Lowering, ◌>>=◌ as ◌then◌, scoped, acting}
use Rattle.lower_values.specs.References.{declare_of}
use Rattle.lower_values.specs.Values.{value}
use Rattle.lower_assign.specs.Statements.{yielded, all_yielded, whole_left, left_of, left}
use Rattle.small_laws.proofs.NoFaults.{none_first, none_after, impossible}
use Rattle.kind_laws.specs.Standing.{Knows}
use Rattle.kind_laws.specs.Found.{Holds, ScopeIsFound}
use Rattle.kind_laws.specs.Laws.{TypesAreKnown, KindsAreTypes, ValuesAreFound}
use Rattle.kind_laws.proofs.TypesTold.{no_wide}
use Rattle.kind_laws.proofs.Held.{held-first}
use Rattle.limit_laws.proofs.Costs.{Costs}
use Rattle.limit_laws.proofs.Costing.{Spends, costs-weaker, spends-done, spends-then, spends-acting}
use Rattle.limit_laws.proofs.Operations.{priced-costs}
use Rattle.limit_laws.proofs.References.{spends-boxed}
use Rattle.limit_laws.proofs.Bounded.{Valued}
use Rattle.limit_laws.proofs.Values.{price, price-part}

module _ (vs : List Value) where
  -- the costs of a region that yields one value
  abbrev pub SideCosts : List Op → List Piece → Type 0
  SideCosts ops ps = Costs vs ops (10 + 27 * parts_in ps) (reductions_in ps) (wholes_in ps)

  pub spends-yielded : (q : Lowering Operand) (s : Scope) (n z r w : ℕ) → Spends vs q s n z r w → Spends vs (yielded q) s n (z + 2) r w
  spends-yielded q s n z r w h =
      costs-weaker vs _ _ _ _ (z + 2) r w
      (spends-then vs q (λ x. acting what.Yield (x.value ∷ [])) s n z r w 2 0 0 h (spends-acting vs what.Yield ((q s n).made.value ∷ []) s (n + numbers_of (q s n).ops) refl))
      (omega arith) (omega arith) (omega arith)

  pub spends-all_yielded : (q : Lowering (List ValueId)) (s : Scope) (n z r w : ℕ) → Spends vs q s n z r w → Spends vs (all_yielded q) s n (z + suc (length (q s n).made)) r w
  spends-all_yielded q s n z r w h =
      costs-weaker vs _ _ _ _ (z + suc (length (q s n).made)) r w
      (spends-then vs q (λ xs. acting what.Yield xs) s n z r w (suc (length (q s n).made)) 0 0 h (spends-acting vs what.Yield (q s n).made s (n + numbers_of (q s n).ops) refl))
      (omega arith) (omega arith) (omega arith)

  whole_costs : (b : Bool) (d : Operand) (s : Scope) (n : ℕ) → Spends vs (whole_left b d) s n 2 0 0
  whole_costs true d s n = spends-boxed vs d s n
  whole_costs false d s n = costs-weaker vs _ _ _ _ 2 0 0 (spends-done vs d s n) (omega arith) (omega arith) (omega arith)

  name_costs : (b : Bool) (x : Name) (s : Scope) (n : ℕ) → Spends vs (left_of b (Named x)) s n 2 0 0
  unfolding scoped
  name_costs b x s n = whole_costs b (declare_of s.names x) s n

module _ (types : TypesAreKnown) (kinds : KindsAreTypes) (found : ValuesAreFound) (vs : List Value) (t : List Row) (inside mask : Bool) (s : Scope) (knows : Knows t s) (here : ScopeIsFound vs s) (line n : ℕ) where
  pub side-valued : (e : Expr) → IsSide e → faults t inside line e ≡ [] → Holds vs n (value e s n).ops → Valued vs (value e s n) (p.pieces t inside mask e)
  side-valued e (inl is) f h = no_wide line (subst (λ a. faults t inside line a ≡ []) is f)
  side-valued e (inr i) f h = price types kinds found vs t inside mask s knows here line n e i.0 f h

  pub side-costs : (e : Expr) → IsSide e → faults t inside line e ≡ [] → Holds vs n (yielded (value e) s n).ops → SideCosts vs (yielded (value e) s n).ops (p.pieces t inside mask e)
  side-costs e i f h =
      costs-weaker vs _ _ _ _ _ _ _ (spends-yielded vs (value e) s n (8 + 27 * parts_in (p.pieces t inside mask e)) _ _ (priced-costs vs _ _ _ _ (side-valued e i f (held-first vs (value e) (λ x. acting what.Yield (x.value ∷ [])) s n h))))
      (omega arith) (omega arith) (omega arith)

  pub designator-spends : (b : Bool) (e : Expr) → IsDesignator e → faults t inside line e ≡ [] → Holds vs n (left_of b e s n).ops → Spends vs (left_of b e) s n (8 + 27 * parts_in (p.pieces t inside mask e)) (reductions_in (p.pieces t inside mask e)) (wholes_in (p.pieces t inside mask e))
  designator-spends b (Named x) i f h = costs-weaker vs _ _ _ _ 8 0 0 (name_costs vs b x s n) (omega arith) (omega arith) (omega arith)
  designator-spends b (Part' x c subs) i f h =
      costs-weaker vs _ _ _ _ (8 + 27 * parts_in (p.subs_pieces t inside mask subs)) (reductions_in (p.subs_pieces t inside mask subs)) (wholes_in (p.subs_pieces t inside mask subs))
      (priced-costs vs _ _ _ _ (price-part types kinds found vs t inside mask s knows here line n x subs i.1 i.2 (none_first _ _ (none_first _ _ f)) (none_after _ _ (none_first _ _ f)) (none_after _ _ f) h))
      (omega arith) (omega arith) (omega arith)
  designator-spends b TooDeep i f h = no_wide line f
  designator-spends b _ i f h = absurd i

  pub designator-costs : (b : Bool) (e : Expr) → IsDesignator e → faults t inside line e ≡ [] → Holds vs n (yielded (left_of b e) s n).ops → SideCosts vs (yielded (left_of b e) s n).ops (p.pieces t inside mask e)
  designator-costs b e i f h =
      costs-weaker vs _ _ _ _ _ _ _ (spends-yielded vs (left_of b e) s n (8 + 27 * parts_in (p.pieces t inside mask e)) _ _ (designator-spends b e i f (held-first vs (left_of b e) (λ x. acting what.Yield (x.value ∷ [])) s n h)))
      (omega arith) (omega arith) (omega arith)

  pub left-costs : (e : Expr) → IsDesignator e → faults t inside line e ≡ [] → Holds vs n (yielded (left e) s n).ops → SideCosts vs (yielded (left e) s n).ops (p.pieces t inside mask e)
  unfolding left scoped ◌then◌
  left-costs e i f h = designator-costs s.masked e i f h
