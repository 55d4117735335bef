-- The parts of expressions, where the expressions in them are lowered.
use Rattle.std.proofs.Common.{◌≡◌, refl, sym, ap, ◌∙◌, subst, ℕ, suc, ◌+◌, ◌<◌, ◌≤◌, Bool, true, false, ◌&&◌, List, [], ◌∷◌, length, Some, pos, arith}
use mathlib.Core.Former.{Count}
use Rattle.ws_base.specs.declared.name.Name.{Name}
use Rattle.ws_base.specs.declared.op.UnOp.{UnOp}
use Rattle.ws_base.specs.declared.op.UnOp.TheVariants as un
use Rattle.ws_base.specs.declared.op.BinOp.{BinOp}
use Rattle.ws_tree.specs.declared.expr.Expr.{Expr}
use Rattle.ws_tree.specs.declared.expr.Sub.{Sub}
use Rattle.ws_tree.specs.Trees.{Exprs, end_exprs, more_exprs, Subs, end_subs, more_subs}
use Rattle.ws_tree.specs.Grammatical.{IsExpr, HasExprs, HasSubs}
use Rattle.ws_types.specs.declared.types.Typed.{Typed}
use Rattle.ws_types.specs.declared.types.Row.{Row}
use Rattle.ws_types.specs.declared.types.Arguments.{Arguments}
use Rattle.ws_types.specs.Names.{standing_of}
use Rattle.ws_types.specs.Operations.{differ, takes_truth, binary_faults, part_faults, with_argument, no_arguments, vector_faults}
use Rattle.ws_types.specs.Expressions.{listed, how_many, named_type, named_faults, typed, arguments, faults}
use Rattle.hlfir_ops.specs.declared.kinds.Elem.TheVariants.{I32, I1}
use Rattle.hlfir_ops.specs.declared.kinds.ValueKind.TheVariants as kind
use Rattle.hlfir_ops.specs.declared.what.BoundWord.{BoundWord}
use Rattle.hlfir_ops.specs.declared.what.ValueUnary.TheVariants as unary_word
use Rattle.hlfir_ops.specs.declared.what.What.TheVariants as what
use Rattle.hlfir_ops.specs.Numbers.{numbers_of}
use Rattle.hlfir_ops.specs.RulesValues.{Value, rank_of, is_reference}
use Rattle.lower_values.specs.declared.operand.Operand.{Operand}
use Rattle.lower_values.specs.declared.operand.Subscript.{Subscript}
use Rattle.lower_values.specs.declared.operand.Subscript.TheVariants.{Range}
use Rattle.lower_assign.specs.Known.{elem}
use Rattle.lower_values.specs.Scopes.{Scope}
use Rattle.lower_values.specs.Lowerings.{Lowering, done, ◌>>=◌, giving}
use Rattle.lower_values.specs.Operations.{constant, binary_of, binary_operation, unary_operation, vector}
use Rattle.lower_values.specs.References.{reference, bound, designated}
use Rattle.lower_values.specs.Values.{value, subscripts, subscript, part_of}
use Rattle.kind_laws.specs.Found.{Holds}
use Rattle.kind_laws.proofs.ExpressionsMade.{kinds_are_types}
use Rattle.kind_laws.proofs.ExpressionsFound.{values_are_found}
use Rattle.form_laws.proofs.Operands.{IsFound, found_of, giving-found}
use Rattle.form_laws.proofs.Typed.{operand_elem-is, IsOf, AreOf, unary-made, binary-made}
use Rattle.form_laws.proofs.Walking.{Good, good-made, Leaves, then-leaves, done-leaves}
use Rattle.kind_laws.proofs.Arguments.{argued}
use Rattle.kind_laws.proofs.Held.{held-first, held-rest}
use Rattle.kind_laws.proofs.FormsMade.{some_subs}
use Rattle.kind_laws.proofs.ScalarRanks.{arguments_scalar}
use Rattle.form_laws.proofs.Arguments.{one_type}
use Rattle.form_laws.proofs.Entries.{NamesArray, names-array}
use Rattle.form_laws.proofs.References.{Boxed, reference-boxed, constant-good, bound-good}
use Rattle.form_laws.proofs.Parts.{IsInteger, SubFits, AllSubs, Part, designated-part, then-part}
use Rattle.form_laws.proofs.Calls.{vector-good}
use Rattle.form_laws.proofs.Inquiries.{name-typed}
use Rattle.form_laws.proofs.Wholes.{parentheses-good}
use Rattle.form_laws.proofs.Stages.{Stage}
use Rattle.form_laws.proofs.Says.{binary_says, part_says, vector_says}
use Rattle.form_laws.proofs.Folded.{with-truths, with-mixed}

module _ (vs : List Value) (t : List Row) (s : Scope) (stage : Stage vs t s) (inside : Bool) (line : ℕ) where
  -- what was lowered from an expression has its type
  pub value-is : (e : Expr) (n : ℕ) (ty : Typed) → IsExpr e → Good vs (value e s n) → faults t inside line e ≡ [] → typed t inside e ≡ Some ty → Holds vs n (value e s n).ops → IsOf vs ty (value e s n).made
  value-is e n ty h good f is held =
      let has = kinds_are_types t inside line e s n ty h stage.knows f is in
      record { stands = record { found = found_of vs (value e s n).made (values_are_found t inside line e s n vs stage.knows f stage.scope held); solid = good.solid }; of_elem = has.elem; of_rank = has.rank }

  -- ---- lists

  -- arguments of these types were lowered
  pub record AreLowered {m : Count} (es : Exprs m) (xs : List Operand) : Type 0 where
    pub tys : List Typed
    pub are : AreOf vs tys xs
    pub known : (a : Arguments) → arguments t inside a es ≡ argued a tys
    pub many : length (listed es) ≡ length tys

  pub lowered-more : {m : Count} (e : Expr) (es : Exprs m) (ty : Typed) (x : Operand) (xs : List Operand) → typed t inside e ≡ Some ty → IsOf vs ty x → AreLowered es xs → AreLowered (more_exprs e es) (x ∷ xs)
  lowered-more e es ty x xs is of h = record {
    tys = ty ∷ h.tys;
    are = (of, h.are);
    known = λ a. ap (λ o. arguments t inside (with_argument a o) es) is ∙ h.known (with_argument a (Some ty));
    many = ap suc h.many;
  }

  pub kept_truths : {m : Count} (es : Exprs m) (a : Arguments) → (arguments t inside a es).truths ≡ false → a.truths ≡ false
  kept_truths end_exprs a h = h
  kept_truths (more_exprs e es) a h = with-truths a (typed t inside e) (kept_truths es (with_argument a (typed t inside e)) h)

  pub kept_mixed : {m : Count} (es : Exprs m) (a : Arguments) → (arguments t inside a es).mixed ≡ false → a.mixed ≡ false
  kept_mixed end_exprs a h = h
  kept_mixed (more_exprs e es) a h = with-mixed a (typed t inside e) (kept_mixed es (with_argument a (typed t inside e)) h)

  some_listed : {m : Count} (es : Exprs m) → HasExprs es → 0 < length (listed es)
  some_listed end_exprs h = absurd h
  some_listed (more_exprs e es) h = omega arith

  by_types : (tys : List Typed) (ys : List Operand) (n : ℕ) → AreOf vs tys ys → 0 < length tys → (argued no_arguments tys).rank ≡ 0 → ((argued no_arguments tys).truths && (argued no_arguments tys).numbers) ≡ false → Good vs (vector ys s n)
  by_types [] ys n of l ranks says = absurd (omega (arith, l))
  by_types (ty ∷ tys) [] n of l ranks says = absurd of
  by_types (ty ∷ tys) (y ∷ ys) n of l ranks says = let one = one_type (ty ∷ tys) says in vector-good vs one.0 ty tys y ys s n of one.1 (arguments_scalar no_arguments (ty ∷ tys) ranks).1

  pub vector-lowered : {m : Count} (es : Exprs m) (xs : List Operand) (n : ℕ) → HasExprs es → AreLowered es xs → vector_faults line inside (length (listed es)) (arguments t inside no_arguments es) ≡ [] → Good vs (vector xs s n)
  vector-lowered es xs n some h f =
      let says = vector_says line inside (length (listed es)) (argued no_arguments h.tys) (ap (vector_faults line inside (length (listed es))) (sym (h.known no_arguments)) ∙ f) in
      by_types h.tys xs n h.are (subst (λ k. 0 < k) h.many (some_listed es some)) says.0 says.1

  -- ---- operators

  pub unary-lowered : (op : UnOp) (ty : Typed) (x : Operand) (n : ℕ) → IsOf vs ty x → ty.truth ≡ takes_truth op → Holds vs n (unary_operation op x s n).ops → Good vs (unary_operation op x s n)
  unary-lowered un.Minus ty x n of truth held = good-made vs (unary_operation un.Minus x s n) (unary-made vs false s n unary_word.Neg I32 x refl of.stands (of.of_elem ∙ ap elem truth) held).made
  unary-lowered un.Plus ty x n of truth held = parentheses-good vs s n x of.stands
  unary-lowered un.Not ty x n of truth held = good-made vs (unary_operation un.Not x s n) (unary-made vs false s n unary_word.Not I1 x refl of.stands (of.of_elem ∙ ap elem truth) held).made

  pub binary-lowered : (op : BinOp) (ty tz : Typed) (x y : Operand) (n : ℕ) → IsOf vs ty x → IsOf vs tz y → binary_faults line op (Some ty) (Some tz) ≡ [] → Holds vs n (binary_operation (binary_of op) x y s n).ops → Good vs (binary_operation (binary_of op) x y s n)
  binary-lowered op ty tz x y n of og f held =
      let says = binary_says line op ty tz f in
      good-made vs (binary_operation (binary_of op) x y s n)
      (binary-made vs false s n (binary_of op) x y of.stands og.stands (of.of_elem ∙ (ap elem says.0 ∙ operand_elem-is op)) (og.of_elem ∙ (ap elem says.1 ∙ operand_elem-is op))
      (ap (λ k. differ k (rank_of y.kind)) of.of_rank ∙ (ap (differ ty.rank) og.of_rank ∙ says.2)) held).made

  -- ---- subscripts

  abbrev pub IsIndex : Operand → Type 0
  IsIndex x = IsInteger vs x.value

  pub bound-leaves : (w : BoundWord) (dim : ℕ) (r : Operand) (n : ℕ) → IsFound vs r → is_reference (Some r.kind) ≡ true → 1 ≤ dim → dim ≤ rank_of r.kind → Holds vs n (bound w dim r s n).ops → Leaves vs IsIndex (bound w dim r s n)
  unfolding bound giving
  bound-leaves w dim r n found reference low high held =
      record { fit = (bound-good vs w dim r s n found reference low high).fit; holds = giving-found vs false (what.Bound w dim) (r.value ∷ []) (kind.Scalar I32) s n held }

  pub one-leaves : (n : ℕ) → Holds vs n (constant I32 (pos 1) s n).ops → Leaves vs IsIndex (constant I32 (pos 1) s n)
  unfolding giving
  one-leaves n held = record { fit = (constant-good vs I32 (pos 1) refl s n).fit; holds = giving-found vs false (what.Constant (pos 1)) [] (kind.Scalar I32) s n held }

  abbrev pub Subscripted : ℕ → List Subscript → Type 0
  Subscripted count cs = AllSubs vs cs × (length cs ≡ count)

  pub subs-more : {m : Count} (r : Operand) (dim : ℕ) (x : Sub) (xs : Subs m) (n : ℕ) → (Holds vs n (subscript r dim x s n).ops → Leaves vs (SubFits vs) (subscript r dim x s n)) →
      ((k : ℕ) → Holds vs k (subscripts r (suc dim) xs s k).ops → Leaves vs (Subscripted (how_many xs)) (subscripts r (suc dim) xs s k)) →
      Holds vs n (subscripts r dim (more_subs x xs) s n).ops → Leaves vs (Subscripted (suc (how_many xs))) (subscripts r dim (more_subs x xs) s n)
  subs-more r dim x xs n first rest held =
      let p = subscript r dim x in
      let q : Subscript → Lowering (List Subscript) = λ c. subscripts r (suc dim) xs >>= (λ cs. done (c ∷ cs)) in
      let one = first (held-first vs p q s n held) in
      let c = (p s n).made in
      let k = n + numbers_of (p s n).ops in
      let last : List Subscript → Lowering (List Subscript) = λ cs. done (c ∷ cs) in
      let more = rest k (held-first vs (subscripts r (suc dim) xs) last s k (held-rest vs p q s n held)) in
      let cs = (subscripts r (suc dim) xs s k).made in
      then-leaves vs (Subscripted (suc (how_many xs))) p q s n one.fit
      (then-leaves vs (Subscripted (suc (how_many xs))) (subscripts r (suc dim) xs) last s k more.fit
      (done-leaves vs (Subscripted (suc (how_many xs))) (c ∷ cs) s (k + numbers_of (subscripts r (suc dim) xs s k).ops) ((one.holds, more.holds.0), ap suc more.holds.1)))

  pub three-leave : (p q g : Lowering Operand) (n : ℕ) → ((k : ℕ) → Holds vs k (p s k).ops → Leaves vs IsIndex (p s k)) → ((k : ℕ) → Holds vs k (q s k).ops → Leaves vs IsIndex (q s k)) → ((k : ℕ) → Holds vs k (g s k).ops → Leaves vs IsIndex (g s k)) →
      Holds vs n ((p >>= (λ x. q >>= (λ y. g >>= (λ z. done (Range x.value y.value z.value))))) s n).ops → Leaves vs (SubFits vs) ((p >>= (λ x. q >>= (λ y. g >>= (λ z. done (Range x.value y.value z.value))))) s n)
  three-leave p q g n a b c held =
      let f1 : Operand → Lowering Subscript = λ x. q >>= (λ y. g >>= (λ z. done (Range x.value y.value z.value))) in
      let one = a n (held-first vs p f1 s n held) in
      let rest1 = held-rest vs p f1 s n held in
      let x = (p s n).made in
      let n1 = n + numbers_of (p s n).ops in
      let f2 : Operand → Lowering Subscript = λ y. g >>= (λ z. done (Range x.value y.value z.value)) in
      let two = b n1 (held-first vs q f2 s n1 rest1) in
      let rest2 = held-rest vs q f2 s n1 rest1 in
      let y = (q s n1).made in
      let n2 = n1 + numbers_of (q s n1).ops in
      let f3 : Operand → Lowering Subscript = λ z. done (Range x.value y.value z.value) in
      let three = c n2 (held-first vs g f3 s n2 rest2) in
      let z = (g s n2).made in
      then-leaves vs (SubFits vs) p f1 s n one.fit (then-leaves vs (SubFits vs) q f2 s n1 two.fit (then-leaves vs (SubFits vs) g f3 s n2 three.fit
      (done-leaves vs (SubFits vs) (Range x.value y.value z.value) s (n2 + numbers_of (g s n2).ops) (one.holds, two.holds, three.holds))))

  -- ---- parts

  pub part-lowered : {m : Count} (x : Name) (subs : Subs m) (n : ℕ) → HasSubs subs → named_faults t line x ≡ [] → part_faults line (named_type t x) (how_many subs) ≡ [] →
      ((r : Operand) (k : ℕ) → IsFound vs r → is_reference (Some r.kind) ≡ true → how_many subs ≡ rank_of r.kind → Holds vs k (subscripts r 1 subs s k).ops → Leaves vs (Subscripted (how_many subs)) (subscripts r 1 subs s k)) →
      Holds vs n (part_of x (λ r. subscripts r 1 subs) s n).ops → Part vs (part_of x (λ r. subscripts r 1 subs) s n)
  unfolding part_of
  part-lowered x subs n some f g inner held =
      let name = name-typed line (standing_of t x) f in
      let ranked : name.0.rank ≡ how_many subs = part_says line name.0 (how_many subs) (ap (λ o. part_faults line o (how_many subs)) (sym name.1) ∙ g) in
      let a : NamesArray s.names x name.0 = names-array s x (standing_of t x) name.0 (stage.knows x) name.1 (let many = some_subs subs some in grind (arith, ranked, many)) in
      let q : Operand → Lowering Operand = λ r. subscripts r 1 subs >>= designated r in
      let first : Boxed vs a.declare (reference x s n) = reference-boxed vs s stage.scope x a.declare n a.is (held-first vs (reference x) q s n held) in
      let r = (reference x s n).made in
      let k = n + numbers_of (reference x s n).ops in
      let rest = held-rest vs (reference x) q s n held in
      let reference_is : is_reference (Some r.kind) ≡ true = ap (λ o. is_reference (Some o)) first.same ∙ a.reference in
      let rank_is : how_many subs ≡ rank_of r.kind = sym ranked ∙ (sym a.of_rank ∙ ap rank_of (sym first.same)) in
      let second = inner r k first.found reference_is rank_is (held-first vs (subscripts r 1 subs) (designated r) s k rest) in
      let cs = (subscripts r 1 subs s k).made in
      let third = designated-part vs r first.found reference_is cs (second.holds.1 ∙ rank_is) second.holds.0 s (k + numbers_of (subscripts r 1 subs s k).ops) (held-rest vs (subscripts r 1 subs) (designated r) s k rest) in
      then-part vs (reference x) q s n first.fit (then-part vs (subscripts r 1 subs) (designated r) s k second.fit third)
