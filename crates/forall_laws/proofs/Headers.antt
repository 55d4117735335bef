-- The lowered header of a FORALL means what its source means, given lists of scalars.
use Rattle.std.proofs.Common.{◌≡◌, refl, sym, ap, ◌∙◌, subst, ℕ, ◌+◌, ◌<◌, ◌≤◌, false, List, [], ◌∷◌, ◌++◌, length, map, All, Option, Some, None, Ok, arith, append-nil, append_assoc, if◌then◌else◌}
use Rattle.std.specs.Prelude.{◌||◌}
use Rattle.std.proofs.lemmas.List.Elements.{All-nil, All-cons, All-head, All-tail}
use Rattle.ws_base.specs.Outcomes.{Staged, ◌>>=◌}
use Rattle.ws_space.specs.declared.shape.Triplet.{Triplet}
use Rattle.ws_space.specs.Combinations.{lengths}
use Rattle.ws_space.specs.Sections.{limited}
use Rattle.ws_space.specs.Values.{is_among}
use Rattle.ws_tree.specs.declared.expr.Expr.{Expr}
use Rattle.ws_tree.specs.declared.expr.Expr.TheVariants.{Number}
use Rattle.ws_tree.specs.declared.stmt.Index.{Index}
use Rattle.ws_tree.specs.Grammatical.{IsSide, IsIndex, IsOptional}
use Rattle.ws_types.specs.declared.types.Row.{Row}
use Rattle.ws_types.specs.Kinds.{when}
use Rattle.ws_types.specs.Operations.{scalar_faults}
use Rattle.ws_types.specs.Expressions.{typed, number_faults}
use Rattle.ws_types.specs.Lists.{given_faults}
use Rattle.ws_sema.specs.Statements.{scalar_expr_faults, header_faults}
use Rattle.ws_sema.proofs.NoFaults.{none_first, none_after, not_broken}
use Rattle.array_meaning.specs.declared.world.World.{World}
use Rattle.array_meaning.specs.Stage1 as once
use Rattle.array_meaning.specs.Forall as source
use Rattle.hlfir_ops.specs.declared.what.What.TheVariants as what
use Rattle.hlfir_ops.specs.declared.op.ValueId.{ValueId}
use Rattle.hlfir_ops.specs.declared.op.Op.{Op}
use Rattle.hlfir_ops.specs.Numbers.{numbers_of}
use Rattle.hlfir_ops.specs.RulesRegions.{parts, parts_of, is_yield, is_yield_element}
use Rattle.hlfir_meaning.specs.Environments.{scalar, Environment, of_variables, yielding}
use Rattle.hlfir_meaning.specs.Stage1.{stage1, subscripts_in, subscript_numbers}
use Rattle.hlfir_meaning.specs.Stage1 as walked
use Rattle.hlfir_meaning.specs.Combinations.{axes, header}
use Rattle.lower_values.specs.declared.operand.Operand.{Operand}
use Rattle.lower_values.specs.Scopes.{Scope}
use Rattle.lower_values.specs.Lowerings.{Lowered, done, ◌>>=◌ as ◌then◌}
use Rattle.lower_values.specs.Values.{value}
use Rattle.lower_values.specs.Lists.{values}
use Rattle.lower_constructs.specs.Modules.{triple, triples}
use Rattle.kind_laws.proofs.TypedExpressions.{type_known}
use Rattle.kind_laws.proofs.Sides.{sides_are_expressions}
use Rattle.kind_laws.proofs.Ends.{last_of-push}
use Rattle.value_laws.specs.Standing.{Kept, Goes}
use Rattle.value_laws.specs.Vectors.{VectorsAre}
use Rattle.value_laws.proofs.Ops.{ending, parts-op_of}
use Rattle.world_laws.specs.Yields.{region, scalars_of}
use Rattle.world_laws.specs.Meanings.{StandsOutside, IsIntegerScalar, ListsMean}
use Rattle.world_laws.proofs.Listing.{stride_of, triple_exprs, three, triple-list, numbers}
use Rattle.world_laws.proofs.Yielding.{yield_of, yielded_ops, yield_subscripts}
use Rattle.forall_laws.specs.Headers.{HeadersMean}
use Rattle.forall_laws.specs.Owned.{OwnIn, SubscriptsAreOwn}
use Rattle.forall_laws.proofs.Axes.{piece-starts, piece-low, axes-piece, axes-walked, stepping-three}
use Rattle.forall_laws.proofs.LastOps.{EndsAt}
use Rattle.forall_laws.proofs.LastValues.{ends-value}
use Rattle.forall_laws.proofs.Sides.{zero_rank}
use Rattle.forall_laws.proofs.Vectors.{own-append, vectors-first, vectors-after}

-- ---- the expressions of an index

scalar_side : (b : List Row) (line : ℕ) (e : Expr) → IsSide e → scalar_expr_faults b line e ≡ [] → IsIntegerScalar b line e
scalar_side b line e g f = let none = none_first _ _ f in (sides_are_expressions b false line e g none, none, none_after _ _ f)

one_scalar : (b : List Row) (line : ℕ) → IsIntegerScalar b line (Number 1)
unfolding number_faults scalar_faults when
one_scalar b line = (omega arith, refl, refl)

stride_scalar : (b : List Row) (line : ℕ) (st : Option Expr) → IsOptional st → given_faults b false line st ≡ [] → IsIntegerScalar b line (stride_of st)
stride_scalar b line None g f = one_scalar b line
stride_scalar b line (Some e) g f = scalar_side b line e g f

abbrev ThreeScalars : List Row → ℕ → Index → Type 0
ThreeScalars b line i = IsIntegerScalar b line i.l × IsIntegerScalar b line i.u × IsIntegerScalar b line (stride_of i.s)

all_three : (b : List Row) (line : ℕ) (i : Index) → ThreeScalars b line i → All (IsIntegerScalar b line) (triple_exprs i.l i.u i.s)
all_three b line i h =
    let P = IsIntegerScalar b line in
    All-cons P i.l (i.u ∷ stride_of i.s ∷ []) h.0 (All-cons P i.u (stride_of i.s ∷ []) h.1 (All-cons P (stride_of i.s) [] h.2 (All-nil P)))

scalars_each : (t b : List Row) (line : ℕ) (before is : List Index) → All IsIndex is → header_faults t b line before is ≡ [] → All (ThreeScalars b line) is
scalars_each t b line before [] g f = All-nil (ThreeScalars b line)
scalars_each t b line before (i ∷ is) g f =
    let here = All-head IsIndex i is g in
    let step = none_first _ _ f in
    let upper = none_first _ _ step in
    let lower = none_first _ _ upper in
    All-cons (ThreeScalars b line) i is (scalar_side b line i.l here.0 (none_after _ _ lower), scalar_side b line i.u here.1 (none_after _ _ upper), stride_scalar b line i.s here.2 (none_after _ _ step))
    (scalars_each t b line (before ++ i ∷ []) is (All-tail IsIndex i is g) (none_after _ _ f))

triples-cons : (i : Index) (is : List Index) (s : Scope) (n : ℕ) → triples (i ∷ is) s n ≡
    (let a = triple i.l i.u i.s s n in let c = triples is s (n + numbers_of a.ops) in let r : Lowered (List ValueId) = record { ops = a.ops ++ c.ops; made = a.made ++ c.made } in r)
unfolding triples ◌then◌ done
triples-cons i is s n =
    let a = triple i.l i.u i.s s n in let c = triples is s (n + numbers_of a.ops) in
    ap (λ l. let r : Lowered (List ValueId) = record { ops = a.ops ++ l; made = a.made ++ c.made } in r) (append-nil c.ops)

module _ (lists : ListsMean) (owned : SubscriptsAreOwn) (b : List Row) (line : ℕ) (s : Scope) (w : World) where
  abbrev base : ℕ
  base = length w.vars

  ends_scalar : (n : ℕ) (e : Expr) → StandsOutside b s w n → IsIntegerScalar b line e → (m : ℕ) → EndsAt s m (value e)
  unfolding scalar_faults
  ends_scalar n e stands h m =
      let type = type_known b false line e h.1 in
      ends-value b s stands.knows stands.no_index e type.0 h.0 type.1 (zero_rank (typed b false e) type.0 type.1 (not_broken _ _ _ (none_after _ _ h.2))) m

  higher : (n m : ℕ) → n ≤ m → StandsOutside b s w n → StandsOutside b s w m
  higher n m l h = record { knows = h.knows; no_index = h.no_index; world = h.world; declared = let d = h.declared in omega (arith, d, l) }

  triple_own : (i : Index) (n : ℕ) → StandsOutside b s w n → ThreeScalars b line i → OwnIn base n (triple i.l i.u i.s s n).ops
  triple_own i n stands h = subst (λ a. OwnIn base n a.ops) (sym (triple-list i.l i.u i.s s n)) (owned b line (triple_exprs i.l i.u i.s) s n w stands (all_three b line i h))

  triples_own : (is : List Index) (n : ℕ) → StandsOutside b s w n → All (ThreeScalars b line) is → OwnIn base n (triples is s n).ops
  unfolding triples done
  triples_own [] n stands h = λ v e. absurd (let q = e in cc)
  triples_own (i ∷ is) n stands h =
      let xs = (triple i.l i.u i.s s n).ops in
      let m = n + numbers_of xs in
      subst (λ a. OwnIn base n a.ops) (sym (triples-cons i is s n))
      (own-append base n stands.declared xs (triples is s m).ops (triple_own i n stands (All-head (ThreeScalars b line) i is h)) (triples_own is m (higher n m (omega arith) stands) (All-tail (ThreeScalars b line) i is h)))

  abbrev on_axes : List Index → Staged Triplet → Staged (List Triplet)
  on_axes is q = q >>= (λ u. source.axes w is >>= (λ us. let k : Staged (List Triplet) = Ok (u ∷ us) in k))

  module _ (vectors : List ℕ) (yield : Op) (vs : List ValueId) (ends : (k : ℕ) (rho : Environment) → stage1 vectors k rho (yield ∷ []) ≡ Ok (yielding rho vs)) where
    abbrev Agree : Environment → Type 0
    Agree env = (k : ℕ) → k < base → env k ≡ of_variables w.vars k

    -- the index with these values before the rest
    module _ (i : Index) (is : List Index) (m : ℕ) (env : Environment) (stands : StandsOutside b s w m) (agree : Agree env) (h : ThreeScalars b line i) (rest : All (ThreeScalars b line) is) where
      abbrev first : Lowered Operand
      first = value i.l s m

      abbrev second : Lowered Operand
      second = value i.u s (m + numbers_of first.ops)

      abbrev third : Lowered Operand
      third = value (stride_of i.s) s ((m + numbers_of first.ops) + numbers_of second.ops)

      abbrev xs : List Op
      xs = first.ops ++ (second.ops ++ (third.ops ++ []))

      abbrev next : ℕ
      next = m + numbers_of xs

      abbrev others : Lowered (List ValueId)
      others = triples is s next

      abbrev three_values : Lowered (List Operand)
      three_values = record { ops = xs; made = first.made ∷ second.made ∷ third.made ∷ [] }

      values-are : values (triple_exprs i.l i.u i.s) s m ≡ three_values
      values-are = three i.l i.u (stride_of i.s) s m

      abbrev whole : Lowered (List ValueId)
      whole = record { ops = xs ++ others.ops; made = first.made.value ∷ second.made.value ∷ third.made.value ∷ others.made }

      triples-are : triples (i ∷ is) s m ≡ whole
      triples-are = triples-cons i is s m
          ∙ ap (λ a. let c = triples is s (m + numbers_of a.ops) in let r : Lowered (List ValueId) = record { ops = a.ops ++ c.ops; made = a.made ++ c.made } in r) (triple-list i.l i.u i.s s m ∙ ap numbers values-are)

      own_first : OwnIn base m xs
      own_first = subst (λ a. OwnIn base m a.ops) values-are (owned b line (triple_exprs i.l i.u i.s) s m w stands (all_three b line i h))

      stands_next : StandsOutside b s w next
      stands_next = higher m next (omega arith) stands

      own_rest : OwnIn base next others.ops
      own_rest = triples_own is next stands_next rest

      goes : VectorsAre vectors m xs → Goes vectors m env xs (scalars_of w (triple_exprs i.l i.u i.s)) (λ zs rho. map (λ x. rho x.value.number) (first.made ∷ second.made ∷ third.made ∷ []) ≡ map scalar zs)
      goes v = subst (λ a. Goes vectors m env a.ops (scalars_of w (triple_exprs i.l i.u i.s)) (λ zs rho. map (λ x. rho x.value.number) a.made ≡ map scalar zs)) values-are
          (lists b line (triple_exprs i.l i.u i.s) s m w vectors env stands agree (all_three b line i h) (subst (λ a. VectorsAre vectors m a.ops) (sym values-are) v))

      agree_next : (rho : Environment) → Kept m env rho → Agree rho
      agree_next rho kept k low = kept k (let d = stands.declared in omega (arith, low, d)) ∙ agree k low

      hl : EndsAt s m (value i.l)
      hl = ends_scalar m i.l stands h.0 m

      hu : EndsAt s (m + numbers_of first.ops) (value i.u)
      hu = ends_scalar m i.u stands h.1 (m + numbers_of first.ops)

      hz : EndsAt s ((m + numbers_of first.ops) + numbers_of second.ops) (value (stride_of i.s))
      hz = ends_scalar m (stride_of i.s) stands h.2 ((m + numbers_of first.ops) + numbers_of second.ops)

      stepped_on : VectorsAre vectors m (xs ++ others.ops) → ((rho : Environment) → Agree rho → VectorsAre vectors next others.ops → axes vectors next rho others.made (others.ops ++ yield ∷ []) ≡ source.axes w is) →
          axes vectors m env whole.made (whole.ops ++ yield ∷ []) ≡ source.axes w (i ∷ is)
      stepped_on all later =
          let ys = others.ops ++ yield ∷ [] in
          let p = once.walk w i.l in let q = once.walk w i.u in let r = once.walk w (stride_of i.s) in
          ap (axes vectors m env whole.made) (append_assoc xs others.ops (yield ∷ []))
          ∙ (axes-piece vectors m env xs ys first.made second.made third.made others.made
          (piece-starts m first.ops second.ops third.ops first.made.value second.made.value third.made.value hl hu hz)
          (piece-low m first.ops second.ops third.ops first.made.value second.made.value third.made.value hl hu hz)
          ∙ (axes-walked vectors m env xs ys first.made second.made third.made others.made p q r (source.axes w is) (goes (vectors-first base m stands.declared xs others.ops vectors all own_rest))
          (λ rho kept. ap (λ k. axes vectors k rho others.made ys) (let e : numbers_of xs + m ≡ next = omega arith in e) ∙ later rho (agree_next rho kept) (vectors-after base m stands.declared xs others.ops vectors all own_first))
          ∙ ap (on_axes is) (sym (stepping-three w i.l i.u i.s))))

    axes_mean : (is : List Index) (m : ℕ) (env : Environment) → StandsOutside b s w m → Agree env → All (ThreeScalars b line) is → VectorsAre vectors m (triples is s m).ops →
        axes vectors m env (triples is s m).made ((triples is s m).ops ++ yield ∷ []) ≡ source.axes w is
    unfolding triples done
    axes_mean [] m env stands agree h v = ap (λ q. q >>= (λ y. let k : Staged (List Triplet) = Ok [] in k)) (ends m env)
    axes_mean (i ∷ is) m env stands agree h v =
        let here = All-head (ThreeScalars b line) i is h in
        let rest = All-tail (ThreeScalars b line) i is h in
        let are = triples-are i is m env stands agree here rest in
        subst (λ a. axes vectors m env a.made (a.ops ++ yield ∷ []) ≡ source.axes w (i ∷ is)) (sym are)
        (stepped_on i is m env stands agree here rest (subst (λ a. VectorsAre vectors m a.ops) are v)
        (λ rho again them. axes_mean is (next i is m env stands agree here rest) rho (stands_next i is m env stands agree here rest) again rest them))

-- ---- the whole region

module _ (s : Scope) (vs : List ValueId) where
  yield_parts : (ops : List Op) → parts (ops ++ yield_of s vs ∷ []) ≡ vs
  yield_parts ops = ap parts_of (last_of-push ops (yield_of s vs)) ∙ ap (λ f. if is_yield f.what || is_yield_element f.what then f.operands else []) (parts-op_of what.Yield s.line vs None [])

  yield_ends : (vectors : List ℕ) (k : ℕ) (rho : Environment) → stage1 vectors k rho (yield_of s vs ∷ []) ≡ Ok (yielding rho vs)
  yield_ends vectors k rho = ending what.Yield s.line vs None [] (walked.once vectors) k rho [] refl

abbrev limit : Staged (List Triplet) → Staged (List Triplet)
limit r = r >>= (λ ts. limited (lengths ts) ts)

pub headers_mean : ListsMean → SubscriptsAreOwn → HeadersMean
headers_mean lists owned t b line is s n w stands each f =
    let a = triples is s n in
    let ops = a.ops ++ yield_of s a.made ∷ [] in
    let env = of_variables w.vars in
    ap (λ l. header env (region n l)) (yielded_ops (triples is) s n)
    ∙ (ap (λ ps. limit (axes (subscript_numbers ops) n env ps ops)) (yield_parts s a.made a.ops)
    ∙ ap limit (axes_mean lists owned b line s w (subscript_numbers ops) (yield_of s a.made) a.made (yield_ends s a.made (subscript_numbers ops)) is n env stands (λ k low. refl) (scalars_each t b line [] is each f)
    (λ v low high. ap (is_among v) (yield_subscripts s a.made a.ops))))
