-- MIN and MAX nest to the left, where the source has one call of all arguments.
use Rattle.std.proofs.Common.{◌≡◌, refl, sym, ap, ◌∙◌, subst, ℕ, ◌+◌, ◌≤◌, ◌==◌, Bool, true, false, List, [], ◌∷◌, ◌++◌, Option, Some, None, Ok, Err, ℤ, arith, append_assoc}
use Rattle.std.specs.Prelude.{⊤, max}
use mathlib.Core.Path.{fun_ext}
use Rattle.ws_base.specs.declared.op.CallWord.{CallWord}
use Rattle.ws_base.specs.Outcomes.{Staged, scalar_of, ◌>>=◌}
use Rattle.ws_space.specs.Values.{is_among}
use Rattle.ws_space.specs.Maps.{call_map}
use Rattle.ws_tree.specs.declared.expr.Expr.{Expr}
use Rattle.ws_tree.specs.Trees.{Exprs, end_exprs, more_exprs}
use Rattle.array_meaning.specs.declared.world.World.{World}
use Rattle.array_meaning.specs.declared.term.Term.{Term}
use Rattle.array_meaning.specs.declared.term.Term.TheVariants as term
use Rattle.array_meaning.specs.Terms.{terms_open}
use Rattle.array_meaning.specs.Stage1 as source
use Rattle.array_meaning.specs.Stage2 as later
use Rattle.hlfir_ops.specs.declared.what.ValueBinary.{ValueBinary}
use Rattle.hlfir_ops.specs.declared.what.What.TheVariants as what
use Rattle.hlfir_ops.specs.Numbers.{numbers_of}
use Rattle.hlfir_ops.specs.RulesValues.{rank_of}
use Rattle.hlfir_ops.specs.RulesForms.{result_elem}
use Rattle.hlfir_meaning.specs.Environments.{Environment, scalar_in}
use Rattle.hlfir_meaning.specs.Operators as operators
use Rattle.hlfir_meaning.specs.Operators.{operation_value, operation_map}
use Rattle.hlfir_meaning.specs.Stage1.{stage1}
use Rattle.lower_values.specs.declared.operand.Operand.{Operand}
use Rattle.lower_values.specs.Scopes.{Scope}
use Rattle.lower_values.specs.Lowerings.{Lowering, done, ◌>>=◌ as ◌then◌}
use Rattle.lower_values.specs.Operations.{rank_from, at_each, binary_operation, joined}
use Rattle.lower_values.specs.Values.{value, nested}
use Rattle.value_laws.specs.Standing.{Kept, Does, Stands}
use Rattle.value_laws.specs.Arguments.{ArgumentsStand}
use Rattle.value_laws.proofs.Calls.{operands-call, values-call, settled-call}
use Rattle.value_laws.proofs.Columns.{IsNesting, total-last}
use Rattle.value_laws.proofs.Gathered.{then_scalar, scalars-last, operands-last, gathered_by, gathered, called-gives, IsTotal, Gathers, gathers-one, gathers-more}
use Rattle.value_laws.proofs.Moved.{stands-moved, kept-alike}
use Rattle.value_laws.proofs.Operations.{two_values, binary-elementwise, does-on_scalars, does-at_each, operation-scalar, operation-array, max-left, max-right, max-none}
use Rattle.value_laws.proofs.Settled.{settle_if, StandsIf, does-scalar_if}
use Rattle.value_laws.proofs.Walking.{does-done, does-then}

pub then_nothing : (r : Staged Term) → (r >>= (λ t. Ok t)) ≡ r
then_nothing (Ok t) = refl
then_nothing (Err e) = refl

module _ (op : ValueBinary) (w : CallWord) (f : ℤ → ℤ → ℤ) (total : ℤ → List ℤ → ℤ) (is : IsNesting op w f total) where
  -- ---- one more argument

  module _ (vectors : List ℕ) (base low middle : ℕ) (s : Scope) (n : ℕ) (env : Environment) (x y : Operand) (g : base ≤ low) (l : low ≤ middle) (m : middle ≤ n) (b : Bool) (among : is_among n vectors ≡ b)
      (t : Term) (ts : List Term) (so_far : Term) (gathers : Gathers op w f total is (t ∷ ts) so_far) (hx : Stands base low middle env x so_far) where
    abbrev all_of : Term → List Term
    all_of u = (t ∷ ts) ++ u ∷ []

    abbrev Joins : Staged Term → Type 0
    Joins r = Does vectors s n env (binary_operation op x y) (settle_if b r) (λ z v k after. StandsIf b base low k after z v)

    scalars_join : (v : ℤ) (vs : List ℤ) (z : ℤ) → so_far ≡ term.Scalar (total v vs) → Stands base middle n env y (term.Scalar z) → Joins (Ok (term.Scalar (total v (vs ++ z ∷ []))))
    scalars_join v vs z at hy =
        let h : Stands base low middle env x (term.Scalar (total v vs)) = subst (λ u. Stands base low middle env x u) at hx in
        does-scalar_if vectors base low s n env (binary_operation op x y) b (Ok (total v (vs ++ z ∷ [])))
        (subst (λ p. Does vectors s n env p (Ok (term.Scalar (total v (vs ++ z ∷ [])))) (λ q u j after. Stands base low j after q u))
        (sym (operation-scalar (what.Binary op) (result_elem op) (x ∷ y ∷ []) (max-none (max 0 (rank_of x.kind)) (rank_of y.kind) (max-none 0 (rank_of x.kind) refl h.rank.0) hy.rank.0)))
        (does-on_scalars vectors base low s n env (x ∷ y ∷ []) (so_far ∷ term.Scalar z ∷ []) (what.Binary op) (result_elem op) 2 (operation_map (operators.binary_operation op)) (λ us. scalar_of (operation_value (operators.binary_operation op) us))
        (binary-elementwise op) refl (omega (arith, l, m)) (Ok (total v (vs ++ z ∷ [])))
        (ap (λ a. scalar_of (operation_value (operators.binary_operation op) (scalar_in a ∷ scalar_in (env y.value.number) ∷ []))) (h.found ∙ h.rank.1)
        ∙ (ap (λ c. scalar_of (operation_value (operators.binary_operation op) (total v vs ∷ scalar_in c ∷ []))) (hy.found ∙ hy.rank.1)
        ∙ (ap (λ o. scalar_of (operation_value o (total v vs ∷ z ∷ []))) is.acts
        ∙ (ap scalar_of (is.value (total v vs) (z ∷ []))
        ∙ ap (λ k. let r : Staged ℤ = Ok k in r) (is.more (total v vs) z [] ∙ (is.one (f (total v vs) z) ∙ sym (total-last op w f total is v vs z)))))))))

    arrays_join : (u : Term) → Stands base middle n env y u → (rank_from 0 (x ∷ y ∷ []) == 0) ≡ false → Joins (Ok (term.Call w (all_of u)))
    unfolding terms_open
    arrays_join u hy higher =
        subst (λ p. Does vectors s n env p (settle_if b (Ok (term.Call w (all_of u)))) (λ z v j after. StandsIf b base low j after z v)) (sym (operation-array (what.Binary op) (result_elem op) (x ∷ y ∷ []) higher))
        (subst (λ q. Does vectors s n env (at_each (what.Binary op) (result_elem op) (rank_from 0 (x ∷ y ∷ [])) (x ∷ y ∷ [])) q (λ z v j after. StandsIf b base low j after z v)) (sym (settled-call b w (all_of u)))
        (does-at_each vectors base low s n env (x ∷ y ∷ []) (so_far ∷ u ∷ []) (what.Binary op) (result_elem op) 2 (operation_map (operators.binary_operation op)) (λ us. scalar_of (operation_value (operators.binary_operation op) us))
        (binary-elementwise op) refl (rank_from 0 (x ∷ y ∷ [])) g (middle, l, hx, (n, m, hy, omega arith)) (term.Call w (all_of u)) b among higher
        (operands-call (all_of u) ∙ (operands-last (t ∷ ts) u ∙ ap (λ es. es ++ (later.operands u ++ [])) (sym gathers.operands)))
        (λ at. ap (λ r. r >>= call_map w at) (values-call (all_of u) at)
        ∙ (sym (gathers.values at u)
        ∙ (ap (λ o. later.values so_far at >>= (λ xs. later.values u at >>= (λ ys. operation_map o at (xs ∷ ys ∷ [])))) (sym is.acts)
        ∙ sym (two_values (later.values so_far at) (later.values u at) (operation_map (operators.binary_operation op) at))))) (λ v. higher)))

    join_by : (o : Option (List ℤ)) → IsTotal op w f total is o so_far → (u : Term) → Stands base middle n env y u → Joins (Ok (gathered_by op w f total is (all_of u) (then_scalar o u)))
    join_by (Some []) at u hy = absurd at
    join_by (Some (v ∷ vs)) at (term.Scalar z) hy = scalars_join v vs z at hy
    join_by (Some (v ∷ vs)) at u hy = arrays_join u hy (max-right (max 0 (rank_of x.kind)) (rank_of y.kind) hy.rank)
    join_by None at u hy = arrays_join u hy (max-left (max 0 (rank_of x.kind)) (rank_of y.kind) (max-right 0 (rank_of x.kind) (at x.kind hx.value hx.rank)))

    pub does-join : (u : Term) → Stands base middle n env y u → Joins (Ok (gathered op w f total is (all_of u)))
    does-join u hy = subst (λ o. Joins (Ok (gathered_by op w f total is (all_of u) o))) (sym (scalars-last (t ∷ ts) u)) (join_by (source.scalars (t ∷ ts)) gathers.total_is u hy)

  -- ---- all arguments

  reordered : (b : Bool) (r : Staged Term) (q : Staged (List Term)) (h : List Term → Staged Term) →
      settle_if b ((r >>= (λ t. q >>= (λ ts. let us : Staged (List Term) = Ok (t ∷ ts) in us))) >>= h) ≡ (r >>= (λ t. settle_if b (q >>= (λ ts. h (t ∷ ts)))))
  reordered true (Ok t) (Ok ts) h = refl
  reordered false (Ok t) (Ok ts) h = refl
  reordered true (Ok t) (Err e) h = refl
  reordered false (Ok t) (Err e) h = refl
  reordered true (Err e) q h = refl
  reordered false (Err e) q h = refl

  module _ (vectors : List ℕ) (base : ℕ) (start : Environment) (s : Scope) (world : World) (b : Bool) (low : ℕ) (g : base ≤ low) where
    abbrev Results : ℕ → Environment → Lowering Operand → Staged Term → Type 0
    Results n env p r = Does vectors s n env p (settle_if b r) (λ x t m after. StandsIf b base low m after x t)

    -- the call of these terms and the others after them
    abbrev rest_of : {k : _} → List Term → Exprs k → Staged Term
    rest_of ts es = source.walks world es >>= (λ us. source.called w (ts ++ us))

    abbrev nested_after : {k : _} → Exprs k → Operand → Operand → Lowering Operand
    nested_after es x y = joined op (Some x) y then (λ z. nested op (Some z) es)

    abbrev From : {k : _} → Exprs k → Type 0
    From {k} es = (e : Expr) (n : ℕ) (env : Environment) (x : Operand) (t : Term) (ts : List Term) (so_far : Term) → low ≤ n → Kept base start env → Gathers op w f total is (t ∷ ts) so_far → Stands base low n env x so_far →
        ArgumentsStand vectors base start s world op b (Some x) n (more_exprs e es) → Results n env (nested op (Some x) (more_exprs e es)) (rest_of (t ∷ ts) (more_exprs e es))

    last_join : (x y : Operand) (n m : ℕ) (env : Environment) (t : Term) (ts : List Term) (so_far u : Term) → low ≤ n → n ≤ m → is_among m vectors ≡ b → Gathers op w f total is (t ∷ ts) so_far → Stands base low n env x so_far → Stands base n m env y u →
        Results m env (nested_after end_exprs x y) (source.called w ((t ∷ ts) ++ u ∷ []))
    last_join x y n m env t ts so_far u l h among gathers hx hy =
        let all = t ∷ (ts ++ u ∷ []) in
        let r : Staged Term = settle_if b (Ok (gathered op w f total is all)) in
        subst (λ q. Does vectors s m env (nested_after end_exprs x y) q (λ z v j after. StandsIf b base low j after z v)) (then_nothing r ∙ ap (settle_if b) (sym (called-gives op w f total is t (ts ++ u ∷ []))))
        (does-then (stage1 vectors) s m env (joined op (Some x) y) (λ z. nested op (Some z) end_exprs) r (λ v. Ok v) (λ z v j after. StandsIf b base low j after z v) (λ z v j after. StandsIf b base low j after z v)
        (does-join vectors base low n s m env x y g l h b among t ts so_far gathers hx u hy)
        (λ v j after at kept hz. does-done (stage1 vectors) s j after (joined op (Some x) y s m).made v (λ z q i rho. StandsIf b base low i rho z q) hz))

    abbrev After : Term → Operand → ⊤ → ℕ → Environment → Type 0
    After t z u m after = Stands base low m after z t

    still_kept : (n : ℕ) (env after : Environment) → low ≤ n → Kept base start env → Kept n env after → Kept base start after
    still_kept n env after l since kept = λ k is. kept k (omega (arith, is, g, l)) ∙ since k is

    next_join : {k : _} (es : Exprs k) → From es → (e : Expr) (x y : Operand) (n m : ℕ) (env : Environment) (t : Term) (ts : List Term) (so_far u : Term) → low ≤ n → n ≤ m → Kept base start env → is_among m vectors ≡ false →
        Gathers op w f total is (t ∷ ts) so_far → Stands base low n env x so_far → Stands base n m env y u →
        ArgumentsStand vectors base start s world op b (Some (joined op (Some x) y s m).made) (m + numbers_of (joined op (Some x) y s m).ops) (more_exprs e es) →
        Results m env (nested_after (more_exprs e es) x y) (source.walks world (more_exprs e es) >>= (λ us. source.called w ((t ∷ ts) ++ u ∷ us)))
    next_join es from e x y n m env t ts so_far u l h since free gathers hx hy rest =
        let all = t ∷ (ts ++ u ∷ []) in
        let z = (joined op (Some x) y s m).made in
        let one = does-join vectors base low n s m env x y g l h false free t ts so_far gathers hx u hy in
        let left : List Term → Staged Term = λ us. source.called w (all ++ us) in
        let right : List Term → Staged Term = λ us. source.called w ((t ∷ ts) ++ u ∷ us) in
        let same : left ≡ right = fun_ext (λ us. ap (source.called w) (append_assoc (t ∷ ts) (u ∷ []) us)) in
        subst (λ q. Does vectors s m env (nested_after (more_exprs e es) x y) q (λ v c j after. StandsIf b base low j after v c)) (ap (λ h. settle_if b (source.walks world (more_exprs e es) >>= h)) same)
        (does-then (stage1 vectors) s m env (joined op (Some x) y) (λ v. nested op (Some v) (more_exprs e es)) (let done : Staged ⊤ = Ok tt in done) (λ _. settle_if b (rest_of all (more_exprs e es)))
        (After (gathered op w f total is all)) (λ v c j after. StandsIf b base low j after v c) (one.0, one.1, one.2)
        (λ _ j after at kept hz. from e j after z t (ts ++ u ∷ []) (gathered op w f total is all) (omega (arith, at, l, h)) (still_kept m env after (omega (arith, l, h)) since kept) (gathers-more op w f total is t (ts ++ u ∷ [])) hz
        (subst (λ i. ArgumentsStand vectors base start s world op b (Some z) i (more_exprs e es)) (sym at) rest)))

    -- an argument, and what comes after it
    with_argument : {k : _} (es : Exprs k) (e : Expr) (n : ℕ) (env : Environment) (x : Operand) (t : Term) (ts : List Term) (so_far : Term) → low ≤ n → Kept base start env → Stands base low n env x so_far →
        Does vectors s n env (value e) (source.walk world e) (λ y u m after. Stands base n m after y u) →
        ((u : Term) (middle : Environment) → n ≤ n + numbers_of (value e s n).ops → Kept base start middle → Stands base low n middle x so_far → Stands base n (n + numbers_of (value e s n).ops) middle (value e s n).made u →
        Results (n + numbers_of (value e s n).ops) middle (nested_after es x (value e s n).made) (source.walks world es >>= (λ us. source.called w ((t ∷ ts) ++ u ∷ us)))) →
        Results n env (nested op (Some x) (more_exprs e es)) (rest_of (t ∷ ts) (more_exprs e es))
    with_argument es e n env x t ts so_far l since hx here after =
        subst (λ q. Does vectors s n env (nested op (Some x) (more_exprs e es)) q (λ v c j rho. StandsIf b base low j rho v c))
        (sym (reordered b (source.walk world e) (source.walks world es) (λ us. source.called w ((t ∷ ts) ++ us))))
        (does-then (stage1 vectors) s n env (value e) (nested_after es x) (source.walk world e) (λ u. settle_if b (source.walks world es >>= (λ us. source.called w ((t ∷ ts) ++ u ∷ us))))
        (λ y u m rho. Stands base n m rho y u) (λ v c j rho. StandsIf b base low j rho v c) here
        (λ u m middle at kept hy. subst (λ j. Results j middle (nested_after es x (value e s n).made) (source.walks world es >>= (λ us. source.called w ((t ∷ ts) ++ u ∷ us)))) (sym at)
        (after u middle (omega arith) (still_kept n env middle l since kept) (stands-moved base low low n n env middle x so_far (omega arith) (omega arith) (kept-alike base low n env middle g l kept) hx)
        (subst (λ j. Stands base n j middle (value e s n).made u) at hy))))

    nested-from : {k : _} (es : Exprs k) → From es
    nested-from end_exprs e n env x t ts so_far l since gathers hx args =
        with_argument end_exprs e n env x t ts so_far l since hx (args.0 env since)
        (λ u middle h since' hx' hy. last_join x (value e s n).made n (n + numbers_of (value e s n).ops) middle t ts so_far u l h args.1 gathers hx' hy)
    nested-from (more_exprs d es) e n env x t ts so_far l since gathers hx args =
        with_argument (more_exprs d es) e n env x t ts so_far l since hx (args.0 env since)
        (λ u middle h since' hx' hy. next_join es (nested-from es) d x (value e s n).made n (n + numbers_of (value e s n).ops) middle t ts so_far u l h since' args.1 gathers hx' hy args.2)

    -- the first argument is taken as it is
    first_argument : {k : _} (es : Exprs k) (d : Expr) (x : Operand) (n : ℕ) (env : Environment) (t : Term) → low ≤ n → Kept base start env → Stands base low n env x t → ArgumentsStand vectors base start s world op b (Some x) n (more_exprs d es) →
        Results n env (joined op None x then (λ z. nested op (Some z) (more_exprs d es))) (source.walks world (more_exprs d es) >>= (λ us. source.called w (t ∷ us)))
    unfolding done
    first_argument es d x n env t l since hx args =
        does-then (stage1 vectors) s n env (done x) (λ z. nested op (Some z) (more_exprs d es)) (let taken : Staged ⊤ = Ok tt in taken) (λ _. settle_if b (rest_of (t ∷ []) (more_exprs d es)))
        (After t) (λ v c j rho. StandsIf b base low j rho v c) (does-done (stage1 vectors) s n env x tt (After t) hx) (λ _ m middle at kept hx'. after_it m middle at (still_kept n env middle l since kept) hx')
      where
        after_it : (m : ℕ) (middle : Environment) → m ≡ n + numbers_of (done x s n).ops → Kept base start middle → Stands base low m middle x t → Results m middle (nested op (Some x) (more_exprs d es)) (rest_of (t ∷ []) (more_exprs d es))
        after_it m middle at since' hx' = let same : m ≡ n = omega (arith, at) in
            nested-from es d m middle x t [] t (omega (arith, l, same)) since' (gathers-one op w f total is t) hx' (subst (λ j. ArgumentsStand vectors base start s world op b (Some x) j (more_exprs d es)) (sym same) args)

    pub does-nested : {k : _} (es : Exprs k) (e d : Expr) (n : ℕ) (env : Environment) → low ≤ n → Kept base start env → ArgumentsStand vectors base start s world op b None n (more_exprs e (more_exprs d es)) →
        Results n env (nested op None (more_exprs e (more_exprs d es))) (source.walks world (more_exprs e (more_exprs d es)) >>= source.called w)
    unfolding done
    does-nested es e d n env l since args =
        let first : Operand → Lowering Operand = λ x. joined op None x then (λ z. nested op (Some z) (more_exprs d es)) in
        let y = (value e s n).made in
        subst (λ q. Does vectors s n env (nested op None (more_exprs e (more_exprs d es))) q (λ v c j rho. StandsIf b base low j rho v c))
        (sym (reordered b (source.walk world e) (source.walks world (more_exprs d es)) (source.called w)))
        (does-then (stage1 vectors) s n env (value e) first (source.walk world e) (λ t. settle_if b (source.walks world (more_exprs d es) >>= (λ us. source.called w (t ∷ us))))
        (λ x t m rho. Stands base n m rho x t) (λ v c j rho. StandsIf b base low j rho v c) (args.0 env since)
        (λ t m middle at kept hy. first_argument es d y m middle t (omega (arith, at, l)) (still_kept n env middle l since kept) (stands-moved base n low m m middle middle y t l (omega arith) (λ k own. refl) hy)
        (subst (λ j. ArgumentsStand vectors base start s world op b (Some y) j (more_exprs d es)) (let same : n + numbers_of (value e s n).ops + 0 ≡ m = omega (arith, at) in same) args.2)))
