-- Expressions, by induction on the tree.
use Rattle.std.proofs.Common.{◌≡◌, refl, sym, ap, ◌∙◌, ℕ, suc, ◌+◌, ◌≤◌, Bool, true, false, List, [], ◌∷◌, ◌++◌, Option, Some, None, pos, arith}
use mathlib.Core.Former.{Count}
use Rattle.ws_base.specs.declared.refusal.RefusalKind.TheVariants as refusal
use Rattle.ws_tree.specs.declared.expr.Expr.{Expr}
use Rattle.ws_tree.specs.declared.expr.Expr.TheVariants.{Number, TooWide, TooDeep, Truth, Named, Part', Call', Vector'}
use Rattle.ws_tree.specs.declared.expr.Sub.TheVariants as sub
use Rattle.ws_tree.specs.Trees.{Exprs, end_exprs, more_exprs, Subs, end_subs, more_subs, Given, absent, given, paren, unary, binary}
use Rattle.ws_tree.specs.Grammatical.{IsExpr, AreExprs, AreSubs, IsGiven}
use Rattle.ws_types.specs.declared.types.Typed.{Typed}
use Rattle.ws_types.specs.declared.types.Row.{Row}
use Rattle.ws_types.specs.declared.types.Arguments.{Arguments}
use Rattle.ws_types.specs.Names.{standing_of}
use Rattle.ws_types.specs.Operations.{differ, with_argument, no_arguments, takes, is_inquiry, call_faults, unary_faults, binary_faults, scalar_faults, subscript_faults}
use Rattle.ws_types.specs.Expressions.{listed, how_many, typed, arguments, faults, all_faults, subs_faults, given_faults}
use Rattle.ws_sema.proofs.NoFaults.{none_first, none_after, allowed, right_false}
use Rattle.hlfir_ops.specs.declared.kinds.Elem.TheVariants.{I32}
use Rattle.hlfir_ops.specs.declared.what.BoundWord.TheVariants.{Lower, Upper}
use Rattle.hlfir_ops.specs.declared.what.ValueBinary.{ValueBinary}
use Rattle.hlfir_ops.specs.Numbers.{numbers_of}
use Rattle.hlfir_ops.specs.RulesValues.{Value, rank_of, is_reference}
use Rattle.hlfir_ops.specs.RulesForms.{operand_elem, result_elem}
use Rattle.lower_values.specs.declared.operand.Operand.{Operand}
use Rattle.lower_values.specs.declared.operand.Subscript.{Subscript}
use Rattle.lower_values.specs.Scopes.{Scope}
use Rattle.lower_values.specs.Lowerings.{Lowering, done, ◌>>=◌}
use Rattle.lower_values.specs.Operations.{constant, binary_of, binary_operation, in_parentheses, unary_operation, nesting_of, joined, call_on, vector}
use Rattle.lower_values.specs.References.{loaded, named, subscript_of, bound, inquiry}
use Rattle.lower_values.specs.Values.{value, values, nested, subscripts, given_or, part_of}
use Rattle.kind_laws.specs.Found.{Holds}
use Rattle.kind_laws.proofs.TypedExpressions.{types_are_known}
use Rattle.kind_laws.proofs.Held.{held-first, held-rest}
use Rattle.kind_laws.proofs.TypesTold.{scalar_says, no_wide}
use Rattle.form_laws.proofs.Operands.{IsFound}
use Rattle.form_laws.proofs.Typed.{IsOf}
use Rattle.form_laws.proofs.Walking.{Good, then-good, Leaves, then-leaves, done-leaves}
use Rattle.form_laws.proofs.References.{loaded-good, named-good, constant-good, truth-good}
use Rattle.form_laws.proofs.Parts.{SubFits, subscript-fits, integer-of}
use Rattle.form_laws.proofs.Calls.{call-good}
use Rattle.form_laws.proofs.Inquiries.{inquiry-good}
use Rattle.form_laws.proofs.Wholes.{parentheses-good}
use Rattle.form_laws.proofs.Folded.{is_right, chosen, not_chosen, folded-good, call_by-good, IsSoFar, so_far-good, joined-leaves}
use Rattle.form_laws.proofs.Stages.{Stage}
use Rattle.form_laws.proofs.Says.{small_number, subscript_says, unary_says, nested_says}
use Rattle.form_laws.proofs.Lowered as lowered

module _ (vs : List Value) (t : List Row) (s : Scope) (stage : Stage vs t s) (inside : Bool) (line : ℕ) where
  abbrev IsIndex : Operand → Type 0
  IsIndex x = lowered.IsIndex vs t s stage inside line x

  abbrev AreLowered : {m : Count} → Exprs m → List Operand → Type 0
  AreLowered es xs = lowered.AreLowered vs t s stage inside line es xs

  abbrev Subscripted : ℕ → List Subscript → Type 0
  Subscripted count cs = lowered.Subscripted vs t s stage inside line count cs

  mutual
    pub value-good : (e : Expr) (n : ℕ) → IsExpr e → faults t inside line e ≡ [] → Holds vs n (value e s n).ops → Good vs (value e s n)
    value-good (Number k) n h f held = constant-good vs I32 (pos k) (small_number k h) s n
    value-good TooWide n h f held = no_wide line f
    value-good TooDeep n h f held = absurd h
    value-good (Truth b) n h f held = truth-good vs b s n
    value-good (Named x) n h f held = folded-good vs s n (Named x) (named x) stage.constants (named-good vs s stage.scope x line n (standing_of t x) (stage.knows x) f) held
    value-good (Part' x _ subs) n h f held =
        let p = part_of x (λ r. subscripts r 1 subs) in
        let part = lowered.part-lowered vs t s stage inside line x subs n h.1 (none_first _ _ (none_first _ _ f)) (none_after _ _ f)
        (λ r k at reference many under. subs-leave r at reference subs 1 k (omega arith) (omega (arith, many)) h.2 (none_after _ _ (none_first _ _ f)) under) (held-first vs p loaded s n held) in
        then-good vs p loaded s n part.fit (loaded-good vs (p s n).made s (n + numbers_of (p s n).ops) part.found part.loadable)
    value-good (Call' w _ es) n h f held =
        let right = is_right (takes w (listed es)) line refusal.Unsupported _ f in
        let inner = allowed (takes w (listed es)) line refusal.Unsupported _ f in
        call_by-good vs s n w (nesting_of w) (is_inquiry w) (λ op. nested op None es) (inquiry w (listed es)) (values es >>= call_on w) refl refl
        (λ op nest under.
        let both = not_chosen (is_inquiry w) _ _ inner nest.no_inquiry in
        let says = nested_says line inside w op (arguments t inside no_arguments es) nest (none_after _ _ both) in
        nested-good op nest.takes nest.gives no_arguments None es n refl h.1 (none_first _ _ both) says.0 says.1 under)
        (λ is under. inquiry-good vs t s stage.knows stage.scope line n w (listed es) is right (chosen (is_inquiry w) _ _ inner is) under)
        (λ none other under.
        let both = not_chosen (is_inquiry w) _ _ inner other in
        let vals = values-leave es n h.1 (none_first _ _ both) (held-first vs (values es) (call_on w) s n under) in
        let m = n + numbers_of (values es s n).ops in
        then-good vs (values es) (call_on w) s n vals.fit
        (call-good vs line inside s m w (listed es) vals.holds.tys (values es s n).made vals.holds.many right other none vals.holds.are
        (ap (call_faults line inside w) (sym (vals.holds.known no_arguments)) ∙ none_after _ _ both) (held-rest vs (values es) (call_on w) s n under))) held
    value-good (Vector' _ es) n h f held =
        let vals = values-leave es n h.1 (none_first _ _ f) (held-first vs (values es) vector s n held) in
        then-good vs (values es) vector s n vals.fit
        (lowered.vector-lowered vs t s stage inside line es (values es s n).made (n + numbers_of (values es s n).ops) h.0 vals.holds (none_after _ _ f))
    value-good (paren e) n h f held = folded-good vs s n (paren e) (value e >>= in_parentheses) stage.constants (λ under.
        let here = held-first vs (value e) in_parentheses s n under in
        let good = value-good e n h f here in
        let ty = types_are_known t inside line e f in
        then-good vs (value e) in_parentheses s n good.fit (parentheses-good vs s (n + numbers_of (value e s n).ops) (value e s n).made (lowered.value-is vs t s stage inside line e n ty.0 h good f ty.1 here).stands)) held
    value-good (unary op e) n h f held = folded-good vs s n (unary op e) (value e >>= unary_operation op) stage.constants (λ under.
        let here = held-first vs (value e) (unary_operation op) s n under in
        let g = none_first _ _ f in
        let good = value-good e n h g here in
        let ty = types_are_known t inside line e g in
        let x = (value e s n).made in
        let m = n + numbers_of (value e s n).ops in
        then-good vs (value e) (unary_operation op) s n good.fit
        (lowered.unary-lowered vs t s stage inside line op ty.0 x m (lowered.value-is vs t s stage inside line e n ty.0 h good g ty.1 here)
        (unary_says line op ty.0 (ap (unary_faults line op) (sym ty.1) ∙ none_after _ _ f)) (held-rest vs (value e) (unary_operation op) s n under))) held
    value-good (binary op a b) n h f held = folded-good vs s n (binary op a b) (value a >>= (λ x. value b >>= binary_operation (binary_of op) x)) stage.constants (λ under.
        let q : Operand → Lowering Operand = λ x. value b >>= binary_operation (binary_of op) x in
        let here = held-first vs (value a) q s n under in
        let x = (value a s n).made in
        let m = n + numbers_of (value a s n).ops in
        let after = held-rest vs (value a) q s n under in
        let next = held-first vs (value b) (binary_operation (binary_of op) x) s m after in
        let fa = none_first _ _ (none_first _ _ f) in
        let fb = none_after _ _ (none_first _ _ f) in
        let ga = value-good a n h.0 fa here in
        let gb = value-good b m h.1 fb next in
        let ty = types_are_known t inside line a fa in
        let tz = types_are_known t inside line b fb in
        then-good vs (value a) q s n ga.fit (then-good vs (value b) (binary_operation (binary_of op) x) s m gb.fit
        (lowered.binary-lowered vs t s stage inside line op ty.0 tz.0 x (value b s m).made (m + numbers_of (value b s m).ops)
        (lowered.value-is vs t s stage inside line a n ty.0 h.0 ga fa ty.1 here) (lowered.value-is vs t s stage inside line b m tz.0 h.1 gb fb tz.1 next)
        (ap (λ o. binary_faults line op o (Some tz.0)) (sym ty.1) ∙ (ap (binary_faults line op (typed t inside a)) (sym tz.1) ∙ none_after _ _ f))
        (held-rest vs (value b) (binary_operation (binary_of op) x) s m after)))) held

    values-leave : {m : Count} (es : Exprs m) (n : ℕ) → AreExprs es → all_faults t inside line es ≡ [] → Holds vs n (values es s n).ops → Leaves vs (AreLowered es) (values es s n)
    values-leave end_exprs n h f held = done-leaves vs (AreLowered end_exprs) [] s n (record { tys = []; are = tt; known = λ a. refl; many = refl })
    values-leave (more_exprs e es) n h f held =
        let q : Operand → Lowering (List Operand) = λ x. values es >>= (λ xs. done (x ∷ xs)) in
        let here = held-first vs (value e) q s n held in
        let g = none_first _ _ f in
        let good = value-good e n h.0 g here in
        let ty = types_are_known t inside line e g in
        let x = (value e s n).made in
        let m = n + numbers_of (value e s n).ops in
        let last : List Operand → Lowering (List Operand) = λ xs. done (x ∷ xs) in
        let more = values-leave es m h.1 (none_after _ _ f) (held-first vs (values es) last s m (held-rest vs (value e) q s n held)) in
        let xs = (values es s m).made in
        then-leaves vs (AreLowered (more_exprs e es)) (value e) q s n good.fit (then-leaves vs (AreLowered (more_exprs e es)) (values es) last s m more.fit
        (done-leaves vs (AreLowered (more_exprs e es)) (x ∷ xs) s (m + numbers_of (values es s m).ops)
        (lowered.lowered-more vs t s stage inside line e es ty.0 x xs ty.1 (lowered.value-is vs t s stage inside line e n ty.0 h.0 good g ty.1 here) more.holds)))

    nested-good : {m : Count} (op : ValueBinary) → operand_elem op ≡ I32 → result_elem op ≡ I32 → (a : Arguments) (before : Option Operand) (es : Exprs m) (n : ℕ) → IsSoFar vs s n before a.rank → AreExprs es → all_faults t inside line es ≡ [] →
        (arguments t inside a es).truths ≡ false → (arguments t inside a es).mixed ≡ false → Holds vs n (nested op before es s n).ops → Good vs (nested op before es s n)
    nested-good op takes_is gives_is a before end_exprs n so_far h f truths mixed held = so_far-good vs s n before a.rank so_far
    nested-good op takes_is gives_is a before (more_exprs e es) n so_far h f truths mixed held =
        let q : Operand → Lowering Operand = λ y. joined op before y >>= (λ z. nested op (Some z) es) in
        let here = held-first vs (value e) q s n held in
        let g = none_first _ _ f in
        let good = value-good e n h.0 g here in
        let ty = types_are_known t inside line e g in
        let y = (value e s n).made in
        let m = n + numbers_of (value e s n).ops in
        let after = held-rest vs (value e) q s n held in
        let last : Operand → Lowering Operand = λ z. nested op (Some z) es in
        let b = with_argument a (Some ty.0) in
        let truths_b : (arguments t inside b es).truths ≡ false = ap (λ o. (arguments t inside (with_argument a o) es).truths) (sym ty.1) ∙ truths in
        let mixed_b : (arguments t inside b es).mixed ≡ false = ap (λ o. (arguments t inside (with_argument a o) es).mixed) (sym ty.1) ∙ mixed in
        let number = right_false a.truths ty.0.truth (lowered.kept_truths vs t s stage inside line es b truths_b) in
        let ranks = right_false a.mixed (differ a.rank ty.0.rank) (lowered.kept_mixed vs t s stage inside line es b mixed_b) in
        let one = joined-leaves vs s m op before a.rank ty.0 y takes_is gives_is so_far (lowered.value-is vs t s stage inside line e n ty.0 h.0 good g ty.1 here) number ranks (held-first vs (joined op before y) last s m after) in
        let z = (joined op before y s m).made in
        then-good vs (value e) q s n good.fit (then-good vs (joined op before y) last s m one.fit
        (nested-good op takes_is gives_is b (Some z) es (m + numbers_of (joined op before y s m).ops) one.holds h.1 (none_after _ _ f) truths_b mixed_b (held-rest vs (joined op before y) last s m after)))

    pub subs-leave : {m : Count} (r : Operand) → IsFound vs r → is_reference (Some r.kind) ≡ true → (subs : Subs m) (dim n : ℕ) → 1 ≤ dim → dim + how_many subs ≡ suc (rank_of r.kind) → AreSubs subs → subs_faults t inside line subs ≡ [] →
        Holds vs n (subscripts r dim subs s n).ops → Leaves vs (Subscripted (how_many subs)) (subscripts r dim subs s n)
    subs-leave r at reference end_subs dim n low high h f held = done-leaves vs (Subscripted 0) [] s n (tt, refl)
    subs-leave r at reference (more_subs (sub.One e) subs) dim n low high h f held =
        lowered.subs-more vs t s stage inside line r dim (sub.One e) subs n
        (λ under.
        let q : Operand → Lowering Subscript = λ x. done (subscript_of x) in
        let here = held-first vs (value e) q s n under in
        let g = none_first _ _ (none_first _ _ f) in
        let good = value-good e n h.0 g here in
        let ty = types_are_known t inside line e g in
        let says = subscript_says line ty.0 (ap (subscript_faults line) (sym ty.1) ∙ none_after _ _ (none_first _ _ f)) in
        let x = (value e s n).made in
        then-leaves vs (SubFits vs) (value e) q s n good.fit
        (done-leaves vs (SubFits vs) (subscript_of x) s (n + numbers_of (value e s n).ops) (subscript-fits vs ty.0 x (lowered.value-is vs t s stage inside line e n ty.0 h.0 good g ty.1 here) says.0 says.1)))
        (λ k under. subs-leave r at reference subs (suc dim) k (omega arith) (omega (arith, high)) h.1 (none_after _ _ f) under) held
    subs-leave r at reference (more_subs (sub.Range' l u st) subs) dim n low high h f held =
        let parts : (given_faults t inside line l ++ given_faults t inside line u ++ given_faults t inside line st) ≡ [] = none_first _ _ f in
        let within : dim ≤ rank_of r.kind = omega (arith, high) in
        lowered.subs-more vs t s stage inside line r dim (sub.Range' l u st) subs n
        (λ under. lowered.three-leave vs t s stage inside line (given_or (bound Lower dim r) l) (given_or (bound Upper dim r) u) (given_or (constant I32 (pos 1)) st) n
        (λ k on. given-leaves (bound Lower dim r) l k (λ j. lowered.bound-leaves vs t s stage inside line Lower dim r j at reference low within) h.0 (none_first _ _ (none_first _ _ parts)) on)
        (λ k on. given-leaves (bound Upper dim r) u k (λ j. lowered.bound-leaves vs t s stage inside line Upper dim r j at reference low within) h.1 (none_after _ _ (none_first _ _ parts)) on)
        (λ k on. given-leaves (constant I32 (pos 1)) st k (λ j. lowered.one-leaves vs t s stage inside line j) h.2 (none_after _ _ parts) on) under)
        (λ k under. subs-leave r at reference subs (suc dim) k (omega arith) (omega (arith, high)) h.3 (none_after _ _ f) under) held

    given-leaves : (other : Lowering Operand) (g : Given) (n : ℕ) → ((k : ℕ) → Holds vs k (other s k).ops → Leaves vs IsIndex (other s k)) → IsGiven g → given_faults t inside line g ≡ [] → Holds vs n (given_or other g s n).ops → Leaves vs IsIndex (given_or other g s n)
    given-leaves other absent n omitted h f held = omitted n held
    given-leaves other (given e) n omitted h f held =
        let g = none_first _ _ f in
        let good = value-good e n h g held in
        let ty = types_are_known t inside line e g in
        let says = scalar_says line ty.0 (ap (scalar_faults line) (sym ty.1) ∙ none_after _ _ f) in
        record { fit = good.fit; holds = integer-of vs ty.0 (value e s n).made (lowered.value-is vs t s stage inside line e n ty.0 h good g ty.1 held) says.0 says.1 }
