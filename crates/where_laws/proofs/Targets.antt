-- The left side of a step: its conformance and its replacement.
use Rattle.std.proofs.Common.{◌≡◌, refl, sym, ap, ◌∙◌, subst, ℕ, ◌==◌, zero, suc, false, List, [], ◌∷◌, ◌++◌, Result, Ok, Err, ℤ, Option, Some, None, take, true≢false}
use Rattle.std.proofs.lemmas.List.Elements.{All-nil, All-head}
use Rattle.ws_base.specs.Outcomes.{Staged, ◌>>=◌}
use Rattle.ws_space.specs.declared.shape.Dim.{Dim}
use Rattle.ws_space.specs.declared.state.ArrayValue.{ArrayValue}
use Rattle.ws_space.specs.declared.state.VarState.{VarState}
use Rattle.ws_space.specs.Shapes.{Extents, dims, extents_of, agreed}
use Rattle.ws_space.specs.Values.{stored, first_repeat, kept}
use Rattle.ws_space.specs.Replace.{moved, moved_shape, replaced, unless_repeated, filled}
use Rattle.ws_space.specs.Faults.{at_places}
use Rattle.ws_tree.specs.declared.expr.Expr.{Expr}
use Rattle.array_meaning.specs.declared.world.World.{World}
use Rattle.array_meaning.specs.declared.term.Term.{Term}
use Rattle.array_meaning.specs.Stage1.{whole_array}
use Rattle.array_meaning.specs.Stage2 as stage2
use Rattle.array_meaning.specs.Assign as source
use Rattle.hlfir_meaning.specs.Environments.{Yielded, result}
use Rattle.hlfir_meaning.specs.Selections.{array_operand}
use Rattle.hlfir_meaning.specs.Stage2.{values}
use Rattle.hlfir_meaning.specs.Assign.{Target, all_of, selected, movable, step_shape, carried_out, new_bounds}
use Rattle.lower_values.specs.declared.names.Names.{Names}
use Rattle.value_laws.specs.Standing.{AreIn}
use Rattle.value_laws.proofs.Evaluated.{agreed-all}
use Rattle.value_laws.proofs.Names.{whole_operands}
use Rattle.value_laws.proofs.Wholes.{whole-targets, same_operand}
use Rattle.world_laws.specs.Worlds.{FitsNames}
use Rattle.world_laws.specs.Yields.{YieldStands, TargetStands}
use Rattle.where_laws.proofs.Same.{Same, same_then, same_equal}
use Rattle.where_laws.proofs.Wholes.{whole-array}
use Rattle.where_laws.proofs.Places.{AreWithin, HaveShape, have_first, have_after}

-- ---- conformance

pub step_shape-same : (others : List Extents) (t : Target) (q : source.Target) → TargetStands t q → step_shape others t ≡ source.step_shape others q
step_shape-same others (all_of a) (source.selection t) h =
    ap (λ o. agreed (others ++ o)) (same_operand (extents_of (dims a.shape)) ∙ (sym (whole_operands a) ∙ ap stage2.operands (sym h)))
step_shape-same others (all_of a) (source.movable r) h = absurd h
step_shape-same others (selected a s) (source.selection t) h = ap (λ o. agreed (others ++ o)) h.1
step_shape-same others (selected a s) (source.movable r) h = absurd h
step_shape-same others (movable s) (source.selection t) h = absurd h
step_shape-same others (movable s) (source.movable r) h = ap (λ x. agreed others >>= moved_shape others x) h

-- the operands of the left side, but for one that may change its shape
abbrev pub target_operands : source.Target → List Extents
target_operands (source.selection t) = stage2.operands t
target_operands (source.movable s) = []

or_none : {A E : Type 0} → A → Result A E → A
or_none d (Ok x) = x
or_none d (Err e) = d

pub moved_conform : (others : List Extents) (s : VarState) (e : Extents) (r : Staged Extents) → agreed others ≡ r → (r >>= moved_shape others s) ≡ Ok e → HaveShape e others
moved_conform [] s e r is h = All-nil (λ f. f ≡ e)
moved_conform (o ∷ os) s e (Ok f) is h = agreed-all (o ∷ os) e (is ∙ h)
moved_conform (o ∷ os) s e (Err t) is h = absurd (elim_err h) where
  elim_err : (let bad : Staged Extents = Err t in bad) ≡ Ok e → ⊥
  elim_err g = cc

pub step_conform : (others : List Extents) (q : source.Target) (e : Extents) → source.step_shape others q ≡ Ok e → HaveShape e others × HaveShape e (target_operands q)
step_conform others (source.selection t) e h =
    let all = agreed-all (others ++ stage2.operands t) e h in
    (have_first e others (stage2.operands t) all, have_after e others (stage2.operands t) all)
step_conform others (source.movable s) e h = (moved_conform others s e (agreed others) refl h, All-nil (λ f. f ≡ e))

-- ---- the replacement

replaced-kept : (line : ℕ) (places : List ℕ) (a : ArrayValue) (ts : List ℕ) (xs : List ℤ) (P : VarState → Type 0) → ((ys : List ℤ) → P (kept (dims a.shape) ys)) →
    Same (λ s o. (o ≡ s) × P s) (replaced line places a ts xs) (replaced line places a ts xs)
replaced-kept line places a ts xs P h = at_repeat (first_repeat ts) where
  at_repeat : (k : Option ℕ) → Same (λ s o. (o ≡ s) × P s) (unless_repeated line places k (filled a ts xs)) (unless_repeated line places k (filled a ts xs))
  at_repeat None = (filled a ts xs, refl, (refl, h (stored a.values ts xs)))
  at_repeat (Some k) = refl

module _ (names : Names) (w : World) (line : ℕ) (left right : Expr) (r : Term) (y : Yielded) (e : Extents) (places : List ℕ) where
  abbrev Refits : VarState → Type 0
  Refits s = FitsNames names (source.with_target w left s)

  abbrev pub Left : VarState → VarState → Type 0
  Left s o = (o ≡ s) × Refits s

  module _ (stands : YieldStands w right y r) (conform : AreIn places (stage2.operands r)) where
    same_values : Same (λ xs zs. zs ≡ xs) (at_places line places (stage2.values r places)) (at_places line places (values y places))
    same_values = same_equal (at_places line places (stage2.values r places)) (at_places line places (values y places)) (ap (at_places line places) (stands.values places conform))

    known_array : (o : Option ArrayValue) (a : ArrayValue) (ts : List ℕ) (xs : List ℤ) → o ≡ Some a → ((ys : List ℤ) → Refits (kept (dims a.shape) ys)) → Same Left (source.replaced_in line places o ts xs) (replaced line places a ts xs)
    known_array o a ts xs is h = subst (λ p. Same Left (source.replaced_in line places p ts xs) (replaced line places a ts xs)) (sym is) (replaced-kept line places a ts xs Refits h)

    -- all of a variable
    pub whole_carried : (a : ArrayValue) → AreWithin (extents_of (dims a.shape)) places → ((ys : List ℤ) → Refits (kept (dims a.shape) ys)) →
        Same Left (source.carried_out w line right r e places (source.selection (whole_array a))) (carried_out line y e places (all_of a))
    whole_carried a within h =
        same_then (λ xs zs. zs ≡ xs) Left (at_places line places (stage2.values r places)) (at_places line places (values y places))
        (λ xs. at_places line places (stage2.targets (whole_array a) places) >>= (λ ts. source.replaced_in line places (stage2.array_of (whole_array a)) ts xs)) (λ zs. replaced line places a places zs) same_values
        (λ xs zs _ is. subst (λ l. Same Left (at_places line places (stage2.targets (whole_array a) places) >>= (λ ts. source.replaced_in line places (stage2.array_of (whole_array a)) ts xs)) (replaced line places a places l)) (sym is)
        (subst (λ ts. Same Left (at_places line places ts >>= (λ l. source.replaced_in line places (stage2.array_of (whole_array a)) l xs)) (replaced line places a places xs)) (sym (whole-targets a places within))
        (known_array (stage2.array_of (whole_array a)) a places xs (whole-array a) h)))

    pub part_carried : (a : ArrayValue) (t : Term) (found : Staged (List ℕ)) → stage2.array_of t ≡ Some a → found ≡ stage2.targets t places → ((ys : List ℤ) → Refits (kept (dims a.shape) ys)) →
        Same Left (source.carried_out w line right r e places (source.selection t)) (at_places line places (values y places) >>= (λ zs. at_places line places found >>= (λ ts. replaced line places a ts zs)))
    part_carried a t found is same h =
        same_then (λ xs zs. zs ≡ xs) Left (at_places line places (stage2.values r places)) (at_places line places (values y places))
        (λ xs. at_places line places (stage2.targets t places) >>= (λ ts. source.replaced_in line places (stage2.array_of t) ts xs)) (λ zs. at_places line places found >>= (λ ts. replaced line places a ts zs)) same_values
        (λ xs zs _ eq. same_then (λ ts us. us ≡ ts) Left (at_places line places (stage2.targets t places)) (at_places line places found)
        (λ ts. source.replaced_in line places (stage2.array_of t) ts xs) (λ ts. replaced line places a ts zs)
        (same_equal (at_places line places (stage2.targets t places)) (at_places line places found) (ap (at_places line places) same))
        (λ ts us _ here. subst (λ l. Same Left (source.replaced_in line places (stage2.array_of t) ts xs) (replaced line places a us l)) (sym eq)
        (subst (λ l. Same Left (source.replaced_in line places (stage2.array_of t) ts xs) (replaced line places a l xs)) (sym here) (known_array (stage2.array_of t) a ts xs is h))))

    pub moved_carried : (s old : VarState) → old ≡ s → ((xs : List ℤ) → Refits (moved (source.new_bounds w right e) s e xs)) → Same Left (source.carried_out w line right r e places (source.movable s)) (carried_out line y e places (movable old))
    moved_carried s old is h =
        same_then (λ xs zs. zs ≡ xs) Left (at_places line places (stage2.values r places)) (at_places line places (values y places))
        (λ xs. Ok (moved (source.new_bounds w right e) s e xs)) (λ zs. Ok (moved (new_bounds (result y) e) old e zs)) same_values
        (λ xs zs _ eq. (moved (new_bounds (result y) e) old e zs, refl, (ap (λ b. moved b old e zs) (stands.bounds e) ∙ (ap (λ x. moved (source.new_bounds w right e) x e zs) is ∙ ap (moved (source.new_bounds w right e) s e) eq), h xs)))

-- the places inside the shape lie inside a whole array that conforms to it, and inside a scalar where nothing has a dimension
some_dims : (rank : ℕ) (d : Dim) (ds : List Dim) (e : Extents) (places : List ℕ) → (rank == 0) ≡ false → HaveShape e (stage2.array_operand (extents_of (take rank (d ∷ ds)))) → AreWithin e places → AreWithin (extents_of (take rank (d ∷ ds))) places
some_dims zero d ds e places h conform within = absurd (true≢false h)
some_dims (suc n) d ds e places h conform within = subst (λ f. AreWithin f places) (sym (All-head (λ f. f ≡ e) (extents_of (take (suc n) (d ∷ ds))) [] conform)) within

pub whole_within : (a : ArrayValue) (e : Extents) (places : List ℕ) → (a.shape.rank == 0) ≡ false → HaveShape e (stage2.operands (whole_array a)) → AreWithin e places → AreWithin (extents_of (dims a.shape)) places
whole_within a e places h conform within =
    some_dims a.shape.rank a.shape.d1 (a.shape.d2 ∷ a.shape.d3 ∷ []) e places h (subst (HaveShape e) (whole_operands a) conform) within
