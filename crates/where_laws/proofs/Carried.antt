-- What is carried out on one target and on the one that stands for it.
use Rattle.std.proofs.Common.{◌≡◌, refl, sym, ap, ◌∙◌, subst, ℕ, ◌==◌, zero, suc, Bool, true, false, List, [], ◌∷◌, ◌++◌, Ok, ℤ, inl, inr, take, arith}
use Rattle.std.proofs.lemmas.Bool.{eqb-true}
use Rattle.std.specs.Prelude.{◌⊎◌}
use Rattle.ws_base.specs.Outcomes.{Staged}
use Rattle.ws_space.specs.declared.shape.Dim.{Dim}
use Rattle.ws_space.specs.declared.state.ArrayValue.{ArrayValue}
use Rattle.ws_space.specs.Shapes.{Extents, dims, extents_of, agreed}
use Rattle.ws_space.specs.Values.{kept}
use Rattle.ws_tree.specs.declared.expr.Expr.{Expr}
use Rattle.array_meaning.specs.declared.world.World.{World}
use Rattle.array_meaning.specs.declared.term.Term.{Term}
use Rattle.array_meaning.specs.Stage1.{whole_array}
use Rattle.array_meaning.specs.Stage2 as stage2
use Rattle.array_meaning.specs.Assign as source
use Rattle.hlfir_meaning.specs.Environments.{Yielded}
use Rattle.hlfir_meaning.specs.Stage2.{targets}
use Rattle.hlfir_meaning.specs.Assign.{Target, all_of, selected, movable, carried_out}
use Rattle.lower_values.specs.declared.names.Names.{Names}
use Rattle.value_laws.proofs.Names.{whole_operands}
use Rattle.world_laws.specs.Worlds.{FitsNames}
use Rattle.world_laws.specs.Yields.{YieldStands, TargetStands}
use Rattle.where_laws.specs.Steps.{MayFill, MayTake}
use Rattle.where_laws.proofs.Same.{Same, ok_same, some_same}
use Rattle.where_laws.proofs.Wholes.{whole-array}
use Rattle.where_laws.proofs.Places.{AreWithin, HaveShape, within_each, have_after}
use Rattle.where_laws.proofs.Targets.{Left, step_conform, whole_within, whole_carried, part_carried, moved_carried}

-- ---- all of a scalar, where no operand is an array

no_dims : (rank : ℕ) (d : Dim) (ds : List Dim) → (rank == 0) ≡ true → take rank (d ∷ ds) ≡ []
no_dims zero d ds h = refl
no_dims (suc n) d ds h = let none : suc n ≡ 0 = eqb-true (suc n) 0 h in absurd (omega (arith, none))

module _ (a : ArrayValue) (others : List Extents) (e : Extents) (places : List ℕ) where
  scalar_within : (a.shape.rank == 0) ≡ true → others ≡ [] → source.step_shape others (source.selection (whole_array a)) ≡ Ok e → AreWithin e places → AreWithin (extents_of (dims a.shape)) places
  scalar_within rank none shape within =
      let nothing : dims a.shape ≡ [] = no_dims a.shape.rank a.shape.d1 (a.shape.d2 ∷ a.shape.d3 ∷ []) rank in
      let bare : extents_of (dims a.shape) ≡ [] = ap extents_of nothing in
      let all : stage2.operands (whole_array a) ≡ [] = whole_operands a ∙ ap stage2.array_operand bare in
      let empty : (let r : Staged Extents = Ok [] in r) ≡ Ok e = sym (ap (λ o. agreed (o ++ stage2.operands (whole_array a))) none ∙ ap agreed all) ∙ shape in
      let same : [] ≡ e = ok_same [] e empty in
      subst (λ f. AreWithin f places) (sym (bare ∙ same)) within

  all_within : (b : Bool) → (a.shape.rank == 0) ≡ b → others ≡ [] → source.step_shape others (source.selection (whole_array a)) ≡ Ok e → AreWithin e places → AreWithin (extents_of (dims a.shape)) places
  all_within true is none shape within = scalar_within is none shape within
  all_within false is none shape within = whole_within a e places is (step_conform others (source.selection (whole_array a)) e shape).1 within

-- ---- each target

module _ (names : Names) (w : World) (line : ℕ) (left right : Expr) (r : Term) (y : Yielded) (in_where : Bool) (before : List Extents) (e : Extents) (places : List ℕ) where
  abbrev others : List Extents
  others = before ++ stage2.operands r

  module _ (stands : YieldStands w right y r) (alone : in_where ≡ false → before ≡ []) (within : AreWithin e places) where
    whole_target : (a : ArrayValue) → MayFill names w in_where left r (whole_array a) → source.step_shape others (source.selection (whole_array a)) ≡ Ok e →
        Same (Left names w line left right r y e places) (source.carried_out w line right r e places (source.selection (whole_array a))) (carried_out line y e places (all_of a))
    whole_target a may shape =
        let same : may.array ≡ a = some_same may.array a (sym may.of ∙ whole-array a) in
        let conform = step_conform others (source.selection (whole_array a)) e shape in
        whole_carried names w line left right r y e places stands (within_each e places (stage2.operands r) within (right_conform conform.0)) a (inside may.rank same conform.1)
        (subst (λ b. (xs : List ℤ) → FitsNames names (source.with_target w left (kept (dims b.shape) xs))) same may.fits)
      where
        right_conform : HaveShape e others → HaveShape e (stage2.operands r)
        right_conform h = have_after e before (stage2.operands r) h

        inside : ((may.array.shape.rank == 0) ≡ false) ⊎ ((in_where ≡ false) × (stage2.operands r ≡ [])) → may.array ≡ a → HaveShape e (stage2.operands (whole_array a)) → AreWithin (extents_of (dims a.shape)) places
        inside (inl rank) same conform = whole_within a e places (subst (λ b. (b.shape.rank == 0) ≡ false) same rank) conform within
        inside (inr scalar) same conform = all_within a others e places (a.shape.rank == 0) refl (ap (λ l. l ++ stage2.operands r) (alone scalar.0) ∙ scalar.1) shape within

    pub carried : (t : Target) (q : source.Target) → TargetStands t q → MayTake names w in_where left right r q → source.step_shape others q ≡ Ok e →
        Same (Left names w line left right r y e places) (source.carried_out w line right r e places q) (carried_out line y e places t)
    carried (all_of a) (source.selection t) h may shape =
        subst (λ u. MayFill names w in_where left r u → source.step_shape others (source.selection u) ≡ Ok e →
        Same (Left names w line left right r y e places) (source.carried_out w line right r e places (source.selection u)) (carried_out line y e places (all_of a))) (sym h) (whole_target a) may shape
    carried (all_of a) (source.movable s) h may shape = absurd h
    carried (selected a s) (source.selection t) h may shape =
        let same : may.array ≡ a = some_same may.array a (sym may.of ∙ h.0) in
        let conform = step_conform others (source.selection t) e shape in
        part_carried names w line left right r y e places stands (within_each e places (stage2.operands r) within (have_after e before (stage2.operands r) conform.0)) a t (targets a s places) h.0
        (h.2 places (within_each e places (stage2.operands t) within conform.1)) (subst (λ b. (xs : List ℤ) → FitsNames names (source.with_target w left (kept (dims b.shape) xs))) same may.fits)
    carried (selected a s) (source.movable r') h may shape = absurd h
    carried (movable s) (source.selection t) h may shape = absurd h
    carried (movable old) (source.movable s) h may shape =
        let none = alone may.outside in
        let conform = step_conform others (source.movable s) e shape in
        moved_carried names w line left right r y e places stands (within_each e places (stage2.operands r) within (have_after e before (stage2.operands r) conform.0)) s old h
        (λ xs. may.fits e xs (subst (λ l. source.step_shape (l ++ stage2.operands r) (source.movable s) ≡ Ok e) none shape))
