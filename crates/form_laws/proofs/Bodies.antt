-- An elementwise operation: an op on scalars, or an elemental with a body that has its form.
use Rattle.std.proofs.Common.{◌≡◌, refl, sym, ap, ◌∙◌, subst, ℕ, suc, ◌+◌, ◌-◌, ◌==◌, Bool, true, false, not, ◌&&◌, ◌||◌, nat_lt, List, [], ◌∷◌, ◌++◌, length, Some, None, slice_get, arith, if◌then◌else◌}
use Rattle.std.proofs.lemmas.List.{length-append}
use Rattle.std.proofs.lemmas.List.Folds.{list_all-append}
use Rattle.std.specs.List.{list_all}
use Rattle.std.proofs.lemmas.Bool.{and_from}
use Rattle.hlfir_ops.specs.declared.kinds.Elem.{Elem}
use Rattle.hlfir_ops.specs.declared.kinds.ValueKind.TheVariants.{Scalar, Array}
use Rattle.hlfir_ops.specs.declared.what.What.{What}
use Rattle.hlfir_ops.specs.declared.what.What.TheVariants as what
use Rattle.hlfir_ops.specs.declared.op.Op.{Op, Op-F, out-Op, out-roll-Op}
use Rattle.hlfir_ops.specs.declared.op.Region.{Region, out-Region, out-roll-Region}
use Rattle.hlfir_ops.specs.Trees.{op_of, region_of}
use Rattle.hlfir_ops.specs.Numbers.{numbers_of}
use Rattle.hlfir_ops.specs.RulesValues.{Value, kind_of, kind_at, same_elem, has_rank}
use Rattle.hlfir_ops.specs.RulesRegions.{is_apply, is_yield, is_yield_element, last_of, parts_of, parts, first_kind}
use Rattle.hlfir_ops.specs.RulesForms.{applies_rank, is_elemental_of}
use Rattle.lower_values.specs.declared.operand.Operand.{Operand}
use Rattle.lower_values.specs.Scopes.{Scope, inside}
use Rattle.lower_values.specs.Lowerings.{Lowered, ◌>>=◌, giving, acting, giving_by}
use Rattle.lower_values.specs.Operations.{values_of, arranged, on_scalars, at_positions, element, at_each}
use Rattle.kind_laws.specs.Found.{Holds}
use Rattle.form_laws.proofs.Passing.{AreFit, fit-append, fit-op, fit-region}
use Rattle.kind_laws.proofs.ScopesFound.{regions_are_held}
use Rattle.kind_laws.proofs.Finding.{holds_first, holds_after, own_value}
use Rattle.kind_laws.proofs.TypesTold.{same_elem-same}
use Rattle.form_laws.proofs.Operands.{AreScalars, Made}
use Rattle.form_laws.proofs.Elementals.{elems_of, TakesScalars, Conform, AllPositioned, positions-positioned}

-- the last one of a list
last_pushed : (xs : List Op) (x y : Op) → last_of (xs ++ (x ∷ y ∷ [])) ≡ Some y
last_pushed xs x y = ap (slice_get (xs ++ (x ∷ y ∷ []))) (let e : length (xs ++ (x ∷ y ∷ [])) - 1 ≡ length xs + 1 = omega (arith, length-append xs (x ∷ y ∷ [])) in e) ∙ get_pushed xs
  where
    get_pushed : (zs : List Op) → slice_get (zs ++ (x ∷ y ∷ [])) (length zs + 1) ≡ Some y
    get_pushed [] = refl
    get_pushed (z ∷ zs) = ap (slice_get (z ∷ (zs ++ (x ∷ y ∷ [])))) (let e : suc (length zs) + 1 ≡ suc (length zs + 1) = omega arith in e) ∙ get_pushed zs

module _ (vs : List Value) (w : What) (e : Elem) (es : List Elem) (t : TakesScalars w e es) (rank : ℕ) (some : (rank == 0) ≡ false) (s : Scope) (n : ℕ) (xs : List Operand) (same : elems_of xs ≡ es) (conform : Conform vs rank xs) where
  -- ---- the ops of a body

  module _ (c : Scope) (k : ℕ) where
    abbrev front : Lowered (List Operand)
    front = at_positions xs c k

    abbrev m : ℕ
    m = k + numbers_of front.ops

    abbrev worker : Op
    worker = op_of w c.line (arranged w (values_of front.made)) (Some (Scalar e)) []

    abbrev yielder_fields : Op-F Op Region
    yielder_fields = record { what = what.YieldElement; line = c.line; operands = record { number = m } ∷ []; kind = None; regions = [] }

    abbrev yielder : Op
    yielder = op_of what.YieldElement c.line (record { number = m } ∷ []) None []

    element-ops : (element w e xs c k).ops ≡ front.ops ++ (worker ∷ yielder ∷ [])
    unfolding element on_scalars giving acting ◌>>=◌
    element-ops = refl

    module _ (held : Holds vs k (element w e xs c k).ops) where
      held_parts : Holds vs k (front.ops ++ (worker ∷ yielder ∷ []))
      held_parts = subst (Holds vs k) element-ops held

      positioned : AllPositioned vs rank xs front
      positioned = positions-positioned vs rank xs c k conform (holds_first vs k front.ops (worker ∷ yielder ∷ []) held_parts)

      scalars : AreScalars vs front.made es
      scalars = subst (AreScalars vs front.made) same positioned.found

      body_fit : AreFit vs true (element w e xs c k).ops
      body_fit = subst (AreFit vs true) (sym element-ops)
          (fit-append vs true front.ops (worker ∷ yielder ∷ []) positioned.fit
          (fit-append vs true (worker ∷ []) (yielder ∷ [])
          (fit-op vs true w c.line (arranged w (values_of front.made)) (Some (Scalar e)) [] (t.fits vs true c.line front.made scalars) tt)
          (fit-op vs true what.YieldElement c.line (record { number = m } ∷ []) None [] refl tt)))

      result_found : kind_at vs (record { number = m }) ≡ Some (Scalar e)
      result_found = ap kind_of (own_value vs m w c.line (arranged w (values_of front.made)) (Scalar e) [] [] (holds_first vs m (worker ∷ []) (yielder ∷ []) (holds_after vs k front.ops (worker ∷ yielder ∷ []) held_parts)))

      no_rank : (f : Op-F Op Region) → is_apply f.what ≡ false → (o : Op) → out-Op o ≡ f → applies_rank vs rank o ≡ true
      no_rank f none o is = ap (λ g. not (is_apply g.what) || list_all (λ v. has_rank rank (kind_at vs v)) g.operands) is ∙ ap (λ b. not b || list_all (λ v. has_rank rank (kind_at vs v)) f.operands) none

      ranked : list_all (applies_rank vs rank) (element w e xs c k).ops ≡ true
      ranked =
          let worker_fields : Op-F Op Region = record { what = w; line = c.line; operands = arranged w (values_of front.made); kind = Some (Scalar e); regions = [] } in
          ap (list_all (applies_rank vs rank)) element-ops
          ∙ (list_all-append (applies_rank vs rank) front.ops (worker ∷ yielder ∷ [])
          ∙ and_from _ _ positioned.applies (and_from _ _ (no_rank worker_fields t.no_apply worker (out-roll-Op worker_fields)) (and_from _ _ (no_rank yielder_fields refl yielder (out-roll-Op yielder_fields)) refl)))

      yielded : first_kind vs (parts (element w e xs c k).ops) ≡ Some (Scalar e)
      yielded =
          ap (λ os. first_kind vs (parts os)) element-ops
          ∙ (ap (λ o. first_kind vs (parts_of o)) (last_pushed front.ops worker yielder)
          ∙ (ap (λ f. first_kind vs (if is_yield f.what || is_yield_element f.what then f.operands else [])) (out-roll-Op yielder_fields) ∙ result_found))

      elemental : is_elemental_of vs (element w e xs c k).ops (first_kind vs (parts (element w e xs c k).ops)) (Some (Array e rank)) ≡ true
      elemental =
          ap (λ o. is_elemental_of vs (element w e xs c k).ops o (Some (Array e rank))) yielded
          ∙ and_from (same_elem e e && nat_lt 0 rank) (list_all (applies_rank vs rank) (element w e xs c k).ops) (and_from (same_elem e e) (nat_lt 0 rank) (same_elem-same e) (grind (arith, some))) ranked

  -- ---- the elemental

  abbrev c : Scope
  c = inside what.Elemental s.line 0 (n + 1) s

  abbrev first : ℕ
  first = n + 1 + 0

  abbrev body : List Op
  body = (element w e xs c first).ops

  pub at_each-made : Holds vs n (at_each w e rank xs s n).ops → (b : Bool) → Made vs b (at_each w e rank xs s n)
  unfolding at_each giving_by
  at_each-made held b =
      let regions : List Region = region_of body ∷ [] in
      let inner : Holds vs first body = (regions_are_held vs what.Elemental s.line [] (Some (Array e rank)) (element w e xs ∷ []) s n [] held).1 in
      let form : Region → Bool = λ r. is_elemental_of vs (out-Region r).ops (first_kind vs (parts (out-Region r).ops)) (Some (Array e rank)) in
      record {
        fit = fit-op vs b what.Elemental s.line [] (Some (Array e rank)) regions
            (ap (λ r. is_elemental_of vs r.ops (first_kind vs (parts r.ops)) (Some (Array e rank))) (out-roll-Region (record { ops = body })) ∙ elemental c first inner)
            (fit-region vs true body (body_fit c first inner), tt);
        stands = record { found = ap kind_of (own_value vs n what.Elemental s.line [] (Array e rank) regions [] held); solid = some };
      }
