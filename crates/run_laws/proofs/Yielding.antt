-- Several scalars of one region: of a DO, and of an item of ALLOCATE.
use Rattle.std.proofs.Common.{◌≡◌, refl, sym, ap, ◌∙◌, subst, ℕ, ◌+◌, List, [], ◌∷◌, ◌++◌, map, All, None, Ok, Err, ℤ}
use Rattle.ws_base.specs.Outcomes.{Staged}
use Rattle.ws_space.specs.Values.{is_among}
use Rattle.ws_tree.specs.declared.expr.Expr.{Expr}
use Rattle.ws_types.specs.declared.types.Row.{Row}
use Rattle.array_meaning.specs.declared.world.World.{World}
use Rattle.hlfir_ops.specs.declared.what.What.TheVariants as what
use Rattle.hlfir_ops.specs.declared.op.ValueId.{ValueId}
use Rattle.hlfir_ops.specs.declared.op.Op.{Op}
use Rattle.hlfir_ops.specs.Numbers.{numbers_of}
use Rattle.hlfir_meaning.specs.Environments.{scalar, Environment, of_variables, Yielded, yielding}
use Rattle.hlfir_meaning.specs.Stage1.{subscript_numbers, once, walk}
use Rattle.lower_values.specs.declared.operand.Operand.{Operand}
use Rattle.lower_values.specs.Scopes.{Scope}
use Rattle.lower_values.specs.Lowerings.{Lowering}
use Rattle.lower_values.specs.Lists.{values}
use Rattle.lower_assign.specs.Statements.{all_yielded}
use Rattle.value_laws.specs.Standing.{Goes}
use Rattle.value_laws.proofs.Ops.{ending}
use Rattle.world_laws.specs.Yields.{region, scalars_of}
use Rattle.world_laws.specs.Meanings.{StandsOutside, IsIntegerScalar, ListsMean}
use Rattle.world_laws.proofs.Listing.{IsList}
use Rattle.world_laws.proofs.Yielding.{yield_of, yielded_ops, yield_subscripts}

-- the region faults as the scalars do, or yields values that are these
abbrev pub YieldsScalars : World → ℕ → List Op → Staged (List ℤ) → Type 0
YieldsScalars w n ops (Ok zs) = (y : Yielded) × (walk (of_variables w.vars) (region n ops) ≡ Ok y) × (map (λ v. y.env v.number) y.parts ≡ map scalar zs)
YieldsScalars w n ops (Err t) = walk (of_variables w.vars) (region n ops) ≡ Err t

map-numbers : (env : Environment) (xs : List Operand) → map (λ v. env v.number) (map (λ x. x.value) xs) ≡ map (λ x. env x.value.number) xs
map-numbers env [] = refl
map-numbers env (x ∷ xs) = ap (λ l. env x.value.number ∷ l) (map-numbers env xs)

module _ (s : Scope) (n : ℕ) (w : World) (ops : List Op) (xs : List Operand) where
  abbrev whole : List Op
  whole = ops ++ yield_of s (map (λ x. x.value) xs) ∷ []

  walked : (r : Staged (List ℤ)) → Goes (subscript_numbers whole) n (of_variables w.vars) ops r (λ zs after. map (λ x. after x.value.number) xs ≡ map scalar zs) → YieldsScalars w n whole r
  walked (Ok zs) h =
      let vs = map (λ x. x.value) xs in (
        yielding h.0 vs,
        h.1.walked (yield_of s vs ∷ []) ∙ ending what.Yield s.line vs None [] (once (subscript_numbers whole)) (n + numbers_of ops) h.0 [] refl,
        map-numbers h.0 xs ∙ h.2,
      )
  walked (Err t) h = h (yield_of s (map (λ x. x.value) xs) ∷ [])

pub list_yielded : ListsMean → (t : List Row) (line : ℕ) (es : List Expr) (p : Lowering (List ValueId)) → IsList p es → (s : Scope) (n : ℕ) (w : World) → StandsOutside t s w n → All (IsIntegerScalar t line) es →
    YieldsScalars w n (all_yielded p s n).ops (scalars_of w es)
list_yielded lists t line es p list s n w stands each =
    let a = values es s n in
    let vs = map (λ x. x.value) a.made in
    subst (λ l. YieldsScalars w n l (scalars_of w es)) (sym (yielded_ops p s n ∙ ap (λ b. b.ops ++ yield_of s b.made ∷ []) (list s n)))
    (walked s n w a.ops a.made (scalars_of w es)
    (lists t line es s n w (subscript_numbers (a.ops ++ yield_of s vs ∷ [])) (of_variables w.vars) stands (λ k h. refl) each (λ v h g. ap (is_among v) (yield_subscripts s vs a.ops))))
