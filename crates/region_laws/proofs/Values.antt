-- The region of an expression means what its source means.
use Rattle.std.proofs.Common.{◌≡◌, refl, sym, ap, ◌∙◌, ℕ, ◌+◌, true, false, List, [], length, Option, Some, None, Ok, Err, ℤ, pos}
use Rattle.ws_base.specs.Outcomes.{Staged}
use Rattle.ws_base.specs.declared.name.Name.{Name}
use Rattle.ws_space.specs.declared.state.VarState.TheVariants as state
use Rattle.ws_space.specs.Shapes.{Extents}
use Rattle.ws_space.specs.Values.{is_among, state_of}
use Rattle.ws_tree.specs.declared.expr.Expr.{Expr}
use Rattle.ws_tree.specs.declared.expr.Expr.TheVariants.{Named}
use Rattle.ws_tree.specs.Grammatical.{IsExpr}
use Rattle.ws_types.specs.declared.types.Row.{Row}
use Rattle.ws_types.specs.Expressions.{faults}
use Rattle.array_meaning.specs.declared.world.World.{World}
use Rattle.array_meaning.specs.declared.term.Term.{Term}
use Rattle.array_meaning.specs.Stage1 as source
use Rattle.array_meaning.specs.Assign as assigned
use Rattle.hlfir_ops.specs.Numbers.{numbers_of}
use Rattle.hlfir_meaning.specs.Environments.{Value, variable, Environment, Yielded, of_variables, result}
use Rattle.hlfir_meaning.specs.Assign.{new_bounds}
use Rattle.hlfir_meaning.specs.Stage1.{subscript_numbers}
use Rattle.kind_laws.proofs.TypedExpressions.{types_are_known}
use Rattle.kind_laws.proofs.ExpressionsMade.{kinds_are_types}
use Rattle.lower_values.specs.declared.operand.Operand.{Operand}
use Rattle.lower_values.specs.References.{variable_of}
use Rattle.lower_values.specs.Scopes.{Scope}
use Rattle.lower_assign.specs.Statements.{yielded}
use Rattle.lower_values.specs.Values.{value}
use Rattle.value_laws.specs.Standing.{Does, Stands}
use Rattle.value_laws.specs.Names.{Agrees}
use Rattle.value_laws.specs.Sound.{IsSound, IsClear}
use Rattle.value_laws.proofs.ClearExpressions.{clear-whole}
use Rattle.value_laws.proofs.Named.{name-rank}
use Rattle.value_laws.proofs.Yielding.{yielded-vectors}
use Rattle.value_laws.proofs.Walking.{same-ok}
use Rattle.sound_laws.proofs.ExpressionsSound.{expression-sound}
use Rattle.part_laws.specs.Lefts.{region_of, Ends}
use Rattle.part_laws.specs.Yielded.{HasValues, IsName, IsNoVariable}
use Rattle.part_laws.proofs.Joined.{expressions-stand}
use Rattle.part_laws.proofs.OnlyNames.{only-names}
use Rattle.part_laws.proofs.Regions.{does-ends}
use Rattle.part_laws.proofs.Yielded.{regions-yield}
use Rattle.world_laws.specs.Meanings.{StandsOutside}
use Rattle.world_laws.specs.Yields.{Yields}
use Rattle.region_laws.proofs.Agreeing.{not-given, state-none, small-ranks, agrees}
use Rattle.region_laws.proofs.Bounds.{IsNamedValue, named-value, named-bounds}

-- ---- what holds of one region's value

no_variable_bounds : (v : Value) (e : Extents) → IsNoVariable v → new_bounds v e ≡ assigned.bounds_from (state.Scalar (pos 0)) e
no_variable_bounds (variable x) e h = absurd h
no_variable_bounds v e h = refl

module _ (s : Scope) (n : ℕ) (w : World) where
  abbrev env : Environment
  env = of_variables w.vars

  abbrev HasBounds : Expr → Yielded → Term → Type 0
  HasBounds e y t = (extents : Extents) → new_bounds (result y) extents ≡ assigned.new_bounds w e extents

  both : (e : Expr) (r : Staged Term) → Ends env (region_of (value e) s n) r HasValues → Ends env (region_of (value e) s n) r (HasBounds e) → Yields w e n (yielded (value e) s n).ops r
  both e (Ok t) h b = (
    h.0,
    h.1,
    record {
      scalar = h.2.scalar;
      operands = h.2.operands_are;
      values = h.2.values_are;
      bounds = λ extents. ap (λ y. new_bounds (result y) extents) (same-ok h.0 b.0 (sym h.1 ∙ b.1)) ∙ b.2 extents;
    },
  )
  both e (Err f) h b = h

  from_one : (e : Expr) (r : Staged Term) → ((extents : Extents) → assigned.new_bounds w e extents ≡ assigned.bounds_from (state.Scalar (pos 0)) extents) →
      Ends env (region_of (value e) s n) r (λ y t. IsNoVariable (result y)) → Ends env (region_of (value e) s n) r (HasBounds e)
  from_one e (Ok t) one h = (h.0, h.1, λ extents. no_variable_bounds (result h.0) extents h.2 ∙ sym (one extents))
  from_one e (Err f) one h = h

  -- ---- bounds

  module _ (agreed : Agrees s.names (length w.vars) w env) (held : (x : Name) → variable_of s.names.variables x ≡ None → state_of w.vars x ≡ state.Scalar (pos 0)) (x : Name) where
    constant_holds : (z : ℤ) (o : Option Operand) → variable_of s.names.variables x ≡ o → source.constant_of w.constants x ≡ Some z → state_of w.vars x ≡ state.Scalar (pos 0)
    constant_holds z (Some d) is constant = absurd (not-given z (sym (agreed.variables x d is).0 ∙ constant))
    constant_holds z None is constant = held x is

    abbrev IsLeft : Operand → Term → ℕ → Environment → Type 0
    IsLeft y t m after = IsNamedValue (after y.value.number) t × (source.walk w (Named x) ≡ Ok t)

    named_left : (vectors : List ℕ) (r : Staged Term) → source.walk w (Named x) ≡ r → Does vectors s n env (value (Named x)) r (λ y t m after. Stands (length w.vars) n m after y t) → Does vectors s n env (value (Named x)) r IsLeft
    named_left vectors (Ok t) is h =
        let a = value (Named x) s n in
        (h.0, h.1, (named-value (length w.vars) n (n + numbers_of a.ops) h.0 a.made t (name-rank s n (length w.vars) env w agreed x) h.2, is))
    named_left vectors (Err f) is h = h

    pub named-ends : Does (subscript_numbers (region_of (value (Named x)) s n).ops) s n env (value (Named x)) (source.walk w (Named x)) (λ y t m after. Stands (length w.vars) n m after y t) →
        Ends env (region_of (value (Named x)) s n) (source.walk w (Named x)) (HasBounds (Named x))
    named-ends h = does-ends s n env (value (Named x)) IsLeft (HasBounds (Named x))
        (λ t m after left extents. named-bounds (after (value (Named x) s n).made.value.number) extents (source.constant_of w.constants x) (state_of w.vars x) t left.1 (λ z is. constant_holds z (variable_of s.names.variables x) refl is) left.0)
        (source.walk w (Named x)) (named_left (subscript_numbers (region_of (value (Named x)) s n).ops) (source.walk w (Named x)) refl h)

-- ---- any expression outside FORALL

module _ (t : List Row) (line : ℕ) (s : Scope) (n : ℕ) (w : World) (h : StandsOutside t s w n) where
  pub sound-outside : (e : Expr) → IsExpr e → faults t false line e ≡ [] → IsSound true s e
  sound-outside e g f = expression-sound types_are_known kinds_are_types t line s h.knows h.no_index e g f

  pub agrees-outside : Agrees s.names (length w.vars) w (of_variables w.vars)
  agrees-outside = agrees s.names w h.world (of_variables w.vars) (λ k low. refl)

  module _ (e : Expr) (sound : IsSound true s e) where
    clear : IsClear (subscript_numbers (region_of (value e) s n).ops) s false n e
    clear = clear-whole (length w.vars) s (λ x d is. (agrees-outside.variables x d is).1.below) true (subscript_numbers (region_of (value e) s n).ops) e n h.declared sound
        (λ k low high. ap (is_among k) (yielded-vectors s n (of_variables w.vars) (value e)))

    values_are : Ends (of_variables w.vars) (region_of (value e) s n) (source.walk w e) HasValues
    values_are = regions-yield (length w.vars) s w (small-ranks s.names w h.world) n (of_variables w.vars) h.declared agrees-outside e sound clear

    not_named : (IsName e → ⊥) → ((extents : Extents) → assigned.new_bounds w e extents ≡ assigned.bounds_from (state.Scalar (pos 0)) extents) → Yields w e n (yielded (value e) s n).ops (source.walk w e)
    not_named unnamed one = both s n w e (source.walk w e) values_are (from_one s n w e (source.walk w e) one
        (only-names (length w.vars) s w (small-ranks s.names w h.world) n (of_variables w.vars) h.declared agrees-outside e unnamed sound clear))

  pub values-mean : (e : Expr) → IsSound true s e → Yields w e n (yielded (value e) s n).ops (source.walk w e)
  values-mean (Named x) sound = both s n w (Named x) (source.walk w (Named x)) (values_are (Named x) sound) (named-ends s n w agrees-outside (state-none s.names w h.world) x
      (expressions-stand (subscript_numbers (region_of (value (Named x)) s n).ops) (length w.vars) s w (small-ranks s.names w h.world) n (of_variables w.vars) h.declared agrees-outside (Named x) sound (clear (Named x) sound)))
  values-mean e sound = not_named e sound (λ named. named) (λ extents. refl)
