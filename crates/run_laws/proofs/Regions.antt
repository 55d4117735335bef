-- The regions of a lowered op, and the variable that it takes.
use Rattle.std.proofs.Common.{◌≡◌, ap, ◌∙◌, ℕ, ◌+◌, List, [], ◌∷◌, length, Some, None, arith, refl}
use Rattle.std.specs.Prelude.{⊤}
use Rattle.ws_space.specs.declared.state.VarState.{VarState}
use Rattle.ws_space.specs.declared.state.Var.{Var}
use Rattle.ws_space.specs.Values.{Name, state_of, with_state}
use Rattle.hlfir_ops.specs.declared.what.What.{What}
use Rattle.hlfir_ops.specs.declared.op.ValueId.{ValueId}
use Rattle.hlfir_ops.specs.declared.op.Op.{Op, out-Op, out-roll-Op}
use Rattle.hlfir_ops.specs.declared.op.Region.{Region}
use Rattle.hlfir_ops.specs.Trees.{op_of, region_of}
use Rattle.hlfir_ops.specs.Numbers.{names_in, numbers_of}
use Rattle.hlfir_meaning.specs.Environments.{variable, of_variables, operand, state_in}
use Rattle.hlfir_meaning.specs.Assign.{with_target}
use Rattle.hlfir_meaning.specs.Statements.{Item, taken_by}
use Rattle.hlfir_meaning.specs.Steps.{first_region}
use Rattle.array_meaning.specs.declared.world.World.{World}
use Rattle.lower_values.specs.declared.names.Names.{Names}
use Rattle.lower_values.specs.declared.operand.Operand.{Operand}
use Rattle.lower_values.specs.Scopes.{Scope, inside}
use Rattle.lower_values.specs.Lowerings.{Lowering, regions_from, holding}
use Rattle.lower_values.specs.References.{variable_of, declare_of, or_nothing}
use Rattle.value_laws.proofs.Ops.{ops_in-first}
use Rattle.world_laws.specs.Worlds.{FitsNames}
use Rattle.world_laws.specs.Yields.{region}
use Rattle.world_laws.proofs.Fitting.{state_fits, refers}

-- the ops of the first region, whose op gives no value and brings no index names there
abbrev pub inner_ops : What → ℕ → Lowering ⊤ → Scope → ℕ → List Op
inner_ops w line p s n = (p (inside w line 0 n s) n).ops

module _ (w : What) (line : ℕ) (os : List ValueId) (p : Lowering ⊤) (ps : List (Lowering ⊤)) (s : Scope) (n : ℕ) where
  -- the regions after the first one
  abbrev pub later_regions : List Region
  later_regions = regions_from w line 1 (n + numbers_of (inner_ops w line p s n)) ps s

  pub holding-first : names_in w 0 ≡ [] → holding w line os None (p ∷ ps) s n ≡ op_of w line os None (region_of (inner_ops w line p s n) ∷ later_regions)
  holding-first none =
      ap (λ m. op_of w line os None (regions_from w line 0 m (p ∷ ps) s)) (let e : n + 0 ≡ n = omega arith in e)
      ∙ (ap (λ names. op_of w line os None (region_of (p (inside w line 0 n s) (n + length names)).ops
      ∷ regions_from w line 1 (n + (length names + numbers_of (p (inside w line 0 n s) (n + length names)).ops)) ps s)) none
      ∙ (ap (λ m. op_of w line os None (region_of (p (inside w line 0 n s) m).ops ∷ regions_from w line 1 (n + (0 + numbers_of (p (inside w line 0 n s) m).ops)) ps s)) (let e : n + 0 ≡ n = omega arith in e)
      ∙ ap (λ m. op_of w line os None (region_of (inner_ops w line p s n) ∷ regions_from w line 1 m ps s)) (let e : n + (0 + numbers_of (inner_ops w line p s n)) ≡ n + numbers_of (inner_ops w line p s n) = omega arith in e)))

  pub holding-region : names_in w 0 ≡ [] → first_region n (out-Op (holding w line os None (p ∷ ps) s n)).regions ≡ region n (inner_ops w line p s n)
  holding-region none =
      ap (λ op. first_region n (out-Op op).regions) (holding-first none)
      ∙ (ap (λ f. first_region n f.regions) (out-roll-Op (record { what = w; line = line; operands = os; kind = None; regions = region_of (inner_ops w line p s n) ∷ later_regions }))
      ∙ ap (region n) (ops_in-first (inner_ops w line p s n) later_regions))

-- ---- the variable that it takes

pub record Takes (vars : List Var) (x : Name) (i : Item) : Type 0 where
  pub state : state_in (taken_by vars i) ≡ state_of vars x
  pub target : (s : VarState) → with_target vars (taken_by vars i) s ≡ with_state vars x s

-- the declare of this name refers to its variable
pub declare_variable : (names : Names) (w : World) (x : Name) (d : Operand) → FitsNames names w → variable_of names.variables x ≡ Some d →
    (v : Var) × (of_variables w.vars (declare_of names x).value.number ≡ variable v) × (v.name ≡ x) × (v.state ≡ state_of w.vars x)
declare_variable names w x d h is =
    let at = state_fits names w x d h is in
    (at.var, ap (λ o. of_variables w.vars (or_nothing o).value.number) is ∙ refers w.vars x d at (of_variables w.vars) (λ k low. refl), at.name, at.state)

module _ (names : Names) (w : World) (x : Name) (d : Operand) (h : FitsNames names w) (is : variable_of names.variables x ≡ Some d) where
  pub takes : (what : What) (line : ℕ) (regions : List Region) (number : ℕ) → Takes w.vars x (record { number = number; op = op_of what line ((declare_of names x).value ∷ []) None regions })
  takes what line regions number =
      let v = declare_variable names w x d h is in
      let i : Item = record { number = number; op = op_of what line ((declare_of names x).value ∷ []) None regions } in
      let taken : taken_by w.vars i ≡ variable v.0 =
      ap (λ f. operand (of_variables w.vars) f.operands) (out-roll-Op (record { what = what; line = line; operands = (declare_of names x).value ∷ []; kind = None; regions = regions })) ∙ v.1 in
      record {
        state = ap state_in taken ∙ v.3;
        target = λ s. ap (λ y. with_target w.vars y s) taken ∙ ap (λ y. with_state w.vars y s) v.2;
      }
