-- A scalar variable with no subscripts is no array: its designator faults in the module and in the source.
use Rattle.std.proofs.Common.{◌≡◌, refl, sym, ap, ◌∙◌, subst, ℕ, List, [], ◌∷◌, map, Some, Ok, ℤ, arith}
use Rattle.std.specs.Prelude.{⊤}
use Rattle.std.specs.List.{flat_map}
use Rattle.ws_base.specs.declared.name.Name.{Name}
use Rattle.ws_base.specs.declared.fault.FaultName.TheVariants.{Unallocated as Unallocated'}
use Rattle.ws_base.specs.Outcomes.{Staged, trouble, ◌>>=◌}
use Rattle.ws_space.specs.declared.state.VarState.TheVariants as state
use Rattle.ws_space.specs.declared.state.Var.{Var}
use Rattle.ws_space.specs.Shapes.{dims}
use Rattle.ws_space.specs.Sections.{limited}
use Rattle.ws_tree.specs.Trees.{Subs, end_subs, more_subs}
use Rattle.ws_types.specs.Expressions.{how_many}
use Rattle.hlfir_ops.specs.declared.kinds.Elem.{Elem}
use Rattle.hlfir_ops.specs.declared.kinds.ValueKind.TheVariants as kind
use Rattle.hlfir_ops.specs.declared.what.What.TheVariants as what
use Rattle.hlfir_ops.specs.declared.op.Op.{Op}
use Rattle.hlfir_ops.specs.Trees.{op_of}
use Rattle.hlfir_ops.specs.RulesValues.{elem_of}
use Rattle.hlfir_ops.specs.RulesForms.{section_rank}
use Rattle.hlfir_meaning.specs.Environments.{variable, part, Environment, with_value}
use Rattle.hlfir_meaning.specs.References.{allocated}
use Rattle.hlfir_meaning.specs.Selections.{extents, checked}
use Rattle.hlfir_meaning.specs.Stage1 as walked
use Rattle.hlfir_meaning.specs.Stage1.{stage1}
use Rattle.lower_values.specs.declared.operand.Operand.{Operand}
use Rattle.lower_values.specs.declared.operand.Subscript.{Subscript}
use Rattle.lower_values.specs.Scopes.{Scope}
use Rattle.lower_values.specs.Lowerings.{Lowering, giving, ◌>>=◌ as ◌then◌}
use Rattle.lower_values.specs.References.{sub_kind, sub_values, part_kind, declare_of, box_of, boxed, reference, designated}
use Rattle.lower_values.specs.Values.{part_of, subscripts}
use Rattle.value_laws.specs.Standing.{Goes, Does}
use Rattle.value_laws.proofs.Scalars.{settled-not}
use Rattle.value_laws.proofs.Walking.{goes-op, does-done, does-then, does-scoped}
use Rattle.part_laws.specs.Selects.{selected_by}

module _ (vectors : List ℕ) (s : Scope) (v : Var) (z : ℤ) (holds : v.state ≡ state.Scalar z) where
  abbrev IsScalar : Operand → ⊤ → ℕ → Environment → Type 0
  IsScalar r u m env = env r.value.number ≡ variable v

  abbrev StaysScalar : Operand → List Subscript → ⊤ → ℕ → Environment → Type 0
  StaysScalar r ss u m env = env r.value.number ≡ variable v

  abbrev Never : {A B : Type 0} → A → B → ℕ → Environment → Type 0
  Never x u m env = ⊥

  module _ (n : ℕ) (env : Environment) (r : Operand) (ss : List Subscript) (found : env r.value.number ≡ variable v) where
    abbrev op : Op
    op = op_of (what.Designate (map sub_kind ss)) s.line (r.value ∷ flat_map sub_values ss) (Some (part_kind (elem_of r.kind) (section_rank (map sub_kind ss)))) []

    op_gives : walked.made n env (what.Designate (map sub_kind ss)) (r.value ∷ flat_map sub_values ss) [] ≡ trouble Unallocated'
    op_gives = ap (λ x. walked.designator x (selected_by env ss)) found
        ∙ ap (λ q. allocated q >>= (λ b. checked (dims b.shape) (selected_by env ss) >>= (λ t. limited (extents t) (part v b t)))) holds

    designator_faults : Does vectors s n env (designated r ss) (let none : Staged ⊤ = trouble Unallocated' in none) Never
    unfolding designated giving
    designator_faults = subst (λ q. Goes vectors n env (op ∷ []) q (λ x after. after ≡ with_value n x env))
        (settled-not n env (walked.made n env (what.Designate (map sub_kind ss)) (r.value ∷ flat_map sub_values ss) []) ∙ op_gives)
        (goes-op vectors (what.Designate (map sub_kind ss)) s.line (r.value ∷ flat_map sub_values ss) (Some (part_kind (elem_of r.kind) (section_rank (map sub_kind ss)))) [] n env refl)

  module _ (n : ℕ) (env : Environment) (x : Name) (e : Elem) (named : (declare_of s.names x).kind ≡ kind.Place e) (found : env (declare_of s.names x).value.number ≡ variable v) where
    reference_stays : Does vectors s n env (reference x) (Ok tt) IsScalar
    unfolding reference boxed
    reference_stays = does-scoped (stage1 vectors) s n env (λ q. boxed (declare_of q.names x)) (Ok tt) IsScalar
        (subst (λ k. Does vectors s n env (box_of k (declare_of s.names x)) (Ok tt) IsScalar) (sym named) (does-done (stage1 vectors) s n env (declare_of s.names x) tt IsScalar found))

    abbrev nothing : ⊤ → Staged ⊤
    nothing u = trouble Unallocated'

    no_subscripts : (m : ℕ) (middle : Environment) (r : Operand) → middle r.value.number ≡ variable v → Does vectors s m middle (subscripts r 1 end_subs then designated r) (let none : Staged ⊤ = trouble Unallocated' in none) Never
    no_subscripts m middle r at =
        does-then (stage1 vectors) s m middle (subscripts r 1 end_subs) (designated r) (Ok tt) nothing (StaysScalar r) Never
        (does-done (stage1 vectors) s m middle [] tt (StaysScalar r) at)
        (λ u k after _ kept still. designator_faults k after r (subscripts r 1 end_subs s m).made still)

    none_faults : Does vectors s n env (part_of x (λ r. subscripts r 1 end_subs)) (let none : Staged ⊤ = trouble Unallocated' in none) Never
    unfolding part_of
    none_faults = does-then (stage1 vectors) s n env (reference x) (λ r. subscripts r 1 end_subs then designated r) (Ok tt) nothing IsScalar Never reference_stays
        (λ u m middle at kept still. no_subscripts m middle (reference x s n).made still)

    -- with any more ops after it
    pub scalar-faults : {A B : Type 0} {k : _} (subs : Subs k) → how_many subs ≡ 0 → (q : Operand → Lowering A) (Q : A → B → ℕ → Environment → Type 0) →
        Does vectors s n env (part_of x (λ r. subscripts r 1 subs) then q) (trouble Unallocated') Q
    scalar-faults end_subs few q Q = does-then (stage1 vectors) s n env (part_of x (λ r. subscripts r 1 end_subs)) q (let none : Staged ⊤ = trouble Unallocated' in none) (λ u. trouble Unallocated') Never Q none_faults (λ u m middle at kept never. absurd never)
    scalar-faults (more_subs y ys) few q Q = absurd (omega (arith, few))
